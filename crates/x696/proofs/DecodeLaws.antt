-- Decoding into lists with room: the value that it gives is the one that the message holds, or the refusal is the same.
-- And the list of a value that fits is that value's.
-- Assumes nothing.
use Rattle.std.specs.Prelude.{◌≡◌, refl, true, false, ◌&&◌, List, [], ℕ, suc, ◌+◌, ◌*◌, ◌/◌, ◌%◌, ◌<◌, ◌≤◌, drop, leb, eqb}
use Rattle.std.proofs.Math.Path.{ap}
use Rattle.std.proofs.Common.{arith}
use Rattle.std.proofs.Math.ListN.{length}
use Rattle.std.proofs.Math.Seq.{take-append_seam, take_at}
use borrow.Author.Tests.{le-leb, eqb-true, eq-eqb, ne_eqb}
use Rattle.x696.specs.Outcome.{refused, got, must, choose}
use Rattle.x696.proofs.OutcomeLaws.{cases}
use Rattle.x696.specs.Digits.{Below}
use Rattle.x696.specs.Value.{Val, node_width, size, nodes, contents}
use Rattle.x696.specs.Types.{Ty}
use Rattle.x696.specs.Fits.{Fits, plain}
use Rattle.x696.specs.Walk.{list_at}
use Rattle.x696.specs.WellFormed.{WellFormed}
use Rattle.x696.specs.Table.{type_of}
use Rattle.x696.specs.Reply.{refusal, done, then, answer, unless, in_part}
use Rattle.x696.specs.Operations.{node_limit, octet_limit, read_message, walk_list, over}
use Rattle.x696.specs.Operations.{value_in, decodable, decode}
use Rattle.x696.specs.Result.{is_done, decoded}
use Rattle.x696.proofs.AskedLaws.{asked_cases, outcome_cases}
use Rattle.x696.proofs.Unique.{read_message_iff}
use Rattle.x696.proofs.ListLaws.{nodes_length, walk_list_complete}
use Rattle.x696.proofs.ContentsLaws.{contents_length}

-- ---- the list of a value that fits: 10, then 4, else it is that value's
module _ (t : Ty) (w : Val) where
  node_count : length (nodes w) / node_width ≡ size w
  node_count = omega (arith, nodes_length w)

  even : length (nodes w) % node_width ≡ 0
  even = omega (arith, nodes_length w)

  pub list_many : leb (size w) node_limit ≡ false → walk_list 0 t (nodes w) (contents w) ≡ refused 10 0
  unfolding walk_list must
  list_many many = rw (eq-eqb (length (nodes w) % 2) 0 even, node_count, many)

  pub list_long_lem : leb (size w) node_limit ≡ true → leb (length (contents w)) octet_limit ≡ false
      → walk_list 0 t (nodes w) (contents w) ≡ refused 4 0
  unfolding walk_list must
  list_long_lem few long = rw (eq-eqb (length (nodes w) % 2) 0 even, node_count, few, long)

  pub list_walked : Fits t w → WellFormed t → size w ≤ node_limit → length (contents w) ≤ octet_limit
      → walk_list 0 t (nodes w) (contents w) ≡ got w (list_at [] [] (size w))
  list_walked f g few short =
      walk_list_complete 0 0 t (nodes w) (contents w) w _ g tt (plain f, refl, refl, few, short, refl)

-- ---- decoding
-- a number or a part that is not 0 is not DONE
test_fails : (n q : ℕ) → 0 < n + q → eqb q 0 && eqb n 0 ≡ false
test_fails n q h =
    cases (eqb q 0)
    (λ e. let z = eqb-true q 0 e in rw (e, ne_eqb n 0 (λ o. omega arith)))
    (λ e. rw e)

module _ (rows items : List ℕ) (r : ℕ) (s ns os : List ℕ) where
  abbrev Same : Type 0
  Same = decoded (type_of rows items r) (decode rows items r s ns os) ≡ value_in rows items r s

  decoded_none : (n q z : ℕ) → value_in rows items r s ≡ refusal n q z → 0 < n + q → Same
  unfolding decoded decode decodable then answer is_done choose
  decoded_none n q z e h = rw (e, test_fails n q h)

  decoded_value : (v : Val) → value_in rows items r s ≡ done v → Fits (type_of rows items r) v
      → WellFormed (type_of rows items r) → size v ≤ node_limit → length (contents v) ≤ octet_limit
      → node_limit * node_width ≤ length ns → octet_limit ≤ length os → Same
  unfolding decoded decode decodable then answer unless is_done choose in_part over
  decoded_value v e f g few short room room' =
      rw (
        e,
        le-leb (size v * 2) (length ns) (omega arith),
        le-leb (length (contents v)) (length os) (omega arith),
        take_at (nodes v) (drop (length (nodes v)) ns) (size v * 2) (nodes_length v),
        take-append_seam (contents v) (drop (length (contents v)) os),
        list_walked (type_of rows items r) v f g few short,
      )

  pub decode_answers : Below 64 items → Below 8 s → node_limit * node_width ≤ length ns → octet_limit ≤ length os → Same
  unfolding value_in then in_part
  decode_answers words octets room room' =
      let t = type_of rows items r in
      asked_cases rows items r words
      (λ k z e. decoded_none (suc k) 0 z (rw e) (omega arith))
      λ g usable.
      outcome_cases (read_message t s)
      (λ n z e. decoded_none n 1 z (rw (usable, e)) (omega arith))
      λ v end e.
      let (f, whole, few, short, rest) = (read_message_iff t s v end octets).0 e in
      let short' : length (contents v) ≤ octet_limit = omega (arith, short, ap length whole, contents_length f) in
      decoded_value v (rw (usable, e)) f g few short' room room'
