-- An edit comes to what the longer road comes to.
-- Assumes nothing.
use Rattle.std.specs.Prelude.{◌≡◌, List, ℕ, suc, ◌*◌, ◌≤◌, length, leb}
use Rattle.std.proofs.Math.Path.{refl}
use Rattle.std.proofs.Common.{arith}
use borrow.Author.Tests.{leb-true, leb-false, lt-leb}
use Rattle.x696.specs.Outcome.{got}
use Rattle.x696.proofs.OutcomeLaws.{cases}
use Rattle.x696.specs.Digits.{Below}
use Rattle.x696.specs.Value.{Val, node_width, size, nodes, contents}
use Rattle.x696.specs.Types.{Ty}
use Rattle.x696.specs.Fits.{Fits}
use Rattle.x696.specs.Encode.{encode}
use Rattle.x696.specs.Read.{Message}
use Rattle.x696.specs.WellFormed.{WellFormed}
use Rattle.x696.specs.Table.{type_of}
use Rattle.x696.specs.Path.{Found, nowhere, found, find, replace}
use Rattle.x696.specs.Reply.{refusal_reply, done, then, answer, unless, in_part}
use Rattle.x696.specs.Operations.{node_limit, octet_limit, asked, read_message, walk_list, result_fits}
use Rattle.x696.specs.Operations.{value_in, octets_for, Written, written, encode_list}
use Rattle.x696.specs.Editing.{place_of, edited, edit}
use Rattle.x696.specs.LongerRoad.{swapped, longer_road, SameResult}
use Rattle.x696.proofs.AskedLaws.{asked_cases, outcome_cases}
use Rattle.x696.proofs.EditLaws.{Finished, AtFound, edit_table, edit_message, edit_found}
use Rattle.x696.proofs.DecodeLaws.{list_many, list_long_lem, list_walked, decode_answers}
use Rattle.x696.proofs.Unique.{read_message_iff}
use Rattle.x696.proofs.ListLaws.{walk_list_sound}
use Rattle.x696.proofs.ContentsLaws.{contents_length}
use Rattle.x696.proofs.PathLaws.{replace_fits}
use Rattle.x696.proofs.PathTypes.{find_formed}

same_result : {a b : Written} → a ≡ b → SameResult a b
same_result {a} {b} e = rw e (record { number = refl; out = refl; reply = λ h g. refl })

-- ---- the last steps of the edit, and of the road: 10, 4, 12
module _ (rows items : List ℕ) (r : ℕ) (t : Ty) (usable : asked rows items r ≡ done t) (out : List ℕ) where
  encoded_same : (w : Val) → Fits t w → WellFormed t
      → SameResult (Finished t w out) (encode_list rows items r (nodes w) (contents w) out)
  unfolding encode_list octets_for then unless result_fits in_part written answer
  encoded_same w f g =
      cases (leb (size w) node_limit)
      (λ few.
      cases (leb (length (contents w)) octet_limit)
      (λ short.
      let few' = leb-true (size w) node_limit few in
      let short' = leb-true (length (contents w)) octet_limit short in
      same_result (rw (few, usable, list_walked t w f g few' short')))
      (λ long.
      let above = leb-false (length (contents w)) octet_limit long in
      let long' = lt-leb (length (encode t w)) octet_limit (omega (arith, above, contents_length f)) in
      rw (few, long', usable, list_long_lem t w few long) (record {
        number = refl;
        out = refl;
        reply = λ h g. absurd (g refl);
      })))
      (λ many.
      rw (many, usable, list_many t w many) (record { number = refl; out = refl; reply = λ h g. absurd (h refl) }))

-- ---- the road, with what the path found in the value that was decoded
module _ (rows items : List ℕ) (r : ℕ) (s p ws cs out : List ℕ) (t : Ty) (v : Val) where
  abbrev RoadFound : Found → Written
  RoadFound f =
      answer (then (place_of t v f) λ c. then (in_part 2 (walk_list c.mark c.its ws cs)) λ y. done (replace p y v))
      (λ n q z. record { reply = refusal_reply n q z; out = out })
      λ w. encode_list rows items r (nodes w) (contents w) out

  found_same : (usable : asked rows items r ≡ done t) (end : Message) (e : read_message t s ≡ got v end) → Fits t v
      → WellFormed t → Below 64 ws → Below 8 cs → (h : Found) → find t v p ≡ h
      → SameResult (AtFound rows items r s p ws cs out t usable v end e h) (RoadFound h)
  unfolding place_of then answer written in_part edited
  found_same usable end e f g words octets (nowhere n) q = same_result refl
  found_same usable end e f g words octets (found m d u x) q =
      let (gu, gd) = find_formed t v p q g in
      outcome_cases (walk_list m u ws cs)
      (λ n z refuses. same_result (rw refuses))
      λ y l walked.
      let new = (walk_list_sound m d u ws cs y l gu words octets walked).0 in
      rw walked (encoded_same rows items r t usable out (replace p y v) (replace_fits t v p q f y new) g)

-- words and octets are such by their types; the lent lists have room for the largest value
pub longer_road_lem : (rows items : List ℕ) (r : ℕ) (s ns os p ws cs out : List ℕ) → Below 64 items → Below 8 s
    → Below 64 ws → Below 8 cs → node_limit * node_width ≤ length ns → octet_limit ≤ length os
    → SameResult (edit rows items r s p ws cs out) (longer_road rows items r s ns os p ws cs out)
unfolding longer_road swapped value_in then in_part answer written
longer_road_lem rows items r s ns os p ws cs out words octets words' octets' room room' =
    let t = type_of rows items r in
    rw (decode_answers rows items r s ns os words octets room room')
    (asked_cases rows items r words
    (λ k z e. same_result (rw (edit_table rows items r s p ws cs out (suc k) 0 z e, e)))
    λ g usable.
    outcome_cases (read_message t s)
    (λ n z e. same_result (rw (edit_message rows items r s p ws cs out t usable n z e, usable, e)))
    λ v end e.
    let f = ((read_message_iff t s v end octets).0 e).0 in
    rw (edit_found rows items r s p ws cs out t usable v end e, usable, e)
    (found_same rows items r s p ws cs out t v usable end e f g words' octets' (find t v p) refl))
