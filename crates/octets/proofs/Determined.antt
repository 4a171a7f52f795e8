-- Variable-size numbers and ENUMERATED: the outcome of their definitions from the tests of the code.
-- Assumes nothing.
use mathlib.Core.Path.{◌≡◌, refl, sym, ◌∙◌}
use mathlib.Core.Bool.{Bool, true, false}
use mathlib.Core.List.{List}
use Prim.Native.Nat.{ℕ, ◌+◌, ◌-◌, ◌*◌, ◌^◌, ◌<◌, ◌≤◌}
use native.Mathlib.Omega.{arith}
use lib.ListN.{length, get_or, take, drop}
use lib.Seq.{drop-cons}
use lib.Dec.{ltb, leb}
use lib.Pow.{pow_mono}
use borrow.Author.Tests.{lt-ltb, le-ltb, le-leb, lt-leb, leb-false, eqb-true, ne_eqb}
use Rattle.x696.specs.Outcome.{Outcome, refused, got, next, must, choose}
use Rattle.x696.proofs.OutcomeLaws.{cases, cases_lt}
use Rattle.x696.specs.Digits.{from_digits}
use Rattle.x696.specs.Fewest.{fewest, is_fewest, magnitude_in, is_fewest_signed, word_in, signed_word}
use Rattle.x696.proofs.FewestLaws.{fewest_pos, fewest_least, is_fewest_length}
use Rattle.x696.specs.Length.{read_run}
use Rattle.x696.specs.Variable.{read_unsigned, read_signed}
use Rattle.x696.specs.Enumerated.{read_enumerated}
use Rattle.octets.specs.Answers.{RunAnswer, NumberAnswer, unsigned_in, signed_in, long_number}
use Rattle.std.proofs.Common.{Result, Ok, Err}
use Rattle.octets.specs.declared.answers.Piece.{Piece}
use Rattle.octets.specs.declared.answers.Number.{Number}
use Rattle.octets.specs.declared.faults.Fault.{Fault}
use Rattle.octets.specs.declared.answers.Piece.{Piece}
use Rattle.octets.proofs.Answered.{next_refused, next_got, number_fault, number_from}
use Rattle.octets.proofs.CountedRuns.{octet_past, octet_at, length_run, run_lacks, run_there, must_either}

-- ---- the number v in k octets: at least one, the fewest (t), at most eight
module _ (os r : List ℕ) (t : Bool) (k p v : ℕ) (len : length os ≡ k) where
  abbrev Judged : Outcome (List ℕ) ℕ
  Judged = must (ltb 0 (length os)) 6 p (must t 6 p (must (leb (length os) 8) 8 p (got v r)))

  judged_wide : t ≡ false → Judged ≡ refused 6 p
  unfolding must
  judged_wide f = rw f (must_either (ltb 0 (length os)) 6 p)

  judged_long : t ≡ true → 8 < k → Judged ≡ refused 8 p
  unfolding must
  judged_long f h = rw (len, lt-ltb 0 k (omega arith), f, lt-leb k 8 h)

  judged_good : t ≡ true → 1 ≤ k → k ≤ 8 → Judged ≡ got v r
  unfolding must
  judged_good f g h = rw (len, lt-ltb 0 k g, f, le-leb k 8 h)

-- octets that are the fewest are at least one
unsigned_some : (os : List ℕ) → is_fewest 8 os ≡ true → 1 ≤ length os
unsigned_some os e = omega (arith, is_fewest_length 8 os e, fewest_pos 8 (from_digits 8 os))

signed_some : (os : List ℕ) → is_fewest_signed os ≡ true → 1 ≤ length os
unfolding is_fewest_signed
signed_some os e =
    let m = 2 * magnitude_in (length os) (from_digits 8 os) in
    omega (arith, eqb-true (length os) (fewest 8 m) e, fewest_pos 8 m)

module _ (msg : List ℕ) (start k p : ℕ) (h : start + k ≤ length msg) (w : Bool) where
  abbrev Os : List ℕ
  Os = take k (drop start msg)

  abbrev Rest : List ℕ
  Rest = drop (start + k) msg

  len : length Os ≡ k
  len = length_run msg start k h

  module _ (ew : w ≡ is_fewest 8 Os) where
    pub unsigned_wide : w ≡ false → unsigned_in p Os Rest ≡ refused 6 p
    unfolding unsigned_in
    unsigned_wide f = judged_wide Os Rest _ k p _ len (sym ew ∙ f)

    pub unsigned_long : w ≡ true → 8 < k → unsigned_in p Os Rest ≡ refused 8 p
    unfolding unsigned_in
    unsigned_long f = judged_long Os Rest _ k p _ len (sym ew ∙ f)

    pub unsigned_good : (n : ℕ) → w ≡ true → k ≤ 8 → n ≡ from_digits 8 Os → unsigned_in p Os Rest ≡ got n Rest
    unfolding unsigned_in
    unsigned_good n f g e =
        let some : 1 ≤ k = omega (arith, len, unsigned_some Os (sym ew ∙ f)) in
        rw e (judged_good Os Rest _ k p _ len (sym ew ∙ f) some g)

  module _ (ew : w ≡ is_fewest_signed Os) where
    pub signed_wide : w ≡ false → signed_in p Os Rest ≡ refused 6 p
    unfolding signed_in
    signed_wide f = judged_wide Os Rest _ k p _ len (sym ew ∙ f)

    pub signed_long : w ≡ true → 8 < k → signed_in p Os Rest ≡ refused 8 p
    unfolding signed_in
    signed_long f = judged_long Os Rest _ k p _ len (sym ew ∙ f)

    module _ (f : w ≡ true) where
      pub signed_one : 1 ≤ k
      signed_one = omega (arith, len, signed_some Os (sym ew ∙ f))

      pub signed_good : (n x : ℕ) → k ≤ 8 → n ≡ from_digits 8 Os → x ≡ word_in k n → signed_in p Os Rest ≡ got x Rest
      unfolding signed_in signed_word
      signed_good n x g e ex =
          judged_good Os Rest _ k p _ len (sym ew ∙ f) signed_one g ∙ rw (len, ← e, ← ex)

-- ---- the number that a determinant counts
module _ (msg : List ℕ) (at p : ℕ) {x : Result Piece Fault} (w : RunAnswer msg (read_run p (drop at msg)) at x) where
  pub unsigned_stop : (f : Fault) → x ≡ Err f → NumberAnswer msg (read_unsigned p (drop at msg)) at (Err f)
  unfolding read_unsigned
  unsigned_stop f e = number_fault f (next_refused _ (w.stopped f e))

  pub signed_stop : (f : Fault) → x ≡ Err f → NumberAnswer msg (read_signed p (drop at msg)) at (Err f)
  unfolding read_signed
  signed_stop f e = number_fault f (next_refused _ (w.stopped f e))

  module _ (y : Piece) (e : x ≡ Ok y) where
    abbrev Counted : List ℕ
    Counted = take y.length.0 (drop y.start msg)

    abbrev After : List ℕ
    After = drop (y.start + y.length.0) msg

    pub unsigned_goes : {r : Result Number Fault} → NumberAnswer msg (unsigned_in p Counted After) y.start r
        → NumberAnswer msg (read_unsigned p (drop at msg)) at r
    unfolding read_unsigned unsigned_in
    unsigned_goes = number_from (next_got _ (w.went y e).reads) (w.went y e).ahead

    pub signed_goes : {r : Result Number Fault} → NumberAnswer msg (signed_in p Counted After) y.start r
        → NumberAnswer msg (read_signed p (drop at msg)) at r
    unfolding read_signed signed_in
    signed_goes = number_from (next_got _ (w.went y e).reads) (w.went y e).ahead

-- ---- ENUMERATED
pub number_none : (p k : ℕ) (s : List ℕ) → k ≡ 0 → long_number p k s ≡ refused 6 p
unfolding long_number must
number_none p k s e = rw e

-- a number below 128 has its one octet, and no other is the fewest
low_wide : (os : List ℕ) → 2 ≤ length os → from_digits 8 os < 128 → is_fewest_signed os ≡ false
unfolding is_fewest_signed magnitude_in
low_wide os h l =
    let le : 2 ^ 8 ≤ 2 ^ (8 * length os) = pow_mono {i = 8} (omega arith) in
    let few = fewest_least 8 (2 * from_digits 8 os) 0 (omega arith) in
    rw (lt-ltb (2 * from_digits 8 os) (2 ^ (8 * length os)) (omega arith))
    (ne_eqb (length os) (fewest 8 (2 * from_digits 8 os)) (λ e. omega (arith, e)))

module _ (msg : List ℕ) (start k p : ℕ) (h : start ≤ length msg) (nz : k ≡ 0 → ⊥) where
  pub number_lacks : length msg - start < k → long_number p k (drop start msg) ≡ refused 5 p
  unfolding long_number must next
  number_lacks l = rw (lt-ltb 0 k (omega arith), run_lacks msg start k p h l)

  module _ (l : k ≤ length msg - start) where
    abbrev N : ℕ
    N = from_digits 8 (take k (drop start msg))

    one_number : k ≡ 1 → N ≡ get_or msg start 0
    unfolding from_digits
    one_number e = rw (e, drop-cons msg start 0 (omega arith)) (omega arith)

    number_there : long_number p k (drop start msg)
        ≡ must (leb 128 N) 6 p (signed_in p (take k (drop start msg)) (drop (start + k) msg))
    unfolding long_number signed_in must next
    number_there =
        let some = lt-ltb 0 k (omega arith) in
        rw (some, run_there msg start k p h l, length_run msg start k (omega arith), some)

    pub number_low : (x : ℕ) → k ≡ 1 → x ≡ get_or msg start 0 → x < 128 → long_number p k (drop start msg) ≡ refused 6 p
    unfolding must
    number_low x e ex m = number_there ∙ rw (lt-leb 128 N (omega (arith, one_number e)))

    pub number_goes : (k ≡ 1 → 128 ≤ get_or msg start 0)
        → long_number p k (drop start msg) ≡ signed_in p (take k (drop start msg)) (drop (start + k) msg)
    unfolding must
    number_goes f =
        cases (leb 128 N)
        (λ e. number_there ∙ rw e)
        (λ e.
        let m : N < 128 = leb-false 128 N e in
        let len = length_run msg start k (omega arith) in
        let two : 2 ≤ k =
        cases_lt k 2
        (λ _ s. let o : k ≡ 1 = omega arith in absurd (omega (arith, f o, one_number o)))
        (λ _ s. s) in
        let wide = low_wide (take k (drop start msg)) (omega arith) m in
        number_there ∙ rw e (sym (signed_wide msg start k p (omega arith) false (sym wide) refl)))

module _ (msg : List ℕ) (at p : ℕ) where
  pub enumerated_past : length msg ≤ at → read_enumerated p (drop at msg) ≡ refused 5 p
  unfolding read_enumerated next
  enumerated_past h = rw (octet_past msg at p h)

  module _ (x : ℕ) (h : at < length msg) (ex : x ≡ get_or msg at 0) where
    pub enumerated_short : x < 128 → read_enumerated p (drop at msg) ≡ got x (drop (at + 1) msg)
    unfolding read_enumerated next choose
    enumerated_short l = rw (octet_at msg at p h, ← ex, lt-ltb x 128 l)

    pub enumerated_long : 128 ≤ x → read_enumerated p (drop at msg) ≡ long_number p (x - 128) (drop (at + 1) msg)
    unfolding read_enumerated long_number choose
    enumerated_long l = rw (octet_at msg at p h, ← ex) (unfold next in rw (le-ltb x 128 l))
