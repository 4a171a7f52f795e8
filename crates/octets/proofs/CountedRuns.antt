-- Runs of octets and length determinants: the outcome of `run`, `long_run` and `read_run` from the tests of the code.
-- Assumes nothing.
use mathlib.Core.Path.{◌≡◌, refl, sym, ◌∙◌}
use mathlib.Core.Bool.{Bool, true, false}
use mathlib.Core.List.{List}
use Prim.Native.Nat.{ℕ, ◌+◌, ◌-◌, ◌^◌, ◌<◌, ◌≤◌}
use native.Mathlib.Omega.{arith}
use native.Mathlib.Numerals.{add-one}
use lib.ListN.{length, get_or, take, drop, length-drop, drop_of_length-le}
use lib.Seq.{drop-cons, drop-drop, length-take-le}
use lib.Dec.{leb}
use borrow.Author.Tests.{lt-ltb, le-ltb, le-leb, lt-leb}
use Rattle.x696.specs.Outcome.{Outcome, refused, got, next, must, choose}
use Rattle.x696.proofs.OutcomeLaws.{cases_lt}
use Rattle.x696.specs.Digits.{from_digits}
use Rattle.x696.specs.Fewest.{is_fewest}
use Rattle.x696.proofs.FewestLaws.{fewest_least, is_fewest_length}
use Rattle.x696.specs.Length.{octet, run, read_length, read_run}
use Rattle.octets.specs.Answers.{long_run}

-- ---- one octet
pub octet_past : (s : List ℕ) (at p : ℕ) → length s ≤ at → octet p (drop at s) ≡ refused 5 p
unfolding octet
octet_past s at p h = rw (drop_of_length-le s h)

pub octet_at : (s : List ℕ) (at p : ℕ) → at < length s → octet p (drop at s) ≡ got (get_or s at 0) (drop (at + 1) s)
unfolding octet
octet_at s at p h = rw (drop-cons s at 0 h, add-one at)

-- ---- n octets
pub length_run : (msg : List ℕ) (start k : ℕ) → start + k ≤ length msg → length (take k (drop start msg)) ≡ k
length_run msg start k h = length-take-le k (drop start msg) (omega (arith, length-drop start msg))

module _ (msg : List ℕ) (start n p : ℕ) (h : start ≤ length msg) where
  pub run_lacks : length msg - start < n → run p n (drop start msg) ≡ refused 5 p
  unfolding run must
  run_lacks g = rw (lt-leb n (length (drop start msg)) (omega (arith, length-drop start msg)))

  pub run_there : n ≤ length msg - start
      → run p n (drop start msg) ≡ got (take n (drop start msg)) (drop (start + n) msg)
  unfolding run must
  run_there g = rw (le-leb n (length (drop start msg)) (omega (arith, length-drop start msg)), drop-drop n start msg)

-- ---- the long form, from its k subsequent octets on
pub must_either : {S A : Type 0} (t : Bool) (n p : ℕ) → ◌≡◌ {A = Outcome S A} (must t n p (refused n p)) (refused n p)
unfolding must
must_either true n p = refl
must_either false n p = refl

pub long_none : (p k : ℕ) (s : List ℕ) → k ≡ 0 → long_run p k s ≡ refused 6 p
unfolding long_run must
long_none p k s e = rw e

module _ (msg : List ℕ) (start k p : ℕ) (h : start ≤ length msg) (nz : k ≡ 0 → ⊥) where
  pub long_lacks : length msg - start < k → long_run p k (drop start msg) ≡ refused 5 p
  unfolding long_run must next
  long_lacks l = rw (lt-ltb 0 k (omega arith), run_lacks msg start k p h l)

  module _ (l : k ≤ length msg - start) where
    abbrev N : ℕ
    N = from_digits 8 (take k (drop start msg))

    long_there : long_run p k (drop start msg)
        ≡ must (leb 128 N) 6 p (must (is_fewest 8 (take k (drop start msg))) 6 p (run p N (drop (start + k) msg)))
    unfolding long_run must next
    long_there = rw (lt-ltb 0 k (omega arith), run_there msg start k p h l)

    pub long_low : (n : ℕ) → n ≡ N → n < 128 → long_run p k (drop start msg) ≡ refused 6 p
    unfolding must
    long_low n en m = long_there ∙ rw (← en, lt-leb 128 n m)

    module _ (w : Bool) (ew : w ≡ is_fewest 8 (take k (drop start msg))) where
      pub long_wide : w ≡ false → long_run p k (drop start msg) ≡ refused 6 p
      unfolding must
      long_wide f = long_there ∙ rw (← ew, f) (must_either (leb 128 N) 6 p)

      module _ (f : w ≡ true) where
        -- more than eight octets that are the fewest hold 2 ^ 64 at least
        pub long_huge : length msg < 2 ^ 64 → 8 < k → long_run p k (drop start msg) ≡ refused 5 p
        unfolding must
        long_huge lim m =
            let big : 2 ^ 64 ≤ N =
            cases_lt N (2 ^ 64)
            (λ _ s.
            let e = is_fewest_length 8 (take k (drop start msg)) (sym ew ∙ f) in
            absurd (omega (arith, e, length_run msg start k (omega arith), fewest_least 8 N 7 s)))
            (λ _ s. s) in
            let lacks = run_lacks msg (start + k) N p (omega arith) (omega arith) in
            long_there ∙ rw (le-leb 128 N (omega arith), ← ew, f) lacks

        pub long_goes : (n : ℕ) → n ≡ N → 128 ≤ n → long_run p k (drop start msg) ≡ run p n (drop (start + k) msg)
        unfolding must
        long_goes n en m = long_there ∙ rw (← ew, f, ← en, le-leb 128 n m)

-- ---- a determinant and the octets that it counts
must_next : {S T A B : Type 0} (t : Bool) (n p : ℕ) (o : Outcome S A) (f : A → S → Outcome T B)
    → next (must t n p o) f ≡ must t n p (next o f)
unfolding must next
must_next true n p o f = refl
must_next false n p o f = refl

-- the number judged, then its octets: in one
abbrev canonical : {A : Type 0} → (p : ℕ) → List ℕ → Outcome (List ℕ) A → Outcome (List ℕ) A
canonical p os o = must (leb 128 (from_digits 8 os)) 6 p (must (is_fewest 8 os) 6 p o)

counted_run : (p : ℕ) (o : Outcome (List ℕ) (List ℕ))
    → next (next o λ os r. canonical p os (got (from_digits 8 os) r)) (λ n r. run p n r)
    ≡ next o λ os r. canonical p os (run p (from_digits 8 os) r)
unfolding next
counted_run p (refused j q) = refl
counted_run p (got os r) = rw (must_next, must_next)

module _ (msg : List ℕ) (at p : ℕ) where
  pub read_past : length msg ≤ at → read_run p (drop at msg) ≡ refused 5 p
  unfolding read_run read_length next
  read_past h = rw (octet_past msg at p h)

  module _ (x : ℕ) (h : at < length msg) (ex : x ≡ get_or msg at 0) where
    pub read_short : x < 128 → read_run p (drop at msg) ≡ run p x (drop (at + 1) msg)
    unfolding read_run read_length next choose
    read_short l = rw (octet_at msg at p h, ← ex, lt-ltb x 128 l)

    pub read_long : 128 ≤ x → read_run p (drop at msg) ≡ long_run p (x - 128) (drop (at + 1) msg)
    unfolding read_run read_length long_run choose
    read_long l =
        rw (octet_at msg at p h, ← ex)
        (unfold next in rw (le-ltb x 128 l, must_next, counted_run p (run p (x - 128) (drop (at + 1) msg))))
