-- BIT STRING: the answer of its readers, one law for each way out.
-- Premises are the callees' `ensures` and the tests as they went. Assumes nothing.
use mathlib.Core.Path.{◌≡◌, ◌∙◌}
use mathlib.Core.Bool.{Bool, true, false}
use mathlib.Core.List.{List, [], ◌∷◌}
use Prim.Native.Nat.{ℕ, suc, ◌+◌, ◌*◌, ◌-◌, ◌<◌, ◌≤◌}
use native.Mathlib.Nat.{mul_comm}
use native.Mathlib.Numerals.{add-one}
use native.Mathlib.Omega.{arith}
use lib.ListN.{length, get_or, take, drop}
use lib.Seq.{sets, drop-cons}
use lib.Dec.{ltb, leb}
use borrow.Author.Tests.{lt-ltb, le-ltb, le-leb, lt-leb}
use Rattle.x696.specs.Outcome.{refused, got, next, must, choose}
use Rattle.x696.specs.Length.{read_run}
use Rattle.x696.specs.Bits.{bit_octets, unused_bits, low_bits_clear}
use Rattle.x696.specs.String.{fixed_size, size_allowed, read_fixed_bits, bits_in, read_bit_string}
use Rattle.x696.specs.Value.{node, no_values}
use Rattle.x696.specs.Leaf.{bit_string, read_leaf}
use Rattle.octets.specs.Answers.{RunAnswer}
use Rattle.octets.specs.declared.faults.Fault.{Fault}
use Rattle.octets.specs.declared.answers.Piece.{Piece}
use Rattle.octets.proofs.CountedRuns.{length_run, run_lacks, run_there}
use Rattle.kinds.specs.Run.{cursor, Ran, leaf_at, in_message, fixed_bits_at, bits_run_at}
use Rattle.kinds.proofs.Ran.{leaf_is, ran_leaf}
use Rattle.std.proofs.Common.{Result, Ok, Err}
use Rattle.octets.specs.Cause.{code_of}
use Rattle.kinds.specs.declared.cursor.Cursor.{Cursor}

-- ---- a fixed size s: n octets, u bits of them unused
module _ (s : ℕ) (msg : List ℕ) (at count : ℕ) (h : at ≤ length msg) {n : ℕ} (en : n ≡ bit_octets s) where
  pub fixed_lacks : length msg - at < n → fixed_bits_at s msg at count ≡ refused 5 at
  unfolding fixed_bits_at read_fixed_bits next
  fixed_lacks l = rw (run_lacks msg at (bit_octets s) at h (omega arith))

  module _ (l : n ≤ length msg - at) {u : ℕ} (eu : u ≡ unused_bits s) {v : Bool}
      (ev : v ≡ low_bits_clear u (take n (drop at msg))) where
    clear_is : v ≡ low_bits_clear (unused_bits s) (take (bit_octets s) (drop at msg))
    clear_is = rw (eu, en) at ev

    pub fixed_unclear : v ≡ false → fixed_bits_at s msg at count ≡ refused 6 at
    unfolding fixed_bits_at read_fixed_bits next must
    fixed_unclear t = rw (run_there msg at (bit_octets s) at h (omega arith), ← clear_is, t)

    pub fixed_goes : {used : ℕ} {ns cs ns' cs' : List ℕ} {r : Result Cursor Fault} → v ≡ true → ns' ≡ sets ns (count * 2) (8 ∷ s ∷ [])
        → cs' ≡ sets cs used (take n (drop at msg)) → r ≡ Ok (cursor (at + n) (count + 1) (used + n) s)
        → Ran msg (fixed_bits_at s msg at count) at count used ns cs ns' cs' r
    unfolding fixed_bits_at read_fixed_bits next must
    fixed_goes {used} {ns} {cs} t stored copied q =
        let len = length_run msg at n (omega arith) in
        ran_leaf msg at (at + n) count used ns cs 8 s (take n (drop at msg))
        (rw (en, run_there msg at (bit_octets s) at h (omega arith), ← clear_is, t))
        (omega arith) (omega (arith, len)) (omega (arith, len)) stored copied q

-- ---- the n octets that a determinant counts: the unused-bits octet u, then the contents
run_cons : (msg : List ℕ) (start n : ℕ) → (n ≡ 0 → ⊥) → start + n ≤ length msg
    → take n (drop start msg) ≡ get_or msg start 0 ∷ take (n - 1) (drop (start + 1) msg)
run_cons msg start n z h = go (n - 1) (omega arith)
  where
    go : (k : ℕ) → n ≡ suc k → take n (drop start msg) ≡ get_or msg start 0 ∷ take k (drop (start + 1) msg)
    go k e = rw (e, drop-cons msg start 0 (omega arith), add-one start)

module _ (f a b : ℕ) (msg : List ℕ) (at start n count : ℕ) where
  pub bits_none : n ≡ 0 → bits_run_at f a b msg at start n count ≡ refused 6 at
  unfolding bits_run_at bits_in next must
  bits_none e = rw e

  module _ (z : n ≡ 0 → ⊥) (h : start + n ≤ length msg) {u : ℕ} (eu : u ≡ get_or msg start 0) where
    abbrev Os : List ℕ
    Os = take (n - 1) (drop (start + 1) msg)

    len : length Os ≡ n - 1
    len = length_run msg (start + 1) (n - 1) (omega arith)

    bits_are : bits_run_at f a b msg at start n count
        ≡ in_message (must (ltb u 8) 6 at (must (leb u ((n - 1) * 8)) 6 at (must (low_bits_clear u Os) 6 at
        (must (size_allowed f a b ((n - 1) * 8 - u)) 7 at
        (got (node 8 ((n - 1) * 8 - u) Os no_values) (drop (start + n) msg)))))) count
    unfolding bits_run_at bits_in must
    bits_are =
        rw (run_cons msg start n z h, ← eu, len, mul_comm 8 (n - 1), lt-ltb 0 (suc (n - 1)) (omega arith))

    pub bits_wide : 7 < u → bits_run_at f a b msg at start n count ≡ refused 6 at
    unfolding next must
    bits_wide l = bits_are ∙ rw (le-ltb u 8 (omega arith))

    module _ (l : u ≤ 7) where
      pub bits_lone : (n - 1) * 8 < u → bits_run_at f a b msg at start n count ≡ refused 6 at
      unfolding next must
      bits_lone g = bits_are ∙ rw (lt-ltb u 8 (omega arith), lt-leb u ((n - 1) * 8) g)

      module _ (g : u ≤ (n - 1) * 8) {v : Bool} (ev : v ≡ low_bits_clear u Os) where
        pub bits_unclear : v ≡ false → bits_run_at f a b msg at start n count ≡ refused 6 at
        unfolding next must
        bits_unclear t = bits_are ∙ rw (lt-ltb u 8 (omega arith), le-leb u ((n - 1) * 8) g, ← ev, t)

        module _ (t : v ≡ true) {w : Bool} (ew : w ≡ size_allowed f a b ((n - 1) * 8 - u)) where
          pub bits_unsized : w ≡ false → bits_run_at f a b msg at start n count ≡ refused 7 at
          unfolding next must
          bits_unsized q = bits_are ∙ rw (lt-ltb u 8 (omega arith), le-leb u ((n - 1) * 8) g, ← ev, t, ← ew, q)

          pub bits_go : {used : ℕ} {ns cs ns' cs' : List ℕ} {r : Result Cursor Fault} → at ≤ start → w ≡ true
              → ns' ≡ sets ns (count * 2) (8 ∷ ((n - 1) * 8 - u) ∷ []) → cs' ≡ sets cs used Os
              → r ≡ Ok (cursor (start + n) (count + 1) (used + (n - 1)) ((n - 1) * 8 - u))
              → Ran msg (bits_run_at f a b msg at start n count) at count used ns cs ns' cs' r
          unfolding next must
          bits_go {used} {ns} {cs} m q stored copied e =
              ran_leaf msg at (start + n) count used ns cs 8 ((n - 1) * 8 - u) Os
              (bits_are ∙ rw (lt-ltb u 8 (omega arith), le-leb u ((n - 1) * 8) g, ← ev, t, ← ew, q))
              h (omega (arith, len)) (omega (arith, len)) stored copied e

-- ---- by the size, fixed or not
module _ (f a b : ℕ) (msg : List ℕ) (at count : ℕ) (h : at ≤ length msg) {t : Bool} (et : t ≡ fixed_size f a b) where
  pub bits_fixed : t ≡ true → leaf_at (bit_string f a b) msg at count ≡ fixed_bits_at a msg at count
  unfolding read_leaf read_bit_string choose fixed_bits_at
  bits_fixed q = leaf_is (bit_string f a b) msg at count h ∙ rw (← et, q)

  module _ (q : t ≡ false) {x : Result Piece Fault} (w : RunAnswer msg (read_run at (drop at msg)) at x) where
    pub bits_stop : (y : Fault) → x ≡ Err y → leaf_at (bit_string f a b) msg at count ≡ refused (code_of y.cause) y.place
    unfolding read_leaf read_bit_string choose next
    bits_stop y e = leaf_is (bit_string f a b) msg at count h ∙ rw (← et, q, w.stopped y e)

    pub bits_counted : (y : Piece) → x ≡ Ok y
        → leaf_at (bit_string f a b) msg at count ≡ bits_run_at f a b msg at y.start y.length.0 count
    unfolding read_leaf read_bit_string choose next bits_run_at
    bits_counted y e = leaf_is (bit_string f a b) msg at count h ∙ rw (← et, q, (w.went y e).reads)
