-- Numbers of a fixed size: k octets that are there, or are not.
-- Premises are the callees' `ensures` and the tests as they went. Assumes nothing.
use mathlib.Core.Path.{◌≡◌, refl}
use mathlib.Core.List.{List}
use Prim.Native.Nat.{ℕ, ◌+◌, ◌*◌, ◌-◌, ◌<◌, ◌≤◌}
use native.Mathlib.Omega.{arith}
use lib.ListN.{length, get_or, take, drop}
use Rattle.x696.specs.Outcome.{next}
use Rattle.x696.specs.Digits.{from_digits}
use Rattle.x696.specs.Fewest.{word_in, signed_word}
use Rattle.x696.specs.Integer.{fixed_unsigned, fixed_signed, read_form}
use Rattle.octets.specs.Answers.{fault, number, NumberAnswer}
use Rattle.octets.proofs.CountedRuns.{length_run, run_lacks, run_there}
use Rattle.octets.proofs.Runs.{run_cons}
use Rattle.octets.proofs.Answered.{number_refused, number_found}
use Rattle.std.proofs.Common.{Result, Ok, Err}
use Rattle.octets.specs.declared.faults.Cause.TheVariants.{Short}
use Rattle.octets.specs.declared.faults.Fault.{Fault}
use Rattle.octets.specs.declared.answers.Number.{Number}

-- ---- one octet, and two
module _ (msg : List ℕ) (at k : ℕ) (h : at + k ≤ length msg) where
  pub number_one : k ≡ 1 → get_or msg at 0 ≡ from_digits 8 (take k (drop at msg))
  unfolding from_digits
  number_one e = rw (run_cons msg at k 0 e (omega arith)) (omega arith)

  pub number_two : k ≡ 2 → get_or msg at 0 * 256 + get_or msg (at + 1) 0 ≡ from_digits 8 (take k (drop at msg))
  unfolding from_digits
  number_two e =
      let s = run_cons msg at k 1 e (omega arith) in
      let t = run_cons msg (at + 1) 1 0 refl (omega arith) in
      rw (s, t) (omega arith)

-- ---- k octets
module _ (msg : List ℕ) (at k : ℕ) (h : at ≤ length msg) where
  module _ (l : length msg - at < k) {stop : Fault} (e : stop ≡ fault Short at) where
    pub unsigned_lacks : NumberAnswer msg (read_form (fixed_unsigned k) at (drop at msg)) at (Err stop)
    unfolding read_form next
    unsigned_lacks = number_refused (rw (run_lacks msg at k at h l)) e

    pub signed_lacks : NumberAnswer msg (read_form (fixed_signed k) at (drop at msg)) at (Err stop)
    unfolding read_form next
    signed_lacks = number_refused (rw (run_lacks msg at k at h l)) e

  module _ (l : k ≤ length msg - at) {n : ℕ} (en : n ≡ from_digits 8 (take k (drop at msg))) where
    pub unsigned_there : {r : Result Number Fault} → r ≡ Ok (number n (at + k))
        → NumberAnswer msg (read_form (fixed_unsigned k) at (drop at msg)) at r
    unfolding read_form next
    unsigned_there e = number_found (rw (run_there msg at k at h l, en)) (omega arith) (omega arith) e

    pub signed_there : {r : Result Number Fault} {w : ℕ} → w ≡ word_in k n → r ≡ Ok (number w (at + k))
        → NumberAnswer msg (read_form (fixed_signed k) at (drop at msg)) at r
    unfolding read_form next signed_word
    signed_there ew e =
        number_found
        (rw (run_there msg at k at h l, length_run msg at k (omega arith), ew, en)) (omega arith) (omega arith) e
