-- A setting's word is the number of its value: the two's complement word and the bits come back as they were read. What
-- the premises ask, each value of its type has.
-- Assumes nothing.
use mathlib.Core.Path.{◌≡◌, refl, ap}
use mathlib.Core.Bool.{true}
use Prim.Native.Nat.{ℕ, zero, suc, ◌<◌, ◌^◌}
use native.Mathlib.Omega.{arith}
use Rattle.x696.specs.Real.{real_allowed, binary32, binary64}
use Rattle.x696.specs.Setting.{truth, signed_number, single, double}
use Rattle.showing.specs.Settings.{setting_as}
use Rattle.showing.specs.Flat.{flat_of, there_flat}
use Rattle.showing.proofs.Floats.{word_back, single_back, double_back}

pub flat_truth : (n : ℕ) → n < 2 → flat_of (setting_as (truth n)) ≡ there_flat 2 n
unfolding flat_of setting_as
flat_truth zero h = refl
flat_truth (suc zero) h = refl
flat_truth (suc (suc n)) h = absurd (omega arith)

pub flat_signed : (n : ℕ) → n < 2 ^ 64 → flat_of (setting_as (signed_number n)) ≡ there_flat 4 n
unfolding flat_of setting_as
flat_signed n h = ap (there_flat 4) (word_back n h)

pub flat_single : (n : ℕ) → n < 2 ^ 32 → real_allowed binary32 n ≡ true
    → flat_of (setting_as (single n)) ≡ there_flat 5 n
unfolding flat_of setting_as
flat_single n h a = ap (there_flat 5) (single_back n h a)

pub flat_double : (n : ℕ) → n < 2 ^ 64 → real_allowed binary64 n ≡ true
    → flat_of (setting_as (double n)) ≡ there_flat 6 n
unfolding flat_of setting_as
flat_double n h a = ap (there_flat 6) (double_back n h a)
