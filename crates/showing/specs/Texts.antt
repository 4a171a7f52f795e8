-- A text as the code has it: the part of the message, by its two ends, or nothing to show.
-- Assumes nothing.
use Rattle.std.specs.Prelude.{◌≡◌, cond, List, ℕ, ◌-◌, ◌≤◌, length, eqb}
use Rattle.x696.specs.Bits.{bit_octets}
use Rattle.x696.specs.Setting.{Shown as Meant, fallback, part_of}
use Rattle.std.specs.Prelude.{Option, Some, None}
use Rattle.showing.specs.declared.texts.Part.{Part}

-- the octets that a string's contents fill: a BIT STRING's number counts bits
unfoldable pub contents_size : (kind number : ℕ) → ℕ
contents_size k n = cond (eqb k 8) (bit_octets n) n

pub record PartOf (msg : List ℕ) (s : Meant) (p : Part) : Type 0 where
  pub is : s ≡ part_of p.start (p.end - p.start)
  pub ordered : p.start ≤ p.end
  pub inside : p.end ≤ length msg

pub record TextAnswer (msg : List ℕ) (s : Meant) (r : Option Part) : Type 0 where
  pub shown : (p : Part) → r ≡ Some p → PartOf msg s p
  pub nothing : r ≡ None → s ≡ fallback
