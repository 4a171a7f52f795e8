-- What an edit touches of a message's octets: the component's own, and before them at most one bit of one octet.
-- Assumes nothing.
use Rattle.std.specs.Prelude.{◌≡◌, ◌≢◌, List, ◌++◌, ℕ, length}
use Rattle.octets.specs.Presence.{bit_at}

-- octets of one length that differ at most in one bit; bits are numbered through all octets, from the top of the first
pub record OneBit (which : ℕ) (old new : List ℕ) : Type 0 where
  pub aligned : length new ≡ length old
  pub others : (c : ℕ) → c ≢ which → bit_at new 0 c ≡ bit_at old 0 c

-- own and own' are the component's octets in the messages s and s'; what stands behind them is the same
pub record Touched (which : ℕ) (s s' own own' : List ℕ) : Type 0 where
  pub before : List ℕ
  pub before' : List ℕ
  pub after : List ℕ
  pub was : s ≡ before ++ (own ++ after)
  pub is : s' ≡ before' ++ (own' ++ after)
  pub bit : OneBit which before before'
