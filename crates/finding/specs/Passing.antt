-- Parts of a message passed over: what was read and where the reading then stands, with nothing stored.
-- Assumes nothing.
use Rattle.std.specs.Prelude.{◌≡◌, true, cond, List, ℕ, suc, ◌<◌, ◌≤◌, length, drop, leb}
use Rattle.x696.specs.Outcome.{Outcome, refused, got}
use Rattle.x696.specs.Value.{Vals}
use Rattle.x696.specs.Types.{Ty}
use Rattle.x696.specs.Read.{Message, message}
use Rattle.x696.specs.Operations.{node_limit}
use Rattle.x696.specs.TableCheck.{default_sound}
use Rattle.octets.specs.Answers.{fault}
use Rattle.octets.specs.declared.faults.Fault.{Fault}
use Rattle.kinds.specs.Run.{cursor}
use Rattle.kinds.specs.declared.cursor.Cursor.{Cursor}
use Rattle.reading.specs.Members.{members}
use Rattle.std.specs.Prelude.{Result, Ok, Err}
use Rattle.octets.specs.declared.faults.Cause.TheVariants.{Nodes}
use Rattle.octets.specs.Cause.{code_of}

-- the outcome o was got as far as c; f gives the number of what was read
pub record Stood {A : Type 0} (f : A → ℕ) (msg : List ℕ) (o : Outcome Message A) (c : Cursor) : Type 0 where
  pub what : A
  pub reads : o ≡ got what (message (drop c.at msg) c.count)
  pub number : c.number ≡ f what
  pub inside : c.at ≤ length msg

pub record Passed {A : Type 0} (f : A → ℕ) (msg : List ℕ) (o : Outcome Message A) (r : Result Cursor Fault) : Type 0 where
  pub went : (c : Cursor) → r ≡ Ok c → Stood f msg o c
  pub stopped : (x : Fault) → r ≡ Err x → o ≡ refused (code_of x.cause) x.place

-- values one after another have no number
abbrev pub none : Vals → ℕ
none vs = 0

-- the mark and the default that a component of this type may have
abbrev pub Fitting : Ty → (mark default : ℕ) → Type 0
Fitting t m d = (m < 3) × (m ≡ 2 → default_sound t d ≡ true) × ((m ≡ 2 → ⊥) → d ≡ 0)

-- a component that is not carried: one node more, or one too many
unfoldable pub left_out_at : (default at count : ℕ) → Result Cursor Fault
left_out_at d p c = cond (leb node_limit c) (Err (fault Nodes p)) (Ok (cursor p (suc c) 0 d))

-- n components from item `first` on, whose presence bits begin with bit b of the preamble at pre
abbrev pub components_at : (rows items msg : List ℕ) → (pre b first n : ℕ) → Message → Outcome Message Vals
components_at rows items msg pre b first n s = members rows items msg 0 true pre n first b s
