-- The first steps of every operation, backwards: the table and its row (1, 2, 3), then the message.
-- Assumes nothing.
use Rattle.std.specs.Prelude.{◌≡◌, refl, List, ℕ, suc, ◌/◌, ◌<◌, length}
use Rattle.std.proofs.Common.{arith}
use Rattle.x696.proofs.OutcomeLaws.{cases_lt}
use Rattle.x696.specs.Outcome.{Outcome, refused, got}
use Rattle.x696.specs.Digits.{Below}
use Rattle.x696.specs.Value.{Val}
use Rattle.x696.specs.Read.{Message}
use Rattle.x696.specs.WellFormed.{WellFormed}
use Rattle.x696.specs.Table.{row_width, type_of}
use Rattle.x696.specs.TableFault.{TableFault, sound, bad_size, bad_row, table_fault}
use Rattle.x696.proofs.TableTypes.{well_formed}
use Rattle.x696.specs.Reply.{Answer, refusal, done, then, unless, in_part}
use Rattle.x696.specs.Operations.{usable, asked, read_message, value_in}

usable_cases {ℓ} : (f : TableFault) (rows items : List ℕ) (r : ℕ) {X : Type ℓ}
    → ((k z : ℕ) → usable f rows items r ≡ refusal (suc k) 0 z → X)
    → (f ≡ sound → r < length rows / row_width → usable f rows items r ≡ done (type_of rows items r) → X) → X
unfolding usable unless
usable_cases bad_size rows items r stop go = stop 0 0 refl
usable_cases (bad_row k) rows items r stop go = stop 1 k refl
usable_cases sound rows items r stop go =
    cases_lt r (length rows / row_width) (λ e h. go refl h (rw e)) (λ e h. stop 2 0 (rw e))

-- a table that is refused has a number above 0 and part 0; a usable one gives the row's type, which is well formed
pub asked_cases {ℓ} : (rows items : List ℕ) (r : ℕ) {X : Type ℓ} → Below 64 items
    → ((k z : ℕ) → asked rows items r ≡ refusal (suc k) 0 z → X)
    → (WellFormed (type_of rows items r) → asked rows items r ≡ done (type_of rows items r) → X) → X
unfolding asked
asked_cases rows items r words stop go =
    usable_cases (table_fault rows items) rows items r stop λ s h e. go (well_formed rows items words s r h) e

pub outcome_cases {ℓ} : {S A : Type 0} (o : Outcome S A) {X : Type ℓ} → ((n z : ℕ) → o ≡ refused n z → X)
    → ((a : A) (s : S) → o ≡ got a s → X) → X
outcome_cases (refused n z) stop go = stop n z refl
outcome_cases (got a s) stop go = go a s refl

refusal_never : {A : Type 0} {n q z : ℕ} {a : A} → ◌≡◌ {A = Answer A} (refusal n q z) (done a) → ⊥
refusal_never e = let z : ◌≡◌ {A = ℕ} 0 1 = cc in omega arith

in_part_inv {ℓ} : {S A : Type 0} (q : ℕ) (o : Outcome S A) {a : A} {X : Type ℓ} → in_part q o ≡ done a
    → ((s : S) → o ≡ got a s → X) → X
unfolding in_part
in_part_inv q (refused n z) e k = absurd (refusal_never e)
in_part_inv q (got b s) {a} e k = let same : b ≡ a = cc in k s (rw same)

-- a message that holds a value was asked for by a row of a usable table, and read
pub held_value {ℓ} : (rows items : List ℕ) (r : ℕ) (s : List ℕ) (v : Val) {X : Type ℓ} → Below 64 items
    → value_in rows items r s ≡ done v
    → (WellFormed (type_of rows items r) → asked rows items r ≡ done (type_of rows items r) → (end : Message)
    → read_message (type_of rows items r) s ≡ got v end → X) → X
unfolding value_in then
held_value rows items r s v words e k =
    asked_cases rows items r words
    (λ n z refuses. absurd (refusal_never (rw refuses at e)))
    λ g usable. in_part_inv 1 (read_message (type_of rows items r) s) (rw usable at e) λ end h. k g usable end h

-- an answer hands out one thing
pub same_done : {A : Type 0} {o : Answer A} {a b : A} → o ≡ done a → o ≡ done b → a ≡ b
same_done e h = cc
