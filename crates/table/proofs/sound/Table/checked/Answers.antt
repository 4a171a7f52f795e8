-- What the check lets pass is sound.
-- Assumes nothing.
use mathlib.Core.Path.{◌≡◌, refl, sym, ap, ◌∙◌}
use native.Mathlib.Omega.{arith}
use Prim.Native.Nat.{ℕ}
use Rattle.std.specs.Prelude.{Result, Ok, Err}
use Rattle.std.proofs.lemmas.Result.{err_from_is_err_and}
use Rattle.x696.specs.TableFault.{TableFault as Meant, sound, bad_size, bad_row}
use Rattle.x696.proofs.TableLaws.{sound_table}
use Rattle.table.specs.Judged.{as_fault}
use Rattle.table.proofs.sound.Table.checked.Goals as goal

no_fault : (x : Meant) → as_fault x ≡ Ok tt → x ≡ sound
unfolding as_fault
no_fault sound e = refl
no_fault bad_size e = let z : ◌≡◌ {A = ℕ} 0 1 = cc in absurd (omega arith)
no_fault (bad_row k) e = let z : ◌≡◌ {A = ℕ} 0 1 = cc in absurd (omega arith)

value_or : {A E : Type 0} → A → Result A E → A
value_or d (Ok x) = x
value_or d (Err f) = d

handed : {A E : Type 0} {x y : A} → ◌≡◌ {A = Result A E} (Ok x) (Ok y) → x ≡ y
unfolding value_or
handed {x = x} e = ap (value_or x) e

told : {A B E : Type 0} {f g : E} → ◌≡◌ {A = Result A E} (Err f) (Err g) → ◌≡◌ {A = Result B E} (Err f) (Err g)
told {f = f} {g} e = let same : f ≡ g = cc in rw same

pub invariant_of-result : goal.invariant_of-result
invariant_of-result c = record { sound = (sound_table _ _).0 (no_fault _ (sym c.judge.ensures ∙ c.in_ok-judge.was)) }

pub returns-in_err-judge : goal.returns-in_err-judge
returns-in_err-judge c =
    let p = err_from_is_err_and c.from_residual.result c.from_residual.ensures.1 in
    rw (p.1, p.2) (record {
      went = λ t e. let z : ◌≡◌ {A = ℕ} 0 1 = cc in absurd (omega arith);
      stopped = λ f e. sym c.judge.ensures ∙ c.in_err-judge.was ∙ told e;
    })

pub returns : goal.returns
returns c = record {
  went = λ t e.
      let same = handed e in
      (sym (ap (λ t. t.rows.now) same), sym (ap (λ t. t.items.now) same), no_fault _ (sym c.judge.ensures ∙ c.in_ok-judge.was));
  stopped = λ f e. let z : ◌≡◌ {A = ℕ} 0 1 = cc in absurd (omega arith);
}
