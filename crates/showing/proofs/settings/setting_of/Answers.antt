-- One law for each kind.
-- Assumes nothing.
use Rattle.std.proofs.Common.{◌≡◌, ap, refl}
use Rattle.std.proofs.Math.Logic.{inl, inr, ⊎_elim}
use Rattle.table.proofs.KindNumbers.{is_string}
use Rattle.table.specs.Kind.{code_of}
use Rattle.table.specs.declared.kind.Kind.{Kind}
use Rattle.showing.proofs.SettingLaws.{kind_one, kind_two, kind_three, kind_four, kind_five, kind_six, kind_string}
use Rattle.showing.proofs.SettingLaws.{kind_group, kind_twelve}
use Rattle.showing.proofs.settings.setting_of.Goals as goal

number : {k v : Kind} → k ≡ v → code_of k ≡ code_of v
number e = ap code_of e

pub overflow_cast-number : goal.overflow_cast-number
overflow_cast-number c = record { fits = c.requires c.in-Single.is }

pub returns-in-Boolean : goal.returns-in-Boolean
returns-in-Boolean c = kind_one _ _ _ _ (number c.in-Boolean.is)

pub returns-in-Integer : goal.returns-in-Integer
returns-in-Integer c = kind_two _ _ _ _ (number c.in-Integer.is) c.integer_setting.ensures

pub returns-in-Enumerated : goal.returns-in-Enumerated
returns-in-Enumerated c = kind_three _ _ _ _ (number c.in-Enumerated.is) (record { sfits = c.signed_of.type_inv }) c.signed_of.ensures

pub returns-in-Single : goal.returns-in-Single
returns-in-Single c = kind_four _ _ _ _ (number c.in-Single.is) c.single_of.ensures

pub returns-in-Double : goal.returns-in-Double
returns-in-Double c = kind_five _ _ _ _ (number c.in-Double.is) c.double_of.ensures

pub returns-in-Null : goal.returns-in-Null
returns-in-Null c = kind_six _ _ _ _ (number c.in-Null.is)

pub returns-in-OctetString : goal.returns-in-OctetString
returns-in-OctetString c = kind_string _ _ _ _ (is_string refl c.in-OctetString.is)

pub returns-in-Sequence : goal.returns-in-Sequence
returns-in-Sequence c = kind_group _ _ _ _ (⊎_elim (λ e. inl (number e)) (λ e. inr (number e)) c.in-Sequence.is)

pub returns-in-Choice : goal.returns-in-Choice
returns-in-Choice c = kind_twelve _ _ _ _ (number c.in-Choice.is)
