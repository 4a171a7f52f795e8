-- The answer of `write_component` is the outcome of walking one component: one law for each return.
-- Assumes nothing.
use mathlib.Core.Path.{refl}
use mathlib.Core.Path.{sym, ◌∙◌}
use Rattle.x696.proofs.TableRows.{kind_known}
use Rattle.writing.proofs.NodeTests
use Rattle.writing.proofs.Components
use Rattle.writing.proofs.value.write_component.Goals as goal

pub returns-then-component-eq0 : goal.returns-then-component-eq0
returns-then-component-eq0 c = Components.component_plain _ _ _ _ _ _ _ _ c.write_value.ensures c.if-component-eq0.true

pub returns-then-is_missing : goal.returns-then-is_missing
returns-then-is_missing c =
    let sound = c.args.table.now.sound.row c.args.component.row c.requires.0 in
    let kind = c.number.ensures ∙ c.row_kind.ensures ∙ sym (NodeTests.kind_is _ _ _ sound) in
    Components.component_missing _ _ _ _ _ _ _ _ _ kind c.if-component-eq0.false (sym c.is_missing.ensures ∙
    c.if-is_missing.true)
    c.requires.6 c.requires.3 refl

pub returns : goal.returns
returns c =
    let sound = c.args.table.now.sound.row c.args.component.row c.requires.0 in
    let kind = c.number.ensures ∙ c.row_kind.ensures ∙ sym (NodeTests.kind_is _ _ _ sound) in
    Components.component_carried _ _ _ _ _ _ _ _ c.write_value-2.ensures _ kind
    (rw (c.number.ensures, c.row_kind.ensures) (kind_known _ _ _ sound).0) c.if-component-eq0.false (sym c.is_missing.ensures ∙
    c.if-is_missing.false)
