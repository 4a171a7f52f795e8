-- 00, FF, another octet or none. Assumes nothing.
use mathlib.Core.Path.{refl}
use Rattle.kinds.proofs.Simple.{boolean_past, boolean_other, boolean_false, boolean_true}
use Rattle.kinds.proofs.plain.read_boolean.Goals as goal

pub returns-then-msg-at : goal.returns-then-msg-at
returns-then-msg-at c = λ n. boolean_past _ c.requires c.if-msg-at.true c.at.ensures

pub returns-then-o-eq0 : goal.returns-then-o-eq0
returns-then-o-eq0 c =
    λ n. boolean_false _ c.requires c.if-msg-at.false c.octet-o.ensures.0 c.if-o-eq0.true
    refl

pub returns-then-o-ne255 : goal.returns-then-o-ne255
returns-then-o-ne255 c =
    λ n. boolean_other _ c.requires c.if-msg-at.false c.octet-o.ensures.0 c.if-o-eq0.false c.if-o-ne255.true
    c.at-then-o-ne255.ensures

pub returns : goal.returns
returns c = λ n. boolean_true _ c.requires c.if-msg-at.false c.octet-o.ensures.0 c.if-o-ne255.false refl
