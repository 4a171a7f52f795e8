-- The contents missing (11), their size or characters (7), or what stands before them. Assumes nothing.
use mathlib.Core.Path.{refl}
use Rattle.pens.proofs.Strings.{text_tested, lacking, unsized, strange, begins}
use Rattle.pens.proofs.text.begin_text.Goals as goal

pub returns-then-contents-used : goal.returns-then-contents-used
returns-then-contents-used c =
    lacking (text_tested _ _ _ _ _) _ c.requires.0 c.if-contents-used.true

pub returns-then-not-allows_size : goal.returns-then-not-allows_size
returns-then-not-allows_size c =
    unsized (text_tested _ _ _ _ _) _ c.requires.0
    c.if-contents-used.false refl refl c.allows_size.ensures c.if-not-allows_size.true

pub returns-then-not-has_characters : goal.returns-then-not-has_characters
returns-then-not-has_characters c =
    strange (text_tested _ _ _ _ _) _ c.requires.0
    c.if-contents-used.false refl refl
    c.allows_size.ensures c.if-not-allows_size.false
    c.has_characters.ensures c.if-not-has_characters.true

pub returns : goal.returns
returns c =
    begins (text_tested _ _ _ _ _) _ c.requires.0 c.if-contents-used.false refl refl
    c.allows_size.ensures c.if-not-allows_size.false
    c.has_characters.ensures c.if-not-has_characters.false c.put_text_head.ensures
