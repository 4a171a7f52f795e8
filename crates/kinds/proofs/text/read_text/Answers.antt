-- The answer of `read_text` is the outcome of reading a VisibleString or an OCTET STRING.
-- Assumes nothing.
use Rattle.std.proofs.Common.{arith, refl, rules}
use Rattle.std.proofs.lemmas.Result.{err_from_is_err_and}
use Rattle.kinds.proofs.Texts.{text_kind, text_stop, text_size, text_characters, text_goes}
use Rattle.kinds.proofs.text.read_text.Goals as goal

pub returns-then-not-allows_size : goal.returns-then-not-allows_size
returns-then-not-allows_size c =
    text_size (text_kind _ _ _ _ refl) c.requires.1
    c.run_of.ensures _
    c.in_ok-run.was c.allows_size.ensures
    c.if-not-allows_size.true c.at.ensures

pub has_characters-requires : goal.has_characters-requires
has_characters-requires c = (c.run_of.ensures.went _ c.in_ok-run.was).inside

pub returns-then-not-has_characters : goal.returns-then-not-has_characters
returns-then-not-has_characters c =
    text_characters (text_kind _ _ _ _ refl) c.requires.1
    c.run_of.ensures _ c.in_ok-run.was
    c.allows_size.ensures c.if-not-allows_size.false
    c.has_characters.ensures c.if-not-has_characters.true c.at-then-not-has_characters.ensures

pub copy-requires : goal.copy-requires
copy-requires c = (c.run_of.ensures.went _ c.in_ok-run.was).inside

pub overflow_add-result : goal.overflow_add-result
overflow_add-result c = omega (arith, (c.run_of.ensures.went _ c.in_ok-run.was).inside)

pub overflow_add-result-3 : goal.overflow_add-result-3
overflow_add-result-3 c =
    let g = c.run_of.ensures.went _ c.in_ok-run.was in
    omega (arith, g.inside, g.ahead)

pub returns-in_err-run : goal.returns-in_err-run
returns-in_err-run c =
    let p = err_from_is_err_and c.from_residual.result c.from_residual.ensures.1 in
    rw (p.1, p.2) (text_stop (text_kind _ _ _ _ refl) c.requires.1
    c.run_of.ensures _ c.in_err-run.was)

pub returns : goal.returns
returns c =
    text_goes (text_kind _ _ _ _ (search rules)) c.requires.1
    c.run_of.ensures _
    c.in_ok-run.was c.allows_size.ensures
    c.if-not-allows_size.false
    c.has_characters.ensures c.if-not-has_characters.false
    c.put_node.ensures
    c.copy.ensures refl
