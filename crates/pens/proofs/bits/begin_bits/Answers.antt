-- The contents missing or their unused bits set (11), their size (7), or what stands before them. Assumes nothing.
use mathlib.Core.Path.{refl}
use Rattle.pens.proofs.Strings.{bits_tested, lacking, unclear, unsized, begins}
use Rattle.pens.proofs.bits.begin_bits.Goals as goal

pub returns-then-contents-used : goal.returns-then-contents-used
returns-then-contents-used c =
    lacking (bits_tested _ _ _ _ c.octets-whole.ensures refl) _
    c.requires.0 c.if-contents-used.true

pub returns-then-not-low_bits_clear : goal.returns-then-not-low_bits_clear
returns-then-not-low_bits_clear c =
    unclear (bits_tested _ _ _ _ c.octets-whole.ensures
    c.unused.ensures) _
    c.requires.0
    c.if-contents-used.false
    c.low_bits_clear.ensures c.if-not-low_bits_clear.true

pub returns-then-not-allows_size : goal.returns-then-not-allows_size
returns-then-not-allows_size c =
    unsized (bits_tested _ _ _ _ c.octets-whole.ensures
    c.unused.ensures) _ c.requires.0
    c.if-contents-used.false
    c.low_bits_clear.ensures c.if-not-low_bits_clear.false
    c.allows_size.ensures c.if-not-allows_size.true

pub returns : goal.returns
returns c =
    begins (bits_tested _ _ _ _ c.octets-whole.ensures c.unused.ensures) _
    c.requires.0 c.if-contents-used.false
    c.low_bits_clear.ensures c.if-not-low_bits_clear.false
    c.allows_size.ensures c.if-not-allows_size.false
    refl refl c.put_bits_head.ensures
