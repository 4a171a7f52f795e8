-- The block holds what was read, and all of it is stored.
-- Assumes nothing.
use mathlib.Core.Path.{refl}
use native.Mathlib.Omega.{arith}
use Rattle.octets.proofs.Stores.{copied_through}
use Rattle.octets.proofs.words.copy_block.Goals as goal

pub returns : goal.returns
returns c =
    let a = c.args in
    copied_through a.from.now _ a.out.now a.start a.to 32 (omega arith) refl
    c.copy_all.ensures c.copy_all-2.ensures
