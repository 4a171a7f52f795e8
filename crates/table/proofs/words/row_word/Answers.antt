-- A word of a row is the word at its place in the list. Assumes nothing.
use mathlib.Core.Path.{refl}
use Rattle.x696.specs.Table.{row_word}
use Rattle.table.proofs.words.row_word.Goals as goal

pub returns : goal.returns
unfolding row_word
returns c = refl
