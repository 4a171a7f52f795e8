-- A word of an item is the word at its place in the list. Assumes nothing.
use mathlib.Core.Path.{refl}
use Rattle.x696.specs.Table.{item_word}
use Rattle.table.proofs.words.item_word.Goals as goal

pub returns : goal.returns
unfolding item_word
returns c = refl
