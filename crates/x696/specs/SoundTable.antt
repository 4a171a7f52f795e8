-- What a sound table gives (document 01, "The type table"), as facts that contracts cite: `sound_table` says that the check
-- finds no fault exactly if `SoundTable` holds. Assumes nothing.
use Rattle.std.specs.Prelude.{◌≡◌, true, List, [], ◌∷◌, ◌++◌, ℕ, zero, suc, ◌+◌, ◌/◌, ◌%◌, ◌≤◌, ◌<◌, length}
use Rattle.x696.specs.Table.{row_width, item_width, item_word, type_of}
use Rattle.x696.specs.TableCheck.{default_sound}
use Rattle.x696.specs.TableFault.{row_sound, row_nesting}

-- what holds of n places from the first on
abbrev pub Each : (ℕ → Type 0) → (first n : ℕ) → Type 0
Each P first n = (i : ℕ) → i < n → P (first + i)

module _ (rows items : List ℕ) where
  -- the nestings of the first n rows, as the check works them out
  unfoldable pub nestings_of : (n : ℕ) → List ℕ
  nestings_of zero = []
  nestings_of (suc n) = nestings_of n ++ (row_nesting rows items (nestings_of n) n ∷ [])

  pub record SoundTable : Type 0 where
    pub whole_rows : length rows % row_width ≡ 0
    pub some_rows : 0 < length rows / row_width
    pub few_rows : length rows / row_width ≤ 256
    pub whole_items : length items % item_width ≡ 0
    pub few_items : length items / item_width ≤ 1024
    pub row : (r : ℕ) → r < length rows / row_width → row_sound rows items r ≡ true
    pub nests : (r : ℕ) → r < length rows / row_width → row_nesting rows items (nestings_of r) r ≤ 16

-- a component's item: a smaller row, a mark, and a default that fits
module _ (rows items : List ℕ) (r : ℕ) where
  pub record Component (i : ℕ) : Type 0 where
    pub lower : item_word items i 0 < r
    pub mark : item_word items i 1 < 3
    pub default : item_word items i 1 ≡ 2
        → default_sound (type_of rows items (item_word items i 0)) (item_word items i 2) ≡ true
    pub no_default : (item_word items i 1 ≡ 2 → ⊥) → item_word items i 2 ≡ 0
