-- The number of a kind (document 01, "The type table"), and what is had of a number.
-- Assumes nothing.
use Rattle.std.specs.Prelude.{◌≡◌, ◌⊎◌, ℕ, ◌<◌, Result, MatchResult}
use Rattle.table.specs.declared.kind.Kind.{Kind}
use Rattle.table.specs.declared.kind.Kind.TheVariants.{Boolean, Integer, Enumerated, Single, Double, Null}
use Rattle.table.specs.declared.kind.Kind.TheVariants.{OctetString, BitString, VisibleString, Sequence, SequenceOf, Choice}
use Rattle.table.specs.declared.kind.UnknownKind.{UnknownKind}

abbrev pub code_of : Kind → ℕ
code_of Boolean = 1
code_of Integer = 2
code_of Enumerated = 3
code_of Single = 4
code_of Double = 5
code_of Null = 6
code_of OctetString = 7
code_of BitString = 8
code_of VisibleString = 9
code_of Sequence = 10
code_of SequenceOf = 11
code_of Choice = 12

-- the kind with this number, or an error with a number that no kind has
abbrev pub Decodes : ℕ → Result Kind UnknownKind → Type 0
Decodes n r = MatchResult r (λ kind. code_of kind ≡ n) (λ e. (e.0 ≡ n) × ((n ≡ 0) ⊎ (12 < n)))
