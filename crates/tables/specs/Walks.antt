-- A list of atoms opened, one after the other.
use Rattle.std.specs.Prelude.{◌≡◌, ℕ, ◌<◌, ◌≤◌, List, [], ◌∷◌, ◌++◌, length, Some, None, Option, slice_set}
use Rattle.syntax.specs.declared.types.Mark.{Mark}
use Rattle.syntax.specs.declared.types.Mark.TheVariants.{Open}

-- the marks once the atoms are open, the last one first
abbrev pub opened : List Mark → List ℕ → List Mark
opened ms [] = ms
opened ms (a ∷ rest) = slice_set (opened ms rest) a Open

-- the top taken off, where it lies at or above a height
abbrev pub PoppedAbove : List ℕ → ℕ → List ℕ → Option ℕ → Type 0
PoppedAbove xs height ys None = (length xs ≤ height) × (ys ≡ xs)
PoppedAbove xs height ys (Some x) = (height < length xs) × (xs ≡ ys ++ (x ∷ []))
