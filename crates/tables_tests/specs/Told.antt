-- A list of atoms told, one after the other.
use Rattle.std.specs.Prelude.{ℕ, ◌+◌, ◌-◌, Bool, cond, List, [], ◌∷◌, is_some, nat_le, slice_set}
use Rattle.syntax.specs.declared.types.Mark.{Mark}
use Rattle.tables.specs.Marks.{signed, tell_refusal}

-- how many of the atoms are told, with so many free slots on the trail, until one is refused or no slot is free
abbrev pub count_told : ℕ → Bool → ℕ → List Mark → List ℕ → ℕ
count_told room sign free ms [] = 0
count_told room sign free ms (a ∷ rest) =
    cond (nat_le free 0) 0 (cond (is_some (tell_refusal ms room a)) 0 (1 + count_told room sign (free - 1) (slice_set ms a (signed sign)) rest))

-- the marks once the atoms are told, the first one first
abbrev pub told : Bool → List Mark → List ℕ → List Mark
told sign ms [] = ms
told sign ms (a ∷ rest) = told sign (slice_set ms a (signed sign)) rest
