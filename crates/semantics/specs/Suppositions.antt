-- Clauses supposed beside those of a book.
use Rattle.std.specs.Prelude.{Bool, not, List, [], ◌∷◌}
use Rattle.syntax.specs.declared.types.Ground.{Ground}
use Rattle.syntax.specs.Numbers.{atom_of}
use Rattle.semantics.specs.Meaning.{Clause, Assignment, ground_of}

-- a ground literal as a clause
abbrev pub unit : Ground → Bool → Clause
unit g s = record { sign = s; atom = atom_of g } ∷ []

-- the denials of the literals of an instance, each as a clause
abbrev pub denials : Assignment → Clause → List Clause
denials σ [] = []
denials σ (l ∷ ls) = unit (ground_of σ l.atom) (not l.sign) ∷ denials σ ls
