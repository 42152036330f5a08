-- The clauses that a working book stores.
use Rattle.std.specs.Prelude.{List, map}
use Rattle.std.specs.List.{AllByRecursion, AllByRecursion-prop}
use Rattle.std.specs.Coded.{×_prop, le_prop}
use Rattle.arrayvec.specs.ArrayVec.{ArrayVec}
use Rattle.syntax.specs.declared.types.Term.{Term}
use Rattle.syntax.specs.declared.types.Term.TheVariants.{Name, Var}
use Rattle.syntax.specs.declared.types.Atom.{Atom}
use Rattle.syntax.specs.declared.types.Atom.TheVariants.{Same, Prop, Rel}
use Rattle.syntax.specs.declared.types.Literal.{Literal}
use Rattle.syntax.specs.declared.counts.Counts.{Counts}
use Rattle.syntax.specs.Lawful.{Lawful, LawfulTerm, LawfulLiteral, AtomBy}

-- the lists that they mean
abbrev pub stored : List (ArrayVec Literal) → List (List Literal)
stored xs = map (λ x. x.items) xs

-- each is lawful
abbrev pub LawfulStored : Counts → List (ArrayVec Literal) → Type 0
LawfulStored c xs = AllByRecursion (Lawful c) (stored xs)

-- and there is one proof of that at most
term_prop : (c : Counts) (t : Term) → IsProp (LawfulTerm c t)
term_prop c (Name a) = le_prop
term_prop c (Var v) = le_prop

atom_prop : (c : Counts) (a : Atom) → IsProp (AtomBy c (LawfulTerm c) a)
atom_prop c (Same t u) = ×_prop (term_prop c t) (term_prop c u)
atom_prop c (Prop p t) = ×_prop le_prop (term_prop c t)
atom_prop c (Rel r t u) = ×_prop le_prop (×_prop (term_prop c t) (term_prop c u))

lawful_prop : (c : Counts) (cl : List Literal) → IsProp (Lawful c cl)
lawful_prop c cl x y i =
    record { some = le_prop x.some y.some i; few = le_prop x.few y.few i; each = AllByRecursion-prop (LawfulLiteral c) (λ l. atom_prop c l.atom) cl x.each y.each i }

pub LawfulStored-prop : (c : Counts) (xs : List (ArrayVec Literal)) → IsProp (LawfulStored c xs)
LawfulStored-prop c xs = AllByRecursion-prop (Lawful c) (lawful_prop c) (stored xs)
