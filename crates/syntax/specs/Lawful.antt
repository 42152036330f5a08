-- What is lawful at counts: each time as a fact, and as a test that computes.
use Rattle.std.specs.Prelude.{◌<◌, ◌≤◌, Bool, true, false, ◌&&◌, List, [], ◌∷◌, length, nat_lt}
use Rattle.std.specs.List.{AllByRecursion}
use Rattle.syntax.specs.declared.types.Term.{Term}
use Rattle.syntax.specs.declared.types.Term.TheVariants.{Name, Var}
use Rattle.syntax.specs.declared.types.Atom.{Atom}
use Rattle.syntax.specs.declared.types.Atom.TheVariants.{Same, Prop, Rel}
use Rattle.syntax.specs.declared.types.Literal.{Literal}
use Rattle.syntax.specs.declared.counts.Counts.{Counts}

-- a name below the names, or one of four variables
abbrev pub LawfulTerm : Counts → Term → Type 0
LawfulTerm c (Name a) = a < c.names
LawfulTerm c (Var v) = v < 4

-- a name below the names, and no variable
abbrev pub GroundTerm : Counts → Term → Type 0
GroundTerm c (Name a) = a < c.names
GroundTerm c (Var v) = ⊥

-- the symbol lies below its count, and each term is as asked
abbrev pub AtomBy : Counts → (Term → Type 0) → Atom → Type 0
AtomBy c Q (Same t u) = Q t × Q u
AtomBy c Q (Prop p t) = (p < c.properties) × Q t
AtomBy c Q (Rel r t u) = (r < c.relations) × (Q t × Q u)

abbrev pub LawfulLiteral : Counts → Literal → Type 0
LawfulLiteral c l = AtomBy c (LawfulTerm c) l.atom

abbrev pub GroundLiteral : Counts → Literal → Type 0
GroundLiteral c l = AtomBy c (GroundTerm c) l.atom

-- a clause: 1 to 8 literals, each lawful
pub record Lawful (c : Counts) (cl : List Literal) : Type 0 where
  pub some : 1 ≤ length cl
  pub few : length cl ≤ 8
  pub each : AllByRecursion (LawfulLiteral c) cl

-- the same as tests
abbrev pub lawful_term : Counts → Term → Bool
lawful_term c (Name a) = nat_lt a c.names
lawful_term c (Var v) = nat_lt v 4

abbrev pub ground_term : Counts → Term → Bool
ground_term c (Name a) = nat_lt a c.names
ground_term c (Var v) = false

abbrev pub atom_by : Counts → (Term → Bool) → Atom → Bool
atom_by c q (Same t u) = q t && q u
atom_by c q (Prop p t) = nat_lt p c.properties && q t
atom_by c q (Rel r t u) = nat_lt r c.relations && (q t && q u)

abbrev pub lawful_literal : Counts → Literal → Bool
lawful_literal c l = atom_by c (lawful_term c) l.atom

abbrev pub ground_literal : Counts → Literal → Bool
ground_literal c l = atom_by c (ground_term c) l.atom

abbrev pub lawful_literals : Counts → List Literal → Bool
lawful_literals c [] = true
lawful_literals c (l ∷ ls) = lawful_literal c l && lawful_literals c ls
