-- That bytes are the file of counts and clauses has one proof at most, so it can stand in the type of a block book.
use Rattle.std.specs.Prelude.{ℕ, List}
use Rattle.std.specs.Coded.{×_prop, le_prop}
use Rattle.std.proofs.Props.{props}
use Rattle.syntax.specs.declared.types.Term.{Term}
use Rattle.syntax.specs.declared.types.Term.TheVariants.{Name, Var}
use Rattle.syntax.specs.declared.types.Atom.{Atom}
use Rattle.syntax.specs.declared.types.Atom.TheVariants.{Same, Prop, Rel}
use Rattle.syntax.specs.declared.types.Literal.{Literal}
use Rattle.syntax.specs.declared.counts.Counts.{Counts}
use Rattle.syntax.specs.Lawful.{LawfulTerm, AtomBy}
use Rattle.blocks.specs.Layout.{IsFile}

term_prop : (c : Counts) (t : Term) → IsProp (LawfulTerm c t)
term_prop c (Name a) = le_prop
term_prop c (Var v) = le_prop

atom_prop : (c : Counts) (a : Atom) → IsProp (AtomBy c (LawfulTerm c) a)
atom_prop c (Same t u) = ×_prop (term_prop c t) (term_prop c u)
atom_prop c (Prop p t) = ×_prop le_prop (term_prop c t)
atom_prop c (Rel r t u) = ×_prop le_prop (×_prop (term_prop c t) (term_prop c u))

pub IsFile-prop : (bytes : List ℕ) (c : Counts) (cls : List (List Literal)) → IsProp (IsFile bytes c cls)
IsFile-prop bytes c cls = Prim.hlevel (props, atom_prop)
