-- Each test of Lawful tells of its fact.
use Rattle.std.specs.Prelude.{Bool, List, Decides, refl}
use Rattle.std.specs.List.{AllByRecursion}
use Rattle.std.proofs.lemmas.Bool.Decides.{Decides-ltb, Decides-and}
use Rattle.std.proofs.ByRecursion.{Decides-by_and}
use Rattle.std.proofs.lemmas.Bool.{false≢true}
use Rattle.syntax.specs.declared.types.Term.{Term}
use Rattle.syntax.specs.declared.types.Term.TheVariants.{Name, Var}
use Rattle.syntax.specs.declared.types.Atom.{Atom}
use Rattle.syntax.specs.declared.types.Atom.TheVariants.{Same, Prop, Rel}
use Rattle.syntax.specs.declared.types.Literal.{Literal}
use Rattle.syntax.specs.declared.counts.Counts.{Counts}
use Rattle.syntax.specs.Lawful.{LawfulTerm, GroundTerm, AtomBy, LawfulLiteral, GroundLiteral, lawful_term, ground_term, atom_by, lawful_literal, ground_literal, lawful_literals}

pub term_decides : (c : Counts) (t : Term) → Decides (lawful_term c t) (LawfulTerm c t)
term_decides c (Name a) = Decides-ltb a c.names
term_decides c (Var v) = Decides-ltb v 4

pub name_decides : (c : Counts) (t : Term) → Decides (ground_term c t) (GroundTerm c t)
name_decides c (Name a) = Decides-ltb a c.names
name_decides c (Var v) = (false≢true, λ z. absurd z)

pub atom_decides : (c : Counts) (q : Term → Bool) (Q : Term → Type 0) → ((t : Term) → Decides (q t) (Q t)) → (a : Atom) → Decides (atom_by c q a) (AtomBy c Q a)
atom_decides c q Q each (Same t u) = Decides-and (q t) (q u) (each t) (each u)
atom_decides c q Q each (Prop p t) = Decides-and _ (q t) (Decides-ltb p c.properties) (each t)
atom_decides c q Q each (Rel r t u) = Decides-and _ _ (Decides-ltb r c.relations) (Decides-and (q t) (q u) (each t) (each u))

pub literal_decides : (c : Counts) (l : Literal) → Decides (lawful_literal c l) (LawfulLiteral c l)
literal_decides c l = atom_decides c (lawful_term c) (LawfulTerm c) (term_decides c) l.atom

pub ground_decides : (c : Counts) (l : Literal) → Decides (ground_literal c l) (GroundLiteral c l)
ground_decides c l = atom_decides c (ground_term c) (GroundTerm c) (name_decides c) l.atom

pub literals_decides : (c : Counts) (ls : List Literal) → Decides (lawful_literals c ls) (AllByRecursion (LawfulLiteral c) ls)
literals_decides c ls = Decides-by_and (lawful_literal c) (LawfulLiteral c) (lawful_literals c) (literal_decides c) refl (λ _ _. refl) ls

-- a ground literal is lawful
term_weaker : (c : Counts) (t : Term) → GroundTerm c t → LawfulTerm c t
term_weaker c (Name a) h = h
term_weaker c (Var v) h = absurd h

atom_weaker : (c : Counts) (a : Atom) → AtomBy c (GroundTerm c) a → AtomBy c (LawfulTerm c) a
atom_weaker c (Same t u) h = (term_weaker c t h.0, term_weaker c u h.1)
atom_weaker c (Prop p t) h = (h.0, term_weaker c t h.1)
atom_weaker c (Rel r t u) h = (h.0, (term_weaker c t h.1.0, term_weaker c u h.1.1))

pub ground_lawful : (c : Counts) (l : Literal) → GroundLiteral c l → LawfulLiteral c l
ground_lawful c l h = atom_weaker c l.atom h
