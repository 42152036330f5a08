-- Signed atoms: under a valuation of the atoms by their numbers, and on a branch.
use Rattle.std.specs.Prelude.{◌≡◌, ℕ, Bool, true, false, not, List, map, slice_index_or}
use Rattle.std.specs.List.{ContainsAt as Has}
use Rattle.syntax.specs.declared.types.Mark.{Mark}
use Rattle.syntax.specs.declared.types.Mark.TheVariants.{Yes, No, Open}
use Rattle.syntax.specs.declared.types.Ground.{Ground}
use Rattle.syntax.specs.declared.types.Literal.{Literal}
use Rattle.syntax.specs.declared.counts.Counts.{Counts}
use Rattle.syntax.specs.Numbers.{number_of, LawfulGround}
use Rattle.semantics.specs.Meaning.{Clause, Interpretation, value, Assignment, ground_of, Model}
use Rattle.tables.specs.Marks.{signed}
use Rattle.syntax.specs.declared.types.SignedAtom.{SignedAtom}

-- a valuation says of each number whether the atom of that number holds
abbrev pub Valuation : Type 0
Valuation = ℕ → Bool

abbrev pub Holds : Valuation → SignedAtom → Type 0
Holds v l = v l.atom ≡ l.sign

-- some signed atom of the list is such
abbrev pub SomeOf : (SignedAtom → Type 0) → List SignedAtom → Type 0
SomeOf P c = (l : SignedAtom) × Has c l × P l

-- the atom has the sign on the branch, the opposite one, or none
abbrev pub StandsIn : List Mark → SignedAtom → Type 0
StandsIn ms l = slice_index_or ms l.atom Open ≡ signed l.sign

abbrev pub DeniedIn : List Mark → SignedAtom → Type 0
DeniedIn ms l = slice_index_or ms l.atom Open ≡ signed (not l.sign)

abbrev pub OpenIn : List Mark → SignedAtom → Type 0
OpenIn ms l = slice_index_or ms l.atom Open ≡ Open

-- no atom stands
abbrev pub Clear : List Mark → Type 0
Clear ms = (k : ℕ) → slice_index_or ms k Open ≡ Open

-- what a mark says of its atom's truth value
abbrev pub Says : Mark → Bool → Type 0
Says Yes b = b ≡ true
Says No b = b ≡ false
Says Open b = Unit {0}

-- the valuation has each standing atom as it stands
abbrev pub Agrees : List Mark → Valuation → Type 0
Agrees ms v = (k : ℕ) → Says (slice_index_or ms k Open) (v k)

-- a literal's instance, and an instance of a clause, as signed atoms
abbrev pub signed_atom_of : Counts → Assignment → Literal → SignedAtom
signed_atom_of c σ l = record { atom = number_of c (ground_of σ l.atom); sign = l.sign }

abbrev pub instance : Counts → Assignment → Clause → List SignedAtom
instance c σ cl = map (signed_atom_of c σ) cl

-- the valuation is that of a model of the clauses
pub record Modelled (c : Counts) (clauses : List Clause) (v : Valuation) : Type 0 where
  pub by : Interpretation
  pub model : Model c clauses by
  pub same : (g : Ground) → LawfulGround c g → v (number_of c g) ≡ value by g
