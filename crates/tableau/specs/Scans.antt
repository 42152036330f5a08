-- What a look at an instance finds on a branch.
use Rattle.std.specs.Prelude.{◌≡◌, ℕ, ◌<◌, ◌≤◌, ◌⊎◌, Bool, true, false, List, [], length, Option, Some, None, Result, Ok, Err, slice_index_or}
use Rattle.std.specs.List.{ContainsAt as Has, AllByRecursion}
use Rattle.syntax.specs.declared.types.Mark.{Mark}
use Rattle.syntax.specs.declared.types.Mark.TheVariants.{Yes, No, Open}
use Rattle.syntax.specs.declared.counts.Counts.{Counts}
use Rattle.syntax.specs.Numbers.{atoms}
use Rattle.semantics.specs.Meaning.{Clause, Assignment, Assigns}
use Rattle.semantics.specs.Branch.{SomeStands}
use Rattle.syntax.specs.declared.types.SignedAtom.{SignedAtom}
use Rattle.tableau.specs.declared.types.Status.{Status}
use Rattle.tableau.specs.declared.types.Status.TheVariants.{Fulfilled, Broken, Forced, Loose}
use Rattle.tableau.specs.declared.types.Hopeless.{Hopeless}
use Rattle.tableau.specs.Signs.{Valuation, Holds, Agrees, SomeOf, StandsIn, DeniedIn, OpenIn, Modelled}
use Rattle.tableau.specs.Branch.{Models}

-- the sign that a mark gives
abbrev pub sign_of : Mark → Option Bool
sign_of Yes = Some true
sign_of No = Some false
sign_of Open = None

-- each is denied, or is l
abbrev pub AllBut : List Mark → SignedAtom → List SignedAtom → Type 0
AllBut ms l c = AllByRecursion (λ m. DeniedIn ms m ⊎ (m ≡ l)) c

-- of an instance c, of which the front is looked at
abbrev pub Evaluated : List Mark → List SignedAtom → List SignedAtom → Status → Type 0
Evaluated ms c front Fulfilled = SomeOf (StandsIn ms) c
Evaluated ms c front Broken = AllByRecursion (DeniedIn ms) front
Evaluated ms c front (Forced l) = OpenIn ms l × Has c l × AllBut ms l front
Evaluated ms c front (Loose l) = OpenIn ms l × Has c l

-- one more open signed atom
abbrev pub with_open : Status → SignedAtom → Status
with_open Fulfilled l = Fulfilled
with_open Broken l = Forced l
with_open (Forced m) l = Loose m
with_open (Loose m) l = Loose m

-- no model agrees with the marks; or each such makes the signed atom hold
abbrev pub NoModel : Models → List Mark → Type 0
NoModel M ms = (v : Valuation) → M v → Agrees ms v → ⊥

abbrev pub Entails : Models → List Mark → SignedAtom → Type 0
Entails M ms l = (v : Valuation) → M v → Agrees ms v → Holds v l

-- where nothing was found, P holds; or here is an open atom; or no model agrees with the marks
abbrev pub Found : Type 0 → Counts → List Clause → List Mark → Result (Option SignedAtom) Hopeless → Type 0
Found P c clauses ms (Ok None) = P
Found P c clauses ms (Ok (Some l)) = (l.atom < atoms c) × OpenIn ms l
Found P c clauses ms (Err _) = NoModel (Modelled c clauses) ms

-- every instance of the clause has a literal that stands
abbrev pub FulfilsClause : Counts → List Mark → Clause → Type 0
FulfilsClause c ms cl = (σ : Assignment) → Assigns c σ → SomeStands c ms σ cl

-- of clause i, if it was surveyed from its first instance on
abbrev pub ClauseSurveyed : Counts → List Clause → List Mark → (i first : ℕ) → Type 0
ClauseSurveyed c clauses ms i first = first ≡ 0 → FulfilsClause c ms (slice_index_or clauses i [])

-- of the clauses from one on
abbrev pub SurveyedFrom : Counts → List Clause → List Mark → ℕ → Type 0
SurveyedFrom c clauses ms from = (i : ℕ) → i < length clauses → from ≤ i → FulfilsClause c ms (slice_index_or clauses i [])
