-- What checking a model answers.
use Rattle.std.specs.Prelude.{◌≡◌, ℕ, ◌<◌, Bool, false, ◌||◌, List, [], ◌∷◌, length, Ok, Err, Result, ◌==◌, slice_index_or}
use Rattle.syntax.specs.declared.types.Term.{Term}
use Rattle.syntax.specs.declared.types.Term.TheVariants.{Name, Var}
use Rattle.syntax.specs.declared.types.Atom.{Atom}
use Rattle.syntax.specs.declared.types.Atom.TheVariants.{Same, Prop, Rel}
use Rattle.syntax.specs.declared.types.Refusal.{Refusal}
use Rattle.syntax.specs.declared.types.Refusal.TheVariants.{NotInterpretation}
use Rattle.syntax.specs.declared.counts.Counts.{Counts}
use Rattle.semantics.specs.Meaning.{Clause, Interpretation, Assignment, Assigns, four, SomeHolds, Satisfies, Model}
use Rattle.semantics.specs.Bytes.{BytesOf}

-- whether a variable stands in a term, an atom, a clause
abbrev pub term_use : ℕ → Term → Bool
term_use v (Name a) = false
term_use v (Var u) = u == v

abbrev pub atom_use : ℕ → Atom → Bool
atom_use v (Same t u) = term_use v t || term_use v u
atom_use v (Prop p t) = term_use v t
atom_use v (Rel r t u) = term_use v t || term_use v u

abbrev pub uses : ℕ → Clause → Bool
uses v [] = false
uses v (l ∷ ls) = atom_use v l.atom || uses v ls

-- an assignment of the clause's own variables: names below N, and name 0 for a variable that the clause does not use
pub record Proper (c : Counts) (cl : Clause) (σ : Assignment) : Type 0 where
  pub assigns : Assigns c σ
  pub unused : (v : ℕ) → v < 4 → uses v cl ≡ false → σ v ≡ 0

-- σ is counted before τ, variable 0 slowest: at the first variable where they differ σ has the lower name
pub record Before (σ τ : Assignment) : Type 0 where
  pub at : ℕ
  pub variable : at < 4
  pub alike : (u : ℕ) → u < at → σ u ≡ τ u
  pub lower : σ at < τ at

-- the first assignment under which no literal of the clause holds
pub record FirstFailing (c : Counts) (I : Interpretation) (cl : Clause) (σ : Assignment) : Type 0 where
  pub proper : Proper c cl σ
  pub fails : SomeHolds I σ cl → ⊥
  pub earlier : (τ : Assignment) → Proper c cl τ → Before τ σ → SomeHolds I τ cl

-- clause i is the first that fails, and σ its first failing assignment
pub record FailsAt (c : Counts) (clauses : List Clause) (I : Interpretation) (i : ℕ) (σ : Assignment) : Type 0 where
  pub below : i < length clauses
  pub earlier : (j : ℕ) → j < i → Satisfies c I (slice_index_or clauses j [])
  pub first : FirstFailing c I (slice_index_or clauses i []) σ

-- what is found: satisfied, or a clause and the names of the variables 0 to 3
pub data Finding : Type 0 where
  satisfied : Finding
  failing : (clause x y z w : ℕ) → Finding

-- refused exactly when no interpretation over the counts has these bytes; else what is found in the interpretation that has them
abbrev pub Checked : Counts → List Clause → List ℕ → Result Finding Refusal → Type 0
Checked c clauses bytes (Err e) = ((I : Interpretation) → BytesOf c I bytes → ⊥) × (e ≡ NotInterpretation)
Checked c clauses bytes (Ok satisfied) = (I : Interpretation) × BytesOf c I bytes × Model c clauses I
Checked c clauses bytes (Ok (failing i x y z w)) = (I : Interpretation) × BytesOf c I bytes × FailsAt c clauses I i (four x y z w)
