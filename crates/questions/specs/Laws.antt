-- What the relations of the questions settle.
use Rattle.std.specs.Prelude.{◌≡◌, ℕ, Bool, ◌↔◌, List, Result, ◌≢◌}
use Rattle.syntax.specs.declared.types.Ground.{Ground}
use Rattle.syntax.specs.declared.types.Literal.{Literal}
use Rattle.syntax.specs.declared.types.Refusal.{Refusal}
use Rattle.syntax.specs.declared.counts.Counts.{Counts}
use Rattle.semantics.specs.Meaning.{Clause, Interpretation, Model}
use Rattle.semantics.specs.Judgements.{Consistent, Contradictory, Sure, Excluded, Undecided}
use Rattle.tableau.specs.Judged.{Lent}
use Rattle.questions.specs.declared.answers.Certainty.{Certainty}
use Rattle.questions.specs.declared.answers.Certainty.TheVariants as certainty
use Rattle.questions.specs.declared.answers.Sameness.{Sameness}
use Rattle.questions.specs.declared.answers.Sameness.TheVariants as sameness
use Rattle.questions.specs.Asked.{Tells, TellsNames, Asked, AskedNames}

-- two answers to one question are equal
abbrev pub OneCertainty : Type 0
OneCertainty =
    (c : Counts) (clauses : List Clause) (l : Literal) (m m' m'' : Lent) (one other : Result Certainty Refusal) →
    Asked c clauses l m m' one → Asked c clauses l m m'' other → one ≡ other

abbrev pub OneSameness : Type 0
OneSameness =
    (c : Counts) (clauses : List Clause) (a b : ℕ) (m m' m'' : Lent) (one other : Result Sameness Refusal) →
    AskedNames c clauses a b m m' one → AskedNames c clauses a b m m'' other → one ≡ other

-- every model sends the names to one thing; some model does; some model does not
abbrev pub OneThing : Counts → List Clause → ℕ → ℕ → Type 0
OneThing c clauses a b = (I : Interpretation) → Model c clauses I → I.thing a ≡ I.thing b

abbrev pub Joined : Counts → List Clause → ℕ → ℕ → Type 0
Joined c clauses a b = (I : Interpretation) × Model c clauses I × (I.thing a ≡ I.thing b)

abbrev pub Apart : Counts → List Clause → ℕ → ℕ → Type 0
Apart c clauses a b = (I : Interpretation) × Model c clauses I × (I.thing a ≢ I.thing b)

-- each answer on a literal is given exactly when what it means is so
pub record Exactly (c : Counts) (clauses : List Clause) (g : Ground) (s : Bool) (t : Certainty) : Type 0 where
  pub contradictory : (t ≡ certainty.Contradictory) ↔ Contradictory c clauses
  pub sure : (t ≡ certainty.Sure) ↔ Sure c clauses g s
  pub excluded : (t ≡ certainty.Excluded) ↔ Excluded c clauses g s
  pub undecided : (t ≡ certainty.Open) ↔ Undecided c clauses g s

-- and each on two names: equal when there is a model and every model sends both to one thing, distinct when there is one and none does,
-- open when one does and one does not
pub record ExactlyNames (c : Counts) (clauses : List Clause) (a b : ℕ) (t : Sameness) : Type 0 where
  pub contradictory : (t ≡ sameness.Contradictory) ↔ Contradictory c clauses
  pub equal : (t ≡ sameness.Equal) ↔ (Consistent c clauses × OneThing c clauses a b)
  pub distinct : (t ≡ sameness.Distinct) ↔ (Consistent c clauses × (Joined c clauses a b → ⊥))
  pub undecided : (t ≡ sameness.Open) ↔ (Joined c clauses a b × Apart c clauses a b)

abbrev pub ExactCertainty : Type 0
ExactCertainty =
    (c : Counts) (clauses : List Clause) (g : Ground) (s : Bool) (t : Certainty) →
    Tells c clauses g s t → Exactly c clauses g s t

abbrev pub ExactSameness : Type 0
ExactSameness =
    (c : Counts) (clauses : List Clause) (a b : ℕ) (t : Sameness) →
    TellsNames c clauses a b t → ExactlyNames c clauses a b t
