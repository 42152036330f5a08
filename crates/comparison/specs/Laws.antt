-- What the relation of a comparison settles.
use Rattle.std.specs.Prelude.{◌≡◌, ◌↔◌, List, Result}
use Rattle.syntax.specs.declared.types.Refusal.{Refusal}
use Rattle.syntax.specs.declared.counts.Counts.{Counts}
use Rattle.semantics.specs.Meaning.{Clause, Interpretation, Model}
use Rattle.semantics.specs.Judgements.{IsFirstOnly, IsSecondOnly}
use Rattle.tableau.specs.Judged.{Lent}
use Rattle.comparison.specs.declared.answer.Comparison.{Comparison}
use Rattle.comparison.specs.declared.answer.Comparison.TheVariants as comparison
use Rattle.comparison.specs.Compared.{Compares, Compared}

-- two answers to one comparison are equal
abbrev pub OneComparison : Type 0
OneComparison =
    (c d : Counts) (first second : List Clause) (m m' m'' : Lent) (one other : Result Comparison Refusal) →
    Compared c d first second m m' one → Compared c d first second m m'' other → one ≡ other

-- the same interpretations satisfy both
abbrev pub SameModels : Counts → List Clause → List Clause → Type 0
SameModels c first second = (I : Interpretation) → Model c first I ↔ Model c second I

-- each answer is given exactly when what it means is so
pub record Exactly (c : Counts) (first second : List Clause) (r : Comparison) : Type 0 where
  pub first_only : (r ≡ comparison.FirstOnly) ↔ IsFirstOnly c first second
  pub second_only : (r ≡ comparison.SecondOnly) ↔ IsSecondOnly c first second
  pub equal : (r ≡ comparison.Equal) ↔ SameModels c first second

abbrev pub ExactComparison : Type 0
ExactComparison =
    (c : Counts) (first second : List Clause) (m m' : Lent) (r : Comparison) →
    Compares c first second m m' r → Exactly c first second r
