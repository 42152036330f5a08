-- What looking for a branch promises: judging where no model is written.
use Rattle.std.specs.Prelude.{◌≡◌, ℕ, List, length, Some, None, Ok, Err, Option, Result}
use Rattle.syntax.specs.declared.types.Refusal.{Refusal}
use Rattle.syntax.specs.declared.counts.Counts.{Counts}
use Rattle.semantics.specs.Meaning.{Clause, Model}
use Rattle.semantics.specs.Branch.{own}
use Rattle.tables.specs.Lent.{table_refusal}
use Rattle.tableau.specs.declared.verdict.Verdict.{Verdict}
use Rattle.tableau.specs.declared.verdict.Verdict.TheVariants as verdict
use Rattle.tableau.specs.Judged.{Lent, Kept, BranchFound, Emptied}

-- why it is refused, if it is
abbrev pub branch_refusal : Counts → Lent → Option Refusal
branch_refusal c m = table_refusal c (length m.marks) m.room (length m.trail) (length m.choices)

-- the branch that it ended on; its own model is one of the clauses; the model memory stays
pub record Held (c : Counts) (clauses : List Clause) (before after : Lent) : Type 0 where
  pub leader : ℕ → ℕ
  pub branch : BranchFound c clauses after.marks leader
  pub model : Model c clauses (own c after.marks leader)
  pub memory : after.model ≡ before.model

-- refused exactly for the topmost cause, and all stays as it was; else one of the two answers, with what it says
abbrev pub Branched : Counts → List Clause → Lent → Lent → Result Verdict Refusal → Type 0
Branched c clauses m m' (Err e) = (branch_refusal c m ≡ Some e) × (m' ≡ m)
Branched c clauses m m' (Ok verdict.Consistent) = (branch_refusal c m ≡ None) × Kept m m' × Held c clauses m m'
Branched c clauses m m' (Ok verdict.Contradictory) = (branch_refusal c m ≡ None) × Kept m m' × Emptied c clauses m m'
