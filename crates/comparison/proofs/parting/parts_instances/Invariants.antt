use Rattle.std.proofs.Common.{◌≡◌, ℕ, ◌<◌, [], ◌++◌, get_or}
use Rattle.semantics.specs.Judgements.{Contradictory}
use Rattle.semantics.specs.Suppositions.{denials}
use Rattle.instances.specs.Assignments.{names_of, nth_assignment}
use Rattle.tables.specs.Spaces.{SameMemory}
use Rattle.tableau.specs.Judged.{lent, Kept}
use Rattle.comparison.proofs.parting.parts_instances.Given as goal

abbrev pub invariant-loop-k : goal.invariant-loop-k
invariant-loop-k g l = record {
  kept : Kept (lent g.T.BranchTable l.initial.space l.initial.model) (lent g.T.BranchTable l.space l.model);
  memory : SameMemory l.initial.space l.space;
  model : l.model ≡ l.initial.model;
  each : (n : ℕ) → n < l.k → Contradictory (g.F.Book.counts l.one) (g.F.Book.clauses l.one ++ denials (names_of (nth_assignment l.ranges n)) (get_or (g.S.Book.clauses l.other) l.i []));
}
