use Rattle.std.proofs.Common.{◌≡◌, ℕ, ◌<◌, [], get_or}
use Rattle.tables.specs.Spaces.{SameMemory}
use Rattle.tableau.specs.Judged.{lent, Kept}
use Rattle.comparison.specs.Compared.{Follows}
use Rattle.comparison.proofs.parting.parts.Given as goal

abbrev pub invariant-loop-i : goal.invariant-loop-i
invariant-loop-i g l = record {
  kept : Kept (lent g.T.BranchTable l.initial.space l.initial.model) (lent g.T.BranchTable l.space l.model);
  memory : SameMemory l.initial.space l.space;
  model : l.model ≡ l.initial.model;
  each : (n : ℕ) → n < l.i → Follows (g.F.Book.counts l.one) (g.F.Book.clauses l.one) (get_or (g.S.Book.clauses l.other) n []);
}
