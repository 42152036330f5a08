use Rattle.std.proofs.Common.{ℕ, ◌<◌}
use Rattle.classes.specs.Symbols.{symbol_at, view}
use Rattle.classes.specs.Writing.{Better, SymbolRight, own_of}
use Rattle.classes.proofs.classed.Classed.write_model.Given as goal

abbrev pub invariant-loop-k : goal.invariant-loop-k
invariant-loop-k g l =
    record {
      better : Better l.counts (own_of (view g.T.BranchTable.marks l.self)) l.fn.memory l.memory;
      right : (k : ℕ) → k < l.k → SymbolRight l.counts (own_of (view g.T.BranchTable.marks l.self)) (symbol_at l.counts k) l.memory;
    }
