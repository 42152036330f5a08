use Rattle.std.proofs.Common.{rules}
use borrow.Author.Tests.{tests}
use Rattle.classes.specs.Symbols.{SymbolClash, symbol_at, symbols, view}
use Rattle.classes.proofs.Deciding.{any_below}
use Rattle.classes.proofs.Whole.{clash_by, clash_too, small}
use Rattle.classes.proofs.classed.Classed.clashes.Goals as goal

pub returns : goal.returns
returns g c =
    let v = view g.T.BranchTable.marks c.args.self.now in
    let by = clash_by v (small c.args.self.now.classes.now) c.any.result
    (any_below _ _ (symbols c.args.self.now.counts) (λ k. SymbolClash v (symbol_at c.args.self.now.counts k)) c.any.result (cc) c.any.ensures.ran
    (λ k q h. search (rules, tests)) (λ k q h. search (rules, tests))) in
    record { by = by; clash = clash_too v c.any.result by }
