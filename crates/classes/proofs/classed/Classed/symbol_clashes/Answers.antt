use Rattle.std.proofs.Common.{rules}
use borrow.Author.Tests.{tests}
use Rattle.syntax.specs.declared.types.Mark.TheVariants.{No}
use Rattle.classes.specs.Symbols.{MeetsRow, view}
use Rattle.classes.proofs.Deciding.{any_below}
use Rattle.classes.proofs.Whole.{same_clash, small, symbol_clash}
use Rattle.classes.proofs.classed.Classed.symbol_clashes.Goals as goal

pub returns-in-Same : goal.returns-in-Same
returns-in-Same g c =
    let v = view g.T.BranchTable.marks c.args.self.now in
    same_clash v c.args.symbol c.any.result (small c.args.self.now.classes.now) c.in-Same.is
    (any_below _ _ c.args.self.now.counts.names (λ x. MeetsRow v c.args.symbol No x (v.leader x)) c.any.result (cc) c.any.ensures.ran
    (λ x q k. search (rules, tests)) (λ x q k. search (rules, tests)))

pub returns-in-Prop : goal.returns-in-Prop
returns-in-Prop g c = symbol_clash (view g.T.BranchTable.marks c.args.self.now) c.args.symbol c.shares.result c.holding.result c.found.result c.holding.ensures c.found.ensures c.shares.ensures
