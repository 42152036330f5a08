use Rattle.std.proofs.Common.{◌≡◌, rules}
use borrow.Author.Tests.{tests}
use Rattle.classes.specs.Symbols.{MeetsRow, view}
use Rattle.classes.proofs.Deciding.{any_below}
use Rattle.classes.proofs.classed.Classed.meets.Goals as goal

pub returns : goal.returns
returns g c =
    let v = view g.T.BranchTable.marks c.args.self.now in
    any_below _ _ c.args.self.now.counts.names (λ x. (v.leader x ≡ c.args.p) × MeetsRow v c.args.symbol c.args.mark x c.args.q) c.any.result (cc) c.any.ensures.ran
    (λ x q k. search (rules, tests)) (λ x q k. search (rules, tests))
