use Rattle.std.proofs.Common.{◌≡◌, rules}
use borrow.Author.Tests.{tests}
use Rattle.classes.specs.Symbols.{atom_with, mark_in, view, width}
use Rattle.classes.proofs.Deciding.{any_below}
use Rattle.classes.proofs.classed.Classed.row_meets.Goals as goal

pub returns : goal.returns
returns g c = λ lawful hx.
    let v = view g.T.BranchTable.marks c.args.self.now in
    any_below _ _ (width c.args.self.now.counts c.args.symbol) (λ y. (v.leader y ≡ c.args.q) × (mark_in v (atom_with c.args.symbol c.args.x y) ≡ c.args.mark)) c.any.result (cc) c.any.ensures.ran
    (λ y q k. search (rules, tests)) (λ y q k. search (rules, tests))
