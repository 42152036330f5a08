use Rattle.std.proofs.Common.{true, Err, refl}
use Rattle.tableau.proofs.Going.{gone_after, tried_ok, tried_err}
use Rattle.tableau.proofs.types.Search.backtrack.Goals as goal

pub returns-in-Ok : goal.returns-in-Ok
returns-in-Ok g c =
    let b = g.B.Book in
    let t = g.T.BranchTable in
    let f = c.loop-self-test.ensures in
    tried_ok b t c.args.self.now c.flip.new.self (gone_after b t c.args.self.now c.loop-self.self c.flip.new.self true c.loop-self.invariant.0 f.0, f.1) c.in-Ok.classes c.in-Ok.ensures

pub loop-self-preserved : goal.loop-self-preserved
loop-self-preserved g c =
    let b = g.B.Book in
    let t = g.T.BranchTable in
    let f = c.loop-self-test.ensures in
    let e = c.in_default.field-0 in
    tried_err b t c.args.self.now c.flip.new.self (gone_after b t c.args.self.now c.loop-self.self c.flip.new.self true c.loop-self.invariant.0 f.0, f.1) e c.in_default.ensures (Err e) refl
