use Rattle.tableau.proofs.States.{puttable}
use Rattle.tableau.proofs.Going.{forced_there, told_there, tried_ok, tried_err}
use Rattle.tableau.proofs.types.Search.enforce.Goals as goal

pub put-requires : goal.put-requires
put-requires g c = puttable c.requires.ready.state c.args.l c.requires.below c.requires.lies

pub classes_with-requires : goal.classes_with-requires
classes_with-requires g c =
    let q = c.requires in
    let e = c.put.ensures in
    told_there g.B.Book g.T.BranchTable c.args.self.now c.put.new.self c.args.l q.ready q.below q.lies e.same e.put.marks_are e.classes

pub returns-in_err-self : goal.returns-in_err-self
returns-in_err-self g c =
    let q = c.requires in
    let e = c.put.ensures in
    tried_err g.B.Book g.T.BranchTable c.args.self.now c.put.new.self
    (forced_there g.B.Book g.T.BranchTable c.args.self.now c.put.new.self c.args.l q.ready q.below q.lies e.same e.put q.follows)
    _ c.in_err-self.ensures _ c.from_residual.ensures.0

pub returns : goal.returns
returns g c =
    let q = c.requires in
    let e = c.put.ensures in
    tried_ok g.B.Book g.T.BranchTable c.args.self.now c.put.new.self
    (forced_there g.B.Book g.T.BranchTable c.args.self.now c.put.new.self c.args.l q.ready q.below q.lies e.same e.put q.follows)
    _ c.in_ok-self.ensures
