use Rattle.tableau.proofs.States.{puttable, choice_slot, height_fits}
use Rattle.tableau.proofs.Going.{chosen_there, told_there, tried_ok, tried_err}
use Rattle.tableau.proofs.types.Search.branch.Goals as goal

pub choose-requires : goal.choose-requires
choose-requires g c =
    let st = c.requires.ready.state in
    let l = c.args.l in
    record {
      put = puttable st l c.requires.below c.requires.lies;
      short = height_fits st l c.requires.below c.requires.lies;
      slot = choice_slot st l c.requires.below c.requires.lies;
    }

pub classes_with-requires : goal.classes_with-requires
classes_with-requires g c =
    let q = c.requires in
    let e = c.choose.ensures in
    told_there g.B.Book g.T.BranchTable c.args.self.now c.choose.new.self c.args.l q.ready q.below q.lies e.same e.chosen.marks_are e.classes

pub returns-in_err-self : goal.returns-in_err-self
returns-in_err-self g c =
    let q = c.requires in
    let e = c.choose.ensures in
    tried_err g.B.Book g.T.BranchTable c.args.self.now c.choose.new.self
    (chosen_there g.B.Book g.T.BranchTable c.args.self.now c.choose.new.self c.args.l q.ready q.below q.lies e.same e.chosen)
    _ c.in_err-self.ensures _ c.from_residual.ensures.0

pub returns : goal.returns
returns g c =
    let q = c.requires in
    let e = c.choose.ensures in
    tried_ok g.B.Book g.T.BranchTable c.args.self.now c.choose.new.self
    (chosen_there g.B.Book g.T.BranchTable c.args.self.now c.choose.new.self c.args.l q.ready q.below q.lies e.same e.chosen)
    _ c.in_ok-self.ensures
