use Rattle.std.proofs.Common.{◌+◌, sym, subst, arith}
use Rattle.std.proofs.lemmas.Bool.Decides.{not_from_Decides}
use Rattle.classes.specs.Symbols.{view}
use Rattle.classes.proofs.Gathering.{Sofar, found_pass, found_put, found_row}
use Rattle.classes.proofs.classed.Classed.found.Goals as goal
use Rattle.classes.proofs.classed.Classed.found.Goals.{then-stands, else-stands}

pub loop-y-preserved : goal.loop-y-preserved
loop-y-preserved g c =
    let v = view g.T.BranchTable.marks c.args.self.now in
    let State = Sofar v c.args.symbol c.args.mark c.loop-x.x (c.loop-y.y + 1) in
    let stood = c.stands.ensures c.requires (omega arith) (omega arith) in
    elim c.if-stands.branch [
      | then-stands w ↦
          subst State (sym w.pairs-is)
          (found_put v _ _ c.loop-x.x c.loop-y.y c.loop-y.pairs _ _ _ c.loop-y.invariant (omega arith) (omega arith) (stood.0 w.if-stands.true)
          w.leader.ensures w.leader-then-stands.ensures w.add.ensures.here w.add.ensures.more w.add.ensures.only)
      | else-stands w ↦
          subst State (sym w.pairs-is)
          (found_pass v _ _ c.loop-x.x c.loop-y.y c.loop-y.pairs c.loop-y.invariant (not_from_Decides _ stood w.if-stands.false))
    ]

pub loop-x-preserved : goal.loop-x-preserved
loop-x-preserved g c = found_row _ _ _ c.loop-x.x c.loop-y.y c.loop-y.pairs (omega arith) c.loop-y.invariant
