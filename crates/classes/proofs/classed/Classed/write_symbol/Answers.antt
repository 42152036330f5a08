use Rattle.std.proofs.Common.{arith}
use Rattle.classes.specs.Symbols.{view}
use Rattle.classes.proofs.Whole.{small}
use Rattle.classes.proofs.Writing.{read_tells, wrote_more}
use Rattle.classes.proofs.classed.Classed.write_symbol.Goals as goal

pub loop-y-preserved : goal.loop-y-preserved
loop-y-preserved g c =
    let v = view g.T.BranchTable.marks c.args.self.now in
    let holds =
    read_tells v (small c.args.self.now.classes.now) c.args.symbol c.holding-holding.result c.loop-x.x c.loop-y.y c.leader.result c.leader-in-loop-y.result c.has-holds.result
    c.holding-holding.ensures (omega arith) c.leader.ensures c.leader-in-loop-y.ensures c.has-holds.ensures in
    wrote_more _ _ c.args.symbol c.args.memory.now c.loop-x.x c.loop-y.y c.loop-y.memory c.put.new.memory c.atom.result c.has-holds.result c.loop-y.invariant
    c.requires.lawful (omega arith) (omega arith) (omega arith) c.atom.ensures holds c.put.ensures
