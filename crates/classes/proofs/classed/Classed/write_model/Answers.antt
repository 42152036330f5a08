use Rattle.std.proofs.Common.{◌≤◌, length, arith}
use Rattle.syntax.specs.Numbers.{atoms}
use Rattle.semantics.specs.Branch.{own}
use Rattle.classes.specs.Leaders.{leader_of}
use Rattle.classes.proofs.Writing.{filled, own_bytes}
use Rattle.classes.proofs.classed.Classed.write_model.Goals as goal

pub returns : goal.returns
returns g c =
    let counts = c.args.self.now.counts in
    let ms = g.T.BranchTable.marks c.args.self.now.table.now in
    let leader = leader_of c.args.self.now.classes.now in
    let room : atoms counts ≤ length c.args.memory.now = omega arith in
    let is = filled counts (own counts ms leader) c.args.memory.now c.loop-k.memory c.loop-k.invariant.better (λ k h. c.loop-k.invariant.right k (omega arith)) in
    record { written = (room, is); model = own_bytes counts ms leader c.args.memory.now c.loop-k.memory room is }
