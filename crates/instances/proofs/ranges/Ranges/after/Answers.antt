use Rattle.std.proofs.Common.{sym, arith}
use Rattle.instances.proofs.Ranging.{raised_w, raised_z, raised_y, raised_x, anew}
use Rattle.instances.proofs.ranges.Ranges.after.Goals as goal

pub returns-then-w-self-clause-next : goal.returns-then-w-self-clause-next
returns-then-w-self-clause-next c k e = rw e (sym (raised_w c.args.self k (omega (arith, rw e at c.if-w-self.true))))

pub returns-then-z-self-clause-next : goal.returns-then-z-self-clause-next
returns-then-z-self-clause-next c k e =
    rw e (sym (raised_z c.args.self k (omega (arith, rw e at c.if-w-self.false)) (omega (arith, rw e at c.if-z-self.true))))

pub returns-then-y-self-clause-next : goal.returns-then-y-self-clause-next
returns-then-y-self-clause-next c k e =
    rw e (sym (raised_y c.args.self k (omega (arith, rw e at c.if-w-self.false)) (omega (arith, rw e at c.if-z-self.false)) (omega (arith, rw e at c.if-y-self.true))))

pub returns-then-x-self-clause-next : goal.returns-then-x-self-clause-next
returns-then-x-self-clause-next c k e =
    rw e (sym (raised_x c.args.self k (omega (arith, rw e at c.if-w-self.false)) (omega (arith, rw e at c.if-z-self.false)) (omega (arith, rw e at c.if-y-self.false)) (omega (arith, rw e at c.if-x-self.true))))

pub returns-clause-next : goal.returns-clause-next
returns-clause-next c k e =
    sym (anew c.args.self k (omega (arith, rw e at c.if-w-self.false)) (omega (arith, rw e at c.if-z-self.false)) (omega (arith, rw e at c.if-y-self.false)) (omega (arith, rw e at c.if-x-self.false)))
