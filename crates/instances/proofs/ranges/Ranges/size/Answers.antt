use Rattle.std.proofs.Common.{arith}
use Rattle.instances.proofs.Ranging.{whole}
use Rattle.instances.proofs.ranges.Ranges.size.Goals as goal

pub returns-clause-few : goal.returns-clause-few
returns-clause-few c = omega (arith, whole c.args.self)
