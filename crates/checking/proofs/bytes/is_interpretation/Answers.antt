use Rattle.checking.proofs.Found.{accepted}
use Rattle.checking.proofs.bytes.is_interpretation.Goals as goal

pub returns : goal.returns
returns c = accepted c.args.counts c.args.bytes.now c.of.result c.is_some.result c.is_some.ensures c.of.ensures
