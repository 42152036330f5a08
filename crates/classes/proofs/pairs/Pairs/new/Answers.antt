use Rattle.std.proofs.Common.{◌+◌, ◌*◌}
use Rattle.classes.proofs.Pairing.{none_found}
use Rattle.classes.proofs.pairs.Pairs.new.Goals as goal

pub returns : goal.returns
returns c = λ a b h. none_found (a * 32 + b) h.1
