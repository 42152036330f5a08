use Rattle.std.proofs.Common.{◌/◌, ◌%◌, ap}
use Rattle.tables.proofs.Packs.{two_bits}
use Rattle.tables.proofs.packed.digit_of.Goals as goal

pub returns : goal.returns
returns c = ap (λ w. c.args.byte / w % 4) (two_bits c.args.place c.requires)
