use Rattle.tables.proofs.Packs.{weight_small}
use Rattle.tables.proofs.packed.weight.Goals as goal

pub returns : goal.returns
returns c = weight_small c.args.place c.requires
