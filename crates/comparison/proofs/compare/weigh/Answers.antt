use Rattle.comparison.proofs.Searches.{equal}
use Rattle.comparison.proofs.compare.weigh.Goals as goal

pub returns-clause-weighed : goal.returns-clause-weighed
returns-clause-weighed g c =
    let one = c.if-parts.ensures.parted in
    equal _ _ _ _ _ _ _ c.requires.forth.counts one.1 one.0 one.2 c.if-parts-2.ensures.parted
