use Rattle.syntax.proofs.Laws as laws
use Rattle.syntax.proofs.numbers.numbering_laws.Goals as goal

pub returns : goal.returns
returns c = record { few = laws.few; below = laws.below_all; apart = laws.apart; onto = laws.onto }
