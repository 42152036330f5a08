use Rattle.books.proofs.Settled.{open_settled, enter_settled, strike_settled, suppose_settled}
use Rattle.books.proofs.laws.call_laws.Goals as goal

pub returns : goal.returns
returns c = record { opens = open_settled; enters = enter_settled; strikes = strike_settled; supposes = suppose_settled }
