use Rattle.tables.proofs.Counts.{one_more, one_less, none_left, at_most, fewer}
use Rattle.tables.proofs.counting.counting_laws.Goals as goal

pub returns-clause-more : goal.returns-clause-more
returns-clause-more c = one_more

pub returns-clause-less : goal.returns-clause-less
returns-clause-less c = one_less

pub returns-clause-left : goal.returns-clause-left
returns-clause-left c = none_left

pub returns-clause-most : goal.returns-clause-most
returns-clause-most c = at_most

pub returns-clause-fewer : goal.returns-clause-fewer
returns-clause-fewer c = fewer
