use Rattle.std.proofs.Common.{rules}
use borrow.Author.Tests.{tests}
use Rattle.checking.proofs.Ranges.{all_below}
use Rattle.checking.proofs.candidate.Candidate.all_like.Goals as goal

pub returns : goal.returns
returns c = all_below _ _ _ _ _ _ c.names.ensures c.all.ensures.ran (λ x b q k. search (rules, tests))
