use Rattle.std.proofs.Common.{refl}
use Rattle.comparison.proofs.Searches.{comparable, compared}
use Rattle.comparison.proofs.compare.compare.Goals as goal

pub weigh-answer-requires-clause-forth : goal.weigh-answer-requires-clause-forth
weigh-answer-requires-clause-forth g c = (comparable _ _ _ _ _ _ c.in_ok-check.ensures).0

pub weigh-answer-requires-clause-back : goal.weigh-answer-requires-clause-back
weigh-answer-requires-clause-back g c = (comparable _ _ _ _ _ _ c.in_ok-check.ensures).1

pub returns-clause-compared : goal.returns-clause-compared
returns-clause-compared g c =
    let k = g.F.Book.counts c.args.first.now in
    let d = g.S.Book.counts c.args.second.now in
    let is = c.clear.ensures in
    compared k d _ _ _ _ _ _ _ c.in_ok-check.ensures c.weigh-answer.ensures.weighed is.cleared is.room is.loan refl refl refl
