use Rattle.std.proofs.lemmas.Result.{err_from_is_err_and}
use Rattle.questions.proofs.Settling.{names_asked, names_refused}
use Rattle.questions.proofs.ask.same.Goals as goal

pub returns-in_err-holds-clause-asked : goal.returns-in_err-holds-clause-asked
returns-in_err-holds-clause-asked g c =
    let p = err_from_is_err_and c.from_residual.result c.from_residual.ensures.1 in
    λ model. rw (p.1, p.2) (names_refused _ _ _ _ _ _ _ c.same_literal.ensures _ (c.in_err-holds.ensures.asked model))

pub returns-clause-asked : goal.returns-clause-asked
returns-clause-asked g c =
    λ model. names_asked _ _ _ _ _ _ _ c.same_literal.ensures _ _ c.from.ensures (c.in_ok-holds.ensures.asked model)
