use Rattle.semantics.proofs.Own as lemmas
use Rattle.semantics.proofs.own_model.Goals as goal

pub returns : goal.returns
returns c = record { model = lemmas.own_model_lem; exact = lemmas.own_exact; one = lemmas.one_own; agrees = lemmas.own_agrees }
