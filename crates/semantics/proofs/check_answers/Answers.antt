use Rattle.semantics.proofs.Checking as lemmas
use Rattle.semantics.proofs.check_answers.Goals as goal

pub returns : goal.returns
returns c = record { one = lemmas.one_answer; own = lemmas.own_variables }
