use Rattle.questions.proofs.Truths.{one_certainty, one_sameness, exact_certainty, exact_sameness}
use Rattle.questions.proofs.laws.question_laws.Goals as goal

pub returns : goal.returns
returns c = record { holds = one_certainty; same = one_sameness; exact = exact_certainty; names = exact_sameness }
