use Rattle.std.proofs.Common.{◌∙◌, subst}
use Rattle.semantics.specs.Meaning.{Clause}
use Rattle.checking.specs.Values.{ClauseFinding}
use Rattle.checking.proofs.candidate.Candidate.failing_in.Goals as goal

pub returns : goal.returns
returns g c I b =
    subst (λ (cl : Clause). ClauseFinding c.args.self.now.counts I cl c.first_failing.result) (c.deref.ensures.0 ∙ c.read.ensures) (c.first_failing.ensures I b)
