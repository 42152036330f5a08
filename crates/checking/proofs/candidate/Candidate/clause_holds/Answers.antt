use Rattle.std.proofs.Common.{true, false, rules}
use Rattle.std.proofs.lemmas.Iterator.{cases_from_any, YieldsList-from_slice}
use borrow.Author.Tests.{tests}
use Rattle.instances.specs.Assignments.{names_of}
use Rattle.checking.specs.Values.{Told}
use Rattle.checking.proofs.Searching.{any_holds}
use Rattle.checking.proofs.candidate.Candidate.clause_holds.Goals as goal

pub returns : goal.returns
returns c assigns I b =
    let k = c.args.self.now.counts in
    let bytes = c.args.self.now.bytes.now in
    let σ = names_of c.args.names in
    any_holds k bytes I σ c.args.clause.now c.any.result assigns b c.requires
    (cases_from_any c.any.new.self _ _ (λ l. Told k bytes σ l true) (λ l. Told k bytes σ l false) c.any.ensures.ran
    (YieldsList-from_slice c.args.clause.now c.iter.ensures.rest) (λ x q h. search (rules, tests)) (λ x q h. search (rules, tests)))
