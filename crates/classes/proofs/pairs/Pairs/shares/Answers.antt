use Rattle.std.proofs.Common.{rules}
use borrow.Author.Tests.{tests}
use Rattle.std.proofs.lemmas.Iterator.{YieldsList-from_slice, YieldsList-from_zip, cases_from_any}
use Rattle.classes.proofs.Pairing.{Both, shared}
use Rattle.classes.proofs.pairs.Pairs.shares.Goals as goal

pub returns : goal.returns
returns c =
    shared c.args.self.now c.args.other.now c.any.result
    (cases_from_any c.any.new.self _ c.any.result Both (λ p. Both p → ⊥) c.any.ensures.ran
    (YieldsList-from_zip (YieldsList-from_slice c.args.self.now.found (cc)) (YieldsList-from_slice c.args.other.now.found (cc)))
    (λ p q k. search (rules, tests)) (λ p q k. search (rules, tests)))
