use Rattle.std.proofs.Common.{◌≡◌, [], get_or, rules, refl, arith}
use Rattle.std.proofs.lemmas.Iterator.{YieldsList-from_range, cases_from_any}
use borrow.Author.Tests.{tests}
use Rattle.comparison.proofs.Wording.{stands}
use Rattle.comparison.proofs.words.stands_in.Goals as goal

pub returns : goal.returns
returns g c =
    let cs = g.F.Book.clauses c.args.one.now in
    let cl = get_or (g.S.Book.clauses c.args.other.now) c.args.i [] in
    stands cs cl c.len.result c.any.result c.len.ensures (cases_from_any _ _ _ (λ k. get_or cs k [] ≡ cl) (λ k. get_or cs k [] ≡ cl → ⊥) c.any.ensures.ran (YieldsList-from_range 0 c.len.result c.len.result refl (omega arith)) (λ x q h. search (rules, tests)) (λ x q h. search (rules, tests)))
