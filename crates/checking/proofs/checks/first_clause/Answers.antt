use Rattle.std.proofs.Common.{arith, below_more}
use Rattle.checking.proofs.Found.{model}
use Rattle.checking.proofs.checks.first_clause.Goals as goal

pub returns-in-Some : goal.returns-in-Some
returns-in-Some g c I b = record { below = omega arith; earlier = c.loop-i.invariant I b; first = c.in-Some.ensures I b }

pub loop-i-preserved : goal.loop-i-preserved
loop-i-preserved g c I b = below_more _ _ (c.loop-i.invariant I b) (c.in_default.ensures I b)

pub returns : goal.returns
returns g c I b =
    model c.args.candidate.now.counts (g.B.Book.clauses c.args.book.now) I b.over (λ k h. c.loop-i.invariant I b k (omega arith))
