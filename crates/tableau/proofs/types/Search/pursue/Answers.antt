use Rattle.std.proofs.Common.{ap, arith}
use Rattle.syntax.specs.Numbers.{atoms}
use Rattle.tableau.proofs.States.{trail_le}
use Rattle.tableau.proofs.types.Search.pursue.Goals as goal

pub loop-at-smaller : goal.loop-at-smaller
loop-at-smaller g c =
    omega (arith, c.in-Some.ensures.0, trail_le c.loop-at.invariant.1.state, ap (λ k. atoms (g.B.Book.counts k.now)) c.loop-at.invariant.0.same.book)

pub overflow_add-at : goal.overflow_add-at
overflow_add-at g c = omega (arith, c.in-Some.ensures.0, trail_le c.loop-at.invariant.1.state, c.loop-at.invariant.1.state.roomy.short)
