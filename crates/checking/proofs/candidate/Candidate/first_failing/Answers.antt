use Rattle.std.proofs.Common.{ℕ, List, sym, subst, arith, below_more}
use Rattle.std.proofs.lemmas.Bool.Decides.{not_from_Decides}
use Rattle.semantics.specs.Meaning.{Assigns, SomeHolds}
use Rattle.semantics.specs.Checks.{FirstFailing}
use Rattle.instances.specs.Assignments.{names_of, nth_assignment}
use Rattle.instances.proofs.Ranging.{each_assigns}
use Rattle.checking.proofs.Searching.{passed_all, stopped}
use Rattle.checking.proofs.candidate.Candidate.first_failing.Goals as goal

pub returns-then-not-clause_holds : goal.returns-then-not-clause_holds
returns-then-not-clause_holds c I b =
    let k = c.args.self.now.counts in
    let cl = c.args.clause.now in
    let r = c.of_literals-ranges.result in
    let at = c.loop.counter in
    let is = c.of_literals-ranges.ensures in
    let assigns = subst (λ (n : List ℕ). Assigns k (names_of n)) (sym c.loop.invariant.next) (each_assigns k cl r at is) in
    let none = not_from_Decides _ (c.clause_holds.ensures assigns I b) c.if-not-clause_holds.true in
    subst (λ (n : List ℕ). (SomeHolds I (names_of n) cl → ⊥) → FirstFailing k I cl (names_of n)) (sym c.loop.invariant.next)
    (stopped k I cl r c.requires is at (c.loop.invariant.held I b) (omega arith)) none

pub loop-preserved : goal.loop-preserved
loop-preserved c =
    let k = c.args.self.now.counts in
    let cl = c.args.clause.now in
    let r = c.of_literals-ranges.result in
    let at = c.loop.counter in
    let assigns = subst (λ (n : List ℕ). Assigns k (names_of n)) (sym c.loop.invariant.next) (each_assigns k cl r at c.of_literals-ranges.ensures) in
    record {
      next = c.after-next.ensures.next at c.loop.invariant.next;
      held = λ I b.
          let here = (c.clause_holds.ensures assigns I b).0 c.if-not-clause_holds.false in
          below_more (λ n. SomeHolds I (names_of (nth_assignment r n)) cl) at (c.loop.invariant.held I b) (subst (λ (n : List ℕ). SomeHolds I (names_of n) cl) c.loop.invariant.next here);
    }

pub returns : goal.returns
returns c I b =
    passed_all c.args.self.now.counts I c.args.clause.now c.of_literals-ranges.result c.requires c.of_literals-ranges.ensures c.loop.counter (c.loop.invariant.held I b) (omega arith)
