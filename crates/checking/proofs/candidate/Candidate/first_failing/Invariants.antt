use Rattle.std.proofs.Common.{◌≡◌, ℕ, ◌<◌}
use Rattle.semantics.specs.Meaning.{SomeHolds}
use Rattle.instances.specs.Assignments.{names_of, nth_assignment}
use Rattle.checking.specs.Values.{InEach}
use Rattle.checking.proofs.candidate.Candidate.first_failing.Given as goal

-- the names are the next assignment's, and the clause holds under those before
abbrev pub invariant-loop : goal.invariant-loop
invariant-loop l = record {
  next : l.names ≡ nth_assignment l.ranges l.counter;
  held : InEach l.self.counts l.self.bytes.now (λ I. (n : ℕ) → n < l.counter → SomeHolds I (names_of (nth_assignment l.ranges n)) l.clause);
}
