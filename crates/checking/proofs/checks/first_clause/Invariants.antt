use Rattle.std.proofs.Common.{ℕ, ◌<◌, [], get_or}
use Rattle.semantics.specs.Meaning.{Satisfies}
use Rattle.checking.specs.Values.{InEach}
use Rattle.checking.proofs.checks.first_clause.Given as goal

-- the clauses before i are satisfied
abbrev pub invariant-loop-i : goal.invariant-loop-i
invariant-loop-i g l =
    InEach l.candidate.counts l.candidate.bytes.now (λ I. (k : ℕ) → k < l.i → Satisfies l.candidate.counts I (get_or (g.B.Book.clauses l.book) k []))
