-- Every finding, case by case.
use Rattle.std.specs.Prelude.{List, Some, None, Option, Ok, Err, Result, slice_index}
use Rattle.syntax.specs.declared.types.Refusal.{Refusal}
use Rattle.syntax.specs.declared.counts.Counts.{Counts}
use Rattle.semantics.specs.Meaning.{Clause, Interpretation, four, Model}
use Rattle.semantics.specs.Checks.{satisfied, failing, FailsAt}
use Rattle.semantics.specs.Checks as checks
use Rattle.checking.specs.declared.finding.Failure.{Failure}

-- satisfied, or the clause and the names of the variables 0 to 3
abbrev pub listed : Option Failure → checks.Finding
listed None = satisfied
listed (Some f) = failing f.clause (slice_index f.names 0) (slice_index f.names 1) (slice_index f.names 2) (slice_index f.names 3)

-- an answer as the specification lists it
abbrev pub answered : Result (Option Failure) Refusal → Result checks.Finding Refusal
answered (Ok f) = Ok (listed f)
answered (Err e) = Err e

-- what is found in an interpretation
abbrev pub Finds : Counts → List Clause → Interpretation → checks.Finding → Type 0
Finds c clauses I satisfied = Model c clauses I
Finds c clauses I (failing i x y z w) = FailsAt c clauses I i (four x y z w)
