-- What is said of the interpretation that bytes stand for.
use Rattle.std.specs.Prelude.{ℕ, Bool, List, Option, MatchOption, Decides}
use Rattle.syntax.specs.declared.counts.Counts.{Counts}
use Rattle.syntax.specs.declared.types.Literal.{Literal}
use Rattle.syntax.specs.Lawful.{LawfulLiteral}
use Rattle.semantics.specs.Meaning.{Clause, Interpretation, Assignment, Assigns, Holds, Satisfies}
use Rattle.semantics.specs.Bytes.{BytesOf}
use Rattle.semantics.specs.Checks.{FirstFailing}
use Rattle.instances.specs.Assignments.{names_of}

-- P of each interpretation that has the bytes
abbrev pub InEach : Counts → List ℕ → (Interpretation → Type 0) → Type 0
InEach c bytes P = (I : Interpretation) → BytesOf c I bytes → P I

-- the clause is satisfied, or these are the names of its first failing assignment
abbrev pub ClauseFinding : Counts → Interpretation → Clause → Option (List ℕ) → Type 0
ClauseFinding c I cl r = MatchOption r (Satisfies c I cl) (λ names. FirstFailing c I cl (names_of names))

-- the answer tells whether a literal holds, where the literal is lawful and the assignment gives names below N
pub record Told (c : Counts) (bytes : List ℕ) (σ : Assignment) (l : Literal) (answer : Bool) : Type 0 where
  pub so : Assigns c σ → LawfulLiteral c l → InEach c bytes (λ I. Decides answer (Holds I σ l))
