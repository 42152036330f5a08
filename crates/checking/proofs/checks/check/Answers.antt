use Rattle.std.proofs.Common.{ℕ, List, refl, ◌∙◌, subst}
use Rattle.syntax.specs.declared.counts.Counts.{Counts}
use Rattle.semantics.specs.Meaning.{Interpretation}
use Rattle.semantics.specs.Bytes.{BytesOf}
use Rattle.checking.specs.Values.{InEach}
use Rattle.checking.specs.Findings.{listed, Finds}
use Rattle.checking.proofs.Found.{checked}
use Rattle.checking.proofs.checks.check.Goals as goal

pub returns-in_default : goal.returns-in_default
returns-in_default g c =
    (subst (λ (k : Counts). (I : Interpretation) → BytesOf k I c.args.bytes.now → ⊥) c.counts.ensures c.in_default.ensures, refl)

pub returns : goal.returns
returns g c =
    let counts = g.B.Book.counts c.args.book.now in
    let clauses = g.B.Book.clauses c.args.book.now in
    let bytes = c.args.bytes.now in
    let f = listed c.first_clause.result in
    let m = c.in-Some.candidate in
    let a = c.in-Some.ensures in
    let there = subst (λ (xs : List ℕ). InEach m.counts xs (λ I. Finds m.counts clauses I f)) a.1 c.first_clause.ensures in
    let here = subst (λ (k : Counts). InEach k bytes (λ I. Finds k clauses I f)) (a.0 ∙ c.counts.ensures) there in
    let b = subst (λ (k : Counts). BytesOf k a.2 bytes) c.counts.ensures a.3 in
    checked counts clauses bytes a.2 f b (here a.2 b)
