-- What the walk over a book's clauses comes to.
use Rattle.std.proofs.Common.{◌≡◌, ℕ, ◌<◌, Bool, List, [], length, get_or, Some, None, Option, Ok, sym, ◌∙◌, subst}
use Rattle.std.proofs.lemmas.Bool.{false≢true}
use Rattle.std.specs.Bool.{Decides}
use Rattle.std.specs.Option.{is_some}
use Rattle.syntax.specs.declared.counts.Counts.{Counts}
use Rattle.semantics.specs.Meaning.{Clause, Interpretation, Over, Satisfies, Model}
use Rattle.semantics.specs.Bytes.{BytesOf}
use Rattle.semantics.specs.Checks.{Finding, satisfied, failing, Checked}
use Rattle.checking.specs.declared.candidate.Candidate.{Candidate}
use Rattle.checking.specs.Alike.{Accepted}
use Rattle.checking.specs.Findings.{Finds}
use Rattle.checking.proofs.Congruence.{Interpreted}

pub model : (c : Counts) (clauses : List Clause) (I : Interpretation) → Over c I → ((k : ℕ) → k < length clauses → Satisfies c I (get_or clauses k [])) → Model c clauses I
model c clauses I over each = record {
  over = over;
  all = λ cl t. subst (λ (k : Clause). Satisfies c I k) (t.2 []) (each t.0 t.1);
}

pub checked : (c : Counts) (clauses : List Clause) (bytes : List ℕ) (I : Interpretation) (f : Finding) → BytesOf c I bytes → Finds c clauses I f → Checked c clauses bytes (Ok f)
checked c clauses bytes I satisfied b h = (I, b, h)
checked c clauses bytes I (failing i x y z w) b h = (I, b, h)

pub accepted : (c : Counts) (bytes : List ℕ) (r : Option Candidate) (b : Bool) → b ≡ is_some r → Accepted c bytes r → Decides b (Interpreted c bytes)
accepted c bytes (Some m) b e h = (λ _. (h.2, h.3), λ _. e)
accepted c bytes None b e h = (λ t. absurd (false≢true (sym e ∙ t)), λ t. absurd (h t.0 t.1))
