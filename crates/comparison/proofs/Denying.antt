-- The denials of an instance, supposed one after the other.
use Rattle.std.proofs.Common.{◌≡◌, ◌+◌, ◌≤◌, List, [], ◌∷◌, ◌++◌, length, Result, sym, ap, ◌∙◌, subst, append_assoc, arith, length-append}
use Rattle.std.specs.List.{AllByRecursion}
use Rattle.syntax.specs.declared.types.Literal.{Literal}
use Rattle.syntax.specs.declared.types.Refusal.{Refusal}
use Rattle.syntax.specs.declared.counts.Counts.{Counts}
use Rattle.syntax.specs.Lawful.{LawfulLiteral, GroundLiteral}
use Rattle.semantics.specs.Meaning.{Clause, Assignment, Assigns}
use Rattle.semantics.specs.Suppositions.{denials}
use Rattle.semantics.proofs.Instances.{instance_lawful}
use Rattle.books.specs.Suppositions.{Supposed}
use Rattle.instances.specs.Assignments.{denial}
use Rattle.questions.proofs.Settling.{supposed_done}

-- the layer means the clauses ds and holds the literals held; the denials of the literals left to go through will complete it
pub record Denying (c : Counts) (σ : Assignment) (cl : Clause) (cs ds : List Clause) (held : List Literal) (left : Clause) : Type 0 where
  pub lawful : AllByRecursion (LawfulLiteral c) left
  pub room : length held + length left ≤ 8
  pub few : length ds + length left ≤ 65535
  pub so : ds ++ denials σ left ≡ cs ++ denials σ cl

pub deny_more :
    (c d : Counts) (σ : Assignment) (cl : Clause) (cs ds es : List Clause) (held holds : List Literal) (l n : Literal) (rest : Clause) (r : Result Unit Refusal) →
    d ≡ c → Assigns c σ → n ≡ denial σ l → Denying c σ cl cs ds held (l ∷ rest) → Supposed d ds held n r es holds → Denying c σ cl cs es holds rest
deny_more c d σ cl cs ds es held holds l n rest r dc assigns is before done =
    let g : GroundLiteral d n =
    subst (λ (x : Literal). GroundLiteral d x) (sym is) (subst (λ (k : Counts). GroundLiteral k (denial σ l)) (sym dc) (instance_lawful c σ l assigns before.lawful.0)) in
    let s = supposed_done d ds held n r es holds done g (omega (arith, before.room)) (omega (arith, before.few)) in
    let last : List Clause = (denial σ l ∷ []) ∷ [] in
    let ends : es ≡ ds ++ last = s.0 ∙ ap (λ (x : Literal). ds ++ (x ∷ []) ∷ []) is in
    record {
      lawful = before.lawful.1;
      room = omega (arith, before.room, ap length s.1, length-append held (n ∷ []));
      few = omega (arith, before.few, ap length ends, length-append ds last);
      so = ap (λ (xs : List Clause). xs ++ denials σ rest) ends ∙ append_assoc ds last (denials σ rest) ∙ before.so;
    }
