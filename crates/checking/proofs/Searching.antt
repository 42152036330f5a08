-- The search over the assignments of a clause's variables.
use Rattle.std.proofs.Common.{◌≡◌, ℕ, ◌<◌, ◌≤◌, Bool, true, false, List, length, refl, sym, ap, ◌∙◌, subst, arith}
use Rattle.std.proofs.ByRecursion.{all-has, has_get_or, All-get_or}
use Rattle.std.proofs.lemmas.Bool.{false≢true, cond-false}
use Rattle.std.specs.Bool.{MatchBool, Decides}
use Rattle.std.specs.List.{AllWithin, HoldsAt}
use Rattle.syntax.specs.declared.types.Literal.{Literal}
use Rattle.syntax.specs.declared.types.Atom.TheVariants.{Same}
use Rattle.syntax.specs.declared.types.Term.TheVariants.{Name}
use Rattle.syntax.specs.declared.counts.Counts.{Counts}
use Rattle.syntax.specs.Lawful.{Lawful, LawfulLiteral}
use Rattle.semantics.specs.Meaning.{Clause, Interpretation, value, Assignment, Assigns, SomeHolds, Satisfies}
use Rattle.semantics.specs.Bytes.{BytesOf}
use Rattle.semantics.specs.Checks.{uses, Before, FirstFailing}
use Rattle.semantics.proofs.Instances.{ground_same}
use Rattle.semantics.proofs.Checking.{own_variables}
use Rattle.checking.specs.Values.{Told}
use Rattle.instances.specs.declared.ranges.Ranges.{Ranges}
use Rattle.instances.specs.Assignments.{names_of, RunsThrough, size, nth_assignment}
use Rattle.instances.proofs.Ranging.{within, each_assigns, each_reached, each_later}

-- what the test of each literal comes to
pub any_holds :
    (c : Counts) (bytes : List ℕ) (I : Interpretation) (σ : Assignment) (cl : Clause) (r : Bool) → Assigns c σ → BytesOf c I bytes → Lawful c cl →
    MatchBool r ((k : ℕ) × (k < length cl) × HoldsAt (λ l. Told c bytes σ l true) cl k) (AllWithin (λ l. Told c bytes σ l false) cl 0 (length cl)) →
    Decides r (SomeHolds I σ cl)
any_holds c bytes I σ cl true assigns b law (k, lt, at) =
    let d : Literal = record { sign = true; atom = Same (Name 0) (Name 0) } in
    (λ _. (_, has_get_or cl k d lt, ((at d).so assigns (All-get_or (LawfulLiteral c) cl k d lt law.each) I b).0 refl), λ _. refl)
any_holds c bytes I σ cl false assigns b law h = (
  λ e. absurd (false≢true e),
  λ t.
      let told : Told c bytes σ t.0 false = subst (λ l. Told c bytes σ l false) (t.1.2 t.0) (h t.1.0 t.0 (omega arith) t.1.1) in
      (told.so assigns (all-has (LawfulLiteral c) cl t.0 law.each t.1) I b).1 t.2,
)

-- what holds rests on the four names alone
regroup : (c : Counts) (I : Interpretation) (cl : Clause) (σ τ : Assignment) → Lawful c cl → ((v : ℕ) → v < 4 → σ v ≡ τ v) → SomeHolds I σ cl → SomeHolds I τ cl
regroup c I cl σ τ law e t =
    (t.0, t.1, sym (ap (value I) (ground_same c σ τ t.0.atom e (all-has (LawfulLiteral c) cl t.0 law.each t.1))) ∙ t.2)

module _ (c : Counts) (I : Interpretation) (cl : Clause) (r : Ranges) (law : Lawful c cl) (is : RunsThrough c cl r) (k : ℕ) (before : (n : ℕ) → n < k → SomeHolds I (names_of (nth_assignment r n)) cl) where
  -- each assignment was tried
  pub passed_all : size r ≤ k → Satisfies c I cl
  passed_all all =
      own_variables c I cl (λ τ p.
      let (n, h, e) = each_reached c cl r τ is p in
      regroup c I cl (names_of (nth_assignment r n)) τ law e (before n (omega arith)))

  -- and this is the first that fails
  pub stopped : k < size r → (SomeHolds I (names_of (nth_assignment r k)) cl → ⊥) → FirstFailing c I cl (names_of (nth_assignment r k))
  stopped inside none =
      let σ = names_of (nth_assignment r k) in
      record {
        proper = record {
          assigns = each_assigns c cl r k is;
          unused = λ v h no. let w = within r k v h in let e = is v h ∙ cond-false (uses v cl) c.names 1 no in omega arith;
        };
        fails = none;
        earlier = λ τ p b.
            let (n, h, e) = each_reached c cl r τ is p in
            let first : Before (names_of (nth_assignment r n)) σ = record {
              at = b.at;
              variable = b.variable;
              alike = λ u lt. e u (omega (arith, b.variable)) ∙ b.alike u lt;
              lower = let f = e b.at b.variable in let l = b.lower in omega arith;
            } in
            regroup c I cl (names_of (nth_assignment r n)) τ law e (before n (each_later r n k h inside first));
      }
