-- A check has one answer; only the variables of a clause matter.
use Rattle.std.proofs.Common.{◌≡◌, ℕ, zero, suc, ◌<◌, true, cond, ◌⊎◌, List, [], ◌∷◌, length, get_or, Ok, Err, sym, refl, ap, ◌∙◌, subst, ap₂, inl, inr, ⊎_elim, arith}
use Rattle.std.specs.List.{AllByRecursion}
use Rattle.std.proofs.ByRecursion.{all-has, All-get_or, All-weaker, has_get_or}
use Rattle.std.proofs.lemmas.Bool.{cases_eq, cases_order, or_left, or_right, eq-eqb, cond-true, cond-false, cond_both}
use Rattle.syntax.specs.declared.types.Term.{Term}
use Rattle.syntax.specs.declared.types.Term.TheVariants.{Name, Var}
use Rattle.syntax.specs.declared.types.Atom.{Atom}
use Rattle.syntax.specs.declared.types.Atom.TheVariants.{Same, Prop, Rel}
use Rattle.syntax.specs.declared.types.Ground.TheVariants.{Same as Same', Prop as Prop', Rel as Rel'}
use Rattle.syntax.specs.declared.counts.Counts.{Counts}
use Rattle.syntax.specs.Lawful.{Lawful}
use Rattle.semantics.specs.Meaning.{Clause, AllLawful, Interpretation, value, Assignment, four, name_at, ground_of, Satisfies}
use Rattle.semantics.specs.Bytes.{BytesOf}
use Rattle.semantics.specs.Checks.{term_use, atom_use, uses, Before, FirstFailing, FailsAt, satisfied, failing}
use Rattle.semantics.specs.Theorems.{OneAnswer, OwnVariables}
use Rattle.semantics.proofs.Reading.{same_holds}

-- two assignments are alike, or one is counted before the other
abbrev AlikeBelow : Assignment → Assignment → ℕ → Type 0
AlikeBelow σ τ n = (v : ℕ) → v < n → σ v ≡ τ v

abbrev DifferBelow : Assignment → Assignment → ℕ → Type 0
DifferBelow σ τ n = (v : ℕ) × (v < n) × AlikeBelow σ τ v × ((σ v < τ v) ⊎ (τ v < σ v))

first_difference : (σ τ : Assignment) (n : ℕ) → AlikeBelow σ τ n ⊎ DifferBelow σ τ n
first_difference σ τ zero = inl (λ v h. absurd (omega arith))
first_difference σ τ (suc n) =
    ⊎_elim
    (λ below. ⊎_elim
    (λ e. inl (λ v h. ⊎_elim (λ eq. ap σ eq ∙ e ∙ ap τ (sym eq)) (λ ne. below v (omega arith)) (cases_eq v n)))
    (λ differ. inr (n, omega arith, below, differ))
    (cases_order (σ n) (τ n)))
    (λ t. inr (t.0, omega arith, t.2, t.3))
    (first_difference σ τ n)

pub in_order : (σ τ : Assignment) → ((v : ℕ) → v < 4 → σ v ≡ τ v) ⊎ (Before σ τ ⊎ Before τ σ)
in_order σ τ =
    ⊎_elim inl
    (λ t. inr (⊎_elim
    (λ lt. inl (record { at = t.0; variable = t.1; alike = t.2; lower = lt }))
    (λ gt. inr (record { at = t.0; variable = t.1; alike = λ u h. sym (t.2 u h); lower = gt }))
    t.3))
    (first_difference σ τ 4)

module _ (c : Counts) (clauses : List Clause) (bytes : List ℕ) (lawful : AllLawful c clauses) (I J : Interpretation) (b : BytesOf c I bytes) (d : BytesOf c J bytes) where
  abbrev clause_at : ℕ → Clause
  clause_at i = get_or clauses i []

  lawful_at : (i : ℕ) → i < length clauses → Lawful c (clause_at i)
  lawful_at i h = All-get_or (Lawful c) clauses i [] h lawful

  -- what fails in the one is not satisfied in the other
  not_satisfied : (i : ℕ) (σ : Assignment) → FailsAt c clauses I i σ → Satisfies c J (clause_at i) → ⊥
  not_satisfied i σ f sat =
      let assigns = f.first.proper.assigns in
      f.first.fails (same_holds c J I bytes (clause_at i) σ d b (lawful_at i f.below) assigns (sat σ assigns))

  -- nor is its assignment counted before
  not_before : (i : ℕ) (σ τ : Assignment) → FailsAt c clauses I i σ → FirstFailing c J (clause_at i) τ → Before σ τ → ⊥
  not_before i σ τ f g before =
      let proper = f.first.proper in
      f.first.fails (same_holds c J I bytes (clause_at i) σ d b (lawful_at i f.below) proper.assigns (g.earlier σ proper before))

module _ (c : Counts) (clauses : List Clause) (bytes : List ℕ) (lawful : AllLawful c clauses) (I J : Interpretation) (b : BytesOf c I bytes) (d : BytesOf c J bytes) where
  one_clause : (i j : ℕ) (σ τ : Assignment) → FailsAt c clauses I i σ → FailsAt c clauses J j τ → i ≡ j
  one_clause i j σ τ f g =
      ⊎_elim
      (λ e. e)
      (⊎_elim
      (λ lt. absurd (not_satisfied c clauses bytes lawful I J b d i σ f (g.earlier i lt)))
      (λ gt. absurd (not_satisfied c clauses bytes lawful J I d b j τ g (f.earlier j gt))))
      (cases_order i j)

  one_assignment : (i : ℕ) (σ τ : Assignment) → FailsAt c clauses I i σ → FailsAt c clauses J i τ → (v : ℕ) → v < 4 → σ v ≡ τ v
  one_assignment i σ τ f g =
      ⊎_elim
      (λ e. e)
      (⊎_elim
      (λ lt. absurd (not_before c clauses bytes lawful I J b d i σ τ f g.first lt))
      (λ gt. absurd (not_before c clauses bytes lawful J I d b i τ σ g f.first gt)))
      (in_order σ τ)

  one_failing :
      (i x y z w j x' y' z' w' : ℕ) → FailsAt c clauses I i (four x y z w) → FailsAt c clauses J j (four x' y' z' w') →
      failing i x y z w ≡ failing j x' y' z' w'
  one_failing i x y z w j x' y' z' w' f g =
      let e = one_clause i j (four x y z w) (four x' y' z' w') f g in
      let g' = subst (λ (k : ℕ). FailsAt c clauses J k (four x' y' z' w')) (sym e) g in
      let at = one_assignment i (four x y z w) (four x' y' z' w') f g' in
      let ex : x ≡ x' = at 0 (omega arith) in
      let ey : y ≡ y' = at 1 (omega arith) in
      let ez : z ≡ z' = at 2 (omega arith) in
      let ew : w ≡ w' = at 3 (omega arith) in
      cc

pub one_answer : OneAnswer
one_answer c clauses bytes lawful (Err e) (Err f) p q = ap Err (p.1 ∙ sym q.1)
one_answer c clauses bytes lawful (Err e) (Ok satisfied) p q = absurd (p.0 q.0 q.1)
one_answer c clauses bytes lawful (Err e) (Ok (failing i x y z w)) p q = absurd (p.0 q.0 q.1)
one_answer c clauses bytes lawful (Ok satisfied) (Err e) p q = absurd (q.0 p.0 p.1)
one_answer c clauses bytes lawful (Ok (failing i x y z w)) (Err e) p q = absurd (q.0 p.0 p.1)
one_answer c clauses bytes lawful (Ok satisfied) (Ok satisfied) p q = refl
one_answer c clauses bytes lawful (Ok satisfied) (Ok (failing i x y z w)) p q =
    absurd (not_satisfied c clauses bytes lawful q.0 p.0 q.1 p.1 i (four x y z w) q.2 (p.2.all _ (has_get_or clauses i [] q.2.below)))
one_answer c clauses bytes lawful (Ok (failing i x y z w)) (Ok satisfied) p q =
    absurd (not_satisfied c clauses bytes lawful p.0 q.0 p.1 q.1 i (four x y z w) p.2 (q.2.all _ (has_get_or clauses i [] p.2.below)))
one_answer c clauses bytes lawful (Ok (failing i x y z w)) (Ok (failing j x' y' z' w')) p q =
    ap Ok (one_failing c clauses bytes lawful p.0 q.0 p.1 q.1 i x y z w j x' y' z' w' p.2 q.2)

-- a variable of a literal is one of the clause
uses_in : (v : ℕ) (cl : Clause) → AllByRecursion (λ l. atom_use v l.atom ≡ true → uses v cl ≡ true) cl
uses_in v [] = tt
uses_in v (l ∷ ls) = (
  or_left (atom_use v l.atom) (uses v ls),
  All-weaker
      (λ m. atom_use v m.atom ≡ true → uses v ls ≡ true)
      (λ m. atom_use v m.atom ≡ true → uses v (l ∷ ls) ≡ true)
      (λ m f e. or_right (atom_use v l.atom) (uses v ls) (f e))
      ls
      (uses_in v ls),
)

-- an instance rests on the variables of the atom
name_used : (σ τ : Assignment) (t : Term) → ((v : ℕ) → term_use v t ≡ true → σ v ≡ τ v) → name_at σ t ≡ name_at τ t
name_used σ τ (Name a) e = refl
name_used σ τ (Var v) e = e v (eq-eqb v v refl)

pub ground_used : (σ τ : Assignment) (a : Atom) → ((v : ℕ) → atom_use v a ≡ true → σ v ≡ τ v) → ground_of σ a ≡ ground_of τ a
ground_used σ τ (Same t u) e = ap₂ Same' (name_used σ τ t (λ v h. e v (or_left _ _ h))) (name_used σ τ u (λ v h. e v (or_right _ _ h)))
ground_used σ τ (Prop p t) e = ap (Prop' p) (name_used σ τ t e)
ground_used σ τ (Rel r t u) e = ap₂ (Rel' r) (name_used σ τ t (λ v h. e v (or_left _ _ h))) (name_used σ τ u (λ v h. e v (or_right _ _ h)))

pub own_variables : OwnVariables
own_variables c I cl each σ assigns =
    let τ : Assignment = λ v. cond (uses v cl) (σ v) 0 in
    let some = each τ (record {
      assigns = λ v h. cond_both (uses v cl) (σ v) 0 (λ n. n < c.names) (λ _. assigns v h) (λ _. c.some);
      unused = λ v h e. cond-false (uses v cl) (σ v) 0 e;
    }) in
    let l = some.0 in
    let same = ground_used τ σ l.atom (λ v u. cond-true (uses v cl) (σ v) 0 (all-has (λ m. atom_use v m.atom ≡ true → uses v cl ≡ true) cl l (uses_in v cl) some.1 u)) in
    (l, some.1, sym (ap (value I) same) ∙ some.2)
