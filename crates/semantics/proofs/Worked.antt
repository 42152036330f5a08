-- The worked examples, from the definitions.
use Rattle.std.proofs.Common.{◌≡◌, ℕ, ◌<◌, true, false, eqb, ◌⊎◌, List, [], ◌∷◌, refl, ap, ◌∙◌, inl, inr, ⊎_elim, arith}
use Rattle.std.specs.List.{AllByRecursion}
use Rattle.std.proofs.ByRecursion.{all-has, All-weaker, has_append_right}
use Rattle.std.proofs.lemmas.Bool.{eqb-true, eq-eqb, both_ways}
use Rattle.syntax.specs.declared.types.Ground.TheVariants.{Same, Prop, Rel}
use Rattle.syntax.specs.declared.counts.Counts.{Counts}
use Rattle.semantics.specs.Meaning.{Clause, Interpretation, Over, value, Assignment, Assigns, four, Holds, SomeHolds, Satisfies, Model}
use Rattle.semantics.specs.Examples.{sub, function, ref, irref, is, isnt, has, eq, ne}
use Rattle.semantics.specs.Theorems.{AllExamples}
use Rattle.semantics.proofs.Finite.{all_from}
use Rattle.semantics.proofs.Instances.{four_below}
use Rattle.semantics.proofs.Suppose.{unit_out, unit_in}

-- that some literal holds, literal by literal
abbrev pub OneOf : Interpretation → Assignment → Clause → Type 0
OneOf I σ [] = ⊥
OneOf I σ (l ∷ ls) = Holds I σ l ⊎ OneOf I σ ls

each_of : (I : Interpretation) (σ : Assignment) (cl : Clause) → AllByRecursion (λ l. Holds I σ l → OneOf I σ cl) cl
each_of I σ [] = tt
each_of I σ (l ∷ ls) = (inl, All-weaker (λ m. Holds I σ m → OneOf I σ ls) (λ m. Holds I σ m → OneOf I σ (l ∷ ls)) (λ m f h. inr (f h)) ls (each_of I σ ls))

pub one_of : (I : Interpretation) (σ : Assignment) (cl : Clause) → SomeHolds I σ cl → OneOf I σ cl
one_of I σ cl some = all-has (λ l. Holds I σ l → OneOf I σ cl) cl some.0 (each_of I σ cl) some.1 some.2

pub some_of : (I : Interpretation) (σ : Assignment) (cl : Clause) → OneOf I σ cl → SomeHolds I σ cl
some_of I σ [] h = absurd h
some_of I σ (l ∷ ls) (inl h) = (l, (0, omega arith, λ d. refl), h)
some_of I σ (l ∷ ls) (inr h) = let some = some_of I σ ls h in (some.0, has_append_right (l ∷ []) ls some.0 some.1, some.2)

-- a model, clause by clause
pub model_from : (c : Counts) (I : Interpretation) (clauses : List Clause) → Over c I → AllByRecursion (Satisfies c I) clauses → Model c clauses I
model_from c I clauses over sats = record { over = over; all = λ cl i. all-has (Satisfies c I) clauses cl sats i }

pub clause_by_clause : (c : Counts) (I : Interpretation) (clauses : List Clause) → Model c clauses I → AllByRecursion (Satisfies c I) clauses
clause_by_clause c I clauses model = all_from (Satisfies c I) clauses model.all

-- all names go to one thing, of which everything holds
abbrev point : Interpretation
point = record { thing = λ a. 0; prop = λ p t. true; rel = λ r t u. true }

-- each name is a thing of its own
abbrev apart : Interpretation
apart = record { thing = λ a. a; prop = λ p t. true; rel = λ r t u. true }

-- all names go to one thing, which has q alone
abbrev only : ℕ → Interpretation
only q = record { thing = λ a. 0; prop = λ p t. eqb p q; rel = λ r t u. true }

abbrev zeros : Assignment
zeros v = 0

module _ (c : Counts) where
  zeros_assign : Assigns c zeros
  zeros_assign v h = c.some

  not_itself : (a : ℕ) (I : Interpretation) → Model c (ne a a ∷ []) I → ⊥
  not_itself a I m =
      let sats = clause_by_clause c I (ne a a ∷ []) m in
      both_ways _ (unit_out c I (Same a a) false sats.0) (eq-eqb (I.thing a) (I.thing a) refl)

  equal_names_differ : (a b p : ℕ) (I : Interpretation) → Model c (is a p ∷ isnt b p ∷ eq a b ∷ []) I → ⊥
  equal_names_differ a b p I m =
      let sats = clause_by_clause c I (is a p ∷ isnt b p ∷ eq a b ∷ []) m in
      let e = eqb-true _ _ (unit_out c I (Same a b) true sats.1.1.0) in
      both_ways _ (ap (I.prop p) e ∙ unit_out c I (Prop p b) false sats.1.0) (unit_out c I (Prop p a) true sats.0)

  two_values :
      (a b d r : ℕ) → a < c.names → b < c.names → d < c.names → (I : Interpretation) →
      Model c (function r ∷ has a r b ∷ has a r d ∷ []) I → value I (Same b d) ≡ true
  two_values a b d r ha hb hd I m =
      let sats = clause_by_clause c I (function r ∷ has a r b ∷ has a r d ∷ []) m in
      let σ = four a b d a in
      ⊎_elim
      (λ n. absurd (both_ways _ n (unit_out c I (Rel r a b) true sats.1.0)))
      (⊎_elim
      (λ n. absurd (both_ways _ n (unit_out c I (Rel r a d) true sats.1.1.0)))
      (⊎_elim (λ e. e) (λ z. absurd z)))
      (one_of I σ (function r) (sats.0 σ (four_below c.names a b d a ha hb hd ha)))

  chained : (p q s : ℕ) (I : Interpretation) → Satisfies c I (sub p q) → Satisfies c I (sub q s) → Satisfies c I (sub p s)
  chained p q s I one two σ assigns =
      some_of I σ (sub p s)
      (⊎_elim
      inl
      (⊎_elim
      (λ y. ⊎_elim (λ n. absurd (both_ways _ n y)) inr (one_of I σ (sub q s) (two σ assigns)))
      (λ z. absurd z))
      (one_of I σ (sub p q) (one σ assigns)))

  one_way : (p q : ℕ) → (p ≡ q → ⊥) → Model c (sub q p ∷ []) (only q) → ⊥
  one_way p q ne m =
      let sats = clause_by_clause c (only q) (sub q p ∷ []) m in
      ⊎_elim
      (λ n. both_ways _ n (eq-eqb q q refl))
      (⊎_elim (λ y. ne (eqb-true p q y)) (λ z. z))
      (one_of (only q) zeros (sub q p) (sats.0 zeros zeros_assign))

  same_and_not : (a b : ℕ) (I : Interpretation) → Model c (eq a b ∷ ne a b ∷ []) I → ⊥
  same_and_not a b I m =
      let sats = clause_by_clause c I (eq a b ∷ ne a b ∷ []) m in
      both_ways _ (unit_out c I (Same a b) false sats.1.0) (unit_out c I (Same a b) true sats.0)

  ref_and_not : (r : ℕ) (I : Interpretation) → Model c (ref r ∷ irref r ∷ []) I → ⊥
  ref_and_not r I m =
      let sats = clause_by_clause c I (ref r ∷ irref r ∷ []) m in
      ⊎_elim
      (λ y. ⊎_elim (λ n. both_ways _ n y) (λ z. z) (one_of I zeros (irref r) (sats.1.0 zeros zeros_assign)))
      (λ z. z)
      (one_of I zeros (ref r) (sats.0 zeros zeros_assign))

pub examples : AllExamples
examples c = record {
  nothing_said = λ e. (point, model_from c point [] (λ a h. c.some) tt);
  not_itself = λ a t. not_itself c a t.0 t.1;
  equal_names_differ = λ a b p t. equal_names_differ c a b p t.0 t.1;
  two_values = λ a b d r ha hb hd. (
    (
      point,
      model_from c point (function r ∷ has a r b ∷ has a r d ∷ []) (λ x h. c.some) (
        (λ σ assigns. some_of point σ (function r) (inr (inr (inl refl)))),
        (unit_in c point (Rel r a b) true refl, (unit_in c point (Rel r a d) true refl, tt)),
      ),
    ),
    two_values c a b d r ha hb hd,
  );
  two_names = λ e. (
    ((point, model_from c point [] (λ a h. c.some) tt, refl), (apart, model_from c apart [] (λ a h. h) tt, refl)),
    ((point, model_from c point [] (λ a h. c.some) tt), λ I m. eq-eqb (I.thing 0) (I.thing 0) refl),
  );
  chain = λ p q s. (
    λ I m.
        let sats = clause_by_clause c I (sub p q ∷ sub q s ∷ []) m in
        model_from c I (sub p q ∷ sub q s ∷ sub p s ∷ []) m.over (sats.0, (sats.1.0, (chained c p q s I sats.0 sats.1.0, tt))),
    λ I m.
        let sats = clause_by_clause c I (sub p q ∷ sub q s ∷ sub p s ∷ []) m in
        model_from c I (sub p q ∷ sub q s ∷ []) m.over (sats.0, (sats.1.0, tt)),
  );
  one_way = λ p q ne. (
    only q,
    model_from c (only q) (sub p q ∷ []) (λ a h. c.some) ((λ σ assigns. some_of (only q) σ (sub p q) (inr (inl (eq-eqb q q refl)))), tt),
    one_way c p q ne,
  );
  both_contradictory = λ a b r. (λ I m. absurd (same_and_not c a b I m), λ I m. absurd (ref_and_not c r I m));
}
