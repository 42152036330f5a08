-- Leaders, as the classes of two names are joined.
use Rattle.std.proofs.Common.{◌≡◌, ℕ, ◌<◌, ◌≤◌, min, max, ◌⊎◌, List, length, sym, ap, ◌∙◌, subst, inl, inr, ⊎_elim, arith}
use Rattle.std.proofs.lemmas.Bool.{cases_eq, cases_lt, cond-true, cond-false, eq-eqb, ne_eqb}
use Rattle.syntax.specs.declared.types.Ground.TheVariants.{Same}
use Rattle.syntax.specs.declared.types.Mark.TheVariants.{Yes}
use Rattle.syntax.specs.declared.counts.Counts.{Counts}
use Rattle.semantics.specs.Branch.{Branch, mark_at, Linked, self, told, back, on, ClassTable}
use Rattle.semantics.proofs.Own.{table_from}
use Rattle.classes.specs.Linking.{Coarser, Joined, Leading, leader_in, relabel}

relabel_cases : (p q v : ℕ) → ((v ≡ max p q) × (relabel p q v ≡ min p q)) ⊎ ((v ≡ max p q → ⊥) × (relabel p q v ≡ v))
relabel_cases p q v = ⊎_elim (λ e. inl (e, cond-true _ _ _ (eq-eqb _ _ e))) (λ ne. inr (ne, cond-false _ _ _ (ne_eqb _ _ ne))) (cases_eq v (max p q))

-- each name its own leader
pub leading_apart : (c : Counts) (marks : Branch) (leaders : List ℕ) → length leaders ≡ 32 → ((a : ℕ) → a < 32 → leader_in leaders a ≡ a) → Leading c marks leaders
leading_apart c marks leaders whole own =
    record {
      whole = whole;
      linked = λ a h. subst (Linked c marks a) (sym (own a (omega (arith, c.few)))) (self h);
      low = λ a h. omega (arith, own a h);
      lead = λ a h. ap (leader_in leaders) (own a h);
    }

-- leaders relabelled by those of a and b
module _ (c : Counts) (marks : Branch) (before after : List ℕ) (a b : ℕ) (ha : a < c.names) (hb : b < c.names)
    (is : Leading c marks before) (whole : length after ≡ 32)
    (moved : (k : ℕ) → k < 32 → leader_in after k ≡ relabel (leader_in before a) (leader_in before b) (leader_in before k)) where
  abbrev p : ℕ
  p = leader_in before a

  abbrev q : ℕ
  q = leader_in before b

  within : (k : ℕ) → k < c.names → k < 32
  within k h = omega (arith, c.few)

  -- where a leader is moved to
  went : (k : ℕ) → k < 32 → ((leader_in before k ≡ max p q) × (leader_in after k ≡ min p q)) ⊎ ((leader_in before k ≡ max p q → ⊥) × (leader_in after k ≡ leader_in before k))
  went k h = ⊎_elim (λ t. inl (t.0, moved k h ∙ t.1)) (λ t. inr (t.0, moved k h ∙ t.1)) (relabel_cases p q (leader_in before k))

  pub join_coarser : Coarser before after
  join_coarser x y hx hy e = moved x hx ∙ ap (relabel p q) e ∙ sym (moved y hy)

  pub join_one : leader_in after a ≡ leader_in after b
  join_one = omega (arith, went a (within a ha), went b (within b hb))

  join_low : (k : ℕ) → k < 32 → leader_in after k ≤ k
  join_low k h = omega (arith, went k h, is.low k h)

  -- the lower of the two leads itself
  lower_lead : leader_in before (min p q) ≡ min p q
  lower_lead =
      ⊎_elim
      (λ lt. let e : min p q ≡ p = omega arith in ap (leader_in before) e ∙ is.lead a (within a ha) ∙ sym e)
      (λ ge. let e : min p q ≡ q = omega arith in ap (leader_in before) e ∙ is.lead b (within b hb) ∙ sym e)
      (cases_lt p q)

  lower_stays : leader_in after (min p q) ≡ min p q
  lower_stays =
      let below : min p q < 32 = omega (arith, is.low a (within a ha), within a ha) in
      omega (arith, went (min p q) below, lower_lead)

  join_lead : (k : ℕ) → k < 32 → leader_in after (leader_in after k) ≡ leader_in after k
  join_lead k h =
      ⊎_elim
      (λ t. ap (leader_in after) t.1 ∙ lower_stays ∙ sym t.1)
      (λ t.
      let below : leader_in before k < 32 = omega (arith, is.low k h) in
      ap (leader_in after) t.1
      ∙ ⊎_elim (λ u. absurd (t.0 (sym (is.lead k h) ∙ u.0))) (λ u. u.1 ∙ is.lead k h) (went (leader_in before k) below)
      ∙ sym t.1)
      (went k h)

  -- the new leader is one of the two, which are linked
  join_linked : mark_at c marks (Same a b) ≡ Yes → (k : ℕ) → k < c.names → Linked c marks k (leader_in after k)
  join_linked e k h =
      let across : Linked c marks p q = on (back (is.linked a ha)) (on (told ha hb e) (is.linked b hb)) in
      let here = is.linked k h in
      ⊎_elim
      (λ t. ⊎_elim
      (λ lt.
      let e₁ : leader_in before k ≡ q = omega arith in
      let e₂ : p ≡ leader_in after k = omega arith in
      subst (Linked c marks k) e₂ (on (subst (Linked c marks k) e₁ here) (back across)))
      (λ ge.
      let e₁ : leader_in before k ≡ p = omega arith in
      let e₂ : q ≡ leader_in after k = omega arith in
      subst (Linked c marks k) e₂ (on (subst (Linked c marks k) e₁ here) across))
      (cases_lt p q))
      (λ t. subst (Linked c marks k) (sym t.1) here)
      (went k (within k h))

  pub join_leading : mark_at c marks (Same a b) ≡ Yes → Leading c marks after
  join_leading e = record { whole = whole; linked = join_linked e; low = join_low; lead = join_lead }

pub coarser_on : (one two three : List ℕ) → Coarser one two → Coarser two three → Coarser one three
coarser_on one two three f g a b ha hb e = g a b ha hb (f a b ha hb e)

-- joined names stay joined
pub joined_on :
    (c : Counts) (marks : Branch) (before after : List ℕ) (a n : ℕ) → a < c.names → n ≤ c.names →
    Coarser before after → Joined c marks before a n → Joined c marks after a n
joined_on c marks before after a n ha hn coarser joined b h e = coarser a b (omega (arith, c.few)) (omega (arith, c.few)) (joined b h e)

-- once every row is joined the leaders are the class table
pub table_all :
    (c : Counts) (marks : Branch) (leaders : List ℕ) → Leading c marks leaders →
    ((a : ℕ) → a < c.names → Joined c marks leaders a c.names) → ClassTable c marks (leader_in leaders)
table_all c marks leaders is rows =
    table_from c marks (leader_in leaders) is.linked (λ a h. is.low a (omega (arith, c.few))) (λ a b ha hb e. rows a ha b hb e)
