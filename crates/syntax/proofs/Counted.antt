-- Counts are their three numbers, and the comparison of two counts says exactly whether they are equal.
use Rattle.std.proofs.Common.{◌≡◌, ℕ, ◌≤◌, Bool, true, sym, ◌∙◌, subst, arith, Decides}
use Rattle.std.proofs.lemmas.Bool.Decides.{nat_tests}
use native.Mathlib.Bridge.{le_prop}
use Rattle.syntax.specs.declared.counts.Counts.{Counts}
use Rattle.syntax.specs.contracts.counts.CountsPartialEq.TheImpl.{ghosts as counts}

abbrev counted : (n p r : ℕ) → 1 ≤ n → n ≤ 32 → p ≤ 32 → r ≤ 8 → Counts
counted n p r s f q u = record { names = n; properties = p; relations = r; some = s; few = f; props = q; rels = u }

-- whatever shows that the numbers lie within the limits
abbrev Is : Counts → ℕ → ℕ → ℕ → Type 0
Is c n p r = (s : 1 ≤ n) (f : n ≤ 32) (q : p ≤ 32) (u : r ≤ 8) → c ≡ counted n p r s f q u

is_own : (c : Counts) → Is c c.names c.properties c.relations
is_own c s f q u = λ i. counted c.names c.properties c.relations (le_prop c.some s i) (le_prop c.few f i) (le_prop c.props q i) (le_prop c.rels u i)

pub counts_same : (c d : Counts) → c.names ≡ d.names → c.properties ≡ d.properties → c.relations ≡ d.relations → c ≡ d
counts_same c d e f g =
    let first : Is c d.names c.properties c.relations = subst (λ (n : ℕ). Is c n c.properties c.relations) e (is_own c) in
    let second : Is c d.names d.properties c.relations = subst (λ (p : ℕ). Is c d.names p c.relations) f first in
    subst (Is c d.names d.properties) g second d.some d.few d.props d.rels

counts_equal : (c d : Counts) → counts.eq c d ≡ true → c ≡ d
counts_equal c d e = counts_same c d (grind (arith, nat_tests)) (grind (arith, nat_tests)) (grind (arith, nat_tests))

counts_self : (c : Counts) → counts.eq c c ≡ true
counts_self c = grind (arith, nat_tests)

-- what `==` says
pub counts_decided : (c d : Counts) (b : Bool) → b ≡ counts.eq c d → Decides b (c ≡ d)
counts_decided c d b e = (λ t. counts_equal c d (sym e ∙ t), λ i. e ∙ subst (λ (x : Counts). counts.eq c x ≡ true) i (counts_self c))
