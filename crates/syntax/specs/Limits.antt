-- The limits of the counts.
use Rattle.std.specs.Prelude.{◌≡◌, ℕ, ◌≤◌, Ok, Err, Result}
use Rattle.syntax.specs.declared.types.Refusal.{Refusal}
use Rattle.syntax.specs.declared.types.Refusal.TheVariants.{Limits}
use Rattle.syntax.specs.declared.counts.Counts.{Counts}

-- three numbers that may be the counts of a book: 1 to 32 names, at most 32 properties, at most 8 relations
abbrev pub Within : ℕ → ℕ → ℕ → Type 0
Within n p r = (1 ≤ n) × (n ≤ 32) × (p ≤ 32) × (r ≤ 8)

-- the counts are these three numbers
abbrev pub Are : ℕ → ℕ → ℕ → Counts → Type 0
Are n p r c = (c.names ≡ n) × (c.properties ≡ p) × (c.relations ≡ r)

-- counts are made exactly when the numbers lie within the limits, and then are those
abbrev pub Counted : ℕ → ℕ → ℕ → Result Counts Refusal → Type 0
Counted n p r (Ok c) = Within n p r × Are n p r c
Counted n p r (Err e) = (Within n p r → ⊥) × (e ≡ Limits)
