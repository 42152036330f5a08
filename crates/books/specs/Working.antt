-- The working book: what it means, and what its calls do.
use Rattle.std.specs.Prelude.{◌≡◌, ℕ, ◌<◌, ◌≤◌, ◌⊎◌, List, [], ◌∷◌, ◌++◌, length, take, Ok, Err, Result}
use Rattle.std.proofs.Common.{arith, length-take}
use Rattle.std.proofs.lemmas.List.{length-map}
use Rattle.std.specs.List.{AllByRecursion}
use Rattle.syntax.specs.declared.types.Literal.{Literal}
use Rattle.syntax.specs.declared.types.Refusal.{Refusal}
use Rattle.syntax.specs.declared.types.Refusal.TheVariants.{Limits, Unlawful, BookFull, StrikeAbove}
use Rattle.syntax.specs.declared.counts.Counts.{Counts}
use Rattle.syntax.specs.Lawful.{Lawful}
use Rattle.syntax.specs.Limits.{Within, Are}
use Rattle.books.specs.declared.working.WorkingBook.{WorkingBook}
use Rattle.books.specs.Stored.{stored}

-- the standing clauses: what was entered and not struck, in order
abbrev pub standing_of : WorkingBook → List (List Literal)
standing_of b = stored (take b.len b.clauses)

-- the clauses that it means as a book: all that stand
abbrev pub clauses_of : WorkingBook → List (List Literal)
clauses_of b = standing_of b

-- open with the counts n, p, q: refused as 1 exactly outside the limits, and counts and list stay; else these counts, and no clause
abbrev pub Opened : Counts → List (List Literal) → ℕ → ℕ → ℕ → Result Unit Refusal → Counts → List (List Literal) → Type 0
Opened c cs n p q (Ok _) c' cs' = Within n p q × Are n p q c' × (cs' ≡ [])
Opened c cs n p q (Err e) c' cs' = (Within n p q → ⊥) × (e ≡ Limits) × (c' ≡ c) × (cs' ≡ cs)

-- enter ls at the counts c with cs standing: refused as 2 exactly when it is unlawful, else as 3 exactly when 256 stand, and the list
-- stays; else it is one clause longer, at the end
abbrev pub Entered : Counts → List (List Literal) → List Literal → Result Unit Refusal → List (List Literal) → Type 0
Entered c cs ls (Ok _) cs' = Lawful c ls × (length cs < 256) × (cs' ≡ cs ++ ls ∷ [])
Entered c cs ls (Err e) cs' =
    (((e ≡ Unlawful) × (Lawful c ls → ⊥)) ⊎ ((e ≡ BookFull) × Lawful c ls × (length cs ≡ 256))) × (cs' ≡ cs)

-- strike to k with cs standing: refused as 4 exactly when fewer than k stand, and the list stays; else its first k
abbrev pub Struck : List (List Literal) → ℕ → Result Unit Refusal → List (List Literal) → Type 0
Struck cs k (Ok _) cs' = (k ≤ length cs) × (cs' ≡ take k cs)
Struck cs k (Err e) cs' = (length cs < k) × (e ≡ StrikeAbove) × (cs' ≡ cs)

-- every clause is lawful, and there are at most 256
pub working_lawful : (b : WorkingBook) → AllByRecursion (Lawful b.counts) (clauses_of b)
working_lawful b = b.lawful

pub working_few : (b : WorkingBook) → length (clauses_of b) ≤ 65535
working_few b = simp (length-map, length-take) (omega arith)
