-- The symbols of a book by their numbers.
use Rattle.std.proofs.Common.{◌≡◌, ℕ, zero, suc, ◌+◌, ◌-◌, ◌<◌, ◌≤◌, true, false, nat_lt, refl, ap, ◌∙◌, ⊎_elim, arith}
use Rattle.std.proofs.lemmas.Bool.{cases_lt, cond-true, cond-false}
use Rattle.std.proofs.lemmas.Bool.Decides.{nat_tests}
use Rattle.syntax.specs.declared.counts.Counts.{Counts}
use Rattle.classes.specs.declared.symbol.Symbol.{Symbol}
use Rattle.classes.specs.declared.symbol.Symbol.TheVariants.{Same as Same', Prop as Prop', Rel as Rel'}
use Rattle.classes.specs.Symbols.{LawfulSymbol, symbol_at, symbols}

lt_true : (k n : ℕ) → k < n → nat_lt k n ≡ true
lt_true k n h = grind (arith, nat_tests)

lt_false : (k n : ℕ) → n ≤ k → nat_lt k n ≡ false
lt_false k n h = grind (arith, nat_tests)

-- each number below the count is that of a symbol of the book
pub listed_lawful : (c : Counts) (k : ℕ) → k < symbols c → LawfulSymbol c (symbol_at c k)
listed_lawful c zero h = tt
listed_lawful c (suc k) h =
    ⊎_elim
    (λ below. rw (lt_true k c.properties below) below)
    (λ past. rw (lt_false k c.properties past) (omega arith))
    (cases_lt k c.properties)

-- each symbol of the book has a number
pub listed : (c : Counts) (s : Symbol) → LawfulSymbol c s → (k : ℕ) × (k < symbols c) × (symbol_at c k ≡ s)
listed c Same' l = (0, omega arith, refl)
listed c (Prop' p) l = (suc p, omega arith, cond-true _ _ _ (lt_true p c.properties l))
listed c (Rel' r) l =
    let e : nat_lt (c.properties + r) c.properties ≡ false = lt_false _ _ (omega arith) in
    let d : (c.properties + r) - c.properties ≡ r = omega arith in
    (suc (c.properties + r), omega arith, cond-false _ _ _ e ∙ ap Rel' d)
