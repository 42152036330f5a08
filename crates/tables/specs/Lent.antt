-- What a branch over a book needs of the memory lent to it.
use Rattle.std.specs.Prelude.{ℕ, ◌||◌, [], ◌∷◌, Option, nat_lt}
use Rattle.syntax.specs.declared.types.Refusal.{Refusal}
use Rattle.syntax.specs.declared.types.Refusal.TheVariants.{TableSmall, StackSmall}
use Rattle.syntax.specs.declared.counts.Counts.{Counts}
use Rattle.syntax.specs.Numbers.{atoms}
use Rattle.syntax.specs.Refusals.{first_of}
pub use Rattle.syntax.specs.Refusals.{answer}

-- why it does not do, if so, the topmost cause first: the table's reach or capacity is below A; a stack has memory for fewer than A
-- entries
abbrev pub table_refusal : Counts → (reach room trail choices : ℕ) → Option Refusal
table_refusal c reach room trail choices = first_of (
    (nat_lt reach (atoms c) || nat_lt room (atoms c), TableSmall)
    ∷ (nat_lt trail (atoms c) || nat_lt choices (atoms c), StackSmall)
    ∷ [])
