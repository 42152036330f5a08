-- What a comparison promises, whole.
use Rattle.std.specs.Prelude.{◌≡◌, ℕ, ◌≤◌, Bool, true, false, not, ◌&&◌, ◌||◌, List, [], ◌∷◌, length, take, drop, Some, None, Ok, Err, Option, Result, ◌==◌, nat_lt}
use Rattle.syntax.specs.declared.types.Refusal.{Refusal}
use Rattle.syntax.specs.declared.types.Refusal.TheVariants.{CountsDiffer, TableSmall, StackSmall, MemoryShort, TooMany}
use Rattle.syntax.specs.declared.counts.Counts.{Counts}
use Rattle.syntax.specs.Numbers.{atoms}
use Rattle.syntax.specs.Refusals.{first_of}
use Rattle.semantics.specs.Meaning.{Clause, Interpretation, Satisfies, Model}
use Rattle.semantics.specs.Bytes.{BytesOf}
use Rattle.semantics.specs.Judgements.{Within, EqualBooks}
use Rattle.tables.specs.Marks.{cleared}
use Rattle.tableau.specs.Judged.{Lent, Kept, judge_refusal}
use Rattle.comparison.specs.declared.answer.Comparison.{Comparison}
use Rattle.comparison.specs.declared.answer.Comparison.TheVariants as comparison

-- the counts are the same
abbrev pub alike : Counts → Counts → Bool
alike c d = c.names == d.names && (c.properties == d.properties && c.relations == d.relations)

-- why a comparison is refused, if it is, the topmost cause first: the counts differ; the table's reach or capacity is below A; a stack
-- has memory for fewer than A entries; the model memory is shorter than A; a book has more than 65,527 clauses
abbrev pub sizes_refusal : Counts → Counts → (one other : ℕ) → (reach room trail choices model : ℕ) → Option Refusal
sizes_refusal c d one other reach room trail choices model = first_of (
    (not (alike c d), CountsDiffer)
    ∷ (nat_lt reach (atoms c) || nat_lt room (atoms c), TableSmall)
    ∷ (nat_lt trail (atoms c) || nat_lt choices (atoms c), StackSmall)
    ∷ (nat_lt model (atoms c), MemoryShort)
    ∷ (nat_lt 65527 one || nat_lt 65527 other, TooMany)
    ∷ [])

abbrev pub compare_refusal : Counts → Counts → List Clause → List Clause → Lent → Option Refusal
compare_refusal c d first second m =
    sizes_refusal c d (length first) (length second) (length m.marks) m.room (length m.trail) (length m.choices) (length m.model)

-- an interpretation that satisfies the one book and not the other was returned: the first A bytes of the model memory are its bytes, and
-- those after stay
pub record ToldApart (c : Counts) (one other : List Clause) (m m' : Lent) : Type 0 where
  pub by : Interpretation
  pub holds : Model c one by
  pub fails : Model c other by → ⊥
  pub first : BytesOf c by (take (atoms c) m'.model)
  pub rest : drop (atoms c) m'.model ≡ drop (atoms c) m.model

-- when each answer is due, and what it returns
abbrev pub Compares : Counts → List Clause → List Clause → Lent → Lent → Comparison → Type 0
Compares c first second m m' comparison.FirstOnly = ToldApart c first second m m'
Compares c first second m m' comparison.SecondOnly = Within c first second × ToldApart c second first m m'
Compares c first second m m' comparison.Equal = EqualBooks c first second × (m'.model ≡ m.model)

-- a comparison of the book `first` at the counts c with `second` at d: refused exactly for the topmost cause, and all stays as it was;
-- else the answer that is due, and the table is clear
abbrev pub Compared : Counts → Counts → List Clause → List Clause → Lent → Lent → Result Comparison Refusal → Type 0
Compared c d first second m m' (Err e) = (compare_refusal c d first second m ≡ Some e) × (m' ≡ m)
Compared c d first second m m' (Ok r) =
    (compare_refusal c d first second m ≡ None) × Kept m m' × (m'.marks ≡ cleared m.marks) × Compares c first second m m' r

-- What the parts of a comparison come to.

-- nothing stands in the way
pub record Comparable (c d : Counts) (one : List Clause) (m : Lent) : Type 0 where
  pub counts : d ≡ c
  pub sizes : judge_refusal c m ≡ None
  pub few : length one ≤ 65527

-- every model of the clauses satisfies the clause
abbrev pub Follows : Counts → List Clause → Clause → Type 0
Follows c one cl = (I : Interpretation) → Model c one I → Satisfies c I cl

-- the books were told apart; or Q is so, and the model memory is as it was
abbrev pub Parts : Counts → List Clause → List Clause → Type 0 → Lent → Lent → Bool → Type 0
Parts c one other Q m m' true = Kept m m' × ToldApart c one other m m'
Parts c one other Q m m' false = Kept m m' × (m'.model ≡ m.model) × Q

-- the answer, with the table not yet clear
pub record Weighed (c : Counts) (first second : List Clause) (m m' : Lent) (r : Comparison) : Type 0 where
  pub kept : Kept m m'
  pub so : Compares c first second m m' r
