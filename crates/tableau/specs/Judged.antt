-- What judging promises, whole.
use Rattle.std.specs.Prelude.{◌≡◌, ℕ, ◌||◌, List, [], ◌∷◌, length, take, drop, Some, None, Ok, Err, Option, Result, nat_lt}
use Rattle.syntax.specs.declared.types.Mark.{Mark}
use Rattle.syntax.specs.declared.types.Refusal.{Refusal}
use Rattle.syntax.specs.declared.types.Refusal.TheVariants.{TableSmall, StackSmall, MemoryShort}
use Rattle.syntax.specs.declared.counts.Counts.{Counts}
use Rattle.syntax.specs.Numbers.{atoms}
use Rattle.syntax.specs.Refusals.{first_of}
use Rattle.semantics.specs.Meaning.{Clause, Model}
use Rattle.semantics.specs.Bytes.{BytesOf}
use Rattle.semantics.specs.Branch.{Clash, Fulfilled, ClassTable, own}
use Rattle.semantics.specs.Judgements.{Consistent, Contradictory}
use Rattle.tables.specs.declared.table.BranchTable.{Ghosts as TableGhosts}
use Rattle.tables.specs.declared.stack.Choice.{Choice}
use Rattle.tables.specs.declared.space.Space.{Space}
use Rattle.tables.specs.Memory.{Loan}
use Rattle.tables.specs.Marks.{cleared}
use Rattle.tables.specs.Counting.{OpenFrom}
use Rattle.classes.specs.declared.table.ClassTable.{ClassTable as ClassTableOf}
use Rattle.classes.specs.Leaders.{leader_of}
use Rattle.tableau.specs.declared.verdict.Verdict.{Verdict}
use Rattle.tableau.specs.declared.verdict.Verdict.TheVariants as verdict

-- what a call is lent: the table's marks, capacity and memory, the memory of both stacks, the model memory
pub record Lent : Type 0 where
  pub marks : List Mark
  pub room : ℕ
  pub loan : Loan
  pub trail : List ℕ
  pub choices : List Choice
  pub model : List ℕ

-- the same as the code holds it; t: the ghost members of the table's type
abbrev pub lent : {T : Type 0} → TableGhosts T → Space T → List ℕ → Lent
lent t space model = record {
  marks = t.marks space.table.now;
  room = t.room space.table.now;
  loan = t.loan space.table.now;
  trail = space.trail.now;
  choices = space.choices.now;
  model = model;
}

-- why judging is refused, if it is, the topmost cause first: the table's reach or capacity is below A; a stack has memory for fewer
-- than A entries; the model memory is shorter than A
abbrev pub size_refusal : Counts → (reach room trail choices model : ℕ) → Option Refusal
size_refusal c reach room trail choices model = first_of (
    (nat_lt reach (atoms c) || nat_lt room (atoms c), TableSmall)
    ∷ (nat_lt trail (atoms c) || nat_lt choices (atoms c), StackSmall)
    ∷ (nat_lt model (atoms c), MemoryShort)
    ∷ [])

abbrev pub judge_refusal : Counts → Lent → Option Refusal
judge_refusal c m = size_refusal c (length m.marks) m.room (length m.trail) (length m.choices) (length m.model)

-- the sizes stay, and the memory behind the table is the same
pub record Kept (before after : Lent) : Type 0 where
  pub reach : length after.marks ≡ length before.marks
  pub room : after.room ≡ before.room
  pub loan : after.loan ≡ before.loan
  pub trail : length after.trail ≡ length before.trail
  pub choices : length after.choices ≡ length before.choices
  pub model : length after.model ≡ length before.model

-- the branch that judging ended on: nothing clashes, every instance is fulfilled, nothing at or above A stands; its own model is one of
-- the clauses, and the first A bytes of the model memory are that model's; the bytes after stay
pub record Left (c : Counts) (clauses : List Clause) (before after : Lent) : Type 0 where
  pub leader : ℕ → ℕ
  pub classes : ClassTable c after.marks leader
  pub no_clash : Clash c after.marks → ⊥
  pub fulfilled : Fulfilled c clauses after.marks
  pub beyond : OpenFrom (atoms c) after.marks
  pub model : Model c clauses (own c after.marks leader)
  pub first : BytesOf c (own c after.marks leader) (take (atoms c) after.model)
  pub rest : drop (atoms c) after.model ≡ drop (atoms c) before.model

-- no interpretation satisfies the clauses; nothing stands; the model memory stays
pub record Emptied (c : Counts) (clauses : List Clause) (before after : Lent) : Type 0 where
  pub none : Contradictory c clauses
  pub clear : after.marks ≡ cleared before.marks
  pub model : after.model ≡ before.model

-- refused exactly for the topmost cause, and all stays as it was; else one of the two answers, with what it says
abbrev pub Judged : Counts → List Clause → Lent → Lent → Result Verdict Refusal → Type 0
Judged c clauses m m' (Err e) = (judge_refusal c m ≡ Some e) × (m' ≡ m)
Judged c clauses m m' (Ok verdict.Consistent) = (judge_refusal c m ≡ None) × Kept m m' × Left c clauses m m'
Judged c clauses m m' (Ok verdict.Contradictory) = (judge_refusal c m ≡ None) × Kept m m' × Emptied c clauses m m'

-- the answer is right: consistent exactly when some interpretation satisfies the clauses
abbrev pub Right : Counts → List Clause → Result Verdict Refusal → Type 0
Right c clauses (Err e) = Unit {0}
Right c clauses (Ok verdict.Consistent) = Consistent c clauses
Right c clauses (Ok verdict.Contradictory) = Consistent c clauses → ⊥

-- two answers to one call are equal
abbrev pub OneVerdict : Type 0
OneVerdict =
    (c : Counts) (clauses : List Clause) (m m' m'' : Lent) (one other : Result Verdict Refusal) →
    Judged c clauses m m' one → Judged c clauses m m'' other → one ≡ other

-- what the search over the marks ms came to: a branch, with its class table, that fulfils the clauses without a clash; or there is no
-- model, and nothing stands
pub record BranchFound (c : Counts) (clauses : List Clause) (ms : List Mark) (leader : ℕ → ℕ) : Type 0 where
  pub classes : ClassTable c ms leader
  pub no_clash : Clash c ms → ⊥
  pub fulfilled : Fulfilled c clauses ms
  pub beyond : OpenFrom (atoms c) ms

abbrev pub Searched : Counts → List Clause → (before after : List Mark) → Option ClassTableOf → Type 0
Searched c clauses before after (Some k) = (length after ≡ length before) × BranchFound c clauses after (leader_of k)
Searched c clauses before after None = (after ≡ cleared before) × Contradictory c clauses
