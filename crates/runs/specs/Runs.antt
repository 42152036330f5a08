-- Lists of calls on a working book: what one call does, what stands after it, and runs of calls.
use Rattle.std.specs.Prelude.{ℕ, List, [], ◌∷◌, Result}
use Rattle.syntax.specs.declared.types.Literal.{Literal}
use Rattle.syntax.specs.declared.types.Refusal.{Refusal}
use Rattle.syntax.specs.declared.counts.Counts.{Counts}
use Rattle.semantics.specs.Meaning.{Clause}
use Rattle.books.specs.declared.book.Book.{Ghosts as BookGhosts}
use Rattle.books.specs.Working.{Entered, Struck}
use Rattle.books.specs.Reckoned.{entered, struck}
use Rattle.tableau.specs.declared.verdict.Verdict.{Verdict}
use Rattle.tableau.specs.Judged.{Lent, Judged}
use Rattle.questions.specs.declared.answers.Certainty.{Certainty}
use Rattle.questions.specs.declared.answers.Sameness.{Sameness}
use Rattle.questions.specs.Asked.{Asked, AskedNames}
use Rattle.comparison.specs.declared.answer.Comparison.{Comparison}
use Rattle.comparison.specs.Compared.{Compared}
use Rattle.runs.specs.declared.calls.Call.{Call}
use Rattle.runs.specs.declared.calls.Call.TheVariants as call
use Rattle.runs.specs.declared.calls.Answer.{Answer}
use Rattle.runs.specs.declared.calls.Answer.TheVariants as answer

-- a call by its arguments alone; the other book of a comparison by its counts and clauses
pub data Deed : Type 0 where
  enter : (literals : List Literal) → Deed
  strike : (k : ℕ) → Deed
  judge : Deed
  same : (a b : ℕ) → Deed
  holds : (l : Literal) → Deed
  compare_first : (counts : Counts) (other : List Clause) → Deed
  compare_second : (counts : Counts) (other : List Clause) → Deed

-- what a call of the code is; b: the ghost members of the other book's type
abbrev pub meant : {B : Type 0} → BookGhosts B → Call B → Deed
meant b (call.Enter literals) = enter literals.now
meant b (call.Strike k) = strike k
meant b call.Judge = judge
meant b (call.Same x y) = same x y
meant b (call.Holds l) = holds l
meant b (call.CompareFirst other) = compare_first (b.counts other.now) (b.clauses other.now)
meant b (call.CompareSecond other) = compare_second (b.counts other.now) (b.clauses other.now)

-- the list that stands after one call on a book with the counts c where cs stood, reckoned from the arguments alone: enter adds its
-- clause at the end unless it is refused, strike keeps the first k if so many stand, and every other call leaves the list
abbrev pub after : Counts → List Clause → Deed → List Clause
after c cs (enter literals) = entered c cs literals
after c cs (strike k) = struck cs k
after c cs judge = cs
after c cs (same a b) = cs
after c cs (holds l) = cs
after c cs (compare_first counts other) = cs
after c cs (compare_second counts other) = cs

-- and after a list of calls
abbrev pub standing : Counts → List Clause → List Deed → List Clause
standing c cs [] = cs
standing c cs (deed ∷ deeds) = standing c (after c cs deed) deeds

-- one call, by what the public call promises: a book with the counts c where cs stood and what is lent as m; the answer; the clauses that
-- the book then means, and what is lent then
pub data Called (c : Counts) : List Clause → Lent → Deed → Answer → List Clause → Lent → Type 0 where
  did_enter : {cs cs' : List Clause} {m : Lent} (literals : List Literal) (r : Result Unit Refusal) → Entered c cs literals r cs' → Called c cs m (enter literals) (answer.Changed r) cs' m
  did_strike : {cs cs' : List Clause} {m : Lent} (k : ℕ) (r : Result Unit Refusal) → Struck cs k r cs' → Called c cs m (strike k) (answer.Changed r) cs' m
  did_judge : {cs : List Clause} {m m' : Lent} (r : Result Verdict Refusal) → Judged c cs m m' r → Called c cs m judge (answer.Judged r) cs m'
  did_same : {cs : List Clause} {m m' : Lent} (a b : ℕ) (r : Result Sameness Refusal) → AskedNames c cs a b m m' r → Called c cs m (same a b) (answer.Same r) cs m'
  did_hold : {cs : List Clause} {m m' : Lent} (l : Literal) (r : Result Certainty Refusal) → Asked c cs l m m' r → Called c cs m (holds l) (answer.Holds r) cs m'
  did_first : {cs : List Clause} {m m' : Lent} (d : Counts) (other : List Clause) (r : Result Comparison Refusal) → Compared c d cs other m m' r → Called c cs m (compare_first d other) (answer.Compared r) cs m'
  did_second : {cs : List Clause} {m m' : Lent} (d : Counts) (other : List Clause) (r : Result Comparison Refusal) → Compared d c other cs m m' r → Called c cs m (compare_second d other) (answer.Compared r) cs m'

-- a call that was made: what it was lent, its answer, and what is lent after
pub record Step : Type 0 where
  pub deed : Deed
  pub before : Lent
  pub said : Answer
  pub after : Lent

abbrev pub deed_of : Step → Deed
deed_of s = s.deed

abbrev pub said_of : Step → Answer
said_of s = s.said

-- calls made one after another on one book, each with whatever it is lent
pub data Run (c : Counts) : List Clause → List Step → List Clause → Type 0 where
  none : {cs : List Clause} → Run c cs [] cs
  more :
      {cs next last : List Clause} {steps : List Step} (s : Step) →
      Called c cs s.before s.deed s.said next s.after → Run c next steps last →
      Run c cs (s ∷ steps) last

-- each is lent what the one before it left: from m to m'
pub data HandedOn : Lent → List Step → Lent → Type 0 where
  none : {m : Lent} → HandedOn m [] m
  more : {m' : Lent} {steps : List Step} (s : Step) → HandedOn s.after steps m' → HandedOn s.before (s ∷ steps) m'
