-- What holds of every list of calls.
use Rattle.std.specs.Prelude.{◌≡◌, ℕ, min, ◌↔◌, List, ◌∷◌, ◌++◌, map, length, take, drop, Ok, Err, Result}
use Rattle.syntax.specs.declared.types.Literal.{Literal}
use Rattle.syntax.specs.declared.types.Refusal.{Refusal}
use Rattle.syntax.specs.declared.counts.Counts.{Counts}
use Rattle.semantics.specs.Meaning.{Clause}
use Rattle.semantics.specs.Judgements.{Consistent}
use Rattle.books.specs.Calls.{answer as answered}
use Rattle.books.specs.Reckoned.{enter_cause, strike_cause}
use Rattle.tableau.specs.declared.verdict.Verdict.{Verdict}
use Rattle.tableau.specs.declared.verdict.Verdict.TheVariants as verdict
use Rattle.tableau.specs.Judged.{Lent, Judged}
use Rattle.questions.specs.declared.answers.Certainty.{Certainty}
use Rattle.questions.specs.declared.answers.Sameness.{Sameness}
use Rattle.questions.specs.Asked.{named, Asked, AskedNames}
use Rattle.questions.specs.Laws.{Exactly, ExactlyNames}
use Rattle.comparison.specs.declared.answer.Comparison.{Comparison}
use Rattle.comparison.specs.Compared.{Compared}
use Rattle.comparison.specs.Laws as comparisons
use Rattle.runs.specs.declared.calls.Answer.{Answer}
use Rattle.runs.specs.declared.calls.Answer.TheVariants as answer
use Rattle.runs.specs.Runs.{Deed, enter, strike, judge, same, holds, compare_first, compare_second, standing, Called, Step, deed_of, said_of, Run, HandedOn}

-- P of what a call answered that was not refused
abbrev pub WhenDone : {X : Type 0} → (X → Type 0) → Result X Refusal → Type 0
WhenDone P (Ok x) = P x
WhenDone P (Err e) = Unit {0}

-- consistent exactly when some interpretation satisfies the clauses
abbrev pub ExactVerdict : Counts → List Clause → Verdict → Type 0
ExactVerdict c cs v = (v ≡ verdict.Consistent) ↔ Consistent c cs

-- the answer is right for a book with the counts c where the clauses cs stand, and for what was lent before the call and after it:
-- enter and strike are refused exactly for the topmost cause; judge, same, holds and compare do what they promise, and each of their
-- answers is given exactly when what it means is so of the clauses cs
pub data Right (c : Counts) (cs : List Clause) : Step → Type 0 where
  enters : {m : Lent} (literals : List Literal) (r : Result Unit Refusal) → r ≡ answered (enter_cause c cs literals) → Right c cs (record { deed = enter literals; before = m; said = answer.Changed r; after = m })
  strikes : {m : Lent} (k : ℕ) (r : Result Unit Refusal) → r ≡ answered (strike_cause cs k) → Right c cs (record { deed = strike k; before = m; said = answer.Changed r; after = m })
  judges : {m m' : Lent} (r : Result Verdict Refusal) → Judged c cs m m' r → WhenDone (ExactVerdict c cs) r → Right c cs (record { deed = judge; before = m; said = answer.Judged r; after = m' })
  names : {m m' : Lent} (a b : ℕ) (r : Result Sameness Refusal) → AskedNames c cs a b m m' r → WhenDone (ExactlyNames c cs a b) r → Right c cs (record { deed = same a b; before = m; said = answer.Same r; after = m' })
  literals : {m m' : Lent} (l : Literal) (r : Result Certainty Refusal) → Asked c cs l m m' r → WhenDone (Exactly c cs (named l.atom) l.sign) r → Right c cs (record { deed = holds l; before = m; said = answer.Holds r; after = m' })
  firsts : {m m' : Lent} (d : Counts) (other : List Clause) (r : Result Comparison Refusal) → Compared c d cs other m m' r → WhenDone (comparisons.Exactly c cs other) r → Right c cs (record { deed = compare_first d other; before = m; said = answer.Compared r; after = m' })
  seconds : {m m' : Lent} (d : Counts) (other : List Clause) (r : Result Comparison Refusal) → Compared d c other cs m m' r → WhenDone (comparisons.Exactly d other cs) r → Right c cs (record { deed = compare_second d other; before = m; said = answer.Compared r; after = m' })

-- each call made is right for the clauses that stood before it
abbrev pub EachRight : Counts → List Clause → List Step → Type 0
EachRight c cs steps =
    (before : List Step) (s : Step) (rest : List Step) → steps ≡ before ++ s ∷ rest → Right c (standing c cs (map deed_of before)) s

-- after every run the book means exactly the clauses that stand by the calls' arguments, and each call made is right
abbrev pub RunLaw : Type 0
RunLaw =
    (c : Counts) (cs last : List Clause) (steps : List Step) → Run c cs steps last →
    (last ≡ standing c cs (map deed_of steps)) × EachRight c cs steps

-- two answers to one call are equal
abbrev pub OneAnswer : Type 0
OneAnswer =
    (c : Counts) (cs cs' cs'' : List Clause) (m m' m'' : Lent) (deed : Deed) (one other : Answer) →
    Called c cs m deed one cs' m' → Called c cs m deed other cs'' m'' → (one ≡ other) × (cs' ≡ cs'')

-- what performing a list of calls comes to, with n of them done: n is as many as there are calls, or entries of the journal; these calls
-- were made in this order, each lent what the one before left, and their answers are in the journal, in order, which stays as it was
-- past them; the counts stay, the clauses are those that stand, and each answer is right for the clauses that stood before its call
pub record Performed (c : Counts) (cs : List Clause) (deeds : List Deed) (m : Lent) (journal : List Answer) (n : ℕ) (c' : Counts) (cs' : List Clause) (m' : Lent) (journal' : List Answer) : Type 0 where
  pub many : n ≡ min (length deeds) (length journal)
  pub steps : List Step
  pub made : map deed_of steps ≡ take n deeds
  pub said : map said_of steps ≡ take n journal'
  pub beyond : drop n journal' ≡ drop n journal
  pub run : Run c cs steps cs'
  pub handed : HandedOn m steps m'
  pub counts : c' ≡ c
  pub stands : cs' ≡ standing c cs (take n deeds)
  pub right : EachRight c cs steps
