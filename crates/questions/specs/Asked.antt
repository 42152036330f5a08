-- What the questions promise, whole.
use Rattle.std.specs.Prelude.{◌≡◌, ℕ, ◌≤◌, Bool, true, false, not, ◌||◌, List, [], ◌∷◌, length, Some, None, Ok, Err, Option, Result, nat_lt}
use Rattle.syntax.specs.declared.types.Term.TheVariants.{Name}
use Rattle.syntax.specs.declared.types.Atom.{Atom}
use Rattle.syntax.specs.declared.types.Atom.TheVariants.{Same}
use Rattle.syntax.specs.declared.types.Ground.{Ground}
use Rattle.syntax.specs.declared.types.Literal.{Literal}
use Rattle.syntax.specs.declared.types.Refusal.{Refusal}
use Rattle.syntax.specs.declared.types.Refusal.TheVariants.{Unlawful, TableSmall, StackSmall, TooMany}
use Rattle.syntax.specs.declared.counts.Counts.{Counts}
use Rattle.syntax.specs.Lawful.{GroundLiteral, ground_literal}
use Rattle.syntax.specs.Numbers.{atoms}
use Rattle.syntax.specs.Refusals.{first_of}
use Rattle.semantics.specs.Meaning.{Clause, ground_of}
use Rattle.semantics.specs.Judgements.{Contradictory, Sure, Excluded, Undecided, EqualNames, DistinctNames, OpenNames}
use Rattle.tables.specs.Marks.{cleared}
use Rattle.tableau.specs.Judged.{Lent, Kept}
use Rattle.tableau.specs.Branched.{branch_refusal}
use Rattle.questions.specs.declared.answers.Certainty.{Certainty}
use Rattle.questions.specs.declared.answers.Certainty.TheVariants as certainty
use Rattle.questions.specs.declared.answers.Sameness.{Sameness}
use Rattle.questions.specs.declared.answers.Sameness.TheVariants as sameness

-- the atom over names that an atom without variables is
abbrev pub named : Atom → Ground
named a = ground_of (λ _. 0) a

-- two names are one thing, as a literal
abbrev pub sameness_literal : ℕ → ℕ → Literal
sameness_literal a b = record { sign = true; atom = Same (Name a) (Name b) }

-- why a question is refused, if it is, the topmost cause first: the literal has a variable or is unlawful; the table's reach or
-- capacity is below A; a stack has memory for fewer than A entries; the book has more than 65,527 clauses
abbrev pub question_refusal : Counts → ℕ → Literal → (reach room trail choices : ℕ) → Option Refusal
question_refusal c clauses l reach room trail choices = first_of (
    (not (ground_literal c l), Unlawful)
    ∷ (nat_lt reach (atoms c) || nat_lt room (atoms c), TableSmall)
    ∷ (nat_lt trail (atoms c) || nat_lt choices (atoms c), StackSmall)
    ∷ (nat_lt 65527 clauses, TooMany)
    ∷ [])

abbrev pub ask_refusal : Counts → List Clause → Literal → Lent → Option Refusal
ask_refusal c clauses l m =
    question_refusal c (length clauses) l (length m.marks) m.room (length m.trail) (length m.choices)

-- when each answer on a ground literal is due
abbrev pub Tells : Counts → List Clause → Ground → Bool → Certainty → Type 0
Tells c clauses g s certainty.Contradictory = Contradictory c clauses
Tells c clauses g s certainty.Sure = Sure c clauses g s
Tells c clauses g s certainty.Excluded = Excluded c clauses g s
Tells c clauses g s certainty.Open = Undecided c clauses g s

-- and each on two names
abbrev pub TellsNames : Counts → List Clause → ℕ → ℕ → Sameness → Type 0
TellsNames c clauses a b sameness.Contradictory = Contradictory c clauses
TellsNames c clauses a b sameness.Equal = EqualNames c clauses a b
TellsNames c clauses a b sameness.Distinct = DistinctNames c clauses a b
TellsNames c clauses a b sameness.Open = OpenNames c clauses a b

-- what an answered question leaves: the table is clear, the model memory as it was, and everything as large as it was
pub record Answered (m m' : Lent) : Type 0 where
  pub kept : Kept m m'
  pub clear : m'.marks ≡ cleared m.marks
  pub model : m'.model ≡ m.model

-- a question on the literal l, of which Says tells when an answer is due: refused exactly for the topmost cause, and all stays as it
-- was; else answered as is due
abbrev pub AskedBy : {X : Type 0} → Counts → List Clause → Literal → (X → Type 0) → Lent → Lent → Result X Refusal → Type 0
AskedBy c clauses l Says m m' (Err e) = (ask_refusal c clauses l m ≡ Some e) × (m' ≡ m)
AskedBy c clauses l Says m m' (Ok t) = (ask_refusal c clauses l m ≡ None) × Answered m m' × Says t

abbrev pub Asked : Counts → List Clause → Literal → Lent → Lent → Result Certainty Refusal → Type 0
Asked c clauses l m m' r = AskedBy c clauses l (Tells c clauses (named l.atom) l.sign) m m' r

abbrev pub AskedNames : Counts → List Clause → ℕ → ℕ → Lent → Lent → Result Sameness Refusal → Type 0
AskedNames c clauses a b m m' r = AskedBy c clauses (sameness_literal a b) (TellsNames c clauses a b) m m' r

-- What the parts of a question come to.

-- nothing stands in the way
pub record Askable (c : Counts) (clauses : List Clause) (l : Literal) (m : Lent) : Type 0 where
  pub ground_one : GroundLiteral c l
  pub sizes : branch_refusal c m ≡ None
  pub few : length clauses ≤ 65527

-- the answer where the book with the literal, and with its denial, has a model or not
abbrev pub of_both : Bool → Bool → Certainty
of_both true true = certainty.Open
of_both true false = certainty.Sure
of_both false true = certainty.Excluded
of_both false false = certainty.Contradictory

pub record SettledWith (c : Counts) (clauses : List Clause) (l : Literal) (m m' : Lent) (r : Certainty) : Type 0 where
  pub left : Answered m m'
  pub so : Tells c clauses (named l.atom) l.sign r

-- the answer on two names by that on their literal
abbrev pub named_so : Certainty → Sameness
named_so certainty.Contradictory = sameness.Contradictory
named_so certainty.Sure = sameness.Equal
named_so certainty.Excluded = sameness.Distinct
named_so certainty.Open = sameness.Open
