-- Each call's answer and list, reckoned from its arguments by tests alone: the relations of Working and Suppositions come to this.
use Rattle.std.specs.Prelude.{◌≡◌, ℕ, Bool, not, ◌&&◌, ◌||◌, List, [], ◌∷◌, ◌++◌, length, take, Option, Result, ◌==◌, nat_lt}
use Rattle.syntax.specs.declared.types.Literal.{Literal}
use Rattle.syntax.specs.declared.types.Refusal.{Refusal}
use Rattle.syntax.specs.declared.types.Refusal.TheVariants.{Limits, Unlawful, BookFull, StrikeAbove, TooMany}
use Rattle.syntax.specs.declared.counts.Counts.{Counts}
use Rattle.syntax.specs.Lawful.{lawful_literals, ground_literal}
use Rattle.syntax.specs.Refusals.{first_of}
use Rattle.books.specs.Calls.{answer, unless}
use Rattle.books.specs.Working.{Opened, Entered, Struck}
use Rattle.books.specs.Suppositions.{unit, Supposed}

-- the limits, and a lawful clause, as tests
abbrev pub within : ℕ → ℕ → ℕ → Bool
within n p q = nat_lt 0 n && (nat_lt n 33 && (nat_lt p 33 && nat_lt q 9))

abbrev pub lawful_clause : Counts → List Literal → Bool
lawful_clause c ls = nat_lt 0 (length ls) && (nat_lt (length ls) 9 && lawful_literals c ls)

-- the topmost cause
abbrev pub open_cause : ℕ → ℕ → ℕ → Option Refusal
open_cause n p q = first_of ((not (within n p q), Limits) ∷ [])

abbrev pub enter_cause : Counts → List (List Literal) → List Literal → Option Refusal
enter_cause c cs ls = first_of ((not (lawful_clause c ls), Unlawful) ∷ ((length cs == 256), BookFull) ∷ [])

abbrev pub strike_cause : List (List Literal) → ℕ → Option Refusal
strike_cause cs k = first_of ((nat_lt (length cs) k, StrikeAbove) ∷ [])

abbrev pub suppose_cause : Counts → List (List Literal) → List Literal → Literal → Option Refusal
suppose_cause c cs ls l = first_of ((not (ground_literal c l), Unlawful) ∷ (length ls == 16 || (length cs == 65535), TooMany) ∷ [])

-- the list after
abbrev pub opened : List (List Literal) → ℕ → ℕ → ℕ → List (List Literal)
opened cs n p q = unless (open_cause n p q) cs []

abbrev pub entered : Counts → List (List Literal) → List Literal → List (List Literal)
entered c cs ls = unless (enter_cause c cs ls) cs (cs ++ ls ∷ [])

abbrev pub struck : List (List Literal) → ℕ → List (List Literal)
struck cs k = unless (strike_cause cs k) cs (take k cs)

abbrev pub supposed : Counts → List (List Literal) → List Literal → Literal → List (List Literal)
supposed c cs ls l = unless (suppose_cause c cs ls l) cs (cs ++ unit l ∷ [])

-- the laws: each relation settles the answer and the list
abbrev pub OpenSettled : Type 0
OpenSettled = (c : Counts) (cs : List (List Literal)) (n p q : ℕ) (r : Result Unit Refusal) (c' : Counts) (cs' : List (List Literal)) → Opened c cs n p q r c' cs' → (r ≡ answer (open_cause n p q)) × (cs' ≡ opened cs n p q)

abbrev pub EnterSettled : Type 0
EnterSettled = (c : Counts) (cs : List (List Literal)) (ls : List Literal) (r : Result Unit Refusal) (cs' : List (List Literal)) → Entered c cs ls r cs' → (r ≡ answer (enter_cause c cs ls)) × (cs' ≡ entered c cs ls)

abbrev pub StrikeSettled : Type 0
StrikeSettled = (cs : List (List Literal)) (k : ℕ) (r : Result Unit Refusal) (cs' : List (List Literal)) → Struck cs k r cs' → (r ≡ answer (strike_cause cs k)) × (cs' ≡ struck cs k)

abbrev pub SupposeSettled : Type 0
SupposeSettled = (c : Counts) (cs : List (List Literal)) (ls : List Literal) (l : Literal) (r : Result Unit Refusal) (cs' : List (List Literal)) (ls' : List Literal) → Supposed c cs ls l r cs' ls' → (r ≡ answer (suppose_cause c cs ls l)) × (cs' ≡ supposed c cs ls l)
