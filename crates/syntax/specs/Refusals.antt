-- Every refusal, case by case: its number, and the values that it carries.
use Rattle.std.specs.Prelude.{◌≡◌, ℕ, Bool, cond, List, [], ◌∷◌, ◌++◌, Some, None, Ok, Err, Option, Result}
use Rattle.std.specs.Fmt.{decimal}
use Rattle.syntax.specs.declared.types.Place.{Place}
use Rattle.syntax.specs.declared.types.Refusal.{Refusal}
use Rattle.syntax.specs.declared.types.Refusal.TheVariants.{Limits, LimitsAt, Unlawful, BookFull, BookFullAt, StrikeAbove, CountsDiffer, TableSmall, StackSmall, MemoryShort, NotInterpretation, TooMany, FileLength, BlockCheck, BlockLayout, TextFault, BeyondReach, Standing, TableFull, NotStanding}

-- the number
abbrev pub cause : Refusal → ℕ
cause Limits = 1
cause (LimitsAt p) = 1
cause Unlawful = 2
cause BookFull = 3
cause (BookFullAt p) = 3
cause StrikeAbove = 4
cause CountsDiffer = 5
cause TableSmall = 6
cause StackSmall = 7
cause MemoryShort = 8
cause NotInterpretation = 9
cause TooMany = 10
cause FileLength = 11
cause (BlockCheck b) = 12
cause (BlockLayout b) = 13
cause (TextFault p) = 14
cause BeyondReach = 15
cause Standing = 16
cause TableFull = 17
cause NotStanding = 18

-- a place of a text as values: its line and its word
abbrev pub line_word : Place → List ℕ
line_word p = p.line ∷ p.word ∷ []

-- the values: of a text's fault its line and word, of a block file's its block
abbrev pub values : Refusal → List ℕ
values Limits = []
values (LimitsAt p) = line_word p
values Unlawful = []
values BookFull = []
values (BookFullAt p) = line_word p
values StrikeAbove = []
values CountsDiffer = []
values TableSmall = []
values StackSmall = []
values MemoryShort = []
values NotInterpretation = []
values TooMany = []
values FileLength = 0 ∷ []
values (BlockCheck b) = b ∷ []
values (BlockLayout b) = b ∷ []
values (TextFault p) = line_word p
values BeyondReach = []
values Standing = []
values TableFull = []
values NotStanding = []

-- the place among the values; line 0 and word 0 where there is none
abbrev pub place_of : List ℕ → Place
place_of (line ∷ word ∷ []) = record { line = line; word = word }
place_of [] = record { line = 0; word = 0 }
place_of (b ∷ []) = record { line = 0; word = 0 }
place_of (a ∷ b ∷ c ∷ rest) = record { line = 0; word = 0 }

-- what is printed: the number, the line and the word, with a blank between
abbrev pub shown : Refusal → List ℕ
shown e = let p = place_of (values e) in decimal (cause e) ++ 32 ∷ (decimal p.line ++ 32 ∷ decimal p.word)

-- of several causes the topmost counts: the first whose test is true
abbrev pub first_of : List (Bool × Refusal) → Option Refusal
first_of [] = None
first_of (x ∷ rest) = cond x.0 (Some x.1) (first_of rest)

-- the answer by the topmost cause: done where there is none
abbrev pub answer : Option Refusal → Result Unit Refusal
answer None = Ok tt
answer (Some e) = Err e

-- a refused call leaves x as it was
abbrev pub UnlessRefused : {A X : Type 0} → X → X → Result A Refusal → Type 0
UnlessRefused x y (Ok _) = Unit {0}
UnlessRefused x y (Err _) = y ≡ x
