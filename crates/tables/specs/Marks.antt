-- What the calls of a branch table answer, and what they do to the marks of its atoms.
use Rattle.std.specs.Prelude.{◌≡◌, ℕ, ◌+◌, Bool, List, [], ◌∷◌, map, length, Some, None, Ok, Err, Option, Result, ◌==◌, nat_le, slice_index_or, slice_set}
use Rattle.syntax.specs.declared.types.Mark.{Mark}
use Rattle.syntax.specs.declared.types.Mark.TheVariants.{Open, Yes, No}
use Rattle.syntax.specs.declared.types.Refusal.{Refusal}
use Rattle.syntax.specs.declared.types.Refusal.TheVariants.{BeyondReach, Standing, TableFull, NotStanding}
use Rattle.syntax.specs.Refusals.{first_of}
pub use Rattle.syntax.specs.Signs.{signed}

-- 1 where the atom stands, 0 where it is open
abbrev pub stands : Mark → ℕ
stands Open = 0
stands Yes = 1
stands No = 1

-- how many stand
abbrev pub standing : List Mark → ℕ
standing [] = 0
standing (m ∷ ms) = stands m + standing ms

-- as many marks, all open
abbrev pub cleared : List Mark → List Mark
cleared = map (λ _. Open)

-- why an ask is refused, if it is
abbrev pub ask_refusal : List Mark → ℕ → Option Refusal
ask_refusal ms atom = first_of ((nat_le (length ms) atom, BeyondReach) ∷ [])

-- why a tell is refused, if it is: the topmost cause
abbrev pub tell_refusal : List Mark → ℕ → ℕ → Option Refusal
tell_refusal ms room atom = first_of (
    (nat_le (length ms) atom, BeyondReach)
    ∷ ((stands (slice_index_or ms atom Open) == 1), Standing)
    ∷ (nat_le room (standing ms), TableFull)
    ∷ [])

-- why an untell is refused, if it is: the topmost cause
abbrev pub untell_refusal : List Mark → ℕ → Option Refusal
untell_refusal ms atom = first_of (
    (nat_le (length ms) atom, BeyondReach)
    ∷ ((stands (slice_index_or ms atom Open) == 0), NotStanding)
    ∷ [])

-- an ask answers the atom's mark, or why not
abbrev pub Asked : List Mark → ℕ → Result Mark Refusal → Type 0
Asked ms atom (Ok m) = (ask_refusal ms atom ≡ None) × (m ≡ slice_index_or ms atom Open)
Asked ms atom (Err e) = ask_refusal ms atom ≡ Some e

-- a tell of the marks ms leaves the marks ns: the atom has its sign, or nothing has changed
abbrev pub Told : List Mark → ℕ → ℕ → Bool → List Mark → Result Unit Refusal → Type 0
Told ms room atom sign ns (Ok _) = (tell_refusal ms room atom ≡ None) × (ns ≡ slice_set ms atom (signed sign))
Told ms room atom sign ns (Err e) = (tell_refusal ms room atom ≡ Some e) × (ns ≡ ms)

-- an untell of the marks ms leaves the marks ns: the atom is open, or nothing has changed
abbrev pub Untold : List Mark → ℕ → List Mark → Result Unit Refusal → Type 0
Untold ms atom ns (Ok _) = (untell_refusal ms atom ≡ None) × (ns ≡ slice_set ms atom Open)
Untold ms atom ns (Err e) = (untell_refusal ms atom ≡ Some e) × (ns ≡ ms)
