-- How many stand, whatever the table.
use Rattle.std.specs.Prelude.{◌≡◌, ℕ, ◌+◌, ◌<◌, ◌≤◌, Bool, List, length, Ok, Result, slice_index_or}
use Rattle.syntax.specs.declared.types.Mark.{Mark}
use Rattle.syntax.specs.declared.types.Mark.TheVariants.{Open}
use Rattle.syntax.specs.declared.types.Refusal.{Refusal}
use Rattle.tables.specs.Marks.{standing, cleared, Told, Untold}

-- nothing at or above A stands
abbrev pub OpenFrom : ℕ → List Mark → Type 0
OpenFrom A ms = (k : ℕ) → A ≤ k → slice_index_or ms k Open ≡ Open

-- one more after a tell
abbrev pub OneMore : Type 0
OneMore = (ms ns : List Mark) (room atom : ℕ) (sign : Bool) (u : Unit) → Told ms room atom sign ns (Ok u) → standing ns ≡ standing ms + 1

-- one less after an untell
abbrev pub OneLess : Type 0
OneLess = (ms ns : List Mark) (atom : ℕ) (u : Unit) → Untold ms atom ns (Ok u) → standing ns + 1 ≡ standing ms

-- none after a clear
abbrev pub NoneLeft : Type 0
NoneLeft = (ms : List Mark) → standing (cleared ms) ≡ 0

-- at most A when nothing at or above A stands
abbrev pub AtMost : Type 0
AtMost = (A : ℕ) (ms : List Mark) → OpenFrom A ms → standing ms ≤ A

-- an open atom below A means fewer than A
abbrev pub Fewer : Type 0
Fewer = (A k : ℕ) (ms : List Mark) → OpenFrom A ms → k < A → slice_index_or ms k Open ≡ Open → standing ms < A

-- the reach stays, at a tell, an untell and a clear
abbrev pub ToldReach : Type 0
ToldReach = (ms ns : List Mark) (room atom : ℕ) (sign : Bool) (r : Result Unit Refusal) → Told ms room atom sign ns r → length ns ≡ length ms

abbrev pub UntoldReach : Type 0
UntoldReach = (ms ns : List Mark) (atom : ℕ) (r : Result Unit Refusal) → Untold ms atom ns r → length ns ≡ length ms

abbrev pub ClearedReach : Type 0
ClearedReach = (ms : List Mark) → length (cleared ms) ≡ length ms

-- what a tell answers and leaves is fixed by the marks before it and by the room
abbrev pub ToldOnce : Type 0
ToldOnce = (ms ns ns' : List Mark) (room atom : ℕ) (sign : Bool) (r r' : Result Unit Refusal)
    → Told ms room atom sign ns r → Told ms room atom sign ns' r' → (r ≡ r') × (ns ≡ ns')

-- what an untell answers and leaves is fixed by the marks before it
abbrev pub UntoldOnce : Type 0
UntoldOnce = (ms ns ns' : List Mark) (atom : ℕ) (r r' : Result Unit Refusal)
    → Untold ms atom ns r → Untold ms atom ns' r' → (r ≡ r') × (ns ≡ ns')
