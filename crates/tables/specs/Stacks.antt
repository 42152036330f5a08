-- What the calls of a stack do to the list of its elements, the lowest first.
use Rattle.std.specs.Prelude.{◌≡◌, ℕ, ◌<◌, ◌≤◌, Bool, true, false, List, [], ◌∷◌, ◌++◌, length, Some, None, Option, slice_index_or}

-- a push adds the element on top; false where the slots are full
abbrev pub Pushed : {X : Type 0} → List X → ℕ → X → List X → Bool → Type 0
Pushed xs slots x ys true = (length xs < slots) × (ys ≡ xs ++ (x ∷ []))
Pushed xs slots x ys false = (length xs ≡ slots) × (ys ≡ xs)

-- a pop takes the top; nothing where there is none
abbrev pub Popped : {X : Type 0} → List X → List X → Option X → Type 0
Popped xs ys None = (xs ≡ []) × (ys ≡ xs)
Popped xs ys (Some x) = xs ≡ ys ++ (x ∷ [])

-- the element at a height; nothing at or above the top
abbrev pub Placed : {X : Type 0} → List X → ℕ → Option X → Type 0
Placed xs i None = length xs ≤ i
Placed xs i (Some x) = (i < length xs) × (x ≡ slice_index_or xs i x)
