-- What a stack means.
use Rattle.std.specs.Prelude.{ℕ, List, length, take}
use Rattle.tables.specs.declared.stack.Stack.{Stack}

-- the elements, the lowest first
abbrev pub items : {X : Type 0} → Stack X → List X
items s = take s.len s.slots.now

-- how many elements there is room for
abbrev pub slots_of : {X : Type 0} → Stack X → ℕ
slots_of s = length s.slots.now

-- the ghost name of the slots lent
abbrev pub loan_of : {X : Type 0} → Stack X → ℕ
loan_of s = s.slots.ghost_name
