-- The leaders that a class table holds.
use Rattle.std.specs.Prelude.{◌≡◌, ℕ, Bool, true, false, slice_index}
use Rattle.syntax.specs.declared.types.Ground.{Ground}
use Rattle.syntax.specs.declared.types.Ground.TheVariants.{Same, Prop, Rel}
use Rattle.classes.specs.declared.table.ClassTable.{ClassTable}

-- the leader of a name; 0 for a name at or above 32
abbrev pub leader_of : ClassTable → ℕ → ℕ
leader_of t a = slice_index t.leaders a

-- telling the literal joins no classes: it is not a same said of names with two leaders
abbrev pub JoinsNone : (ℕ → ℕ) → Ground → Bool → Type 0
JoinsNone leader (Same a b) true = leader a ≡ leader b
JoinsNone leader (Same a b) false = Unit
JoinsNone leader (Prop p a) s = Unit
JoinsNone leader (Rel r a b) s = Unit
