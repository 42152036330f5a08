-- Atoms of linked names.
use Rattle.std.specs.Prelude.{◌≡◌, ℕ}
use Rattle.syntax.specs.declared.types.Ground.{Ground}
use Rattle.syntax.specs.declared.types.Ground.TheVariants.{Same, Prop, Rel}

-- the atom with other names
abbrev pub renamed : Ground → ℕ → ℕ → Ground
renamed (Same a b) x y = Same x y
renamed (Prop p a) x y = Prop p x
renamed (Rel r a b) x y = Rel r x y

-- those have the leaders of its own
abbrev pub OneLed : (ℕ → ℕ) → Ground → ℕ → ℕ → Type 0
OneLed leader (Same a b) x y = (leader a ≡ leader x) × (leader b ≡ leader y)
OneLed leader (Prop p a) x y = leader a ≡ leader x
OneLed leader (Rel r a b) x y = (leader a ≡ leader x) × (leader b ≡ leader y)
