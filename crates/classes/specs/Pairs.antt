-- A set of pairs of leaders.
use Rattle.std.specs.Prelude.{◌≡◌, ℕ, ◌+◌, ◌*◌, ◌<◌, true, false, slice_index_or}
use Rattle.classes.specs.declared.pairs.Pairs.{Pairs}

-- the pair is in the set
abbrev pub Has : Pairs → ℕ → ℕ → Type 0
Has pairs a b = (b < 32) × (slice_index_or pairs.found (a * 32 + b) false ≡ true)
