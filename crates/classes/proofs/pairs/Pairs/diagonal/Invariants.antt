use Rattle.std.proofs.Common.{◌≡◌, ℕ, ◌<◌}
use Rattle.classes.specs.Pairs.{Has}
use Rattle.classes.proofs.pairs.Pairs.diagonal.Given as goal

abbrev pub invariant-loop-a : goal.invariant-loop-a
invariant-loop-a l =
    (p q : ℕ) → (Has l.pairs p q → (p ≡ q) × (p < l.a)) × ((p ≡ q) × (p < l.a) → Has l.pairs p q)
