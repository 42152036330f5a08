use Rattle.std.proofs.Common.{◌≡◌, ℕ, ◌≤◌, take, count_by, ◌==◌}
use Rattle.listing.proofs.take_in.Given as goal

-- the ends before the place of the loop are counted
abbrev pub invariant-loop-b : goal.invariant-loop-b
invariant-loop-b l = (l.ends ≤ l.b-index) × (l.ends ≡ count_by (λ (b : ℕ). b == 10) (take l.b-index l.text))
