use Rattle.std.proofs.Common.{◌≡◌, ℕ, ◌<◌, ◌≤◌, cond, eqb}
use Rattle.classes.specs.Linking.{leader_in}
use Rattle.classes.proofs.table.linking.join.Given as goal

abbrev pub invariant-loop-leader : goal.invariant-loop-leader
invariant-loop-leader l =
    ((a : ℕ) → a < l.leader-index → leader_in l.leaders a ≡ cond (eqb (leader_in l.initial.leaders a) l.high) l.low (leader_in l.initial.leaders a))
    × ((a : ℕ) → l.leader-index ≤ a → leader_in l.leaders a ≡ leader_in l.initial.leaders a)
