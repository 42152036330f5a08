use Rattle.std.proofs.Common.{◌≡◌, ◌≤◌, min, length, take, drop}
use Rattle.tables.specs.Items.{items, slots_of, loan_of}
use Rattle.tables.specs.Walks.{opened}
use Rattle.tables.proofs.walk.untell_to.Given as goal

abbrev pub invariant-loop-atom : goal.invariant-loop-atom
invariant-loop-atom g l =
    let t = g.T.BranchTable in
    let xs = items l.initial.trail in
    let n = length (items l.trail) in
    (n ≤ length xs)
    × (items l.trail ≡ take n xs)
    × (t.marks l.table ≡ opened (t.marks l.initial.table) (drop n xs))
    × (min l.height (length xs) ≤ n)
    × (t.room l.table ≡ t.room l.initial.table)
    × (t.loan l.table ≡ t.loan l.initial.table)
    × (slots_of l.trail ≡ slots_of l.initial.trail)
    × (loan_of l.trail ≡ loan_of l.initial.trail)

abbrev pub decreases-loop-atom : goal.decreases-loop-atom
decreases-loop-atom g l = length (items l.trail)
