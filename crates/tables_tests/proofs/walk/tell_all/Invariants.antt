use Rattle.std.proofs.Common.{◌≡◌, ◌+◌, ◌-◌, ◌++◌, length, take, drop}
use Rattle.tables.specs.Items.{items, slots_of, loan_of}
use Rattle.tables_tests.specs.Told.{count_told, told}
use Rattle.tables_tests.proofs.walk.tell_all.Given as goal

abbrev pub invariant-loop-done : goal.invariant-loop-done
invariant-loop-done g l =
    let t = g.T.BranchTable in
    let room = t.room l.initial.table in
    let ms = t.marks l.initial.table in
    let first = items l.initial.trail in
    (count_told room l.sign (slots_of l.initial.trail - length first) ms l.atoms
    ≡ l.done + count_told room l.sign (slots_of l.trail - length (items l.trail)) (t.marks l.table) (drop l.done l.atoms))
    × (t.marks l.table ≡ told l.sign ms (take l.done l.atoms))
    × (items l.trail ≡ first ++ take l.done l.atoms)
    × (t.room l.table ≡ room)
    × (t.loan l.table ≡ t.loan l.initial.table)
    × (slots_of l.trail ≡ slots_of l.initial.trail)
    × (loan_of l.trail ≡ loan_of l.initial.trail)
