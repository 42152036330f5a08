use Rattle.std.proofs.Common.{◌≡◌, ◌-◌, length, take, drop, sym, ap, ◌∙◌, arith}
use Rattle.std.proofs.lemmas.List.{drop_at}
use Rattle.tables.specs.Items.{items, slots_of}
use Rattle.tables.specs.Walks.{opened}
use Rattle.tables_tests.specs.Told.{told}
use Rattle.tables_tests.proofs.Counted.{round}
use Rattle.tables_tests.proofs.walk.tell_and_untell.Goals as goal

pub returns-clause-marks : goal.returns-clause-marks
returns-clause-marks g c =
    let t = g.T.BranchTable in
    let xs = items c.args.trail.now in
    let ms = t.marks c.args.table.now in
    let n = c.tell_all-done.result in
    let a = c.tell_all-done.ensures in
    let height = c.height-height.result in
    let ys = take n c.args.atoms.now in
    let off : drop height (items c.tell_all-done.new.trail) ≡ ys = ap (drop height) a.trail ∙ drop_at xs ys height (sym c.height-height.ensures) in
    c.untell_to.ensures.marks ∙ ap (λ m. opened m (drop height (items c.tell_all-done.new.trail))) a.marks ∙ ap (opened (told c.args.sign ms ys)) off
    ∙ round (t.room c.args.table.now) c.args.sign (slots_of c.args.trail.now - length xs) n ms c.args.atoms.now (omega (arith, a.count))
