use Rattle.std.proofs.Common.{take, length, sym, refl, ◌∙◌, arith}
use Rattle.tables.specs.Listed.{listed}
use Rattle.tables.proofs.Refused.{up_tell}
use Rattle.tables.proofs.Rows.{placed_some, placed_near}
use Rattle.tables.proofs.listed.ListedTableBranchTable.tell.Goals as goal

pub returns-then-is_some-clause-told : goal.returns-then-is_some-clause-told
returns-then-is_some-clause-told c =
    let s = c.args.self.now in
    let rs = take s.len s.rows.now in
    let u = placed_some rs c.args.atom c.in_ok-place.field-0 c.in_ok-place.ensures (sym c.is_some.ensures ∙ c.if-is_some.true) in
    (up_tell (listed rs) c.args.atom (length s.rows.now) u.0 u.1, refl)

pub overflow_cast-atom : goal.overflow_cast-atom
overflow_cast-atom c =
    let s = c.args.self.now in omega (arith, placed_near (take s.len s.rows.now) c.args.atom c.in_ok-place.field-0 c.in_ok-place.ensures)

pub add_row-requires-clause-near : goal.add_row-requires-clause-near
add_row-requires-clause-near c =
    let s = c.args.self.now in placed_near (take s.len s.rows.now) c.args.atom c.in_ok-place.field-0 c.in_ok-place.ensures
