use Rattle.std.proofs.Common.{◌≡◌, set, sym, ap, ◌∙◌, arith, rules}
use Rattle.syntax.specs.declared.types.Mark.TheVariants.{Open}
use Rattle.tables.specs.Marks.{stands}
use Rattle.tables.specs.Packed.{packed_marks, packed_reach}
use Rattle.tables.specs.Within.{packed_length}
use Rattle.tables.proofs.Counts.{standing_lt}
use Rattle.tables.proofs.Refused.{ask_done, done_tell}
use Rattle.tables.proofs.packed.PackedTableBranchTable.tell.Goals as goal

pub put_mark-requires : goal.put_mark-requires
put_mark-requires c = let ms = packed_marks c.args.self.now.bytes.now in omega (arith, ask_done ms c.args.atom c.in_ok-ask.ensures.0, packed_length c.args.self.now.bytes.now)

pub returns-clause-told : goal.returns-clause-told
returns-clause-told c =
    let bs = c.args.self.now.bytes.now in
    let ms = packed_marks bs in
    let a = c.args.atom in
    let near = ask_done ms a c.in_ok-ask.ensures.0 in
    let lies : c.in_ok-ask.field-0 ≡ Open = search rules in
    let o = ap stands (sym c.in_ok-ask.ensures.1 ∙ lies) in (
      done_tell ms a (packed_reach bs) near o (omega (arith, standing_lt ms a near o, packed_length bs)),
      c.put_mark.ensures.marks ∙ ap (set ms a) c.from.ensures,
    )
