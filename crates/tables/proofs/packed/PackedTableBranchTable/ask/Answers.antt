use Rattle.std.proofs.Common.{◌∙◌, sym, ap, arith}
use Rattle.tables.specs.Packed.{packed_marks, meant}
use Rattle.tables.specs.Within.{packed_length}
use Rattle.tables.proofs.Packs.{packed_at}
use Rattle.tables.proofs.Refused.{near_ask}
use Rattle.tables.proofs.packed.PackedTableBranchTable.ask.Goals as goal

pub bounds-self-atom : goal.bounds-self-atom
bounds-self-atom c = omega (arith, c.reach.ensures, packed_length c.args.self.now.bytes.now)

pub returns : goal.returns
returns c =
    let bs = c.args.self.now.bytes.now in (
      near_ask (packed_marks bs) c.args.atom (omega (arith, c.reach.ensures)),
      c.mark_of.ensures ∙ ap meant c.digit_of.ensures ∙ sym (packed_at bs c.args.atom (omega (arith, c.reach.ensures, packed_length bs))),
    )
