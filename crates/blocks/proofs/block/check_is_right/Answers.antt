use Rattle.std.proofs.Common.{arith, length-take}
use Rattle.std.proofs.lemmas.Bool.{eqb-true, eq-eqb}
use Rattle.blocks.proofs.Leaves.{check_made, check_low, check_high}
use Rattle.blocks.proofs.block.check_is_right.Goals as goal

pub slice_bounds-check_sum-end : goal.slice_bounds-check_sum-end
slice_bounds-check_sum-end c = let h = c.requires in simp length-take (omega arith)

pub returns : goal.returns
returns c =
    let block = c.args.block.now in
    let byte = c.type_inv.block 510 in (
      λ t. let e = eqb-true _ _ t in check_made block c.check_sum.result c.requires c.check_sum.ensures (omega arith) (omega arith),
      λ r. let low = check_low block c.check_sum.result c.requires c.check_sum.ensures r in
          let high = check_high block c.check_sum.result c.requires c.check_sum.ensures r in
          eq-eqb _ _ (omega arith),
    )
