use Rattle.std.proofs.Common.{arith, length-take, length-drop}
use Rattle.blocks.proofs.block.contents.Goals as goal

pub slice_bounds-result-end : goal.slice_bounds-result-end
slice_bounds-result-end c = let h = c.requires in simp (length-take, length-drop) (omega arith)
