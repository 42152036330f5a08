use Rattle.std.proofs.Common.{arith, rules, ap, ◌∙◌}
use Rattle.std.specs.Slice.Iter.{chunks_exact_rest, chunks_exact_size}
use Rattle.blocks.specs.Layout.{CheckRight}
use Rattle.blocks.proofs.Chunks.{position_tells, denied}
use Rattle.blocks.proofs.file.wrong_check.Goals as goal

pub returns : goal.returns
returns c =
    let h = c.position.ensures.runs in
    let z = c.chunks_exact.ensures in
    position_tells 512 (omega arith) c.args.bytes.now h.0 (z.runs h.0 h.0.seen) (ap chunks_exact_size h.1 ∙ z.size) (ap chunks_exact_rest h.1 ∙ z.rest) (λ b. CheckRight b) _ _ (search rules) _ h.2 (λ x b k. let d = denied (CheckRight x.now) b in search (rules, d))
