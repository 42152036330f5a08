use Rattle.std.proofs.Common.{arith, rules, ap, ◌∙◌}
use Rattle.std.specs.Slice.Iter.{chunks_exact_rest, chunks_exact_size}
use Rattle.syntax.specs.Lawful.{LawfulLiteral}
use Rattle.syntax.specs.Codes.{literal_code}
use Rattle.blocks.specs.Parts.{MadeOne}
use Rattle.blocks.proofs.Pieces.{made_by_pieces}
use Rattle.blocks.proofs.Written.{literal_length}
use Rattle.blocks.proofs.Chunks.{all_tells}
use Rattle.blocks.proofs.block.are_literals.Goals as goal

pub returns : goal.returns
returns c =
    let P = LawfulLiteral c.args.counts in
    let h = c.all.ensures.runs in
    let z = c.chunks_exact.ensures in
    made_by_pieces literal_code P 5 (λ l w. literal_length l) c.args.bytes.now _ (omega arith) c.requires
    (all_tells 5 (omega arith) c.args.bytes.now h.0 (z.runs h.0 h.0.seen) (ap chunks_exact_size h.1 ∙ z.size) (ap chunks_exact_rest h.1 ∙ z.rest) (λ b. MadeOne literal_code P b) _ _ (search rules) _ h.2 (λ x b k. search rules))
