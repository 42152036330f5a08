use Rattle.std.proofs.Common.{◌-◌, length, take, drop, arith}
use Rattle.std.proofs.lemmas.List.{take_rest}
use Rattle.std.proofs.lemmas.Bool.{false≢true, both_ways}
use Rattle.blocks.proofs.Leaves.{clause_head, clause_used, clause_unused, clause_made}
use Rattle.blocks.proofs.block.is_clause.Goals as goal

pub returns-in_default-2 : goal.returns-in_default-2
returns-in_default-2 c = (
  λ e. absurd (false≢true e),
  λ m. let h = clause_head c.args.counts c.args.bytes.now m in absurd (omega arith),
)

pub returns-in_default-3 : goal.returns-in_default-3
returns-in_default-3 c = (
  λ e. absurd (false≢true e),
  λ m. let h = clause_head c.args.counts c.args.bytes.now m in absurd (omega arith),
)

pub returns-in_default-4 : goal.returns-in_default-4
returns-in_default-4 c = (
  λ e. absurd (false≢true e),
  λ m. let h = clause_head c.args.counts c.args.bytes.now m in absurd (omega arith),
)

pub returns-then-are_literals : goal.returns-then-are_literals
returns-then-are_literals c =
    let b = c.args.bytes.now in
    let e = take_rest b 2 in
    let s = c.split_at.ensures in (
      λ t. clause_made c.args.counts b (take (length b - 2) (drop 2 b)) _ _ c.requires e s.front s.back (omega arith) (omega arith) (omega arith) (c.are_literals.ensures.0 c.if-are_literals.true) (c.are_zeros.ensures.0 t),
      λ m. c.are_zeros.ensures.1 (clause_unused c.args.counts b (take (length b - 2) (drop 2 b)) _ c.requires e s.back m),
    )

pub returns-else-are_literals : goal.returns-else-are_literals
returns-else-are_literals c =
    let b = c.args.bytes.now in (
      λ t. absurd (both_ways _ c.if-are_literals.false t),
      λ m. c.are_literals.ensures.1 (clause_used c.args.counts b (take (length b - 2) (drop 2 b)) _ (take_rest b 2) c.split_at.ensures.front m),
    )
