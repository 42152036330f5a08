use Rattle.std.proofs.Common.{arith}
use Rattle.std.proofs.lemmas.Bool.{false≢true, both_ways}
use Rattle.blocks.proofs.Leaves.{whole, clauses_none, clauses_used, clauses_unused, clauses_made}
use Rattle.blocks.proofs.block.is_clause_block.Goals as goal

pub returns-in_default : goal.returns-in_default
returns-in_default c = (
  λ e. absurd (false≢true e),
  λ w. absurd (clauses_none c.args.counts c.args.n c.args.block.now c.in_default.ensures w),
)

pub split_at-requires : goal.split_at-requires
split_at-requires c =
    omega (arith, c.requires.few, whole c.args.counts c.args.n c.args.block.now _ c.requires.size c.in-Some.ensures)

pub returns-then-are_clauses : goal.returns-then-are_clauses
returns-then-are_clauses c =
    let s = c.split_at.ensures in (
      λ t. clauses_made c.args.counts c.args.n c.args.block.now _ c.requires.size c.in-Some.ensures _ _ s.front s.back c.requires.few (c.are_clauses.ensures.0 c.if-are_clauses.true) (c.are_zeros.ensures.0 t),
      λ w. c.are_zeros.ensures.1 (clauses_unused c.args.counts c.args.n c.args.block.now _ c.requires.size c.in-Some.ensures _ s.back w),
    )

pub returns-else-are_clauses : goal.returns-else-are_clauses
returns-else-are_clauses c = (
  λ t. absurd (both_ways _ c.if-are_clauses.false t),
  λ w. c.are_clauses.ensures.1 (clauses_used c.args.counts c.args.n c.args.block.now _ c.requires.size c.in-Some.ensures _ c.split_at.ensures.front w),
)
