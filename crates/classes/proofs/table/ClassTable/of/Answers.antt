use Rattle.std.proofs.Common.{rules, arith}
use Rattle.classes.proofs.Joining.{leading_apart, table_all}
use Rattle.classes.proofs.table.ClassTable.of.Goals as goal

pub loop-a-init : goal.loop-a-init
loop-a-init g c = record { leading = leading_apart _ _ _ c.from_fn-leaders.ensures.items.long (λ a h. let (p, q, called) = c.from_fn-leaders.ensures.items.at a 0 h in search (rules, arith)); joined = λ a h. absurd (omega arith) }

pub returns : goal.returns
returns g c = table_all _ _ _ c.loop-a.invariant.leading (λ a h. c.loop-a.invariant.joined a (omega arith))
