use Rattle.std.proofs.Common.{arith}
use Rattle.syntax.proofs.Laws.{found_same, found_prop, found_rel, pair_fits}
use Rattle.syntax.proofs.numbers.atom_at.Goals as goal

pub returns-then-row-n : goal.returns-then-row-n
returns-then-row-n c =
    found_same c.args.counts c.args.k _ c.names-n.ensures (omega arith) c.if-row-n.true

pub returns-then-row-n-2 : goal.returns-then-row-n-2
returns-then-row-n-2 c =
    found_prop c.args.counts c.args.k _ _ c.names-n.ensures c.properties-m.ensures (omega arith) c.if-row-n.false c.if-row-n-2.true

pub overflow_cast-result-2 : goal.overflow_cast-result-2
overflow_cast-result-2 c =
    omega (arith, pair_fits c.args.counts c.args.k _ _ c.names-n.ensures c.properties-m.ensures (omega arith) c.if-row-n-2.false)

pub returns : goal.returns
returns c =
    found_rel c.args.counts c.args.k _ _ c.names-n.ensures c.properties-m.ensures (omega arith) c.if-row-n-2.false
