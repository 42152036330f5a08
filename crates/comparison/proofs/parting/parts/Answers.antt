use Rattle.std.proofs.Common.{[], get_or, ◌∙◌, arith, below_more, rules}
use Rattle.comparison.specs.Compared.{Follows}
use Rattle.comparison.proofs.Searches.{kept_more, within}
use Rattle.comparison.proofs.parting.parts.Goals as goal

pub loop-i-preserved : goal.loop-i-preserved
loop-i-preserved g c =
    let k = g.F.Book.counts c.args.one.now in
    let one = g.F.Book.clauses c.args.one.now in
    let other = g.S.Book.clauses c.args.other.now in
    let inv = c.loop-i.invariant in
    let p = c.if-parts_clause.ensures.parted in
    record {
      kept = kept_more _ _ _ inv.kept p.0;
      memory = search rules;
      model = p.1 ∙ inv.model;
      each = below_more (λ n. Follows k one (get_or other n [])) c.loop-i.i inv.each p.2;
    }

pub returns-clause-parted : goal.returns-clause-parted
returns-clause-parted g c =
    let inv = c.loop-i.invariant in
    (inv.kept, inv.model, within _ _ _ c.loop-i.i (omega (arith, c.len-i-end.ensures)) inv.each)
