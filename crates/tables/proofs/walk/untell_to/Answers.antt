use Rattle.std.proofs.Common.{set, sym, ap, ◌∙◌, arith}
use Rattle.syntax.specs.declared.types.Mark.TheVariants.{Open}
use Rattle.tables.specs.Items.{items}
use Rattle.tables.specs.Walks.{opened}
use Rattle.tables.proofs.Trails.{untold_opens, pop_step}
use Rattle.tables.proofs.walk.untell_to.Goals as goal

pub loop-atom-preserved : goal.loop-atom-preserved
loop-atom-preserved g c =
    let t = g.T.BranchTable in
    let i = c.loop-atom.invariant in
    let a = c.in-Some.atom in
    let p = c.in-Some.ensures in
    let s = pop_step (items c.args.trail.now) (items c.loop-atom.trail) (items c.pop_above.new.trail) a i.0 i.1 p.popped.1 in
    let o = untold_opens (t.marks c.loop-atom.table) (t.marks c.untell.new.self) a c.untell.result c.untell.ensures.untold in (
      omega (arith, s.0, i.0),
      s.1,
      o ∙ ap (λ m. set m a Open) i.2 ∙ sym (ap (opened (t.marks c.args.table.now)) s.2),
      omega (arith, s.0, p.popped.0),
      c.untell.ensures.room ∙ i.4,
      c.untell.ensures.loan ∙ i.5,
      p.slots ∙ i.6,
      p.lent ∙ i.7,
    )
