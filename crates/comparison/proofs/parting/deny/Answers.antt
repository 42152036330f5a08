use Rattle.std.proofs.Common.{sym, ◌∙◌}
use Rattle.comparison.proofs.Denying.{deny_more}
use Rattle.comparison.proofs.parting.deny.Goals as goal

pub loop-l-preserved : goal.loop-l-preserved
loop-l-preserved g c =
    let inv = c.loop-l.invariant in
    let steps = c.in-Some.ensures.steps in
    let d = inv.denying in
    record {
      counts = c.suppose.ensures.counts ∙ inv.counts;
      denying = deny_more _ _ _ _ _ _ _ _ _ _ _ _ _ (inv.counts ∙ sym c.requires.counts) c.requires.assigns c.denial.ensures (rw steps at d) c.suppose.ensures.done;
    }
