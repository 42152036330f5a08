use Rattle.std.proofs.Common.{◌≡◌, ℕ, ◌+◌, ◌<◌, List, rules, sym, ◌∙◌, subst, arith, below_more}
use Rattle.syntax.specs.declared.types.Mark.TheVariants.{Yes}
use Rattle.syntax.proofs.Marked.{marks_same, marks_apart}
use Rattle.classes.specs.Linking.{Coarser, Joined, Leading, leader_in}
use Rattle.classes.proofs.Joining.{coarser_on, join_coarser, join_leading, join_one, joined_on}
use Rattle.classes.proofs.table.linking.join_row.Goals as goal
use Rattle.classes.proofs.table.linking.join_row.Goals.{then-leaders-from+then-eq, else-leaders-from, else-leaders-from-via-then-leaders-from+else-eq, else-leaders-from-via-else-leaders-from}

pub loop-b-preserved : goal.loop-b-preserved
loop-b-preserved g c =
    let ms = g.T.BranchTable.marks c.args.table.now in
    let n = c.args.counts in
    let a = c.args.a in
    let b = c.loop-b.b in
    let is = c.loop-b.invariant in
    let State : List ℕ → Type 0 = λ leaders. Leading n ms leaders × Coarser c.args.leaders.now leaders × Joined n ms leaders a (b + 1) in
    elim c.if-leaders-from.branch [
      | then-leaders-from+then-eq w ↦
          let hb : b < n.names = omega arith in
          let stands = sym (w.mark_of.ensures.lawful (c.requires.name, hb)) ∙ marks_same w.mark_of.result Yes w.if-eq.ensures in
          let long = w.join.auto.leaders ∙ is.0.whole in
          let moved = w.join.ensures in
          let coarser = join_coarser _ _ _ _ a b c.requires.name hb is.0 long moved in
          subst State (sym w.leaders-is) (
            join_leading _ _ _ _ a b c.requires.name hb is.0 long moved stands,
            coarser_on _ _ _ is.1 coarser,
            below_more _ b (joined_on _ _ _ _ a b c.requires.name (omega arith) coarser is.2) (λ _. join_one _ _ _ _ a b c.requires.name hb is.0 long moved),
          )
      | else-leaders-from w ↦
          let hb : b < n.names = omega arith in
          subst State (sym w.leaders-is) (elim w.else-leaders-from.branch [
            | else-leaders-from-via-then-leaders-from+else-eq u ↦
                (is.0, is.1, below_more _ b is.2 (λ e. absurd (marks_apart u.mark_of.result Yes u.if-eq.ensures (u.mark_of.ensures.lawful (c.requires.name, hb) ∙ e))))
            | else-leaders-from-via-else-leaders-from u ↦
                let one : leader_in c.loop-b.leaders a ≡ leader_in c.loop-b.leaders b = search rules in
                (is.0, is.1, below_more _ b is.2 (λ _. one))
          ])
    ]
