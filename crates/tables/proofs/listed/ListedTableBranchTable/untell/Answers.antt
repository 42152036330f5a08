use Rattle.std.proofs.Common.{◌≡◌, ◌+◌, ◌-◌, take, get_or, set, ap, ◌∙◌, subst, Some, Ok, refl, arith}
use Rattle.std.proofs.lemmas.List.{length-take-le}
use Rattle.syntax.specs.declared.types.Mark.TheVariants.{Open}
use Rattle.tables.specs.Listed.{listed, Sought}
use Rattle.tables.proofs.Refused.{done_untell}
use Rattle.tables.proofs.Rows.{placed_some}
use Rattle.tables.proofs.Zero.{no_row}
use Rattle.tables.proofs.listed.ListedTableBranchTable.untell.Goals as goal

pub returns-clause-untold : goal.returns-clause-untold
returns-clause-untold c =
    let s = c.args.self.now in
    let rs = take s.len s.rows.now in
    let p = subst (λ o. Sought rs c.args.atom (Ok o)) c.in_ok-at.ensures.ok_part c.in_ok-place.ensures in
    let u = placed_some rs c.args.atom (Some c.in_ok-at.at) p refl in
    let e : s.len - 1 + 1 ≡ s.len = omega (arith, p.1, length-take-le s.len s.rows.now s.within) in (
      done_untell (listed rs) c.args.atom u.0 u.1,
      c.remove_row.ensures.untold no_row ∙ ap (λ n. set (listed (take n s.rows.now)) (get_or (take n s.rows.now) c.in_ok-at.at no_row).atom Open) e ∙ ap (λ k. set (listed rs) k Open) (p.2 no_row).0,
    )
