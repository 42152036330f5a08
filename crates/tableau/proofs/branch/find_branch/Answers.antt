use Rattle.std.proofs.Common.{length, None, refl, subst, ◌≡◌}
use Rattle.syntax.specs.declared.counts.Counts.{Counts}
use Rattle.semantics.proofs.Own.{own_model_lem}
use Rattle.classes.specs.Leaders.{leader_of}
use Rattle.tables.specs.Lent.{table_refusal}
use Rattle.tableau.proofs.Judging.{done_none}
use Rattle.tableau.proofs.branch.find_branch.Goals as goal

pub returns-in-Some-clause-branched : goal.returns-in-Some-clause-branched
returns-in-Some-clause-branched g c =
    let b = g.B.Book in
    let book = c.args.book.now in
    let t = g.T.BranchTable in
    let space = c.args.space.now in
    let e = c.in-Some.ensures in
    let s = e.searched.1 in
    let ms = t.marks c.find.new.table in
    let leader = leader_of c.in-Some.field-0 in
    let P : Counts → Type 0 = λ n. table_refusal n (length (t.marks space.table.now)) (t.room space.table.now) (length space.trail.now) (length space.choices.now) ≡ None in
    let none = subst P c.counts.ensures (done_none _ c.in_ok-check_room.field-0 c.in_ok-check_room.ensures) in
    let model = own_model_lem (b.counts book) (b.clauses book) ms leader (b.lawful book) s.classes s.no_clash s.fulfilled in
    λ memory. (
      none,
      record { reach = e.searched.0; room = e.room; loan = e.loan; trail = c.find.auto.trail; choices = c.find.auto.choices; model = refl },
      record { leader = leader; branch = s; model = model; memory = refl },
    )

pub returns-in-Some-clause-right : goal.returns-in-Some-clause-right
returns-in-Some-clause-right g c =
    let b = g.B.Book in
    let book = c.args.book.now in
    let s = c.in-Some.ensures.searched.1 in
    (_, own_model_lem (b.counts book) (b.clauses book) (g.T.BranchTable.marks c.find.new.table) (leader_of c.in-Some.field-0) (b.lawful book) s.classes s.no_clash s.fulfilled)
