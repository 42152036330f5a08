use Rattle.std.proofs.Common.{length}
use Rattle.semantics.proofs.Own.{own_model_lem}
use Rattle.classes.specs.Leaders.{leader_of}
use Rattle.tableau.proofs.Judging.{done_none, enough, wrote}
use Rattle.tableau.proofs.judge.judge.Goals as goal

pub returns-in-Some-clause-judged : goal.returns-in-Some-clause-judged
returns-in-Some-clause-judged g c =
    let b = g.B.Book in
    let book = c.args.book.now in
    let k = b.counts book in
    let t = g.T.BranchTable in
    let space = c.args.space.now in
    let e = c.in-Some.ensures in
    let s = e.searched.1 in
    let ms = t.marks c.find.new.table in
    let leader = leader_of c.in-Some.classes in
    let none = done_none _ c.in_ok-check.field-0 c.in_ok-check.ensures in
    let all = enough k (length (t.marks space.table.now)) (t.room space.table.now) (length space.trail.now) (length space.choices.now) (length c.args.model.now) none in
    let model = own_model_lem k (b.clauses book) ms leader (b.lawful book) s.classes s.no_clash s.fulfilled in
    let w = wrote k c.counts.result ms leader c.args.model.now c.write_model.new.memory c.write_model.result c.counts.ensures all.in_model c.write_model.ensures.written c.write_model.ensures.model s.classes in (
      none,
      record { reach = e.searched.0; room = e.room; loan = e.loan; trail = c.find.auto.trail; choices = c.find.auto.choices; model = w.long },
      record { leader = leader; classes = s.classes; no_clash = s.no_clash; fulfilled = s.fulfilled; beyond = s.beyond; model = model; first = w.first; rest = w.rest },
    )

pub returns-in-Some-clause-right : goal.returns-in-Some-clause-right
returns-in-Some-clause-right g c =
    let b = g.B.Book in
    let book = c.args.book.now in
    let s = c.in-Some.ensures.searched.1 in
    (_, own_model_lem (b.counts book) (b.clauses book) (g.T.BranchTable.marks c.find.new.table) (leader_of c.in-Some.classes) (b.lawful book) s.classes s.no_clash s.fulfilled)
