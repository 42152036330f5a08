use Rattle.std.proofs.Common.{refl, ◌∙◌, arith}
use Rattle.tables.specs.Items.{items}
use Rattle.tableau.specs.Views.{moment}
use Rattle.tableau.proofs.States.{same_frame, flipped, back, back_length, back_lighter, puttable, forced_step, failed, all_off}
use Rattle.tableau.proofs.Going.{there, weighs}
use Rattle.tableau.proofs.types.Search.flip.Goals as goal

pub put-requires : goal.put-requires
put-requires g c =
    let t = g.T.BranchTable in
    let s = c.args.self.now in
    let s1 = record s { table = record s.table { now = c.untell_to.new.table }; trail = record s.trail { now = c.untell_to.new.trail }; choices = record s.choices { now = c.pop.new.self } } in
    let e = c.untell_to.ensures in
    let p = c.in-Some.ensures in
    let choice = c.in-Some.choice in
    let n = back_length c.requires.state (items c.pop.new.self) choice p.popped (t.marks c.untell_to.new.table) e.marks in
    let f = same_frame t s s1 e.loan e.room n e.slots e.lent p.slots p.loan in
    let b = back c.requires.state (items c.pop.new.self) choice p.popped {m' = moment t s1} e.marks e.trail refl f c.requires.hopeless in
    puttable b.state (flipped choice) b.below b.lies

pub returns-in-Some : goal.returns-in-Some
returns-in-Some g c =
    let t = g.T.BranchTable in
    let s = c.args.self.now in
    let s1 = record s { table = record s.table { now = c.untell_to.new.table }; trail = record s.trail { now = c.untell_to.new.trail }; choices = record s.choices { now = c.pop.new.self } } in
    let s2 = c.put.new.self in
    let e = c.untell_to.ensures in
    let p = c.in-Some.ensures in
    let choice = c.in-Some.choice in
    let n = back_length c.requires.state (items c.pop.new.self) choice p.popped (t.marks c.untell_to.new.table) e.marks in
    let f = same_frame t s s1 e.loan e.room n e.slots e.lent p.slots p.loan in
    let b = back c.requires.state (items c.pop.new.self) choice p.popped {m' = moment t s1} e.marks e.trail refl f c.requires.hopeless in
    let q = c.put.ensures in (
      record {
        same = record { book = q.same.book; table = q.same.table; trail = q.same.trail; choices = q.same.choices };
        frame = q.put.frame_is ∙ f;
        falls = omega (arith, weighs g.B.Book t s s2 q.same.book, back_lighter b q.put (items s.trail.now) (items s.choices.now) p.popped);
      },
      there g.B.Book t s s2 q.same.book (forced_step b.state (flipped choice) b.below b.lies (moment t s2) q.put b.reason),
    )

pub returns-in-None : goal.returns-in-None
returns-in-None g c =
    let t = g.T.BranchTable in
    let s = c.args.self.now in
    let s1 = record s { table = record s.table { now = c.untell_to-in-None.new.table }; trail = record s.trail { now = c.untell_to-in-None.new.trail }; choices = record s.choices { now = c.pop.new.self } } in
    let e = c.untell_to-in-None.ensures in
    let p = c.in-None.ensures in
    let off = all_off c.requires.state (t.marks c.untell_to-in-None.new.table) e.marks in
    record {
      same = record { book = refl; table = refl; trail = refl; choices = refl };
      frame = same_frame t s s1 e.loan e.room off.1 e.slots e.lent p.slots p.loan;
      none = failed c.requires.state p.popped.0 c.requires.hopeless;
      clear = off.0;
    }
