use Rattle.std.proofs.Common.{ap, length, sym, subst, arith}
use Rattle.syntax.specs.declared.counts.Counts.{Counts}
use Rattle.semantics.specs.Branch.{ClassTable}
use Rattle.classes.specs.Leaders.{leader_of}
use Rattle.tableau.specs.Signs.{Clear}
use Rattle.tableau.proofs.Judging.{cleared_clear, cleared_length, searched_after}
use Rattle.tableau.proofs.judge.find.Goals as goal

pub search-requires : goal.search-requires
search-requires g c =
    let ms = g.T.BranchTable.marks c.args.table.now in
    let is = c.clear.ensures in
    let q = c.requires in
    record {
      clear = subst Clear (sym is.cleared) (cleared_clear ms);
      reach = omega (arith, q.reach, ap length is.cleared, cleared_length ms);
      room = omega (arith, q.room, is.room);
      trail = (omega (arith, q.trail, c.new-told.ensures.slots), c.new-told.ensures.items);
      choices = (omega (arith, q.choices, c.new-chosen.ensures.slots), c.new-chosen.ensures.items);
      fits = subst (λ (n : Counts). ClassTable n (g.T.BranchTable.marks c.clear.new.self) (leader_of c.of-classes.result)) c.counts.ensures c.of-classes.ensures;
    }

pub returns-clause-searched : goal.returns-clause-searched
returns-clause-searched g c =
    let n = g.B.Book.counts c.args.book.now in
    let cs = g.B.Book.clauses c.args.book.now in
    let t = g.T.BranchTable in
    searched_after n cs (t.marks c.args.table.now) (t.marks c.clear.new.self) (t.marks c.search.new.table) c.clear.ensures.cleared c.search.result c.search.ensures.searched
