use Rattle.std.proofs.Common.{rules}
use Rattle.classes.specs.Symbols.{view}
use Rattle.classes.proofs.Meeting.{rel_decides}
use Rattle.classes.proofs.classed.Classed.clashes_at.Goals as goal

pub returns-in-Rel : goal.returns-in-Rel
returns-in-Rel g c =
    rel_decides (view g.T.BranchTable.marks c.args.self.now) c.args.atom c.args.sign c.meets-in-Rel.result c.from-in-Rel.result c.in-Rel.r c.in-Rel.a c.in-Rel.b c.leader-in-Rel.result c.leader-in-Rel-2.result
    c.in-Rel.is (search rules) c.from-in-Rel.ensures c.leader-in-Rel.ensures c.leader-in-Rel-2.ensures c.meets-in-Rel.ensures
