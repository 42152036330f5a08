use Rattle.std.proofs.Common.{below_more, refl}
use Rattle.tableau.specs.Scans.{ClauseSurveyed}
use Rattle.tableau.proofs.Clauses.{found_none}
use Rattle.tableau.proofs.types.Search.survey_from.Goals as goal

pub loop-i-preserved : goal.loop-i-preserved
loop-i-preserved g c =
    let b = g.B.Book in
    let book = c.args.self.now.book.now in
    let ms = g.T.BranchTable.marks c.args.self.now.table.now in
    below_more _ _ c.loop-i.invariant
    (λ _. found_none (b.counts book) (b.clauses book) ms (ClauseSurveyed (b.counts book) (b.clauses book) ms c.loop-i.i 0) c.in_ok-found.found c.if-is_some.ensures c.in_ok-found.ensures refl)
