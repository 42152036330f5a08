use Rattle.semantics.specs.Branch.{Fulfilled}
use Rattle.tableau.specs.Scans.{SurveyedFrom}
use Rattle.tableau.proofs.Clauses.{found_so, surveyed_whole}
use Rattle.tableau.proofs.types.Search.survey.Goals as goal

pub returns : goal.returns
returns g c =
    let b = g.B.Book in
    let book = c.args.self.now.book.now in
    let ms = g.T.BranchTable.marks c.args.self.now.table.now in
    found_so (b.counts book) (b.clauses book) ms (SurveyedFrom (b.counts book) (b.clauses book) ms 0) (Fulfilled (b.counts book) (b.clauses book) ms) c.survey_from.result
    (surveyed_whole (b.counts book) (b.clauses book) ms) c.survey_from.ensures
