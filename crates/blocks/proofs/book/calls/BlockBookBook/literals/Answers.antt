use Rattle.std.proofs.Common.{sym, ◌∙◌}
use Rattle.books.proofs.Laid.{size_past}
use Rattle.books.proofs.Readings.{size_from}
use Rattle.blocks.specs.Book.{clauses_of}
use Rattle.blocks.proofs.book.calls.BlockBookBook.literals.Goals as goal

pub returns-in_err-clause : goal.returns-in_err-clause
returns-in_err-clause c =
    c.from_residual.ensures ∙ sym (size_past (clauses_of c.args.self.now) c.args.i c.in_err-clause.ensures)

pub returns : goal.returns
returns c =
    let h = c.in_ok-clause.ensures in
    size_from (clauses_of c.args.self.now) c.args.i _ (h.there, h.first)
