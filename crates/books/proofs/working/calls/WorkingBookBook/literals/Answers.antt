use Rattle.std.proofs.Common.{rules}
use Rattle.books.proofs.Steps.{size_stored}
use Rattle.books.proofs.working.calls.WorkingBookBook.literals.Goals as goal

pub returns : goal.returns
returns c = search (rules, size_stored)
