use Rattle.std.proofs.Common.{[], get_or, None, arith, rules}
use Rattle.std.proofs.lemmas.List.{drop_all}
use Rattle.books.proofs.Readings.{literal_is, literal_within}
use Rattle.books.proofs.literals.LiteralsIterator.next.Goals as goal

pub returns-in_err-l-clause-steps : goal.returns-in_err-l-clause-steps
returns-in_err-l-clause-steps g c =
    let s = c.args.self.now in
    let cs = g.B.Book.clauses s.book.now in
    let none = drop_all s.next (get_or cs s.clause []) (literal_is cs s.clause s.next None (c.in_err-l.ensures)) in
    search rules

pub overflow_add-self : goal.overflow_add-self
overflow_add-self g c =
    let s = c.args.self.now in
    let b = s.book.now in
    let h = literal_within (g.B.Book.counts b) (g.B.Book.clauses b) s.clause s.next c.in_ok-l.l (g.B.Book.lawful b) (c.in_ok-l.ensures) in
    omega arith
