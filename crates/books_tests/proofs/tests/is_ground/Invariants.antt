use Rattle.std.proofs.Common.{[], get_or, take, ◌↔◌}
use Rattle.std.specs.List.{AllByRecursion}
use Rattle.syntax.specs.Lawful.{GroundLiteral}
use Rattle.books.specs.Rest.{literals_left}
use Rattle.books_tests.proofs.tests.is_ground.Given as goal

-- the clauses before i; what is left of clause i says the same as the whole
abbrev pub invariant-loop-i : goal.invariant-loop-i
invariant-loop-i g l = AllByRecursion (AllByRecursion (GroundLiteral (g.B.Book.counts l.book))) (take l.i (g.B.Book.clauses l.book))

abbrev pub invariant-loop-l : goal.invariant-loop-l
invariant-loop-l g l =
    let Q = GroundLiteral (g.B.Book.counts l.book) in
    AllByRecursion Q (literals_left g.B.Book.clauses l.l-iterator) ↔ AllByRecursion Q (get_or (g.B.Book.clauses l.book) l.i [])
