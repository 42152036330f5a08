use Rattle.std.proofs.Common.{◌≡◌, false, [], get_or, ◌↔◌}
use Rattle.std.specs.List.{AllByRecursion}
use Rattle.books.specs.Rest.{literals_left}
use Rattle.books_tests.proofs.tests.has_positive.Given as goal

-- no literal that is left says yes exactly where none of the clause does
abbrev pub invariant-loop-l : goal.invariant-loop-l
invariant-loop-l g l =
    AllByRecursion (λ x. x.sign ≡ false) (literals_left g.B.Book.clauses l.l-iterator) ↔ AllByRecursion (λ x. x.sign ≡ false) (get_or (g.B.Book.clauses l.book) l.i [])
