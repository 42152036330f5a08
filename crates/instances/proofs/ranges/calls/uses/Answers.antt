use Rattle.std.proofs.Common.{[], get_or, rules, ◌∙◌}
use Rattle.std.proofs.lemmas.Iterator.Consumers.{YieldsList-from_first}
use Rattle.std.proofs.lemmas.Iterator.Search.{any_from_yields_List}
use borrow.Author.Tests.{tests}
use Rattle.semantics.specs.Checks.{atom_use}
use Rattle.books.specs.Rest.{literals_left}
use Rattle.instances.proofs.Using.{uses_any}
use Rattle.instances.proofs.ranges.calls.uses.Goals as goal

pub returns : goal.returns
returns g c =
    any_from_yields_List (λ l. atom_use c.args.v l.atom) c.any.new.self _ _ c.any.ensures.ran (YieldsList-from_first (λ x. x) (literals_left g.B.Book.clauses) _ c.literals_of.ensures.all) (λ x b q k. search (rules, tests))
    ∙ uses_any c.args.v (get_or (g.B.Book.clauses c.args.book.now) c.args.i [])
