use Rattle.std.proofs.Common.{rules, ◌∙◌}
use Rattle.std.proofs.lemmas.Iterator.{YieldsList-from_slice}
use Rattle.std.proofs.lemmas.Iterator.Search.{any_from_yields_List}
use borrow.Author.Tests.{tests}
use Rattle.semantics.specs.Checks.{atom_use}
use Rattle.instances.proofs.Using.{uses_any}
use Rattle.instances.proofs.ranges.calls.uses_in.Goals as goal

pub returns : goal.returns
returns c =
    any_from_yields_List (λ l. atom_use c.args.v l.atom) c.any.new.self _ _ c.any.ensures.ran (YieldsList-from_slice c.args.literals.now c.iter.ensures.rest) (λ x b q k. search (rules, tests))
    ∙ uses_any c.args.v c.args.literals.now
