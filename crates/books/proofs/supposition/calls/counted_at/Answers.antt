use Rattle.std.proofs.Common.{sym, ◌∙◌, rules}
use borrow.Author.Tests.{tests}
use Rattle.std.proofs.lemmas.Iterator.Adapters.{option_map_id}
use Rattle.std.proofs.lemmas.Iterator.{YieldsList-from_slice}
use Rattle.std.proofs.lemmas.Iterator.Consumers.{YieldsList-from_copied, YieldsList-from_filter, YieldsList-at, nth_from_yields_List}
use Rattle.syntax.specs.Lawful.{ground_literal}
use Rattle.books.proofs.supposition.calls.counted_at.Goals as goal

pub returns : goal.returns
returns c =
    sym (option_map_id c.nth.result) ∙
    nth_from_yields_List c.nth.result _ c.args.k c.nth.ensures.ran (YieldsList-from_filter _ (ground_literal c.args.counts) (YieldsList-at c.filter.ensures.source (YieldsList-from_copied (YieldsList-from_slice c.args.literals.now (cc)))) c.filter.ensures.closure (λ x r q k. search (rules, tests)))
