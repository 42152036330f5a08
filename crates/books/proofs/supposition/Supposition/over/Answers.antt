use Rattle.std.proofs.Common.{ap, ◌∙◌}
use Rattle.books.specs.Layers.{laid}
use Rattle.books.specs.Suppositions.{units}
use Rattle.books.proofs.Laid.{laid_none}
use Rattle.books.proofs.supposition.Supposition.over.Goals as goal

pub returns-clause-clauses : goal.returns-clause-clauses
returns-clause-clauses g c =
    let b = c.args.below in
    ap (λ ls. laid (g.B.Book.clauses b) (units (g.B.Book.counts b) ls)) c.new.ensures ∙ laid_none (g.B.Book.clauses b)
