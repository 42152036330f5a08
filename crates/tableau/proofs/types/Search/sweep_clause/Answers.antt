use Rattle.std.proofs.Common.{[], Bor, get_or, sym, subst}
use Rattle.semantics.specs.Meaning.{Assigns}
use Rattle.instances.specs.Assignments.{names_of}
use Rattle.tableau.proofs.Clauses.{assigned}
use Rattle.tableau.proofs.types.Search.sweep_clause.Goals as goal

pub press-requires-clause-assigns : goal.press-requires-clause-assigns
press-requires-clause-assigns g c =
    let b = g.B.Book in
    let book = c.args.self.now.book.now in
    subst (λ (k : Bor g.row.B.Denot). Assigns (b.counts k.now) (names_of c.nth.result)) (sym c.loop-k.invariant.0.same.book)
    (assigned (b.counts book) (get_or (b.clauses book) c.args.i []) c.of-ranges.result c.loop-k.k c.nth.result c.of-ranges.ensures c.nth.ensures)
