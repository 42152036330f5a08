use Rattle.std.proofs.Common.{ℕ, List, [], get_or, subst, arith, below_more}
use Rattle.books.proofs.Readings.{clause_lawful}
use Rattle.instances.specs.Assignments.{names_of}
use Rattle.tableau.specs.Signs.{SomeOf, StandsIn, instance}
use Rattle.tableau.proofs.Clauses.{assigned, satisfied, atom_below, stands_always}
use Rattle.tableau.proofs.States.{no_model}
use Rattle.tableau.proofs.types.Search.survey_clause.Goals as goal

pub evaluate-requires-clause-assigns : goal.evaluate-requires-clause-assigns
evaluate-requires-clause-assigns g c =
    let b = g.B.Book in
    let book = c.args.self.now.book.now in
    assigned (b.counts book) (get_or (b.clauses book) c.args.i []) c.of-ranges.result c.loop-k.k c.nth.result c.of-ranges.ensures c.nth.ensures

pub returns-in-Broken : goal.returns-in-Broken
returns-in-Broken g c =
    let b = g.B.Book in
    let book = c.args.self.now.book.now in
    let cl = get_or (b.clauses book) c.args.i [] in
    let σ = names_of c.nth.result in
    no_model (g.T.BranchTable.marks c.args.self.now.table.now) (instance (b.counts book) σ cl)
    (satisfied (b.counts book) (b.clauses book) (b.lawful book) c.args.i c.requires.inside σ (assigned (b.counts book) cl c.of-ranges.result c.loop-k.k c.nth.result c.of-ranges.ensures c.nth.ensures))
    c.in-Broken.ensures

pub returns-in-Forced : goal.returns-in-Forced
returns-in-Forced g c =
    let b = g.B.Book in
    let book = c.args.self.now.book.now in
    let cl = get_or (b.clauses book) c.args.i [] in
    let s = c.in-Forced.ensures in
    (atom_below (b.counts book) (b.clauses book) (b.lawful book) c.args.i c.requires.inside (names_of c.nth.result) (assigned (b.counts book) cl c.of-ranges.result c.loop-k.k c.nth.result c.of-ranges.ensures c.nth.ensures) c.in-Forced.l s.1, s.0)

pub returns-in-Forced-2 : goal.returns-in-Forced-2
returns-in-Forced-2 g c =
    let b = g.B.Book in
    let book = c.args.self.now.book.now in
    let cl = get_or (b.clauses book) c.args.i [] in
    let s = c.in-Forced.ensures in
    (atom_below (b.counts book) (b.clauses book) (b.lawful book) c.args.i c.requires.inside (names_of c.nth.result) (assigned (b.counts book) cl c.of-ranges.result c.loop-k.k c.nth.result c.of-ranges.ensures c.nth.ensures) c.in-Forced.l s.1, s.0)

pub loop-k-preserved : goal.loop-k-preserved
loop-k-preserved g c =
    let b = g.B.Book in
    let book = c.args.self.now.book.now in
    let P : List ℕ → Type 0 = λ n. SomeOf (StandsIn (g.T.BranchTable.marks c.args.self.now.table.now)) (instance (b.counts book) (names_of n) (get_or (b.clauses book) c.args.i [])) in
    below_more _ _ c.loop-k.invariant (λ _. subst P c.nth.ensures c.in-Fulfilled.ensures)

pub returns : goal.returns
returns g c = λ e.
    let b = g.B.Book in
    let book = c.args.self.now.book.now in
    let cl = get_or (b.clauses book) c.args.i [] in
    stands_always (b.counts book) (g.T.BranchTable.marks c.args.self.now.table.now) cl c.of-ranges.result
    (clause_lawful (b.counts book) (b.clauses book) c.args.i (b.lawful book) c.requires.inside) c.of-ranges.ensures
    (λ k h. c.loop-k.invariant k (omega (arith, h, c.loop-k-test.false, c.size-k-end.ensures.size)) (omega (arith, e)))
