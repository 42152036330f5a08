use Rattle.std.proofs.Common.{ℕ, List, [], ◌++◌, get_or, sym, ◌∙◌, subst, arith, below_more, rules}
use Rattle.syntax.specs.declared.counts.Counts.{Counts}
use Rattle.syntax.specs.Lawful.{Lawful}
use Rattle.semantics.specs.Meaning.{Assigns}
use Rattle.semantics.specs.Judgements.{Contradictory}
use Rattle.semantics.specs.Suppositions.{denials}
use Rattle.books.proofs.Readings.{clause_lawful}
use Rattle.instances.specs.Assignments.{names_of, nth_assignment, RunsThrough}
use Rattle.instances.proofs.Ranging.{each_assigns}
use Rattle.comparison.proofs.Searches.{kept_more, followed}
use Rattle.comparison.proofs.parting.parts_instances.Goals as goal

pub parts_at-requires-clause-assigns : goal.parts_at-requires-clause-assigns
parts_at-requires-clause-assigns g c =
    let d = g.S.Book.counts c.args.other.now in
    let cl = get_or (g.S.Book.clauses c.args.other.now) c.args.i [] in
    subst (λ (n : List ℕ). Assigns d (names_of n)) (sym c.nth.ensures) (each_assigns d cl c.of-ranges.result c.loop-k.k c.of-ranges.ensures)

pub loop-k-preserved : goal.loop-k-preserved
loop-k-preserved g c =
    let k = g.F.Book.counts c.args.one.now in
    let one = g.F.Book.clauses c.args.one.now in
    let cl = get_or (g.S.Book.clauses c.args.other.now) c.args.i [] in
    let inv = c.loop-k.invariant in
    let p = c.if-parts_at.ensures.parted in
    let P : List ℕ → Type 0 = λ n. Contradictory k (one ++ denials (names_of n) cl) in
    record {
      kept = kept_more _ _ _ inv.kept p.0;
      memory = search rules;
      model = p.1 ∙ inv.model;
      each = below_more (λ n. P (nth_assignment c.of-ranges.result n)) c.loop-k.k inv.each (subst P c.nth.ensures p.2);
    }

pub returns-clause-parted : goal.returns-clause-parted
returns-clause-parted g c =
    let k = g.F.Book.counts c.args.one.now in
    let d = g.S.Book.counts c.args.other.now in
    let one = g.F.Book.clauses c.args.one.now in
    let cl = get_or (g.S.Book.clauses c.args.other.now) c.args.i [] in
    let r = c.of-ranges.result in
    let inv = c.loop-k.invariant in
    let e = c.requires.fine.counts in
    let law : Lawful k cl = subst (λ (q : Counts). Lawful q cl) e (clause_lawful d _ c.args.i (g.S.Book.lawful c.args.other.now) c.requires.inside) in
    let runs : RunsThrough k cl r = subst (λ (q : Counts). RunsThrough q cl r) e c.of-ranges.ensures in
    (inv.kept, inv.model, followed k one cl r c.loop-k.k law runs (omega (arith, c.size-k-end.ensures.size)) inv.each)
