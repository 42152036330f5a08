use Rattle.std.proofs.Common.{List, [], ◌++◌, get_or, ap, ◌∙◌, subst}
use Rattle.syntax.specs.declared.counts.Counts.{Counts}
use Rattle.syntax.specs.declared.types.Literal.{Literal}
use Rattle.semantics.specs.Meaning.{Assigns}
use Rattle.semantics.specs.Suppositions.{denials}
use Rattle.instances.specs.Assignments.{names_of}
use Rattle.comparison.proofs.Searches.{parted}
use Rattle.comparison.proofs.parting.parts_at.Goals as goal

pub returns-clause-parted : goal.returns-clause-parted
returns-clause-parted g c =
    let k = g.F.Book.counts c.args.one.now in
    let one = g.F.Book.clauses c.args.one.now in
    let other = g.S.Book.clauses c.args.other.now in
    let σ = names_of c.args.names in
    let assigns : Assigns k σ = subst (λ (q : Counts). Assigns q σ) c.requires.fine.counts c.requires.assigns in
    let o = c.over-layer.ensures in
    let d = c.deny.ensures in
    parted k one other c.args.i c.requires.inside σ assigns _ _ _ _ c.judge.result c.is_consistent.result (d.counts ∙ o.counts) (d.clauses ∙ ap (λ (xs : List (List Literal)). xs ++ denials σ (get_or other c.args.i [])) o.clauses) c.is_consistent.ensures c.judge.ensures.judged c.requires.fine.sizes
