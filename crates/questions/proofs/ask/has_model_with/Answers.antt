use Rattle.std.proofs.Common.{Bool, [], ◌∷◌, ◌++◌, Decides, sym, subst, rules}
use Rattle.semantics.specs.Judgements.{Consistent}
use Rattle.books.specs.Suppositions.{unit}
use Rattle.questions.proofs.Settling.{searched_at}
use Rattle.questions.proofs.ask.has_model_with.Goals as goal

pub returns : goal.returns
returns g c =
    let k = g.B.Book.counts c.args.book.now in
    let cs = g.B.Book.clauses c.args.book.now ++ unit c.args.l ∷ [] in
    let w = c.with_literal.ensures in
    let f = c.find_branch.ensures in
    let s = searched_at _ k _ cs _ _ c.find_branch.result w.counts w.clauses (f.branched []) f.right c.requires.sizes in
    record { right = subst (λ (r : Bool). Decides r (Consistent k cs)) (sym c.is_consistent.ensures) s.right; kept = s.kept; memory = search rules }
