use Rattle.std.proofs.Common.{ℕ, sym, ap, ◌∙◌, ltb, arith}
use Rattle.std.specs.Bool.{then_some}
use Rattle.books.specs.Suppositions.{own_of, units}
use Rattle.books.proofs.Laid.{size_below}
use Rattle.books.proofs.Supposing.{size_above_below}
use Rattle.books.proofs.supposition.calls.SuppositionBook.literals.Goals as goal

pub returns-then-i-len : goal.returns-then-i-len
returns-then-i-len g c =
    let s = c.args.self.now in
    let b = s.below in
    c.literals.ensures ∙ sym (size_below (g.B.Book.clauses b) (units (g.B.Book.counts b) (own_of s)) c.args.i (omega arith))

pub returns : goal.returns
returns g c =
    let s = c.args.self.now in
    let b = s.below in
    c.then_some.ensures ∙ ap (λ (n : ℕ). then_some (ltb c.args.i n) 1) c.len-2.ensures ∙ size_above_below (g.B.Book.clauses b) (g.B.Book.counts b) (own_of s) c.args.i (g.B.Book.few b) (omega arith)
