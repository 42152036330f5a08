use Rattle.std.proofs.Common.{ℕ, ◌-◌, filter, sym, ap, ◌∙◌, inl, inr, ⊎_elim, arith}
use Rattle.std.specs.List.{slice_get}
use Rattle.syntax.specs.Lawful.{ground_literal}
use Rattle.books.specs.Suppositions.{own_of, units}
use Rattle.books.proofs.Laid.{literal_below}
use Rattle.books.proofs.Supposing.{kept_of, first_above, none_above}
use Rattle.books.proofs.supposition.calls.SuppositionBook.literal.Goals as goal

pub returns-then-i-under : goal.returns-then-i-under
returns-then-i-under g c =
    let s = c.args.self.now in
    let b = s.below in
    c.literal.ensures ∙ sym (literal_below (g.B.Book.clauses b) (units (g.B.Book.counts b) (own_of s)) c.args.i c.args.j (omega arith))

pub returns-then-i-ge65535 : goal.returns-then-i-ge65535
returns-then-i-ge65535 g c =
    let s = c.args.self.now in
    let b = s.below in
    none_above (g.B.Book.clauses b) (g.B.Book.counts b) (own_of s) c.args.i c.args.j (g.B.Book.few b) (omega arith) (⊎_elim inl (λ p. inr (omega arith, p.1)) c.then-i-ge65535.either)

pub returns : goal.returns
returns g c =
    let s = c.args.self.now in
    let b = s.below in
    let ks = filter (ground_literal (g.B.Book.counts b)) (own_of s) in
    c.counted_at.ensures ∙ ap (λ zs. slice_get zs (c.args.i - c.len-under.result)) (kept_of (g.B.Book.counts b) c.counts.result (own_of s) c.deref.result.now c.counts.ensures c.deref.ensures.0) ∙
    ap (λ (n : ℕ). slice_get ks (c.args.i - n)) c.len-under.ensures ∙
    first_above (g.B.Book.clauses b) (g.B.Book.counts b) (own_of s) c.args.i c.args.j (omega arith) (omega arith) (omega arith)
