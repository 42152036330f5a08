use Rattle.std.proofs.Common.{length, ap, arith}
use Rattle.books.specs.Suppositions.{own_of}
use Rattle.books.proofs.Supposing.{units_len, kept_of}
use Rattle.books.proofs.supposition.calls.SuppositionBook.len.Goals as goal

pub returns : goal.returns
returns g c =
    let s = c.args.self.now in
    let b = s.below in
    let e = ap length (kept_of (g.B.Book.counts b) c.counts.result (own_of s) c.deref.result.now c.counts.ensures c.deref.ensures.0) in
    omega (arith, units_len (g.B.Book.clauses b) (g.B.Book.counts b) (own_of s), c.len-under.ensures, c.counted-own.ensures, c.min.ensures)
