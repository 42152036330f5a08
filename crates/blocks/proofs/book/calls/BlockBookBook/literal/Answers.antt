use Rattle.std.proofs.Common.{◌+◌, ◌*◌, sym, ◌∙◌, subst, arith}
use Rattle.std.proofs.lemmas.Option.{slice_get_past}
use Rattle.books.proofs.Laid.{literal_past}
use Rattle.syntax.specs.Codes.{Decoded}
use Rattle.blocks.specs.Book.{clauses_of}
use Rattle.blocks.proofs.Pieces.{cut}
use Rattle.blocks.proofs.Held.{literal_held}
use Rattle.blocks.proofs.book.calls.BlockBookBook.literal.Goals as goal

pub returns-in_err-clause : goal.returns-in_err-clause
returns-in_err-clause c =
    c.from_residual.ensures ∙ sym (literal_past (clauses_of c.args.self.now) c.args.i c.args.j c.in_err-clause.ensures)

pub returns-then-j-clause : goal.returns-then-j-clause
returns-then-j-clause c =
    let h = c.in_ok-clause.ensures in
    sym (slice_get_past _ c.args.j (omega (arith, h.first, c.if-j-clause.true)))

pub returns : goal.returns
returns c =
    let b = c.args.self.now in
    let h = c.in_ok-clause.ensures in
    literal_held b.counts (clauses_of b) c.args.i c.args.j c.in_ok-clause.clause.now _ h (omega (arith, h.first)) (subst (λ xs. Decoded b.counts xs c.decode_literal.result) (cut (2 + 5 * c.args.j) 5 c.in_ok-clause.clause.now) c.decode_literal.ensures)
