use Rattle.std.proofs.Common.{◌<◌, length, ap, ◌∙◌, arith}
use Rattle.blocks.specs.Reading.{part}
use Rattle.blocks.specs.Book.{clauses_of}
use Rattle.blocks.proofs.Pieces.{cut}
use Rattle.blocks.proofs.Files.{clauses_count}
use Rattle.blocks.proofs.Held.{size_held, clause_held}
use Rattle.blocks.proofs.book.BlockBook.clause.Goals as goal

pub returns-then-i-self : goal.returns-then-i-self
returns-then-i-self c =
    let b = c.args.self.now in
    omega (arith, clauses_count b.len b.bytes.now)

pub place_of-from-requires : goal.place_of-from-requires
place_of-from-requires c =
    let b = c.args.self.now in
    omega (arith, clauses_count b.len b.bytes.now, b.file.few)

pub overflow_add-result : goal.overflow_add-result
overflow_add-result c =
    let b = c.args.self.now in
    let few = b.file.few in
    omega (arith, clauses_count b.len b.bytes.now, few, c.place_of-from.ensures)

pub slice_bounds-result-end : goal.slice_bounds-result-end
slice_bounds-result-end c =
    let b = c.args.self.now in
    omega (arith, clauses_count b.len b.bytes.now, size_held b.bytes.now b.counts (clauses_of b) b.file, c.place_of-from.ensures)

pub returns : goal.returns
returns c =
    let b = c.args.self.now in
    let below : c.args.i < length (clauses_of b) = omega (arith, clauses_count b.len b.bytes.now) in
    clause_held b.bytes.now b.counts (clauses_of b) b.file c.args.i _ below (cut c.place_of-from.result 42 b.bytes.now ∙ ap (λ p. part p 42 b.bytes.now) c.place_of-from.ensures)
