use Rattle.std.proofs.Common.{sym}
use Rattle.blocks.proofs.Files.{clauses_count}
use Rattle.blocks.proofs.book.calls.BlockBookBook.len.Goals as goal

pub returns : goal.returns
returns c =
    let b = c.args.self.now in
    sym (clauses_count b.len b.bytes.now)
