use Rattle.std.proofs.Common.{arith}
use Rattle.books.proofs.Steps.{len_is, lawful_fewer, stored_fewer}
use Rattle.books.proofs.working.WorkingBook.strike.Goals as goal

pub invariant_of-self : goal.invariant_of-self
invariant_of-self c =
    let b = c.args.self.now in
    record { fits = omega arith; whole = b.whole; lawful = lawful_fewer b.counts b.clauses _ b.len (omega arith) b.lawful }

pub returns-clause-done : goal.returns-clause-done
returns-clause-done c =
    let b = c.args.self.now in
    (omega (arith, len_is b), stored_fewer b.clauses _ b.len (omega arith))
