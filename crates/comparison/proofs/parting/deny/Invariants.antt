use Rattle.std.proofs.Common.{◌≡◌, [], get_or}
use Rattle.books.specs.Rest.{literals_left}
use Rattle.books.specs.Suppositions.{own_of, counts_with, clauses_with}
use Rattle.instances.specs.Assignments.{names_of}
use Rattle.comparison.proofs.Denying.{Denying}
use Rattle.comparison.proofs.parting.deny.Given as goal

abbrev pub invariant-loop-l : goal.invariant-loop-l
invariant-loop-l g l = record {
  counts : counts_with g.B.Book.counts l.layer ≡ counts_with g.B.Book.counts l.initial.layer;
  denying : Denying (g.S.Book.counts l.other) (names_of l.names) (get_or (g.S.Book.clauses l.other) l.i []) (clauses_with g.B.Book.counts g.B.Book.clauses l.initial.layer) (clauses_with g.B.Book.counts g.B.Book.clauses l.layer) (own_of l.layer) (literals_left g.S.Book.clauses l.l-iterator);
}
