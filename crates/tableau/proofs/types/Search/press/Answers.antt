use Rattle.std.proofs.Common.{[], get_or}
use Rattle.tableau.specs.Signs.{instance}
use Rattle.instances.specs.Assignments.{names_of}
use Rattle.tableau.proofs.States.{no_model, entails}
use Rattle.tableau.proofs.Clauses.{satisfied, atom_below}
use Rattle.tableau.proofs.Going.{gone_here}
use Rattle.tableau.proofs.types.Search.press.Goals as goal

pub returns-in-Broken : goal.returns-in-Broken
returns-in-Broken g c =
    let b = g.B.Book in
    let book = c.args.self.now.book.now in
    let n = c.args.names in (
      gone_here b g.T.BranchTable c.args.self.now,
      record {
        state = c.requires.ready.state;
        hopeless =
            no_model (g.T.BranchTable.marks c.args.self.now.table.now) (instance (b.counts book) (names_of n) (get_or (b.clauses book) c.args.i []))
            (satisfied (b.counts book) (b.clauses book) (b.lawful book) c.args.i c.requires.inside (names_of n) c.requires.assigns)
            c.in-Broken.ensures;
      },
    )

pub enforce-requires : goal.enforce-requires
enforce-requires g c =
    let b = g.B.Book in
    let book = c.args.self.now.book.now in
    let n = c.args.names in
    let s = c.in-Forced.ensures in
    let assigns = c.requires.assigns in
    record {
      ready = c.requires.ready;
      below = atom_below (b.counts book) (b.clauses book) (b.lawful book) c.args.i c.requires.inside (names_of n) assigns c.in-Forced.l s.1;
      lies = s.0;
      follows =
          entails (g.T.BranchTable.marks c.args.self.now.table.now) (instance (b.counts book) (names_of n) (get_or (b.clauses book) c.args.i []))
          (satisfied (b.counts book) (b.clauses book) (b.lawful book) c.args.i c.requires.inside (names_of n) assigns) c.in-Forced.l s.2;
    }
