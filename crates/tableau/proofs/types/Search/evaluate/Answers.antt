use Rattle.std.proofs.Common.{◌≡◌, [], get_or, sym, ap, ◌∙◌, subst}
use Rattle.books.specs.Rest.{literals_left}
use Rattle.instances.specs.Assignments.{names_of}
use Rattle.tableau.specs.Signs.{signed_atom_of}
use Rattle.tableau.proofs.Looks.{Looked, stands, looked_denied, looked_open}
use Rattle.tableau.proofs.types.Search.evaluate.Goals as goal

pub returns-then-sign-atom : goal.returns-then-sign-atom
returns-then-sign-atom g c =
    let b = g.B.Book in
    let book = c.args.self.now.book.now in
    let σ = names_of c.args.names in
    let so : c.signed_atom-atom.result ≡ signed_atom_of (b.counts book) σ c.in-Some.l = c.signed_atom-atom.ensures.is ∙ ap (λ k. signed_atom_of k σ c.in-Some.l) c.counts-counts.ensures in
    stands (b.counts book) (g.T.BranchTable.marks c.args.self.now.table.now) σ (get_or (b.clauses book) c.args.i []) (literals_left b.clauses c.loop-l.l-iterator) c.loop-l.status c.loop-l.invariant
    c.in-Some.l (literals_left b.clauses c.next.new.self) c.in-Some.ensures.steps c.signed_atom-atom.result so c.in-Some-sign_at.sign (sym c.sign_at.ensures ∙ c.in-Some-sign_at.is) c.if-sign-atom.true

pub loop-l-preserved-else-sign-atom : goal.loop-l-preserved-else-sign-atom
loop-l-preserved-else-sign-atom g c =
    let b = g.B.Book in
    let book = c.args.self.now.book.now in
    let σ = names_of c.args.names in
    let so : c.signed_atom-atom.result ≡ signed_atom_of (b.counts book) σ c.in-Some.l = c.signed_atom-atom.ensures.is ∙ ap (λ k. signed_atom_of k σ c.in-Some.l) c.counts-counts.ensures in
    looked_denied (b.counts book) (g.T.BranchTable.marks c.args.self.now.table.now) σ (get_or (b.clauses book) c.args.i []) (literals_left b.clauses c.loop-l.l-iterator) c.loop-l.status c.loop-l.invariant
    c.in-Some.l (literals_left b.clauses c.next.new.self) c.in-Some.ensures.steps c.signed_atom-atom.result so c.in-Some-sign_at.sign (sym c.sign_at.ensures ∙ c.in-Some-sign_at.is) c.if-sign-atom.false

pub loop-l-preserved : goal.loop-l-preserved
loop-l-preserved g c =
    let b = g.B.Book in
    let book = c.args.self.now.book.now in
    let σ = names_of c.args.names in
    let so : c.signed_atom-atom.result ≡ signed_atom_of (b.counts book) σ c.in-Some.l = c.signed_atom-atom.ensures.is ∙ ap (λ k. signed_atom_of k σ c.in-Some.l) c.counts-counts.ensures in
    subst (λ v. Looked (b.counts book) (g.T.BranchTable.marks c.args.self.now.table.now) σ (get_or (b.clauses book) c.args.i []) (literals_left b.clauses c.next.new.self) v) (sym c.opens-status.ensures)
    (looked_open (b.counts book) (g.T.BranchTable.marks c.args.self.now.table.now) σ (get_or (b.clauses book) c.args.i []) (literals_left b.clauses c.loop-l.l-iterator) c.loop-l.status c.loop-l.invariant
    c.in-Some.l (literals_left b.clauses c.next.new.self) c.in-Some.ensures.steps c.signed_atom-atom.result so (sym c.sign_at.ensures ∙ c.in-None-sign_at.is))
