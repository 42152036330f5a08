use Rattle.std.proofs.Common.{◌≡◌, refl, subst}
use mathlib.Core.Bool.{false≢true}
use Rattle.syntax.specs.declared.counts.Counts.{Counts}
use Rattle.syntax.specs.Numbers.{number_of, LawfulGround}
use Rattle.classes.specs.Leaders.{leader_of}
use Rattle.classes.specs.Clashes.{ClashAt}
use Rattle.tableau.proofs.Classes.{still_fits, clash_here}
use Rattle.tableau.proofs.types.Search.classes_with.Goals as goal

pub returns-then-clashes_at : goal.returns-then-clashes_at
returns-then-clashes_at g c =
    let k = g.B.Book.counts c.args.self.now.book.now in
    let ms = g.T.BranchTable.marks c.args.self.now.table.now in
    let leader = leader_of c.args.self.now.classes in
    let l = c.args.l in
    let a = c.in-Some.g in
    let e = c.counts-counts.ensures in
    let q = c.requires in
    let lawful = subst (λ (n : Counts). LawfulGround n a) e c.in-Some.ensures.1 in
    let is = subst (λ (n : Counts). number_of n a ≡ l.atom) e c.in-Some.ensures.2 in
    let at = subst (λ (n : Counts). ClashAt n ms leader a l.sign) e (c.if-clashes_at.ensures.0 refl) in
    (clash_here k ms leader l a lawful is q.stands q.inside q.fits q.calm (c.if-joins.ensures refl)).1 at

pub returns : goal.returns
returns g c =
    let k = g.B.Book.counts c.args.self.now.book.now in
    let ms = g.T.BranchTable.marks c.args.self.now.table.now in
    let leader = leader_of c.args.self.now.classes in
    let l = c.args.l in
    let a = c.in-Some.g in
    let e = c.counts-counts.ensures in
    let q = c.requires in
    let lawful = subst (λ (n : Counts). LawfulGround n a) e c.in-Some.ensures.1 in
    let is = subst (λ (n : Counts). number_of n a ≡ l.atom) e c.in-Some.ensures.2 in
    let none = c.if-joins.ensures refl in
    let at = subst (λ (n : Counts). ClashAt n ms leader a l.sign → ⊥) e (λ h. false≢true (c.if-clashes_at.ensures.1 h)) in
    (still_fits k ms leader l a lawful is q.stands q.inside q.fits q.calm none, λ h. at ((clash_here k ms leader l a lawful is q.stands q.inside q.fits q.calm none).0 h))
