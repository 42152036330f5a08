use Rattle.std.proofs.Common.{get_or, Some, sym, ap, ◌∙◌, subst}
use Rattle.syntax.specs.declared.counts.Counts.{Counts}
use Rattle.syntax.specs.declared.types.Ground.{Ground}
use Rattle.syntax.specs.declared.types.Mark.TheVariants.{Open}
use Rattle.syntax.specs.Numbers.{Numbered}
use Rattle.classes.specs.Leaders.{leader_of}
use Rattle.tableau.specs.Variants.{renamed}
use Rattle.tableau.proofs.Linking.{variant_follows, sign_read}
use Rattle.tableau.proofs.types.Search.tell_renamed.Goals as goal

pub enforce-requires-clause-follows : goal.enforce-requires-clause-follows
enforce-requires-clause-follows g c =
    let n = g.B.Book.counts c.args.self.now.book.now in
    let marks = g.T.BranchTable.marks c.args.self.now.table.now in
    let a = c.args.g in
    let h = renamed a c.args.x c.args.y in
    let k = c.in-Some.atom in
    let from = c.in-Some-atom_number.from in
    let e : Numbered n h (Some k) = subst (λ (m : Counts). Numbered m h (Some k)) c.counts-counts.ensures (subst (λ (i : Ground). Numbered c.counts-counts.result i (Some k)) c.renamed-other.ensures c.in-Some.ensures) in
    let f : Numbered n a (Some from) = subst (λ (m : Counts). Numbered m a (Some from)) c.counts-counts.ensures c.in-Some-atom_number.ensures in
    variant_follows n marks (leader_of c.args.self.now.classes) c.requires.fits (g.B.Book.clauses c.args.self.now.book.now) a c.args.x c.args.y
    (c.is_led.ensures c.if-not-is_led.false) f.0 c.in-Some-sign_at.sign (ap (λ i. get_or marks i Open) (sym f.1) ∙ sign_read _ _ c.in-Some-sign_at.ensures) e.0 k e.1
