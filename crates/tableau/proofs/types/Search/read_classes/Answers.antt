use Rattle.std.proofs.Common.{subst, refl}
use mathlib.Core.Bool.{false≢true}
use Rattle.syntax.specs.declared.counts.Counts.{Counts}
use Rattle.semantics.specs.Branch.{Clash, ClassTable}
use Rattle.classes.specs.Leaders.{leader_of}
use Rattle.tableau.proofs.types.Search.read_classes.Goals as goal

pub returns-then-clashes : goal.returns-then-clashes
returns-then-clashes g c =
    subst (λ (k : Counts). Clash k (g.T.BranchTable.marks c.args.self.now.table.now)) c.counts-counts.ensures ((c.if-clashes.ensures.clash c.of-classes.ensures).0 refl)

pub returns : goal.returns
returns g c =
    let ms = g.T.BranchTable.marks c.args.self.now.table.now in (
      subst (λ (k : Counts). ClassTable k ms (leader_of c.of-classes.result)) c.counts-counts.ensures c.of-classes.ensures,
      subst (λ (k : Counts). Clash k ms → ⊥) c.counts-counts.ensures (λ h. false≢true ((c.if-clashes.ensures.clash c.of-classes.ensures).1 h)),
    )
