use Rattle.std.proofs.Common.{rules, Bool, Decides, sym, subst}
use Rattle.syntax.specs.Lawful.{AtomBy, GroundTerm, ground_term}
use Rattle.syntax.specs.Decided.{atom_decides, name_decides}
use Rattle.syntax.proofs.lawful.is_ground_atom.Goals as goal

pub returns : goal.returns
returns c =
    let k = c.args.counts in
    subst (λ (b : Bool). Decides b (AtomBy k (GroundTerm k) c.args.atom)) (sym (c.is_atom_of.ensures (ground_term k) (λ t r p. search rules))) (atom_decides k (ground_term k) (GroundTerm k) (name_decides k) c.args.atom)
