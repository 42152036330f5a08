use Rattle.std.proofs.Common.{ℕ, ◌+◌, ◌*◌, sym, ap, subst, ◌∙◌, ap₂}
use Rattle.syntax.specs.Lawful.{AtomBy, GroundTerm}
use Rattle.syntax.specs.Numbers.{number_of}
use Rattle.syntax.proofs.Laws.{numbered}
use Rattle.syntax.proofs.numbers.atom_number.Goals as goal

pub returns-in-Same : goal.returns-in-Same
unfolding number_of
returns-in-Same c =
    let a = c.in-Same.a in
    let b = c.in-Same.b in
    numbered c.args.counts c.args.g _ (subst (AtomBy c.args.counts (GroundTerm c.args.counts)) c.from.ensures (c.is_ground_atom.ensures.0 c.if-not-is_ground_atom.false))
    (ap (λ (n : ℕ). a * n + b) c.names-n.ensures ∙ ap (number_of c.args.counts) (sym c.in-Same.is))

pub returns-in-Prop : goal.returns-in-Prop
unfolding number_of
returns-in-Prop c =
    let p = c.in-Prop.p in
    let a = c.in-Prop.a in
    numbered c.args.counts c.args.g _ (subst (AtomBy c.args.counts (GroundTerm c.args.counts)) c.from.ensures (c.is_ground_atom.ensures.0 c.if-not-is_ground_atom.false))
    (ap (λ (n : ℕ). n * n + p * n + a) c.names-n.ensures ∙ ap (number_of c.args.counts) (sym c.in-Prop.is))

pub returns-in-Rel : goal.returns-in-Rel
unfolding number_of
returns-in-Rel c =
    let r = c.in-Rel.r in
    let a = c.in-Rel.a in
    let b = c.in-Rel.b in
    numbered c.args.counts c.args.g _ (subst (AtomBy c.args.counts (GroundTerm c.args.counts)) c.from.ensures (c.is_ground_atom.ensures.0 c.if-not-is_ground_atom.false))
    (ap₂ (λ (n m : ℕ). n * n + m * n + (r * n + a) * n + b) c.names-n.ensures c.properties-m.ensures ∙ ap (number_of c.args.counts) (sym c.in-Rel.is))
