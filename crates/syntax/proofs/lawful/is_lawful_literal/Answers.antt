use Rattle.std.proofs.Common.{rules, Bool, Decides, sym, subst}
use Rattle.syntax.specs.Lawful.{LawfulLiteral, lawful_term}
use Rattle.syntax.specs.Decided.{literal_decides}
use Rattle.syntax.proofs.lawful.is_lawful_literal.Goals as goal

pub returns : goal.returns
returns c =
    let k = c.args.counts in
    subst (λ (b : Bool). Decides b (LawfulLiteral k c.args.l)) (sym (c.is_atom_of.ensures (lawful_term k) (λ t r p. search rules))) (literal_decides k c.args.l)
