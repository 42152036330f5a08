use Rattle.std.proofs.Common.{◌≡◌, get_or, sym, ap, ◌∙◌, rules}
use Rattle.syntax.specs.Codes.{sign_code}
use Rattle.syntax.proofs.Bytes.{five_back}
use Rattle.syntax.proofs.codes.decode_literal.Goals as goal
use Rattle.syntax.proofs.codes.decode_literal.Goals.{in-0, in-1}

pub returns : goal.returns
returns c =
    let sign : get_or c.args.bytes.now 0 0 ≡ sign_code c.match-sign.sign = elim c.match-sign.branch [
      | in-0 w ↦ w.in-0.is ∙ sym (ap sign_code w.sign-is)
      | in-1 w ↦ w.in-1.is ∙ sym (ap sign_code w.sign-is)
    ] in
    five_back c.args.counts c.args.bytes.now c.match-sign.sign c.in_ok-atom.atom (search rules) sign (sym c.in_ok-atom.ensures)
