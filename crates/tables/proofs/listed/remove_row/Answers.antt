use Rattle.std.proofs.Common.{◌+◌, ◌<◌, take, length, set, refl, ap, ◌∙◌, arith}
use Rattle.std.proofs.lemmas.List.{get_or_default, length-take-le}
use Rattle.syntax.specs.declared.types.Mark.TheVariants.{Open}
use Rattle.syntax.specs.declared.types.SignedAtom.{SignedAtom}
use Rattle.tables.specs.Listed.{listed}
use Rattle.tables.proofs.Rows.{removal}
use Rattle.tables.proofs.Zero.{no_row}
use Rattle.tables.proofs.listed.remove_row.Goals as goal

pub returns : goal.returns
returns c =
    let n = c.args.last in
    let rs = take (n + 1) c.args.rows.now in
    let r = removal c.args.rows.now n (n + 1) c.args.at no_row refl (omega arith) c.requires.at c.requires.each in
    let lt : c.args.at < length rs = omega (arith, length-take-le (n + 1) c.args.rows.now (omega arith)) in
    record { each = r.1; untold = λ d. r.0 ∙ ap (λ (x : SignedAtom). set (listed rs) x.atom Open) (get_or_default rs c.args.at no_row d lt) }
