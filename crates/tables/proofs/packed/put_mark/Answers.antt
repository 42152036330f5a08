use Rattle.std.proofs.Common.{◌/◌, ◌<◌, set, ap, ◌∙◌, arith}
use Rattle.std.proofs.lemmas.List.{drop-set-lt}
use Rattle.tables.specs.Packed.{packed_marks, beyond}
use Rattle.tables.proofs.Packs.{packed_set}
use Rattle.tables.proofs.packed.put_mark.Goals as goal

pub returns-clause-marks : goal.returns-clause-marks
returns-clause-marks c =
    packed_set c.args.bytes.now c.args.atom _ _ c.requires c.with_digit.ensures.here c.with_digit.ensures.elsewhere
    ∙ ap (set (packed_marks c.args.bytes.now) c.args.atom) c.digit_for.ensures.means

pub returns-clause-beyond : goal.returns-clause-beyond
unfolding beyond
returns-clause-beyond c = let h : c.args.atom / 4 < 2560 = omega arith in drop-set-lt 2560 c.args.bytes.now (c.args.atom / 4) _ h
