use Rattle.std.proofs.Common.{◌≡◌, ℕ, ◌-◌, Bool, cond, length, get_or, slice_get, count_by, ◌==◌, ap, ◌∙◌, arith, rules}
use Rattle.std.proofs.lemmas.List.{take_all}
use Rattle.listing.proofs.Lines.{open_by, lines_counted, one_more}
use Rattle.listing.proofs.take_in.Goals as goal

pub loop-b-preserved : goal.loop-b-preserved
loop-b-preserved c =
    let one : c.from-ends.result ≡ cond (get_or c.args.text.now c.loop-b.b-index 0 == 10) 1 0 = search rules in
    let more = one_more c.args.text.now c.loop-b.b-index c.from-ends.result (omega arith) one in
    (omega (arith, more.0, c.loop-b.invariant.0), omega (arith, more.1, c.loop-b.invariant.1))

pub returns : goal.returns
returns c =
    let text = c.args.text.now in
    let ends : c.loop-b.ends ≡ count_by (λ (b : ℕ). b == 10) text = c.loop-b.invariant.1 ∙ ap (count_by (λ (b : ℕ). b == 10)) (take_all c.loop-b.b-index text (omega arith)) in
    let begun : c.is_some_and-begun.result ≡ open_by (slice_get text (length text - 1)) = search (rules, c.last.ensures.value, c.is_some_and-begun.ensures) in
    let one : c.from.result ≡ cond c.is_some_and-begun.result 1 0 = search rules in
    let more = ap {B = ℕ} (λ (b : Bool). cond b 1 0) begun in
    (omega arith, search rules, omega (arith, ends, one, more, lines_counted text))
