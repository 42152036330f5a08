use Rattle.std.proofs.Common.{◌≡◌, ℕ, List, length, take, None, Option, MatchOption, sym, ap, subst, arith, length-take}
use Rattle.syntax.specs.declared.counts.Counts.{Counts}
use Rattle.blocks.specs.declared.file.Head.{Head}
use Rattle.blocks.specs.Layout.{HeadIs}
use Rattle.blocks.proofs.Heads.{head_none, head_body, head_made, number_same}
use Rattle.blocks.proofs.file.read_head.Goals as goal

pub slice_bounds-contents-end : goal.slice_bounds-contents-end
slice_bounds-contents-end c = omega (arith, c.requires, length-take 512 c.args.bytes.now)

pub contents-requires : goal.contents-requires
contents-requires c = omega (arith, c.requires, length-take 512 c.args.bytes.now)

-- nothing is answered where there is no head
none : (bytes : List ℕ) (r : Option Head) → r ≡ None → ((d : Counts) (n : ℕ) → HeadIs bytes d n → ⊥) → MatchOption r ((d : Counts) (n : ℕ) → HeadIs bytes d n → ⊥) (λ h. HeadIs bytes h.counts h.len)
none bytes r e h = subst (λ o. MatchOption o ((d : Counts) (n : ℕ) → HeadIs bytes d n → ⊥) (λ h. HeadIs bytes h.counts h.len)) (sym e) h

pub returns-in_err-contents : goal.returns-in_err-contents
returns-in_err-contents c =
    none c.args.bytes.now _ c.from_residual.ensures (λ d n h. head_none (take 512 c.args.bytes.now) d n c.in_err-contents.ensures h.says)

pub read_contents-requires : goal.read_contents-requires
read_contents-requires c =
    let block = take 512 c.args.bytes.now in
    omega (arith, c.requires, length-take 512 c.args.bytes.now, length-take 510 block, ap length c.in_ok-contents.ensures)

pub returns-in_err-head : goal.returns-in_err-head
returns-in_err-head c =
    none c.args.bytes.now _ c.from_residual-in_err-head.ensures (λ d n h. c.in_err-head.ensures d n (h.few, head_body (take 512 c.args.bytes.now) _ d n c.in_ok-contents.ensures h.says))

pub returns-then-bytes-div_ceil : goal.returns-then-bytes-div_ceil
returns-then-bytes-div_ceil c = λ d n h.
    let e = number_same _ d c.in_ok-head.head.counts n _ (head_body (take 512 c.args.bytes.now) _ d n c.in_ok-contents.ensures h.says) c.in_ok-head.ensures.1 in
    c.if-bytes-div_ceil.true (omega (arith, h.fits, c.div_ceil.ensures))

pub returns : goal.returns
returns c = record {
  few = c.in_ok-head.ensures.0;
  fits = omega (arith, c.div_ceil.ensures, c.if-bytes-div_ceil.false);
  says = head_made (take 512 c.args.bytes.now) _ _ _ c.in_ok-contents.ensures c.in_ok-head.ensures.1;
}
