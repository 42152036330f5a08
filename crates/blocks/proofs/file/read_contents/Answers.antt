use Rattle.std.proofs.Common.{◌-◌, length, take, drop, arith}
use Rattle.std.proofs.lemmas.List.{take_rest}
use Rattle.std.proofs.lemmas.Bool.{false≢true}
use Rattle.blocks.proofs.Heads.{body_parts, body_rest, body_made}
use Rattle.blocks.proofs.file.read_contents.Goals.{then-len-gt256-via-then-len-gt256, then-len-gt256-via-else-len-gt256+then-not-are_zeros}
use Rattle.blocks.proofs.file.read_contents.Goals as goal

pub returns-then-len-gt256 : goal.returns-then-len-gt256
returns-then-len-gt256 c = λ d n w.
    let b = c.args.body.now in
    let p = body_parts b d n w.1 in
    elim c.then-len-gt256.branch [
      | then-len-gt256-via-then-len-gt256 v ↦ omega (arith, p.low, p.high, w.0, v.if-len-gt256)
      | then-len-gt256-via-else-len-gt256+then-not-are_zeros v ↦ false≢true (v.if-not-are_zeros.ensures.1 (body_rest b (take (length b - 5) (drop 5 b)) d n c.requires (take_rest b 5) w))
    ]

pub returns-in_default-new : goal.returns-in_default-new
returns-in_default-new c = λ d n w.
    let p = body_parts c.args.body.now d n w.1 in
    let q = p.names in
    let r = p.properties in
    let s = p.relations in
    c.in_default-new.ensures.0 (omega arith, omega arith, omega arith, omega arith)

pub returns : goal.returns
returns c =
    let b = c.args.body.now in
    let byte = c.type_inv.body 3 in
    body_made b (take (length b - 5) (drop 5 b)) c.in-Ok.counts _ c.requires (take_rest b 5) c.in-Ok.ensures.1 (omega arith) (omega arith) c.if-len-gt256.false (c.are_zeros.ensures.0 c.if-not-are_zeros.false)
