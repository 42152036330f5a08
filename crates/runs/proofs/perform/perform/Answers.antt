use Rattle.std.proofs.Common.{◌≡◌, ◌<◌, map, length, get_or, sym, ap, ◌∙◌, arith, rules}
use Rattle.std.proofs.lemmas.List.{length-map, get_or-map}
use Rattle.runs.specs.Runs.{meant}
use Rattle.runs.proofs.Performing.{perform_none, perform_more, perform_all}
use Rattle.runs.proofs.perform.perform.Goals as goal

pub loop-k-init : goal.loop-k-init
loop-k-init g c = record { performing = perform_none _ _ _ _ _; memory = search rules }

pub loop-k-preserved : goal.loop-k-preserved
loop-k-preserved g c =
    let b = g.B.Book in
    let calls = c.args.calls.now in
    let n = c.loop-k.k in
    let x = c.index-calls-k.result in
    let inv = c.loop-k.invariant in
    let in-calls : n < length calls = omega (arith, c.min-many.ensures) in
    let in-journal : n < length c.args.journal.now = omega (arith, c.min-many.ensures) in
    let is : meant b x ≡ get_or (map (meant b) calls) n (meant b x) = ap (meant b) c.index-calls-k.is ∙ sym (get_or-map (meant b) calls n x (meant b x) in-calls) in
    record {
      performing = perform_more _ _ _ _ _ n _ _ _ _ inv.performing (meant b x) c.act.result _ _ _ (omega (arith, length-map calls (meant b))) in-journal is c.act.ensures.counts c.act.ensures.called;
      memory = search rules;
    }

pub returns-clause-performed : goal.returns-clause-performed
returns-clause-performed g c =
    let all : c.loop-k.k ≡ c.min-many.result = omega arith in
    perform_all _ _ _ _ _ _ _ _ _ _ (rw all at c.loop-k.invariant.performing) (omega (arith, length-map c.args.calls.now (meant g.B.Book), c.min-many.ensures))
