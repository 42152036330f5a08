use Rattle.std.proofs.Common.{◌≡◌, ℕ, ◌-◌, [], ◌∷◌, ◌++◌, length, get_or, take, set, sym, ap, ◌∙◌, append_assoc, arith}
use Rattle.std.proofs.lemmas.List.{take_more, length_push}
use Rattle.tables.specs.Items.{items, slots_of}
use Rattle.tables.specs.Marks.{signed, tell_refusal}
use Rattle.tables_tests.specs.Told.{told}
use Rattle.tables_tests.proofs.Counted.{stop_full, step_told, told_push, told_ok, pushed_on}
use Rattle.tables_tests.proofs.walk.tell_all.Goals as goal

pub returns-then-is_full-clause-count : goal.returns-then-is_full-clause-count
returns-then-is_full-clause-count g c =
    let t = g.T.BranchTable in
    let l = c.loop-done in
    let stop = stop_full (t.room c.args.table.now) c.args.sign (slots_of l.trail) (items l.trail) (t.marks l.table) c.args.atoms.now l.done (c.is_full.ensures.0 c.if-is_full.true) in
    omega (arith, l.invariant.0, stop)

pub loop-done-preserved : goal.loop-done-preserved
loop-done-preserved g c =
    let t = g.T.BranchTable in
    let l = c.loop-done in
    let i = l.invariant in
    let atoms = c.args.atoms.now in
    let n = l.done in
    let a = get_or atoms n 0 in
    let h = c.loop-done-test.true in
    let s = c.args.sign in
    let ms = t.marks c.args.table.now in
    let e = told_ok (t.marks l.table) (t.marks c.tell.new.self) (t.room l.table) a s c.tell.result (sym c.is_err.ensures.value ∙ c.if-is_err.false) c.tell.ensures.told in
    let p = pushed_on (items l.trail) (items c.push.new.self) (slots_of l.trail) a c.push.result c.push.ensures.pushed (λ f. let y = c.is_full.ensures.1 f in let n' = c.if-is_full.false in let z : ◌≡◌ {A = ℕ} 0 1 = cc in omega arith) in
    let why = ap (λ r. tell_refusal (t.marks l.table) r a) (sym i.3) ∙ e.0 in
    let free : slots_of c.push.new.self - length (items c.push.new.self) ≡ slots_of l.trail - length (items l.trail) - 1 = omega (arith, c.push.ensures.slots, ap length p.1 ∙ length_push (items l.trail) a) in
    let step = step_told (t.room c.args.table.now) s (slots_of l.trail - length (items l.trail)) (slots_of c.push.new.self - length (items c.push.new.self))
    (t.marks l.table) (t.marks c.tell.new.self) atoms n h (omega (arith, p.0)) free why e.1 in (
      omega (arith, i.0, step),
      e.1 ∙ ap (λ m. set m a (signed s)) i.1 ∙ sym (ap (told s ms) (take_more atoms n 0 h) ∙ told_push s ms (take n atoms) a),
      p.1 ∙ ap (λ k. k ++ (a ∷ [])) i.2 ∙ append_assoc (items c.args.trail.now) (take n atoms) (a ∷ []) ∙ ap (λ k. items c.args.trail.now ++ k) (sym (take_more atoms n 0 h)),
      c.tell.ensures.room ∙ i.3,
      c.tell.ensures.loan ∙ i.4,
      c.push.ensures.slots ∙ i.5,
      c.push.ensures.loan ∙ i.6,
    )
