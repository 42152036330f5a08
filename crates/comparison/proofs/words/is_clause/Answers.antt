use Rattle.std.proofs.Common.{[], get_or, refl, sym, ap, ◌∙◌, arith, below_more}
use Rattle.std.proofs.lemmas.Bool.{false≢true}
use Rattle.std.specs.List.{slice_get}
use Rattle.std.specs.Option.{is_some}
use Rattle.semantics.specs.Meaning.{Clause}
use Rattle.comparison.proofs.Wording.{eight, ended, places_told, same_clause}
use Rattle.comparison.proofs.words.is_clause.Goals as goal

pub returns-then-ne : goal.returns-then-ne
returns-then-ne g c =
    let told = places_told _ _ _ _ c.ne.result c.literal-l.ensures c.literal.ensures c.ne.ensures in
    (λ e. absurd (false≢true e), λ e. absurd (false≢true (sym (told.1 (ap (λ (zs : Clause). slice_get zs c.loop-j.j) e)) ∙ c.if-ne.true)))

pub returns-then-is_none : goal.returns-then-is_none
returns-then-is_none g c =
    let told = places_told _ _ _ _ c.ne.result c.literal-l.ensures c.literal.ensures c.ne.ensures in
    let one = told.0 c.if-ne.false in
    let none = ap is_some (sym c.literal-l.ensures) ∙ c.if-is_none.ensures in
    (λ _. ended c.loop-j.j _ _ none one c.loop-j.invariant, λ _. refl)

pub loop-j-preserved : goal.loop-j-preserved
loop-j-preserved g c =
    let told = places_told _ _ _ _ c.ne.result c.literal-l.ensures c.literal.ensures c.ne.ensures in
    below_more _ c.loop-j.j c.loop-j.invariant (told.0 c.if-ne.false)

pub returns : goal.returns
returns g c =
    let f = g.F.Book in
    let s = g.S.Book in
    let one = c.args.one.now in
    let other = c.args.other.now in (
      λ _. same_clause (get_or (f.clauses one) c.args.k []) (get_or (s.clauses other) c.args.i []) (eight (f.counts one) (f.clauses one) c.args.k (f.lawful one)) (eight (s.counts other) (s.clauses other) c.args.i (s.lawful other))
          (λ j h. c.loop-j.invariant j (omega arith)),
      λ _. refl,
    )
