use Rattle.std.proofs.Common.{◌≡◌, List, [], ◌∷◌, ◌++◌, ap, ◌∙◌}
use Rattle.std.proofs.lemmas.List.{append_assoc}
use Rattle.books.specs.Lists.{literal_at}
use Rattle.books.specs.Suppositions.{unit}
use Rattle.books_tests.proofs.tests.in_pile.Goals as goal

three : {X : Type 0} (cs : List X) (a b d : X) → ((cs ++ a ∷ []) ++ b ∷ []) ++ d ∷ [] ≡ cs ++ a ∷ b ∷ d ∷ []
three cs a b d = simp append_assoc

pub returns : goal.returns
returns g c =
    let o1 = c.over-first.ensures.clauses in
    let q1 = c.in_ok-suppose.ensures.done.3 in
    let o2 = c.over-second.ensures.clauses in
    let q2 = c.in_ok-suppose-2.ensures.done.3 in
    let o3 = c.over-third.ensures.clauses in
    let q3 = c.in_ok-suppose-3.ensures.done.3 in
    c.literal.ensures ∙
    ap (λ zs. literal_at zs c.args.i c.args.j)
    (q3 ∙ ap (λ zs. zs ++ unit c.args.d ∷ []) (o3 ∙ q2 ∙ ap (λ zs. zs ++ unit c.args.b ∷ []) (o2 ∙ q1 ∙ ap (λ zs. zs ++ unit c.args.a ∷ []) o1)) ∙ three _ (unit c.args.a) (unit c.args.b) (unit c.args.d))
