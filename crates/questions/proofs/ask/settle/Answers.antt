use Rattle.std.proofs.Common.{[], ◌∷◌, ◌++◌, Decides, sym, refl, ◌∙◌, subst}
use Rattle.syntax.specs.declared.types.Literal.{Literal}
use Rattle.semantics.specs.Judgements.{Consistent}
use Rattle.books.specs.Suppositions.{unit}
use Rattle.questions.specs.Asked.{named, Tells}
use Rattle.questions.proofs.Settling.{settled, after_clear}
use Rattle.questions.proofs.ask.settle.Goals as goal

pub returns-clause-settled : goal.returns-clause-settled
returns-clause-settled g c =
    let k = g.B.Book.counts c.args.book.now in
    let cs = g.B.Book.clauses c.args.book.now in
    let l = c.args.l in
    let one = c.has_model_with-with.ensures in
    let two = c.has_model_with-without.ensures in
    let is = c.clear.ensures in
    let without = c.has_model_with-without.result in
    let done = after_clear _ _ _ is.cleared (two.kept.reach ∙ one.kept.reach) in
    let o : Decides without (Consistent k (cs ++ unit _ ∷ [])) = subst (λ (x : Literal). Decides without (Consistent k (cs ++ unit x ∷ []))) c.not.ensures two.right in
    let so = settled k cs l c.has_model_with-with.result without c.requires.ground_one one.right o in
    record {
      left = record {
        kept = record {
          reach = done.1;
          room = is.room ∙ two.kept.room ∙ one.kept.room;
          loan = is.loan ∙ two.kept.loan ∙ one.kept.loan;
          trail = two.kept.trail ∙ one.kept.trail;
          choices = two.kept.choices ∙ one.kept.choices;
          model = refl;
        };
        clear = done.0;
        model = refl;
      };
      so = subst (Tells k cs (named l.atom) l.sign) (sym c.certainty.ensures) so;
    }
