-- Judgements, and judging by supposition.
use Rattle.std.proofs.Common.{◌≡◌, Bool, not, ◌⊎◌, List, [], ◌∷◌, ◌++◌, sym, ap, ◌∙◌, inl, inr, ⊎_elim, arith}
use Rattle.std.specs.List.{AllByRecursion}
use Rattle.std.proofs.ByRecursion.{all-has, All-append, has_append_left, has_append_right, has_push}
use Rattle.syntax.specs.declared.types.Ground.{Ground}
use Rattle.syntax.specs.declared.types.Literal.{Literal}
use Rattle.syntax.specs.declared.counts.Counts.{Counts}
use Rattle.syntax.specs.Lawful.{Lawful, LawfulLiteral}
use Rattle.syntax.specs.Numbers.{atom_of}
use Rattle.semantics.specs.Meaning.{Clause, ◌∈◌, Interpretation, value, Assignment, Assigns, four, ground_of, Holds, SomeHolds, Satisfies, Model}
use Rattle.semantics.specs.Judgements.{Contradictory}
use Rattle.semantics.specs.Suppositions.{unit, denials}
use Rattle.semantics.specs.Theorems.{Denial, CounterInstance, OneTruth, OneComparison}
use Rattle.semantics.proofs.Finite.{all_from, find_in, find_below}
use Rattle.semantics.proofs.Instances.{ground_of_atom, four_at, four_below, ground_same}
use Rattle.semantics.proofs.Marks.{not_both, cases_sign}

-- a clause of one ground literal says that the literal holds
pub unit_out : (c : Counts) (I : Interpretation) (g : Ground) (s : Bool) → Satisfies c I (unit g s) → value I g ≡ s
unit_out c I g s sat =
    let σ : Assignment = λ v. 0 in
    let some = sat σ (λ v h. c.some) in
    all-has (λ l. Holds I σ l → value I g ≡ s) (unit g s) some.0 ((λ h. ap (value I) (sym (ground_of_atom σ g)) ∙ h), tt) some.1 some.2

pub unit_in : (c : Counts) (I : Interpretation) (g : Ground) (s : Bool) → value I g ≡ s → Satisfies c I (unit g s)
unit_in c I g s e σ assigns = (record { sign = s; atom = atom_of g }, has_push [] _, ap (value I) (ground_of_atom σ g) ∙ e)

-- a model of two lists of clauses together
pub model_both : (c : Counts) (I : Interpretation) (one more : List Clause) → Model c one I → AllByRecursion (Satisfies c I) more → Model c (one ++ more) I
model_both c I one more model sats =
    record {
      over = model.over;
      all = λ cl i. all-has (Satisfies c I) (one ++ more) cl (All-append (Satisfies c I) one more (all_from (Satisfies c I) one model.all) sats) i;
    }

pub model_left : (c : Counts) (I : Interpretation) (one more : List Clause) → Model c (one ++ more) I → Model c one I
model_left c I one more model = record { over = model.over; all = λ cl i. model.all cl (has_append_left one more cl i) }

pub denial : Denial
denial c clauses g s = (
  λ none I model.
      ⊎_elim
      (λ e. e)
      (λ e. absurd (none (I, model_both c I clauses (unit g (not s) ∷ []) model (unit_in c I g (not s) e, tt))))
      (cases_sign (value I g) s),
  λ holds t.
      not_both (value t.0 g) s
      (holds t.0 (model_left c t.0 clauses (unit g (not s) ∷ []) t.1))
      (unit_out c t.0 g (not s) (t.1.all _ (has_push clauses _))),
)

pub one_truth : OneTruth
one_truth c clauses g s = (
  λ sure excluded. not_both _ s (sure.1 sure.0.0 sure.0.1) (excluded.1 sure.0.0 sure.0.1),
  λ sure either. not_both _ s (sure.1 either.1.0 either.1.1) either.1.2,
  λ excluded either. not_both _ s either.0.2 (excluded.1 either.0.0 either.0.1),
  λ either. (either.0.0, either.0.1),
)

pub one_comparison : OneComparison
one_comparison c first second = (
  λ one two. one.2 (two.0 one.0 one.1),
  λ one equal. one.2 (equal.0 one.0 one.1),
  λ two equal. two.1.2 (equal.1 two.1.0 two.1.1),
)

abbrev Fails : Interpretation → Assignment → Literal → Type 0
Fails I σ l = value I (ground_of σ l.atom) ≡ not l.sign

abbrev Broken : Counts → Interpretation → Clause → Type 0
Broken c I cl = (σ : Assignment) × Assigns c σ × AllByRecursion (Fails I σ) cl

module _ (c : Counts) (I : Interpretation) (cl : Clause) where
  -- at one assignment every literal fails, or some literal holds
  decide_at : (σ : Assignment) → AllByRecursion (Fails I σ) cl ⊎ SomeHolds I σ cl
  decide_at σ =
      ⊎_elim inr inl (find_in (Holds I σ) (Fails I σ) cl (all_from _ cl (λ l i. cases_sign (value I (ground_of σ l.atom)) l.sign)))

  -- so at all
  decide : Lawful c cl → Broken c I cl ⊎ Satisfies c I cl
  decide lawful =
      let n = c.names in
      ⊎_elim
      (λ r. let (x, hx, ry) = r in let (y, hy, rz) = ry in let (z, hz, rw') = rz in let (w, hw, fails) = rw' in
      inl (four x y z w, four_below n x y z w hx hy hz hw, fails))
      (λ hold. inr (λ σ assigns.
      let some = hold (σ 0) (assigns 0 (omega arith)) (σ 1) (assigns 1 (omega arith)) (σ 2) (assigns 2 (omega arith)) (σ 3) (assigns 3 (omega arith)) in
      let at = all-has (LawfulLiteral c) cl some.0 lawful.each some.1 in
      (some.0, some.1, sym (ap (value I) (ground_same c _ σ some.0.atom (four_at σ) at)) ∙ some.2)))
      (find_below _ _ n (λ x hx. find_below _ _ n (λ y hy. find_below _ _ n (λ z hz. find_below _ _ n (λ w hw. decide_at (four x y z w))))))

denials_in : (c : Counts) (I : Interpretation) (σ : Assignment) (cl : Clause) → AllByRecursion (Fails I σ) cl → AllByRecursion (Satisfies c I) (denials σ cl)
denials_in c I σ [] f = tt
denials_in c I σ (l ∷ ls) f = (unit_in c I (ground_of σ l.atom) (not l.sign) f.0, denials_in c I σ ls f.1)

denials_out : (c : Counts) (I : Interpretation) (σ : Assignment) (cl : Clause) → AllByRecursion (Satisfies c I) (denials σ cl) → AllByRecursion (Fails I σ) cl
denials_out c I σ [] f = tt
denials_out c I σ (l ∷ ls) f = (unit_out c I (ground_of σ l.atom) (not l.sign) f.0, denials_out c I σ ls f.1)

-- a model of the one book and of the denials of an instance of the other's is none of the other
pub denied_there : (c : Counts) (I : Interpretation) (one other : List Clause) (cl : Clause) (σ : Assignment) → cl ∈ other → Assigns c σ → Model c (one ++ denials σ cl) I → Model c other I → ⊥
denied_there c I one other cl σ i assigns model two =
    let fails = denials_out c I σ cl (all_from (Satisfies c I) (denials σ cl) (λ d j. model.all d (has_append_right one (denials σ cl) d j))) in
    let some = two.all cl i σ assigns in
    not_both _ some.0.sign some.2 (all-has (Fails I σ) cl some.0 fails some.1)

-- where they have none, some literal of the instance holds in every model of the one book
pub holds_there : (c : Counts) (I : Interpretation) (one : List Clause) (cl : Clause) (σ : Assignment) → Model c one I → Contradictory c (one ++ denials σ cl) → SomeHolds I σ cl
holds_there c I one cl σ model none =
    ⊎_elim
    (λ fails. absurd (none (I, model_both c I one (denials σ cl) model (denials_in c I σ cl fails))))
    (λ some. some)
    (decide_at c I cl σ)

pub counter_instance : CounterInstance
counter_instance c one other lawful = (
  λ t.
      let I = t.0 in
      ⊎_elim
      (λ r. let (cl, i, broken) = r in
      (cl, i, (broken.0, broken.1, (I, model_both c I one (denials broken.0 cl) t.1 (denials_in c I broken.0 cl broken.2)))))
      (λ sats. absurd (t.2 (record { over = t.1.over; all = λ cl i. all-has (Satisfies c I) other cl sats i })))
      (find_in (Broken c I) (Satisfies c I) other (all_from _ other (λ cl i. decide c I cl (all-has (Lawful c) other cl lawful i)))),
  λ t.
      let (cl, i, u) = t in
      let (σ, assigns, v) = u in
      let (I, model) = v in (
        I,
        model_left c I one (denials σ cl) model,
        denied_there c I one other cl σ i assigns model,
      ),
)
