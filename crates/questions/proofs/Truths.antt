-- A question has one answer, given exactly when it is due.
use Rattle.std.proofs.Common.{◌≡◌, ℕ, Bool, true, false, eqb, List, Some, None, Ok, Err, Option, Result, sym, refl, ap, ◌∙◌, subst, arith}
use Rattle.std.proofs.lemmas.Bool.Decides.{nat_tests, Decides-eqb}
use Rattle.syntax.specs.declared.types.Ground.{Ground}
use Rattle.syntax.specs.declared.types.Ground.TheVariants.{Same}
use Rattle.syntax.specs.declared.types.Literal.{Literal}
use Rattle.syntax.specs.declared.types.Refusal.{Refusal}
use Rattle.syntax.specs.declared.counts.Counts.{Counts}
use Rattle.semantics.specs.Meaning.{Clause}
use Rattle.semantics.proofs.Suppose.{one_truth}
use Rattle.tableau.specs.Judged.{Lent}
use Rattle.questions.specs.declared.answers.Certainty.{Certainty}
use Rattle.questions.specs.declared.answers.Certainty.TheVariants.{Contradictory, Sure, Excluded, Open}
use Rattle.questions.specs.declared.answers.Sameness.{Sameness}
use Rattle.questions.specs.declared.answers.Sameness.TheVariants as sameness
use Rattle.questions.specs.Asked.{Tells, TellsNames, AskedBy, ask_refusal, named_so, sameness_literal}
use Rattle.questions.specs.Laws.{OneCertainty, OneSameness, ExactCertainty, ExactSameness}

-- two answers that are due are one
pub certain : (c : Counts) (cs : List Clause) (g : Ground) (s : Bool) (t u : Certainty) → Tells c cs g s t → Tells c cs g s u → t ≡ u
certain c cs g s Contradictory Contradictory h k = refl
certain c cs g s Contradictory Sure h k = absurd (h k.0)
certain c cs g s Contradictory Excluded h k = absurd (h k.0)
certain c cs g s Contradictory Open h k = absurd (h ((one_truth c cs g s).3 k))
certain c cs g s Sure Contradictory h k = absurd (k h.0)
certain c cs g s Sure Sure h k = refl
certain c cs g s Sure Excluded h k = absurd ((one_truth c cs g s).0 h k)
certain c cs g s Sure Open h k = absurd ((one_truth c cs g s).1 h k)
certain c cs g s Excluded Contradictory h k = absurd (k h.0)
certain c cs g s Excluded Sure h k = absurd ((one_truth c cs g s).0 k h)
certain c cs g s Excluded Excluded h k = refl
certain c cs g s Excluded Open h k = absurd ((one_truth c cs g s).2 h k)
certain c cs g s Open Contradictory h k = absurd (k ((one_truth c cs g s).3 h))
certain c cs g s Open Sure h k = absurd ((one_truth c cs g s).1 k h)
certain c cs g s Open Excluded h k = absurd ((one_truth c cs g s).2 k h)
certain c cs g s Open Open h k = refl

-- the answer on two names as that on their literal
abbrev literally : Sameness → Certainty
literally sameness.Contradictory = Contradictory
literally sameness.Equal = Sure
literally sameness.Distinct = Excluded
literally sameness.Open = Open

there_and_back : (t : Sameness) → named_so (literally t) ≡ t
there_and_back sameness.Contradictory = refl
there_and_back sameness.Equal = refl
there_and_back sameness.Distinct = refl
there_and_back sameness.Open = refl

of_names : (c : Counts) (cs : List Clause) (a b : ℕ) (t : Sameness) → TellsNames c cs a b t → Tells c cs (Same a b) true (literally t)
of_names c cs a b sameness.Contradictory h = h
of_names c cs a b sameness.Equal h = h
of_names c cs a b sameness.Distinct h = h
of_names c cs a b sameness.Open h = h

pub to_names : (c : Counts) (cs : List Clause) (a b : ℕ) (t : Certainty) → Tells c cs (Same a b) true t → TellsNames c cs a b (named_so t)
to_names c cs a b Contradictory h = h
to_names c cs a b Sure h = h
to_names c cs a b Excluded h = h
to_names c cs a b Open h = h

pub certain_names : (c : Counts) (cs : List Clause) (a b : ℕ) (t u : Sameness) → TellsNames c cs a b t → TellsNames c cs a b u → t ≡ u
certain_names c cs a b t u h k =
    sym (there_and_back t) ∙ ap named_so (certain c cs (Same a b) true (literally t) (literally u) (of_names c cs a b t h) (of_names c cs a b u k)) ∙ there_and_back u

-- two answers to one question
pub some_none : (o : Option Refusal) (e : Refusal) → o ≡ Some e → o ≡ None → ⊥
some_none o e p q = grind arith

one_answer : {X : Type 0} (c : Counts) (cs : List Clause) (l : Literal) (Says : X → Type 0) → ((t u : X) → Says t → Says u → t ≡ u) → (m m' m'' : Lent) (one other : Result X Refusal) → AskedBy c cs l Says m m' one → AskedBy c cs l Says m m'' other → one ≡ other
one_answer c cs l Says pinned m m' m'' (Ok t) (Ok u) p q = ap Ok (pinned t u p.2 q.2)
one_answer c cs l Says pinned m m' m'' (Ok t) (Err e) p q = absurd (some_none (ask_refusal c cs l m) e q.0 p.0)
one_answer c cs l Says pinned m m' m'' (Err e) (Ok u) p q = absurd (some_none (ask_refusal c cs l m) e p.0 q.0)
one_answer c cs l Says pinned m m' m'' (Err e) (Err f) p q = let s : Some e ≡ Some f = sym p.0 ∙ q.0 in cc

pub one_certainty : OneCertainty
one_certainty c cs l m m' m'' one other p q = one_answer c cs l (Tells c cs _ _) (certain c cs _ _) m m' m'' one other p q

pub one_sameness : OneSameness
one_sameness c cs a b m m' m'' one other p q = one_answer c cs (sameness_literal a b) (TellsNames c cs a b) (certain_names c cs a b) m m' m'' one other p q

-- exactly when it is due
pub exact_certainty : ExactCertainty
exact_certainty c cs g s t h = record {
  contradictory = (λ e. subst (Tells c cs g s) e h, λ k. certain c cs g s t Contradictory h k);
  sure = (λ e. subst (Tells c cs g s) e h, λ k. certain c cs g s t Sure h k);
  excluded = (λ e. subst (Tells c cs g s) e h, λ k. certain c cs g s t Excluded h k);
  undecided = (λ e. subst (Tells c cs g s) e h, λ k. certain c cs g s t Open h k);
}

different : (x y : ℕ) → eqb x y ≡ false → x ≡ y → ⊥
different x y e f = grind (arith, nat_tests)

is_different : (x y : ℕ) → (x ≡ y → ⊥) → eqb x y ≡ false
is_different x y f = grind (arith, nat_tests)

pub exact_sameness : ExactSameness
exact_sameness c cs a b t h =
    let T = TellsNames c cs a b in record {
      contradictory = (λ e. subst T e h, λ k. certain_names c cs a b t sameness.Contradictory h k);
      equal = (
        λ e. let k = subst T e h in (k.0, λ I model. (Decides-eqb (I.thing a) (I.thing b)).0 (k.1 I model)),
        λ k. certain_names c cs a b t sameness.Equal h (k.0, λ I model. (Decides-eqb (I.thing a) (I.thing b)).1 (k.1 I model)),
      );
      distinct = (
        λ e. let k = subst T e h in (k.0, λ joined. different (joined.0.thing a) (joined.0.thing b) (k.1 joined.0 joined.1) joined.2),
        λ k. certain_names c cs a b t sameness.Distinct h (k.0, λ I model. is_different (I.thing a) (I.thing b) (λ e. k.1 (I, model, e))),
      );
      undecided = (
        λ e. let k = subst T e h in (
          (k.0.0, k.0.1, (Decides-eqb (k.0.0.thing a) (k.0.0.thing b)).0 k.0.2),
          (k.1.0, k.1.1, different (k.1.0.thing a) (k.1.0.thing b) k.1.2),
        ),
        λ k. certain_names c cs a b t sameness.Open h (
          (k.0.0, k.0.1, (Decides-eqb (k.0.0.thing a) (k.0.0.thing b)).1 k.0.2),
          (k.1.0, k.1.1, is_different (k.1.0.thing a) (k.1.0.thing b) k.1.2),
        ),
      );
    }
