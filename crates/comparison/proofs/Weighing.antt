-- A comparison has one answer, given exactly when it is due.
use Rattle.std.proofs.Common.{◌≡◌, List, Some, Ok, Err, sym, refl, ap, ◌∙◌, subst}
use Rattle.syntax.specs.declared.counts.Counts.{Counts}
use Rattle.semantics.specs.Meaning.{Clause}
use Rattle.semantics.specs.Judgements.{IsFirstOnly, IsSecondOnly, EqualBooks}
use Rattle.semantics.proofs.Suppose.{one_comparison}
use Rattle.tableau.specs.Judged.{Lent}
use Rattle.questions.proofs.Truths.{some_none}
use Rattle.comparison.specs.declared.answer.Comparison.{Comparison}
use Rattle.comparison.specs.declared.answer.Comparison.TheVariants.{FirstOnly, SecondOnly, Equal}
use Rattle.comparison.specs.Compared.{Compares, compare_refusal}
use Rattle.comparison.specs.Laws.{OneComparison, ExactComparison}

-- what an answer means, without what it returns
abbrev Means : Counts → List Clause → List Clause → Comparison → Type 0
Means c first second FirstOnly = IsFirstOnly c first second
Means c first second SecondOnly = IsSecondOnly c first second
Means c first second Equal = EqualBooks c first second

means : (c : Counts) (first second : List Clause) (m m' : Lent) (r : Comparison) → Compares c first second m m' r → Means c first second r
means c first second m m' FirstOnly h = (h.by, h.holds, h.fails)
means c first second m m' SecondOnly h = (h.0, (h.1.by, h.1.holds, h.1.fails))
means c first second m m' Equal h = h.0

one_meaning : (c : Counts) (first second : List Clause) (r s : Comparison) → Means c first second r → Means c first second s → r ≡ s
one_meaning c first second FirstOnly FirstOnly h k = refl
one_meaning c first second FirstOnly SecondOnly h k = absurd ((one_comparison c first second).0 h k)
one_meaning c first second FirstOnly Equal h k = absurd ((one_comparison c first second).1 h k)
one_meaning c first second SecondOnly FirstOnly h k = absurd ((one_comparison c first second).0 k h)
one_meaning c first second SecondOnly SecondOnly h k = refl
one_meaning c first second SecondOnly Equal h k = absurd ((one_comparison c first second).2 h k)
one_meaning c first second Equal FirstOnly h k = absurd ((one_comparison c first second).1 k h)
one_meaning c first second Equal SecondOnly h k = absurd ((one_comparison c first second).2 k h)
one_meaning c first second Equal Equal h k = refl

pub compared_once : OneComparison
compared_once c d first second m m' m'' (Ok r) (Ok s) p q =
    ap Ok (one_meaning c first second r s (means c first second m m' r p.3) (means c first second m m'' s q.3))
compared_once c d first second m m' m'' (Ok r) (Err e) p q = absurd (some_none (compare_refusal c d first second m) e q.0 p.0)
compared_once c d first second m m' m'' (Err e) (Ok s) p q = absurd (some_none (compare_refusal c d first second m) e p.0 q.0)
compared_once c d first second m m' m'' (Err e) (Err f) p q = let s : Some e ≡ Some f = sym p.0 ∙ q.0 in cc

pub exact_comparison : ExactComparison
exact_comparison c first second m m' r h =
    let k = means c first second m m' r h in
    let M = Means c first second in
    let pinned = one_meaning c first second r in record {
      first_only = (λ e. subst M e k, λ a. pinned FirstOnly k a);
      second_only = (λ e. subst M e k, λ a. pinned SecondOnly k a);
      equal = (
        λ e. let b = subst M e k in λ I. (b.0 I, b.1 I),
        λ a. pinned Equal k (λ I. (a I).0, λ I. (a I).1),
      );
    }
