-- From searches over suppositions to books told apart, or every clause followed.
use Rattle.std.proofs.Common.{◌≡◌, ℕ, ◌<◌, ◌≤◌, Bool, true, false, List, [], ◌++◌, length, get_or, take, drop, Some, None, Ok, Err, Option, Result, sym, refl, ap, ◌∙◌, subst, arith}
use Rattle.std.proofs.ByRecursion.{has_get_or, all-has}
use Rattle.std.proofs.lemmas.Bool.Decides.{nat_tests}
use Rattle.syntax.specs.declared.types.Refusal.{Refusal}
use Rattle.syntax.specs.declared.counts.Counts.{Counts}
use Rattle.syntax.specs.Lawful.{Lawful, LawfulLiteral}
use Rattle.syntax.specs.Refusals.{answer}
use Rattle.syntax.specs.Numbers.{atoms}
use Rattle.syntax.proofs.Counted.{counts_same}
use Rattle.semantics.specs.Meaning.{Clause, Interpretation, value, Assignment, Assigns, SomeHolds, Satisfies}
use Rattle.semantics.specs.Bytes.{BytesOf}
use Rattle.semantics.specs.Branch.{own}
use Rattle.semantics.specs.Judgements.{Contradictory, Within}
use Rattle.semantics.specs.Suppositions.{denials}
use Rattle.semantics.proofs.Instances.{ground_same}
use Rattle.semantics.proofs.Checking.{own_variables}
use Rattle.semantics.proofs.Suppose.{model_left, denied_there, holds_there}
use Rattle.instances.specs.declared.ranges.Ranges.{Ranges}
use Rattle.instances.specs.Assignments.{names_of, RunsThrough, size, nth_assignment}
use Rattle.instances.proofs.Ranging.{each_reached}
use Rattle.tableau.specs.declared.verdict.Verdict.{Verdict}
use Rattle.tableau.specs.declared.verdict.Verdict.TheVariants.{Consistent, Contradictory as Contrary}
use Rattle.tableau.specs.Judged.{Lent, Kept, judge_refusal, Judged}
use Rattle.tables.specs.Marks.{cleared}
use Rattle.questions.specs.Verdicts.{found}
use Rattle.questions.proofs.Truths.{some_none}
use Rattle.questions.proofs.Settling.{after_clear}
use Rattle.comparison.specs.declared.answer.Comparison.{Comparison}
use Rattle.comparison.specs.declared.answer.Comparison.TheVariants.{FirstOnly, SecondOnly, Equal}
use Rattle.comparison.specs.Compared.{alike, compare_refusal, ToldApart, Compares, Comparable, Follows, Parts, Weighed, Compared}

-- what is lent keeps its sizes over several calls
pub kept_more : (a b d : Lent) → Kept a b → Kept b d → Kept a d
kept_more a b d p q = record {
  reach = q.reach ∙ p.reach;
  room = q.room ∙ p.room;
  loan = q.loan ∙ p.loan;
  trail = q.trail ∙ p.trail;
  choices = q.choices ∙ p.choices;
  model = q.model ∙ p.model;
}

-- one search
module _ (c : Counts) (one other : List Clause) (i : ℕ) (inside : i < length other) (σ : Assignment) (assigns : Assigns c σ) (m m' : Lent) where
  parted_at : (r : Result Verdict Refusal) → Judged c (one ++ denials σ (get_or other i [])) m m' r → judge_refusal c m ≡ None → Parts c one other (Contradictory c (one ++ denials σ (get_or other i []))) m m' (found r)
  parted_at (Ok Consistent) j n =
      let cl = get_or other i [] in
      let left = j.2 in
      let I = own c m'.marks left.leader in (
        j.1,
        record {
          by = I;
          holds = model_left c I one (denials σ cl) left.model;
          fails = denied_there c I one other cl σ (has_get_or other i [] inside) assigns left.model;
          first = left.first;
          rest = left.rest;
        },
      )
  parted_at (Ok Contrary) j n = (j.1, j.2.model, j.2.none)
  parted_at (Err e) j n = absurd (some_none (judge_refusal c m) e j.0 n)

  pub parted : (k : Counts) (ks : List Clause) (r : Result Verdict Refusal) (b : Bool) → k ≡ c → ks ≡ one ++ denials σ (get_or other i []) → b ≡ found r → Judged k ks m m' r → judge_refusal c m ≡ None → Parts c one other (Contradictory c (one ++ denials σ (get_or other i []))) m m' b
  parted k ks r b ek es eb j n =
      let j1 : Judged c ks m m' r = subst (λ (q : Counts). Judged q ks m m' r) ek j in
      let j2 : Judged c (one ++ denials σ (get_or other i [])) m m' r = subst (λ (xs : List Clause). Judged c xs m m' r) es j1 in
      subst (Parts c one other (Contradictory c (one ++ denials σ (get_or other i []))) m m') (sym eb) (parted_at r j2 n)

-- every instance of a clause was tried
some_there : (I : Interpretation) (σ τ : Assignment) (c : Counts) (cl : Clause) → Lawful c cl → ((v : ℕ) → v < 4 → σ v ≡ τ v) → SomeHolds I σ cl → SomeHolds I τ cl
some_there I σ τ c cl law e some =
    let at = all-has (LawfulLiteral c) cl some.0 law.each some.1 in
    (some.0, some.1, sym (ap (value I) (ground_same c σ τ some.0.atom e at)) ∙ some.2)

pub followed : (c : Counts) (one : List Clause) (cl : Clause) (r : Ranges) (k : ℕ) → Lawful c cl → RunsThrough c cl r → size r ≤ k → ((n : ℕ) → n < k → Contradictory c (one ++ denials (names_of (nth_assignment r n)) cl)) → Follows c one cl
followed c one cl r k law is all none I model =
    own_variables c I cl (λ σ proper.
    let (n, h, e) = each_reached c cl r σ is proper in
    some_there I (names_of (nth_assignment r n)) σ c cl law e (holds_there c I one cl (names_of (nth_assignment r n)) model (none n (omega arith))))

-- so was every clause
pub within : (c : Counts) (one other : List Clause) (k : ℕ) → length other ≤ k → ((n : ℕ) → n < k → Follows c one (get_or other n [])) → Within c one other
within c one other k all each I model =
    record { over = model.over; all = λ cl has. subst (Satisfies c I) (has.2 []) (each has.0 (omega (arith, has.1)) I model) }

-- both directions: the second search, over the counts of the second book, was made after the first
pub equal : (c d : Counts) (first second : List Clause) (m m' m'' : Lent) → d ≡ c → m'.model ≡ m.model → Kept m m' → Within c first second → Parts d second first (Within d second first) m' m'' false → Weighed c first second m m'' Equal
equal c d first second m m' m'' e f k w p =
    record { kept = kept_more m m' m'' k p.0; so = ((w, subst (λ (x : Counts). Within x second first) e p.2), p.1 ∙ f) }

-- a comparison that is not refused can be made
alike_names : (c d : Counts) → alike c d ≡ true → (d.names ≡ c.names) × (d.properties ≡ c.properties) × (d.relations ≡ c.relations)
alike_names c d h = (grind (arith, nat_tests), grind (arith, nat_tests), grind (arith, nat_tests))

pub alike_same : (c d : Counts) → alike c d ≡ true → d ≡ c
alike_same c d h = let s = alike_names c d h in counts_same d c s.0 s.1 s.2

done_none : (o : Option Refusal) (u : Unit {0}) → Ok u ≡ answer o → o ≡ None
done_none None u e = refl
done_none (Some x) u e = absurd (grind arith)

pub comparable : (c d : Counts) (first second : List Clause) (m : Lent) (u : Unit {0}) → Ok u ≡ answer (compare_refusal c d first second m) → Comparable c d first m × Comparable d c second m
comparable c d first second m u done =
    let e = done_none (compare_refusal c d first second m) u done in
    let same : d ≡ c = alike_same c d (grind (arith, nat_tests)) in
    let sizes : judge_refusal c m ≡ None = grind (arith, nat_tests) in (
      record { counts = same; sizes = sizes; few = grind (arith, nat_tests) },
      record { counts = sym same; sizes = ap (λ (x : Counts). judge_refusal x m) same ∙ sizes; few = grind (arith, nat_tests) },
    )

-- the table is cleared after the answer
pub compared : (c d : Counts) (first second : List Clause) (m m' m'' : Lent) (r : Comparison) (u : Unit {0}) → Ok u ≡ answer (compare_refusal c d first second m) → Weighed c first second m m' r → m''.marks ≡ cleared m'.marks → m''.room ≡ m'.room → m''.loan ≡ m'.loan → m''.trail ≡ m'.trail → m''.choices ≡ m'.choices → m''.model ≡ m'.model → Compared c d first second m m'' (Ok r)
compared c d first second m m' m'' r u none w em er el et ec eo =
    let done = after_clear m.marks m'.marks m''.marks em w.kept.reach in (
      done_none (compare_refusal c d first second m) u none,
      record {
        reach = done.1;
        room = er ∙ w.kept.room;
        loan = el ∙ w.kept.loan;
        trail = ap length et ∙ w.kept.trail;
        choices = ap length ec ∙ w.kept.choices;
        model = ap length eo ∙ w.kept.model;
      },
      done.0,
      compares_at r w.so,
    )
  where
    apart_at : (one other : List Clause) → ToldApart c one other m m' → ToldApart c one other m m''
    apart_at one other t = record {
      by = t.by;
      holds = t.holds;
      fails = t.fails;
      first = subst (λ (xs : List ℕ). BytesOf c t.by (take (atoms c) xs)) (sym eo) t.first;
      rest = ap (drop (atoms c)) eo ∙ t.rest;
    }

    compares_at : (r : Comparison) → Compares c first second m m' r → Compares c first second m m'' r
    compares_at FirstOnly h = apart_at first second h
    compares_at SecondOnly h = (h.0, apart_at second first h.1)
    compares_at Equal h = (h.0, eo ∙ h.1)
