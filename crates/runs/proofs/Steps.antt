-- What one call leaves, that its answer is right, and the same of runs.
use Rattle.std.proofs.Common.{◌≡◌, ℕ, List, [], ◌∷◌, ◌++◌, map, length, get_or, drop, Ok, Err, Result, sym, refl, ap, ◌∙◌, subst, arith}
use Rattle.std.proofs.lemmas.List.{length-append}
use Rattle.syntax.specs.declared.types.Refusal.{Refusal}
use Rattle.syntax.specs.declared.counts.Counts.{Counts}
use Rattle.semantics.specs.Meaning.{Clause}
use Rattle.books.proofs.Settled.{enter_settled, strike_settled}
use Rattle.tableau.specs.declared.verdict.Verdict.{Verdict}
use Rattle.tableau.specs.declared.verdict.Verdict.TheVariants.{Consistent, Contradictory}
use Rattle.tableau.specs.Judged.{Lent, Judged}
use Rattle.tableau.proofs.Judging.{one_verdict}
use Rattle.questions.specs.declared.answers.Certainty.{Certainty}
use Rattle.questions.specs.declared.answers.Sameness.{Sameness}
use Rattle.questions.specs.Asked.{named, Asked, AskedNames}
use Rattle.questions.specs.Laws.{Exactly, ExactlyNames}
use Rattle.questions.proofs.Truths.{one_certainty, one_sameness, exact_certainty, exact_sameness}
use Rattle.comparison.specs.declared.answer.Comparison.{Comparison}
use Rattle.comparison.specs.Compared.{Compared}
use Rattle.comparison.specs.Laws as comparisons
use Rattle.comparison.proofs.Weighing.{compared_once, exact_comparison}
use Rattle.runs.specs.declared.calls.Answer.{Answer}
use Rattle.runs.specs.declared.calls.Answer.TheVariants as answer
use Rattle.runs.specs.Runs.{Deed, after, standing, Called, did_enter, did_strike, did_judge, did_same, did_hold, did_first, did_second, Step, deed_of, Run, none, more}
use Rattle.runs.specs.Laws.{WhenDone, ExactVerdict, Right, enters, strikes, judges, names, literals, firsts, seconds, EachRight, RunLaw, OneAnswer}

-- the list after one call is the one reckoned
pub called_after : {c : Counts} {cs cs' : List Clause} {m m' : Lent} {deed : Deed} {a : Answer} → Called c cs m deed a cs' m' → cs' ≡ after c cs deed
called_after {c} {cs} {cs'} (did_enter ls r h) = (enter_settled c cs ls r cs' h).1
called_after {c} {cs} {cs'} (did_strike k r h) = (strike_settled cs k r cs' h).1
called_after (did_judge r h) = refl
called_after (did_same a b r h) = refl
called_after (did_hold l r h) = refl
called_after (did_first d other r h) = refl
called_after (did_second d other r h) = refl

-- the answers are exact
verdict_exact : (c : Counts) (cs : List Clause) (m m' : Lent) (r : Result Verdict Refusal) → Judged c cs m m' r → WhenDone (ExactVerdict c cs) r
verdict_exact c cs m m' (Ok Consistent) h = (λ _. (_, h.2.model), λ _. refl)
verdict_exact c cs m m' (Ok Contradictory) h = (λ e. absurd (grind arith), λ t. absurd (h.2.none t))
verdict_exact c cs m m' (Err e) h = tt

names_exact : (c : Counts) (cs : List Clause) (a b : ℕ) (m m' : Lent) (r : Result Sameness Refusal) → AskedNames c cs a b m m' r → WhenDone (ExactlyNames c cs a b) r
names_exact c cs a b m m' (Ok t) h = exact_sameness c cs a b t h.2
names_exact c cs a b m m' (Err e) h = tt

literal_exact : (c : Counts) (cs : List Clause) (l : _) (m m' : Lent) (r : Result Certainty Refusal) → Asked c cs l m m' r → WhenDone (Exactly c cs (named l.atom) l.sign) r
literal_exact c cs l m m' (Ok t) h = exact_certainty c cs (named l.atom) l.sign t h.2
literal_exact c cs l m m' (Err e) h = tt

comparison_exact : (c d : Counts) (first second : List Clause) (m m' : Lent) (r : Result Comparison Refusal) → Compared c d first second m m' r → WhenDone (comparisons.Exactly c first second) r
comparison_exact c d first second m m' (Ok t) h = exact_comparison c first second m m' t h.3
comparison_exact c d first second m m' (Err e) h = tt

pub called_right : {c : Counts} {cs cs' : List Clause} {m m' : Lent} {deed : Deed} {a : Answer} → Called c cs m deed a cs' m' → Right c cs (record { deed = deed; before = m; said = a; after = m' })
called_right {c} {cs} {cs'} (did_enter ls r h) = enters ls r (enter_settled c cs ls r cs' h).0
called_right {c} {cs} {cs'} (did_strike k r h) = strikes k r (strike_settled cs k r cs' h).0
called_right {c} {cs} {cs'} {m} {m'} (did_judge r h) = judges r h (verdict_exact c cs m m' r h)
called_right {c} {cs} {cs'} {m} {m'} (did_same a b r h) = names a b r h (names_exact c cs a b m m' r h)
called_right {c} {cs} {cs'} {m} {m'} (did_hold l r h) = literals l r h (literal_exact c cs l m m' r h)
called_right {c} {cs} {cs'} {m} {m'} (did_first d other r h) = firsts d other r h (comparison_exact c d cs other m m' r h)
called_right {c} {cs} {cs'} {m} {m'} (did_second d other r h) = seconds d other r h (comparison_exact d c other cs m m' r h)

-- a run leaves what stands
pub run_stands : {c : Counts} {cs last : List Clause} {steps : List Step} → Run c cs steps last → last ≡ standing c cs (map deed_of steps)
run_stands none = refl
run_stands {c} (more {cs} {next} {last} {steps} s h run) =
    run_stands run ∙ ap (λ (x : List Clause). standing c x (map deed_of steps)) (called_after h)

-- and each call in it is right
pub each_right : {c : Counts} {cs last : List Clause} {steps : List Step} → Run c cs steps last → EachRight c cs steps
each_right none before s rest e = absurd (omega (arith, ap length e, length-append before (s ∷ rest)))
each_right {c} (more {cs} {next} {last} {steps} t h run) [] s rest e =
    subst (Right c cs) (ap (λ (xs : List Step). get_or xs 0 t) e) (called_right h)
each_right {c} (more {cs} {next} {last} {steps} t h run) (x ∷ before) s rest e =
    let head : t ≡ x = ap (λ (xs : List Step). get_or xs 0 t) e in
    let tail : steps ≡ before ++ s ∷ rest = ap (λ (xs : List Step). drop 1 xs) e in
    let there : next ≡ after c cs x.deed = called_after h ∙ ap (λ (y : Step). after c cs y.deed) head in
    subst (λ (y : List Clause). Right c (standing c y (map deed_of before)) s) there (each_right run before s rest tail)

pub run_law : RunLaw
run_law c cs last steps run = (run_stands run, each_right run)

-- a call has one answer
pub one_answer : OneAnswer
one_answer c cs cs' cs'' m m' m'' deed one other (did_enter ls r h) (did_enter ms q k) =
    let p = enter_settled c cs ls r cs' h in
    let s = enter_settled c cs ls q cs'' k in
    (ap answer.Changed (p.0 ∙ sym s.0), p.1 ∙ sym s.1)
one_answer c cs cs' cs'' m m' m'' deed one other (did_strike i r h) (did_strike j q k) =
    let p = strike_settled cs i r cs' h in
    let s = strike_settled cs i q cs'' k in
    (ap answer.Changed (p.0 ∙ sym s.0), p.1 ∙ sym s.1)
one_answer c cs cs' cs'' m m' m'' deed one other (did_judge r h) (did_judge q k) =
    (ap answer.Judged (one_verdict c cs m m' m'' r q h k), refl)
one_answer c cs cs' cs'' m m' m'' deed one other (did_same a b r h) (did_same x y q k) =
    (ap answer.Same (one_sameness c cs a b m m' m'' r q h k), refl)
one_answer c cs cs' cs'' m m' m'' deed one other (did_hold l r h) (did_hold n q k) =
    (ap answer.Holds (one_certainty c cs l m m' m'' r q h k), refl)
one_answer c cs cs' cs'' m m' m'' deed one other (did_first d o r h) (did_first e p q k) =
    (ap answer.Compared (compared_once c d cs o m m' m'' r q h k), refl)
one_answer c cs cs' cs'' m m' m'' deed one other (did_second d o r h) (did_second e p q k) =
    (ap answer.Compared (compared_once d c o cs m m' m'' r q h k), refl)
