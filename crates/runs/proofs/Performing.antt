-- A list of calls, carried out one after the other.
use Rattle.std.proofs.Common.{◌≡◌, ℕ, ◌+◌, ◌<◌, min, List, [], ◌∷◌, ◌++◌, map, length, get_or, take, drop, set, sym, refl, ap, ◌∙◌, subst, arith}
use Rattle.std.proofs.lemmas.List.{map_push, take_more, take_more_set, drop_more, drop-set-lt, length-set}
use Rattle.syntax.specs.declared.counts.Counts.{Counts}
use Rattle.semantics.specs.Meaning.{Clause}
use Rattle.tableau.specs.Judged.{Lent}
use Rattle.runs.specs.declared.calls.Answer.{Answer}
use Rattle.runs.specs.Runs.{Deed, standing, Called, Step, deed_of, said_of, Run, none, more, HandedOn}
use Rattle.runs.specs.Runs as runs
use Rattle.runs.specs.Laws.{Performed}
use Rattle.runs.proofs.Steps.{run_stands, each_right}

-- one more call at the end
run_push : {c : Counts} {cs mid last : List Clause} {steps : List Step} (s : Step) → Run c cs steps mid → Called c mid s.before s.deed s.said last s.after → Run c cs (steps ++ s ∷ []) last
run_push s runs.Run.none h = runs.Run.more s h runs.Run.none
run_push s (runs.Run.more t k run) h = runs.Run.more t k (run_push s run h)

handed_push : {m m' : Lent} {steps : List Step} (s : Step) → HandedOn m steps m' → s.before ≡ m' → HandedOn m (steps ++ s ∷ []) s.after
handed_push s (runs.HandedOn.none {m}) e = subst (λ (x : Lent). HandedOn x (s ∷ []) s.after) e (runs.HandedOn.more s runs.HandedOn.none)
handed_push s (runs.HandedOn.more t h) e = runs.HandedOn.more t (handed_push s h e)

-- the first n calls were carried out
pub record Performing (c : Counts) (cs : List Clause) (deeds : List Deed) (m : Lent) (journal : List Answer) (n : ℕ) (c' : Counts) (cs' : List Clause) (m' : Lent) (journal' : List Answer) : Type 0 where
  pub steps : List Step
  pub made : map deed_of steps ≡ take n deeds
  pub said : map said_of steps ≡ take n journal'
  pub beyond : drop n journal' ≡ drop n journal
  pub long : length journal' ≡ length journal
  pub run : Run c cs steps cs'
  pub handed : HandedOn m steps m'
  pub counts : c' ≡ c

pub perform_none : (c : Counts) (cs : List Clause) (deeds : List Deed) (m : Lent) (journal : List Answer) → Performing c cs deeds m journal 0 c cs m journal
perform_none c cs deeds m journal = record {
  steps = [];
  made = refl;
  said = refl;
  beyond = refl;
  long = refl;
  run = runs.Run.none;
  handed = runs.HandedOn.none;
  counts = refl;
}

pub perform_more :
    (c : Counts) (cs : List Clause) (deeds : List Deed) (m : Lent) (journal : List Answer) (n : ℕ) (c' : Counts) (cs' : List Clause) (m' : Lent) (journal' : List Answer) →
    Performing c cs deeds m journal n c' cs' m' journal' → (deed : Deed) (a : Answer) (c'' : Counts) (cs'' : List Clause) (m'' : Lent) →
    n < length deeds → n < length journal → deed ≡ get_or deeds n deed → c'' ≡ c' → Called c' cs' m' deed a cs'' m'' →
    Performing c cs deeds m journal (n + 1) c'' cs'' m'' (set journal' n a)
perform_more c cs deeds m journal n c' cs' m' journal' p deed a c'' cs'' m'' hd hj is ec h =
    let s : Step = record { deed = deed; before = m'; said = a; after = m'' } in
    let in-journal : n < length journal' = omega (arith, p.long) in
    let next : drop (n + 1) journal' ≡ drop (n + 1) journal =
    ap (λ (xs : List Answer). drop 1 xs) (sym (drop_more journal' n a in-journal) ∙ p.beyond ∙ drop_more journal n a hj) in
    record {
      steps = p.steps ++ s ∷ [];
      made = map_push deed_of p.steps s ∙ ap (λ (xs : List Deed). xs ++ deed ∷ []) p.made ∙ ap (λ (x : Deed). take n deeds ++ x ∷ []) is ∙ sym (take_more deeds n deed hd);
      said = map_push said_of p.steps s ∙ ap (λ (xs : List Answer). xs ++ a ∷ []) p.said ∙ sym (take_more_set journal' n a in-journal);
      beyond = drop-set-lt (n + 1) journal' n a (omega arith) ∙ next;
      long = length-set journal' n a ∙ p.long;
      run = run_push s p.run (subst (λ (x : Counts). Called x cs' m' deed a cs'' m'') p.counts h);
      handed = handed_push s p.handed refl;
      counts = ec ∙ p.counts;
    }

pub perform_all :
    (c : Counts) (cs : List Clause) (deeds : List Deed) (m : Lent) (journal : List Answer) (n : ℕ) (c' : Counts) (cs' : List Clause) (m' : Lent) (journal' : List Answer) →
    Performing c cs deeds m journal n c' cs' m' journal' → n ≡ min (length deeds) (length journal) → Performed c cs deeds m journal n c' cs' m' journal'
perform_all c cs deeds m journal n c' cs' m' journal' p many = record {
  many = many;
  steps = p.steps;
  made = p.made;
  said = p.said;
  beyond = p.beyond;
  run = p.run;
  handed = p.handed;
  counts = p.counts;
  stands = run_stands p.run ∙ ap (standing c cs) p.made;
  right = each_right p.run;
}
