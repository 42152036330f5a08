-- What a sound branch gives, and how it changes.
use Rattle.std.proofs.Common.{◌≡◌, ℕ, ◌<◌, ◌≤◌, Bool, true, false, not, ◌≢◌, ◌⊎◌, List, [], ◌∷◌, ◌++◌, length, get_or, take, drop, set, sym, refl, ap, ◌∙◌, subst, inl, inr, true≢false, arith}
use Rattle.std.specs.List.{AllByRecursion}
use Rattle.std.proofs.ByRecursion.{all-has}
use Rattle.std.proofs.lemmas.List.{length-set, length_push, get_or-set_same, get_or-set_other, set-set, set-get_or, take_at, drop_at, take-append-le, drop-append-le, same_from_push}
use Rattle.std.proofs.lemmas.Bool.{cases_eq}
use Rattle.syntax.specs.declared.types.Mark.{Mark}
use Rattle.syntax.specs.declared.types.Mark.TheVariants.{Yes, Open}
use Rattle.tables.specs.declared.stack.Choice.{Choice}
use Rattle.tables.specs.Marks.{signed, stands, standing}
use Rattle.tables.specs.Walks.{opened}
use Rattle.tables.specs.Counting.{OpenFrom}
use Rattle.tables.proofs.Counts.{standing_set, stands_signed, at_most}
use Rattle.syntax.specs.declared.types.SignedAtom.{SignedAtom}
use Rattle.tableau.specs.Signs.{Valuation, Holds, SomeOf, Clear, OpenIn, DeniedIn, Says, Agrees}
use Rattle.tableau.specs.Branch.{Models, Clashes, Step, forced, chosen, told, trail_of, choice, choices_of, marks_of, HeldBy, Held, Refuted, Reason, Sound}
use Rattle.tableau.specs.Scans.{AllBut}
use Rattle.tableau.specs.Turns.{Modelless}

pub length_trail : (b : List Step) → length (trail_of b) ≡ length b
length_trail [] = refl
length_trail (s ∷ b) = length_push (trail_of b) (told s).atom ∙ omega (arith, length_trail b)

pub length_marks : (base : List Mark) (b : List Step) → length (marks_of base b) ≡ length base
length_marks base [] = refl
length_marks base (s ∷ b) = length-set (marks_of base b) (told s).atom (signed (told s).sign) ∙ length_marks base b

pub choices_le : (b : List Step) → length (choices_of b) ≤ length b
choices_le [] = omega arith
choices_le (forced l ∷ b) = omega (arith, choices_le b)
choices_le (chosen l ∷ b) = omega (arith, choices_le b, length_push (choices_of b) (choice (length b) l))

-- how many stand
pub clear_none : (base : List Mark) → Clear base → standing base ≡ 0
clear_none base h = omega (arith, at_most 0 base (λ k l. h k))

module _ (M : Models) (K : Clashes) (atoms : ℕ) (base : List Mark) (clear : Clear base) (reaches : atoms ≤ length base) where
  pub standing_steps : (b : List Step) → Sound M K atoms base b → standing (marks_of base b) ≡ length b
  standing_steps [] h = clear_none base clear
  standing_steps (s ∷ b) h =
      omega (
        arith,
        standing_set (marks_of base b) (told s).atom (signed (told s).sign) (omega (arith, h.1, length_marks base b)),
        stands_signed (told s).sign,
        ap stands h.2,
        standing_steps b h.3,
      )

  pub beyond : (b : List Step) → Sound M K atoms base b → OpenFrom atoms (marks_of base b)
  beyond [] h k l = clear k
  beyond (s ∷ b) h k l =
      let ne : k ≢ (told s).atom = λ (e : k ≡ (told s).atom). omega (arith, h.1) in
      get_or-set_other (marks_of base b) (told s).atom k (signed (told s).sign) Open ne ∙ beyond b h.3 k l

  pub steps_le : (b : List Step) → Sound M K atoms base b → length b ≤ atoms
  steps_le b h = omega (arith, standing_steps b h, at_most atoms (marks_of base b) (beyond b h))

  -- while an atom is open there is room for it
  pub steps_lt : (b : List Step) (l : SignedAtom) → Sound M K atoms base b → l.atom < atoms → OpenIn (marks_of base b) l → length b < atoms
  steps_lt b l h lt lies =
      let ms = marks_of base b in
      let far : (k : ℕ) → atoms ≤ k → get_or (set ms l.atom Yes) k Open ≡ Open =
      λ k le. let ne : k ≢ l.atom = λ (e : k ≡ l.atom). omega arith in get_or-set_other ms l.atom k Yes Open ne ∙ beyond b h k le in
      omega (arith, standing_steps b h, at_most atoms (set ms l.atom Yes) far, standing_set ms l.atom Yes (omega (arith, length_marks base b)), ap stands lies)

-- a model that makes the choices hold has each standing atom as it stands
says_signed : (a b : Bool) → a ≡ b → Says (signed b) a
says_signed a true e = e
says_signed a false e = e

holds_told : (M : Models) (K : Clashes) (base : List Mark) (b : List Step) (s : Step) (v : Valuation) → Reason M K base b s → M v → HeldBy v s → Held v b → Holds v (told s)
holds_told M K base b (forced l) v r sat held rest = r v sat rest
holds_told M K base b (chosen l) v r sat held rest = held

says_set : (ms : List Mark) (l : SignedAtom) (v : Valuation) → l.atom < length ms → Holds v l → Agrees ms v → Agrees (set ms l.atom (signed l.sign)) v
says_set ms l v h e all k = elim (cases_eq k l.atom) [
  | inl same ↦
      let P : ℕ → Type 0 = λ i. Says (get_or (set ms l.atom (signed l.sign)) i Open) (v i) in
      subst P (sym same) (let Q : Mark → Type 0 = λ m. Says m (v l.atom) in subst Q (sym (get_or-set_same ms l.atom (signed l.sign) Open h)) (says_signed (v l.atom) l.sign e))
  | inr other ↦ let Q : Mark → Type 0 = λ m. Says m (v k) in subst Q (sym (get_or-set_other ms l.atom k (signed l.sign) Open other)) (all k)
]

pub agrees : (M : Models) (K : Clashes) (atoms : ℕ) (base : List Mark) → Clear base → atoms ≤ length base
    → (b : List Step) → Sound M K atoms base b → (v : Valuation) → M v → Held v b → Agrees (marks_of base b) v
agrees M K atoms base clear reaches [] h v sat held k = let Q : Mark → Type 0 = λ m. Says m (v k) in subst Q (sym (clear k)) tt
agrees M K atoms base clear reaches (s ∷ b) h v sat held k =
    says_set (marks_of base b) (told s) v (omega (arith, h.1, length_marks base b)) (holds_told M K base b s v h.0 sat held.0 held.1)
    (agrees M K atoms base clear reaches b h.3 v sat held.1) k

-- what is denied does not hold
says_not : (a b : Bool) → Says (signed (not b)) a → a ≡ b → ⊥
says_not a true n e = true≢false (sym e ∙ n)
says_not a false n e = true≢false (sym n ∙ e)

denied_fails : (ms : List Mark) (l : SignedAtom) (v : Valuation) → Agrees ms v → DeniedIn ms l → Holds v l → ⊥
denied_fails ms l v all d e = let Q : Mark → Type 0 = λ m. Says m (v l.atom) in says_not (v l.atom) l.sign (subst Q d (all l.atom)) e

pub broken_fails : (ms : List Mark) (c : List SignedAtom) (v : Valuation) → Agrees ms v → AllByRecursion (DeniedIn ms) c → SomeOf (Holds v) c → ⊥
broken_fails ms c v all d (l, has, e) = denied_fails ms l v all (all-has (DeniedIn ms) c l d has) e

-- the one that is not denied holds
pub unit_holds : (ms : List Mark) (c : List SignedAtom) (l : SignedAtom) (v : Valuation) → Agrees ms v → AllBut ms l c → SomeOf (Holds v) c → Holds v l
unit_holds ms c l v all d (m, has, e) = elim (all-has (λ m. DeniedIn ms m ⊎ (m ≡ l)) c m d has) [
  | inl denied ↦ absurd (denied_fails ms m v all denied e)
  | inr same ↦ subst (Holds v) same e
]

-- no choices: every valuation makes them hold
no_push : {X : Type 0} (xs : List X) (x : X) → xs ++ (x ∷ []) ≡ [] → ⊥
no_push xs x e = omega (arith, ap length e, length_push xs x)

pub held_none : (b : List Step) (v : Valuation) → choices_of b ≡ [] → Held v b
held_none [] v e = tt
held_none (forced l ∷ b) v e = (tt, held_none b v e)
held_none (chosen l ∷ b) v e = absurd (no_push (choices_of b) (choice (length b) l) e)

pub refuted_none : (M : Models) (b : List Step) → choices_of b ≡ [] → Refuted M b → Modelless M
refuted_none M b e r v sat = r v sat (held_none b v e)

-- a trail taken off
opened_push : (ms : List Mark) (xs : List ℕ) (a : ℕ) → opened ms (xs ++ (a ∷ [])) ≡ opened (set ms a Open) xs
opened_push ms [] a = refl
opened_push ms (x ∷ xs) a = ap (λ m. set m x Open) (opened_push ms xs a)

pub set_back : (ms : List Mark) (a : ℕ) (m : Mark) → get_or ms a Open ≡ Open → set (set ms a m) a Open ≡ ms
set_back ms a m e = set-set ms a m Open ∙ ap (set ms a) (sym e) ∙ set-get_or ms a Open

pub opened_one : (base : List Mark) (b : List Step) (s : Step) (xs : List ℕ) → OpenIn (marks_of base b) (told s) → opened (marks_of base (s ∷ b)) (xs ++ ((told s).atom ∷ [])) ≡ opened (marks_of base b) xs
opened_one base b s xs e =
    opened_push (marks_of base (s ∷ b)) xs (told s).atom ∙ ap (λ m. opened m xs) (set_back (marks_of base b) (told s).atom (signed (told s).sign) e)

pub opened_all : (M : Models) (K : Clashes) (atoms : ℕ) (base : List Mark) (b : List Step) → Sound M K atoms base b → opened (marks_of base b) (trail_of b) ≡ base
opened_all M K atoms base [] h = refl
opened_all M K atoms base (s ∷ b) h = opened_one base b s (trail_of b) h.2 ∙ opened_all M K atoms base b h.3

-- the branch below the latest choice
pub record Cut (M : Models) (K : Clashes) (atoms : ℕ) (base : List Mark) (b : List Step) (cs : List Choice) (c : Choice) : Type 0 where
  pub rest : List Step
  pub sound : Sound M K atoms base rest
  pub choices : cs ≡ choices_of rest
  pub height : c.height ≡ length rest
  pub lower : length rest < length b
  pub trail : take c.height (trail_of b) ≡ trail_of rest
  pub marks : opened (marks_of base b) (drop c.height (trail_of b)) ≡ marks_of base rest
  pub below : c.atom < atoms
  pub lies : get_or (marks_of base rest) c.atom Open ≡ Open
  pub calm : K (marks_of base rest) → ⊥
  pub refutes : Refuted M b → (v : Valuation) → M v → Held v rest → v c.atom ≡ not c.sign

other_sign : (a b : Bool) → (a ≡ b → ⊥) → a ≡ not b
other_sign true true h = absurd (h refl)
other_sign true false h = refl
other_sign false true h = refl
other_sign false false h = absurd (h refl)

pub cut : (M : Models) (K : Clashes) (atoms : ℕ) (base : List Mark) (b : List Step) (cs : List Choice) (c : Choice)
    → Sound M K atoms base b → choices_of b ≡ cs ++ (c ∷ []) → Cut M K atoms base b cs c
cut M K atoms base [] cs c h e = absurd (no_push cs c (sym e))
cut M K atoms base (forced l ∷ b) cs c h e =
    let r = cut M K atoms base b cs c h.3 e in
    let n : c.height ≤ length (trail_of b) = omega (arith, r.height, r.lower, length_trail b) in
    record {
      rest = r.rest;
      sound = r.sound;
      choices = r.choices;
      height = r.height;
      lower = omega (arith, r.lower);
      trail = take-append-le c.height (trail_of b) (l.atom ∷ []) n ∙ r.trail;
      marks =
          ap (opened (marks_of base (forced l ∷ b))) (drop-append-le c.height (trail_of b) (l.atom ∷ []) n)
          ∙ opened_one base b (forced l) (drop c.height (trail_of b)) h.2
          ∙ r.marks;
      below = r.below;
      lies = r.lies;
      calm = r.calm;
      refutes = λ no_one. r.refutes (λ v sat held. no_one v sat (tt, held));
    }
cut M K atoms base (chosen l ∷ b) cs c h e =
    let two = same_from_push (choices_of b) cs (choice (length b) l) c e in
    let P : Choice → Type 0 = λ d. Cut M K atoms base (chosen l ∷ b) cs d in
    subst P two.1
    (record {
      rest = b;
      sound = h.3;
      choices = sym two.0;
      height = refl;
      lower = omega arith;
      trail = take_at (trail_of b) (l.atom ∷ []) (length b) (length_trail b);
      marks =
          ap (opened (marks_of base (chosen l ∷ b))) (drop_at (trail_of b) (l.atom ∷ []) (length b) (length_trail b))
          ∙ set_back (marks_of base b) l.atom (signed l.sign) h.2;
      below = h.1;
      lies = h.2;
      calm = h.0;
      refutes = λ no_one v sat held. other_sign (v l.atom) l.sign (λ same. no_one v sat (same, held));
    })
