-- Atoms told one after the other, and opened again.
use Rattle.std.proofs.Common.{◌≡◌, ℕ, zero, suc, ◌+◌, ◌-◌, ◌<◌, ◌≤◌, Bool, true, false, cond, leb, List, [], ◌∷◌, ◌++◌, length, get_or, take, drop, set, is_some, Some, None, Ok, Err, Option, Result, is_err, true≢false, sym, refl, ap, ◌∙◌, arith}
use Rattle.std.proofs.lemmas.List.{set-set, at_drop_more}
use Rattle.std.proofs.lemmas.Bool.{lt-leb, cond-false}
use Rattle.syntax.specs.declared.types.Mark.{Mark}
use Rattle.syntax.specs.declared.types.Mark.TheVariants.{Open}
use Rattle.syntax.specs.declared.types.Refusal.{Refusal}
use Rattle.tables.specs.Marks.{signed, tell_refusal, Told}
use Rattle.tables.specs.Stacks.{Pushed}
use Rattle.tables.specs.Walks.{opened}
use Rattle.tables.proofs.Counts.{set_open}
use Rattle.tables.proofs.Refused.{tell_done}
use Rattle.tables_tests.specs.Told.{count_told, told}

-- two tests that failed, as the count shows
passes : (b c : Bool) (m n : ℕ) → suc n ≤ cond b 0 (cond c 0 (1 + m)) → (c ≡ false) × (n ≤ m)
passes true c m n h = absurd (omega arith)
passes false true m n h = absurd (omega arith)
passes false false m n h = (refl, omega arith)

none_from : (o : Option Refusal) → is_some o ≡ false → o ≡ None
none_from None h = refl
none_from (Some e) h = let z : ◌≡◌ {A = ℕ} 0 1 = cc in absurd (omega arith)

-- one atom more at the end of those told
pub told_push : (s : Bool) (ms : List Mark) (xs : List ℕ) (a : ℕ) → told s ms (xs ++ (a ∷ [])) ≡ set (told s ms xs) a (signed s)
told_push s ms [] a = refl
told_push s ms (b ∷ xs) a = told_push s (set ms b (signed s)) xs a

module _ (room : ℕ) (s : Bool) where
  -- no slot is free
  pub count_full : (ms : List Mark) (xs : List ℕ) → count_told room s 0 ms xs ≡ 0
  count_full ms [] = refl
  count_full ms (a ∷ xs) = refl

  -- the next atom is told
  pub count_more : (free : ℕ) (ms : List Mark) (a : ℕ) (xs : List ℕ) → 0 < free → tell_refusal ms room a ≡ None
      → count_told room s free ms (a ∷ xs) ≡ 1 + count_told room s (free - 1) (set ms a (signed s)) xs
  count_more free ms a xs h e = cond-false (leb free 0) _ _ (lt-leb free 0 h) ∙ cond-false _ _ _ (ap is_some e)

  -- what is told is opened again
  pub round : (free n : ℕ) (ms : List Mark) (xs : List ℕ) → n ≤ count_told room s free ms xs → opened (told s ms (take n xs)) (take n xs) ≡ ms
  round free zero ms xs h = refl
  round free (suc n) ms [] h = refl
  round free (suc n) ms (a ∷ xs) h =
      let p = passes (leb free 0) (is_some (tell_refusal ms room a)) (count_told room s (free - 1) (set ms a (signed s)) xs) n h in
      let d = tell_done ms a room (none_from (tell_refusal ms room a) p.0) in
      ap (λ m. set m a Open) (round (free - 1) n (set ms a (signed s)) xs p.1) ∙ set-set ms a (signed s) Open ∙ set_open ms a d.1

  -- the same at the place i of the atoms
  pub stop_full : (slots : ℕ) (is : List ℕ) (ms : List Mark) (atoms : List ℕ) (i : ℕ) → length is ≡ slots → count_told room s (slots - length is) ms (drop i atoms) ≡ 0
  stop_full slots is ms atoms i h =
      let e : slots - length is ≡ 0 = omega arith in
      ap (λ f. count_told room s f ms (drop i atoms)) e ∙ count_full ms (drop i atoms)

  pub step_told : (free free' : ℕ) (ms ns : List Mark) (atoms : List ℕ) (i : ℕ) → i < length atoms → 0 < free → free' ≡ free - 1
      → tell_refusal ms room (get_or atoms i 0) ≡ None → ns ≡ set ms (get_or atoms i 0) (signed s)
      → count_told room s free ms (drop i atoms) ≡ 1 + count_told room s free' ns (drop (i + 1) atoms)
  step_told free free' ms ns atoms i h p f r e =
      at_drop_more (count_told room s free ms) atoms i 0 h ∙ count_more free ms (get_or atoms i 0) (drop (i + 1) atoms) p r
      ∙ ap (λ m. 1 + count_told room s (free - 1) m (drop (i + 1) atoms)) (sym e) ∙ ap (λ k. 1 + count_told room s k ns (drop (i + 1) atoms)) (sym f)

-- a push onto a stack that is not full
pub pushed_on : (xs ys : List ℕ) (slots x : ℕ) (r : Bool) → Pushed xs slots x ys r → (length xs ≡ slots → ⊥) → (length xs < slots) × (ys ≡ xs ++ (x ∷ []))
pushed_on xs ys slots x true p n = p
pushed_on xs ys slots x false p n = absurd (n p.0)

-- a tell that is not refused
pub told_ok : (ms ns : List Mark) (room a : ℕ) (s : Bool) (r : Result Unit Refusal) → is_err r ≡ false → Told ms room a s ns r
    → (tell_refusal ms room a ≡ None) × (ns ≡ set ms a (signed s))
told_ok ms ns room a s (Ok u) h t = t
told_ok ms ns room a s (Err e) h t = absurd (true≢false h)
