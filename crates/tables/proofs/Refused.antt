-- When a call is refused, in facts, and what is known where it is not.
use Rattle.std.proofs.Common.{◌≡◌, ℕ, ◌<◌, Bool, true, false, cond, eqb, leb, List, length, get_or, Some, None, Option, refl, ◌∙◌, inl, inr, arith}
use Rattle.std.proofs.lemmas.Bool.{lt-leb, leb-false, eq-eqb, ne_eqb, eqb-false, cond-true, cond-false, cases_eq}
use Rattle.syntax.specs.declared.types.Mark.{Mark}
use Rattle.syntax.specs.declared.types.Mark.TheVariants.{Open, Yes, No}
use Rattle.syntax.specs.declared.types.Refusal.{Refusal}
use Rattle.syntax.specs.declared.types.Refusal.TheVariants.{BeyondReach, Standing, TableFull, NotStanding}
use Rattle.tables.specs.Marks.{stands, standing, ask_refusal, tell_refusal, untell_refusal}

-- the first test of several: where the outcome is nothing, it failed, and the others found nothing
passed : (b : Bool) (e : Refusal) (o : Option Refusal) → cond b (Some e) o ≡ None → (b ≡ false) × (o ≡ None)
passed true e o h = let z : ◌≡◌ {A = ℕ} 0 1 = cc in absurd (omega arith)
passed false e o h = (refl, h)

pub open_from : (m : Mark) → stands m ≡ 0 → m ≡ Open
open_from Open h = refl
open_from Yes h = absurd (omega arith)
open_from No h = absurd (omega arith)

not_one : (m : Mark) → (stands m ≡ 1 → ⊥) → m ≡ Open
not_one Open h = refl
not_one Yes h = absurd (h refl)
not_one No h = absurd (h refl)

not_zero : (m : Mark) → (stands m ≡ 0 → ⊥) → stands m ≡ 1
not_zero Open h = absurd (h refl)
not_zero Yes h = refl
not_zero No h = refl

module _ (ms : List Mark) (a : ℕ) where
  pub near_ask : a < length ms → ask_refusal ms a ≡ None
  near_ask h = cond-false _ _ _ (lt-leb _ _ h)

  -- an ask that is not refused
  pub ask_done : ask_refusal ms a ≡ None → a < length ms
  ask_done h = leb-false _ _ (passed (leb (length ms) a) BeyondReach None h).0

  pub done_untell : a < length ms → stands (get_or ms a Open) ≡ 1 → untell_refusal ms a ≡ None
  done_untell h u = cond-false _ _ _ (lt-leb _ _ h) ∙ cond-false _ _ _ (ne_eqb (stands (get_or ms a Open)) 0 (λ (z : stands (get_or ms a Open) ≡ 0). omega arith))

  -- an untell that is not refused
  pub untell_done : untell_refusal ms a ≡ None → (a < length ms) × (stands (get_or ms a Open) ≡ 1)
  untell_done h =
      let p = passed (leb (length ms) a) BeyondReach _ h in
      let q = passed (eqb (stands (get_or ms a Open)) 0) NotStanding None p.1 in
      (leb-false _ _ p.0, not_zero (get_or ms a Open) (eqb-false _ _ q.0))

  -- an untell that is refused below the reach
  pub untell_open : (e : Refusal) → a < length ms → untell_refusal ms a ≡ Some e → get_or ms a Open ≡ Open
  untell_open e lt h = elim (cases_eq (stands (get_or ms a Open)) 0) [
    | inl o ↦ open_from (get_or ms a Open) o
    | inr n ↦ let d = done_untell lt (not_zero (get_or ms a Open) n) in let z : ◌≡◌ {A = ℕ} 0 1 = cc in absurd (omega arith)
  ]

  module _ (room : ℕ) where
    pub up_tell : a < length ms → stands (get_or ms a Open) ≡ 1 → tell_refusal ms room a ≡ Some Standing
    up_tell h u = cond-false _ _ _ (lt-leb _ _ h) ∙ cond-true _ _ _ (eq-eqb _ _ u)

    pub done_tell : a < length ms → stands (get_or ms a Open) ≡ 0 → standing ms < room → tell_refusal ms room a ≡ None
    done_tell h o f =
        cond-false _ _ _ (lt-leb _ _ h) ∙ cond-false _ _ _ (ne_eqb (stands (get_or ms a Open)) 1 (λ (z : stands (get_or ms a Open) ≡ 1). omega arith))
        ∙ cond-false _ _ _ (lt-leb _ _ f)

    -- a tell that is not refused
    pub tell_done : tell_refusal ms room a ≡ None → (a < length ms) × (get_or ms a Open ≡ Open) × (standing ms < room)
    tell_done h =
        let p = passed (leb (length ms) a) BeyondReach _ h in
        let q = passed (eqb (stands (get_or ms a Open)) 1) Standing _ p.1 in
        let r = passed (leb room (standing ms)) TableFull None q.1 in
        (leb-false _ _ p.0, not_one (get_or ms a Open) (eqb-false _ _ q.0), leb-false _ _ r.0)
