-- `any` over numbers, and over two slices at once.
use Rattle.std.proofs.Common.{◌≡◌, ℕ, ◌<◌, Bool, true, false, List, length, get_or, Option, MatchBool, MatchOption, Decides, refl, subst, arith}
use Rattle.std.proofs.iter.Yields.{nat_range_steps}
use Rattle.std.proofs.lemmas.Bool.{false≢true}
use Rattle.std.proofs.lemmas.Iterator.{YieldsList-from_range, cases_from_any}
use Rattle.std.proofs.lemmas.List.FromFn.{get_or-range_with_len, length-range_with_len}
use Rattle.std.specs.declared.ops.Range.{Range}
use Rattle.std.specs.Fn.{Called}
use Rattle.std.specs.Iterator.{YieldsThen}
use Rattle.std.specs.List.{AllWithin, FoldsTo, HoldsAt, range_with_len}
use denote.Param.Members.{Mut}

item : (n k : ℕ) → k < n → get_or (range_with_len 0 n) k 0 ≡ k
item n k h = omega (arith, get_or-range_with_len 0 n k 0 h)

-- the answer at the numbers below n
at_numbers :
    (n : ℕ) (P : ℕ → Type 0) (r : Bool) →
    MatchBool r ((k : ℕ) × (k < length (range_with_len 0 n)) × HoldsAt (λ x. x < n → P x) (range_with_len 0 n) k) (AllWithin (λ x. x < n → P x → ⊥) (range_with_len 0 n) 0 (length (range_with_len 0 n))) →
    Decides r ((k : ℕ) × (k < n) × P k)
at_numbers n P true (k, h, at) =
    let below : k < n = omega (arith, length-range_with_len 0 n) in
    let here : k < n → P k = subst (λ (x : ℕ). x < n → P x) (item n k below) (at 0) in
    (λ _. (k, below, here below), λ _. refl)
at_numbers n P false none = (
  λ e. absurd (false≢true e),
  λ (k, h, p).
      let inside : k < length (range_with_len 0 n) = omega (arith, length-range_with_len 0 n) in
      let here : k < n → P k → ⊥ = subst (λ (x : ℕ). x < n → P x → ⊥) (item n k h) (none k 0 (omega arith) inside) in
      absurd (here h p),
)

-- `any` over the numbers below n tells whether one of them has P
pub any_below :
    {F : Type 0} {g : Mut F (ℕ × Unit {0}) Bool} {s : Range ℕ} (u : Range ℕ) (f : F) (n : ℕ) (P : ℕ → Type 0) (r : Bool) →
    s ≡ record { start = 0; end = n } →
    (xs : List ℕ) × (o : Option ℕ) × (j : F) × YieldsThen nat_range_steps s xs o u × FoldsTo (λ p x q. Called g p (x, tt) false q) f xs j
    × MatchOption o (r ≡ false) (λ x. (r ≡ true) × ((h : F) × Called g j (x, tt) true h)) →
    ((x : ℕ) (q : F) → Called g f (x, tt) true q → x < n → P x) →
    ((x : ℕ) (q : F) → Called g f (x, tt) false q → (q ≡ f) × (x < n → P x → ⊥)) →
    Decides r ((k : ℕ) × (k < n) × P k)
any_below u f n P r e ran hit miss =
    at_numbers n P r (cases_from_any u f r (λ x. x < n → P x) (λ x. x < n → P x → ⊥) ran (YieldsList-from_range 0 n n e (omega arith)) hit miss)
