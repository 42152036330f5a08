-- What `all` over the numbers below n comes to.
use Rattle.std.proofs.Common.{◌≡◌, ℕ, ◌<◌, Bool, true, false, List, length, get_or, Option, refl, subst, arith}
use Rattle.std.proofs.lemmas.Bool.{false≢true}
use Rattle.std.proofs.lemmas.Iterator.{cases_from_all, YieldsList-from_range}
use Rattle.std.proofs.lemmas.List.FromFn.{length-range_with_len, get_or-range_with_len}
use Rattle.std.proofs.iter.Yields.{nat_range_steps}
use Rattle.std.specs.Bool.{MatchBool, Decides}
use Rattle.std.specs.Fn.{Called}
use Rattle.std.specs.Iterator.{YieldsThen}
use Rattle.std.specs.List.{range_with_len, FoldsTo, AllWithin, HoldsAt}
use Rattle.std.specs.Option.{MatchOption}
use Rattle.std.specs.declared.ops.Range.{Range}
use denote.Param.Members.{Mut}

at : (n k : ℕ) → k < n → get_or (range_with_len 0 n) k 0 ≡ k
at n k lt = omega (arith, get_or-range_with_len 0 n k 0 lt)

decided : (n : ℕ) (r : Bool) (P : ℕ → Type 0) →
    MatchBool r (AllWithin (λ x. x < n → P x) (range_with_len 0 n) 0 (length (range_with_len 0 n))) ((k : ℕ) × (k < length (range_with_len 0 n)) × HoldsAt (λ x. x < n → P x → ⊥) (range_with_len 0 n) k) →
    Decides r ((k : ℕ) → k < n → P k)
decided n true P h = (
  λ _ k lt. subst (λ m. m < n → P m) (at n k lt) (h k 0 (omega arith) (simp length-range_with_len lt)) lt,
  λ _. refl,
)
decided n false P (k, inside, fails) =
    let lt : k < n = simp length-range_with_len at inside in (
      λ e. absurd (false≢true e),
      λ all. absurd (subst (λ m. m < n → P m → ⊥) (at n k lt) (fails 0) lt (all k lt)),
    )

pub all_below :
    {F : Type 0} {g : Mut F (ℕ × Unit {0}) Bool} (u : Range ℕ) (f : F) (m n : ℕ) (r : Bool) (P : ℕ → Type 0) →
    m ≡ n →
    (xs : List ℕ) × (o : Option ℕ) × (j : F) × YieldsThen nat_range_steps (record { start = 0; end = m }) xs o u × FoldsTo (λ p x q. Called g p (x, tt) true q) f xs j × MatchOption o (r ≡ true) (λ x. (r ≡ false) × ((h : F) × Called g j (x, tt) false h)) →
    ((x : ℕ) (b : Bool) (q : F) → Called g f (x, tt) b q → (q ≡ f) × (x < n → Decides b (P x))) →
    Decides r ((k : ℕ) → k < n → P k)
all_below u f m n r P e ran each =
    decided n r P
    (cases_from_all u f r (λ x. x < n → P x) (λ x. x < n → P x → ⊥) ran (YieldsList-from_range 0 m n refl (omega arith))
    (λ x q k. let d = each x true q k in (d.0, λ lt. (d.1 lt).0 refl))
    (λ x q k lt p. let d = each x false q k in false≢true ((d.1 lt).1 p)))
