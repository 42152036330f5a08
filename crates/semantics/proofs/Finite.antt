-- Searches that end: below a number, and in a list.
use Rattle.std.proofs.Common.{◌≡◌, ℕ, zero, suc, ◌<◌, Bool, true, ◌⊎◌, List, [], ◌∷◌, sym, refl, ap, ◌∙◌, inl, inr, ⊎_elim, arith, below_more}
use mathlib.Core.Bool.{false≢true}
use Rattle.std.specs.List.{AllByRecursion}
use Rattle.std.proofs.ByRecursion.{All-weaker, all_has_itself, has_append_right}
use Rattle.std.proofs.lemmas.Bool.{cases_eq, or_cases, or_left, or_right}
use Rattle.semantics.specs.Meaning.{◌∈◌}
use Rattle.semantics.specs.Branch.{any_below}

-- some below n has P, or each has Q
pub find_below : (P Q : ℕ → Type 0) (n : ℕ) → ((k : ℕ) → k < n → P k ⊎ Q k) → ((k : ℕ) × (k < n) × P k) ⊎ ((k : ℕ) → k < n → Q k)
find_below P Q zero f = inr (λ k h. absurd (omega arith))
find_below P Q (suc n) f =
    ⊎_elim
    (λ p. inl (n, omega arith, p))
    (λ q. ⊎_elim
    (λ t. inl (t.0, omega arith, t.2))
    (λ below. inr (λ k h. below_more Q n below q k (omega arith)))
    (find_below P Q n (λ k h. f k (omega arith))))
    (f n (omega arith))

-- some of the list has P, or each has Q
pub find_in : {X : Type 0} (P Q : X → Type 0) (xs : List X) → AllByRecursion (λ x. P x ⊎ Q x) xs → ((x : X) × (x ∈ xs) × P x) ⊎ AllByRecursion Q xs
find_in P Q [] f = inr tt
find_in P Q (x ∷ xs) f =
    ⊎_elim
    (λ p. inl (x, (0, omega arith, λ d. refl), p))
    (λ q. ⊎_elim
    (λ t. inl (t.0, has_append_right (x ∷ []) xs t.0 t.1, t.2))
    (λ all. inr (q, all))
    (find_in P Q xs f.1))
    f.0

pub all_from : {X : Type 0} (P : X → Type 0) (xs : List X) → ((x : X) → x ∈ xs → P x) → AllByRecursion P xs
all_from P xs f = All-weaker (λ x. x ∈ xs) P f xs (all_has_itself xs)

pub any_in : (n : ℕ) (f : ℕ → Bool) (k : ℕ) → k < n → f k ≡ true → any_below n f ≡ true
any_in zero f k h e = absurd (omega arith)
any_in (suc n) f k h e =
    ⊎_elim
    (λ eq. or_left _ _ (ap f (sym eq) ∙ e))
    (λ ne. or_right _ _ (any_in n f k (omega arith) e))
    (cases_eq k n)

pub any_out : (n : ℕ) (f : ℕ → Bool) → any_below n f ≡ true → (k : ℕ) × (k < n) × (f k ≡ true)
any_out zero f e = absurd (false≢true e)
any_out (suc n) f e =
    ⊎_elim
    (λ here. (n, omega arith, here))
    (λ below. let t = any_out n f below in (t.0, omega arith, t.2))
    (or_cases _ _ e)
