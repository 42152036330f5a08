-- Pairs of leaders, at their places.
use Rattle.std.proofs.Common.{◌≡◌, ℕ, ◌+◌, ◌*◌, ◌/◌, ◌%◌, ◌<◌, Bool, true, false, List, length, get_or, replicate, MatchBool, Decides, sym, refl, ap, ◌∙◌, ⊎_elim, arith}
use Rattle.std.specs.List.{AllWithin, HoldsAt, zip}
use Rattle.std.proofs.lemmas.List.{get_or-replicate, get_or_past}
use Rattle.std.proofs.lemmas.Bool.{both_ways, cases_lt, false≢true}
use Rattle.std.proofs.lemmas.Slice.Zip.{get_or-zip, length-zip}
use Rattle.classes.specs.declared.pairs.Pairs.{Pairs}
use Rattle.classes.specs.Pairs.{Has}

pub none_found : (k : ℕ) → get_or (replicate 1024 false) k false ≡ true → ⊥
none_found k e =
    ⊎_elim
    (λ below. both_ways _ (get_or-replicate 1024 k false false below) e)
    (λ past. both_ways _ (get_or_past (replicate 1024 false) k false past) e)
    (cases_lt k 1024)

-- what is found at a place lies within
inside : (xs : List Bool) (k : ℕ) → length xs ≡ 1024 → get_or xs k false ≡ true → k < 1024
inside xs k whole e = ⊎_elim (λ below. below) (λ past. absurd (both_ways _ (get_or_past xs k false (omega arith)) e)) (cases_lt k 1024)

abbrev pub Both : Bool × Bool → Type 0
Both p = (p.0 ≡ true) × (p.1 ≡ true)

-- a place that is found in both is that of a pair in both
pub shared :
    (one two : Pairs) (r : Bool) →
    MatchBool r ((k : ℕ) × (k < length (zip one.found two.found)) × HoldsAt Both (zip one.found two.found) k)
    (AllWithin (λ p. Both p → ⊥) (zip one.found two.found) 0 (length (zip one.found two.found))) →
    Decides r ((a : ℕ) × (b : ℕ) × Has one a b × Has two a b)
shared one two true (k, h, at) =
    let below : k < 1024 = omega (arith, length-zip one.found two.found, one.whole, two.whole) in
    let e = get_or-zip one.found two.found k (false, false) (omega (arith, one.whole)) (omega (arith, two.whole)) in
    let found = rw e at (at (false, false)) in
    let place : k ≡ (k / 32) * 32 + k % 32 = omega arith in
    (λ _. (k / 32, k % 32, (omega arith, ap (λ (j : ℕ). get_or one.found j false) (sym place) ∙ found.0), (omega arith, ap (λ (j : ℕ). get_or two.found j false) (sym place) ∙ found.1)), λ _. refl)
shared one two false none = (
  λ e. absurd (false≢true e),
  λ (a, b, h, k).
      let below = inside one.found (a * 32 + b) one.whole h.1 in
      let e = get_or-zip one.found two.found (a * 32 + b) (false, false) (omega (arith, one.whole)) (omega (arith, two.whole)) in
      let long : a * 32 + b < length (zip one.found two.found) = omega (arith, length-zip one.found two.found, one.whole, two.whole) in
      let not = rw e at (none (a * 32 + b) (false, false) (omega arith) long) in
      absurd (not (h.1, k.1)),
)
