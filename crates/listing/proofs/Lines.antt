-- Lines counted by their ends.
use Rattle.std.proofs.Common.{◌≡◌, ℕ, ◌+◌, ◌-◌, ◌<◌, ◌≤◌, get_or, take, Bool, true, false, not, cond, List, [], ◌∷◌, length, count_by, ◌==◌, Option, None, Some, slice_get, refl, ap, ◌∙◌, arith}
use Rattle.std.proofs.lemmas.List.Recursion.{is_count_by}
use Rattle.std.proofs.lemmas.List.Sums.{count_by_more_yes, count_by_more_no}
use Rattle.listing.specs.Intake.{lines, lines_left}

abbrev ends : List ℕ → ℕ
ends [] = 0
ends (b ∷ rest) = cond (b == 10) (1 + ends rest) (ends rest)

-- whether a line is begun at the end
abbrev left_open : Bool → List ℕ → Bool
left_open begun [] = begun
left_open begun (b ∷ rest) = left_open (not (b == 10)) rest

step : (t : Bool) (rest : List ℕ) → ((begun : Bool) → ends rest + cond (left_open begun rest) 1 0 ≡ lines_left begun rest) → cond t (1 + ends rest) (ends rest) + cond (left_open (not t) rest) 1 0 ≡ cond t (1 + lines_left false rest) (lines_left true rest)
step true rest h = omega (arith, h false)
step false rest h = omega (arith, h true)

by_ends : (begun : Bool) (text : List ℕ) → ends text + cond (left_open begun text) 1 0 ≡ lines_left begun text
by_ends begun [] = omega arith
by_ends begun (b ∷ rest) = step (b == 10) rest (λ x. by_ends x rest)

-- the last byte says it
abbrev pub open_by : Option ℕ → Bool
open_by None = false
open_by (Some b) = not (b == 10)

last_byte : (begun : Bool) (b : ℕ) (rest : List ℕ) → left_open begun (b ∷ rest) ≡ open_by (slice_get (b ∷ rest) (length rest))
last_byte begun b [] = refl
last_byte begun b (d ∷ rest) = last_byte (not (b == 10)) d rest

last_open : (text : List ℕ) → left_open false text ≡ open_by (slice_get text (length text - 1))
last_open [] = refl
last_open (b ∷ rest) =
    let at : length rest ≡ length (b ∷ rest) - 1 = omega arith in
    last_byte false b rest ∙ ap (λ (i : ℕ). open_by (slice_get (b ∷ rest) i)) at

pub lines_counted : (text : List ℕ) → count_by (λ (b : ℕ). b == 10) text + cond (open_by (slice_get text (length text - 1))) 1 0 ≡ lines text
lines_counted text =
    let more = ap {B = ℕ} (λ (o : Bool). cond o 1 0) (last_open text) in
    omega (arith, more, by_ends false text, is_count_by ends (λ (b : ℕ). b == 10) refl (λ _ _. refl) text)

-- the test of one byte more is added to the count, and is 1 at most
pub one_more :
    (text : List ℕ) (i k : ℕ) → i < length text → k ≡ cond (get_or text i 0 == 10) 1 0 →
    (k ≤ 1) × (count_by (λ (b : ℕ). b == 10) (take i text) + k ≡ count_by (λ (b : ℕ). b == 10) (take (i + 1) text))
one_more text i k h = by_test (get_or text i 0 == 10) refl
  where
    by_test :
        (t : Bool) → (get_or text i 0 == 10) ≡ t → k ≡ cond t 1 0 →
        (k ≤ 1) × (count_by (λ (b : ℕ). b == 10) (take i text) + k ≡ count_by (λ (b : ℕ). b == 10) (take (i + 1) text))
    by_test true e f = (omega arith, omega (arith, count_by_more_yes (λ (b : ℕ). b == 10) text i 0 h e))
    by_test false e f = (omega arith, omega (arith, count_by_more_no (λ (b : ℕ). b == 10) text i 0 h e))
