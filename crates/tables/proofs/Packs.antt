-- Four marks to a byte: lengths, reads and writes.
use Rattle.std.proofs.Common.{◌≡◌, ℕ, zero, suc, ◌+◌, ◌-◌, ◌*◌, ◌/◌, ◌%◌, ◌^◌, ◌<◌, ◌≤◌, min, List, length, get_or, drop, set, replicate, sym, refl, ap, ◌∙◌, inl, inr, arith}
use native.Mathlib.Nat.{zero-div}
use Rattle.std.proofs.lemmas.List.{length-set, length-append, length-drop, length-replicate, get_or-set_same, get_or-set_other, get_or-replicate, get_or_append_left, ext_get_or, drop_all, drop_at}
use Rattle.std.proofs.lemmas.Bool.{cases_eq, cases_lt}
use Rattle.std.proofs.lemmas.Simd.{splat_is_map}
use Rattle.std.proofs.lemmas.List.FromFn.{get_or-map-range_with_len}
use Rattle.syntax.specs.declared.types.Mark.TheVariants.{Open}
use Rattle.tables.specs.Marks.{cleared}
use Rattle.tables.specs.Packed.{digit, meant, mark_at, packed_reach, packed_marks, beyond, zeroed, wiped}
use Rattle.tables.specs.Within.{packed_length}

pub packed_at : (bs : List ℕ) (k : ℕ) → k < packed_reach bs → get_or (packed_marks bs) k Open ≡ mark_at bs k
unfolding packed_marks
packed_at bs k h = get_or-map-range_with_len (mark_at bs) 0 (packed_reach bs) k k Open h (omega arith)

-- four marks to a byte: two bits each
pub two_bits : (j : ℕ) → j < 4 → 2 ^ (2 * j) ≡ 4 ^ j
two_bits zero h = refl
two_bits (suc zero) h = refl
two_bits (suc (suc zero)) h = refl
two_bits (suc (suc (suc zero))) h = refl
two_bits (suc (suc (suc (suc j)))) h = absurd (omega arith)

pub weight_small : (j : ℕ) → j < 4 → 1 * 2 ^ (2 * j) % 256 ≡ 4 ^ j
weight_small zero h = refl
weight_small (suc zero) h = refl
weight_small (suc (suc zero)) h = refl
weight_small (suc (suc (suc zero))) h = refl
weight_small (suc (suc (suc (suc j)))) h = absurd (omega arith)

-- a byte with a digit changed
pub digit_here : (b j v : ℕ) → b < 256 → j < 4 → v < 4 → digit (b - digit b j * 4 ^ j + v * 4 ^ j) j ≡ v
digit_here b zero v hb h hv = omega arith
digit_here b (suc zero) v hb h hv = omega arith
digit_here b (suc (suc zero)) v hb h hv = omega arith
digit_here b (suc (suc (suc zero))) v hb h hv = omega arith
digit_here b (suc (suc (suc (suc j)))) v hb h hv = omega arith

pub digit_else : (b j v i : ℕ) → b < 256 → j < 4 → v < 4 → i < 4 → (i ≡ j → ⊥) → digit (b - digit b j * 4 ^ j + v * 4 ^ j) i ≡ digit b i
digit_else b zero v zero hb hj hv hi ne = absurd (ne refl)
digit_else b zero v (suc zero) hb hj hv hi ne = omega arith
digit_else b zero v (suc (suc zero)) hb hj hv hi ne = omega arith
digit_else b zero v (suc (suc (suc zero))) hb hj hv hi ne = omega arith
digit_else b zero v (suc (suc (suc (suc i)))) hb hj hv hi ne = omega arith
digit_else b (suc zero) v zero hb hj hv hi ne = omega arith
digit_else b (suc zero) v (suc zero) hb hj hv hi ne = absurd (ne refl)
digit_else b (suc zero) v (suc (suc zero)) hb hj hv hi ne = omega arith
digit_else b (suc zero) v (suc (suc (suc zero))) hb hj hv hi ne = omega arith
digit_else b (suc zero) v (suc (suc (suc (suc i)))) hb hj hv hi ne = omega arith
digit_else b (suc (suc zero)) v zero hb hj hv hi ne = omega arith
digit_else b (suc (suc zero)) v (suc zero) hb hj hv hi ne = omega arith
digit_else b (suc (suc zero)) v (suc (suc zero)) hb hj hv hi ne = absurd (ne refl)
digit_else b (suc (suc zero)) v (suc (suc (suc zero))) hb hj hv hi ne = omega arith
digit_else b (suc (suc zero)) v (suc (suc (suc (suc i)))) hb hj hv hi ne = omega arith
digit_else b (suc (suc (suc zero))) v zero hb hj hv hi ne = omega arith
digit_else b (suc (suc (suc zero))) v (suc zero) hb hj hv hi ne = omega arith
digit_else b (suc (suc (suc zero))) v (suc (suc zero)) hb hj hv hi ne = omega arith
digit_else b (suc (suc (suc zero))) v (suc (suc (suc zero))) hb hj hv hi ne = absurd (ne refl)
digit_else b (suc (suc (suc zero))) v (suc (suc (suc (suc i)))) hb hj hv hi ne = omega arith
digit_else b (suc (suc (suc (suc j)))) v i hb hj hv hi ne = omega arith

pub weight_fits : (b j v : ℕ) → b < 256 → j < 4 → v < 4 → (digit b j * 4 ^ j ≤ b) × (v * 4 ^ j < 256) × (b - digit b j * 4 ^ j + v * 4 ^ j < 256)
weight_fits b zero v hb hj hv = (omega arith, omega arith, omega arith)
weight_fits b (suc zero) v hb hj hv = (omega arith, omega arith, omega arith)
weight_fits b (suc (suc zero)) v hb hj hv = (omega arith, omega arith, omega arith)
weight_fits b (suc (suc (suc zero))) v hb hj hv = (omega arith, omega arith, omega arith)
weight_fits b (suc (suc (suc (suc j)))) v hb hj hv = (omega arith, omega arith, omega arith)

beside : (bs : List ℕ) (k b i : ℕ) → k / 4 < length bs
    → ((j : ℕ) → j < 4 → (j ≡ k % 4 → ⊥) → digit b j ≡ digit (get_or bs (k / 4) 0) j) → (i ≡ k → ⊥)
    → digit (get_or (set bs (k / 4) b) (i / 4) 0) (i % 4) ≡ digit (get_or bs (i / 4) 0) (i % 4)
beside bs k b i h other ne = elim (cases_eq (i / 4) (k / 4)) [
  | inl e ↦
      ap (λ x. digit (get_or (set bs (k / 4) b) x 0) (i % 4)) e ∙ ap (λ x. digit x (i % 4)) (get_or-set_same bs (k / 4) b 0 h)
      ∙ other (i % 4) (omega arith) (λ p. ne (omega arith)) ∙ ap (λ x. digit (get_or bs x 0) (i % 4)) (sym e)
  | inr n ↦ ap (λ x. digit x (i % 4)) (get_or-set_other bs (k / 4) (i / 4) b 0 n)
]

-- what a write does to the marks
pub packed_set : (bs : List ℕ) (k b v : ℕ) → k < packed_reach bs → digit b (k % 4) ≡ v
    → ((j : ℕ) → j < 4 → (j ≡ k % 4 → ⊥) → digit b j ≡ digit (get_or bs (k / 4) 0) j)
    → packed_marks (set bs (k / 4) b) ≡ set (packed_marks bs) k (meant v)
packed_set bs k b v h here other =
    let l : packed_reach (set bs (k / 4) b) ≡ packed_reach bs = ap (λ m. 4 * min m 2560) (length-set bs (k / 4) b) in
    let in_bytes : k / 4 < length bs = omega arith in
    ext_get_or Open (packed_marks (set bs (k / 4) b)) (set (packed_marks bs) k (meant v))
    (packed_length (set bs (k / 4) b) ∙ l ∙ sym (length-set (packed_marks bs) k (meant v) ∙ packed_length bs))
    (λ i hi.
    let i< : i < packed_reach bs = omega (arith, packed_length (set bs (k / 4) b), l) in
    let i<' : i < packed_reach (set bs (k / 4) b) = omega (arith, l) in
    packed_at (set bs (k / 4) b) i i<' ∙ (elim (cases_eq i k) [
      | inl e ↦
          let k< : k < length (packed_marks bs) = omega (arith, packed_length bs) in
          let there : mark_at (set bs (k / 4) b) k ≡ meant v = ap (λ x. meant (digit x (k % 4))) (get_or-set_same bs (k / 4) b 0 in_bytes) ∙ ap meant here in
          ap (mark_at (set bs (k / 4) b)) e ∙ there ∙ sym (ap (λ x. get_or (set (packed_marks bs) k (meant v)) x Open) e ∙ get_or-set_same (packed_marks bs) k (meant v) Open k<)
      | inr ne ↦
          ap meant (beside bs k b i in_bytes other ne) ∙ sym (packed_at bs i i<) ∙ sym (get_or-set_other (packed_marks bs) k i (meant v) Open ne)
    ]))

zero_digit : (j : ℕ) → digit 0 j ≡ 0
zero_digit j = ap (λ x. x % 4) (zero-div (4 ^ j))

pub wiped_length : (bs : List ℕ) → length (wiped bs) ≡ length bs
wiped_length bs =
    let n = min (length bs) 2560 in
    length-append (replicate n 0) (drop n bs) ∙ omega (arith, length-replicate {A = ℕ} n 0, length-drop n bs)

pub wiped_reach : (bs : List ℕ) → packed_reach (wiped bs) ≡ packed_reach bs
wiped_reach bs = ap (λ m. 4 * min m 2560) (wiped_length bs)

-- a wiped table has every atom open
pub wiped_open : (bs : List ℕ) → packed_marks (wiped bs) ≡ replicate (packed_reach bs) Open
wiped_open bs =
    let n = min (length bs) 2560 in
    let l = wiped_reach bs in
    ext_get_or Open (packed_marks (wiped bs)) (replicate (packed_reach bs) Open)
    (packed_length (wiped bs) ∙ l ∙ sym (length-replicate (packed_reach bs) Open))
    (λ i hi.
    let i< : i < packed_reach bs = omega (arith, packed_length (wiped bs), l) in
    let i<' : i < packed_reach (wiped bs) = omega (arith, l) in
    let q : i / 4 < n = omega arith in
    let z : get_or (wiped bs) (i / 4) 0 ≡ 0 = get_or_append_left (replicate n 0) (drop n bs) 0 (i / 4) (omega (arith, length-replicate {A = ℕ} n 0)) ∙ get_or-replicate n (i / 4) 0 0 q in
    packed_at (wiped bs) i i<' ∙ ap (λ x. meant (digit x (i % 4))) z ∙ ap meant (zero_digit (i % 4)) ∙ sym (get_or-replicate (packed_reach bs) i Open Open i<))

pub wiped_cleared : (bs : List ℕ) → packed_marks (wiped bs) ≡ cleared (packed_marks bs)
wiped_cleared bs = wiped_open bs ∙ splat_is_map (packed_marks bs) (packed_reach bs) Open (packed_length bs)

past_zeroed : (n : ℕ) (bs : List ℕ) → drop n (zeroed n bs) ≡ drop n bs
past_zeroed n bs = drop_at (replicate n 0) (drop n bs) n (length-replicate {A = ℕ} n 0)

pub wiped_beyond : (bs : List ℕ) → beyond (wiped bs) ≡ beyond bs
unfolding beyond
wiped_beyond bs = elim (cases_lt (length bs) 2560) [
  | inl h ↦ drop_all 2560 (wiped bs) (omega (arith, wiped_length bs)) ∙ sym (drop_all 2560 bs (omega arith))
  | inr h ↦
      let e : min (length bs) 2560 ≡ 2560 = omega arith in
      ap (λ n. drop 2560 (zeroed n bs)) e ∙ past_zeroed 2560 bs
]
