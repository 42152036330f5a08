-- The assignments that ranges give: within them, all of them, and in order.
use Rattle.std.proofs.Common.{◌≡◌, ℕ, zero, suc, [], ◌∷◌, ◌+◌, ◌*◌, ◌/◌, ◌%◌, ◌<◌, ◌≤◌, sym, ap, ◌∙◌, subst, arith}
use lib.Arith.{digits_lt}
use Rattle.std.proofs.lemmas.Nat.{mul-le, div-mul-add, mod-mul-add, div-add-mod', div_below, mod_below}
use Rattle.std.proofs.lemmas.Bool.{cond_both}
use Rattle.std.specs.Prelude.{slice_index}
use Rattle.syntax.specs.declared.counts.Counts.{Counts}
use Rattle.semantics.specs.Meaning.{Clause, Assignment, four}
use Rattle.semantics.specs.Checks.{uses, Proper}
use Rattle.semantics.proofs.Instances.{four_at}
use Rattle.instances.specs.declared.ranges.Ranges.{Ranges}
use Rattle.instances.specs.Assignments.{names_of, range, RunsThrough, size, nth_assignment, EachAssigns, EachReached, EachLater}

pub range_within : (c : Counts) (cl : Clause) (v : ℕ) → (1 ≤ range c cl v) × (range c cl v ≤ c.names)
range_within c cl v = cond_both (uses v cl) c.names 1 (λ n. (1 ≤ n) × (n ≤ c.names)) (λ _. (c.some, omega arith)) (λ _. (omega arith, c.some))

-- of two numbers of two digits, by the first digits and by the last
first_lower : {a b n i : ℕ} (j : ℕ) → a < b → i < n → a * n + i < b * n + j
first_lower {a} {b} {n} {i} j h l = let d : a * n + i < b * n = digits_lt h l in omega arith

last_lower : {a b i j : ℕ} (n : ℕ) → a ≡ b → i < j → a * n + i < b * n + j
last_lower {a} {b} {i} {j} n e l = let d : a * n ≡ b * n = ap (λ m. m * n) e in omega arith

small : (n m : ℕ) → n < m → n % m ≡ n
small n m h = let e : n ≡ 0 * m + n = omega arith in ap (λ k. k % m) e ∙ mod-mul-add 0 m n h

-- one more, where the digit does not overflow and where it does
goes : (k n : ℕ) → k % n + 1 < n → ((k + 1) % n ≡ k % n + 1) × ((k + 1) / n ≡ k / n)
goes k n h =
    let e : k + 1 ≡ k / n * n + (k % n + 1) = omega (arith, div-add-mod' k n) in
    (ap (λ m. m % n) e ∙ mod-mul-add (k / n) n (k % n + 1) h, ap (λ m. m / n) e ∙ div-mul-add (k / n) n (k % n + 1) h)

turns : (k n : ℕ) → 1 ≤ n → n ≤ k % n + 1 → ((k + 1) % n ≡ 0) × ((k + 1) / n ≡ k / n + 1)
turns k n some h =
    let e : k + 1 ≡ (k / n + 1) * n + 0 = omega (arith, div-add-mod' k n, mod_below k n some) in
    (ap (λ m. m % n) e ∙ mod-mul-add (k / n + 1) n 0 some, ap (λ m. m / n) e ∙ div-mul-add (k / n + 1) n 0 some)

module _ (r : Ranges) where
  abbrev x : ℕ
  x = slice_index r.most 0

  abbrev y : ℕ
  y = slice_index r.most 1

  abbrev z : ℕ
  z = slice_index r.most 2

  abbrev w : ℕ
  w = slice_index r.most 3

  pub two : x * y ≤ 1024
  two = mul-le x y 32 32 (r.each 0 (omega arith)).1 (r.each 1 (omega arith)).1

  pub three : x * y * z ≤ 32768
  three = mul-le (x * y) z 1024 32 two (r.each 2 (omega arith)).1

  pub whole : size r ≤ 1048576
  whole = mul-le (x * y * z) w 32768 32 three (r.each 3 (omega arith)).1

  module _ (k : ℕ) where
    pub within : (v : ℕ) → v < 4 → names_of (nth_assignment r k) v < slice_index r.most v
    within zero h = mod_below (k / w / z / y) x (r.each 0 h).0
    within (suc zero) h = mod_below (k / w / z) y (r.each 1 h).0
    within (suc (suc zero)) h = mod_below (k / w) z (r.each 2 h).0
    within (suc (suc (suc zero))) h = mod_below k w (r.each 3 h).0
    within (suc (suc (suc (suc v)))) h = absurd (omega arith)

    -- the next assignment, by the digit that is raised
    pub raised_w : k % w + 1 < w → nth_assignment r (k + 1) ≡ k / w / z / y % x ∷ k / w / z % y ∷ k / w % z ∷ (k % w + 1) ∷ []
    raised_w h = cc ((goes k w h).0, (goes k w h).1)

    module _ (over_w : w ≤ k % w + 1) where
      past_w : ((k + 1) % w ≡ 0) × ((k + 1) / w ≡ k / w + 1)
      past_w = turns k w (r.each 3 (omega arith)).0 over_w

      pub raised_z : k / w % z + 1 < z → nth_assignment r (k + 1) ≡ k / w / z / y % x ∷ k / w / z % y ∷ (k / w % z + 1) ∷ 0 ∷ []
      raised_z h = cc (past_w.0, past_w.1, (goes (k / w) z h).0, (goes (k / w) z h).1)

      module _ (over_z : z ≤ k / w % z + 1) where
        past_z : ((k / w + 1) % z ≡ 0) × ((k / w + 1) / z ≡ k / w / z + 1)
        past_z = turns (k / w) z (r.each 2 (omega arith)).0 over_z

        pub raised_y : k / w / z % y + 1 < y → nth_assignment r (k + 1) ≡ k / w / z / y % x ∷ (k / w / z % y + 1) ∷ 0 ∷ 0 ∷ []
        raised_y h = cc (past_w.0, past_w.1, past_z.0, past_z.1, (goes (k / w / z) y h).0, (goes (k / w / z) y h).1)

        module _ (over_y : y ≤ k / w / z % y + 1) where
          past_y : ((k / w / z + 1) % y ≡ 0) × ((k / w / z + 1) / y ≡ k / w / z / y + 1)
          past_y = turns (k / w / z) y (r.each 1 (omega arith)).0 over_y

          pub raised_x : k / w / z / y % x + 1 < x → nth_assignment r (k + 1) ≡ (k / w / z / y % x + 1) ∷ 0 ∷ 0 ∷ 0 ∷ []
          raised_x h = cc (past_w.0, past_w.1, past_z.0, past_z.1, past_y.0, past_y.1, (goes (k / w / z / y) x h).0)

          pub anew : x ≤ k / w / z / y % x + 1 → nth_assignment r (k + 1) ≡ 0 ∷ 0 ∷ 0 ∷ 0 ∷ []
          anew h = cc (past_w.0, past_w.1, past_z.0, past_z.1, past_y.0, past_y.1, (turns (k / w / z / y) x (r.each 0 (omega arith)).0 h).0)

  -- the place of an assignment
  abbrev place : Assignment → ℕ
  place σ = ((σ 0 * y + σ 1) * z + σ 2) * w + σ 3

  abbrev Within : Assignment → Type 0
  Within σ = (v : ℕ) → v < 4 → σ v < slice_index r.most v

  -- the assignment at its place
  placed : (σ : Assignment) → Within σ → (k : ℕ) × (k < size r) × ((v : ℕ) → v < 4 → names_of (nth_assignment r k) v ≡ σ v)
  placed σ h =
      let X = σ 0 * y + σ 1 in
      let Y = X * z + σ 2 in
      let K = Y * w + σ 3 in
      let hx = h 0 (omega arith) in
      let hy = h 1 (omega arith) in
      let hz = h 2 (omega arith) in
      let hw = h 3 (omega arith) in
      let dw : K / w ≡ Y = div-mul-add Y w (σ 3) hw in
      let dz : K / w / z ≡ X = ap (λ n. n / z) dw ∙ div-mul-add X z (σ 2) hz in
      let dy : K / w / z / y ≡ σ 0 = ap (λ n. n / y) dz ∙ div-mul-add (σ 0) y (σ 1) hy in
      let ex : K / w / z / y % x ≡ σ 0 = ap (λ n. n % x) dy ∙ small (σ 0) x hx in
      let ey : K / w / z % y ≡ σ 1 = ap (λ n. n % y) dz ∙ mod-mul-add (σ 0) y (σ 1) hy in
      let ez : K / w % z ≡ σ 2 = ap (λ n. n % z) dw ∙ mod-mul-add X z (σ 2) hz in
      let ew : K % w ≡ σ 3 = mod-mul-add Y w (σ 3) hw in
      let e : four (K / w / z / y % x) (K / w / z % y) (K / w % z) (K % w) ≡ four (σ 0) (σ 1) (σ 2) (σ 3) = cc in
      (K, digits_lt (digits_lt (digits_lt hx hy) hz) hw, λ v lt. ap (λ (τ : Assignment). τ v) e ∙ four_at σ v lt)

  -- the place of the k-th
  place_of : (k : ℕ) → k < size r → place (names_of (nth_assignment r k)) ≡ k
  place_of k h =
      let low : k / w / z / y < x =
      div_below (k / w / z) y x (r.each 1 (omega arith)).0
      (div_below (k / w) z (x * y) (r.each 2 (omega arith)).0 (div_below k w (x * y * z) (r.each 3 (omega arith)).0 h)) in
      let first : (k / w / z / y % x) * y + k / w / z % y ≡ k / w / z = ap (λ n. n * y + k / w / z % y) (small (k / w / z / y) x low) ∙ div-add-mod' (k / w / z) y in
      let second : ((k / w / z / y % x) * y + k / w / z % y) * z + k / w % z ≡ k / w = ap (λ n. n * z + k / w % z) first ∙ div-add-mod' (k / w) z in
      ap (λ n. n * w + k % w) second ∙ div-add-mod' k w

  -- what comes before another has the lower place
  rises : (σ τ : Assignment) → Within σ → (n : ℕ) → n < 4 → ((u : ℕ) → u < n → σ u ≡ τ u) → σ n < τ n → place σ < place τ
  rises σ τ h zero lt alike low =
      first_lower (τ 3) (first_lower (τ 2) (first_lower (τ 1) low (h 1 (omega arith))) (h 2 (omega arith))) (h 3 (omega arith))
  rises σ τ h (suc zero) lt alike low =
      first_lower (τ 3) (first_lower (τ 2) (last_lower y (alike 0 (omega arith)) low) (h 2 (omega arith))) (h 3 (omega arith))
  rises σ τ h (suc (suc zero)) lt alike low =
      let e0 = alike 0 (omega arith) in
      let e1 = alike 1 (omega arith) in
      let e : σ 0 * y + σ 1 ≡ τ 0 * y + τ 1 = cc in
      first_lower (τ 3) (last_lower z e low) (h 3 (omega arith))
  rises σ τ h (suc (suc (suc zero))) lt alike low =
      let e0 = alike 0 (omega arith) in
      let e1 = alike 1 (omega arith) in
      let e2 = alike 2 (omega arith) in
      let e : (σ 0 * y + σ 1) * z + σ 2 ≡ (τ 0 * y + τ 1) * z + τ 2 = cc in
      last_lower w e low
  rises σ τ h (suc (suc (suc (suc n)))) lt alike low = absurd (omega arith)

-- the names lie below N
pub each_assigns : EachAssigns
each_assigns c cl r k is v h = omega (arith, within r k v h, is v h, range_within c cl v)

-- a proper assignment keeps within the ranges
in_range : (c : Counts) (cl : Clause) (r : Ranges) (σ : Assignment) → RunsThrough c cl r → Proper c cl σ → (v : ℕ) → v < 4 → σ v < slice_index r.most v
in_range c cl r σ is p v h =
    let P : ℕ → Type 0 = λ n. σ v < n in
    subst P (sym (is v h)) (cond_both (uses v cl) c.names 1 P (λ _. p.assigns v h) (λ no-use. omega (arith, p.unused v h no-use)))

pub each_reached : EachReached
each_reached c cl r σ is p = placed r σ (in_range c cl r σ is p)

pub each_later : EachLater
each_later r j k hj hk b =
    let up = rises r (names_of (nth_assignment r j)) (names_of (nth_assignment r k)) (within r j) b.at b.variable b.alike b.lower in
    omega (arith, up, place_of r j hj, place_of r k hk)
