-- Each kind of turn lowers the weight.
use Rattle.std.proofs.Common.{◌≡◌, ℕ, ◌+◌, ◌-◌, ◌*◌, ◌^◌, ◌<◌, ◌≤◌, List, [], ◌∷◌, ◌++◌, length, ap, ◌∙◌, arith}
use native.Mathlib.Nat.{pow-succ', one-le-pow}
use Rattle.tables.specs.declared.stack.Choice.{Choice}
use Rattle.std.proofs.lemmas.List.{length_push}
use Rattle.tableau.specs.Branch.{spent, weight}

spent_push : (atoms : ℕ) (cs : List Choice) (c : Choice) → spent atoms (cs ++ (c ∷ [])) ≡ spent atoms cs + 3 ^ (atoms - (c.height + 1))
spent_push atoms [] c = omega arith
spent_push atoms (x ∷ cs) c = omega (arith, spent_push atoms cs c)

positive : (k : ℕ) → 1 ≤ 3 ^ k
positive k = one-le-pow k 3 (omega arith)

thrice : (atoms n : ℕ) → n < atoms → 3 ^ (atoms - n) ≡ 3 * 3 ^ (atoms - (n + 1))
thrice atoms n h = ap (λ k. 3 ^ k) (omega arith) ∙ pow-succ' 3 (atoms - (n + 1))

abbrev heavy : ℕ → ℕ → List Choice → ℕ
heavy atoms n cs = 3 ^ (atoms - n) + spent atoms cs

-- a forced atom
pub forced_falls : (atoms : ℕ) (trail : List ℕ) (a : ℕ) (cs : List Choice) → length trail < atoms → weight atoms (trail ++ (a ∷ [])) cs < weight atoms trail cs
forced_falls atoms trail a cs h =
    let n = length trail in
    let w : weight atoms (trail ++ (a ∷ [])) cs ≡ heavy atoms (n + 1) cs = ap (λ m. heavy atoms m cs) (length_push trail a) in
    omega (arith, w, thrice atoms n h, positive (atoms - (n + 1)))

-- a chosen one
pub chosen_falls : (atoms : ℕ) (trail : List ℕ) (a : ℕ) (cs : List Choice) (c : Choice) → length trail < atoms → c.height ≡ length trail → weight atoms (trail ++ (a ∷ [])) (cs ++ (c ∷ [])) < weight atoms trail cs
chosen_falls atoms trail a cs c h e =
    let n = length trail in
    let k : 3 ^ (atoms - (c.height + 1)) ≡ 3 ^ (atoms - (n + 1)) = ap (λ m. 3 ^ (atoms - (m + 1))) e in
    let w : weight atoms (trail ++ (a ∷ [])) (cs ++ (c ∷ [])) ≡ heavy atoms (n + 1) (cs ++ (c ∷ [])) = ap (λ m. heavy atoms m (cs ++ (c ∷ []))) (length_push trail a) in
    omega (arith, w, thrice atoms n h, positive (atoms - (n + 1)), spent_push atoms cs c, k)

-- the latest choice taken back, and its opposite forced
pub back_falls : (atoms : ℕ) (trail trail' : List ℕ) (cs : List Choice) (c : Choice) → length trail' ≡ c.height + 1 → weight atoms trail' cs < weight atoms trail (cs ++ (c ∷ []))
back_falls atoms trail trail' cs c e =
    let k : 3 ^ (atoms - length trail') ≡ 3 ^ (atoms - (c.height + 1)) = ap (λ i. 3 ^ (atoms - i)) e in
    omega (arith, positive (atoms - length trail), spent_push atoms cs c, k)
