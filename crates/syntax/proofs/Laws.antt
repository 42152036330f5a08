-- The laws of the numbering. Each number is a row of as many places as there are names, and a place in it.
use Rattle.std.proofs.Common.{◌≡◌, ℕ, ◌+◌, ◌-◌, ◌*◌, ◌/◌, ◌%◌, ◌<◌, ◌≤◌, Some, sym, refl, ap, ◌∙◌, subst, ⊎_elim, add-mul, mul-le-mul, arith}
use lib.Arith.{digits_lt, digits_div, digits_mod}
use Rattle.std.proofs.lemmas.Nat.{div-add-mod', div_below, mod_below}
use Rattle.std.proofs.lemmas.Bool.{cases_lt}
use Rattle.syntax.specs.declared.types.Ground.{Ground}
use Rattle.syntax.specs.declared.types.Ground.TheVariants.{Same, Prop, Rel}
use Rattle.syntax.specs.declared.counts.Counts.{Counts}
use Rattle.syntax.specs.Numbers.{atoms, number_of, LawfulGround, Numbered, Found, Few, BelowAll, Apart, Onto}

abbrev row : Counts → Ground → ℕ
row c (Same a b) = a
row c (Prop p a) = c.names + p
row c (Rel r a b) = c.names + c.properties + (r * c.names + a)

abbrev place : Ground → ℕ
place (Same a b) = b
place (Prop p a) = a
place (Rel r a b) = b

abbrev rows : Counts → ℕ
rows c = c.names + c.properties + c.relations * c.names

two_rows : (n p b : ℕ) → n * n + p * n + b ≡ (n + p) * n + b
two_rows n p b = omega (arith, add-mul n p n)

three_rows : (n p x b : ℕ) → n * n + p * n + x * n + b ≡ (n + p + x) * n + b
three_rows n p x b = omega (arith, add-mul (n + p) x n, add-mul n p n)

number_row : (c : Counts) (g : Ground) → number_of c g ≡ row c g * c.names + place g
unfolding number_of
number_row c (Same a b) = refl
number_row c (Prop p a) = two_rows c.names p a
number_row c (Rel r a b) = three_rows c.names c.properties (r * c.names + a) b

atoms_row : (c : Counts) → atoms c ≡ rows c * c.names
unfolding atoms
atoms_row c = omega (arith, three_rows c.names c.properties (c.relations * c.names) 0)

pair_below : (c : Counts) (r a : ℕ) → r < c.relations → a < c.names → r * c.names + a < c.relations * c.names
pair_below c r a h g = digits_lt h g

row_below : (c : Counts) (g : Ground) → LawfulGround c g → row c g < rows c
row_below c (Same a b) h = omega arith
row_below c (Prop p a) h = omega arith
row_below c (Rel r a b) h = omega (arith, pair_below c r a h.0 h.1.0)

place_below : (c : Counts) (g : Ground) → LawfulGround c g → place g < c.names
place_below c (Same a b) h = h.1
place_below c (Prop p a) h = h.1
place_below c (Rel r a b) h = h.1.1

digits_same : (q q' m : ℕ) {r r' : ℕ} → r < m → r' < m → q * m + r ≡ q' * m + r' → (q ≡ q') × (r ≡ r')
digits_same q q' m h h' e =
    (sym (digits_div q h) ∙ ap (λ (n : ℕ). n / m) e ∙ digits_div q' h', sym (digits_mod q h) ∙ ap (λ (n : ℕ). n % m) e ∙ digits_mod q' h')

pub few : Few
unfolding atoms
few c =
    let a : c.names * c.names ≤ 32 * 32 = mul-le-mul c.few c.few in
    let b : c.properties * c.names ≤ 32 * 32 = mul-le-mul c.props c.few in
    let d : c.relations * c.names ≤ 8 * 32 = mul-le-mul c.rels c.few in
    let e : c.relations * c.names * c.names ≤ 8 * 32 * 32 = mul-le-mul d c.few in
    omega arith

pub below_all : BelowAll
below_all c g h = rw (number_row c g, atoms_row c) (digits_lt (row_below c g h) (place_below c g h))

apart_rows : (c : Counts) (g h : Ground) → LawfulGround c g → LawfulGround c h → row c g ≡ row c h → place g ≡ place h → g ≡ h
apart_rows c (Same a b) (Same x y) l m e f = cc
apart_rows c (Same a b) (Prop q x) l m e f = absurd (omega arith)
apart_rows c (Same a b) (Rel s x y) l m e f = absurd (omega arith)
apart_rows c (Prop p a) (Same x y) l m e f = absurd (omega arith)
apart_rows c (Prop p a) (Prop q x) l m e f = let z : p ≡ q = omega arith in cc
apart_rows c (Prop p a) (Rel s x y) l m e f = absurd (omega arith)
apart_rows c (Rel r a b) (Same x y) l m e f = absurd (omega arith)
apart_rows c (Rel r a b) (Prop q x) l m e f = absurd (omega arith)
apart_rows c (Rel r a b) (Rel s x y) l m e f =
    let d : r * c.names + a ≡ s * c.names + x = omega arith in
    let z = digits_same r s c.names l.1.0 m.1.0 d in
    let u = z.0 in let v = z.1 in cc

pub apart : Apart
apart c g h l m e =
    let z = digits_same (row c g) (row c h) c.names (place_below c g l) (place_below c h m) (sym (number_row c g) ∙ e ∙ number_row c h) in
    apart_rows c g h l m z.0 z.1

-- the atom of a number, by the number's row
abbrev Is : Counts → ℕ → Ground → Type 0
Is c k g = LawfulGround c g × (number_of c g ≡ k)

from_row : (c : Counts) (k : ℕ) (g : Ground) → row c g ≡ k / c.names → place g ≡ k % c.names → number_of c g ≡ k
from_row c k g e f = number_row c g ∙ omega (arith, ap (λ (q : ℕ). q * c.names) e, div-add-mod' k c.names)

row_is : (c : Counts) (k : ℕ) → k < atoms c → k / c.names < rows c
row_is c k h = div_below k c.names (rows c) c.some (rw (atoms_row c) at h)

same_at : (c : Counts) (k : ℕ) → k / c.names < c.names → Is c k (Same (k / c.names) (k % c.names))
same_at c k h = ((h, mod_below k c.names c.some), from_row c k (Same (k / c.names) (k % c.names)) refl refl)

prop_at : (c : Counts) (k : ℕ) → c.names ≤ k / c.names → k / c.names < c.names + c.properties → Is c k (Prop (k / c.names - c.names) (k % c.names))
prop_at c k g h = ((omega arith, mod_below k c.names c.some), from_row c k (Prop (k / c.names - c.names) (k % c.names)) (omega arith) refl)

pair_is : (c : Counts) (k : ℕ) → c.names + c.properties ≤ k / c.names → k < atoms c → (k / c.names - c.names - c.properties) / c.names < c.relations
pair_is c k g h = div_below _ c.names c.relations c.some (omega (arith, row_is c k h))

rel_at : (c : Counts) (k : ℕ) → c.names + c.properties ≤ k / c.names → k < atoms c → Is c k (Rel ((k / c.names - c.names - c.properties) / c.names) ((k / c.names - c.names - c.properties) % c.names) (k % c.names))
rel_at c k g h =
    let d = k / c.names - c.names - c.properties in (
      (pair_is c k g h, (mod_below d c.names c.some, mod_below k c.names c.some)),
      from_row c k (Rel (d / c.names) (d % c.names) (k % c.names)) (omega (arith, div-add-mod' d c.names)) refl,
    )

pub onto : Onto
onto c k h =
    ⊎_elim
    (λ p. let z = same_at c k p in (_, z.0, z.1))
    (λ p. ⊎_elim
    (λ q. let z = prop_at c k p q in (_, z.0, z.1))
    (λ q. let z = rel_at c k q h in (_, z.0, z.1))
    (cases_lt (k / c.names) (c.names + c.properties)))
    (cases_lt (k / c.names) c.names)

-- an atom with the number k is the one that is found at k
found : (c : Counts) (k : ℕ) (g : Ground) → k < atoms c → Is c k g → Found c k (Some g)
found c k g h is = (h, is.0, is.1, λ o l e. apart c o g l is.0 (e ∙ sym is.1))

-- the same where the counts are read into n and m
pub found_same : (c : Counts) (k n : ℕ) → n ≡ c.names → k < atoms c → k / n < n → Found c k (Some (Same (k / n) (k % n)))
found_same c k n e h =
    let P : ℕ → Type 0 = λ n. k / n < n → Found c k (Some (Same (k / n) (k % n))) in
    subst P (sym e) (λ low. found c k _ h (same_at c k low))

pub found_prop : (c : Counts) (k n m : ℕ) → n ≡ c.names → m ≡ c.properties → k < atoms c → n ≤ k / n → k / n < n + m → Found c k (Some (Prop (k / n - n) (k % n)))
found_prop c k n m e f h =
    let P : ℕ → ℕ → Type 0 = λ n m. n ≤ k / n → k / n < n + m → Found c k (Some (Prop (k / n - n) (k % n))) in
    subst (λ (x : ℕ). P x m) (sym e) (subst (P c.names) (sym f) (λ low high. found c k _ h (prop_at c k low high)))

pub found_rel : (c : Counts) (k n m : ℕ) → n ≡ c.names → m ≡ c.properties → k < atoms c → n + m ≤ k / n → Found c k (Some (Rel ((k / n - n - m) / n) ((k / n - n - m) % n) (k % n)))
found_rel c k n m e f h =
    let P : ℕ → ℕ → Type 0 = λ n m. n + m ≤ k / n → Found c k (Some (Rel ((k / n - n - m) / n) ((k / n - n - m) % n) (k % n))) in
    subst (λ (x : ℕ). P x m) (sym e) (subst (P c.names) (sym f) (λ low. found c k _ h (rel_at c k low h)))

-- a relation's number is small
pub pair_fits : (c : Counts) (k n m : ℕ) → n ≡ c.names → m ≡ c.properties → k < atoms c → n + m ≤ k / n → (k / n - n - m) / n < 8
pair_fits c k n m e f h =
    let P : ℕ → ℕ → Type 0 = λ n m. n + m ≤ k / n → (k / n - n - m) / n < 8 in
    subst (λ (x : ℕ). P x m) (sym e) (subst (P c.names) (sym f) (λ low. omega (arith, pair_is c k low h)))

pub numbered : (c : Counts) (g : Ground) (k : ℕ) → LawfulGround c g → k ≡ number_of c g → Numbered c g (Some k)
numbered c g k l e = let P : ℕ → Type 0 = λ j. j < atoms c in (l, e, subst P (sym e) (below_all c g l))
