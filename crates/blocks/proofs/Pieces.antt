-- Lists made of pieces of one length.
use Rattle.std.proofs.Common.{◌≡◌, ℕ, zero, suc, ◌+◌, ◌-◌, ◌*◌, ◌/◌, ◌%◌, ◌<◌, ◌≤◌, Bool, List, [], ◌∷◌, ◌++◌, length, get_or, take, drop, Decides, sym, ap, ◌∙◌, subst, ap₂, mul_comm, le_of_suc-le-suc, not-suc-le-zero, mul-zero, mul-suc, arith, take-add}
use native.Mathlib.Nat.{mul-div_cancel_left}
use Rattle.std.specs.List.{flat_map, AllByRecursion}
use Rattle.std.proofs.lemmas.List.{append_assoc, length-append, length-take-le, length-drop, take_at, drop_at, take-take, drop-drop, drop-take, nil_from_length, take-append-drop}
use Rattle.std.proofs.lemmas.Bool.Decides.{Decides-like}
use Rattle.std.proofs.lemmas.Nat.{div-add-mod'}
use Rattle.std.proofs.ByRecursion.{All-weaker}
use Rattle.blocks.specs.Reading.{part}
use Rattle.blocks.specs.Parts.{Made, MadeOne}

-- the length of a part, and a part of a part
pub part_length : (p n : ℕ) (xs : List ℕ) → p + n ≤ length xs → length (part p n xs) ≡ n
part_length p n xs h = length-take-le n (drop p xs) (simp length-drop (omega arith))

pub part_part : (q m p n : ℕ) (xs : List ℕ) → q + m ≤ n → part q m (part p n xs) ≡ part (p + q) m xs
part_part q m p n xs h =
    let e : n ≡ q + (n - q) = omega arith in
    ap (λ k. take m (drop q (take k (drop p xs)))) e ∙ ap (take m) (drop-take q (n - q) (drop p xs)) ∙
    take-take m (n - q) (drop q (drop p xs)) (omega arith) ∙ ap (take m) (drop-drop q p xs)

pub part_front : (p m n : ℕ) (xs : List ℕ) → p + m ≤ n → part p m (take n xs) ≡ part p m xs
part_front p m n xs h = part_part p m 0 n xs h ∙ ap (λ k. part k m xs) (omega arith)

-- a part as the code cuts it out
pub cut : (p n : ℕ) (xs : List ℕ) → take (p + n - p) (drop p xs) ≡ part p n xs
cut p n xs = ap (λ k. take k (drop p xs)) (omega arith)

-- one piece on
shift : (m k : ℕ) (xs : List ℕ) → part (m * suc k) m xs ≡ part (m * k) m (drop m xs)
shift m k xs =
    let e : m * suc k ≡ m + m * k = omega (arith, mul-suc m k) in
    ap (λ n. part n m xs) e ∙ ap (take m) (sym (drop-drop (m * k) m xs))

first : (m : ℕ) (xs : List ℕ) → part (m * 0) m xs ≡ take m xs
first m xs = ap (λ n. part n m xs) (mul-zero m)

-- piece k of a list that is joined of pieces
pub piece : {X : Type 0} (f : X → List ℕ) (m : ℕ) (xs : List X) (rest : List ℕ) (k : ℕ) (d : X) → AllByRecursion (λ x. length (f x) ≡ m) xs → k < length xs → part (m * k) m (flat_map f xs ++ rest) ≡ f (get_or xs k d)
piece f m [] rest k d a h = absurd (not-suc-le-zero h)
piece f m (x ∷ xs) rest zero d a h =
    first m ((f x ++ flat_map f xs) ++ rest) ∙ ap (take m) (append_assoc (f x) (flat_map f xs) rest) ∙
    take_at (f x) (flat_map f xs ++ rest) m a.0
piece f m (x ∷ xs) rest (suc k) d a h =
    shift m k ((f x ++ flat_map f xs) ++ rest) ∙
    ap (λ ys. part (m * k) m (drop m ys)) (append_assoc (f x) (flat_map f xs) rest) ∙
    ap (part (m * k) m) (drop_at (f x) (flat_map f xs ++ rest) m a.0) ∙
    piece f m xs rest k d a.1 (le_of_suc-le-suc h)

-- how long it is
pub joined_length : {X : Type 0} (f : X → List ℕ) (m : ℕ) (xs : List X) → AllByRecursion (λ x. length (f x) ≡ m) xs → length (flat_map f xs) ≡ m * length xs
joined_length f m [] a = sym (mul-zero m)
joined_length f m (x ∷ xs) a =
    length-append (f x) (flat_map f xs) ∙ omega (arith, a.0, joined_length f m xs a.1, mul-suc m (length xs))

-- bytes whose pieces are known are joined of them
pub gather : {X : Type 0} (f : X → List ℕ) (m : ℕ) (xs : List X) (d : X) (bytes : List ℕ) → ((k : ℕ) → k < length xs → part (m * k) m bytes ≡ f (get_or xs k d)) → take (m * length xs) bytes ≡ flat_map f xs
gather f m [] d bytes g = ap (λ n. take n bytes) (mul-zero m)
gather f m (x ∷ xs) d bytes g =
    let e : m * suc (length xs) ≡ m + m * length xs = omega (arith, mul-suc m (length xs)) in
    ap (λ n. take n bytes) e ∙ take-add m (m * length xs) bytes ∙
    ap₂ ◌++◌ (sym (first m bytes) ∙ g 0 (omega arith)) (gather f m xs d (drop m bytes) (λ k h. sym (shift m k bytes) ∙ g (suc k) (omega arith)))

-- bytes are made of pieces exactly when each of their pieces is one
module _ {X : Type 0} (f : X → List ℕ) (P : X → Type 0) (m : ℕ) (sizes : (x : X) → P x → length (f x) ≡ m) where
  found : (n : ℕ) (bytes : List ℕ) → length bytes ≡ m * n → ((k : ℕ) → k < n → MadeOne f P (part (m * k) m bytes)) → Made f P bytes
  found zero bytes h g = ([], tt, nil_from_length bytes (h ∙ mul-zero m))
  found (suc n) bytes h g =
      let x = g 0 (omega arith) in
      let l : length (drop m bytes) ≡ m * n = length-drop m bytes ∙ omega (arith, mul-suc m n) in
      let r = found n (drop m bytes) l (λ k i. let y = g (suc k) (omega arith) in (y.0, y.1, sym (shift m k bytes) ∙ y.2)) in
      (x.0 ∷ r.0, (x.1, r.1), sym (take-append-drop m bytes) ∙ ap₂ ◌++◌ (sym (first m bytes) ∙ x.2) r.2)

  lost : (xs : List X) (k : ℕ) → AllByRecursion P xs → k < length xs → MadeOne f P (part (m * k) m (flat_map f xs))
  lost [] k a h = absurd (not-suc-le-zero h)
  lost (x ∷ xs) zero a h =
      (x, a.0, first m (f x ++ flat_map f xs) ∙ take_at (f x) (flat_map f xs) m (sizes x a.0))
  lost (x ∷ xs) (suc k) a h =
      let r = lost xs k a.1 (le_of_suc-le-suc h) in
      (r.0, r.1, shift m k (f x ++ flat_map f xs) ∙ ap (part (m * k) m) (drop_at (f x) (flat_map f xs) m (sizes x a.0)) ∙ r.2)

  pub made_by_pieces : (bytes : List ℕ) (r : Bool) → 0 < m → length bytes % m ≡ 0 → Decides r ((k : ℕ) → k < length bytes / m → MadeOne f P (part (m * k) m bytes)) → Decides r (Made f P bytes)
  made_by_pieces bytes r pos h d =
      let n = length bytes / m in
      let size : length bytes ≡ m * n = omega (arith, div-add-mod' (length bytes) m, mul_comm m n) in
      Decides-like r (found n bytes size)
      (λ w k i.
      let all = All-weaker P (λ x. length (f x) ≡ m) sizes w.0 w.1 in
      let same : m * length w.0 ≡ m * n = sym (joined_length f m w.0 all) ∙ ap length (sym w.2) ∙ size in
      let count : length w.0 ≡ n = sym (mul-div_cancel_left (length w.0) pos) ∙ ap (λ j. j / m) same ∙ mul-div_cancel_left n pos in
      let Q : List ℕ → Type 0 = λ ys. MadeOne f P (part (m * k) m ys) in
      subst Q (sym w.2) (lost w.0 k w.1 (omega arith)))
      d

pub all_of : {X : Type 0} (P : X → Type 0) → ((x : X) → P x) → (xs : List X) → AllByRecursion P xs
all_of P h [] = tt
all_of P h (x ∷ xs) = (h x, all_of P h xs)
