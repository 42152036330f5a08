-- A layer's clauses by their places. For any layer: nothing here speaks of suppositions.
use Rattle.std.proofs.Common.{◌≡◌, ℕ, zero, suc, ◌+◌, ◌-◌, ◌<◌, ◌≤◌, min, List, [], ◌∷◌, ◌++◌, map, length, take, None, sym, refl, ap, ◌∙◌, le_of_suc-le-suc, not-suc-le-zero, arith, length-append, length-take}
use lib.ListN.{length-map}
use Rattle.std.specs.List.{slice_get}
use Rattle.std.proofs.lemmas.Option.{slice_get_past}
use Rattle.std.proofs.lemmas.List.{get_or_append_left, get_or-append_right, get_or-take, get_or_past, map-append, take-map, take_all, append_assoc, append-nil}
use Rattle.syntax.specs.declared.types.Literal.{Literal}
use Rattle.books.specs.Lists.{size_at_index, literal_at}
use Rattle.books.specs.Layers.{laid}

-- nth of a list made of two, and of a front
pub nth_left : {X : Type 0} (xs ys : List X) (i : ℕ) → i < length xs → slice_get (xs ++ ys) i ≡ slice_get xs i
nth_left [] ys i h = absurd (not-suc-le-zero h)
nth_left (x ∷ xs) ys zero h = refl
nth_left (x ∷ xs) ys (suc i) h = nth_left xs ys i (le_of_suc-le-suc h)

pub nth_right : {X : Type 0} (xs ys : List X) (i : ℕ) → length xs ≤ i → slice_get (xs ++ ys) i ≡ slice_get ys (i - length xs)
nth_right [] ys i h = ap (slice_get ys) (omega arith)
nth_right (x ∷ xs) ys zero h = absurd (not-suc-le-zero h)
nth_right (x ∷ xs) ys (suc i) h = nth_right xs ys i (le_of_suc-le-suc h) ∙ ap (slice_get ys) (omega arith)

pub nth_front : {X : Type 0} (n : ℕ) (xs : List X) (i : ℕ) → i < n → slice_get (take n xs) i ≡ slice_get xs i
nth_front zero xs i h = absurd (not-suc-le-zero h)
nth_front (suc n) [] i h = refl
nth_front (suc n) (x ∷ xs) zero h = refl
nth_front (suc n) (x ∷ xs) (suc i) h = nth_front n xs i (le_of_suc-le-suc h)

-- how many there are in all
pub laid_len : (cs own : List (List Literal)) → length (laid cs own) ≡ length cs + min (65535 - length cs) (length own)
unfolding laid
laid_len cs own = simp (length-append, length-take)

-- with no clause of its own, and with one more at the end
pub laid_none : (cs : List (List Literal)) → laid cs [] ≡ cs
unfolding laid
laid_none cs = ap (λ zs. cs ++ zs) (take_all (65535 - length cs) [] (omega arith)) ∙ append-nil cs

pub laid_more : (cs own : List (List Literal)) (cl : List Literal) → length (laid cs own) < 65535 → laid cs (own ++ cl ∷ []) ≡ laid cs own ++ cl ∷ []
unfolding laid
laid_more cs own cl h =
    let room = 65535 - length cs in
    let e = laid_len cs own in
    let a : length (own ++ cl ∷ []) ≤ room = simp length-append (omega arith) in
    let b : length own ≤ room = omega arith in
    ap (λ zs. cs ++ zs) (take_all room (own ++ cl ∷ []) a ∙ ap (λ zs. zs ++ cl ∷ []) (sym (take_all room own b))) ∙
    sym (append_assoc cs (take room own) (cl ∷ []))

-- a question below the layer is one to the book below
pub size_below : (cs own : List (List Literal)) (i : ℕ) → i < length cs → size_at_index (laid cs own) i ≡ size_at_index cs i
unfolding laid
size_below cs own i h =
    ap (λ zs. slice_get zs i) (map-append length cs (take (65535 - length cs) own)) ∙
    nth_left (map length cs) (map length (take (65535 - length cs) own)) i (simp length-map (omega arith))

pub literal_below : (cs own : List (List Literal)) (i j : ℕ) → i < length cs → literal_at (laid cs own) i j ≡ literal_at cs i j
unfolding laid
literal_below cs own i j h = ap (λ cl. slice_get cl j) (get_or_append_left cs (take (65535 - length cs) own) [] i h)

-- one above it, up to 65,535, is one to its own clauses
pub size_above : (cs own : List (List Literal)) (i : ℕ) → length cs ≤ i → i < 65535 → size_at_index (laid cs own) i ≡ size_at_index own (i - length cs)
unfolding laid
size_above cs own i h g =
    let front = take (65535 - length cs) own in
    let n : length (map length cs) ≡ length cs = simp length-map in
    ap (λ zs. slice_get zs i) (map-append length cs front) ∙ nth_right (map length cs) (map length front) i (omega arith) ∙
    ap (λ k. slice_get (map length front) (i - k)) n ∙ ap (λ zs. slice_get zs (i - length cs)) (sym (take-map length (65535 - length cs) own)) ∙
    nth_front (65535 - length cs) (map length own) (i - length cs) (omega arith)

pub literal_above : (cs own : List (List Literal)) (i j : ℕ) → length cs ≤ i → i < 65535 → literal_at (laid cs own) i j ≡ literal_at own (i - length cs) j
unfolding laid
literal_above cs own i j h g =
    ap (λ cl. slice_get cl j) (get_or-append_right cs (take (65535 - length cs) own) (length cs) i [] refl h ∙ get_or-take (65535 - length cs) own (i - length cs) [] (omega arith))

-- beyond the list there is nothing
pub size_past : (cs : List (List Literal)) (i : ℕ) → length cs ≤ i → size_at_index cs i ≡ None
size_past cs i h = slice_get_past (map length cs) i (simp length-map (omega arith))

pub literal_past : (cs : List (List Literal)) (i j : ℕ) → length cs ≤ i → literal_at cs i j ≡ None
literal_past cs i j h = ap (λ cl. slice_get cl j) (get_or_past cs i [] h)
