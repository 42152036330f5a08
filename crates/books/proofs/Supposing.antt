-- A supposition's clauses by their places.
use Rattle.std.proofs.Common.{◌≡◌, ℕ, zero, suc, ◌+◌, ◌-◌, ◌<◌, ◌≤◌, min, Bool, true, false, ltb, ◌⊎◌, List, [], ◌∷◌, ◌++◌, map, length, Some, None, filter, sym, refl, ap, ◌∙◌, inl, inr, le_of_suc-le-suc, not-suc-le-zero, arith}
use lib.ListN.{length-map}
use Rattle.std.specs.Bool.{then_some}
use Rattle.std.specs.List.{slice_get}
use Rattle.std.proofs.lemmas.Bool.{ltb-true, ltb-false}
use Rattle.std.proofs.lemmas.List.{map_push}
use Rattle.syntax.specs.declared.types.Literal.{Literal}
use Rattle.syntax.specs.declared.counts.Counts.{Counts}
use Rattle.syntax.specs.Lawful.{ground_literal}
use Rattle.books.specs.Lists.{size_at_index, literal_at}
use Rattle.books.specs.Layers.{laid, laid_few}
use Rattle.books.specs.Suppositions.{unit, units}
use Rattle.books.proofs.Filter.{kept_push}
use Rattle.books.proofs.Laid.{laid_len, laid_more, size_above, size_past, literal_above, literal_past}

-- clauses of one literal each
unit_size : (ks : List Literal) (k : ℕ) → k < length ks → size_at_index (map unit ks) k ≡ Some 1
unit_size [] k h = absurd (not-suc-le-zero h)
unit_size (l ∷ ks) zero h = refl
unit_size (l ∷ ks) (suc k) h = unit_size ks k (le_of_suc-le-suc h)

unit_literal : (ks : List Literal) (k : ℕ) → literal_at (map unit ks) k 0 ≡ slice_get ks k
unit_literal [] k = refl
unit_literal (l ∷ ks) zero = refl
unit_literal (l ∷ ks) (suc k) = unit_literal ks k

unit_beyond : (ks : List Literal) (k j : ℕ) → 0 < j → literal_at (map unit ks) k j ≡ None
unit_beyond [] k j h = refl
unit_beyond (l ∷ ks) zero zero h = absurd (not-suc-le-zero h)
unit_beyond (l ∷ ks) zero (suc j) h = refl
unit_beyond (l ∷ ks) (suc k) j h = unit_beyond ks k j h

-- what the code reads, where the book below answered the counts c': the literals that count
pub kept_of : (c c' : Counts) (xs ys : List Literal) → c' ≡ c → ys ≡ xs → filter (ground_literal c') ys ≡ filter (ground_literal c) xs
kept_of c c' xs ys e f = ap (λ q. filter (ground_literal q) ys) e ∙ ap (filter (ground_literal c)) f

pub units_len : (cs : List (List Literal)) (c : Counts) (ls : List Literal) → length (laid cs (units c ls)) ≡ length cs + min (65535 - length cs) (length (filter (ground_literal c) ls))
units_len cs c ls =
    laid_len cs (units c ls) ∙ ap (λ n. length cs + min (65535 - length cs) n) (length-map (filter (ground_literal c) ls) unit)

-- above the book below, each clause has one literal
pub size_above_below : (cs : List (List Literal)) (c : Counts) (ls : List Literal) (i : ℕ) → length cs ≤ 65535 → length cs ≤ i → then_some (ltb i (length (laid cs (units c ls)))) 1 ≡ size_at_index (laid cs (units c ls)) i
size_above_below cs c ls i f h = by (ltb i (length (laid cs (units c ls)))) refl
  where
    by : (t : Bool) → ltb i (length (laid cs (units c ls))) ≡ t → then_some t 1 ≡ size_at_index (laid cs (units c ls)) i
    by true t =
        let g = ltb-true i (length (laid cs (units c ls))) t in
        let few = laid_few cs (units c ls) f in
        let e = units_len cs c ls in
        sym (size_above cs (units c ls) i h (omega arith) ∙ unit_size (filter (ground_literal c) ls) (i - length cs) (omega arith))
    by false t = sym (size_past (laid cs (units c ls)) i (ltb-false i (length (laid cs (units c ls))) t))

pub first_above : (cs : List (List Literal)) (c : Counts) (ls : List Literal) (i j : ℕ) → length cs ≤ i → i < 65535 → j ≡ 0 → slice_get (filter (ground_literal c) ls) (i - length cs) ≡ literal_at (laid cs (units c ls)) i j
first_above cs c ls i j h g z =
    sym (literal_above cs (units c ls) i j h g ∙ ap (literal_at (units c ls) (i - length cs)) z ∙ unit_literal (filter (ground_literal c) ls) (i - length cs))

pub none_above : (cs : List (List Literal)) (c : Counts) (ls : List Literal) (i j : ℕ) → length cs ≤ 65535 → length cs ≤ i → (65535 ≤ i) ⊎ ((i < 65535) × (0 < j)) → None ≡ literal_at (laid cs (units c ls)) i j
none_above cs c ls i j f h (inl p) = let e = laid_few cs (units c ls) f in sym (literal_past (laid cs (units c ls)) i j (omega arith))
none_above cs c ls i j f h (inr p) =
    sym (literal_above cs (units c ls) i j h p.0 ∙ unit_beyond (filter (ground_literal c) ls) (i - length cs) j p.1)

-- one literal more
pub units_more : (cs : List (List Literal)) (c : Counts) (xs ys : List Literal) (l : Literal) → ys ≡ xs ++ l ∷ [] → ground_literal c l ≡ true → length (laid cs (units c xs)) < 65535 → laid cs (units c ys) ≡ laid cs (units c xs) ++ unit l ∷ []
units_more cs c xs ys l e t f =
    ap (λ zs. laid cs (units c zs)) e ∙ ap (laid cs) (ap (map unit) (kept_push (ground_literal c) xs l t) ∙ map_push unit (filter (ground_literal c) xs) l) ∙
    laid_more cs (units c xs) (unit l) f
