-- Two clauses compared literal by literal, and a clause looked for in a list.
use Rattle.std.proofs.Common.{◌≡◌, ℕ, zero, suc, ◌<◌, ◌≤◌, Bool, true, false, not, List, [], ◌∷◌, length, get_or, Some, None, Decides, Option, sym, refl, ap, ap₂, ◌∙◌, subst, arith}
use Rattle.std.specs.Bool.{MatchBool}
use Rattle.std.specs.List.{AllByRecursion, AllWithin, HoldsAt, ContainsAt, range_with_len, slice_get}
use Rattle.std.specs.Option.{is_some, option_eq}
use Rattle.std.proofs.ByRecursion.{has_get_or}
use Rattle.std.proofs.lemmas.Bool.{false≢true}
use Rattle.std.proofs.lemmas.List.FromFn.{get_or-range_with_len, length-range_with_len}
use Rattle.syntax.specs.declared.types.Literal.{Literal}
use Rattle.syntax.specs.contracts.types.LiteralPartialEq.TheImpl.{ghosts as literal}
use Rattle.syntax.specs.declared.counts.Counts.{Counts}
use Rattle.syntax.specs.Lawful.{Lawful}
use Rattle.semantics.specs.Meaning.{Clause}
use Rattle.comparison.proofs.Equality.{literals_decided}

-- what `==` says of two places of clauses
options_decided : (a b : Option Literal) (r : Bool) → r ≡ option_eq literal.eq a b → Decides r (a ≡ b)
options_decided None None r e = (λ _. refl, λ _. e)
options_decided None (Some y) r e = (λ t. absurd (grind arith), λ i. absurd (grind arith))
options_decided (Some x) None r e = (λ t. absurd (grind arith), λ i. absurd (grind arith))
options_decided (Some x) (Some y) r e = let d = literals_decided x y r e in (λ t. ap Some (d.0 t), λ i. d.1 (cc))

pub places_told : (a b x y : Option Literal) (r : Bool) → a ≡ x → b ≡ y → r ≡ not (option_eq literal.eq a b) → (r ≡ false → x ≡ y) × (x ≡ y → r ≡ false)
places_told a b x y r ea eb e =
    let d = options_decided a b (option_eq literal.eq a b) refl in
    (λ t. sym ea ∙ d.0 (not_false _ (sym e ∙ t)) ∙ eb, λ i. e ∙ ap not (d.1 (ea ∙ i ∙ sym eb)))
  where
    not_false : (t : Bool) → not t ≡ false → t ≡ true
    not_false true f = refl
    not_false false f = absurd (false≢true (sym f))

-- clauses that agree at their first n places, and have no more, are one
by_places : (n : ℕ) (xs ys : Clause) → length xs ≤ n → length ys ≤ n → ((j : ℕ) → j < n → slice_get xs j ≡ slice_get ys j) → xs ≡ ys
by_places n [] [] h k same = refl
by_places n [] (y ∷ ys) h k same = let e = same 0 (omega arith) in absurd (grind arith)
by_places n (x ∷ xs) [] h k same = let e = same 0 (omega arith) in absurd (grind arith)
by_places zero (x ∷ xs) (y ∷ ys) h k same = absurd (omega arith)
by_places (suc n) (x ∷ xs) (y ∷ ys) h k same =
    let e : Some x ≡ Some y = same 0 (omega arith) in
    let head : x ≡ y = cc in
    ap₂ (λ (z : Literal) (zs : Clause). z ∷ zs) head (by_places n xs ys (omega arith) (omega arith) (λ j lt. same (suc j) (omega arith)))

-- no clause has more than 8 literals, and past the last there is none
pub eight : (c : Counts) (cs : List Clause) (i : ℕ) → AllByRecursion (Lawful c) cs → length (get_or cs i []) ≤ 8
eight c [] i h = omega arith
eight c (cl ∷ cs) zero h = h.0.few
eight c (cl ∷ cs) (suc i) h = eight c cs i h.1

nth_of : (n j : ℕ) → j < n → get_or (range_with_len 0 n) j 0 ≡ j
nth_of n j lt = get_or-range_with_len 0 n j 0 lt ∙ omega arith

-- two clauses that agree at their first n places, and both end there
pub ended : (n : ℕ) (xs ys : Clause) → is_some (slice_get xs n) ≡ false → slice_get xs n ≡ slice_get ys n → ((j : ℕ) → j < n → slice_get xs j ≡ slice_get ys j) → xs ≡ ys
ended n xs ys none one same = by_places n xs ys (past xs n none) (past ys n (ap is_some (sym one) ∙ none)) same
  where
    past : (zs : Clause) (m : ℕ) → is_some (slice_get zs m) ≡ false → length zs ≤ m
    past [] m e = omega arith
    past (z ∷ zs) zero e = absurd (false≢true (sym e))
    past (z ∷ zs) (suc m) e = omega (arith, past zs m e)

-- and that agree at eight
pub same_clause : (xs ys : Clause) → length xs ≤ 8 → length ys ≤ 8 → ((j : ℕ) → j < 8 → slice_get xs j ≡ slice_get ys j) → xs ≡ ys
same_clause xs ys h k same = by_places 8 xs ys h k same

-- a clause was looked for among the clauses
pub stands :
    (cs : List Clause) (cl : Clause) (n : ℕ) (r : Bool) → n ≡ length cs →
    MatchBool r ((k : ℕ) × (k < length (range_with_len 0 n)) × HoldsAt (λ i. get_or cs i [] ≡ cl) (range_with_len 0 n) k) (AllWithin (λ i. get_or cs i [] ≡ cl → ⊥) (range_with_len 0 n) 0 (length (range_with_len 0 n))) →
    Decides r (ContainsAt cs cl)
stands cs cl n true is found =
    let below : found.0 < n = omega (arith, found.1, length-range_with_len 0 n) in
    let at : get_or cs found.0 [] ≡ cl = subst (λ (i : ℕ). get_or cs i [] ≡ cl) (nth_of n found.0 below) (found.2 0) in
    (λ _. subst (ContainsAt cs) at (has_get_or cs found.0 [] (omega arith)), λ _. refl)
stands cs cl n false is none = (
  λ e. absurd (false≢true e),
  λ has.
      let below : has.0 < n = omega (arith, has.1) in
      absurd (subst (λ (i : ℕ). get_or cs i [] ≡ cl → ⊥) (nth_of n has.0 below) (none has.0 0 (omega arith) (omega (arith, below, length-range_with_len 0 n))) (has.2 [])),
)
