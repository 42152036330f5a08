-- How many stand, after a change of one mark.
use Rattle.std.proofs.Common.{◌≡◌, ℕ, zero, suc, ◌+◌, ◌<◌, Bool, true, false, List, [], ◌∷◌, length, get_or, set, sym, refl, ap, ◌∙◌, le_of_suc-le-suc, arith}
use Rattle.std.proofs.lemmas.List.{set-get_or}
use Rattle.syntax.specs.declared.types.Mark.{Mark}
use Rattle.syntax.specs.declared.types.Mark.TheVariants.{Open}
use Rattle.tables.specs.Marks.{stands, standing, signed}
use Rattle.tables.specs.Counting.{OpenFrom, OneMore, OneLess, NoneLeft, AtMost, Fewer}
use Rattle.tables.specs.Within.{stands_le, standing_le}
use Rattle.tables.proofs.Refused.{tell_done, untell_done}

pub stands_signed : (b : Bool) → stands (signed b) ≡ 1
stands_signed true = refl
stands_signed false = refl

-- an open mark that is opened
pub set_open : (ms : List Mark) (k : ℕ) → get_or ms k Open ≡ Open → set ms k Open ≡ ms
set_open ms k o = ap (set ms k) (sym o) ∙ set-get_or ms k Open

-- one mark changed
pub standing_set : (ms : List Mark) (k : ℕ) (m : Mark) → k < length ms → standing (set ms k m) + stands (get_or ms k Open) ≡ standing ms + stands m
standing_set [] k m h = omega arith
standing_set (x ∷ ms) zero m h = omega arith
standing_set (x ∷ ms) (suc k) m h = omega (arith, standing_set ms k m (le_of_suc-le-suc h))

-- where one is open, not all stand
pub standing_lt : (ms : List Mark) (k : ℕ) → k < length ms → stands (get_or ms k Open) ≡ 0 → standing ms < length ms
standing_lt [] k h e = omega arith
standing_lt (x ∷ ms) zero h e = omega (arith, standing_le ms)
standing_lt (x ∷ ms) (suc k) h e = omega (arith, stands_le x, standing_lt ms k (le_of_suc-le-suc h) e)

pub one_more : OneMore
one_more ms ns room atom sign u t =
    let d = tell_done ms atom room t.0 in
    omega (arith, ap standing t.1, standing_set ms atom (signed sign) d.0, ap stands d.1, stands_signed sign)

pub one_less : OneLess
one_less ms ns atom u t =
    let d = untell_done ms atom t.0 in
    omega (arith, ap standing t.1, standing_set ms atom Open d.0, d.1)

pub none_left : NoneLeft
none_left [] = refl
none_left (m ∷ ms) = omega (arith, none_left ms)

-- the marks after the first
later : (A : ℕ) (m : Mark) (ms : List Mark) → OpenFrom (suc A) (m ∷ ms) → OpenFrom A ms
later A m ms h = λ k le. h (suc k) (omega arith)

pub at_most : AtMost
at_most A [] h = omega arith
at_most zero (m ∷ ms) h =
    omega (arith, ap stands (h 0 (omega arith)), at_most zero ms (λ k le. h (suc k) (omega arith)))
at_most (suc A) (m ∷ ms) h = omega (arith, stands_le m, at_most A ms (later A m ms h))

pub fewer : Fewer
fewer A k [] h lt o = omega arith
fewer zero k (m ∷ ms) h lt o = omega arith
fewer (suc A) zero (m ∷ ms) h lt o = omega (arith, ap stands o, at_most A ms (later A m ms h))
fewer (suc A) (suc k) (m ∷ ms) h lt o = omega (arith, stands_le m, fewer A k ms (later A m ms h) (le_of_suc-le-suc lt) o)
