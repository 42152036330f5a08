-- The relations of the calls against the tests.
use Rattle.std.proofs.Common.{◌≡◌, ℕ, Bool, true, false, not, ◌||◌, eqb, ltb, ◌⊎◌, List, [], ◌∷◌, ◌++◌, length, take, Some, None, Ok, Err, Decides, Option, sym, refl, ap, ◌∙◌, inl, inr, ⊎_elim, arith}
use Rattle.std.proofs.lemmas.Bool.{cond-true, cond-false}
use Rattle.std.proofs.lemmas.Bool.Decides.{Decides-like, Decides-and, Decides-or, Decides-ltb, Decides-eqb}
use Rattle.syntax.specs.declared.types.Literal.{Literal}
use Rattle.syntax.specs.declared.types.Refusal.{Refusal}
use Rattle.syntax.specs.declared.types.Refusal.TheVariants.{Limits, Unlawful, BookFull, StrikeAbove, TooMany}
use Rattle.syntax.specs.declared.counts.Counts.{Counts}
use Rattle.syntax.specs.Lawful.{Lawful, ground_literal}
use Rattle.syntax.specs.Limits.{Within}
use Rattle.syntax.specs.Refusals.{first_of}
use Rattle.syntax.specs.Decided.{literals_decides, ground_decides}
use Rattle.books.specs.Calls.{answer, unless}
use Rattle.books.specs.Suppositions.{unit}
use Rattle.books.specs.Reckoned.{within, lawful_clause, open_cause, enter_cause, strike_cause, suppose_cause, OpenSettled, EnterSettled, StrikeSettled, SupposeSettled}

pub within_decides : (n p q : ℕ) → Decides (within n p q) (Within n p q)
within_decides n p q =
    Decides-like (within n p q) (λ h. (omega arith, omega arith, omega arith, omega arith)) (λ h. (omega arith, (omega arith, (omega arith, omega arith))))
    (Decides-and _ _ (Decides-ltb 0 n) (Decides-and _ _ (Decides-ltb n 33) (Decides-and _ _ (Decides-ltb p 33) (Decides-ltb q 9))))

pub clause_decides : (c : Counts) (ls : List Literal) → Decides (lawful_clause c ls) (Lawful c ls)
clause_decides c ls =
    Decides-like (lawful_clause c ls) (λ h. record { some = omega arith; few = omega arith; each = h.1.1 }) (λ h. (omega arith, (omega arith, h.each)))
    (Decides-and _ _ (Decides-ltb 0 (length ls)) (Decides-and _ _ (Decides-ltb (length ls) 9) (literals_decides c ls)))

-- the first cause whose test is true
here : (t : Bool) (e : Refusal) (rest : List (Bool × Refusal)) → t ≡ true → first_of ((t, e) ∷ rest) ≡ Some e
here t e rest h = cond-true t _ _ h

later : (t : Bool) (e : Refusal) (rest : List (Bool × Refusal)) → t ≡ false → first_of ((t, e) ∷ rest) ≡ first_of rest
later t e rest h = cond-false t _ _ h

denied : {P : Type 0} (t : Bool) → Decides t P → (P → ⊥) → t ≡ false
denied true d n = absurd (n (d.0 refl))
denied false d n = refl

-- done under no cause, left under one
done : {X : Type 0} (q : Option Refusal) (x x' y : X) → q ≡ None → y ≡ x' → (Ok tt ≡ answer q) × (y ≡ unless q x x')
done q x x' y e h = (ap answer (sym e), h ∙ ap (λ o. unless o x x') (sym e))

left : {X : Type 0} (q : Option Refusal) (x x' y : X) (e d : Refusal) → q ≡ Some d → e ≡ d → y ≡ x → (Err e ≡ answer q) × (y ≡ unless q x x')
left q x x' y e d w f h = (ap Err f ∙ ap answer (sym w), h ∙ ap (λ o. unless o x x') (sym w))

pub open_settled : OpenSettled
open_settled c cs n p q (Ok _) c' cs' h =
    done (open_cause n p q) cs [] cs' (later _ Limits [] (ap not ((within_decides n p q).1 h.0))) h.2
open_settled c cs n p q (Err e) c' cs' h =
    left (open_cause n p q) cs [] cs' e Limits (here _ Limits [] (ap not (denied (within n p q) (within_decides n p q) h.0))) h.1 h.3

pub enter_settled : EnterSettled
enter_settled c cs ls (Ok _) cs' h =
    done (enter_cause c cs ls) cs (cs ++ ls ∷ []) cs'
    (later _ Unlawful ((eqb (length cs) 256, BookFull) ∷ []) (ap not ((clause_decides c ls).1 h.0)) ∙ later _ BookFull [] (denied (eqb (length cs) 256) (Decides-eqb (length cs) 256) (λ e. omega arith)))
    h.2
enter_settled c cs ls (Err e) cs' (inl u, v) =
    left (enter_cause c cs ls) cs (cs ++ ls ∷ []) cs' e Unlawful (here _ Unlawful ((eqb (length cs) 256, BookFull) ∷ []) (ap not (denied (lawful_clause c ls) (clause_decides c ls) u.1))) u.0 v
enter_settled c cs ls (Err e) cs' (inr u, v) =
    left (enter_cause c cs ls) cs (cs ++ ls ∷ []) cs' e BookFull
    (later _ Unlawful ((eqb (length cs) 256, BookFull) ∷ []) (ap not ((clause_decides c ls).1 u.1)) ∙ here _ BookFull [] ((Decides-eqb (length cs) 256).1 u.2)) u.0 v

pub strike_settled : StrikeSettled
strike_settled cs k (Ok _) cs' h =
    done (strike_cause cs k) cs (take k cs) cs' (later _ StrikeAbove [] (denied (ltb (length cs) k) (Decides-ltb (length cs) k) (λ g. omega arith))) h.1
strike_settled cs k (Err e) cs' h =
    left (strike_cause cs k) cs (take k cs) cs' e StrikeAbove (here _ StrikeAbove [] ((Decides-ltb (length cs) k).1 h.0)) h.1 h.2

-- a layer takes no more
full_decides : (cs : List (List Literal)) (ls : List Literal) → Decides (eqb (length ls) 16 || eqb (length cs) 65535) ((length ls ≡ 16) ⊎ (length cs ≡ 65535))
full_decides cs ls = Decides-or _ _ (Decides-eqb (length ls) 16) (Decides-eqb (length cs) 65535)

pub suppose_settled : SupposeSettled
suppose_settled c cs ls l (Ok _) cs' ls' h =
    done (suppose_cause c cs ls l) cs (cs ++ unit l ∷ []) cs'
    (later _ Unlawful ((eqb (length ls) 16 || eqb (length cs) 65535, TooMany) ∷ []) (ap not ((ground_decides c l).1 h.0)) ∙ later _ TooMany [] (denied _ (full_decides cs ls) (⊎_elim (λ e. omega arith) (λ e. omega arith))))
    h.3
suppose_settled c cs ls l (Err e) cs' ls' (inl u, v, w) =
    left (suppose_cause c cs ls l) cs (cs ++ unit l ∷ []) cs' e Unlawful (here _ Unlawful ((eqb (length ls) 16 || eqb (length cs) 65535, TooMany) ∷ []) (ap not (denied (ground_literal c l) (ground_decides c l) u.1))) u.0 v
suppose_settled c cs ls l (Err e) cs' ls' (inr u, v, w) =
    left (suppose_cause c cs ls l) cs (cs ++ unit l ∷ []) cs' e TooMany
    (later _ Unlawful ((eqb (length ls) 16 || eqb (length cs) 65535, TooMany) ∷ []) (ap not ((ground_decides c l).1 u.1)) ∙ here _ TooMany [] ((full_decides cs ls).1 u.2)) u.0 v
