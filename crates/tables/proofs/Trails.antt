-- Atoms taken off a trail from the top.
use Rattle.std.proofs.Common.{◌≡◌, ℕ, ◌+◌, ◌<◌, ◌≤◌, List, [], ◌∷◌, ◌++◌, length, get_or, take, drop, set, Ok, Err, Result, sym, ap, ◌∙◌, inl, inr, arith}
use Rattle.std.proofs.lemmas.List.{take_more, drop_more, length_push, same_from_push, set_past}
use Rattle.std.proofs.lemmas.Bool.{cases_lt}
use Rattle.syntax.specs.declared.types.Mark.{Mark}
use Rattle.syntax.specs.declared.types.Mark.TheVariants.{Open}
use Rattle.syntax.specs.declared.types.Refusal.{Refusal}
use Rattle.tables.specs.Marks.{Untold}
use Rattle.tables.proofs.Counts.{set_open}
use Rattle.tables.proofs.Refused.{untell_open}

-- whatever an untell answers, the atom is open then and the others are as they were
pub untold_opens : (ms ns : List Mark) (a : ℕ) (r : Result Unit Refusal) → Untold ms a ns r → ns ≡ set ms a Open
untold_opens ms ns a (Ok u) h = h.1
untold_opens ms ns a (Err e) h = h.1 ∙ sym (elim (cases_lt a (length ms)) [
  | inl lt ↦ set_open ms a (untell_open ms a e lt h.0)
  | inr ge ↦ set_past ms a Open ge
])

-- one element less of a front of xs
pub pop_step : (xs is ys : List ℕ) (x : ℕ) → length is ≤ length xs → is ≡ take (length is) xs → is ≡ ys ++ (x ∷ [])
    → (length is ≡ length ys + 1) × (ys ≡ take (length ys) xs) × (drop (length ys) xs ≡ x ∷ drop (length is) xs)
pop_step xs is ys x h e p =
    let n : length is ≡ length ys + 1 = ap length p ∙ length_push ys x in
    let h' : length ys < length xs = omega arith in
    let two = same_from_push ys (take (length ys) xs) x (get_or xs (length ys) 0) (sym p ∙ e ∙ ap (λ k. take k xs) n ∙ take_more xs (length ys) 0 h') in
    (n, two.0, drop_more xs (length ys) 0 h' ∙ ap (λ k. k ∷ drop (length ys + 1) xs) (sym two.1) ∙ ap (λ k. x ∷ drop k xs) (sym n))
