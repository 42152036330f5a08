-- The place that is printed with a refusal.
use Rattle.std.proofs.Common.{◌≡◌, ℕ, List, [], ◌∷◌, length, Option, None, Some, MatchOption, ◌≢◌, refl, sym, ap, ◌∙◌, rules}
use Rattle.std.specs.Option.{UnwrapsOrElse}
use Rattle.syntax.specs.declared.types.Place.{Place}
use Rattle.syntax.specs.contracts.types.PlaceDefault.TheImpl.{ghosts as place}
use Rattle.syntax.specs.Refusals.{line_word, place_of}

no_place : (vs : List ℕ) → length vs ≢ 2 → place_of vs ≡ record { line = 0; word = 0 }
no_place [] h = refl
no_place (a ∷ []) h = refl
no_place (a ∷ b ∷ []) h = absurd (h refl)
no_place (a ∷ b ∷ c ∷ vs) h = refl

pub place_is : (vs : List ℕ) (o : Option Place) (p : Place) → MatchOption o (length vs ≢ 2) (λ q. vs ≡ line_word q) → UnwrapsOrElse o place.is_default p → p ≡ place_of vs
place_is vs None p h d =
    let zero : p ≡ record { line = 0; word = 0 } = search (rules, d) in
    zero ∙ sym (no_place vs h)
place_is vs (Some q) p h d = d ∙ ap place_of (sym h)
