-- The literals that are ground and lawful.
use Rattle.std.proofs.Common.{◌≡◌, Bool, true, List, [], ◌∷◌, ◌++◌, Decides, filter, ap, ◌∙◌}
use Rattle.std.proofs.lemmas.List.Elements.{filter-append}
use Rattle.std.proofs.lemmas.Bool.{cond-true}
use Rattle.std.proofs.lemmas.Bool.Decides.{same_from_decides}
use Rattle.syntax.specs.declared.types.Literal.{Literal}
use Rattle.syntax.specs.declared.counts.Counts.{Counts}
use Rattle.syntax.specs.Lawful.{GroundLiteral, ground_literal}
use Rattle.syntax.specs.Decided.{ground_decides}

pub ground_is : (c : Counts) (l : Literal) (r : Bool) → Decides r (GroundLiteral c l) → ground_literal c l ≡ r
ground_is c l r h = same_from_decides (ground_literal c l) r (ground_decides c l) h

-- one more at the end that passes
pub kept_push : {X : Type 0} (p : X → Bool) (xs : List X) (x : X) → p x ≡ true → filter p (xs ++ x ∷ []) ≡ filter p xs ++ x ∷ []
kept_push p xs x t = filter-append p xs (x ∷ []) ∙ ap (λ zs. filter p xs ++ zs) (cond-true (p x) _ _ t)
