-- Which variables a clause uses.
use Rattle.std.proofs.Common.{◌≡◌, ℕ, ◌||◌, [], ◌∷◌, refl, ap}
use Rattle.std.specs.List.{list_any}
use Rattle.semantics.specs.Meaning.{Clause}
use Rattle.semantics.specs.Checks.{atom_use, uses}

pub uses_any : (v : ℕ) (cl : Clause) → list_any (λ l. atom_use v l.atom) cl ≡ uses v cl
uses_any v [] = refl
uses_any v (l ∷ ls) = ap (λ b. atom_use v l.atom || b) (uses_any v ls)
