use Rattle.std.proofs.Common.{ℕ, ◌∷◌, ◌++◌, ap₂}
use Rattle.std.proofs.Output.{has_written_of_eq}
use Rattle.std.specs.Fmt.{decimal}
use Rattle.syntax.specs.declared.types.Place.{Place}
use Rattle.syntax.proofs.Shown.{place_is}
use Rattle.syntax.proofs.refusals.RefusalDisplay.fmt.Goals as goal

pub returns-clause-writes : goal.returns-clause-writes
returns-clause-writes g c =
    let at = place_is _ _ _ c.place.ensures c.unwrap_or_default-place.ensures in
    λ plain ok. has_written_of_eq _ _ _ _ _
    (ap₂ (λ (n : ℕ) (p : Place). decimal n ++ 32 ∷ (decimal p.line ++ 32 ∷ decimal p.word)) c.cause.ensures at)
    (c.write.ensures.writes plain ok)
