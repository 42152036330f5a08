-- What a call makes of what it was handed.
use Rattle.std.specs.Prelude.{Some, None, Option}
use Rattle.syntax.specs.declared.types.Refusal.{Refusal}
pub use Rattle.syntax.specs.Refusals.{answer}

-- x' where there is no cause, else x
abbrev pub unless : {X : Type 0} → Option Refusal → X → X → X
unless None x x' = x'
unless (Some e) x x' = x
