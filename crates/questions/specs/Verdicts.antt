-- What a judgement says.
use Rattle.std.specs.Prelude.{Bool, true, false, Ok, Err, Result}
use Rattle.syntax.specs.declared.types.Refusal.{Refusal}
use Rattle.tableau.specs.declared.verdict.Verdict.{Verdict}
use Rattle.tableau.specs.declared.verdict.Verdict.TheVariants.{Consistent, Contradictory}

-- the answer is that there is a model
abbrev pub found : Result Verdict Refusal → Bool
found (Ok Consistent) = true
found (Ok Contradictory) = false
found (Err e) = false
