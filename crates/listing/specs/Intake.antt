-- A text taken in.
use Rattle.std.specs.Prelude.{◌≡◌, ℕ, ◌+◌, ◌<◌, ◌≤◌, Bool, true, false, cond, List, [], ◌∷◌, length, Ok, Err, Result, ◌==◌}
use Rattle.syntax.specs.declared.types.Refusal.{Refusal}
use Rattle.syntax.specs.declared.types.Refusal.TheVariants.{TextFault}
use Rattle.listing.specs.declared.intake.Intake.{Intake}

-- how many lines are left, where a line has begun or not: byte 10 ends a line, and an end that is
-- missing after the last line is supplied
abbrev pub lines_left : Bool → List ℕ → ℕ
lines_left begun [] = cond begun 1 0
lines_left begun (b ∷ rest) = cond (b == 10) (1 + lines_left false rest) (lines_left true rest)

abbrev pub lines : List ℕ → ℕ
lines text = lines_left false text

-- at most 32,768 bytes are taken in and counted; more are a text fault at line 0, word 0
abbrev pub TakenIn : List ℕ → Result Intake Refusal → Type 0
TakenIn text (Ok i) = (length text ≤ 32768) × (i.bytes ≡ length text) × (i.lines ≡ lines text)
TakenIn text (Err e) = (32768 < length text) × (e ≡ TextFault (record { line = 0; word = 0 }))
