-- What the comparison of two marks says.
use Rattle.std.proofs.Common.{◌≡◌, true, false, sym, rules}
use denote.Enum.Bare.{sameb, same_true, same_false}
use Rattle.syntax.specs.contracts.types.Mark.{the_type}
use Rattle.syntax.specs.declared.types.Mark.{Mark}

pub marks_same : (a b : Mark) → true ≡ sameb the_type a b → a ≡ b
marks_same a b e = same_true the_type (search rules) a b (sym e)

pub marks_apart : (a b : Mark) → false ≡ sameb the_type a b → a ≡ b → ⊥
marks_apart a b e = same_false the_type a b (sym e)
