-- The mark of a sign, the literal with the other sign, and a literal for places that do not count.
use Rattle.std.specs.Prelude.{Bool, true, false, not}
use Rattle.syntax.specs.declared.types.Term.TheVariants.{Name}
use Rattle.syntax.specs.declared.types.Atom.TheVariants.{Same}
use Rattle.syntax.specs.declared.types.Literal.{Literal}
use Rattle.syntax.specs.declared.types.Mark.{Mark}
use Rattle.syntax.specs.declared.types.Mark.TheVariants.{Yes, No}

-- the mark of an atom that is told with a sign
abbrev pub signed : Bool → Mark
signed true = Yes
signed false = No

-- the literal with the other sign
abbrev pub opposite : Literal → Literal
opposite l = record { sign = not l.sign; atom = l.atom }

-- name 0 is name 0
abbrev pub filler : Literal
filler = record { sign = true; atom = Same (Name 0) (Name 0) }
