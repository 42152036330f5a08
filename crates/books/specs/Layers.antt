-- A layer on a book: the clauses below, and then those of its own that count.
use Rattle.std.specs.Prelude.{◌-◌, ◌≤◌, List, ◌++◌, length, take}
use Rattle.std.proofs.Common.{arith, length-take, length-append}
use Rattle.std.specs.List.{AllByRecursion}
use Rattle.std.proofs.ByRecursion.{All-append, All-take}
use Rattle.syntax.specs.declared.types.Literal.{Literal}
use Rattle.syntax.specs.declared.counts.Counts.{Counts}
use Rattle.syntax.specs.Lawful.{Lawful}

-- the clauses cs below, and then the layer's own, as long as there are at most 65,535 in all
unfoldable pub laid : List (List Literal) → List (List Literal) → List (List Literal)
laid cs own = cs ++ take (65535 - length cs) own

-- they are lawful where both are
pub laid_lawful : (c : Counts) (cs own : List (List Literal)) → AllByRecursion (Lawful c) cs → AllByRecursion (Lawful c) own → AllByRecursion (Lawful c) (laid cs own)
unfolding laid
laid_lawful c cs own h g = All-append (Lawful c) cs (take (65535 - length cs) own) h (All-take (Lawful c) (65535 - length cs) own g)

-- and no more than 65,535
pub laid_few : (cs own : List (List Literal)) → length cs ≤ 65535 → length (laid cs own) ≤ 65535
unfolding laid
laid_few cs own h = simp (length-append, length-take) (omega arith)
