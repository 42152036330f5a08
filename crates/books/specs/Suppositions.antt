-- The supposition: what it means, and what its call does.
use Rattle.std.specs.Prelude.{◌≡◌, ◌<◌, ◌≤◌, true, ◌⊎◌, List, [], ◌∷◌, ◌++◌, map, length, Ok, Err, filter, Result}
use Rattle.std.proofs.Common.{arith}
use Rattle.std.specs.List.{AllByRecursion}
use Rattle.std.proofs.ByRecursion.{All-map, All-weaker, kept_by_passes}
use Rattle.syntax.specs.declared.types.Literal.{Literal}
use Rattle.syntax.specs.declared.types.Refusal.{Refusal}
use Rattle.syntax.specs.declared.types.Refusal.TheVariants.{Unlawful, TooMany}
use Rattle.syntax.specs.declared.counts.Counts.{Counts}
use Rattle.syntax.specs.Lawful.{Lawful, GroundLiteral, ground_literal}
use Rattle.syntax.specs.Decided.{ground_decides, ground_lawful}
use Rattle.books.specs.declared.supposition.Supposition.{Supposition}
use Rattle.books.specs.Layers.{laid, laid_lawful, laid_few}

-- one literal as a clause
abbrev pub unit : Literal → List Literal
unit l = l ∷ []

-- of the literals, those that are ground and lawful at the counts, each as a clause
abbrev pub units : Counts → List Literal → List (List Literal)
units c ls = map unit (filter (ground_literal c) ls)

-- the literals that a layer holds, in the order in which they were supposed
abbrev pub own_of : {B : Type 0} → Supposition B → List Literal
own_of s = s.literals.items

-- the counts that a layer means: those below
abbrev pub counts_with : {B : Type 0} → (B → Counts) → Supposition B → Counts
counts_with counts s = counts s.below

-- the clauses that a layer means: those below, and then one for each of its literals that is lawful below, within 65,535 in all
-- (counts, clauses: what a book of the kind below means)
abbrev pub clauses_with : {B : Type 0} → (B → Counts) → (B → List (List Literal)) → Supposition B → List (List Literal)
clauses_with counts clauses s = laid (clauses s.below) (units (counts s.below) (own_of s))

-- suppose l on a layer with the counts c, which means cs and holds ls: refused as 2 exactly when l has a variable or is unlawful, else
-- as 10 exactly when it holds 16 literals or means 65,535 clauses, and all stays; else it holds l too, as a clause at the end
abbrev pub Supposed : Counts → List (List Literal) → List Literal → Literal → Result Unit Refusal → List (List Literal) → List Literal → Type 0
Supposed c cs ls l (Ok _) cs' ls' =
    GroundLiteral c l × (length ls < 16) × (length cs < 65535) × (cs' ≡ cs ++ unit l ∷ []) × (ls' ≡ ls ++ l ∷ [])
Supposed c cs ls l (Err e) cs' ls' =
    (((e ≡ Unlawful) × (GroundLiteral c l → ⊥)) ⊎ ((e ≡ TooMany) × GroundLiteral c l × ((length ls ≡ 16) ⊎ (length cs ≡ 65535)))) × (cs' ≡ cs) × (ls' ≡ ls)

-- the clauses of a layer are lawful, and at most 65,535
unit_lawful : (c : Counts) (l : Literal) → ground_literal c l ≡ true → Lawful c (unit l)
unit_lawful c l h = record { some = omega arith; few = omega arith; each = (ground_lawful c l ((ground_decides c l).0 h), tt) }

pub units_lawful : (c : Counts) (ls : List Literal) → AllByRecursion (Lawful c) (units c ls)
units_lawful c ls =
    All-map (Lawful c) unit (filter (ground_literal c) ls) (All-weaker (λ l. ground_literal c l ≡ true) (λ l. Lawful c (unit l)) (unit_lawful c) (filter (ground_literal c) ls) (kept_by_passes (ground_literal c) ls))

pub with_lawful : {B : Type 0} (counts : B → Counts) (clauses : B → List (List Literal)) → ((b : B) → AllByRecursion (Lawful (counts b)) (clauses b)) → (s : Supposition B) → AllByRecursion (Lawful (counts_with counts s)) (clauses_with counts clauses s)
with_lawful counts clauses h s =
    laid_lawful (counts s.below) (clauses s.below) (units (counts s.below) (own_of s)) (h s.below) (units_lawful (counts s.below) (own_of s))

pub with_few : {B : Type 0} (counts : B → Counts) (clauses : B → List (List Literal)) → ((b : B) → length (clauses b) ≤ 65535) → (s : Supposition B) → length (clauses_with counts clauses s) ≤ 65535
with_few counts clauses h s = laid_few (clauses s.below) (units (counts s.below) (own_of s)) (h s.below)
