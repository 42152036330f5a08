-- What a book's calls answer of its list of clauses.
use Rattle.std.specs.Prelude.{ℕ, List, [], map, length, Option, slice_index_or}
use Rattle.std.specs.List.{slice_get}
use Rattle.syntax.specs.declared.types.Literal.{Literal}

-- how many literals clause i has; nothing beyond the list
abbrev pub size_at_index : List (List Literal) → ℕ → Option ℕ
size_at_index cs i = slice_get (map length cs) i

-- literal j of clause i; nothing beyond the list or beyond the clause
abbrev pub literal_at : List (List Literal) → ℕ → ℕ → Option Literal
literal_at cs i j = slice_get (slice_index_or cs i []) j
