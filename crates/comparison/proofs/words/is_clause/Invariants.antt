use Rattle.std.proofs.Common.{◌≡◌, ℕ, ◌<◌, [], get_or}
use Rattle.std.specs.List.{slice_get}
use Rattle.comparison.proofs.words.is_clause.Given as goal

-- the two clauses agree at the places before j
abbrev pub invariant-loop-j : goal.invariant-loop-j
invariant-loop-j g l =
    (n : ℕ) → n < l.j → slice_get (get_or (g.F.Book.clauses l.one) l.k []) n ≡ slice_get (get_or (g.S.Book.clauses l.other) l.i []) n
