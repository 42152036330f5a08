-- The names that variables may stand for once some of them are bound.
use Rattle.std.specs.Prelude.{ℕ, ◌+◌, ◌<◌, ◌≤◌, List, map, slice_index}
use Rattle.std.specs.List.{AllByRecursion}
use Rattle.syntax.specs.declared.counts.Counts.{Counts}
use Rattle.instances.specs.declared.ranges.Ranges.{Ranges}
use Rattle.tableau.specs.declared.types.Span.{Span}

-- at least one name, and each below N
pub record InSpan (c : Counts) (s : Span) : Type 0 where
  pub some : 1 ≤ s.count
  pub most : s.first + s.count ≤ c.names

-- of each of the four variables
abbrev pub InSpans : Counts → List Span → Type 0
InSpans c s = AllByRecursion (InSpan c) s

-- ranges that do not pass the spans
abbrev pub Runs : List Span → Ranges → Type 0
Runs s r = (v : ℕ) → v < 4 → slice_index r.most v ≤ slice_index (map (λ (x : Span). x.count) s) v
