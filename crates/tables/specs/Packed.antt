-- Four marks in a byte.
use Rattle.std.specs.Prelude.{ℕ, ◌*◌, ◌/◌, ◌%◌, ◌^◌, min, cond, List, ◌++◌, map, length, drop, replicate, ◌==◌, slice_index}
use Rattle.std.specs.List.{range_with_len}
use Rattle.syntax.specs.declared.types.Mark.{Mark}
use Rattle.syntax.specs.declared.types.Mark.TheVariants.{Open, Yes, No}

-- the mark that a digit from 0 to 3 says
abbrev pub meant : ℕ → Mark
meant d = cond (d == 0) Open (cond (d == 1) Yes No)

-- the digit of a byte at a place from 0 to 3, the lowest first
abbrev pub digit : ℕ → ℕ → ℕ
digit b j = b / 4 ^ j % 4

-- the mark of an atom
abbrev pub mark_at : List ℕ → ℕ → Mark
mark_at bs k = meant (digit (slice_index bs (k / 4)) (k % 4))

-- how many atoms the bytes reach: four to a byte, and no more than 2,560 bytes count
abbrev pub packed_reach : List ℕ → ℕ
packed_reach bs = 4 * min (length bs) 2560

-- the marks of the atoms below the reach, in order
unfoldable pub packed_marks : List ℕ → List Mark
packed_marks bs = map (mark_at bs) (range_with_len 0 (packed_reach bs))

-- the bytes that no table touches
unfoldable pub beyond : List ℕ → List ℕ
beyond bs = drop 2560 bs

-- the bytes with a 0 in each of the first n
abbrev pub zeroed : ℕ → List ℕ → List ℕ
zeroed n bs = replicate n 0 ++ drop n bs

-- the bytes as a new table has them
abbrev pub wiped : List ℕ → List ℕ
wiped bs = zeroed (min (length bs) 2560) bs
