-- No table of this crate holds more standing atoms than its capacity.
use Rattle.std.specs.Prelude.{◌≡◌, ℕ, ◌≤◌, List, [], ◌∷◌, length, take}
use Rattle.std.proofs.Common.{arith}
use Rattle.std.proofs.lemmas.List.{length-take-le}
use Rattle.std.proofs.lemmas.List.FromFn.{length-map-range_with_len}
use Rattle.syntax.specs.declared.types.Mark.{Mark}
use Rattle.syntax.specs.declared.types.Mark.TheVariants.{Open, Yes, No}
use Rattle.syntax.specs.declared.types.SignedAtom.{SignedAtom}
use Rattle.tables.specs.Marks.{stands, standing}
use Rattle.tables.specs.Packed.{mark_at, packed_marks, packed_reach}
use Rattle.tables.specs.Listed.{listed, Each}

pub stands_le : (m : Mark) → stands m ≤ 1
stands_le Open = omega arith
stands_le Yes = omega arith
stands_le No = omega arith

pub standing_le : (ms : List Mark) → standing ms ≤ length ms
standing_le [] = omega arith
standing_le (m ∷ ms) = omega (arith, stands_le m, standing_le ms)

pub packed_length : (bs : List ℕ) → length (packed_marks bs) ≡ packed_reach bs
unfolding packed_marks
packed_length bs = length-map-range_with_len (mark_at bs) 0 (packed_reach bs)

pub packed_within : (bs : List ℕ) → standing (packed_marks bs) ≤ packed_reach bs
packed_within bs = omega (arith, standing_le (packed_marks bs), packed_length bs)

pub listed_within : (rows : List SignedAtom) (len : ℕ) → len ≤ length rows → Each (take len rows) → standing (listed (take len rows)) ≤ length rows
listed_within rows len h each = omega (arith, length-take-le len rows h)
