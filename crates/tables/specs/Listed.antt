-- The marks that a list of rows says.
use Rattle.std.specs.Prelude.{◌≡◌, ℕ, ◌<◌, ◌≤◌, List, [], ◌∷◌, length, replicate, Some, None, Ok, Err, Option, Result, slice_index_or, slice_set}
use Rattle.syntax.specs.declared.types.Mark.{Mark}
use Rattle.syntax.specs.declared.types.Mark.TheVariants.{Open}
use Rattle.syntax.specs.declared.types.Refusal.{Refusal}
use Rattle.syntax.specs.declared.types.Refusal.TheVariants.{BeyondReach}
use Rattle.syntax.specs.declared.types.SignedAtom.{SignedAtom}
use Rattle.tables.specs.Marks.{signed, standing}

-- every atom open
unfoldable pub all_open : List Mark
all_open = replicate 10240 Open

-- every atom open but those of the rows, which have their row's sign
abbrev pub listed : List SignedAtom → List Mark
listed [] = all_open
listed (r ∷ rs) = slice_set (listed rs) r.atom (signed r.sign)

-- as many atoms stand as there are rows: so no atom has two rows, and each is below the reach
abbrev pub Each : List SignedAtom → Type 0
Each rs = standing (listed rs) ≡ length rs

-- the place of an atom's row; none where the atom is open; refused at or above the reach
abbrev pub Sought : List SignedAtom → ℕ → Result (Option ℕ) Refusal → Type 0
Sought rs atom (Ok (Some i)) =
    (atom < length (listed rs)) × (i < length rs)
    × ((d : SignedAtom) → ((slice_index_or rs i d).atom ≡ atom) × (slice_index_or (listed rs) atom Open ≡ signed (slice_index_or rs i d).sign))
Sought rs atom (Ok None) = (atom < length (listed rs)) × (slice_index_or (listed rs) atom Open ≡ Open)
Sought rs atom (Err e) = (length (listed rs) ≤ atom) × (e ≡ BeyondReach)
