-- What the functions on parts of a file answer.
use Rattle.std.specs.Prelude.{◌≡◌, ℕ, ◌<◌, ◌≤◌, List, [], length, Some, None, Option, slice_index, slice_index_or}
use Rattle.std.specs.List.{flat_map, AllByRecursion}
use Rattle.syntax.specs.declared.types.Literal.{Literal}
use Rattle.syntax.specs.declared.counts.Counts.{Counts}
use Rattle.syntax.specs.Lawful.{Lawful}
use Rattle.blocks.specs.Format.{padded, clause_bytes, head_contents}
use Rattle.blocks.specs.Layout.{FirstWrong, AllRight}

-- the bytes are those of some list of such elements
abbrev pub Made : {X : Type 0} → (X → List ℕ) → (X → Type 0) → List ℕ → Type 0
Made {X} f P bytes = (xs : List X) × AllByRecursion P xs × (bytes ≡ flat_map f xs)

-- the bytes are those of one such element
abbrev pub MadeOne : {X : Type 0} → (X → List ℕ) → (X → Type 0) → List ℕ → Type 0
MadeOne {X} f P bytes = (x : X) × P x × (bytes ≡ f x)

-- the 506 bytes are the contents of a head with these counts and this number of clauses
abbrev pub HeadBody : List ℕ → Counts → ℕ → Type 0
HeadBody body c n = (n ≤ 256) × (body ≡ padded 506 (head_contents c n))

-- a search for the first number below n without the property
abbrev pub Searched : (ℕ → Type 0) → ℕ → Option ℕ → Type 0
Searched P n (Some b) = FirstWrong P n b
Searched P n None = AllRight P n

-- the bytes are those of clause i, which is lawful
pub record ClauseAt (c : Counts) (cls : List (List Literal)) (i : ℕ) (bytes : List ℕ) : Type 0 where
  pub there : i < length cls
  pub lawful : Lawful c (slice_index_or cls i [])
  pub is : bytes ≡ clause_bytes (slice_index_or cls i [])
  pub first : slice_index bytes 0 ≡ length (slice_index_or cls i [])
  pub long : length bytes ≡ 42
