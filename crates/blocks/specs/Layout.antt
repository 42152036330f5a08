-- When the bytes of a file are right, block by block.
use Rattle.std.specs.Prelude.{◌≡◌, ℕ, zero, suc, ◌+◌, ◌-◌, ◌*◌, ◌/◌, ◌%◌, ◌<◌, ◌≤◌, min, List, length, take, drop, sum}
use Rattle.std.specs.List.{AllByRecursion}
use Rattle.syntax.specs.declared.types.Literal.{Literal}
use Rattle.syntax.specs.declared.counts.Counts.{Counts}
use Rattle.syntax.specs.Lawful.{Lawful}
use Rattle.blocks.specs.Format.{two_bytes, head_front, clauses_front, blocks_for, file_of}
use Rattle.blocks.specs.Reading.{part}

-- the bytes are the file of these counts and these clauses, of which there are at most 256, all lawful
pub record IsFile (bytes : List ℕ) (c : Counts) (cls : List (List Literal)) : Type 0 where
  pub written : bytes ≡ file_of c cls
  pub few : length cls ≤ 256
  pub lawful : AllByRecursion (Lawful c) cls

-- the length: one block or more, and nothing over
abbrev pub LengthRight : List ℕ → Type 0
LengthRight bytes = (0 < length bytes) × (length bytes % 512 ≡ 0)

-- block b, and how many blocks there are
abbrev pub block_at : List ℕ → ℕ → List ℕ
block_at bytes b = part (512 * b) 512 bytes

abbrev pub block_count : List ℕ → ℕ
block_count bytes = length bytes / 512

-- the check of a block: bytes 510 and 511 are the sum of bytes 0 to 509 modulo 65,536, low byte first
abbrev pub CheckRight : List ℕ → Type 0
CheckRight block = drop 510 block ≡ two_bytes (sum (take 510 block) % 65536)

abbrev pub ChecksRight : List ℕ → ℕ → Type 0
ChecksRight bytes b = CheckRight (block_at bytes b)

-- block 0 is a head with these counts and this number of clauses, and the number of blocks fits
pub record HeadIs (bytes : List ℕ) (c : Counts) (n : ℕ) : Type 0 where
  pub few : n ≤ 256
  pub fits : block_count bytes ≡ 1 + blocks_for n
  pub says : take 510 (block_at bytes 0) ≡ head_front c n

-- of n clauses, clause block b has 12 or, as the last, those that are left
abbrev pub due : ℕ → ℕ → ℕ
due n b = min 12 (n - 12 * b)

-- the block is a clause block with m clauses, all lawful
pub record Clauses (c : Counts) (m : ℕ) (block : List ℕ) : Type 0 where
  pub clauses : List (List Literal)
  pub count : length clauses ≡ m
  pub lawful : AllByRecursion (Lawful c) clauses
  pub says : take 510 block ≡ clauses_front clauses

-- the layout of block b is right: block 0 is a head, each other block has the clauses that are due there by the head
abbrev pub LayoutRight : List ℕ → ℕ → Type 0
LayoutRight bytes zero = (c : Counts) × (n : ℕ) × HeadIs bytes c n
LayoutRight bytes (suc b) = (c : Counts) × (n : ℕ) × HeadIs bytes c n × Clauses c (due n b) (block_at bytes (suc b))

-- b is the first number below n without the property
abbrev pub FirstWrong : (ℕ → Type 0) → ℕ → ℕ → Type 0
FirstWrong P n b = (b < n) × (P b → ⊥) × ((k : ℕ) → k < b → P k)

-- all numbers below n have it
abbrev pub AllRight : (ℕ → Type 0) → ℕ → Type 0
AllRight P n = (k : ℕ) → k < n → P k

-- every check and every layout is right
pub record Right (bytes : List ℕ) : Type 0 where
  pub sized : LengthRight bytes
  pub checks : AllRight (ChecksRight bytes) (block_count bytes)
  pub layouts : AllRight (LayoutRight bytes) (block_count bytes)
