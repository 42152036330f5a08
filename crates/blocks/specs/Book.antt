-- What a block book means, and what reading a file does.
use Rattle.std.specs.Prelude.{◌≡◌, ℕ, ◌≤◌, ◌⊎◌, List, length, Ok, Err, Result}
use Rattle.std.proofs.Common.{arith}
use Rattle.syntax.specs.declared.types.Literal.{Literal}
use Rattle.syntax.specs.declared.types.Refusal.{Refusal}
use Rattle.syntax.specs.declared.types.Refusal.TheVariants.{FileLength, BlockCheck, BlockLayout}
use Rattle.syntax.specs.declared.counts.Counts.{Counts}
use Rattle.blocks.specs.declared.book.BlockBook.{BlockBook}
use Rattle.blocks.specs.Reading.{clauses_at}
use Rattle.blocks.specs.Layout.{IsFile, LengthRight, ChecksRight, LayoutRight, FirstWrong, AllRight, Right, block_count}

-- the counts and the clauses that a block book means: by its type its bytes are their file
abbrev pub counts_of : BlockBook → Counts
counts_of b = b.counts

abbrev pub clauses_of : BlockBook → List (List Literal)
clauses_of b = clauses_at b.len b.bytes.now

pub block_few : (b : BlockBook) → length (clauses_of b) ≤ 65535
block_few b = omega (arith, b.file.few)

-- why bytes are refused, topmost first: their length (11), else the first block whose check is wrong (12), else the first block
-- whose layout is wrong (13)
abbrev pub Refused : List ℕ → Refusal → Type 0
Refused bytes e =
    ((e ≡ FileLength) × (LengthRight bytes → ⊥)) ⊎
    (((b : ℕ) × (e ≡ BlockCheck b) × LengthRight bytes × FirstWrong (ChecksRight bytes) (block_count bytes) b) ⊎
    ((b : ℕ) × (e ≡ BlockLayout b) × LengthRight bytes × AllRight (ChecksRight bytes) (block_count bytes) × FirstWrong (LayoutRight bytes) (block_count bytes) b))

-- reading: accepted exactly when the bytes are the file of some counts and clauses, and the book then lends these bytes and means
-- these counts and these clauses; else refused
abbrev pub Read : List ℕ → Result BlockBook Refusal → Type 0
Read bytes (Ok b) = (b.bytes.now ≡ bytes) × IsFile bytes (counts_of b) (clauses_of b)
Read bytes (Err e) = Refused bytes e × ((c : Counts) (cls : List (List Literal)) → IsFile bytes c cls → ⊥)

-- the theorem of the format: bytes with no wrong check and no wrong layout are the file of some counts and clauses, and of no
-- others; and a file has no wrong check and no wrong layout
pub record Exact (bytes : List ℕ) : Type 0 where
  pub file : Right bytes → (c : Counts) × (cls : List (List Literal)) × IsFile bytes c cls
  pub right : (c : Counts) (cls : List (List Literal)) → IsFile bytes c cls → Right bytes
  pub one : (c d : Counts) (cls own : List (List Literal)) → IsFile bytes c cls → IsFile bytes d own → (c ≡ d) × (cls ≡ own)
