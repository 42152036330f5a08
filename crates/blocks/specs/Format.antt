-- The block file, said once: `file_of` gives the bytes of counts and a list of clauses.
use Rattle.std.specs.Prelude.{ℕ, zero, suc, ◌+◌, ◌-◌, ◌*◌, ◌/◌, ◌%◌, List, [], ◌∷◌, ◌++◌, length, take, drop, replicate, sum}
use Rattle.std.specs.List.{range_with_len, flat_map}
use Rattle.syntax.specs.declared.types.Literal.{Literal}
use Rattle.syntax.specs.declared.counts.Counts.{Counts}
use Rattle.syntax.specs.Codes.{literal_code}

-- bytes, and then zeros up to n in all
unfoldable pub padded : ℕ → List ℕ → List ℕ
padded n bytes = bytes ++ replicate (n - length bytes) 0

-- a number in two bytes, low byte first
abbrev pub two_bytes : ℕ → List ℕ
two_bytes n = n % 256 ∷ n / 256 ∷ []

-- a clause takes 42 bytes: its literal count, a zero, eight places of five bytes
unfoldable pub clause_bytes : List Literal → List ℕ
clause_bytes cl = length cl ∷ 0 ∷ padded 40 (flat_map literal_code cl)

-- bytes 0 to 509 of a block: the letters K and B, a kind, a count, 506 bytes
unfoldable pub front : ℕ → ℕ → List ℕ → List ℕ
front kind count contents = 75 ∷ 66 ∷ kind ∷ count ∷ padded 506 contents

-- the contents of the head: the counts and the number of clauses
abbrev pub head_contents : Counts → ℕ → List ℕ
head_contents c n = c.names ∷ c.properties ∷ c.relations ∷ two_bytes n

unfoldable pub head_front : Counts → ℕ → List ℕ
head_front c n = front 0 0 (head_contents c n)

-- those of a clause block: its clauses one after the other
unfoldable pub clauses_front : List (List Literal) → List ℕ
clauses_front cls = front 1 (length cls) (flat_map clause_bytes cls)

-- a block: bytes 0 to 509, and their sum modulo 65,536 as the check
unfoldable pub checked : List ℕ → List ℕ
checked bytes = bytes ++ two_bytes (sum bytes % 65536)

-- n clauses take this many clause blocks
abbrev pub blocks_for : ℕ → ℕ
blocks_for n = (n + 11) / 12

-- the clauses of clause block b: the 12 from 12 b on, or those that are left
abbrev pub share : ℕ → List (List Literal) → List (List Literal)
share b cls = take 12 (drop (12 * b) cls)

-- the blocks in order: the head, then the clause blocks
unfoldable pub block_of : Counts → List (List Literal) → ℕ → List ℕ
block_of c cls zero = checked (head_front c (length cls))
block_of c cls (suc b) = checked (clauses_front (share b cls))

-- a file is the head and its clause blocks
unfoldable pub file_of : Counts → List (List Literal) → List ℕ
file_of c cls = flat_map (block_of c cls) (range_with_len 0 (1 + blocks_for (length cls)))
