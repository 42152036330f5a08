-- The format by its places: how long its parts are, and what stands where.
use Rattle.std.proofs.Common.{◌≡◌, ℕ, zero, suc, ◌+◌, ◌-◌, ◌*◌, ◌%◌, ◌<◌, ◌≤◌, min, List, [], ◌++◌, length, get_or, take, drop, replicate, sum, sym, refl, ap, ◌∙◌, ap₂, arith}
use Rattle.std.specs.List.{range_with_len, flat_map, AllByRecursion}
use Rattle.std.proofs.lemmas.List.{append-nil, length-append, length-replicate, length-take, length-drop, take_at, drop_at, drop-drop, take-append-drop, get_or-take, get_or-drop}
use Rattle.std.proofs.ByRecursion.{All-take, All-drop, All-weaker}
use Rattle.std.proofs.lemmas.List.FromFn.{length-range_with_len, get_or-range_with_len}
use Rattle.syntax.specs.declared.types.Atom.{Atom}
use Rattle.syntax.specs.declared.types.Atom.TheVariants.{Same, Prop, Rel}
use Rattle.syntax.specs.declared.types.Literal.{Literal}
use Rattle.syntax.specs.declared.counts.Counts.{Counts}
use Rattle.syntax.specs.Lawful.{Lawful}
use Rattle.syntax.specs.Codes.{atom_code, literal_code}
use Rattle.blocks.specs.Format.{padded, two_bytes, clause_bytes, front, head_front, clauses_front, checked, blocks_for, share, block_of, file_of}
use Rattle.blocks.specs.Reading.{part}
use Rattle.blocks.specs.Layout.{CheckRight, block_at, due}
use Rattle.blocks.proofs.Pieces.{piece, joined_length, all_of}

-- a literal has five bytes
atom_length : (a : Atom) → length (atom_code a) ≡ 4
atom_length (Same t u) = refl
atom_length (Prop p t) = refl
atom_length (Rel r t u) = refl

pub literal_length : (l : Literal) → length (literal_code l) ≡ 5
literal_length l = ap suc (atom_length l.atom)

pub fives : (cl : List Literal) → AllByRecursion (λ l. length (literal_code l) ≡ 5) cl
fives cl = all_of (λ l. length (literal_code l) ≡ 5) literal_length cl

-- padding
pub padded_length : (n : ℕ) (xs : List ℕ) → length xs ≤ n → length (padded n xs) ≡ n
unfolding padded
padded_length n xs h = simp (length-append, length-replicate) (omega arith)

pub padded_take : (n m : ℕ) (xs : List ℕ) → length xs ≡ m → take m (padded n xs) ≡ xs
unfolding padded
padded_take n m xs h = take_at xs (replicate (n - length xs) 0) m h

pub padded_drop : (n m : ℕ) (xs : List ℕ) → length xs ≡ m → drop m (padded n xs) ≡ replicate (n - m) 0
unfolding padded
padded_drop n m xs h = drop_at xs (replicate (n - length xs) 0) m h ∙ ap (λ k. replicate (n - k) 0) h

pub padded_from : (n m : ℕ) (xs ys : List ℕ) → length xs ≡ m → take m ys ≡ xs → drop m ys ≡ replicate (n - m) 0 → ys ≡ padded n xs
unfolding padded
padded_from n m xs ys h e f =
    sym (take-append-drop m ys) ∙ ap₂ ◌++◌ e (f ∙ ap (λ k. replicate (n - k) 0) (sym h))

-- a clause has 42 bytes, and literal j stands at 2 + 5 j
pub clause_length : (cl : List Literal) → length cl ≤ 8 → length (clause_bytes cl) ≡ 42
unfolding clause_bytes
clause_length cl h =
    let e = joined_length literal_code 5 cl (fives cl) in
    ap (λ n. suc (suc n)) (padded_length 40 (flat_map literal_code cl) (omega arith))

pub literal_place : (cl : List Literal) (j : ℕ) (d : Literal) → j < length cl → part (2 + 5 * j) 5 (clause_bytes cl) ≡ literal_code (get_or cl j d)
unfolding clause_bytes padded
literal_place cl j d h =
    ap (take 5) (sym (drop-drop (5 * j) 2 (clause_bytes cl))) ∙
    piece literal_code 5 cl (replicate (40 - length (flat_map literal_code cl)) 0) j d (fives cl) h

pub fortytwos : (c : Counts) (cls : List (List Literal)) → AllByRecursion (Lawful c) cls → AllByRecursion (λ cl. length (clause_bytes cl) ≡ 42) cls
fortytwos c cls a = All-weaker (Lawful c) (λ cl. length (clause_bytes cl) ≡ 42) (λ cl l. clause_length cl l.few) cls a

-- bytes 0 to 509 of a block
pub front_length : (kind count : ℕ) (xs : List ℕ) → length xs ≤ 506 → length (front kind count xs) ≡ 510
unfolding front
front_length kind count xs h = ap (λ n. suc (suc (suc (suc n)))) (padded_length 506 xs h)

pub head_length : (c : Counts) (n : ℕ) → length (head_front c n) ≡ 510
unfolding head_front
head_length c n = front_length 0 0 _ (omega arith)

pub clauses_length : (c : Counts) (cls : List (List Literal)) → AllByRecursion (Lawful c) cls → length cls ≤ 12 → length (clauses_front cls) ≡ 510
unfolding clauses_front
clauses_length c cls a h =
    let e = joined_length clause_bytes 42 cls (fortytwos c cls a) in
    front_length 1 (length cls) (flat_map clause_bytes cls) (omega arith)

pub clause_place : (c : Counts) (cls : List (List Literal)) (k : ℕ) → AllByRecursion (Lawful c) cls → k < length cls → part (4 + 42 * k) 42 (clauses_front cls) ≡ clause_bytes (get_or cls k [])
unfolding clauses_front front padded
clause_place c cls k a h =
    ap (take 42) (sym (drop-drop (42 * k) 4 (clauses_front cls))) ∙
    piece clause_bytes 42 cls (replicate (506 - length (flat_map clause_bytes cls)) 0) k [] (fortytwos c cls a) h

-- the check
pub checked_length : (f : List ℕ) → length f ≡ 510 → length (checked f) ≡ 512
unfolding checked
checked_length f h = simp length-append (omega arith)

pub checked_take : (f : List ℕ) → length f ≡ 510 → take 510 (checked f) ≡ f
unfolding checked
checked_take f h = take_at f (two_bytes (sum f % 65536)) 510 h

pub checked_right : (f : List ℕ) → length f ≡ 510 → CheckRight (checked f)
unfolding checked
checked_right f h =
    drop_at f (two_bytes (sum f % 65536)) 510 h ∙ ap (λ g. two_bytes (sum g % 65536)) (sym (checked_take f h))

pub checked_from : (block f : List ℕ) → CheckRight block → take 510 block ≡ f → block ≡ checked f
unfolding checked
checked_from block f r e =
    sym (take-append-drop 510 block) ∙ ap₂ ◌++◌ e (r ∙ ap (λ g. two_bytes (sum g % 65536)) e)

-- the clauses of a clause block
pub share_lawful : (c : Counts) (cls : List (List Literal)) (b : ℕ) → AllByRecursion (Lawful c) cls → AllByRecursion (Lawful c) (share b cls)
share_lawful c cls b a = All-take (Lawful c) 12 (drop (12 * b) cls) (All-drop (Lawful c) (12 * b) cls a)

pub share_count : (cls : List (List Literal)) (b : ℕ) → length (share b cls) ≡ due (length cls) b
share_count cls b = length-take 12 (drop (12 * b) cls) ∙ ap (min 12) (length-drop (12 * b) cls)

pub share_few : (cls : List (List Literal)) (b : ℕ) → length (share b cls) ≤ 12
share_few cls b = omega (arith, share_count cls b)

pub share_at : (cls : List (List Literal)) (b k : ℕ) → k < 12 → get_or (share b cls) k [] ≡ get_or cls (12 * b + k) []
share_at cls b k h = get_or-take 12 (drop (12 * b) cls) k [] h ∙ get_or-drop (12 * b) cls k []

-- a block has 512 bytes, and block b of a file is the one written there
pub block_length : (c : Counts) (cls : List (List Literal)) → AllByRecursion (Lawful c) cls → (b : ℕ) → length (block_of c cls b) ≡ 512
unfolding block_of
block_length c cls a zero = checked_length (head_front c (length cls)) (head_length c (length cls))
block_length c cls a (suc b) =
    checked_length (clauses_front (share b cls)) (clauses_length c (share b cls) (share_lawful c cls b a) (share_few cls b))

abbrev blocks : ℕ → List ℕ
blocks n = range_with_len 0 (1 + blocks_for n)

sized : (c : Counts) (cls : List (List Literal)) → AllByRecursion (Lawful c) cls → AllByRecursion (λ b. length (block_of c cls b) ≡ 512) (blocks (length cls))
sized c cls a = all_of (λ b. length (block_of c cls b) ≡ 512) (block_length c cls a) (blocks (length cls))

pub file_length : (c : Counts) (cls : List (List Literal)) → AllByRecursion (Lawful c) cls → length (file_of c cls) ≡ 512 * (1 + blocks_for (length cls))
unfolding file_of
file_length c cls a =
    joined_length (block_of c cls) 512 (blocks (length cls)) (sized c cls a) ∙ ap (λ n. 512 * n) (length-range_with_len 0 (1 + blocks_for (length cls)))

pub file_block : (c : Counts) (cls : List (List Literal)) → AllByRecursion (Lawful c) cls → (b : ℕ) → b < 1 + blocks_for (length cls) → block_at (file_of c cls) b ≡ block_of c cls b
unfolding file_of
file_block c cls a b h =
    let n = 1 + blocks_for (length cls) in
    let within : b < length (blocks (length cls)) = omega (arith, length-range_with_len 0 n) in
    ap (λ ys. part (512 * b) 512 ys) (sym (append-nil (file_of c cls))) ∙
    piece (block_of c cls) 512 (blocks (length cls)) [] b 0 (sized c cls a) within ∙
    ap (block_of c cls) (get_or-range_with_len 0 n b 0 h ∙ omega arith)
