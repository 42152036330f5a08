-- A file by its blocks and places: what is written is read, and right blocks make a file.
use Rattle.std.proofs.Common.{◌≡◌, ℕ, zero, suc, ◌+◌, ◌-◌, ◌*◌, ◌/◌, ◌%◌, ◌<◌, ◌≤◌, Bool, true, false, eqb, List, [], length, get_or, take, sym, refl, ap, ◌∙◌, subst, ap₂, add-one, arith}
use Rattle.std.specs.List.{range_with_len, flat_map, AllByRecursion}
use Rattle.std.proofs.lemmas.List.{take_all, ext_get_or}
use Rattle.std.proofs.ByRecursion.{All-get_or, All-from_get_or}
use Rattle.std.proofs.lemmas.List.FromFn.{length-range_with_len, get_or-range_with_len, length-map-range_with_len, get_or-map-range_with_len, fill_by_all}
use Rattle.std.proofs.lemmas.Bool.Decides.{nat_tests}
use Rattle.syntax.specs.declared.types.Term.{Term}
use Rattle.syntax.specs.declared.types.Term.TheVariants.{Name, Var}
use Rattle.syntax.specs.declared.types.Atom.{Atom}
use Rattle.syntax.specs.declared.types.Atom.TheVariants.{Same, Prop, Rel}
use Rattle.syntax.specs.declared.types.Literal.{Literal}
use Rattle.syntax.specs.declared.counts.Counts.{Counts}
use Rattle.syntax.specs.Lawful.{Lawful, LawfulTerm, LawfulLiteral, AtomBy}
use Rattle.syntax.specs.Codes.{term_code, atom_code, sign_code, literal_code}
use Rattle.blocks.specs.Format.{clause_bytes, head_front, clauses_front, checked, blocks_for, share, block_of, file_of}
use Rattle.blocks.specs.Reading.{part, term_from, atom_from, literal_from, clause_in, clauses_at, place_of}
use Rattle.blocks.specs.Layout.{IsFile, LengthRight, HeadIs, Clauses, ChecksRight, CheckRight, LayoutRight, AllRight, FirstWrong, Right, block_at, block_count, due}
use Rattle.blocks.specs.Book.{Exact}
use Rattle.blocks.proofs.Pieces.{gather, part_part, part_front}
use Rattle.blocks.proofs.Written.{literal_place, clause_place, head_length, clauses_length, checked_take, checked_right, checked_from, share_lawful, share_count, share_few, share_at, file_length, file_block}
use Rattle.blocks.proofs.Leaves.{blank}
use Rattle.blocks.proofs.Heads.{head_same}

-- what was written of a literal and of a clause is read
term_back : (c : Counts) (t : Term) → LawfulTerm c t → term_from (term_code t) ≡ t
term_back c (Name a) h = let k = c.few in grind (arith, nat_tests)
term_back c (Var v) h = let e : v + 32 - 32 ≡ v = omega arith in grind (arith, nat_tests)

abbrev atom_in_bytes : List ℕ → Atom
atom_in_bytes xs = atom_from (get_or xs 0 0) (get_or xs 1 0) (get_or xs 2 0) (get_or xs 3 0)

atom_back : (c : Counts) (a : Atom) → AtomBy c (LawfulTerm c) a → atom_in_bytes (atom_code a) ≡ a
atom_back c (Same t u) h = ap₂ Same (term_back c t h.0) (term_back c u h.1)
atom_back c (Prop p t) h = ap (Prop p) (term_back c t h.1)
atom_back c (Rel r t u) h = ap₂ (Rel r) (term_back c t h.1.0) (term_back c u h.1.1)

sign_back : (s : Bool) → eqb (sign_code s) 1 ≡ s
sign_back true = refl
sign_back false = refl

pub from_code : (c : Counts) (l : Literal) → LawfulLiteral c l → literal_from (literal_code l) ≡ l
unfolding literal_from
from_code c l h =
    ap₂ (λ (s : Bool) (a : Atom). record { sign = s; atom = a }) (sign_back l.sign) (atom_back c l.atom h)

-- the bytes of a lawful literal are read as it
pub literal_back : (c : Counts) (l : Literal) (bytes : List ℕ) → LawfulLiteral c l → literal_code l ≡ bytes → literal_from bytes ≡ l
literal_back c l bytes h e = ap literal_from (sym e) ∙ from_code c l h

pub clause_back : (c : Counts) (cl : List Literal) → Lawful c cl → clause_in (clause_bytes cl) ≡ cl
unfolding clause_in clause_bytes
clause_back c cl h =
    sym (fill_by_all (λ (j : ℕ). literal_from (part (2 + 5 * j) 5 (clause_bytes cl))) cl (length cl) blank refl (λ k i. sym (literal_back c (get_or cl k blank) (part (2 + 5 * k) 5 (clause_bytes cl)) (All-get_or (LawfulLiteral c) cl k blank i h.each) (sym (literal_place cl k blank i)))))

-- clause k of a clause block, and clause 12 b + k of a file
pub block_place : (c : Counts) (cls : List (List Literal)) (block : List ℕ) (k : ℕ) → AllByRecursion (Lawful c) cls → take 510 block ≡ clauses_front cls → k < length cls → k < 12 → part (4 + 42 * k) 42 block ≡ clause_bytes (get_or cls k [])
block_place c cls block k a s h f =
    sym (part_front (4 + 42 * k) 42 510 block (omega arith)) ∙ ap (part (4 + 42 * k) 42) s ∙ clause_place c cls k a h

bytes_place : (bytes : List ℕ) (b k : ℕ) → k < 12 → part (place_of (12 * b + k)) 42 bytes ≡ part (4 + 42 * k) 42 (block_at bytes (suc b))
bytes_place bytes b k h =
    let e : place_of (12 * b + k) ≡ 512 * suc b + (4 + 42 * k) = omega arith in
    ap (λ (p : ℕ). part p 42 bytes) e ∙ sym (part_part (4 + 42 * k) 42 (512 * suc b) 512 bytes (omega arith))

-- the parts of a number of a clause
split : (i : ℕ) → i ≡ 12 * (i / 12) + i % 12
split i = omega arith

-- the places of a file
pub file_place : (c : Counts) (cls : List (List Literal)) (i : ℕ) → AllByRecursion (Lawful c) cls → i < length cls → part (place_of i) 42 (file_of c cls) ≡ clause_bytes (get_or cls i [])
unfolding block_of
file_place c cls i a h =
    let b = i / 12 in
    let k = i % 12 in
    let own = share b cls in
    let mine = share_lawful c cls b a in
    let within : k < length own = omega (arith, share_count cls b) in
    let block = ap (part (4 + 42 * k) 42) (file_block c cls a (suc b) (omega arith)) in
    let says = checked_take (clauses_front own) (clauses_length c own mine (share_few cls b)) in
    ap (λ (j : ℕ). part (place_of j) 42 (file_of c cls)) (split i) ∙ bytes_place (file_of c cls) b k (omega arith) ∙ block ∙
    block_place c own (checked (clauses_front own)) k mine says within (omega arith) ∙
    ap clause_bytes (share_at cls b k (omega arith) ∙ ap (λ (j : ℕ). get_or cls j []) (sym (split i)))

-- what was written of clauses is read
pub clauses_back : (c : Counts) (cls : List (List Literal)) → AllByRecursion (Lawful c) cls → clauses_at (length cls) (file_of c cls) ≡ cls
unfolding clauses_at
clauses_back c cls a =
    sym (fill_by_all (λ i. clause_in (part (place_of i) 42 (file_of c cls))) cls (length cls) [] refl (λ i h. sym (ap clause_in (file_place c cls i a h) ∙ clause_back c (get_or cls i []) (All-get_or (Lawful c) cls i [] h a))))

-- a file is right
abbrev file_count : List (List Literal) → ℕ
file_count cls = 1 + blocks_for (length cls)

pub count_is : (c : Counts) (cls : List (List Literal)) → AllByRecursion (Lawful c) cls → block_count (file_of c cls) ≡ file_count cls
count_is c cls a = omega (arith, file_length c cls a)

block_check : (c : Counts) (cls : List (List Literal)) → AllByRecursion (Lawful c) cls → (b : ℕ) → CheckRight (block_of c cls b)
unfolding block_of
block_check c cls a zero = checked_right (head_front c (length cls)) (head_length c (length cls))
block_check c cls a (suc b) =
    checked_right (clauses_front (share b cls)) (clauses_length c (share b cls) (share_lawful c cls b a) (share_few cls b))

pub file_head : (c : Counts) (cls : List (List Literal)) → AllByRecursion (Lawful c) cls → length cls ≤ 256 → HeadIs (file_of c cls) c (length cls)
unfolding block_of
file_head c cls a f = record {
  few = f;
  fits = count_is c cls a;
  says = ap (take 510) (file_block c cls a 0 (omega arith)) ∙ checked_take (head_front c (length cls)) (head_length c (length cls));
}

file_layout : (c : Counts) (cls : List (List Literal)) → AllByRecursion (Lawful c) cls → length cls ≤ 256 → (b : ℕ) → b < file_count cls → LayoutRight (file_of c cls) b
unfolding block_of
file_layout c cls a f zero h = (c, length cls, file_head c cls a f)
file_layout c cls a f (suc b) h =
    let own = share b cls in
    let mine = share_lawful c cls b a in
    (c, length cls, file_head c cls a f, record { clauses = own; count = share_count cls b; lawful = mine; says = ap (take 510) (file_block c cls a (suc b) h) ∙ checked_take (clauses_front own) (clauses_length c own mine (share_few cls b)) })

written_right : (c : Counts) (cls : List (List Literal)) → AllByRecursion (Lawful c) cls → length cls ≤ 256 → Right (file_of c cls)
written_right c cls a f =
    let n = file_length c cls a in
    let m = count_is c cls a in
    let P : List ℕ → Type 0 = λ xs. CheckRight xs in
    record {
      sized = (omega arith, omega arith);
      checks = λ b h. subst P (sym (file_block c cls a b (omega arith))) (block_check c cls a b);
      layouts = λ b h. file_layout c cls a f b (omega arith);
    }

pub file_right : (bytes : List ℕ) (c : Counts) (cls : List (List Literal)) → IsFile bytes c cls → Right bytes
file_right bytes c cls w =
    let P : List ℕ → Type 0 = λ xs. Right xs in
    subst P (sym w.written) (written_right c cls w.lawful w.few)

-- right blocks make a file
abbrev Blocks : List ℕ → Counts → ℕ → Type 0
Blocks bytes c n = (b : ℕ) → b < blocks_for n → Clauses c (due n b) (block_at bytes (suc b))

pub clauses_count : (n : ℕ) (bytes : List ℕ) → length (clauses_at n bytes) ≡ n
unfolding clauses_at
clauses_count n bytes = length-map-range_with_len (λ i. clause_in (part (place_of i) 42 bytes)) 0 n

read_clause : (n : ℕ) (bytes : List ℕ) (i : ℕ) → i < n → get_or (clauses_at n bytes) i [] ≡ clause_in (part (place_of i) 42 bytes)
unfolding clauses_at
read_clause n bytes i h = get_or-map-range_with_len (λ j. clause_in (part (place_of j) 42 bytes)) 0 n i i [] h (omega arith)

read_at : (bytes : List ℕ) (c : Counts) (n b k : ℕ) (w : Clauses c (due n b) (block_at bytes (suc b))) → b < blocks_for n → k < due n b → get_or (clauses_at n bytes) (12 * b + k) [] ≡ get_or w.clauses k []
read_at bytes c n b k w h i =
    let own = w.clauses in
    let within : k < length own = omega (arith, w.count) in
    read_clause n bytes (12 * b + k) (omega arith) ∙
    ap clause_in (bytes_place bytes b k (omega arith) ∙ block_place c own (block_at bytes (suc b)) k w.lawful w.says within (omega arith)) ∙
    clause_back c (get_or own k []) (All-get_or (Lawful c) own k [] within w.lawful)

share_is : (bytes : List ℕ) (c : Counts) (n b : ℕ) (w : Clauses c (due n b) (block_at bytes (suc b))) → b < blocks_for n → share b (clauses_at n bytes) ≡ w.clauses
share_is bytes c n b w h =
    let cls = clauses_at n bytes in
    let size : length (share b cls) ≡ due n b = share_count cls b ∙ ap (λ (m : ℕ). due m b) (clauses_count n bytes) in
    ext_get_or [] (share b cls) w.clauses (size ∙ sym w.count) (λ k i. share_at cls b k (omega arith) ∙ read_at bytes c n b k w h (omega arith))

block_is : (bytes : List ℕ) (c : Counts) (n : ℕ) → HeadIs bytes c n → AllRight (ChecksRight bytes) (block_count bytes) → Blocks bytes c n → (b : ℕ) → b < 1 + blocks_for n → block_at bytes b ≡ block_of c (clauses_at n bytes) b
unfolding block_of
block_is bytes c n head checks blocks zero h =
    checked_from (block_at bytes 0) (head_front c n) (checks 0 (omega (arith, head.fits))) head.says ∙
    ap (λ (m : ℕ). checked (head_front c m)) (sym (clauses_count n bytes))
block_is bytes c n head checks blocks (suc b) h =
    let w = blocks b (omega arith) in
    checked_from (block_at bytes (suc b)) (clauses_front w.clauses) (checks (suc b) (omega (arith, head.fits))) w.says ∙
    ap (λ own. checked (clauses_front own)) (sym (share_is bytes c n b w (omega arith)))

pub made_file : (bytes : List ℕ) (c : Counts) (n : ℕ) → LengthRight bytes → HeadIs bytes c n → AllRight (ChecksRight bytes) (block_count bytes) → Blocks bytes c n → IsFile bytes c (clauses_at n bytes)
unfolding file_of
made_file bytes c n size head checks blocks =
    let cls = clauses_at n bytes in
    let count = clauses_count n bytes in
    let m = 1 + blocks_for n in
    let long : length (range_with_len 0 m) ≡ m = length-range_with_len 0 m in
    let all : length bytes ≤ 512 * length (range_with_len 0 m) = omega (arith, head.fits, size.1) in
    let each = gather (block_of c cls) 512 (range_with_len 0 m) 0 bytes (λ b h. block_is bytes c n head checks blocks b (omega arith) ∙ ap (block_of c cls) (sym (get_or-range_with_len 0 m b 0 (omega arith) ∙ omega arith))) in
    record {
      written = sym (take_all (512 * length (range_with_len 0 m)) bytes all) ∙ each ∙ ap (λ (k : ℕ). flat_map (block_of c cls) (range_with_len 0 (1 + blocks_for k))) (sym count);
      few = omega (arith, head.few);
      lawful = All-from_get_or (Lawful c) cls [] (λ i h.
          let b = i / 12 in
          let k = i % 12 in
          let w = blocks b (omega arith) in
          let within : k < length w.clauses = omega (arith, w.count) in
          let P : List Literal → Type 0 = λ cl. Lawful c cl in
          let e : get_or w.clauses k [] ≡ get_or cls i [] = sym (read_at bytes c n b k w (omega arith) (omega (arith, w.count))) ∙ ap (λ (j : ℕ). get_or cls j []) (sym (split i)) in
          subst P e (All-get_or (Lawful c) w.clauses k [] within w.lawful));
    }

-- where the head is known, the layouts are those of the clause blocks
pub settled : (bytes : List ℕ) (c : Counts) (n b : ℕ) → HeadIs bytes c n → LayoutRight bytes (suc b) → Clauses c (due n b) (block_at bytes (suc b))
settled bytes c n b head l =
    let e = head_same bytes l.0 c l.1 n l.2 head in
    let P : Counts → Type 0 = λ d. Clauses d (due l.1 b) (block_at bytes (suc b)) in
    let Q : ℕ → Type 0 = λ m. Clauses c (due m b) (block_at bytes (suc b)) in
    subst Q e.1 (subst P e.0 l.3)

pub right_file : (bytes : List ℕ) → Right bytes → (c : Counts) × (cls : List (List Literal)) × IsFile bytes c cls
right_file bytes r =
    let l = r.layouts 0 (omega (arith, r.sized)) in
    let head = l.2 in
    (l.0, clauses_at l.1 bytes, made_file bytes l.0 l.1 r.sized head r.checks (λ b h. settled bytes l.0 l.1 b head (r.layouts (suc b) (omega (arith, head.fits)))))

-- a file is that of one list only
pub one_file : (bytes : List ℕ) (c d : Counts) (cls own : List (List Literal)) → IsFile bytes c cls → IsFile bytes d own → (c ≡ d) × (cls ≡ own)
one_file bytes c d cls own v w =
    let P : List ℕ → Counts → ℕ → Type 0 = λ xs e n. HeadIs xs e n in
    let h = subst (λ xs. P xs c (length cls)) (sym v.written) (file_head c cls v.lawful v.few) in
    let k = subst (λ xs. P xs d (length own)) (sym w.written) (file_head d own w.lawful w.few) in
    let e = head_same bytes c d (length cls) (length own) h k in
    (e.0, sym (clauses_back c cls v.lawful) ∙ ap₂ clauses_at e.1 (sym v.written ∙ w.written) ∙ clauses_back d own w.lawful)

-- the first wrong clause block is the first wrong layout
layouts_below : (bytes : List ℕ) (c : Counts) (n b : ℕ) → HeadIs bytes c n → AllRight (λ k. Clauses c (due n k) (block_at bytes (suc k))) b → AllRight (LayoutRight bytes) (suc b)
layouts_below bytes c n b head f zero h = (c, n, head)
layouts_below bytes c n b head f (suc k) h = (c, n, head, f k (omega arith))

pub first_layout : (bytes : List ℕ) (c : Counts) (n b : ℕ) → HeadIs bytes c n → FirstWrong (λ k. Clauses c (due n k) (block_at bytes (suc k))) (blocks_for n) b → FirstWrong (LayoutRight bytes) (block_count bytes) (b + 1)
first_layout bytes c n b head f =
    let P : ℕ → Type 0 = λ k. FirstWrong (LayoutRight bytes) (block_count bytes) k in
    let low = f.0 in
    let low' : suc b < block_count bytes = omega (arith, head.fits) in
    subst P (sym (add-one b)) (low', λ l. f.1 (settled bytes c n b head l), layouts_below bytes c n b head f.2)

pub exact : (bytes : List ℕ) → Exact bytes
exact bytes = record { file = right_file bytes; right = file_right bytes; one = one_file bytes }
