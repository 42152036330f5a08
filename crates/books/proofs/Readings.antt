-- What an answer of a book says of the clauses by their places, and back.
use Rattle.std.proofs.Common.{◌≡◌, ℕ, zero, suc, ◌+◌, ◌<◌, ◌≤◌, List, [], ◌∷◌, map, length, get_or, take, Some, None, Option, sym, ap, ◌∙◌, subst, not-suc-le-zero, arith}
use lib.ListN.{length-map}
use Rattle.std.specs.List.{AllByRecursion, slice_get}
use Rattle.std.proofs.lemmas.Option.{slice_get-get_or, slice_get_past}
use Rattle.std.proofs.lemmas.List.{get_or-map, take_all}
use Rattle.std.proofs.ByRecursion.{All-get_or, All-more}
use Rattle.syntax.specs.declared.types.Literal.{Literal}
use Rattle.syntax.specs.declared.counts.Counts.{Counts}
use Rattle.syntax.specs.Lawful.{Lawful, LawfulLiteral}
use Rattle.books.specs.Lists.{size_at_index, literal_at}

-- the end of any walk: what holds of each element before n holds of all
pub walked : {X : Type 0} (P : X → Type 0) (xs : List X) (n : ℕ) → length xs ≤ n → AllByRecursion P (take n xs) → AllByRecursion P xs
walked {X} P xs n h f = let Q : List X → Type 0 = λ ys. AllByRecursion P ys in subst Q (take_all n xs h) f

-- what nth answers: the element at i, or nothing past the end
abbrev pub At : {X : Type 0} → List X → ℕ → Option X → Type 0
At xs i (Some x) = (i < length xs) × (x ≡ get_or xs i x)
At xs i None = length xs ≤ i

pub nth_is : {X : Type 0} (xs : List X) (i : ℕ) (r : Option X) → r ≡ slice_get xs i → At xs i r
nth_is [] i None e = omega arith
nth_is [] i (Some x) e = grind arith
nth_is (y ∷ ys) zero None e = grind arith
nth_is (y ∷ ys) zero (Some x) e = (omega arith, grind arith)
nth_is (y ∷ ys) (suc i) None e = let h = nth_is ys i None e in omega arith
nth_is (y ∷ ys) (suc i) (Some x) e = let h = nth_is ys i (Some x) e in (omega arith, h.1)

pub nth_from : {X : Type 0} (xs : List X) (i : ℕ) (r : Option X) → At xs i r → r ≡ slice_get xs i
nth_from xs i None h = sym (slice_get_past xs i h)
nth_from xs i (Some x) h = ap Some h.1 ∙ sym (slice_get-get_or xs i x h.0)

-- the number of literals that was answered
abbrev pub SizeAt : List (List Literal) → ℕ → Option ℕ → Type 0
SizeAt cs i (Some n) = (i < length cs) × (n ≡ length (get_or cs i []))
SizeAt cs i None = length cs ≤ i

pub size_is : (cs : List (List Literal)) (i : ℕ) (r : Option ℕ) → r ≡ size_at_index cs i → SizeAt cs i r
size_is [] i None e = omega arith
size_is [] i (Some n) e = grind arith
size_is (y ∷ ys) zero None e = grind arith
size_is (y ∷ ys) zero (Some x) e = (omega arith, grind arith)
size_is (y ∷ ys) (suc i) None e = let h = size_is ys i None e in omega arith
size_is (y ∷ ys) (suc i) (Some x) e = let h = size_is ys i (Some x) e in (omega arith, h.1)

pub size_from : (cs : List (List Literal)) (i : ℕ) (r : Option ℕ) → SizeAt cs i r → r ≡ size_at_index cs i
size_from cs i None h = sym (slice_get_past (map length cs) i (simp length-map (omega arith)))
size_from cs i (Some n) h =
    let q : i < length (map length cs) = simp length-map (omega arith) in
    ap Some (h.1 ∙ sym (get_or-map length cs i [] n h.0)) ∙ sym (slice_get-get_or (map length cs) i n q)

-- the literal that was answered, within clause i
pub literal_is : (cs : List (List Literal)) (i j : ℕ) (r : Option Literal) → r ≡ literal_at cs i j → At (get_or cs i []) j r
literal_is cs i j r e = nth_is (get_or cs i []) j r e

within : (cs : List (List Literal)) (i j : ℕ) → j < length (get_or cs i []) → i < length cs
within [] i j h = absurd (not-suc-le-zero h)
within (c ∷ cs) zero j h = omega arith
within (c ∷ cs) (suc i) j h = let g = within cs i j h in omega arith

pub literal_of_list : (cs : List (List Literal)) (i j : ℕ) (l : Literal) → Some l ≡ literal_at cs i j → (i < length cs) × (j < length (get_or cs i [])) × (l ≡ get_or (get_or cs i []) j l)
literal_of_list cs i j l e =
    let h = literal_is cs i j (Some l) e in
    (within cs i j h.0, h.0, h.1)

-- every clause of a book is lawful, and has 1 to 8 literals
pub clause_lawful : (c : Counts) (cs : List (List Literal)) (i : ℕ) → AllByRecursion (Lawful c) cs → i < length cs → Lawful c (get_or cs i [])
clause_lawful c cs i f h = All-get_or (Lawful c) cs i [] h f

pub size_within : (c : Counts) (cs : List (List Literal)) (i n : ℕ) → AllByRecursion (Lawful c) cs → Some n ≡ size_at_index cs i → (1 ≤ n) × (n ≤ 8)
size_within c cs i n f e =
    let h = size_is cs i (Some n) e in
    let law = clause_lawful c cs i f h.0 in
    (omega arith, omega arith)

pub literal_within : (c : Counts) (cs : List (List Literal)) (i j : ℕ) (l : Literal) → AllByRecursion (Lawful c) cs → Some l ≡ literal_at cs i j → j < 8
literal_within c cs i j l f e =
    let h = literal_of_list cs i j l e in
    let law = clause_lawful c cs i f h.0 in
    omega arith

-- what holds of each literal of clause i holds of the one that was answered; so it is lawful
pub literal_has : (P : Literal → Type 0) (cs : List (List Literal)) (i j : ℕ) (l : Literal) → Some l ≡ literal_at cs i j → AllByRecursion P (get_or cs i []) → P l
literal_has P cs i j l e f = let h = literal_of_list cs i j l e in subst P (sym h.2) (All-get_or P (get_or cs i []) j l h.1 f)

pub literal_lawful : (c : Counts) (cs : List (List Literal)) (i j : ℕ) (l : Literal) → AllByRecursion (Lawful c) cs → Some l ≡ literal_at cs i j → LawfulLiteral c l
literal_lawful c cs i j l f e =
    literal_has (LawfulLiteral c) cs i j l e (clause_lawful c cs i f (literal_of_list cs i j l e).0).each

-- a walk over the literals of clause i: one more, and the end
pub literals_more : (P : Literal → Type 0) (cs : List (List Literal)) (i j : ℕ) (l : Literal) → Some l ≡ literal_at cs i j → AllByRecursion P (take j (get_or cs i [])) → P l → AllByRecursion P (take (j + 1) (get_or cs i []))
literals_more P cs i j l e f p =
    let h = literal_of_list cs i j l e in All-more P (get_or cs i []) j l h.1 f (subst P h.2 p)

pub literals_all : (P : Literal → Type 0) (cs : List (List Literal)) (i j : ℕ) → None ≡ literal_at cs i j → AllByRecursion P (take j (get_or cs i [])) → AllByRecursion P (get_or cs i [])
literals_all P cs i j e f = walked P (get_or cs i []) j (literal_is cs i j None e) f
