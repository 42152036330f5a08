-- The assignments of a clause's own variables, and in which order they are gone through.
use Rattle.std.specs.Prelude.{◌≡◌, ℕ, ◌*◌, ◌/◌, ◌%◌, ◌<◌, ◌≤◌, min, max, cond, nat_lt, ◌+◌, ◌-◌, not, List, [], ◌∷◌, Some, None, Option, slice_index}
use Rattle.syntax.specs.declared.types.Literal.{Literal}
use Rattle.syntax.specs.declared.counts.Counts.{Counts}
use Rattle.syntax.specs.Numbers.{atom_of}
use Rattle.semantics.specs.Meaning.{Clause, Assignment, Assigns, four, ground_of}
use Rattle.semantics.specs.Checks.{uses, Proper, Before}
use Rattle.instances.specs.declared.ranges.Ranges.{Ranges}

-- the assignment of the four names
abbrev pub names_of : List ℕ → Assignment
names_of n = four (slice_index n 0) (slice_index n 1) (slice_index n 2) (slice_index n 3)

-- the denial of a literal's instance
abbrev pub denial : Assignment → Literal → Literal
denial σ l = record { sign = not l.sign; atom = atom_of (ground_of σ l.atom) }

-- a variable that the clause uses runs through all names, any other through one
abbrev pub range : Counts → Clause → ℕ → ℕ
range c cl v = cond (uses v cl) c.names 1

abbrev pub RunsThrough : Counts → Clause → Ranges → Type 0
RunsThrough c cl r = (v : ℕ) → v < 4 → slice_index r.most v ≡ range c cl v

-- each variable runs through so many names at most, and through 1 at least
abbrev pub Capped : Ranges → List ℕ → Ranges → Type 0
Capped r most s = (v : ℕ) → v < 4 → slice_index s.most v ≡ max (min (slice_index r.most v) (slice_index most v)) 1

-- how many assignments the ranges give
abbrev pub size : Ranges → ℕ
size r = slice_index r.most 0 * slice_index r.most 1 * slice_index r.most 2 * slice_index r.most 3

-- the k-th of them, variable 3 fastest; past the last they begin anew
abbrev pub nth_assignment : Ranges → ℕ → List ℕ
nth_assignment r k =
    let y = slice_index r.most 1 in
    let z = slice_index r.most 2 in
    let w = slice_index r.most 3 in
    k / w / z / y % slice_index r.most 0 ∷ k / w / z % y ∷ k / w % z ∷ k % w ∷ []

-- the names after these: the last variable that has a further name takes it, and those behind it begin anew
abbrev pub next_names : Ranges → List ℕ → List ℕ
next_names r n =
    let x = slice_index n 0 in
    let y = slice_index n 1 in
    let z = slice_index n 2 in
    let w = slice_index n 3 in
    cond (nat_lt w (slice_index r.most 3 - 1)) (x ∷ y ∷ z ∷ (w + 1) ∷ [])
    (cond (nat_lt z (slice_index r.most 2 - 1)) (x ∷ y ∷ (z + 1) ∷ 0 ∷ [])
    (cond (nat_lt y (slice_index r.most 1 - 1)) (x ∷ (y + 1) ∷ 0 ∷ 0 ∷ [])
    (cond (nat_lt x (slice_index r.most 0 - 1)) ((x + 1) ∷ 0 ∷ 0 ∷ 0 ∷ []) (0 ∷ 0 ∷ 0 ∷ 0 ∷ []))))

-- nothing past the last
abbrev pub NthNames : Ranges → ℕ → Option (List ℕ) → Type 0
NthNames r k None = size r ≤ k
NthNames r k (Some n) = (k < size r) × (n ≡ nth_assignment r k)

-- The laws. Each of a clause's assignments gives the variables names below N
abbrev pub EachAssigns : Type 0
EachAssigns =
    (c : Counts) (cl : Clause) (r : Ranges) (k : ℕ) → RunsThrough c cl r → Assigns c (names_of (nth_assignment r k))

-- and each assignment of the clause's own variables is one of them
abbrev pub EachReached : Type 0
EachReached =
    (c : Counts) (cl : Clause) (r : Ranges) (σ : Assignment) → RunsThrough c cl r → Proper c cl σ →
    (k : ℕ) × (k < size r) × ((v : ℕ) → v < 4 → names_of (nth_assignment r k) v ≡ σ v)

-- and what comes before another has the lower place
abbrev pub EachLater : Type 0
EachLater =
    (r : Ranges) (j k : ℕ) → j < size r → k < size r → Before (names_of (nth_assignment r j)) (names_of (nth_assignment r k)) → j < k
