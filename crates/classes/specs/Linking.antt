-- Leaders on the way to the class table.
use Rattle.std.specs.Prelude.{◌≡◌, ℕ, ◌<◌, ◌≤◌, min, max, cond, List, length, ◌==◌, slice_index}
use Rattle.syntax.specs.declared.types.Ground.TheVariants.{Same}
use Rattle.syntax.specs.declared.types.Mark.TheVariants.{Yes}
use Rattle.syntax.specs.declared.counts.Counts.{Counts}
use Rattle.semantics.specs.Branch.{Branch, mark_at, Linked}

-- the leader that a list of leaders gives a name
abbrev pub leader_in : List ℕ → ℕ → ℕ
leader_in leaders a = slice_index leaders a

-- leaders p and q become the lower of the two
abbrev pub relabel : ℕ → ℕ → ℕ → ℕ
relabel p q v = cond (v == max p q) (min p q) v

-- leaders on the way to the class table: each linked with its name, not above it, and leading itself
pub record Leading (c : Counts) (marks : Branch) (leaders : List ℕ) : Type 0 where
  pub whole : length leaders ≡ 32
  pub linked : (a : ℕ) → a < c.names → Linked c marks a (leader_in leaders a)
  pub low : (a : ℕ) → a < 32 → leader_in leaders a ≤ a
  pub lead : (a : ℕ) → a < 32 → leader_in leaders (leader_in leaders a) ≡ leader_in leaders a

-- names that had one leader have one
abbrev pub Coarser : List ℕ → List ℕ → Type 0
Coarser before after = (a b : ℕ) → a < 32 → b < 32 → leader_in before a ≡ leader_in before b → leader_in after a ≡ leader_in after b

-- the names that stand the same as a, up to n, have its leader
abbrev pub Joined : Counts → Branch → List ℕ → ℕ → ℕ → Type 0
Joined c marks leaders a n = (b : ℕ) → b < n → mark_at c marks (Same a b) ≡ Yes → leader_in leaders a ≡ leader_in leaders b
