-- A clash, read off the leaders.
use Rattle.std.specs.Prelude.{◌≡◌, ℕ, ◌<◌, Bool, true, false, not}
use Rattle.syntax.specs.declared.types.Ground.{Ground}
use Rattle.syntax.specs.declared.types.Ground.TheVariants.{Same, Prop, Rel}
use Rattle.syntax.specs.declared.types.Mark.TheVariants.{Yes, No}
use Rattle.syntax.specs.declared.counts.Counts.{Counts}
use Rattle.semantics.specs.Branch.{Branch, mark_at, signed}

-- a name of the book with the leader of a
pub record Fellow (c : Counts) (leader : ℕ → ℕ) (a x : ℕ) : Type 0 where
  pub first : a < c.names
  pub second : x < c.names
  pub one : leader a ≡ leader x

-- names with one leader stand not the same, or a property or relation stands both yes and no for names with the same leaders place by place
pub data ClashBy (c : Counts) (marks : Branch) (leader : ℕ → ℕ) : Type 0 where
  same_no : (a b : ℕ) → Fellow c leader a b → mark_at c marks (Same a b) ≡ No → ClashBy c marks leader
  prop_both :
      (p a x : ℕ) → p < c.properties → Fellow c leader a x →
      mark_at c marks (Prop p a) ≡ Yes → mark_at c marks (Prop p x) ≡ No → ClashBy c marks leader
  rel_both :
      (r a b x y : ℕ) → r < c.relations → Fellow c leader a x → Fellow c leader b y →
      mark_at c marks (Rel r a b) ≡ Yes → mark_at c marks (Rel r x y) ≡ No → ClashBy c marks leader

-- the clashes of one literal: a same denied of names with one leader, or the opposite sign at names with the same leaders place by place.
-- A same said of names that have one leader anyway brings no clash
abbrev pub ClashAt : Counts → Branch → (ℕ → ℕ) → Ground → Bool → Type 0
ClashAt c marks leader (Same a b) true = ⊥
ClashAt c marks leader (Same a b) false = Fellow c leader a b
ClashAt c marks leader (Prop p a) s =
    (p < c.properties) × ((x : ℕ) × Fellow c leader a x × (mark_at c marks (Prop p x) ≡ signed (not s)))
ClashAt c marks leader (Rel r a b) s =
    (r < c.relations) × ((x : ℕ) × Fellow c leader a x × ((y : ℕ) × Fellow c leader b y × (mark_at c marks (Rel r x y) ≡ signed (not s))))
