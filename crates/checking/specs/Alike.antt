-- When bytes are bits, and when they do not tell two names apart.
use Rattle.std.specs.Prelude.{◌≡◌, ℕ, ◌<◌, List, length, Some, None, Option, slice_index}
use Rattle.syntax.specs.declared.types.Ground.TheVariants.{Prop, Rel}
use Rattle.syntax.specs.declared.counts.Counts.{Counts}
use Rattle.semantics.specs.Meaning.{Interpretation}
use Rattle.semantics.specs.Bytes.{byte_at, SameBy, BytesOf}
use Rattle.checking.specs.declared.candidate.Candidate.{Candidate}

-- each byte is 0 or 1
abbrev pub Bits : List ℕ → Type 0
Bits bytes = (k : ℕ) → k < length bytes → slice_index bytes k < 2

-- each name is the same as itself
abbrev pub Reflexive : Counts → List ℕ → Type 0
Reflexive c bytes = (a : ℕ) → a < c.names → SameBy c bytes a a

-- what is the same as b is the same as a
abbrev pub Onward : Counts → List ℕ → ℕ → ℕ → Type 0
Onward c bytes a b = (d : ℕ) → d < c.names → SameBy c bytes b d → SameBy c bytes a d

-- no property tells a from b
abbrev pub LikeProperties : Counts → List ℕ → ℕ → ℕ → Type 0
LikeProperties c bytes a b = (p : ℕ) → p < c.properties → byte_at c bytes (Prop p a) ≡ byte_at c bytes (Prop p b)

-- relation r does not tell a from b beside d, in either place
abbrev pub LikeBeside : Counts → List ℕ → ℕ → ℕ → ℕ → ℕ → Type 0
LikeBeside c bytes a b r d =
    (byte_at c bytes (Rel r a d) ≡ byte_at c bytes (Rel r b d)) × (byte_at c bytes (Rel r d a) ≡ byte_at c bytes (Rel r d b))

-- relation r does not tell a from b
abbrev pub LikeRelation : Counts → List ℕ → ℕ → ℕ → ℕ → Type 0
LikeRelation c bytes a b r = (d : ℕ) → d < c.names → LikeBeside c bytes a b r d

-- no relation tells a from b
abbrev pub LikeRelations : Counts → List ℕ → ℕ → ℕ → Type 0
LikeRelations c bytes a b = (r : ℕ) → r < c.relations → LikeRelation c bytes a b r

-- b is the same as a, and nothing tells a from b
pub record Alike (c : Counts) (bytes : List ℕ) (a b : ℕ) : Type 0 where
  pub back : SameBy c bytes b a
  pub onward : Onward c bytes a b
  pub properties : LikeProperties c bytes a b
  pub relations : LikeRelations c bytes a b

-- a is alike to each name that is the same
abbrev pub LikeOwn : Counts → List ℕ → ℕ → Type 0
LikeOwn c bytes a = (b : ℕ) → b < c.names → SameBy c bytes a b → Alike c bytes a b

-- names that are the same are alike
abbrev pub AllLike : Counts → List ℕ → Type 0
AllLike c bytes = (a : ℕ) → a < c.names → LikeOwn c bytes a

-- what is tested of A bytes: it comes to Congruent, one place of a relation at a time
pub record Tested (c : Counts) (bytes : List ℕ) : Type 0 where
  pub bits : Bits bytes
  pub reflexive : Reflexive c bytes
  pub like : AllLike c bytes

-- bytes taken exactly where some interpretation over the counts has them
abbrev pub Accepted : Counts → List ℕ → Option Candidate → Type 0
Accepted c bytes (Some m) = (m.counts ≡ c) × (m.bytes.now ≡ bytes) × (I : Interpretation) × BytesOf c I bytes
Accepted c bytes None = (I : Interpretation) → BytesOf c I bytes → ⊥
