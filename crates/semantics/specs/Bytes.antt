-- Interpretations as bytes.
use Rattle.std.specs.Prelude.{◌≡◌, ℕ, ◌<◌, Bool, true, false, ◌⊎◌, List, length, slice_index}
use Rattle.syntax.specs.declared.types.Ground.{Ground}
use Rattle.syntax.specs.declared.types.Ground.TheVariants.{Same, Prop, Rel}
use Rattle.syntax.specs.declared.counts.Counts.{Counts}
use Rattle.syntax.specs.Numbers.{atoms, number_of, LawfulGround}
use Rattle.semantics.specs.Meaning.{Interpretation, Over, value}

abbrev pub bit : Bool → ℕ
bit true = 1
bit false = 0

-- the byte at the number of a ground atom
abbrev pub byte_at : Counts → List ℕ → Ground → ℕ
byte_at c bytes g = slice_index bytes (number_of c g)

-- the bytes of an interpretation over the counts: A of them, and each tells whether the atom of its number holds
pub record BytesOf (c : Counts) (I : Interpretation) (bytes : List ℕ) : Type 0 where
  pub over : Over c I
  pub long : length bytes ≡ atoms c
  pub tell : (g : Ground) → LawfulGround c g → byte_at c bytes g ≡ bit (value I g)

-- by these bytes two names are the same
abbrev pub SameBy : Counts → List ℕ → ℕ → ℕ → Type 0
SameBy c bytes a b = byte_at c bytes (Same a b) ≡ 1

-- A bytes, each 0 or 1; same is an equivalence on the names; properties and relations do not tell equal names apart
pub record Congruent (c : Counts) (bytes : List ℕ) : Type 0 where
  pub long : length bytes ≡ atoms c
  pub bits : (k : ℕ) → k < atoms c → (slice_index bytes k ≡ 0) ⊎ (slice_index bytes k ≡ 1)
  pub reflexive : (a : ℕ) → a < c.names → SameBy c bytes a a
  pub symmetric : (a b : ℕ) → a < c.names → b < c.names → SameBy c bytes a b → SameBy c bytes b a
  pub transitive :
      (a b d : ℕ) → a < c.names → b < c.names → d < c.names →
      SameBy c bytes a b → SameBy c bytes b d → SameBy c bytes a d
  pub properties :
      (p a b : ℕ) → p < c.properties → a < c.names → b < c.names →
      SameBy c bytes a b → byte_at c bytes (Prop p a) ≡ byte_at c bytes (Prop p b)
  pub relations :
      (r a b x y : ℕ) → r < c.relations → a < c.names → b < c.names → x < c.names → y < c.names →
      SameBy c bytes a x → SameBy c bytes b y → byte_at c bytes (Rel r a b) ≡ byte_at c bytes (Rel r x y)
