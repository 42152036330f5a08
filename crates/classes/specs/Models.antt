-- The model of a branch in memory.
use Rattle.std.specs.Prelude.{◌≡◌, ℕ, ◌<◌, ◌≤◌, List, length, take, drop, Ok, Err, Result}
use Rattle.syntax.specs.declared.types.Ground.{Ground}
use Rattle.syntax.specs.declared.types.Refusal.{Refusal}
use Rattle.syntax.specs.declared.types.Refusal.TheVariants.{MemoryShort}
use Rattle.syntax.specs.declared.counts.Counts.{Counts}
use Rattle.syntax.specs.Numbers.{atoms, LawfulGround}
use Rattle.semantics.specs.Meaning.{Interpretation, value}
use Rattle.semantics.specs.Bytes.{bit, byte_at, BytesOf}

-- the byte at the atom's number tells whether it holds
abbrev pub Right : Counts → Interpretation → List ℕ → Ground → Type 0
Right c I bytes g = byte_at c bytes g ≡ bit (value I g)

-- memory whose first A bytes tell of each atom of the book whether it holds; the rest is as it was
pub record Filled (c : Counts) (I : Interpretation) (before after : List ℕ) : Type 0 where
  pub long : length after ≡ length before
  pub rest : drop (atoms c) after ≡ drop (atoms c) before
  pub tell : (g : Ground) → LawfulGround c g → Right c I after g

-- refused exactly where the memory is shorter than A, and then left as it was; else filled
abbrev pub Written : Counts → Interpretation → List ℕ → List ℕ → Result Unit Refusal → Type 0
Written c I before after (Ok _) = (atoms c ≤ length before) × Filled c I before after
Written c I before after (Err e) = (length before < atoms c) × (e ≡ MemoryShort) × (after ≡ before)

-- written, the first A bytes are those of the interpretation
abbrev pub ItsBytes : Counts → Interpretation → List ℕ → Result Unit Refusal → Type 0
ItsBytes c I after (Ok _) = BytesOf c I (take (atoms c) after)
ItsBytes c I after (Err _) = Unit
