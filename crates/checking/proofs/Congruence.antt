-- The parts that are tested come to this: some interpretation has the bytes.
use Rattle.std.proofs.Common.{◌≡◌, ℕ, zero, suc, ◌<◌, ◌⊎◌, List, length, get_or, ◌∙◌, inl, inr, arith}
use Rattle.syntax.specs.declared.counts.Counts.{Counts}
use Rattle.syntax.specs.Numbers.{atoms}
use Rattle.semantics.specs.Meaning.{Interpretation}
use Rattle.semantics.specs.Bytes.{SameBy, BytesOf, Congruent}
use Rattle.semantics.proofs.Reading.{which_bytes}
use Rattle.checking.specs.Alike.{Alike, Tested}

zero_or_one : (n : ℕ) → n < 2 → (n ≡ 0) ⊎ (n ≡ 1)
zero_or_one zero h = inl (omega arith)
zero_or_one (suc n) h = inr (omega arith)

below_two : (n : ℕ) → (n ≡ 0) ⊎ (n ≡ 1) → n < 2
below_two n (inl e) = omega arith
below_two n (inr e) = omega arith

from_tested : (c : Counts) (bytes : List ℕ) → length bytes ≡ atoms c → Tested c bytes → Congruent c bytes
from_tested c bytes long t = record {
  long = long;
  bits = λ k h. zero_or_one (get_or bytes k 0) (t.bits k (omega arith));
  reflexive = t.reflexive;
  symmetric = λ a b h k e. (t.like a h b k e).back;
  transitive = λ a b d h k m e f. (t.like a h b k e).onward d m f;
  properties = λ p a b l h k e. (t.like a h b k e).properties p l;
  relations = λ r a b x y l h k m n e f. ((t.like a h x m e).relations r l b k).0 ∙ ((t.like b k y n f).relations r l x m).1;
}

alike : (c : Counts) (bytes : List ℕ) → Congruent c bytes → (a b : ℕ) → a < c.names → b < c.names → SameBy c bytes a b → Alike c bytes a b
alike c bytes g a b h k e = record {
  back = g.symmetric a b h k e;
  onward = λ d m f. g.transitive a b d h k m e f;
  properties = λ p l. g.properties p a b l h k e;
  relations = λ r l d m. (g.relations r a d b d l h m k m e (g.reflexive d m), g.relations r d a d b l m h m k (g.reflexive d m) e);
}

to_tested : (c : Counts) (bytes : List ℕ) → Congruent c bytes → Tested c bytes
to_tested c bytes g = record {
  bits = λ k h. below_two (get_or bytes k 0) (g.bits k (omega (arith, g.long)));
  reflexive = g.reflexive;
  like = λ a h b k e. alike c bytes g a b h k e;
}

abbrev pub Interpreted : Counts → List ℕ → Type 0
Interpreted c bytes = (I : Interpretation) × BytesOf c I bytes

pub interpreted : (c : Counts) (bytes : List ℕ) → length bytes ≡ atoms c → Tested c bytes → Interpreted c bytes
interpreted c bytes long t = (which_bytes c bytes).1 (from_tested c bytes long t)

pub tested : (c : Counts) (bytes : List ℕ) → Interpreted c bytes → Tested c bytes
tested c bytes t = to_tested c bytes ((which_bytes c bytes).0 t)
