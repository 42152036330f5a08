-- Ground atoms: instances of lawful literals, and atoms that share a number.
use Rattle.std.proofs.Common.{◌≡◌, ℕ, zero, suc, ◌<◌, refl, ap, ap₂, arith}
use Rattle.syntax.specs.declared.types.Term.{Term}
use Rattle.syntax.specs.declared.types.Term.TheVariants.{Name, Var}
use Rattle.syntax.specs.declared.types.Atom.{Atom}
use Rattle.syntax.specs.declared.types.Atom.TheVariants.{Same as Same', Prop as Prop', Rel as Rel'}
use Rattle.syntax.specs.declared.types.Ground.{Ground}
use Rattle.syntax.specs.declared.types.Ground.TheVariants.{Same, Prop, Rel}
use Rattle.syntax.specs.declared.types.Literal.{Literal}
use Rattle.syntax.specs.declared.counts.Counts.{Counts}
use Rattle.syntax.specs.Lawful.{LawfulTerm, AtomBy, LawfulLiteral, Lawful}
use Rattle.syntax.specs.Numbers.{number_of, atom_of, LawfulGround}
use Rattle.syntax.proofs.Laws.{apart}
use Rattle.std.proofs.ByRecursion.{all-has}
use Rattle.semantics.specs.Meaning.{Clause, ◌∈◌, Interpretation, value, Assignment, Assigns, four, name_at, ground_of}

-- atoms with one number hold together: what is used of the numbering in place of injectivity
pub together : (c : Counts) (I : Interpretation) (g h : Ground) → LawfulGround c g → LawfulGround c h → number_of c g ≡ number_of c h → value I g ≡ value I h
together c I g h l m e = ap (value I) (apart c g h l m e)

-- an instance of a lawful literal is an atom of the book
pub name_below : (c : Counts) (σ : Assignment) (t : Term) → Assigns c σ → LawfulTerm c t → name_at σ t < c.names
name_below c σ (Name a) assigns h = h
name_below c σ (Var v) assigns h = assigns v h

pub ground_lawful : (c : Counts) (σ : Assignment) (a : Atom) → Assigns c σ → AtomBy c (LawfulTerm c) a → LawfulGround c (ground_of σ a)
ground_lawful c σ (Same' t u) assigns h = (name_below c σ t assigns h.0, name_below c σ u assigns h.1)
ground_lawful c σ (Prop' p t) assigns h = (h.0, name_below c σ t assigns h.1)
ground_lawful c σ (Rel' r t u) assigns h = (h.0, (name_below c σ t assigns h.1.0, name_below c σ u assigns h.1.1))

pub instance_lawful : (c : Counts) (σ : Assignment) (l : Literal) → Assigns c σ → LawfulLiteral c l → LawfulGround c (ground_of σ l.atom)
instance_lawful c σ l assigns h = ground_lawful c σ l.atom assigns h

-- the same of a literal of a lawful clause
pub in_clause : (c : Counts) (σ : Assignment) (cl : Clause) (l : Literal) → Assigns c σ → Lawful c cl → l ∈ cl → LawfulGround c (ground_of σ l.atom)
in_clause c σ cl l assigns lawful i = instance_lawful c σ l assigns (all-has (LawfulLiteral c) cl l lawful.each i)

-- a ground atom is its own instance
pub ground_of_atom : (σ : Assignment) (g : Ground) → ground_of σ (atom_of g) ≡ g
ground_of_atom σ (Same a b) = refl
ground_of_atom σ (Prop p a) = refl
ground_of_atom σ (Rel r a b) = refl

-- the assignment of the names that σ gives the four variables
pub four_at : (σ : Assignment) (v : ℕ) → v < 4 → four (σ 0) (σ 1) (σ 2) (σ 3) v ≡ σ v
four_at σ zero h = refl
four_at σ (suc zero) h = refl
four_at σ (suc (suc zero)) h = refl
four_at σ (suc (suc (suc v))) h = ap σ (omega arith)

pub four_below : (n x y z w : ℕ) → x < n → y < n → z < n → w < n → (v : ℕ) → v < 4 → four x y z w v < n
four_below n x y z w hx hy hz hw zero h = hx
four_below n x y z w hx hy hz hw (suc zero) h = hy
four_below n x y z w hx hy hz hw (suc (suc zero)) h = hz
four_below n x y z w hx hy hz hw (suc (suc (suc v))) h = hw

-- an instance rests on the four variables alone
name_same : (c : Counts) (σ τ : Assignment) (t : Term) → ((v : ℕ) → v < 4 → σ v ≡ τ v) → LawfulTerm c t → name_at σ t ≡ name_at τ t
name_same c σ τ (Name x) e h = refl
name_same c σ τ (Var v) e h = e v h

pub ground_same : (c : Counts) (σ τ : Assignment) (a : Atom) → ((v : ℕ) → v < 4 → σ v ≡ τ v) → AtomBy c (LawfulTerm c) a → ground_of σ a ≡ ground_of τ a
ground_same c σ τ (Same' t u) e h = ap₂ Same (name_same c σ τ t e h.0) (name_same c σ τ u e h.1)
ground_same c σ τ (Prop' p t) e h = ap (Prop p) (name_same c σ τ t e h.1)
ground_same c σ τ (Rel' r t u) e h = ap₂ (Rel r) (name_same c σ τ t e h.1.0) (name_same c σ τ u e h.1.1)
