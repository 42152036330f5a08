-- The numbers of the ground atoms, and the laws that everything above uses in place of the formula.
use Rattle.std.specs.Prelude.{◌≡◌, ℕ, ◌+◌, ◌*◌, ◌<◌, ◌≤◌, Some, None, Ok, Err, Option, Result, ◌≢◌}
use Rattle.syntax.specs.declared.types.Ground.{Ground}
use Rattle.syntax.specs.declared.types.Ground.TheVariants.{Same, Prop, Rel}
use Rattle.syntax.specs.declared.types.HasVariable.{HasVariable}
use Rattle.syntax.specs.declared.types.Term.TheVariants.{Name}
use Rattle.syntax.specs.declared.types.Atom.{Atom}
use Rattle.syntax.specs.declared.types.Atom.TheVariants.{Same as Same', Prop as Prop', Rel as Rel'}
use Rattle.syntax.specs.declared.counts.Counts.{Counts}
use Rattle.syntax.specs.Lawful.{AtomBy, GroundTerm}

-- how many ground atoms there are: A
unfoldable pub atoms : Counts → ℕ
atoms c = c.names * c.names + c.properties * c.names + c.relations * c.names * c.names

-- the number of a ground atom
unfoldable pub number_of : Counts → Ground → ℕ
number_of c (Same a b) = a * c.names + b
number_of c (Prop p a) = c.names * c.names + p * c.names + a
number_of c (Rel r a b) = c.names * c.names + c.properties * c.names + (r * c.names + a) * c.names + b

-- a ground atom as an atom
abbrev pub atom_of : Ground → Atom
atom_of (Same a b) = Same' (Name a) (Name b)
atom_of (Prop p a) = Prop' p (Name a)
atom_of (Rel r a b) = Rel' r (Name a) (Name b)

-- an atom is read as a ground atom exactly when it is one
abbrev pub Grounded : Atom → Result Ground HasVariable → Type 0
Grounded a (Ok g) = atom_of g ≡ a
Grounded a (Err _) = (g : Ground) → atom_of g ≢ a

-- a ground atom of the book: its symbol and names lie below the counts
abbrev pub LawfulGround : Counts → Ground → Type 0
LawfulGround c g = AtomBy c (GroundTerm c) (atom_of g)

-- an atom of the book gets its number, which is below A; any other gets none
abbrev pub Numbered : Counts → Ground → Option ℕ → Type 0
Numbered c g (Some k) = LawfulGround c g × (k ≡ number_of c g) × (k < atoms c)
Numbered c g None = LawfulGround c g → ⊥

-- a number below A gets the one atom of the book that has it; any other gets none
abbrev pub Found : Counts → ℕ → Option Ground → Type 0
Found c k (Some g) = (k < atoms c) × LawfulGround c g × (number_of c g ≡ k) × ((h : Ground) → LawfulGround c h → number_of c h ≡ k → h ≡ g)
Found c k None = atoms c ≤ k

-- The laws. There are at most 10,240
abbrev pub Few : Type 0
Few = (c : Counts) → atoms c ≤ 10240

-- each has a number below the whole
abbrev pub BelowAll : Type 0
BelowAll = (c : Counts) (g : Ground) → LawfulGround c g → number_of c g < atoms c

-- no two have one number
abbrev pub Apart : Type 0
Apart = (c : Counts) (g h : Ground) → LawfulGround c g → LawfulGround c h → number_of c g ≡ number_of c h → g ≡ h

-- each number below the whole is that of one
abbrev pub Onto : Type 0
Onto = (c : Counts) (k : ℕ) → k < atoms c → (g : Ground) × LawfulGround c g × (number_of c g ≡ k)
