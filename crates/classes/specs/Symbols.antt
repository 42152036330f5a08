-- Sameness, a property or a relation, with the atoms that it makes. A property takes one name, and 0 in place of the second.
use Rattle.std.specs.Prelude.{◌≡◌, ℕ, zero, suc, ◌+◌, ◌-◌, ◌<◌, cond, nat_lt}
use Rattle.syntax.specs.declared.types.Ground.{Ground}
use Rattle.syntax.specs.declared.types.Ground.TheVariants.{Same, Prop, Rel}
use Rattle.syntax.specs.declared.types.Mark.{Mark}
use Rattle.syntax.specs.declared.types.Mark.TheVariants.{Yes, No}
use Rattle.syntax.specs.declared.counts.Counts.{Counts}
use Rattle.semantics.specs.Branch.{Branch, mark_at}
use Rattle.classes.specs.declared.classed.Classed.{Classed}
use Rattle.classes.specs.declared.pairs.Pairs.{Pairs}
use Rattle.classes.specs.declared.symbol.Symbol.{Symbol}
use Rattle.classes.specs.declared.symbol.Symbol.TheVariants.{Same as Same', Prop as Prop', Rel as Rel'}
use Rattle.classes.specs.Leaders.{leader_of}
use Rattle.classes.specs.Pairs.{Has}

-- a branch, with the leader of each name
pub record View : Type 0 where
  pub counts : Counts
  pub marks : Branch
  pub leader : ℕ → ℕ

-- what a table says, read through a class table
abbrev pub view : {T : Type 0} → (T → Branch) → Classed T → View
view marks s = record { counts = s.counts; marks = marks s.table.now; leader = leader_of s.classes.now }

abbrev pub mark_in : View → Ground → Mark
mark_in v g = mark_at v.counts v.marks g

abbrev pub atom_with : Symbol → ℕ → ℕ → Ground
atom_with Same' a b = Same a b
atom_with (Prop' p) a b = Prop p a
atom_with (Rel' r) a b = Rel r a b

-- how many second names there are
abbrev pub width : Counts → Symbol → ℕ
width c Same' = c.names
width c (Prop' p) = 1
width c (Rel' r) = c.names

-- a symbol of the book
abbrev pub LawfulSymbol : Counts → Symbol → Type 0
LawfulSymbol c Same' = Unit
LawfulSymbol c (Prop' p) = p < c.properties
LawfulSymbol c (Rel' r) = r < c.relations

-- how many symbols the book has
abbrev pub symbols : Counts → ℕ
symbols c = 1 + c.properties + c.relations

-- sameness, then the properties, then the relations
abbrev pub symbol_at : Counts → ℕ → Symbol
symbol_at c zero = Same'
symbol_at c (suc k) = cond (nat_lt k c.properties) (Prop' k) (Rel' (k - c.properties))

-- for the name x, and a second name with the leader q, the symbol's atom has the mark
abbrev pub MeetsRow : View → Symbol → Mark → ℕ → ℕ → Type 0
MeetsRow v s m x q = (y : ℕ) × (y < width v.counts s) × ((v.leader y ≡ q) × (mark_in v (atom_with s x y) ≡ m))

-- for names with the leaders p and q it has the mark
abbrev pub Meets : View → Symbol → Mark → ℕ → ℕ → Type 0
Meets v s m p q = (x : ℕ) × (x < v.counts.names) × ((v.leader x ≡ p) × MeetsRow v s m x q)

-- the pairs are those of the leaders for which the symbol's atom has the mark
abbrev pub Found : View → Symbol → Mark → Pairs → Type 0
Found v s m pairs = (p q : ℕ) → (Has pairs p q → Meets v s m p q) × (Meets v s m p q → Has pairs p q)

-- for the leaders p and q the symbol holds in the branch's own model
abbrev pub Holds : View → Symbol → ℕ → ℕ → Type 0
Holds v Same' p q = (p ≡ q) × (p < 32)
Holds v (Prop' r) p q = Meets v (Prop' r) Yes p q
Holds v (Rel' r) p q = Meets v (Rel' r) Yes p q

-- the pairs are those leaders
abbrev pub Holding : View → Symbol → Pairs → Type 0
Holding v s pairs = (p q : ℕ) → (Has pairs p q → Holds v s p q) × (Holds v s p q → Has pairs p q)

-- for leaders for which the symbol holds, an atom of it stands no
abbrev pub SymbolClash : View → Symbol → Type 0
SymbolClash v s = (p : ℕ) × (q : ℕ) × Holds v s p q × Meets v s No p q
