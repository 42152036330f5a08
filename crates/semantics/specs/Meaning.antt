-- What clauses say of an interpretation.
use Rattle.std.specs.Prelude.{◌≡◌, ℕ, zero, suc, ◌<◌, Bool, List, ◌==◌}
use Rattle.std.specs.List.{ContainsAt as Has, AllByRecursion}
use Rattle.syntax.specs.declared.types.Term.{Term}
use Rattle.syntax.specs.declared.types.Term.TheVariants.{Name, Var}
use Rattle.syntax.specs.declared.types.Atom.{Atom}
use Rattle.syntax.specs.declared.types.Atom.TheVariants.{Same as Same', Prop as Prop', Rel as Rel'}
use Rattle.syntax.specs.declared.types.Ground.{Ground}
use Rattle.syntax.specs.declared.types.Ground.TheVariants.{Same, Prop, Rel}
use Rattle.syntax.specs.declared.types.Literal.{Literal}
use Rattle.syntax.specs.declared.counts.Counts.{Counts}
use Rattle.syntax.specs.Lawful.{Lawful}

abbrev pub Clause : Type 0
Clause = List Literal

infix 4 ◌∈◌
abbrev pub ◌∈◌ : {A : Type 0} → A → List A → Type 0
x ∈ xs = Has xs x

-- a list of clauses, each lawful
abbrev pub AllLawful : Counts → List Clause → Type 0
AllLawful c clauses = AllByRecursion (Lawful c) clauses

-- the thing that each name goes to, which things have each property, and which ordered pairs stand in each relation
pub record Interpretation : Type 0 where
  pub thing : ℕ → ℕ
  pub prop : ℕ → ℕ → Bool
  pub rel : ℕ → ℕ → ℕ → Bool

-- an interpretation over the counts: each name below N goes to a thing below N
abbrev pub Over : Counts → Interpretation → Type 0
Over c I = (a : ℕ) → a < c.names → I.thing a < c.names

-- whether a ground atom holds
abbrev pub value : Interpretation → Ground → Bool
value I (Same a b) = I.thing a == I.thing b
value I (Prop p a) = I.prop p (I.thing a)
value I (Rel r a b) = I.rel r (I.thing a) (I.thing b)

-- the name put for each variable
abbrev pub Assignment : Type 0
Assignment = ℕ → ℕ

-- each of the four variables gets a name below N
abbrev pub Assigns : Counts → Assignment → Type 0
Assigns c σ = (v : ℕ) → v < 4 → σ v < c.names

-- the assignment of four names to the variables 0 to 3
abbrev pub four : ℕ → ℕ → ℕ → ℕ → Assignment
four x y z w zero = x
four x y z w (suc zero) = y
four x y z w (suc (suc zero)) = z
four x y z w (suc (suc (suc v))) = w

-- the instance of an atom: its variables replaced by their names
abbrev pub name_at : Assignment → Term → ℕ
name_at σ (Name a) = a
name_at σ (Var v) = σ v

abbrev pub ground_of : Assignment → Atom → Ground
ground_of σ (Same' t u) = Same (name_at σ t) (name_at σ u)
ground_of σ (Prop' p t) = Prop p (name_at σ t)
ground_of σ (Rel' r t u) = Rel r (name_at σ t) (name_at σ u)

-- a literal holds in an instance when its atom there has the literal's sign
abbrev pub Holds : Interpretation → Assignment → Literal → Type 0
Holds I σ l = value I (ground_of σ l.atom) ≡ l.sign

abbrev pub SomeHolds : Interpretation → Assignment → Clause → Type 0
SomeHolds I σ cl = (l : Literal) × (l ∈ cl) × Holds I σ l

-- a clause is satisfied when in every instance some literal holds
abbrev pub Satisfies : Counts → Interpretation → Clause → Type 0
Satisfies c I cl = (σ : Assignment) → Assigns c σ → SomeHolds I σ cl

-- a model of the clauses: an interpretation over the counts that satisfies all of them
pub record Model (c : Counts) (clauses : List Clause) (I : Interpretation) : Type 0 where
  pub over : Over c I
  pub all : (cl : Clause) → cl ∈ clauses → Satisfies c I cl
