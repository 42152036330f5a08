-- A branch: what is told of the ground atoms. Links, clashes, and the branch's own model.
use Rattle.std.specs.Prelude.{◌≡◌, ℕ, zero, suc, ◌<◌, ◌≤◌, Bool, true, false, not, ◌&&◌, ◌||◌, ◌⊎◌, List, ◌==◌, slice_index_or, slice_set}
use Rattle.syntax.specs.declared.types.Ground.{Ground}
use Rattle.syntax.specs.declared.types.Ground.TheVariants.{Same, Prop, Rel}
use Rattle.syntax.specs.declared.types.Literal.{Literal}
use Rattle.syntax.specs.declared.types.Mark.{Mark}
use Rattle.syntax.specs.declared.types.Mark.TheVariants.{Open, Yes, No}
use Rattle.syntax.specs.declared.counts.Counts.{Counts}
use Rattle.syntax.specs.Numbers.{number_of, LawfulGround}
pub use Rattle.syntax.specs.Signs.{signed}
use Rattle.semantics.specs.Meaning.{Clause, ◌∈◌, Interpretation, value, Assignment, Assigns, ground_of, Model}

-- the marks of the ground atoms, each at its number; an atom past the end is open
abbrev pub Branch : Type 0
Branch = List Mark

abbrev pub mark_at : Counts → Branch → Ground → Mark
mark_at c marks g = slice_index_or marks (number_of c g) Open

-- the branch with one atom told
abbrev pub tell : Counts → Branch → Ground → Bool → Branch
tell c marks g s = slice_set marks (number_of c g) (signed s)

-- what stands on the branch is so in the interpretation
abbrev pub Agrees : Counts → Interpretation → Branch → Type 0
Agrees c I marks = (g : Ground) → LawfulGround c g → (s : Bool) → mark_at c marks g ≡ signed s → value I g ≡ s

-- no model of the clauses agrees with the branch
abbrev pub Refuted : Counts → List Clause → Branch → Type 0
Refuted c clauses marks = (I : Interpretation) → Model c clauses I → Agrees c I marks → ⊥

-- joined by a chain of same atoms standing yes, read either way; a name is linked with itself
pub data Linked (c : Counts) (marks : Branch) : ℕ → ℕ → Type 0 where
  self : {a : ℕ} → a < c.names → Linked c marks a a
  told : {a b : ℕ} → a < c.names → b < c.names → mark_at c marks (Same a b) ≡ Yes → Linked c marks a b
  back : {a b : ℕ} → Linked c marks a b → Linked c marks b a
  on : {a b d : ℕ} → Linked c marks a b → Linked c marks b d → Linked c marks a d

-- the same symbol, and names linked place by place
pub data Alike (c : Counts) (marks : Branch) : Ground → Ground → Type 0 where
  same : {a b x y : ℕ} → Linked c marks a x → Linked c marks b y → Alike c marks (Same a b) (Same x y)
  prop : {p a x : ℕ} → Linked c marks a x → Alike c marks (Prop p a) (Prop p x)
  rel : {r a b x y : ℕ} → Linked c marks a x → Linked c marks b y → Alike c marks (Rel r a b) (Rel r x y)

-- same stands no for linked names, or a property or relation stands both yes and no for names linked place by place
pub data Clash (c : Counts) (marks : Branch) : Type 0 where
  same_no : (a b : ℕ) → Linked c marks a b → mark_at c marks (Same a b) ≡ No → Clash c marks
  prop_both :
      (p a x : ℕ) → p < c.properties → Linked c marks a x →
      mark_at c marks (Prop p a) ≡ Yes → mark_at c marks (Prop p x) ≡ No → Clash c marks
  rel_both :
      (r a b x y : ℕ) → r < c.relations → Linked c marks a x → Linked c marks b y →
      mark_at c marks (Rel r a b) ≡ Yes → mark_at c marks (Rel r x y) ≡ No → Clash c marks

-- a literal's instance stands with its sign
abbrev pub Stands : Counts → Branch → Assignment → Literal → Type 0
Stands c marks σ l = mark_at c marks (ground_of σ l.atom) ≡ signed l.sign

-- it stands with the other sign
abbrev pub Denied : Counts → Branch → Assignment → Literal → Type 0
Denied c marks σ l = mark_at c marks (ground_of σ l.atom) ≡ signed (not l.sign)

-- it is denied, or has the number of the atom g and the sign s
abbrev pub DeniedOr : Counts → Branch → Assignment → Ground → Bool → Literal → Type 0
DeniedOr c marks σ g s l = Denied c marks σ l ⊎ ((number_of c (ground_of σ l.atom) ≡ number_of c g) × (l.sign ≡ s))

abbrev pub SomeStands : Counts → Branch → Assignment → Clause → Type 0
SomeStands c marks σ cl = (l : Literal) × (l ∈ cl) × Stands c marks σ l

-- every instance of every clause has a literal standing with its sign
abbrev pub Fulfilled : Counts → List Clause → Branch → Type 0
Fulfilled c clauses marks = (cl : Clause) → cl ∈ clauses → (σ : Assignment) → Assigns c σ → SomeStands c marks σ cl

-- a class table gives each name its leader, the lowest name linked with it
pub record ClassTable (c : Counts) (marks : Branch) (leader : ℕ → ℕ) : Type 0 where
  pub linked : (a : ℕ) → a < c.names → Linked c marks a (leader a)
  pub lowest : (a b : ℕ) → a < c.names → Linked c marks a b → leader a ≤ b

-- what stands for linked names: they are one thing, and a property or relation stands yes
abbrev pub StandsFor : Counts → Branch → Ground → Type 0
StandsFor c marks (Same a b) = Linked c marks a b
StandsFor c marks (Prop p a) = (x : ℕ) × Linked c marks a x × (mark_at c marks (Prop p x) ≡ Yes)
StandsFor c marks (Rel r a b) = (x : ℕ) × Linked c marks a x × ((y : ℕ) × Linked c marks b y × (mark_at c marks (Rel r x y) ≡ Yes))

-- whether the test holds of a number below n
abbrev pub any_below : ℕ → (ℕ → Bool) → Bool
any_below zero f = false
any_below (suc n) f = f n || any_below n f

abbrev pub is_yes : Mark → Bool
is_yes Yes = true
is_yes No = false
is_yes Open = false

-- the branch's own model: each name goes to its leader, and a property or relation holds exactly where it stands yes for linked names
abbrev pub own : Counts → Branch → (ℕ → ℕ) → Interpretation
own c marks leader = record {
  thing = leader;
  prop = λ p t. any_below c.names (λ a. (leader a == t) && is_yes (mark_at c marks (Prop p a)));
  rel = λ r t u. any_below c.names (λ a. (leader a == t) && any_below c.names (λ b. (leader b == u) && is_yes (mark_at c marks (Rel r a b))));
}
