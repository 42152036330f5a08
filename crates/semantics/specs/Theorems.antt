-- What is proved of interpretations, branches and models.
use Rattle.std.specs.Prelude.{◌≡◌, ℕ, ◌<◌, ◌≤◌, Bool, true, false, not, ◌⊎◌, ◌↔◌, List, [], ◌∷◌, ◌++◌, Result}
use Rattle.std.specs.List.{AllByRecursion}
use Rattle.syntax.specs.declared.types.Ground.{Ground}
use Rattle.syntax.specs.declared.types.Ground.TheVariants.{Same}
use Rattle.syntax.specs.declared.types.Mark.TheVariants.{Open, Yes}
use Rattle.syntax.specs.declared.types.Refusal.{Refusal}
use Rattle.syntax.specs.declared.counts.Counts.{Counts}
use Rattle.syntax.specs.Lawful.{Lawful}
use Rattle.syntax.specs.Numbers.{LawfulGround}
use Rattle.semantics.specs.Meaning.{Clause, ◌∈◌, AllLawful, Interpretation, Over, value, Assignment, Assigns, four, SomeHolds, Satisfies, Model}
use Rattle.semantics.specs.Bytes.{BytesOf, Congruent}
use Rattle.semantics.specs.Branch.{Branch, mark_at, signed, tell, Agrees, Refuted, Linked, Alike, Clash, Denied, DeniedOr, SomeStands, Fulfilled, ClassTable, StandsFor, own}
use Rattle.semantics.specs.Judgements.{Consistent, Contradictory, Always, Sure, Excluded, Undecided, EqualBooks, Parted, IsFirstOnly, IsSecondOnly}
use Rattle.semantics.specs.Suppositions.{unit, denials}
use Rattle.semantics.specs.Checks.{Proper, Finding, Checked}
use Rattle.semantics.specs.Examples.{Examples}

-- The own model.

-- a branch without clash that fulfils lawful clauses: its own model is one of them
abbrev pub OwnModel : Type 0
OwnModel =
    (c : Counts) (clauses : List Clause) (marks : Branch) (leader : ℕ → ℕ) →
    AllLawful c clauses → ClassTable c marks leader →
    (Clash c marks → ⊥) → Fulfilled c clauses marks → Model c clauses (own c marks leader)

-- exactly that holds in it which stands for linked names
abbrev pub OwnExact : Type 0
OwnExact =
    (c : Counts) (marks : Branch) (leader : ℕ → ℕ) (g : Ground) →
    ClassTable c marks leader → LawfulGround c g → (value (own c marks leader) g ≡ true) ↔ StandsFor c marks g

-- so it is one whatever class table it is made from
abbrev pub OneOwn : Type 0
OneOwn =
    (c : Counts) (marks : Branch) (one other : ℕ → ℕ) (g : Ground) →
    ClassTable c marks one → ClassTable c marks other → LawfulGround c g → value (own c marks one) g ≡ value (own c marks other) g

-- it agrees with the branch
abbrev pub OwnAgrees : Type 0
OwnAgrees = (c : Counts) (marks : Branch) (leader : ℕ → ℕ) → ClassTable c marks leader → (Clash c marks → ⊥) → Agrees c (own c marks leader) marks

-- a branch has one class table
abbrev pub OneTable : Type 0
OneTable =
    (c : Counts) (marks : Branch) (one other : ℕ → ℕ) →
    ClassTable c marks one → ClassTable c marks other → (a : ℕ) → a < c.names → one a ≡ other a

-- a table is the class table if each name is linked with its leader, which is not above it, and names that stand the same have one leader
abbrev pub TableFrom : Type 0
TableFrom =
    (c : Counts) (marks : Branch) (leader : ℕ → ℕ) →
    ((a : ℕ) → a < c.names → Linked c marks a (leader a)) → ((a : ℕ) → a < c.names → leader a ≤ a) →
    ((a b : ℕ) → a < c.names → b < c.names → mark_at c marks (Same a b) ≡ Yes → leader a ≡ leader b) → ClassTable c marks leader

-- a branch fulfils clauses if it does so at every four names
abbrev pub FulfilledFrom : Type 0
FulfilledFrom =
    (c : Counts) (clauses : List Clause) (marks : Branch) → AllLawful c clauses →
    ((cl : Clause) → cl ∈ clauses → (x y z w : ℕ) → x < c.names → y < c.names → z < c.names → w < c.names → SomeStands c marks (four x y z w) cl) →
    Fulfilled c clauses marks

-- What agrees with a branch.

-- an interpretation that agrees with a branch makes linked names one thing
abbrev pub OneThing : Type 0
OneThing = (c : Counts) (marks : Branch) (I : Interpretation) → Agrees c I marks → (a b : ℕ) → Linked c marks a b → I.thing a ≡ I.thing b

-- and meets no clash there
abbrev pub NoClash : Type 0
NoClash = (c : Counts) (marks : Branch) (I : Interpretation) → Agrees c I marks → Clash c marks → ⊥

-- One step.

-- an instance whose every literal is denied, or is the atom g with the sign s: the model agrees with the branch with that told
abbrev pub Forced : Type 0
Forced =
    (c : Counts) (marks : Branch) (I : Interpretation) (clauses : List Clause) (cl : Clause) (σ : Assignment) (g : Ground) (s : Bool) →
    Model c clauses I → Agrees c I marks → Lawful c cl → cl ∈ clauses → Assigns c σ → LawfulGround c g →
    AllByRecursion (DeniedOr c marks σ g s) cl → Agrees c I (tell c marks g s)

-- with all denied there is no such model
abbrev pub DeniedAll : Type 0
DeniedAll =
    (c : Counts) (marks : Branch) (I : Interpretation) (clauses : List Clause) (cl : Clause) (σ : Assignment) →
    Model c clauses I → Agrees c I marks → Lawful c cl → cl ∈ clauses → Assigns c σ → AllByRecursion (Denied c marks σ) cl → ⊥

-- what stands may be told of linked names
abbrev pub ToldAlike : Type 0
ToldAlike =
    (c : Counts) (marks : Branch) (I : Interpretation) (g h : Ground) (s : Bool) →
    Agrees c I marks → LawfulGround c g → Alike c marks g h → mark_at c marks g ≡ signed s → Agrees c I (tell c marks h s)

-- an atom told yes, or told no: the interpretation agrees with one of the two
abbrev pub Split : Type 0
Split =
    (c : Counts) (marks : Branch) (I : Interpretation) (g : Ground) →
    Agrees c I marks → LawfulGround c g → Agrees c I (tell c marks g true) ⊎ Agrees c I (tell c marks g false)

-- how a branch is refuted, and what the refutation of a branch where nothing stands says
pub record Refuting (c : Counts) (clauses : List Clause) : Type 0 where
  pub clash : (marks : Branch) → Clash c marks → Refuted c clauses marks
  pub conflict :
      (marks : Branch) (cl : Clause) (σ : Assignment) →
      cl ∈ clauses → Assigns c σ → AllByRecursion (Denied c marks σ) cl → Refuted c clauses marks
  pub forced :
      (marks : Branch) (cl : Clause) (σ : Assignment) (g : Ground) (s : Bool) →
      cl ∈ clauses → Assigns c σ → LawfulGround c g → AllByRecursion (DeniedOr c marks σ g s) cl →
      Refuted c clauses (tell c marks g s) → Refuted c clauses marks
  pub alike :
      (marks : Branch) (g h : Ground) (s : Bool) →
      LawfulGround c g → Alike c marks g h → mark_at c marks g ≡ signed s →
      Refuted c clauses (tell c marks h s) → Refuted c clauses marks
  pub split :
      (marks : Branch) (g : Ground) → LawfulGround c g →
      Refuted c clauses (tell c marks g true) → Refuted c clauses (tell c marks g false) → Refuted c clauses marks
  pub empty :
      (marks : Branch) → ((g : Ground) → LawfulGround c g → mark_at c marks g ≡ Open) →
      Refuted c clauses marks → Contradictory c clauses

abbrev pub Refutation : Type 0
Refutation = (c : Counts) (clauses : List Clause) → AllLawful c clauses → Refuting c clauses

-- Suppositions.

-- clauses and a denied ground literal have no model exactly when every model makes the literal hold
abbrev pub Denial : Type 0
Denial =
    (c : Counts) (clauses : List Clause) (g : Ground) (s : Bool) →
    Contradictory c (clauses ++ unit g (not s) ∷ []) ↔ Always c clauses g s

-- some interpretation satisfies the one book and not the other exactly when, for some clause of the other and some assignment,
-- the one book and the denials of that instance's literals have a model
abbrev pub CounterInstance : Type 0
CounterInstance =
    (c : Counts) (one other : List Clause) → AllLawful c other →
    Parted c one other ↔ ((cl : Clause) × (cl ∈ other) × ((σ : Assignment) × Assigns c σ × Consistent c (one ++ denials σ cl)))

-- Bytes.

-- an interpretation over the counts has bytes
abbrev pub SomeBytes : Type 0
SomeBytes = (c : Counts) (I : Interpretation) → Over c I → (bytes : List ℕ) × BytesOf c I bytes

-- and no others
abbrev pub OneBytes : Type 0
OneBytes = (c : Counts) (I : Interpretation) (bytes others : List ℕ) → BytesOf c I bytes → BytesOf c I others → bytes ≡ others

-- two interpretations with the same bytes satisfy the same lawful clauses
abbrev pub SameBytes : Type 0
SameBytes =
    (c : Counts) (I J : Interpretation) (bytes : List ℕ) (cl : Clause) →
    BytesOf c I bytes → BytesOf c J bytes → Lawful c cl → Satisfies c I cl → Satisfies c J cl

-- bytes are those of an interpretation over the counts exactly when they are congruent
abbrev pub WhichBytes : Type 0
WhichBytes = (c : Counts) (bytes : List ℕ) → ((I : Interpretation) × BytesOf c I bytes) ↔ Congruent c bytes

-- Judgements.

-- a literal gets one answer: sure, excluded and undecided exclude each other, and each needs a model
abbrev pub OneTruth : Type 0
OneTruth =
    (c : Counts) (clauses : List Clause) (g : Ground) (s : Bool) →
    (Sure c clauses g s → Excluded c clauses g s → ⊥)
    × (Sure c clauses g s → Undecided c clauses g s → ⊥)
    × (Excluded c clauses g s → Undecided c clauses g s → ⊥)
    × (Undecided c clauses g s → Consistent c clauses)

-- two books get one answer: first only, second only and equal exclude each other
abbrev pub OneComparison : Type 0
OneComparison =
    (c : Counts) (first second : List Clause) →
    (IsFirstOnly c first second → IsSecondOnly c first second → ⊥)
    × (IsFirstOnly c first second → EqualBooks c first second → ⊥)
    × (IsSecondOnly c first second → EqualBooks c first second → ⊥)

-- Checking.

-- a clause is satisfied if some literal holds under every assignment of its own variables
abbrev pub OwnVariables : Type 0
OwnVariables =
    (c : Counts) (I : Interpretation) (cl : Clause) →
    ((σ : Assignment) → Proper c cl σ → SomeHolds I σ cl) → Satisfies c I cl

-- a check has one answer
abbrev pub OneAnswer : Type 0
OneAnswer =
    (c : Counts) (clauses : List Clause) (bytes : List ℕ) → AllLawful c clauses →
    (one other : Result Finding Refusal) → Checked c clauses bytes one → Checked c clauses bytes other → one ≡ other

-- Examples.

abbrev pub AllExamples : Type 0
AllExamples = (c : Counts) → Examples c
