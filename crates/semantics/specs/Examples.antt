-- Worked examples. P, Q, S are properties, R is a relation, a, b, d are names.
use Rattle.std.specs.Prelude.{◌≡◌, ℕ, ◌<◌, true, false, [], ◌∷◌, ◌≢◌}
use Rattle.syntax.specs.declared.types.Term.TheVariants.{Name, Var}
use Rattle.syntax.specs.declared.types.Atom.{Atom}
use Rattle.syntax.specs.declared.types.Atom.TheVariants.{Same, Prop, Rel}
use Rattle.syntax.specs.declared.types.Literal.{Literal}
use Rattle.syntax.specs.declared.counts.Counts.{Counts}
use Rattle.semantics.specs.Meaning.{Clause}
use Rattle.semantics.specs.Judgements.{Consistent, Contradictory, EqualNames, OpenNames, EqualBooks, IsFirstOnly}

-- an atom said, and an atom denied
abbrev pub said : Atom → Literal
said a = record { sign = true; atom = a }

abbrev pub denied : Atom → Literal
denied a = record { sign = false; atom = a }

-- what has P has Q: -P(x) Q(x)
abbrev pub sub : ℕ → ℕ → Clause
sub p q = denied (Prop p (Var 0)) ∷ said (Prop q (Var 0)) ∷ []

-- R leads from one thing to at most one: -R(x,y) -R(x,z) same(y,z)
abbrev pub function : ℕ → Clause
function r = denied (Rel r (Var 0) (Var 1)) ∷ denied (Rel r (Var 0) (Var 2)) ∷ said (Same (Var 1) (Var 2)) ∷ []

-- R(x,x), and -R(x,x)
abbrev pub ref : ℕ → Clause
ref r = said (Rel r (Var 0) (Var 0)) ∷ []

abbrev pub irref : ℕ → Clause
irref r = denied (Rel r (Var 0) (Var 0)) ∷ []

-- ground literals
abbrev pub is : ℕ → ℕ → Clause
is a p = said (Prop p (Name a)) ∷ []

abbrev pub isnt : ℕ → ℕ → Clause
isnt a p = denied (Prop p (Name a)) ∷ []

abbrev pub has : ℕ → ℕ → ℕ → Clause
has a r b = said (Rel r (Name a) (Name b)) ∷ []

abbrev pub eq : ℕ → ℕ → Clause
eq a b = said (Same (Name a) (Name b)) ∷ []

abbrev pub ne : ℕ → ℕ → Clause
ne a b = denied (Same (Name a) (Name b)) ∷ []

pub record Examples (c : Counts) : Type 0 where
  -- no clauses and one name
  pub nothing_said : c.names ≡ 1 → Consistent c []
  pub not_itself : (a : ℕ) → Contradictory c (ne a a ∷ [])
  pub equal_names_differ : (a b p : ℕ) → Contradictory c (is a p ∷ isnt b p ∷ eq a b ∷ [])
  pub two_values : (a b d r : ℕ) → a < c.names → b < c.names → d < c.names → EqualNames c (function r ∷ has a r b ∷ has a r d ∷ []) b d
  -- no clauses and two names
  pub two_names : c.names ≡ 2 → OpenNames c [] 0 1 × EqualNames c [] 0 0
  pub chain : (p q s : ℕ) → EqualBooks c (sub p q ∷ sub q s ∷ []) (sub p q ∷ sub q s ∷ sub p s ∷ [])
  pub one_way : (p q : ℕ) → (p ≢ q) → IsFirstOnly c (sub p q ∷ []) (sub q p ∷ [])
  pub both_contradictory : (a b r : ℕ) → EqualBooks c (eq a b ∷ ne a b ∷ []) (ref r ∷ irref r ∷ [])
