-- What books are judged to be, and what they say of a ground literal: statements about interpretations and models.
use Rattle.std.specs.Prelude.{◌≡◌, ℕ, Bool, true, not, List}
use Rattle.syntax.specs.declared.types.Ground.{Ground}
use Rattle.syntax.specs.declared.types.Ground.TheVariants.{Same}
use Rattle.syntax.specs.declared.counts.Counts.{Counts}
use Rattle.semantics.specs.Meaning.{Clause, Interpretation, value, Model}

-- the clauses have a model
abbrev pub Consistent : Counts → List Clause → Type 0
Consistent c clauses = (I : Interpretation) × Model c clauses I

-- they have none
abbrev pub Contradictory : Counts → List Clause → Type 0
Contradictory c clauses = Consistent c clauses → ⊥

-- every model makes the literal hold
abbrev pub Always : Counts → List Clause → Ground → Bool → Type 0
Always c clauses g s = (I : Interpretation) → Model c clauses I → value I g ≡ s

-- some model does
abbrev pub Possible : Counts → List Clause → Ground → Bool → Type 0
Possible c clauses g s = (I : Interpretation) × Model c clauses I × (value I g ≡ s)

-- of clauses that have a model: every model makes the literal hold
abbrev pub Sure : Counts → List Clause → Ground → Bool → Type 0
Sure c clauses g s = Consistent c clauses × Always c clauses g s

-- none does
abbrev pub Excluded : Counts → List Clause → Ground → Bool → Type 0
Excluded c clauses g s = Consistent c clauses × Always c clauses g (not s)

-- one does and one does not; the answer for it is called open
abbrev pub Undecided : Counts → List Clause → Ground → Bool → Type 0
Undecided c clauses g s = Possible c clauses g s × Possible c clauses g (not s)

-- the same of two names
abbrev pub EqualNames : Counts → List Clause → ℕ → ℕ → Type 0
EqualNames c clauses a b = Sure c clauses (Same a b) true

abbrev pub DistinctNames : Counts → List Clause → ℕ → ℕ → Type 0
DistinctNames c clauses a b = Excluded c clauses (Same a b) true

abbrev pub OpenNames : Counts → List Clause → ℕ → ℕ → Type 0
OpenNames c clauses a b = Undecided c clauses (Same a b) true

-- every model of the one book is one of the other
abbrev pub Within : Counts → List Clause → List Clause → Type 0
Within c one other = (I : Interpretation) → Model c one I → Model c other I

abbrev pub EqualBooks : Counts → List Clause → List Clause → Type 0
EqualBooks c first second = Within c first second × Within c second first

-- some interpretation over the counts satisfies the one and not the other
abbrev pub Parted : Counts → List Clause → List Clause → Type 0
Parted c one other = (I : Interpretation) × Model c one I × (Model c other I → ⊥)

abbrev pub IsFirstOnly : Counts → List Clause → List Clause → Type 0
IsFirstOnly c first second = Parted c first second

-- none satisfies the first and not the second, and some satisfies the second and not the first
abbrev pub IsSecondOnly : Counts → List Clause → List Clause → Type 0
IsSecondOnly c first second = Within c first second × Parted c second first
