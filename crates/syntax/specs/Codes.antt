-- A literal as five bytes: sign, kind, symbol, first term, second term.
use Rattle.std.specs.Prelude.{◌≡◌, ℕ, ◌+◌, ◌-◌, Bool, true, false, cond, ◌&&◌, List, [], ◌∷◌, Some, None, Option, ◌==◌, ◌≢◌, nat_lt}
use Rattle.std.specs.Option.{option_and_then}
use Rattle.syntax.specs.declared.types.Term.{Term}
use Rattle.syntax.specs.declared.types.Term.TheVariants.{Name, Var}
use Rattle.syntax.specs.declared.types.Atom.{Atom}
use Rattle.syntax.specs.declared.types.Atom.TheVariants.{Same, Prop, Rel}
use Rattle.syntax.specs.declared.types.Literal.{Literal}
use Rattle.syntax.specs.declared.counts.Counts.{Counts}
use Rattle.syntax.specs.Lawful.{LawfulLiteral}

-- 0 to 31 is a name, 32 to 35 is variable 0 to 3
abbrev pub term_code : Term → ℕ
term_code (Name a) = a
term_code (Var v) = v + 32

-- kind 0 is same, 1 a property, 2 a relation; same has the symbol 0, a property the second term 0
abbrev pub atom_code : Atom → List ℕ
atom_code (Same t u) = 0 ∷ 0 ∷ term_code t ∷ term_code u ∷ []
atom_code (Prop p t) = 1 ∷ p ∷ term_code t ∷ 0 ∷ []
atom_code (Rel r t u) = 2 ∷ r ∷ term_code t ∷ term_code u ∷ []

-- 1 says yes, 0 says no
abbrev pub sign_code : Bool → ℕ
sign_code true = 1
sign_code false = 0

abbrev pub literal_code : Literal → List ℕ
literal_code l = sign_code l.sign ∷ atom_code l.atom

-- bytes are read exactly when a lawful literal has them, and as that literal
abbrev pub Decoded : Counts → List ℕ → Option Literal → Type 0
Decoded c bytes (Some l) = LawfulLiteral c l × (literal_code l ≡ bytes)
Decoded c bytes None = (l : Literal) → LawfulLiteral c l → literal_code l ≢ bytes

-- a literal is written exactly when it is lawful, and as its bytes
abbrev pub Encoded : Counts → Literal → Option (List ℕ) → Type 0
Encoded c l (Some bytes) = LawfulLiteral c l × (bytes ≡ literal_code l)
Encoded c l None = LawfulLiteral c l → ⊥

-- what is read from the bytes that were written is the literal
abbrev pub Round : Type 0
Round = (c : Counts) (l : Literal) (bytes : List ℕ) (read : Option Literal) → Encoded c l (Some bytes) → Decoded c bytes read → read ≡ Some l

-- what is written of a literal that was read are the bytes
abbrev pub Back : Type 0
Back = (c : Counts) (bytes : List ℕ) (l : Literal) (written : Option (List ℕ)) → Decoded c bytes (Some l) → Encoded c l written → written ≡ Some bytes

-- The reading as tests, part by part; Decoded is what it comes to.
abbrev pub term_of : Counts → ℕ → Option Term
term_of c b = cond (nat_lt b 32) (cond (nat_lt b c.names) (Some (Name b)) None) (cond (nat_lt b 36) (Some (Var (b - 32))) None)

abbrev pub atom_read : Counts → ℕ → ℕ → ℕ → ℕ → Option Atom
atom_read c kind symbol first second =
    cond (kind == 0) (cond (symbol == 0) (option_and_then (λ t. option_and_then (λ u. Some (Same t u)) (term_of c second)) (term_of c first)) None)
    (cond (kind == 1) (cond (nat_lt symbol c.properties && second == 0) (option_and_then (λ t. Some (Prop symbol t)) (term_of c first)) None)
    (cond (kind == 2) (cond (nat_lt symbol c.relations) (option_and_then (λ t. option_and_then (λ u. Some (Rel symbol t u)) (term_of c second)) (term_of c first)) None) None))
