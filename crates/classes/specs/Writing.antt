-- How a model comes into memory, some atoms at a time.
use Rattle.std.specs.Prelude.{◌≡◌, ℕ, ◌<◌, List, length, drop}
use Rattle.syntax.specs.declared.types.Ground.{Ground}
use Rattle.syntax.specs.declared.counts.Counts.{Counts}
use Rattle.syntax.specs.Numbers.{atoms, LawfulGround}
use Rattle.semantics.specs.Branch.{own}
use Rattle.semantics.specs.Meaning.{Interpretation}
use Rattle.classes.specs.declared.symbol.Symbol.{Symbol}
use Rattle.classes.specs.Symbols.{View, atom_with, width}
use Rattle.classes.specs.Models.{Right}

-- the branch's own model
abbrev pub own_of : View → Interpretation
own_of v = own v.counts v.marks v.leader

-- only the first A bytes have changed, and what was right is right
pub record Better (c : Counts) (I : Interpretation) (before after : List ℕ) : Type 0 where
  pub long : length after ≡ length before
  pub rest : drop (atoms c) after ≡ drop (atoms c) before
  pub kept : (g : Ground) → LawfulGround c g → Right c I before g → Right c I after g

-- right are the symbol's atoms of x and a second name below n
abbrev pub RowRight : Counts → Interpretation → Symbol → ℕ → ℕ → List ℕ → Type 0
RowRight c I s x n bytes = (y : ℕ) → y < n → Right c I bytes (atom_with s x y)

-- all of the symbol's atoms are right
abbrev pub SymbolRight : Counts → Interpretation → Symbol → List ℕ → Type 0
SymbolRight c I s bytes = (x : ℕ) → x < c.names → RowRight c I s x (width c s) bytes
