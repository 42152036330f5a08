-- The pairs of leaders for which a symbol's atom has a mark, found name by name.
use Rattle.std.proofs.Common.{◌≡◌, ℕ, ◌+◌, ◌<◌, ◌⊎◌, sym, ◌∙◌, subst, ⊎_elim, arith, below_more}
use Rattle.syntax.specs.declared.types.Mark.{Mark}
use Rattle.classes.specs.declared.pairs.Pairs.{Pairs}
use Rattle.classes.specs.declared.symbol.Symbol.{Symbol}
use Rattle.classes.specs.Pairs.{Has}
use Rattle.classes.specs.Symbols.{Found, Meets, View, atom_with, mark_in, width}

-- found so far: every pair is one of those, and those of first names below x, and of x and second names below y, are there
pub record Sofar (v : View) (s : Symbol) (m : Mark) (x y : ℕ) (pairs : Pairs) : Type 0 where
  pub only : (p q : ℕ) → Has pairs p q → Meets v s m p q
  pub rows : (a : ℕ) → a < x → (b : ℕ) → b < width v.counts s → mark_in v (atom_with s a b) ≡ m → Has pairs (v.leader a) (v.leader b)
  pub row : (b : ℕ) → b < y → mark_in v (atom_with s x b) ≡ m → Has pairs (v.leader x) (v.leader b)

module _ (v : View) (s : Symbol) (m : Mark) (x y : ℕ) (pairs : Pairs) where
  -- nothing is found yet
  pub found_none : ((p q : ℕ) → Has pairs p q → ⊥) → Sofar v s m 0 0 pairs
  found_none none = record { only = λ p q h. absurd (none p q h); rows = λ a h. absurd (omega arith); row = λ b h. absurd (omega arith) }

  pub found_pass : Sofar v s m x y pairs → (mark_in v (atom_with s x y) ≡ m → ⊥) → Sofar v s m x (y + 1) pairs
  found_pass is other = record { only = is.only; rows = is.rows; row = below_more _ y is.row (λ e. absurd (other e)) }

  pub found_put :
      (after : Pairs) (a b : ℕ) → Sofar v s m x y pairs → x < v.counts.names → y < width v.counts s → mark_in v (atom_with s x y) ≡ m →
      a ≡ v.leader x → b ≡ v.leader y → Has after a b → ((p q : ℕ) → Has pairs p q → Has after p q) →
      ((p q : ℕ) → Has after p q → Has pairs p q ⊎ ((p ≡ a) × (q ≡ b))) → Sofar v s m x (y + 1) after
  found_put after a b is hx hy e at_a at_b here more only =
      record {
        only = λ p q h. ⊎_elim (is.only p q) (λ t. (x, hx, (sym (t.0 ∙ at_a), (y, hy, (sym (t.1 ∙ at_b), e))))) (only p q h);
        rows = λ d h b k f. more _ _ (is.rows d h b k f);
        row = below_more _ y (λ b h f. more _ _ (is.row b h f)) (λ _. subst (Has after (v.leader x)) at_b (subst (λ (k : ℕ). Has after k b) at_a here));
      }

-- a row is whole
pub found_row : (v : View) (s : Symbol) (m : Mark) (x y : ℕ) (pairs : Pairs) → y ≡ width v.counts s → Sofar v s m x y pairs → Sofar v s m (x + 1) 0 pairs
found_row v s m x y pairs e is = record { only = is.only; rows = below_more _ x is.rows (λ b h. is.row b (omega arith)); row = λ b h. absurd (omega arith) }

-- all rows are whole
pub found_all : (v : View) (s : Symbol) (m : Mark) (pairs : Pairs) → Sofar v s m v.counts.names 0 pairs → Found v s m pairs
found_all v s m pairs is p q = (
  is.only p q,
  λ (x, hx, (e, (y, hy, (f, m)))). subst (λ (k : ℕ). Has pairs k q) e (subst (λ (k : ℕ). Has pairs (v.leader x) k) f (is.rows x hx y hy m)),
)
