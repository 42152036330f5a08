-- A model written into memory, atom by atom.
use Rattle.std.proofs.Common.{◌≡◌, ℕ, ◌+◌, ◌<◌, ◌≤◌, Bool, true, List, length, get_or, take, set, Decides, sym, refl, ap, ◌∙◌, subst, ⊎_elim, arith, length-set, get_or-set_other, get_or-set_same, below_more}
use Rattle.std.proofs.lemmas.List.{drop-set-lt, get_or-take, length-take-le}
use Rattle.std.proofs.lemmas.Bool.{cases_eq, eqb-true, eq-eqb, and_from, and_parts}
use Rattle.std.proofs.lemmas.Bool.Decides.{same_from_decides}
use Rattle.syntax.specs.declared.types.Ground.{Ground}
use Rattle.syntax.specs.declared.types.Ground.TheVariants.{Same, Prop, Rel}
use Rattle.syntax.specs.declared.types.Mark.{Mark}
use Rattle.syntax.specs.declared.types.Mark.TheVariants.{Yes}
use Rattle.syntax.specs.declared.counts.Counts.{Counts}
use Rattle.syntax.specs.Numbers.{atoms, number_of, LawfulGround}
use Rattle.syntax.proofs.Laws.{below_all}
use Rattle.semantics.specs.Meaning.{Interpretation, value}
use Rattle.semantics.specs.Bytes.{bit, BytesOf}
use Rattle.semantics.specs.Branch.{Branch, is_yes, own, ClassTable}
use Rattle.semantics.proofs.Finite.{any_in, any_out}
use Rattle.semantics.proofs.Instances.{together}
use Rattle.semantics.proofs.Own.{leader_below}
use Rattle.classes.specs.declared.pairs.Pairs.{Pairs}
use Rattle.classes.specs.declared.symbol.Symbol.{Symbol}
use Rattle.classes.specs.declared.symbol.Symbol.TheVariants.{Same as Same', Prop as Prop', Rel as Rel'}
use Rattle.classes.specs.Pairs.{Has}
use Rattle.classes.specs.Symbols.{Holding, LawfulSymbol, View, atom_with, symbol_at, symbols, width}
use Rattle.classes.specs.Models.{Filled, Right}
use Rattle.classes.specs.Writing.{Better, RowRight, SymbolRight, own_of}
use Rattle.classes.proofs.Listing.{listed}

pub atom_lawful : (c : Counts) (s : Symbol) (x y : ℕ) → LawfulSymbol c s → x < c.names → y < width c s → LawfulGround c (atom_with s x y)
atom_lawful c Same' x y l h k = (h, k)
atom_lawful c (Prop' p) x y l h k = (l, h)
atom_lawful c (Rel' r) x y l h k = (l, (h, k))

pub better_none : (c : Counts) (I : Interpretation) (bytes : List ℕ) → Better c I bytes bytes
better_none c I bytes = record { long = refl; rest = refl; kept = λ g l r. r }

pub better_on : (c : Counts) (I : Interpretation) (one two three : List ℕ) → Better c I one two → Better c I two three → Better c I one three
better_on c I one two three p q =
    record { long = q.long ∙ p.long; rest = q.rest ∙ p.rest; kept = λ g l r. q.kept g l (p.kept g l r) }

-- an atom written as it holds
module _ (c : Counts) (I : Interpretation) (bytes : List ℕ) (g : Ground) (t : Bool) (l : LawfulGround c g) (room : atoms c ≤ length bytes) (so : t ≡ value I g) where
  put_right : Right c I (set bytes (number_of c g) (bit t)) g
  put_right = get_or-set_same bytes (number_of c g) (bit t) 0 (omega (arith, below_all c g l)) ∙ ap bit so

  put_better : Better c I bytes (set bytes (number_of c g) (bit t))
  put_better =
      record {
        long = length-set bytes (number_of c g) (bit t);
        rest = drop-set-lt (atoms c) bytes (number_of c g) (bit t) (below_all c g l);
        kept = λ h k r. ⊎_elim
            (λ eq. ap (λ (j : ℕ). get_or (set bytes (number_of c g) (bit t)) j 0) eq ∙ put_right ∙ ap bit (together c I g h l k (sym eq)))
            (λ ne. get_or-set_other bytes (number_of c g) (number_of c h) (bit t) 0 ne ∙ r)
            (cases_eq (number_of c h) (number_of c g));
      }

-- written so far are the symbol's atoms of first names below x, and of x and second names below y
pub record Sofar (c : Counts) (I : Interpretation) (s : Symbol) (x y : ℕ) (before after : List ℕ) : Type 0 where
  pub better : Better c I before after
  pub rows : (a : ℕ) → a < x → RowRight c I s a (width c s) after
  pub row : RowRight c I s x y after

module _ (c : Counts) (I : Interpretation) (s : Symbol) (before : List ℕ) where
  pub wrote_none : Sofar c I s 0 0 before before
  wrote_none = record { better = better_none c I before; rows = λ a h. absurd (omega arith); row = λ b h. absurd (omega arith) }

  -- one atom more
  pub wrote_more :
      (x y : ℕ) (bytes after : List ℕ) (g : Ground) (t : Bool) → Sofar c I s x y before bytes → LawfulSymbol c s → x < c.names → y < width c s →
      atoms c ≤ length bytes → g ≡ atom_with s x y → t ≡ value I (atom_with s x y) → after ≡ set bytes (number_of c g) (bit t) → Sofar c I s x (y + 1) before after
  wrote_more x y bytes after g t is ls hx hy room at so e =
      let better = put_better c I bytes (atom_with s x y) t (atom_lawful c s x y ls hx hy) room so in
      subst (Sofar c I s x (y + 1) before) (ap (λ (o : Ground). set bytes (number_of c o) (bit t)) (sym at) ∙ sym e)
      record {
        better = better_on c I before bytes _ is.better better;
        rows = λ a h b k. better.kept (atom_with s a b) (atom_lawful c s a b ls (omega arith) k) (is.rows a h b k);
        row = below_more _ y (λ b h. better.kept (atom_with s x b) (atom_lawful c s x b ls hx (omega arith)) (is.row b h)) (put_right c I bytes (atom_with s x y) t (atom_lawful c s x y ls hx hy) room so);
      }

  -- a row is whole
  pub wrote_row : (x y : ℕ) (after : List ℕ) → y ≡ width c s → Sofar c I s x y before after → Sofar c I s (x + 1) 0 before after
  wrote_row x y after e is = record { better = is.better; rows = below_more _ x is.rows (λ b h. is.row b (omega arith)); row = λ b h. absurd (omega arith) }

is_yes_yes : (m : Mark) → is_yes m ≡ true → m ≡ Yes
is_yes_yes m e = grind arith

-- the pairs for which a symbol holds tell which of its atoms hold in the branch's own model
module _ (v : View) (small : (a : ℕ) → v.leader a < 32) where
  holding_tells :
      (s : Symbol) (pairs : Pairs) (x y : ℕ) (r : Bool) → Holding v s pairs → y < width v.counts s →
      Decides r (Has pairs (v.leader x) (v.leader y)) → r ≡ value (own_of v) (atom_with s x y)
  holding_tells Same' pairs x y r is hy d = same_from_decides r _ d (λ e. (is _ _).1 (eqb-true _ _ e, small x), λ h. eq-eqb _ _ ((is _ _).0 h).0)
  holding_tells (Prop' p) pairs x y r is hy d =
      same_from_decides r _ d (
        λ e.
            let (u, hu, two) = any_out v.counts.names _ e in
            let (f, m) = and_parts _ _ two in
            (is _ _).1 (u, hu, (eqb-true _ _ f, (y, hy, (refl, is_yes_yes _ m)))),
        λ h.
            let (u, hu, (f, (w, hw, (k, m)))) = (is _ _).0 h in
            any_in v.counts.names _ u hu (and_from _ _ (eq-eqb _ _ f) (ap is_yes m)),
      )
  holding_tells (Rel' q) pairs x y r is hy d =
      same_from_decides r _ d (
        λ e.
            let (u, hu, two) = any_out v.counts.names _ e in
            let (f, more) = and_parts _ _ two in
            let (w, hw, three) = any_out v.counts.names _ more in
            let (k, m) = and_parts _ _ three in
            (is _ _).1 (u, hu, (eqb-true _ _ f, (w, hw, (eqb-true _ _ k, is_yes_yes _ m)))),
        λ h.
            let (u, hu, (f, (w, hw, (k, m)))) = (is _ _).0 h in
            any_in v.counts.names _ u hu (and_from _ _ (eq-eqb _ _ f)
            (any_in v.counts.names _ w hw (and_from _ _ (eq-eqb _ _ k) (ap is_yes m)))),
      )

  pub read_tells :
      (s : Symbol) (pairs : Pairs) (x y a b : ℕ) (r : Bool) → Holding v s pairs → y < width v.counts s → a ≡ v.leader x → b ≡ v.leader y →
      Decides r (Has pairs a b) → r ≡ value (own_of v) (atom_with s x y)
  read_tells s pairs x y a b r is hy ea eb d =
      holding_tells s pairs x y r is hy (subst (λ (k : ℕ). Decides r (Has pairs (v.leader x) k)) eb (subst (λ (k : ℕ). Decides r (Has pairs k b)) ea d))

module _ (c : Counts) (I : Interpretation) where
  -- right atoms of a symbol stay right
  pub symbol_kept : (s : Symbol) (before after : List ℕ) → LawfulSymbol c s → Better c I before after → SymbolRight c I s before → SymbolRight c I s after
  symbol_kept s before after ls better right x hx y hy = better.kept (atom_with s x y) (atom_lawful c s x y ls hx hy) (right x hx y hy)

  -- the symbols make the whole
  pub filled : (before after : List ℕ) → Better c I before after → ((k : ℕ) → k < symbols c → SymbolRight c I (symbol_at c k) after) → Filled c I before after
  filled before after better right = record { long = better.long; rest = better.rest; tell = tell }
    where
      all : (s : Symbol) → LawfulSymbol c s → SymbolRight c I s after
      all s l = let (k, h, e) = listed c s l in subst (λ (t : Symbol). SymbolRight c I t after) e (right k h)

      tell : (g : Ground) → LawfulGround c g → Right c I after g
      tell (Same a b) l = all Same' tt a l.0 b l.1
      tell (Prop p a) l = all (Prop' p) l.0 a l.1 0 (omega arith)
      tell (Rel q a b) l = all (Rel' q) l.0 a l.1.0 b l.1.1

-- filled memory has the bytes of the model
pub own_bytes :
    (c : Counts) (marks : Branch) (leader : ℕ → ℕ) (before after : List ℕ) → atoms c ≤ length before →
    Filled c (own c marks leader) before after → ClassTable c marks leader → BytesOf c (own c marks leader) (take (atoms c) after)
own_bytes c marks leader before after room is table =
    record {
      over = leader_below c marks leader table;
      long = length-take-le (atoms c) after (omega (arith, is.long));
      tell = λ g l. get_or-take (atoms c) after (number_of c g) 0 (below_all c g l) ∙ is.tell g l;
    }
