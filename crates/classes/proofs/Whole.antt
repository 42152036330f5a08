-- The whole clash test, symbol by symbol.
use Rattle.std.proofs.Common.{◌≡◌, ℕ, ◌<◌, Bool, Decides, sym, refl, ◌∙◌, subst, ⊎_elim, arith}
use Rattle.std.proofs.lemmas.List.{get_or_past}
use Rattle.std.proofs.lemmas.Bool.{cases_lt}
use Rattle.std.proofs.lemmas.Bool.Decides.{Decides-like}
use Rattle.syntax.specs.declared.types.Mark.TheVariants.{No}
use Rattle.semantics.specs.Branch.{Clash, ClassTable as Classes}
use Rattle.classes.specs.declared.table.ClassTable.{ClassTable}
use Rattle.classes.specs.Leaders.{leader_of}
use Rattle.classes.specs.declared.pairs.Pairs.{Pairs}
use Rattle.classes.specs.declared.symbol.Symbol.{Symbol}
use Rattle.classes.specs.declared.symbol.Symbol.TheVariants.{Same as Same', Prop as Prop', Rel as Rel'}
use Rattle.classes.specs.Pairs.{Has}
use Rattle.classes.specs.Symbols.{Found, Holding, LawfulSymbol, MeetsRow, SymbolClash, View, symbol_at, symbols}
use Rattle.classes.specs.Clashes.{ClashBy, same_no, prop_both, rel_both}
use Rattle.classes.proofs.Clashing.{by_in, by_out}
use Rattle.classes.proofs.Listing.{listed, listed_lawful}

-- every leader lies below 32
pub small : (t : ClassTable) (a : ℕ) → leader_of t a < 32
small t a =
    ⊎_elim
    (λ below. omega (arith, t.low a below))
    (λ past. omega (arith, get_or_past t.leaders a 0 (omega (arith, t.whole))))
    (cases_lt a 32)

module _ (v : View) where
  pub by_symbol : (s : Symbol) → LawfulSymbol v.counts s → SymbolClash v s → ClashBy v.counts v.marks v.leader
  by_symbol Same' l (p, q, (one, h), (x, hx, (e, (y, hy, (f, m))))) = same_no x y (record { first = hx; second = hy; one = e ∙ one ∙ sym f }) m
  by_symbol (Prop' r) l (p, q, (x, hx, (e, (y, hy, (f, m)))), (u, hu, (d, (w, hw, (k, n))))) =
      prop_both r x u l (record { first = hx; second = hu; one = e ∙ sym d }) m n
  by_symbol (Rel' r) l (p, q, (x, hx, (e, (y, hy, (f, m)))), (u, hu, (d, (w, hw, (k, n))))) =
      rel_both r x y u w l (record { first = hx; second = hu; one = e ∙ sym d }) (record { first = hy; second = hw; one = f ∙ sym k }) m n

  module _ (small : (a : ℕ) → v.leader a < 32) where
    pub by_parts : ClashBy v.counts v.marks v.leader → (s : Symbol) × LawfulSymbol v.counts s × SymbolClash v s
    by_parts (same_no a b f e) = (Same', tt, (v.leader a, v.leader a, (refl, small a), (a, f.first, (refl, (b, f.second, (sym f.one, e))))))
    by_parts (prop_both p a x h f e g) =
        (Prop' p, h, (v.leader a, v.leader 0, (a, f.first, (refl, (0, omega arith, (refl, e)))), (x, f.second, (sym f.one, (0, omega arith, (refl, g))))))
    by_parts (rel_both q a b x y h f k e g) =
        (Rel' q, h, (v.leader a, v.leader b, (a, f.first, (refl, (b, k.first, (refl, e)))), (x, f.second, (sym f.one, (y, k.second, (sym k.one, g))))))

    pub clash_by : (r : Bool) → Decides r ((k : ℕ) × (k < symbols v.counts) × SymbolClash v (symbol_at v.counts k)) → Decides r (ClashBy v.counts v.marks v.leader)
    clash_by r =
        Decides-like r
        (λ (k, h, z). by_symbol (symbol_at v.counts k) (listed_lawful v.counts k h) z)
        (λ b. let (s, l, z) = by_parts b in let (k, h, e) = listed v.counts s l in (k, h, subst (SymbolClash v) (sym e) z))

  pub clash_too : (r : Bool) → Decides r (ClashBy v.counts v.marks v.leader) → Classes v.counts v.marks v.leader → Decides r (Clash v.counts v.marks)
  clash_too r d table = Decides-like r (by_out v.counts v.marks v.leader table) (by_in v.counts v.marks v.leader table) d

-- some pair is in both sets
pub symbol_clash :
    (v : View) (s : Symbol) (r : Bool) (one two : Pairs) → Holding v s one → Found v s No two →
    Decides r ((p : ℕ) × (q : ℕ) × Has one p q × Has two p q) → Decides r (SymbolClash v s)
symbol_clash v s r one two holding found =
    Decides-like r
    (λ (p, q, h, k). (p, q, (holding p q).0 h, (found p q).0 k))
    (λ (p, q, h, k). (p, q, (holding p q).1 h, (found p q).1 k))

-- a name stands no beside one with its own leader
pub same_clash :
    (v : View) (s : Symbol) (r : Bool) → ((a : ℕ) → v.leader a < 32) → s ≡ Same' →
    Decides r ((x : ℕ) × (x < v.counts.names) × MeetsRow v s No x (v.leader x)) → Decides r (SymbolClash v s)
same_clash v Same' r small e =
    Decides-like r
    (λ (x, h, row). (v.leader x, v.leader x, (refl, small x), (x, h, (refl, row))))
    (λ (p, q, (one, k), (x, h, (f, row))). (x, h, subst (MeetsRow v Same' No x) (sym (f ∙ one)) row))
same_clash v (Prop' p) r small e = absurd (grind arith)
same_clash v (Rel' p) r small e = absurd (grind arith)
