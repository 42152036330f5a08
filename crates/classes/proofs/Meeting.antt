-- The clash around one literal of a relation.
use Rattle.std.proofs.Common.{◌≡◌, ℕ, Bool, not, Decides, sym, ◌∙◌, subst}
use Rattle.std.proofs.lemmas.Bool.Decides.{Decides-like}
use Rattle.syntax.specs.declared.types.Ground.{Ground}
use Rattle.syntax.specs.declared.types.Ground.TheVariants.{Rel}
use Rattle.syntax.specs.declared.types.Mark.{Mark}
use Rattle.syntax.specs.Numbers.{LawfulGround}
use Rattle.semantics.specs.Branch.{signed}
use Rattle.classes.specs.declared.symbol.Symbol.TheVariants.{Rel as Rel'}
use Rattle.classes.specs.Symbols.{Meets, View}
use Rattle.classes.specs.Clashes.{ClashAt}

pub rel_decides :
    (v : View) (g : Ground) (s r : Bool) (m : Mark) (q a b x y : ℕ) → g ≡ Rel q a b → LawfulGround v.counts g → m ≡ signed (not s) →
    x ≡ v.leader a → y ≡ v.leader b → Decides r (Meets v (Rel' q) m x y) → Decides r (ClashAt v.counts v.marks v.leader g s)
rel_decides v g s r m q a b x y e l is ex ey d =
    subst (λ (o : Ground). LawfulGround v.counts o → Decides r (ClashAt v.counts v.marks v.leader o s)) (sym e)
    (λ (hq, (ha, hb)). Decides-like r
    (λ (u, hu, (eu, (w, hw, (ew, f)))). (
      hq,
      (u, record { first = ha; second = hu; one = sym (eu ∙ ex) }, (w, record { first = hb; second = hw; one = sym (ew ∙ ey) }, f ∙ is)),
    ))
    (λ (_, (u, k, (w, n, f))). (u, k.second, (sym k.one ∙ sym ex, (w, n.second, (sym n.one ∙ sym ey, f ∙ sym is)))))
    d)
    l
