-- The comparison of literals says exactly whether they are equal.
use Rattle.std.proofs.Common.{◌≡◌, Bool, true, sym, ap, ap₂, subst, ◌∙◌, arith, rules, Decides}
use Rattle.syntax.specs.declared.types.Term.{Term}
use Rattle.syntax.specs.declared.types.Term.TheVariants.{Name, Var}
use Rattle.syntax.specs.declared.types.Atom.{Atom}
use Rattle.syntax.specs.declared.types.Atom.TheVariants.{Same, Prop, Rel}
use Rattle.syntax.specs.declared.types.Literal.{Literal}
use Rattle.syntax.specs.contracts.types.TermPartialEq.TheImpl.{ghosts as term}
use Rattle.syntax.specs.contracts.types.AtomPartialEq.TheImpl.{ghosts as atom}
use Rattle.syntax.specs.contracts.types.LiteralPartialEq.TheImpl.{ghosts as literal}

pub term_same : (t u : Term) → term.eq t u ≡ true → t ≡ u
term_same (Name a) (Name b) e = ap Name (search (rules, e))
term_same (Name a) (Var b) e = absurd (grind (arith, e))
term_same (Var a) (Name b) e = absurd (grind (arith, e))
term_same (Var a) (Var b) e = ap Var (search (rules, e))

pub term_self : (t : Term) → term.eq t t ≡ true
term_self (Name a) = search rules
term_self (Var a) = search rules

pub atom_same : (a b : Atom) → atom.eq a b ≡ true → a ≡ b
atom_same (Same t u) (Same v w) e = ap₂ Same (term_same t v (grind (arith, e))) (term_same u w (grind (arith, e)))
atom_same (Same t u) (Prop q w) e = absurd (grind (arith, e))
atom_same (Same t u) (Rel s v w) e = absurd (grind (arith, e))
atom_same (Prop p t) (Same v w) e = absurd (grind (arith, e))
atom_same (Prop p t) (Prop q w) e =
    let k : p ≡ q = search (rules, e) in
    let h : t ≡ w = term_same t w (grind (arith, e)) in
    ap₂ Prop k h
atom_same (Prop p t) (Rel s v w) e = absurd (grind (arith, e))
atom_same (Rel r t u) (Same v w) e = absurd (grind (arith, e))
atom_same (Rel r t u) (Prop q w) e = absurd (grind (arith, e))
atom_same (Rel r t u) (Rel s v w) e =
    let k : r ≡ s = search (rules, e) in
    let h : t ≡ v = term_same t v (grind (arith, e)) in
    let i : u ≡ w = term_same u w (grind (arith, e)) in
    cc

pub atom_self : (a : Atom) → atom.eq a a ≡ true
atom_self (Same t u) = grind (arith, term_self t, term_self u)
atom_self (Prop p t) = grind (arith, term_self t)
atom_self (Rel r t u) = grind (arith, term_self t, term_self u)

pub literal_same : (l m : Literal) → literal.eq l m ≡ true → l ≡ m
literal_same l m e =
    let h : l.atom ≡ m.atom = atom_same l.atom m.atom (grind (arith, e)) in
    let k : l.sign ≡ m.sign = grind (arith, e) in
    ap₂ (λ (s : Bool) (a : Atom). record { sign = s; atom = a }) k h

pub literal_self : (l : Literal) → literal.eq l l ≡ true
literal_self l = grind (arith, atom_self l.atom)

pub literals_decided : (l m : Literal) (b : Bool) → b ≡ literal.eq l m → Decides b (l ≡ m)
literals_decided l m b e = (λ t. literal_same l m (sym e ∙ t), λ i. e ∙ subst (λ (x : Literal). literal.eq l x ≡ true) i (literal_self l))
