-- The bytes of literals: each part is read exactly when it was written so.
use Rattle.std.proofs.Common.{◌≡◌, ℕ, ◌+◌, ◌-◌, Bool, true, false, cond, ◌&&◌, eqb, ltb, List, [], ◌∷◌, length, get_or, Some, None, Option, sym, refl, ap, ◌∙◌, subst, arith}
use Rattle.std.proofs.lemmas.Bool.Decides.{nat_tests}
use Rattle.std.proofs.lemmas.Bool.{cond_both, eqb-true, and_parts, ltb-true}
use Rattle.std.specs.Option.{option_and_then}
use Rattle.syntax.specs.declared.types.Term.{Term}
use Rattle.syntax.specs.declared.types.Term.TheVariants.{Name, Var}
use Rattle.syntax.specs.declared.types.Atom.{Atom}
use Rattle.syntax.specs.declared.types.Atom.TheVariants.{Same, Prop, Rel}
use Rattle.syntax.specs.declared.counts.Counts.{Counts}
use Rattle.syntax.specs.Lawful.{LawfulTerm, AtomBy}
use Rattle.syntax.specs.Codes.{term_of, atom_read, term_code, atom_code, sign_code, Decoded}

abbrev LawfulAtom : Counts → Atom → Type 0
LawfulAtom c = AtomBy c (LawfulTerm c)

-- what was written is read
term_round : (c : Counts) (t : Term) → LawfulTerm c t → term_of c (term_code t) ≡ Some t
term_round c (Name a) h = let k = c.few in grind (arith, nat_tests)
term_round c (Var v) h = let e : v + 32 - 32 ≡ v = omega arith in grind (arith, nat_tests)

two_round : (c : Counts) (t u : Term) (f : Term → Term → Atom) → LawfulTerm c t → LawfulTerm c u → option_and_then (λ x. option_and_then (λ y. Some (f x y)) (term_of c (term_code u))) (term_of c (term_code t)) ≡ Some (f t u)
two_round c t u f h g =
    ap (λ (o : Option Term). option_and_then (λ x. option_and_then (λ y. Some (f x y)) (term_of c (term_code u))) o) (term_round c t h) ∙
    ap (λ (o : Option Term). option_and_then (λ y. Some (f t y)) o) (term_round c u g)

abbrev read : Counts → List ℕ → Option Atom
read c (k ∷ s ∷ a ∷ b ∷ []) = atom_read c k s a b
read c [] = None
read c (k ∷ []) = None
read c (k ∷ s ∷ []) = None
read c (k ∷ s ∷ a ∷ []) = None
read c (k ∷ s ∷ a ∷ b ∷ x ∷ xs) = None

on_true : {X : Type 0} (b : Bool) (x y z : X) → b ≡ true → x ≡ z → cond b x y ≡ z
on_true true x y z e f = f
on_true false x y z e f = let k : ◌≡◌ {A = ℕ} 0 1 = cc in absurd (omega arith)

atom_round : (c : Counts) (t : Atom) → LawfulAtom c t → read c (atom_code t) ≡ Some t
atom_round c (Same t u) h = two_round c t u Same h.0 h.1
atom_round c (Prop p t) h =
    let inside : ltb p c.properties && true ≡ true = grind (arith, nat_tests) in
    on_true _ _ _ _ inside (ap (λ (o : Option Term). option_and_then (λ u. Some (Prop p u)) o) (term_round c t h.1))
atom_round c (Rel r t u) h =
    let inside : ltb r c.relations ≡ true = grind (arith, nat_tests) in
    on_true _ _ _ _ inside (two_round c t u (Rel r) h.1.0 h.1.1)

-- what is read was written
never : {X Y : Type 0} (x : X) → None ≡ Some x → Y
never x e = let z : ◌≡◌ {A = ℕ} 0 1 = cc in absurd (omega arith)

bound : {X Y : Type 0} (o : Option X) (f : X → Option Y) (y : Y) → option_and_then f o ≡ Some y → (x : X) × (o ≡ Some x) × (f x ≡ Some y)
bound None f y e = never y e
bound (Some x) f y e = (x, refl, e)

term_back : (c : Counts) (b : ℕ) (t : Term) → term_of c b ≡ Some t → LawfulTerm c t × (term_code t ≡ b)
term_back c b (Name a) e = (grind (arith, nat_tests), grind (arith, nat_tests))
term_back c b (Var v) e = (grind (arith, nat_tests), grind (arith, nat_tests))

two_back : (c : Counts) (a b : ℕ) (f : Term → Term → Atom) (t : Atom) → option_and_then (λ x. option_and_then (λ y. Some (f x y)) (term_of c b)) (term_of c a) ≡ Some t → (x : Term) × (y : Term) × (LawfulTerm c x × (term_code x ≡ a)) × (LawfulTerm c y × (term_code y ≡ b)) × (t ≡ f x y)
two_back c a b f t e =
    let p = bound (term_of c a) (λ x. option_and_then (λ y. Some (f x y)) (term_of c b)) t e in
    let q = bound (term_of c b) (λ y. Some (f p.0 y)) t p.2 in
    let z = q.2 in
    let same : t ≡ f p.0 q.0 = cc in
    (p.0, q.0, term_back c a p.0 p.1, term_back c b q.0 q.1, same)

abbrev Written : Counts → ℕ → ℕ → ℕ → ℕ → Atom → Type 0
Written c k s a b t = LawfulAtom c t × (atom_code t ≡ k ∷ s ∷ a ∷ b ∷ [])

moved : (c : Counts) (k s a b : ℕ) (t u : Atom) → t ≡ u → Written c k s a b u → Written c k s a b t
moved c k s a b t u e w = subst (Written c k s a b) (sym e) w

pub atom_back : (c : Counts) (k s a b : ℕ) (t : Atom) → atom_read c k s a b ≡ Some t → Written c k s a b t
atom_back c k s a b t =
    let P : Option Atom → Type 0 = λ o. o ≡ Some t → Written c k s a b t in
    cond_both (eqb k 0) _ _ P
    (λ e. cond_both (eqb s 0) _ _ P
    (λ f h. let r = two_back c a b Same t h in
    let i = eqb-true k 0 e in let j = eqb-true s 0 f in let m = r.2.1 in let n = r.3.1 in
    moved c k s a b t (Same r.0 r.1) r.4 ((r.2.0, r.3.0), cc))
    (λ f h. never t h))
    (λ _. cond_both (eqb k 1) _ _ P
    (λ e. cond_both (ltb s c.properties && eqb b 0) _ _ P
    (λ f h. let r = bound (term_of c a) (λ x. Some (Prop s x)) t h in
    let i = eqb-true k 1 e in let both = and_parts _ _ f in let j = eqb-true b 0 both.1 in
    let m = term_back c a r.0 r.1 in let n = m.1 in
    let z = r.2 in let same : t ≡ Prop s r.0 = cc in
    moved c k s a b t (Prop s r.0) same ((ltb-true s c.properties both.0, m.0), cc))
    (λ f h. never t h))
    (λ _. cond_both (eqb k 2) _ _ P
    (λ e. cond_both (ltb s c.relations) _ _ P
    (λ f h. let r = two_back c a b (Rel s) t h in
    let i = eqb-true k 2 e in let m = r.2.1 in let n = r.3.1 in
    moved c k s a b t (Rel s r.0 r.1) r.4 ((ltb-true s c.relations f, (r.2.0, r.3.0)), cc))
    (λ f h. never t h))
    (λ e h. never t h)))

-- five bytes of which the first says the sign and the others were read as an atom
pub five_back : (c : Counts) (s : List ℕ) (g : Bool) (t : Atom) → length s ≡ 5 → get_or s 0 0 ≡ sign_code g → atom_read c (get_or s 1 0) (get_or s 2 0) (get_or s 3 0) (get_or s 4 0) ≡ Some t → Decoded c s (Some (record { sign = g; atom = t }))
five_back c [] g t h e r = absurd (omega arith)
five_back c (a ∷ []) g t h e r = absurd (omega arith)
five_back c (a ∷ b ∷ []) g t h e r = absurd (omega arith)
five_back c (a ∷ b ∷ d ∷ []) g t h e r = absurd (omega arith)
five_back c (a ∷ b ∷ d ∷ f ∷ []) g t h e r = absurd (omega arith)
five_back c (a ∷ b ∷ d ∷ f ∷ i ∷ []) g t h e r = let w = atom_back c b d f i t r in let k = w.1 in (w.0, cc)
five_back c (a ∷ b ∷ d ∷ f ∷ i ∷ j ∷ s) g t h e r = absurd (omega arith)
