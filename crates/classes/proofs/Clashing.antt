-- A clash read off the leaders, and the clash around one literal.
use Rattle.std.proofs.Common.{◌≡◌, ℕ, ◌<◌, ◌≤◌, Bool, true, false, not, ◌&&◌, eqb, length, get_or, sym, refl, ap, ◌∙◌, subst, ⊎_elim, arith, length-set}
use Rattle.std.proofs.lemmas.List.{get_or_past}
use Rattle.std.proofs.lemmas.Bool.{cases_eq, cases_lt, eqb-true, eq-eqb, and_from, and_parts, false≢true}
use Rattle.syntax.specs.declared.types.Ground.{Ground}
use Rattle.syntax.specs.declared.types.Ground.TheVariants.{Same, Prop, Rel}
use Rattle.syntax.specs.declared.types.Mark.{Mark}
use Rattle.syntax.specs.declared.types.Mark.TheVariants.{Open, Yes, No}
use Rattle.syntax.specs.declared.counts.Counts.{Counts}
use Rattle.syntax.specs.Numbers.{number_of, LawfulGround}
use Rattle.semantics.specs.Meaning.{Interpretation}
use Rattle.semantics.specs.Branch.{Branch, mark_at, signed, tell, Linked, self, told, back, Clash, same_no, prop_both, rel_both, ClassTable}
use Rattle.semantics.proofs.Instances.{together}
use Rattle.semantics.proofs.Marks.{mark_told, mark_kept, signed_same}
use Rattle.semantics.proofs.Own.{same_leader, linked_by, table_from}
use Rattle.semantics.proofs.Steps.{linked_below, linked_more}
use Rattle.classes.specs.Leaders.{JoinsNone}
use Rattle.classes.specs.Clashes.{Fellow, ClashBy, ClashAt, same_no as same_no', prop_both as prop_both', rel_both as rel_both'}
use Rattle.classes.specs.Theorems.{ClashByLaw, SameBut, ClashAtLaw, ClashTold, ClassesTold, ClassesSame}

-- fellows are linked, and linked names are fellows
module _ (c : Counts) (marks : Branch) (leader : ℕ → ℕ) (table : ClassTable c marks leader) where
  pub fellow : {a x : ℕ} → Linked c marks a x → Fellow c leader a x
  fellow r = let below = linked_below r in record { first = below.0; second = below.1; one = same_leader c marks leader table r }

  pub linked : {a x : ℕ} → Fellow c leader a x → Linked c marks a x
  linked f = linked_by c marks leader table f.first f.second f.one

  pub by_in : Clash c marks → ClashBy c marks leader
  by_in (same_no a b r e) = same_no' a b (fellow r) e
  by_in (prop_both p a x h r e f) = prop_both' p a x h (fellow r) e f
  by_in (rel_both p a b x y h r s e f) = rel_both' p a b x y h (fellow r) (fellow s) e f

  pub by_out : ClashBy c marks leader → Clash c marks
  by_out (same_no' a b r e) = same_no a b (linked r) e
  by_out (prop_both' p a x h r e f) = prop_both p a x h (linked r) e f
  by_out (rel_both' p a b x y h r s e f) = rel_both p a b x y h (linked r) (linked s) e f

pub clash_by : ClashByLaw
clash_by c marks leader table = (by_in c marks leader table, by_out c marks leader table)

-- Atoms that share a number. The things are given by a function of the names.
abbrev with_things : (ℕ → ℕ) → Interpretation
with_things f = record { thing = f; prop = λ p t. false; rel = λ r t u. false }

abbrev with_prop : ℕ → ℕ → Interpretation
with_prop p a = record { thing = λ x. x; prop = λ q t. eqb q p && eqb t a; rel = λ r t u. false }

abbrev with_rel : ℕ → ℕ → ℕ → Interpretation
with_rel r a b = record { thing = λ x. x; prop = λ q t. false; rel = λ q t u. eqb q r && (eqb t a && eqb u b) }

self_same : (a : ℕ) → eqb a a ≡ true
self_same a = eq-eqb a a refl

-- with the number of a same: only a same, and one of names that are one thing at the same time
same_thing :
    (c : Counts) (a b x y : ℕ) → LawfulGround c (Same a b) → LawfulGround c (Same x y) → number_of c (Same a b) ≡ number_of c (Same x y) →
    (f : ℕ → ℕ) → f a ≡ f b → f x ≡ f y
same_thing c a b x y l m e f one = eqb-true _ _ (sym (together c (with_things f) (Same a b) (Same x y) l m e) ∙ eq-eqb _ _ one)

same_not_prop : (c : Counts) (a b p x : ℕ) → LawfulGround c (Same a b) → LawfulGround c (Prop p x) → number_of c (Same a b) ≡ number_of c (Prop p x) → ⊥
same_not_prop c a b p x l m e = false≢true (sym (together c (with_things (λ _. 0)) (Same a b) (Prop p x) l m e))

same_not_rel : (c : Counts) (a b r x y : ℕ) → LawfulGround c (Same a b) → LawfulGround c (Rel r x y) → number_of c (Same a b) ≡ number_of c (Rel r x y) → ⊥
same_not_rel c a b r x y l m e = false≢true (sym (together c (with_things (λ _. 0)) (Same a b) (Rel r x y) l m e))

-- with the number of a property's atom: that atom alone
prop_shared : (c : Counts) (p a : ℕ) (h : Ground) → LawfulGround c (Prop p a) → LawfulGround c h → number_of c (Prop p a) ≡ number_of c h → h ≡ Prop p a
prop_shared c p a (Same x y) l m e = absurd (same_not_prop c x y p a m l (sym e))
prop_shared c p a (Prop q x) l m e =
    let (eq, ea) = and_parts _ _ (sym (together c (with_prop p a) (Prop p a) (Prop q x) l m e) ∙ and_from _ _ (self_same p) (self_same a)) in
    let u = eqb-true q p eq in
    let v = eqb-true x a ea in cc
prop_shared c p a (Rel r x y) l m e =
    absurd (false≢true (sym (together c (with_prop p a) (Prop p a) (Rel r x y) l m e) ∙ and_from _ _ (self_same p) (self_same a)))

-- with the number of a relation's atom: that atom alone
rel_shared : (c : Counts) (r a b : ℕ) (h : Ground) → LawfulGround c (Rel r a b) → LawfulGround c h → number_of c (Rel r a b) ≡ number_of c h → h ≡ Rel r a b
rel_shared c r a b (Same x y) l m e = absurd (same_not_rel c x y r a b m l (sym e))
rel_shared c r a b (Prop p x) l m e =
    absurd (false≢true (sym (together c (with_rel r a b) (Rel r a b) (Prop p x) l m e) ∙ and_from _ _ (self_same r) (and_from _ _ (self_same a) (self_same b))))
rel_shared c r a b (Rel q x y) l m e =
    let (eq, two) = and_parts _ _ (sym (together c (with_rel r a b) (Rel r a b) (Rel q x y) l m e) ∙ and_from _ _ (self_same r) (and_from _ _ (self_same a) (self_same b))) in
    let (ea, eb) = and_parts _ _ two in
    let u = eqb-true q r eq in
    let v = eqb-true x a ea in
    let w = eqb-true y b eb in cc

-- atoms that share a number have one mark
one_mark : (c : Counts) (marks : Branch) (g h : Ground) → number_of c g ≡ number_of c h → mark_at c marks g ≡ mark_at c marks h
one_mark c marks g h e = ap (λ (k : ℕ). get_or marks k Open) e

yes_no : Yes ≡ No → ⊥
yes_no e = grind arith

other_fellow : {c : Counts} {leader : ℕ → ℕ} {a x : ℕ} → Fellow c leader a x → Fellow c leader x a
other_fellow f = record { first = f.second; second = f.first; one = sym f.one }

-- a literal with a clash is part of a clash
at_out :
    (c : Counts) (marks : Branch) (leader : ℕ → ℕ) (g : Ground) (s : Bool) →
    ClassTable c marks leader → mark_at c marks g ≡ signed s → ClashAt c marks leader g s → Clash c marks
at_out c marks leader (Same a b) true table m z = absurd z
at_out c marks leader (Same a b) false table m f = same_no a b (linked c marks leader table f) m
at_out c marks leader (Prop p a) true table m (h, (x, f, e)) = prop_both p a x h (linked c marks leader table f) m e
at_out c marks leader (Prop p a) false table m (h, (x, f, e)) = prop_both p x a h (back (linked c marks leader table f)) e m
at_out c marks leader (Rel r a b) true table m (h, (x, f, (y, k, e))) =
    rel_both r a b x y h (linked c marks leader table f) (linked c marks leader table k) m e
at_out c marks leader (Rel r a b) false table m (h, (x, f, (y, k, e))) =
    rel_both r x y a b h (back (linked c marks leader table f)) (back (linked c marks leader table k)) e m

-- a same that stands no inside a class, where its number is told
same_here :
    (c : Counts) (marks : Branch) (leader : ℕ → ℕ) (g : Ground) (s : Bool) (a b : ℕ) → LawfulGround c g → Fellow c leader a b →
    number_of c (Same a b) ≡ number_of c g → signed s ≡ No → ClashAt c marks leader g s
same_here c marks leader (Same x y) true a b l f e m = absurd (yes_no m)
same_here c marks leader (Same x y) false a b l f e m =
    record { first = l.0; second = l.1; one = same_thing c a b x y (f.first, f.second) l e leader f.one }
same_here c marks leader (Prop p x) s a b l f e m = absurd (same_not_prop c a b p x (f.first, f.second) l e)
same_here c marks leader (Rel r x y) s a b l f e m = absurd (same_not_rel c a b r x y (f.first, f.second) l e)

module _ (c : Counts) (before marks : Branch) (leader : ℕ → ℕ) (g : Ground) (s : Bool)
    (was : ClassTable c before leader) (calm : Clash c before → ⊥) (but : SameBut c g before marks)
    (is : ClassTable c marks leader) (l : LawfulGround c g) (m : mark_at c marks g ≡ signed s) where
  -- linked names were linked before
  carry : {a x : ℕ} → Linked c marks a x → Linked c before a x
  carry r = linked c before leader was (fellow c marks leader is r)

  -- an atom with the number of g has its sign, and any other the mark from before
  sign_here : (h : Ground) (t : Bool) → number_of c h ≡ number_of c g → mark_at c marks h ≡ signed t → s ≡ t
  sign_here h t e mark = signed_same s t (sym m ∙ sym (one_mark c marks h g e) ∙ mark)

  stood : (h : Ground) (v : Mark) → LawfulGround c h → (number_of c h ≡ number_of c g → ⊥) → mark_at c marks h ≡ v → mark_at c before h ≡ v
  stood h v k ne e = sym (but h k ne) ∙ e

  opposite : (h : Ground) (t : Bool) → s ≡ t → mark_at c marks h ≡ signed (not t) → mark_at c marks h ≡ signed (not s)
  opposite h t e f = f ∙ ap (λ (b : Bool). signed (not b)) (sym e)

  prop_here :
      (p a x : ℕ) (t : Bool) → p < c.properties → Fellow c leader a x → number_of c (Prop p a) ≡ number_of c g →
      mark_at c marks (Prop p a) ≡ signed t → mark_at c marks (Prop p x) ≡ signed (not t) → ClashAt c marks leader g s
  prop_here p a x t h f e here there =
      subst (λ (o : Ground). ClashAt c marks leader o s) (sym (prop_shared c p a g (h, f.first) l e))
      (h, (x, f, opposite (Prop p x) t (sign_here (Prop p a) t e here) there))

  rel_here :
      (r a b x y : ℕ) (t : Bool) → r < c.relations → Fellow c leader a x → Fellow c leader b y → number_of c (Rel r a b) ≡ number_of c g →
      mark_at c marks (Rel r a b) ≡ signed t → mark_at c marks (Rel r x y) ≡ signed (not t) → ClashAt c marks leader g s
  rel_here r a b x y t h f k e here there =
      subst (λ (o : Ground). ClashAt c marks leader o s) (sym (rel_shared c r a b g (h, (f.first, k.first)) l e))
      (h, (x, f, (y, k, opposite (Rel r x y) t (sign_here (Rel r a b) t e here) there)))

  at_in : Clash c marks → ClashAt c marks leader g s
  at_in (same_no a b r e) =
      ⊎_elim
      (λ eq. same_here c marks leader g s a b l (fellow c marks leader is r) eq (ap signed (sign_here (Same a b) false eq e)))
      (λ ne. absurd (calm (same_no a b (carry r) (stood (Same a b) No (linked_below r) ne e))))
      (cases_eq (number_of c (Same a b)) (number_of c g))
  at_in (prop_both p a x h r e f) =
      let k = fellow c marks leader is r in
      ⊎_elim
      (λ eq. prop_here p a x true h k eq e f)
      (λ ne. ⊎_elim
      (λ eq. prop_here p x a false h (other_fellow k) eq f e)
      (λ on. absurd (calm (prop_both p a x h (carry r) (stood (Prop p a) Yes (h, k.first) ne e) (stood (Prop p x) No (h, k.second) on f))))
      (cases_eq (number_of c (Prop p x)) (number_of c g)))
      (cases_eq (number_of c (Prop p a)) (number_of c g))
  at_in (rel_both q a b x y h r u e f) =
      let k = fellow c marks leader is r in
      let n = fellow c marks leader is u in
      ⊎_elim
      (λ eq. rel_here q a b x y true h k n eq e f)
      (λ ne. ⊎_elim
      (λ eq. rel_here q x y a b false h (other_fellow k) (other_fellow n) eq f e)
      (λ on. absurd (calm (rel_both q a b x y h (carry r) (carry u)
      (stood (Rel q a b) Yes (h, (k.first, n.first)) ne e) (stood (Rel q x y) No (h, (k.second, n.second)) on f))))
      (cases_eq (number_of c (Rel q x y)) (number_of c g)))
      (cases_eq (number_of c (Rel q a b)) (number_of c g))

pub clash_at : ClashAtLaw
clash_at c before marks leader g s was calm but is l m = (at_in c before marks leader g s was calm but is l m, at_out c marks leader g s is m)

-- a same with the number of a literal that joins no classes
closed_here :
    (c : Counts) (leader : ℕ → ℕ) (g : Ground) (s : Bool) (a b : ℕ) → LawfulGround c g → LawfulGround c (Same a b) → JoinsNone leader g s →
    number_of c (Same a b) ≡ number_of c g → signed s ≡ Yes → leader a ≡ leader b
closed_here c leader (Same x y) true a b l k joins e m = same_thing c x y a b l k (sym e) leader joins
closed_here c leader (Same x y) false a b l k joins e m = absurd (yes_no (sym m))
closed_here c leader (Prop p x) s a b l k joins e m = absurd (same_not_prop c a b p x k l e)
closed_here c leader (Rel r x y) s a b l k joins e m = absurd (same_not_rel c a b r x y k l e)

open_yes : Open ≡ Yes → ⊥
open_yes e = grind arith

past_open : (c : Counts) (marks : Branch) (g h : Ground) (s : Bool) → number_of c h ≡ number_of c g → length marks ≤ number_of c g → mark_at c (tell c marks g s) h ≡ Open
past_open c marks g h s e past = get_or_past (tell c marks g s) (number_of c h) Open (simp length-set (omega arith))

-- what is told stands there, or past the end is open
told_mark : (c : Counts) (marks : Branch) (g h : Ground) (s : Bool) → number_of c h ≡ number_of c g → mark_at c (tell c marks g s) h ≡ Yes → signed s ≡ Yes
told_mark c marks g h s e stands =
    ⊎_elim
    (λ below. sym (mark_told c marks g h s e below) ∙ stands)
    (λ past. absurd (open_yes (sym (past_open c marks g h s e past) ∙ stands)))
    (cases_lt (number_of c g) (length marks))

pub classes_told : ClassesTold
classes_told c marks leader g s table l was joins =
    table_from c (tell c marks g s) leader
    (λ a h. linked_more c marks (tell c marks g s) kept a (leader a) (table.linked a h))
    (λ a h. table.lowest a a h (self h))
    (λ a b h k stands. ⊎_elim
    (λ eq. closed_here c leader g s a b l (h, k) joins eq (told_mark c marks g (Same a b) s eq stands))
    (λ ne. same_leader c marks leader table (told h k (sym (mark_kept c marks g (Same a b) s ne) ∙ stands)))
    (cases_eq (number_of c (Same a b)) (number_of c g)))
  where
    kept : (a b : ℕ) → a < c.names → b < c.names → mark_at c marks (Same a b) ≡ Yes → mark_at c (tell c marks g s) (Same a b) ≡ Yes
    kept a b h k e =
        ⊎_elim
        (λ eq. absurd (open_yes (sym was ∙ sym (one_mark c marks (Same a b) g eq) ∙ e)))
        (λ ne. mark_kept c marks g (Same a b) s ne ∙ e)
        (cases_eq (number_of c (Same a b)) (number_of c g))

pub clash_told : ClashTold
clash_told c marks leader g s table calm l was below joins =
    clash_at c marks (tell c marks g s) leader g s table calm (λ h k ne. mark_kept c marks g h s ne)
    (classes_told c marks leader g s table l was joins) l (mark_told c marks g g s refl below)

pub classes_same : ClassesSame
classes_same c marks other leader same table =
    record {
      linked = λ a h. linked_more c marks other (λ x y hx hy. (same x y hx hy).0) a (leader a) (table.linked a h);
      lowest = λ a b h r. table.lowest a b h (linked_more c other marks (λ x y hx hy. (same x y hx hy).1) a b r);
    }
