-- What agrees with a branch meets no clash, and each step of a search keeps the agreement.
use Rattle.std.proofs.Common.{◌≡◌, ℕ, ◌<◌, Bool, true, false, eqb, ◌⊎◌, sym, refl, ap, ◌∙◌, ap₂, inl, inr, ⊎_elim, eqb-true}
use borrow.Author.Tests.{eqb-false}
use Rattle.std.specs.List.{AllByRecursion}
use Rattle.std.proofs.ByRecursion.{all-has}
use Rattle.std.proofs.lemmas.Bool.{both_ways}
use Rattle.syntax.specs.declared.types.Ground.{Ground}
use Rattle.syntax.specs.declared.types.Ground.TheVariants.{Same, Prop, Rel}
use Rattle.syntax.specs.declared.types.Mark.TheVariants.{Yes, No}
use Rattle.syntax.specs.declared.counts.Counts.{Counts}
use Rattle.syntax.specs.Lawful.{Lawful}
use Rattle.syntax.specs.Numbers.{LawfulGround}
use Rattle.semantics.specs.Meaning.{Clause, Interpretation, value, Assignment, Assigns, SomeHolds}
use Rattle.semantics.specs.Branch.{Branch, mark_at, signed, tell, Agrees, Linked, self, told, back, on, Alike, same, prop, rel, Clash, same_no, prop_both, rel_both, Denied, DeniedOr}
use Rattle.semantics.specs.Theorems.{OneThing, NoClash, Forced, DeniedAll, ToldAlike, Split, Refutation}
use Rattle.semantics.proofs.Instances.{together, in_clause}
use Rattle.semantics.proofs.Marks.{not_both, tell_agrees, open_agrees}

pub one_thing : OneThing
one_thing c marks I agrees a b (self h) = refl
one_thing c marks I agrees a b (told h k e) = eqb-true _ _ (agrees (Same a b) (h, k) true e)
one_thing c marks I agrees a b (back r) = sym (one_thing c marks I agrees b a r)
one_thing c marks I agrees a b (on r s) = one_thing c marks I agrees _ _ r ∙ one_thing c marks I agrees _ _ s

-- linked names lie below N
pub linked_below : {c : Counts} {marks : Branch} {a b : ℕ} → Linked c marks a b → (a < c.names) × (b < c.names)
linked_below (self h) = (h, h)
linked_below (told h k e) = (h, k)
linked_below (back r) = let p = linked_below r in (p.1, p.0)
linked_below (on r s) = ((linked_below r).0, (linked_below s).1)

-- alike atoms are both of the book, and hold together
pub alike_lawful : {c : Counts} {marks : Branch} {g h : Ground} → LawfulGround c g → Alike c marks g h → LawfulGround c h
alike_lawful l (same r s) = ((linked_below r).1, (linked_below s).1)
alike_lawful l (prop r) = (l.0, (linked_below r).1)
alike_lawful l (rel r s) = (l.0, ((linked_below r).1, (linked_below s).1))

pub alike_value : (c : Counts) (marks : Branch) (I : Interpretation) (g h : Ground) → Agrees c I marks → Alike c marks g h → value I g ≡ value I h
alike_value c marks I g h agrees (same r s) = ap₂ eqb (one_thing c marks I agrees _ _ r) (one_thing c marks I agrees _ _ s)
alike_value c marks I g h agrees (prop {p} r) = ap (I.prop p) (one_thing c marks I agrees _ _ r)
alike_value c marks I g h agrees (rel {r = k} r s) = ap₂ (I.rel k) (one_thing c marks I agrees _ _ r) (one_thing c marks I agrees _ _ s)

-- alike atoms do not stand yes and no
apart_alike :
    (c : Counts) (marks : Branch) (I : Interpretation) (g h : Ground) → Agrees c I marks → LawfulGround c g → Alike c marks g h →
    mark_at c marks g ≡ signed true → mark_at c marks h ≡ signed false → ⊥
apart_alike c marks I g h agrees l alike e f =
    both_ways (value I g) (alike_value c marks I g h agrees alike ∙ agrees h (alike_lawful l alike) false f) (agrees g l true e)

pub no_clash : NoClash
no_clash c marks I agrees (same_no a b r e) = eqb-false _ _ (agrees (Same a b) (linked_below r) false e) (one_thing c marks I agrees a b r)
no_clash c marks I agrees (prop_both p a x h r e f) = apart_alike c marks I (Prop p a) (Prop p x) agrees (h, (linked_below r).0) (prop r) e f
no_clash c marks I agrees (rel_both p a b x y h r s e f) =
    apart_alike c marks I (Rel p a b) (Rel p x y) agrees (h, ((linked_below r).0, (linked_below s).0)) (rel r s) e f

-- alike atoms that stand yes and no are a clash
pub clash_alike :
    (c : Counts) (marks : Branch) (g h : Ground) → LawfulGround c g → Alike c marks g h →
    mark_at c marks g ≡ Yes → mark_at c marks h ≡ No → Clash c marks
clash_alike c marks g h l (same {a} {b} {x} {y} r s) e f = same_no x y (on (back r) (on (told l.0 l.1 e) s)) f
clash_alike c marks g h l (prop {p} {a} {x} r) e f = prop_both p a x l.0 r e f
clash_alike c marks g h l (rel {r = k} {a} {b} {x} {y} r s) e f = rel_both k a b x y l.0 r s e f

-- where more stands yes, more is linked
pub linked_more :
    (c : Counts) (marks more : Branch) →
    ((a b : ℕ) → a < c.names → b < c.names → mark_at c marks (Same a b) ≡ Yes → mark_at c more (Same a b) ≡ Yes) →
    (a b : ℕ) → Linked c marks a b → Linked c more a b
linked_more c marks more kept a b (self h) = self h
linked_more c marks more kept a b (told h k e) = told h k (kept a b h k e)
linked_more c marks more kept a b (back r) = back (linked_more c marks more kept b a r)
linked_more c marks more kept a b (on r s) = on (linked_more c marks more kept _ _ r) (linked_more c marks more kept _ _ s)

-- an instance of which some literal holds: not every literal is denied
pub conflict_at :
    (c : Counts) (marks : Branch) (I : Interpretation) (cl : Clause) (σ : Assignment) →
    Agrees c I marks → Lawful c cl → Assigns c σ → SomeHolds I σ cl → AllByRecursion (Denied c marks σ) cl → ⊥
conflict_at c marks I cl σ agrees lawful assigns some denied =
    not_both _ some.0.sign some.2 (agrees _ (in_clause c σ cl some.0 assigns lawful some.1) _ (all-has _ cl some.0 denied some.1))

-- where each but one is, that one holds
pub forced_at :
    (c : Counts) (marks : Branch) (I : Interpretation) (cl : Clause) (σ : Assignment) (g : Ground) (s : Bool) →
    Agrees c I marks → Lawful c cl → Assigns c σ → LawfulGround c g → SomeHolds I σ cl → AllByRecursion (DeniedOr c marks σ g s) cl → value I g ≡ s
forced_at c marks I cl σ g s agrees lawful assigns l some but =
    let at = in_clause c σ cl some.0 assigns lawful some.1 in
    ⊎_elim
    (λ d. absurd (not_both _ some.0.sign some.2 (agrees _ at _ d)))
    (λ it. together c I g _ l at (sym it.0) ∙ some.2 ∙ it.1)
    (all-has (DeniedOr c marks σ g s) cl some.0 but some.1)

pub forced : Forced
forced c marks I clauses cl σ g s model agrees lawful i assigns l but =
    tell_agrees c marks I g s agrees l (forced_at c marks I cl σ g s agrees lawful assigns l (model.all cl i σ assigns) but)

pub denied_all : DeniedAll
denied_all c marks I clauses cl σ model agrees lawful i assigns = conflict_at c marks I cl σ agrees lawful assigns (model.all cl i σ assigns)

pub told_alike : ToldAlike
told_alike c marks I g h s agrees l alike e =
    tell_agrees c marks I h s agrees (alike_lawful l alike) (sym (alike_value c marks I g h agrees alike) ∙ agrees g l s e)

pub split : Split
split c marks I g agrees l = go (value I g) refl
  where
    go : (t : Bool) → value I g ≡ t → Agrees c I (tell c marks g true) ⊎ Agrees c I (tell c marks g false)
    go true e = inl (tell_agrees c marks I g true agrees l e)
    go false e = inr (tell_agrees c marks I g false agrees l e)

pub refutation : Refutation
refutation c clauses lawful =
    record {
      clash = λ marks clash I model agrees. no_clash c marks I agrees clash;
      conflict = λ marks cl σ i assigns denied I model agrees.
          denied_all c marks I clauses cl σ model agrees (all-has (Lawful c) clauses cl lawful i) i assigns denied;
      forced = λ marks cl σ g s i assigns l but refuted I model agrees.
          refuted I model (forced c marks I clauses cl σ g s model agrees (all-has (Lawful c) clauses cl lawful i) i assigns l but);
      alike = λ marks g h s l alike e refuted I model agrees. refuted I model (told_alike c marks I g h s agrees l alike e);
      split = λ marks g l refuted-yes refuted-no I model agrees.
          ⊎_elim (refuted-yes I model) (refuted-no I model) (split c marks I g agrees l);
      empty = λ marks nothing refuted some. refuted some.0 some.1 (open_agrees c marks some.0 nothing);
    }
