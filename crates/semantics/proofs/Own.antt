-- The model of a fulfilled branch without clash.
use Rattle.std.proofs.Common.{◌≡◌, ℕ, ◌<◌, Bool, true, false, sym, refl, ap, ◌∙◌, arith, eq-eqb, eqb-true}
use Rattle.std.proofs.ByRecursion.{all-has}
use Rattle.std.proofs.lemmas.Bool.{and_from, and_parts}
use Rattle.syntax.specs.declared.types.Ground.{Ground}
use Rattle.syntax.specs.declared.types.Ground.TheVariants.{Same, Prop, Rel}
use Rattle.syntax.specs.declared.types.Mark.{Mark}
use Rattle.syntax.specs.declared.types.Mark.TheVariants.{Yes, No}
use Rattle.syntax.specs.declared.counts.Counts.{Counts}
use Rattle.syntax.specs.Lawful.{Lawful, LawfulLiteral}
use Rattle.syntax.specs.Numbers.{LawfulGround}
use Rattle.semantics.specs.Meaning.{value}
use Rattle.semantics.specs.Branch.{Branch, mark_at, Linked, self, told, back, on, Clash, same_no, prop_both, rel_both, ClassTable, StandsFor, own, is_yes}
use Rattle.semantics.specs.Theorems.{OwnModel, OwnExact, OneOwn, OwnAgrees, OneTable, TableFrom, FulfilledFrom}
use Rattle.semantics.proofs.Finite.{any_in, any_out}
use Rattle.semantics.proofs.Instances.{in_clause, four_at, ground_same}
use Rattle.semantics.proofs.Steps.{linked_below}

is_yes_yes : (m : Mark) → is_yes m ≡ true → m ≡ Yes
is_yes_yes m e = grind arith

false_from : (t : Bool) → (t ≡ true → ⊥) → t ≡ false
false_from t no_true = grind arith

same_from : (s t : Bool) → (s ≡ true → t ≡ true) → (t ≡ true → s ≡ true) → s ≡ t
same_from s t f g = grind arith

module _ (c : Counts) (marks : Branch) (leader : ℕ → ℕ) (table : ClassTable c marks leader) where
  pub leader_below : (a : ℕ) → a < c.names → leader a < c.names
  leader_below a h = omega (arith, table.lowest a a h (self h))

  -- linked names have one leader, and names with one leader are linked
  pub same_leader : {a b : ℕ} → Linked c marks a b → leader a ≡ leader b
  same_leader {a} {b} r =
      let (h, k) = linked_below r in
      omega (arith, table.lowest a (leader b) h (on r (table.linked b k)), table.lowest b (leader a) k (on (back r) (table.linked a h)))

  pub linked_by : {a b : ℕ} → a < c.names → b < c.names → leader a ≡ leader b → Linked c marks a b
  linked_by {a} {b} h k e = on (table.linked a h) (rw e (back (table.linked b k)))

  exact_in : (g : Ground) → LawfulGround c g → StandsFor c marks g → value (own c marks leader) g ≡ true
  exact_in (Same a b) h r = eq-eqb _ _ (same_leader r)
  exact_in (Prop p a) h (x, r, e) =
      any_in c.names _ x (linked_below r).1 (and_from _ _ (eq-eqb _ _ (sym (same_leader r))) (ap is_yes e))
  exact_in (Rel k a b) h (x, r, (y, s, e)) =
      any_in c.names _ x (linked_below r).1
      (and_from _ _ (eq-eqb _ _ (sym (same_leader r)))
      (any_in c.names _ y (linked_below s).1 (and_from _ _ (eq-eqb _ _ (sym (same_leader s))) (ap is_yes e))))

  exact_out : (g : Ground) → LawfulGround c g → value (own c marks leader) g ≡ true → StandsFor c marks g
  exact_out (Same a b) h v = linked_by h.0 h.1 (eqb-true _ _ v)
  exact_out (Prop p a) h v =
      let (x, below, both) = any_out c.names _ v in
      let (e, f) = and_parts _ _ both in
      (x, linked_by h.1 below (sym (eqb-true _ _ e)), is_yes_yes _ f)
  exact_out (Rel k a b) h v =
      let (x, below, both) = any_out c.names _ v in
      let (e, f) = and_parts _ _ both in
      let (y, low, two) = any_out c.names _ f in
      let (d, m) = and_parts _ _ two in
      (x, linked_by h.1.0 below (sym (eqb-true _ _ e)), (y, linked_by h.1.1 low (sym (eqb-true _ _ d)), is_yes_yes _ m))

pub own_exact : OwnExact
own_exact c marks leader g table h = (exact_out c marks leader table g h, exact_in c marks leader table g h)

pub one_own : OneOwn
one_own c marks one other g t u h =
    same_from _ _
    (λ v. exact_in c marks other u g h (exact_out c marks one t g h v))
    (λ v. exact_in c marks one t g h (exact_out c marks other u g h v))

-- what stands yes stands for linked names, and what stands no does not
stands_yes : (c : Counts) (marks : Branch) (g : Ground) → LawfulGround c g → mark_at c marks g ≡ Yes → StandsFor c marks g
stands_yes c marks (Same a b) h e = told h.0 h.1 e
stands_yes c marks (Prop p a) h e = (a, self h.1, e)
stands_yes c marks (Rel k a b) h e = (a, self h.1.0, (b, self h.1.1, e))

stands_no : (c : Counts) (marks : Branch) (g : Ground) → LawfulGround c g → mark_at c marks g ≡ No → StandsFor c marks g → Clash c marks
stands_no c marks (Same a b) h e r = same_no a b r e
stands_no c marks (Prop p a) h e (x, r, f) = prop_both p x a h.0 (back r) f e
stands_no c marks (Rel k a b) h e (x, r, (y, s, f)) = rel_both k x y a b h.0 (back r) (back s) f e

pub own_agrees : OwnAgrees
own_agrees c marks leader table no_clash g h true e = exact_in c marks leader table g h (stands_yes c marks g h e)
own_agrees c marks leader table no_clash g h false e = false_from _ (λ v. no_clash (stands_no c marks g h e (exact_out c marks leader table g h v)))

pub own_model_lem : OwnModel
own_model_lem c clauses marks leader lawful table no_clash fulfilled =
    record {
      over = leader_below c marks leader table;
      all = λ cl i σ assigns.
          let some = fulfilled cl i σ assigns in
          let at = in_clause c σ cl some.0 assigns (all-has (Lawful c) clauses cl lawful i) some.1 in
          (some.0, some.1, own_agrees c marks leader table no_clash _ at some.0.sign some.2);
    }

pub one_table : OneTable
one_table c marks one other t u a h = omega (arith, t.lowest a (other a) h (u.linked a h), u.lowest a (one a) h (t.linked a h))

pub table_from : TableFrom
table_from c marks leader linked falls closed = record { linked = linked; lowest = λ a b h r. omega (arith, one_leader r, falls b (linked_below r).1) }
  where
    one_leader : {a b : ℕ} → Linked c marks a b → leader a ≡ leader b
    one_leader (self h) = refl
    one_leader (told {a} {b} h k e) = closed a b h k e
    one_leader (back r) = sym (one_leader r)
    one_leader (on r s) = one_leader r ∙ one_leader s

pub fulfilled_from : FulfilledFrom
fulfilled_from c clauses marks lawful each cl i σ assigns =
    let some = each cl i (σ 0) (σ 1) (σ 2) (σ 3) (assigns 0 (omega arith)) (assigns 1 (omega arith)) (assigns 2 (omega arith)) (assigns 3 (omega arith)) in
    let l = some.0 in
    let at = all-has (LawfulLiteral c) cl l (all-has (Lawful c) clauses cl lawful i).each some.1 in
    (l, some.1, sym (ap (mark_at c marks) (ground_same c _ σ l.atom (four_at σ) at)) ∙ some.2)
