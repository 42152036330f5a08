-- Interpretations as bytes, and back.
use Rattle.std.proofs.Common.{◌≡◌, ℕ, zero, suc, ◌<◌, ◌≤◌, Bool, true, false, cond, eqb, ◌⊎◌, List, [], ◌∷◌, ◌++◌, length, get_or, sym, refl, ap, ◌∙◌, subst, ap₂, inl, inr, ⊎_elim, arith, length-append}
use Rattle.std.proofs.lemmas.List.{get_or_append_left, get_or_push, ext_get_or}
use Rattle.std.proofs.lemmas.Bool.{eqb-true, eq-eqb, ne_eqb, cases_eq, cases_Bool, cond-true, cond-false, both_ways}
use Rattle.syntax.specs.declared.types.Ground.{Ground}
use Rattle.syntax.specs.declared.types.Ground.TheVariants.{Same, Prop, Rel}
use Rattle.syntax.specs.declared.counts.Counts.{Counts}
use Rattle.syntax.specs.Lawful.{Lawful}
use Rattle.syntax.specs.Numbers.{atoms, number_of, LawfulGround}
use Rattle.syntax.proofs.Laws.{below_all, onto}
use Rattle.semantics.specs.Meaning.{Clause, Interpretation, value, Assignment, Assigns, SomeHolds}
use Rattle.semantics.specs.Bytes.{bit, byte_at, BytesOf, SameBy, Congruent}
use Rattle.semantics.specs.Branch.{any_below}
use Rattle.semantics.specs.Theorems.{SomeBytes, OneBytes, SameBytes, WhichBytes}
use Rattle.semantics.proofs.Finite.{any_in, any_out}
use Rattle.semantics.proofs.Instances.{together, in_clause}

-- a list whose every element is as asked
list_of : (P : ℕ → ℕ → Type 0) (n : ℕ) → ((k : ℕ) → k < n → (x : ℕ) × P k x) → (xs : List ℕ) × (length xs ≡ n) × ((k : ℕ) → k < n → P k (get_or xs k 0))
list_of P zero each = ([], refl, λ k h. absurd (omega arith))
list_of P (suc n) each =
    let (xs, long, so) = list_of P n (λ k h. each k (omega arith)) in
    let (x, new) = each n (omega arith) in (
      xs ++ x ∷ [],
      simp length-append (omega arith),
      λ k h. ⊎_elim
          (λ e. subst (λ (j : ℕ). P j (get_or (xs ++ x ∷ []) j 0)) (sym e) (subst (P n) (sym (get_or_push xs x 0 n long)) new))
          (λ ne. subst (P k) (sym (get_or_append_left xs (x ∷ []) 0 k (omega arith))) (so k (omega arith)))
          (cases_eq k n),
    )

pub some_bytes : SomeBytes
some_bytes c I over =
    let Tells : ℕ → ℕ → Type 0 = λ k x. (g : Ground) → LawfulGround c g → number_of c g ≡ k → x ≡ bit (value I g) in
    let (bytes, long, so) = list_of Tells (atoms c) (λ k h.
    let (g, l, e) = onto c k h in
    (bit (value I g), λ o m f. ap bit (together c I g o l m (e ∙ sym f)))) in
    (bytes, record { over = over; long = long; tell = λ g l. so (number_of c g) (below_all c g l) g l refl })

pub one_bytes : OneBytes
one_bytes c I bytes others b d =
    ext_get_or 0 bytes others (b.long ∙ sym d.long)
    (λ k h. let (g, l, e) = onto c k (omega (arith, b.long)) in
    subst (λ (j : ℕ). get_or bytes j 0 ≡ get_or others j 0) e (b.tell g l ∙ sym (d.tell g l)))

-- a value read off its byte
bit_same : (s t : Bool) → bit s ≡ bit t → s ≡ t
bit_same s t e = grind arith

bit_of : (n : ℕ) → (n ≡ 0) ⊎ (n ≡ 1) → n ≡ bit (eqb n 1)
bit_of n (inl e) = e ∙ ap bit (sym (ne_eqb n 1 (λ f. absurd (omega arith))))
bit_of n (inr e) = e ∙ ap bit (sym (eq-eqb n 1 e))

bit_either : (s : Bool) → (bit s ≡ 0) ⊎ (bit s ≡ 1)
bit_either true = inr refl
bit_either false = inl refl

pub byte_value : (c : Counts) (I : Interpretation) (bytes : List ℕ) (g : Ground) → BytesOf c I bytes → LawfulGround c g → value I g ≡ eqb (byte_at c bytes g) 1
byte_value c I bytes g b l = bit_same _ _ (sym (b.tell g l) ∙ bit_of _ (subst (λ (n : ℕ). (n ≡ 0) ⊎ (n ≡ 1)) (sym (b.tell g l)) (bit_either (value I g))))

-- interpretations with the same bytes give lawful atoms the same values
pub same_value : (c : Counts) (I J : Interpretation) (bytes : List ℕ) (g : Ground) → BytesOf c I bytes → BytesOf c J bytes → LawfulGround c g → value I g ≡ value J g
same_value c I J bytes g b d l = bit_same _ _ (sym (b.tell g l) ∙ d.tell g l)

pub same_holds :
    (c : Counts) (I J : Interpretation) (bytes : List ℕ) (cl : Clause) (σ : Assignment) →
    BytesOf c I bytes → BytesOf c J bytes → Lawful c cl → Assigns c σ → SomeHolds I σ cl → SomeHolds J σ cl
same_holds c I J bytes cl σ b d lawful assigns some =
    (some.0, some.1, same_value c J I bytes _ d b (in_clause c σ cl some.0 assigns lawful some.1) ∙ some.2)

pub same_bytes : SameBytes
same_bytes c I J bytes cl b d lawful sat σ assigns = same_holds c I J bytes cl σ b d lawful assigns (sat σ assigns)

-- the bytes of an interpretation are congruent
module _ (c : Counts) (I : Interpretation) (bytes : List ℕ) (b : BytesOf c I bytes) where
  one_thing : (x y : ℕ) → x < c.names → y < c.names → SameBy c bytes x y → I.thing x ≡ I.thing y
  one_thing x y h k e = eqb-true _ _ (bit_same _ true (sym (b.tell (Same x y) (h, k)) ∙ e))

  same_by : (x y : ℕ) → x < c.names → y < c.names → I.thing x ≡ I.thing y → SameBy c bytes x y
  same_by x y h k e = b.tell (Same x y) (h, k) ∙ ap bit (eq-eqb _ _ e)

  congruent : Congruent c bytes
  congruent = record {
    long = b.long;
    bits = λ k h. let (g, l, e) = onto c k h in
        subst (λ (j : ℕ). (get_or bytes j 0 ≡ 0) ⊎ (get_or bytes j 0 ≡ 1)) e (subst (λ (n : ℕ). (n ≡ 0) ⊎ (n ≡ 1)) (sym (b.tell g l)) (bit_either (value I g)));
    reflexive = λ x h. same_by x x h h refl;
    symmetric = λ x y h k e. same_by y x k h (sym (one_thing x y h k e));
    transitive = λ x y z h k m e f. same_by x z h m (one_thing x y h k e ∙ one_thing y z k m f);
    properties = λ p x y l h k e.
        b.tell (Prop p x) (l, h) ∙ ap (λ (t : ℕ). bit (I.prop p t)) (one_thing x y h k e) ∙ sym (b.tell (Prop p y) (l, k));
    relations = λ r x y u v l h k m n e f.
        b.tell (Rel r x y) (l, (h, k)) ∙ ap bit (ap₂ (I.rel r) (one_thing x u h m e) (one_thing y v k n f)) ∙ sym (b.tell (Rel r u v) (l, (m, n)));
  }

-- the lowest number below n of which a test holds
abbrev lowest : ℕ → (ℕ → Bool) → ℕ
lowest zero f = 0
lowest (suc n) f = cond (any_below n f) (lowest n f) n

lowest_is : (n : ℕ) (f : ℕ → Bool) (k : ℕ) → k < n → f k ≡ true → (f (lowest n f) ≡ true) × (lowest n f ≤ k)
lowest_is zero f k h e = absurd (omega arith)
lowest_is (suc n) f k h e =
    let P : ℕ → Type 0 = λ m. (f m ≡ true) × (m ≤ k) in
    ⊎_elim
    (λ any. let (j, below, so) = any_out n f any in let there = lowest_is n f j below so in
    subst P (sym (cond-true (any_below n f) (lowest n f) n any))
    (⊎_elim (λ eq. (there.0, omega arith)) (λ ne. lowest_is n f k (omega arith) e) (cases_eq k n)))
    (λ none. subst P (sym (cond-false (any_below n f) (lowest n f) n none))
    (⊎_elim (λ eq. (ap f (sym eq) ∙ e, omega arith)) (λ ne. absurd (both_ways _ none (any_in n f k (omega arith) e))) (cases_eq k n)))
    (cases_Bool (any_below n f))

-- the interpretation of congruent bytes: each name goes to the lowest name that is the same
abbrev pub read_from : Counts → List ℕ → Interpretation
read_from c bytes = record {
  thing = λ a. lowest c.names (λ b. eqb (byte_at c bytes (Same a b)) 1);
  prop = λ p t. eqb (byte_at c bytes (Prop p t)) 1;
  rel = λ r t u. eqb (byte_at c bytes (Rel r t u)) 1;
}

module _ (c : Counts) (bytes : List ℕ) (is : Congruent c bytes) where
  abbrev lead : ℕ → ℕ
  lead a = (read_from c bytes).thing a

  lead_is : (a b : ℕ) → a < c.names → b < c.names → SameBy c bytes a b → SameBy c bytes a (lead a) × (lead a ≤ b)
  lead_is a b h k e = let z = lowest_is c.names (λ x. eqb (byte_at c bytes (Same a x)) 1) b k (eq-eqb _ _ e) in (eqb-true _ _ z.0, z.1)

  lead_same : (a : ℕ) → a < c.names → SameBy c bytes a (lead a)
  lead_same a h = (lead_is a a h h (is.reflexive a h)).0

  lead_below : (a : ℕ) → a < c.names → lead a < c.names
  lead_below a h = omega (arith, (lead_is a a h h (is.reflexive a h)).1)

  -- names that are the same have one leader, and no others
  lead_down : (a b : ℕ) → a < c.names → b < c.names → SameBy c bytes a b → lead a ≤ lead b
  lead_down a b h k e = (lead_is a (lead b) h (lead_below b k) (is.transitive a b (lead b) h k (lead_below b k) e (lead_same b k))).1

  lead_one : (a b : ℕ) → a < c.names → b < c.names → SameBy c bytes a b → lead a ≡ lead b
  lead_one a b h k e = omega (arith, lead_down a b h k e, lead_down b a k h (is.symmetric a b h k e))

  lead_back : (a b : ℕ) → a < c.names → b < c.names → lead a ≡ lead b → SameBy c bytes a b
  lead_back a b h k e =
      let m = lead_below b k in
      is.transitive a (lead b) b h m k (subst (λ (t : ℕ). SameBy c bytes a t) e (lead_same a h)) (is.symmetric b (lead b) k m (lead_same b k))

  byte_bit : (g : Ground) → LawfulGround c g → (byte_at c bytes g ≡ 0) ⊎ (byte_at c bytes g ≡ 1)
  byte_bit g l = is.bits (number_of c g) (below_all c g l)

  read_tell : (g : Ground) → LawfulGround c g → byte_at c bytes g ≡ bit (value (read_from c bytes) g)
  read_tell (Same a b) (h, k) =
      ⊎_elim
      (λ e. e ∙ ap bit (sym (ne_eqb (lead a) (lead b) (λ f. absurd (omega (arith, lead_back a b h k f))))))
      (λ e. e ∙ ap bit (sym (eq-eqb _ _ (lead_one a b h k e))))
      (byte_bit (Same a b) (h, k))
  read_tell (Prop p a) (l, h) =
      is.properties p a (lead a) l h (lead_below a h) (lead_same a h) ∙ bit_of _ (byte_bit (Prop p (lead a)) (l, lead_below a h))
  read_tell (Rel r a b) (l, (h, k)) =
      is.relations r a b (lead a) (lead b) l h k (lead_below a h) (lead_below b k) (lead_same a h) (lead_same b k)
      ∙ bit_of _ (byte_bit (Rel r (lead a) (lead b)) (l, (lead_below a h, lead_below b k)))

  read_bytes : BytesOf c (read_from c bytes) bytes
  read_bytes = record { over = lead_below; long = is.long; tell = read_tell }

pub which_bytes : WhichBytes
which_bytes c bytes = (λ t. congruent c t.0 bytes t.1, λ is. (read_from c bytes, read_bytes c bytes is))
