-- One signed atom of an instance after the other looked at.
use Rattle.std.proofs.Common.{◌≡◌, suc, ◌⊎◌, Bool, true, false, refl, List, [], ◌∷◌, ◌++◌, Some, None, append_assoc, append-nil, sym, ap, ◌∙◌, subst, get_or, not, inl, inr, arith}
use mathlib.Core.Bool.{beq}
use Rattle.std.specs.List.{ContainsAt as Has, AllByRecursion}
use Rattle.std.proofs.ByRecursion.{All-append, All-weaker}
use Rattle.syntax.specs.declared.types.Literal.{Literal}
use Rattle.syntax.specs.declared.types.Mark.{Mark}
use Rattle.syntax.specs.declared.types.Mark.TheVariants.{Yes, No, Open}
use Rattle.syntax.specs.Lawful.{Lawful, LawfulLiteral}
use Rattle.tables.specs.Marks.{signed}
use Rattle.syntax.specs.declared.counts.Counts.{Counts}
use Rattle.semantics.specs.Meaning.{Clause, Assignment}
use Rattle.syntax.specs.declared.types.SignedAtom.{SignedAtom}
use Rattle.tableau.specs.declared.types.Status.{Status}
use Rattle.tableau.specs.declared.types.Status.TheVariants.{Fulfilled, Broken, Forced, Loose}
use Rattle.tableau.specs.Signs.{SomeOf, StandsIn, DeniedIn, OpenIn, signed_atom_of, instance}
use Rattle.tableau.specs.Scans.{Evaluated, sign_of, with_open}

-- from the sign that was read to the mark
stands_by : (m : Mark) (s t : Bool) → sign_of m ≡ Some s → beq s t ≡ true → m ≡ signed t
stands_by Yes true true e f = refl
stands_by No false false e f = refl
stands_by Yes false t e f = grind arith
stands_by Yes true false e f = grind arith
stands_by No true t e f = grind arith
stands_by No false true e f = grind arith
stands_by Open s t e f = grind arith

denied_by : (m : Mark) (s t : Bool) → sign_of m ≡ Some s → beq s t ≡ false → m ≡ signed (not t)
denied_by Yes true false e f = refl
denied_by No false true e f = refl
denied_by Yes false t e f = grind arith
denied_by Yes true true e f = grind arith
denied_by No true t e f = grind arith
denied_by No false false e f = grind arith
denied_by Open s t e f = grind arith

open_by : (m : Mark) → sign_of m ≡ None → m ≡ Open
open_by Yes h = grind arith
open_by No h = grind arith
open_by Open h = refl

-- of an instance of the clause all before the literals that are left is looked at
pub record Looked (c : Counts) (ms : List Mark) (σ : Assignment) (cl left : Clause) (v : Status) : Type 0 where
  pub front : List SignedAtom
  pub whole : front ++ instance c σ left ≡ instance c σ cl
  pub so : Evaluated ms (instance c σ cl) front v
  pub lawful : AllByRecursion (LawfulLiteral c) left

pub looked_none : (c : Counts) (ms : List Mark) (σ : Assignment) (cl : Clause) → Lawful c cl → Looked c ms σ cl cl Broken
looked_none c ms σ cl law = record { front = []; whole = refl; so = tt; lawful = law.each }

pub looked_all : (c : Counts) (ms : List Mark) (σ : Assignment) (cl left : Clause) (v : Status) → Looked c ms σ cl left v → left ≡ [] → Evaluated ms (instance c σ cl) (instance c σ cl) v
looked_all c ms σ cl left v k e =
    let P : List SignedAtom → Type 0 = λ f. Evaluated ms (instance c σ cl) f v in
    subst P (sym (append-nil k.front) ∙ ap (λ r. k.front ++ instance c σ r) (sym e) ∙ k.whole) k.so

has_amid : (xs : List SignedAtom) (y : SignedAtom) (ys : List SignedAtom) → Has (xs ++ (y ∷ ys)) y
has_amid [] y ys = (0, omega arith, λ d. refl)
has_amid (x ∷ xs) y ys = let (k, h, e) = has_amid xs y ys in (suc k, omega arith, e)

module _ (c : Counts) (ms : List Mark) (σ : Assignment) (cl left : Clause) (v : Status) (k : Looked c ms σ cl left v) (l : Literal) (rest : Clause) (is : left ≡ l ∷ rest) (x : SignedAtom) (so : x ≡ signed_atom_of c σ l) where
  on : k.front ++ (x ∷ instance c σ rest) ≡ instance c σ cl
  on = ap (λ z. k.front ++ (z ∷ instance c σ rest)) so ∙ ap (λ r. k.front ++ instance c σ r) (sym is) ∙ k.whole

  further : (k.front ++ (x ∷ [])) ++ instance c σ rest ≡ instance c σ cl
  further = append_assoc k.front (x ∷ []) (instance c σ rest) ∙ on

  laws : AllByRecursion (LawfulLiteral c) (l ∷ rest)
  laws = subst (AllByRecursion (LawfulLiteral c)) is k.lawful

  has_here : Has (instance c σ cl) x
  has_here = subst (λ ys. Has ys x) on (has_amid k.front x (instance c σ rest))

  more_denied : (u : Status) → Evaluated ms (instance c σ cl) k.front u → DeniedIn ms x → Evaluated ms (instance c σ cl) (k.front ++ (x ∷ [])) u
  more_denied Fulfilled h d = h
  more_denied Broken h d = All-append (DeniedIn ms) k.front (x ∷ []) h (d, tt)
  more_denied (Forced m) h d = (h.0, h.1, All-append (λ n. DeniedIn ms n ⊎ (n ≡ m)) k.front (x ∷ []) h.2 (inl d, tt))
  more_denied (Loose m) h d = h

  more_open : (u : Status) → Evaluated ms (instance c σ cl) k.front u → OpenIn ms x → Evaluated ms (instance c σ cl) (k.front ++ (x ∷ [])) (with_open u x)
  more_open Fulfilled h o = h
  more_open Broken h o = (
    o,
    has_here,
    All-append (λ n. DeniedIn ms n ⊎ (n ≡ x)) k.front (x ∷ []) (All-weaker (DeniedIn ms) (λ n. DeniedIn ms n ⊎ (n ≡ x)) (λ n d. inl d) k.front h) (inr refl, tt),
  )
  more_open (Forced m) h o = (h.0, h.1)
  more_open (Loose m) h o = h

  -- by the sign with which it stands
  module _ (s : Bool) (at : sign_of (get_or ms x.atom Open) ≡ Some s) where
    pub stands : beq s x.sign ≡ true → SomeOf (StandsIn ms) (instance c σ cl)
    stands e = (x, has_here, stands_by (get_or ms x.atom Open) s x.sign at e)

    pub looked_denied : beq s x.sign ≡ false → Looked c ms σ cl rest v
    looked_denied e = record { front = k.front ++ (x ∷ []); whole = further; so = more_denied v k.so (denied_by (get_or ms x.atom Open) s x.sign at e); lawful = laws.1 }

  pub looked_open : sign_of (get_or ms x.atom Open) ≡ None → Looked c ms σ cl rest (with_open v x)
  looked_open at = record { front = k.front ++ (x ∷ []); whole = further; so = more_open v k.so (open_by (get_or ms x.atom Open) at); lawful = laws.1 }
