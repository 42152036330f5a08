-- What an atom that stands says of those of linked names.
use Rattle.std.proofs.Common.{◌≡◌, ℕ, Bool, true, false, Some, List, get_or, refl, sym, ap, ◌∙◌, arith}
use Rattle.syntax.specs.declared.types.Ground.{Ground}
use Rattle.syntax.specs.declared.types.Ground.TheVariants.{Same, Prop, Rel}
use Rattle.syntax.specs.declared.types.Mark.{Mark}
use Rattle.syntax.specs.declared.types.Mark.TheVariants.{Yes, No, Open}
use Rattle.syntax.specs.declared.counts.Counts.{Counts}
use Rattle.syntax.specs.Numbers.{number_of, LawfulGround}
use Rattle.semantics.specs.Meaning.{Clause}
use Rattle.semantics.specs.Branch.{Branch, mark_at, Alike, same, prop, rel, ClassTable, signed, Agrees}
use Rattle.semantics.proofs.Own.{linked_by}
use Rattle.semantics.proofs.Steps.{alike_value}
use Rattle.tableau.specs.Signs.{Modelled}
use Rattle.tableau.specs.Scans.{sign_of, Entails}
use Rattle.tableau.specs.Variants.{renamed, OneLed}
use Rattle.tableau.proofs.Going.{says_so}

module _ (c : Counts) (marks : Branch) (leader : ℕ → ℕ) (table : ClassTable c marks leader) where
  alike : (g : Ground) (x y : ℕ) → LawfulGround c g → LawfulGround c (renamed g x y) → OneLed leader g x y → Alike c marks g (renamed g x y)
  alike (Same a b) x y l k e = same (linked_by c marks leader table l.0 k.0 e.0) (linked_by c marks leader table l.1 k.1 e.1)
  alike (Prop p a) x y l k e = prop (linked_by c marks leader table l.1 k.1 e)
  alike (Rel r a b) x y l k e = rel (linked_by c marks leader table l.1.0 k.1.0 e.0) (linked_by c marks leader table l.1.1 k.1.1 e.1)

  -- it has the same sign in every model that agrees with the branch
  pub variant_follows :
      (clauses : List Clause) (g : Ground) (x y : ℕ) → OneLed leader g x y → LawfulGround c g → (s : Bool) → mark_at c marks g ≡ signed s →
      LawfulGround c (renamed g x y) → (k : ℕ) → k ≡ number_of c (renamed g x y) → Entails (Modelled c clauses) marks (record { atom = k; sign = s })
  variant_follows clauses g x y e l s is h k at v m agrees =
      let so : Agrees c m.by marks = λ f lawful t stands. sym (m.same f lawful) ∙ says_so (get_or marks (number_of c f) Open) (v (number_of c f)) t (agrees (number_of c f)) stands in
      ap v at ∙ m.same (renamed g x y) h ∙ sym (alike_value c marks m.by g (renamed g x y) so (alike g x y l h e)) ∙ so g l s is

-- from the sign that was read to the mark
pub sign_read : (m : Mark) (s : Bool) → Some s ≡ sign_of m → m ≡ signed s
sign_read Yes true e = refl
sign_read Yes false e = grind arith
sign_read No true e = grind arith
sign_read No false e = refl
sign_read Open s e = grind arith
