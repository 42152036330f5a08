-- What one atom told leaves of the classes and of clashes.
use Rattle.std.proofs.Common.{◌≡◌, ℕ, ◌<◌, ◌↔◌, length, get_or, set, sym, ap, ◌∙◌, subst, arith}
use Rattle.std.proofs.lemmas.List.{length-set, get_or-set_same, set-set, set-get_or}
use Rattle.syntax.specs.declared.types.Ground.{Ground}
use Rattle.syntax.specs.declared.types.Mark.TheVariants.{Open}
use Rattle.syntax.specs.declared.counts.Counts.{Counts}
use Rattle.syntax.specs.Numbers.{number_of, LawfulGround}
use Rattle.semantics.specs.Branch.{Branch, mark_at, tell, Clash, ClassTable, signed as signed_so}
use Rattle.classes.specs.Leaders.{JoinsNone}
use Rattle.classes.specs.Clashes.{ClashAt}
use Rattle.classes.proofs.Clashing.{classes_told, clash_told}
use Rattle.syntax.specs.declared.types.SignedAtom.{SignedAtom}
use Rattle.tableau.specs.Signs.{StandsIn}
use Rattle.tableau.proofs.Clauses.{same_signed}

module _ (c : Counts) (marks : Branch) (leader : ℕ → ℕ) (l : SignedAtom) (g : Ground) (lawful : LawfulGround c g) (is : number_of c g ≡ l.atom) (stands : StandsIn marks l) (inside : l.atom < length marks)
    (fits : ClassTable c (set marks l.atom Open) leader) (calm : Clash c (set marks l.atom Open) → ⊥) (none : JoinsNone leader g l.sign) where
  was_open : mark_at c (set marks l.atom Open) g ≡ Open
  was_open = ap (λ k. get_or (set marks l.atom Open) k Open) is ∙ get_or-set_same marks l.atom Open Open inside

  back_on : tell c (set marks l.atom Open) g l.sign ≡ marks
  back_on =
      ap (λ k. set (set marks l.atom Open) k (signed_so l.sign)) is
      ∙ set-set marks l.atom Open (signed_so l.sign)
      ∙ ap (set marks l.atom) (sym (same_signed l.sign) ∙ sym stands)
      ∙ set-get_or marks l.atom Open

  pub still_fits : ClassTable c marks leader
  still_fits =
      let P : Branch → Type 0 = λ m. ClassTable c m leader in
      subst P back_on (classes_told c (set marks l.atom Open) leader g l.sign fits lawful was_open none)

  pub clash_here : Clash c marks ↔ ClashAt c marks leader g l.sign
  clash_here =
      let P : Branch → Type 0 = λ m. Clash c m ↔ ClashAt c m leader g l.sign in
      let lt : number_of c g < length (set marks l.atom Open) = omega (arith, is, length-set marks l.atom Open) in
      subst P back_on (clash_told c (set marks l.atom Open) leader g l.sign fits calm lawful was_open lt none)
