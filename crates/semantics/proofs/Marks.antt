-- What is told on a branch, and what agrees with it.
use Rattle.std.proofs.Common.{◌≡◌, ℕ, ◌<◌, ◌≤◌, Bool, not, ◌⊎◌, length, get_or, sym, ap, ◌∙◌, ⊎_elim, arith, length-set, get_or-set_other, get_or-set_same}
use Rattle.std.proofs.lemmas.List.{get_or_past}
use Rattle.std.proofs.lemmas.Bool.{cases_eq, cases_lt}
use Rattle.syntax.specs.declared.types.Ground.{Ground}
use Rattle.syntax.specs.declared.types.Mark.TheVariants.{Open}
use Rattle.syntax.specs.declared.counts.Counts.{Counts}
use Rattle.syntax.specs.Numbers.{number_of, LawfulGround}
use Rattle.semantics.specs.Meaning.{Interpretation, value}
use Rattle.semantics.specs.Branch.{Branch, mark_at, signed, tell, Agrees}
use Rattle.semantics.proofs.Instances.{together}

pub not_both : (t s : Bool) → t ≡ s → t ≡ not s → ⊥
not_both t s e f = grind arith

pub cases_sign : (t s : Bool) → (t ≡ s) ⊎ (t ≡ not s)
cases_sign t s = grind arith

pub signed_same : (s t : Bool) → signed s ≡ signed t → s ≡ t
signed_same s t e = grind arith

pub open_signed : (s : Bool) → Open ≡ signed s → ⊥
open_signed s e = grind arith

-- the mark of an atom with the number that was told, and of any other
pub mark_told : (c : Counts) (marks : Branch) (g h : Ground) (s : Bool) → number_of c h ≡ number_of c g → number_of c g < length marks → mark_at c (tell c marks g s) h ≡ signed s
mark_told c marks g h s e below = ap (λ (k : ℕ). get_or (tell c marks g s) k Open) e ∙ get_or-set_same marks (number_of c g) (signed s) Open below

pub mark_kept : (c : Counts) (marks : Branch) (g h : Ground) (s : Bool) → (number_of c h ≡ number_of c g → ⊥) → mark_at c (tell c marks g s) h ≡ mark_at c marks h
mark_kept c marks g h s ne = get_or-set_other marks (number_of c g) (number_of c h) (signed s) Open ne

-- past the end of the marks nothing is told
mark_past : (c : Counts) (marks : Branch) (g h : Ground) (s : Bool) → number_of c h ≡ number_of c g → length marks ≤ number_of c g → mark_at c (tell c marks g s) h ≡ Open
mark_past c marks g h s e past = get_or_past (tell c marks g s) (number_of c h) Open (simp length-set (omega arith))

-- to tell what is so keeps the agreement
pub tell_agrees :
    (c : Counts) (marks : Branch) (I : Interpretation) (g : Ground) (s : Bool) →
    Agrees c I marks → LawfulGround c g → value I g ≡ s → Agrees c I (tell c marks g s)
tell_agrees c marks I g s agrees lawful so h m t e =
    ⊎_elim
    (λ eq. ⊎_elim
    (λ below. together c I h g m lawful eq ∙ so ∙ signed_same s t (sym (mark_told c marks g h s eq below) ∙ e))
    (λ past. absurd (open_signed t (sym (mark_past c marks g h s eq past) ∙ e)))
    (cases_lt (number_of c g) (length marks)))
    (λ ne. agrees h m t (sym (mark_kept c marks g h s ne) ∙ e))
    (cases_eq (number_of c h) (number_of c g))

-- where nothing stands every interpretation agrees
pub open_agrees : (c : Counts) (marks : Branch) (I : Interpretation) → ((g : Ground) → LawfulGround c g → mark_at c marks g ≡ Open) → Agrees c I marks
open_agrees c marks I nothing g lawful s e = absurd (open_signed s (sym (nothing g lawful) ∙ e))
