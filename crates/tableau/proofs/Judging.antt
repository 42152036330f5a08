-- From the search to the judgement.
use Rattle.std.proofs.Common.{◌≡◌, ℕ, zero, suc, ◌≤◌, true, false, eqb, List, [], ◌∷◌, length, get_or, take, drop, Some, None, Ok, Err, Option, Result, Bor, sym, refl, ap, ◌∙◌, subst, arith}
use Rattle.std.proofs.lemmas.List.{ext_get_or}
use Rattle.std.proofs.lemmas.Bool.Decides.{nat_tests}
use Rattle.syntax.specs.declared.types.Mark.{Mark}
use Rattle.syntax.specs.declared.types.Mark.TheVariants.{Open, No}
use Rattle.syntax.specs.declared.types.Ground.TheVariants.{Same, Prop, Rel}
use Rattle.syntax.specs.declared.types.Refusal.{Refusal}
use Rattle.syntax.specs.declared.counts.Counts.{Counts}
use Rattle.syntax.specs.Numbers.{atoms, number_of}
use Rattle.syntax.specs.Refusals.{answer}
use Rattle.semantics.specs.Meaning.{Clause}
use Rattle.semantics.specs.Bytes.{BytesOf}
use Rattle.semantics.specs.Branch.{Clash, same_no, prop_both, rel_both, ClassTable, own}
use Rattle.classes.specs.Models.{Written, ItsBytes}
use Rattle.semantics.specs.Judgements.{Contradictory}
use Rattle.semantics.proofs.Reading.{some_bytes, byte_value}
use Rattle.tables.specs.Marks.{cleared}
use Rattle.tableau.specs.declared.verdict.Verdict.TheVariants.{Consistent, Contradictory as Contrary}
use Rattle.classes.specs.declared.table.ClassTable.{ClassTable as ClassTableOf}
use Rattle.classes.specs.Leaders.{leader_of}
use Rattle.tables.specs.declared.table.BranchTable.{Ghosts as TableGhosts}
use Rattle.tables.specs.Items.{items, slots_of}
use Rattle.books.specs.declared.book.Book.{Ghosts as BookGhosts}
use Rattle.syntax.proofs.Laws.{few}
use Rattle.tableau.specs.declared.types.Search.{Search}
use Rattle.tableau.specs.Views.{moment, Ready, Decides}
use Rattle.tableau.specs.Branch.{Frame}
use Rattle.tableau.proofs.States.{nothing_past}
use Rattle.tableau.specs.Signs.{Clear, Modelled}
use Rattle.tableau.specs.Turns.{Modelless}
use Rattle.tableau.specs.Judged.{size_refusal, judge_refusal, BranchFound, Searched, OneVerdict}

-- every model has a valuation, so without one there is no model
pub no_model_at_all : (c : Counts) (clauses : List Clause) → Modelless (Modelled c clauses) → Contradictory c clauses
no_model_at_all c clauses none (I, model) =
    let (bytes, is) = some_bytes c I model.over in
    none (λ k. eqb (get_or bytes k 0) 1) (record { by = I; model = model; same = λ g lawful. sym (byte_value c I bytes g is lawful) })

-- where nothing stands nothing clashes
open_no : Open ≡ No → ⊥
open_no e = grind arith

pub clear_calm : (c : Counts) (ms : List Mark) → Clear ms → Clash c ms → ⊥
clear_calm c ms clear (same_no a b r e) = open_no (sym (clear (number_of c (Same a b))) ∙ e)
clear_calm c ms clear (prop_both p a x h r e f) = open_no (sym (clear (number_of c (Prop p x))) ∙ f)
clear_calm c ms clear (rel_both q a b x y h r s e f) = open_no (sym (clear (number_of c (Rel q x y))) ∙ f)

pub cleared_clear : (ms : List Mark) → Clear (cleared ms)
cleared_clear [] k = refl
cleared_clear (m ∷ ms) zero = refl
cleared_clear (m ∷ ms) (suc k) = cleared_clear ms k

pub cleared_length : (ms : List Mark) → length (cleared ms) ≡ length ms
cleared_length [] = refl
cleared_length (m ∷ ms) = omega (arith, cleared_length ms)

pub clear_cleared : (ms ns : List Mark) → Clear ns → length ns ≡ length ms → ns ≡ cleared ms
clear_cleared ms ns clear e =
    ext_get_or Open ns (cleared ms) (e ∙ sym (cleared_length ms)) (λ k h. clear k ∙ sym (cleared_clear ms k))

-- the search before its first turn
module _ {B T : Type 0} (b : BookGhosts B) (t : TableGhosts T) (s : Search B T) (clear : Clear (t.marks s.table.now)) where
  pub ready_first :
      atoms (b.counts s.book.now) ≤ length (t.marks s.table.now) → atoms (b.counts s.book.now) ≤ t.room s.table.now →
      atoms (b.counts s.book.now) ≤ slots_of s.trail.now → atoms (b.counts s.book.now) ≤ slots_of s.choices.now →
      items s.trail.now ≡ [] → items s.choices.now ≡ [] → ClassTable (b.counts s.book.now) (t.marks s.table.now) (leader_of s.classes) → Ready b t s
  ready_first reach room trail choices empty bare fits = record {
    state = record {
      steps = [];
      base = t.marks s.table.now;
      clear = clear;
      sound = tt;
      marks_is = refl;
      trail_is = empty;
      choices_is = bare;
      roomy = record { short = omega (arith, few (b.counts s.book.now)); reaches = reach; table_room = room; trail_room = trail; choice_room = choices };
      reach_is = refl;
    };
    calm = clear_calm (b.counts s.book.now) (t.marks s.table.now) clear;
    fits = fits;
  }

-- what the search answers, and that capacity and memory of the table stay
pub record Answered (A R L : Type 0) : Type 0 where
  pub searched : A
  pub room : R
  pub loan : L

-- and after its last, where the table is then the caller's again
module _ {B T : Type 0} (b : BookGhosts B) (t : TableGhosts T) (s s' : Search B T) (left : T) (is : left ≡ s'.table.now) where
  frame_room : (moment t s').frame ≡ (moment t s).frame → t.room left ≡ t.room s.table.now
  frame_room f = ap t.room is ∙ ap (λ (x : Frame). x.room) f

  frame_loan : (moment t s').frame ≡ (moment t s).frame → t.loan left ≡ t.loan s.table.now
  frame_loan f = ap t.loan is ∙ ap (λ (x : Frame). x.loan) f

  frame_reach : (moment t s').frame ≡ (moment t s).frame → length (t.marks left) ≡ length (t.marks s.table.now)
  frame_reach f = ap (λ k. length (t.marks k)) is ∙ ap (λ (x : Frame). x.reach) f

  pub searched_some : Decides b t s s' true → Answered (Searched (b.counts s.book.now) (b.clauses s.book.now) (t.marks s.table.now) (t.marks left) (Some s'.classes)) (t.room left ≡ t.room s.table.now) (t.loan left ≡ t.loan s.table.now)
  searched_some d =
      let P : Bor B → Type 0 = λ k. BranchFound (b.counts k.now) (b.clauses k.now) (t.marks s'.table.now) (leader_of s'.classes) in
      let found = subst P d.0.same.book (record { classes = d.1.fits; no_clash = d.1.calm; fulfilled = d.2; beyond = nothing_past d.1.state }) in
      record {
        searched = (frame_reach d.0.frame, subst (λ k. BranchFound (b.counts s.book.now) (b.clauses s.book.now) (t.marks k) (leader_of s'.classes)) (sym is) found);
        room = frame_room d.0.frame;
        loan = frame_loan d.0.frame;
      }

  pub searched_none : Decides b t s s' false → Answered (Searched (b.counts s.book.now) (b.clauses s.book.now) (t.marks s.table.now) (t.marks left) None) (t.room left ≡ t.room s.table.now) (t.loan left ≡ t.loan s.table.now)
  searched_none d =
      let P : Bor B → Type 0 = λ k. Contradictory (b.counts k.now) (b.clauses k.now) in
      record {
        searched = (
          clear_cleared (t.marks s.table.now) (t.marks left) (subst (λ k. Clear (t.marks k)) (sym is) d.clear) (frame_reach d.frame),
          subst P d.same.book (no_model_at_all (b.counts s'.book.now) (b.clauses s'.book.now) d.none),
        );
        room = frame_room d.frame;
        loan = frame_loan d.frame;
      }

-- over marks that were cleared first
cleared_again : (ms : List Mark) → cleared (cleared ms) ≡ cleared ms
cleared_again ms = clear_cleared ms (cleared (cleared ms)) (cleared_clear (cleared ms)) (cleared_length (cleared ms) ∙ cleared_length ms)

pub searched_after : (c : Counts) (clauses : List Clause) (before now after : List Mark) → now ≡ cleared before → (r : Option ClassTableOf) → Searched c clauses now after r → Searched c clauses before after r
searched_after c clauses before now after is (Some k) h = (h.0 ∙ ap length is ∙ cleared_length before, h.1)
searched_after c clauses before now after is None h = (h.0 ∙ ap cleared is ∙ cleared_again before, h.1)

-- with no cause of refusal everything is large enough
pub record Enough (c : Counts) (reach room trail choices model : ℕ) : Type 0 where
  pub in_reach : atoms c ≤ reach
  pub in_room : atoms c ≤ room
  pub in_trail : atoms c ≤ trail
  pub in_choices : atoms c ≤ choices
  pub in_model : atoms c ≤ model

pub enough : (c : Counts) (reach room trail choices model : ℕ) → size_refusal c reach room trail choices model ≡ None → Enough c reach room trail choices model
enough c reach room trail choices model e = record {
  in_reach = grind (arith, nat_tests);
  in_room = grind (arith, nat_tests);
  in_trail = grind (arith, nat_tests);
  in_choices = grind (arith, nat_tests);
  in_model = grind (arith, nat_tests);
}

-- one answer
some_none : (o : Option Refusal) (e : Refusal) → o ≡ Some e → o ≡ None → ⊥
some_none o e p q = grind arith

pub one_verdict : OneVerdict
one_verdict c clauses m m' m'' (Err e) (Err f) p q = let s : Some e ≡ Some f = sym p.0 ∙ q.0 in cc
one_verdict c clauses m m' m'' (Err e) (Ok Consistent) p q = absurd (some_none (judge_refusal c m) e p.0 q.0)
one_verdict c clauses m m' m'' (Err e) (Ok Contrary) p q = absurd (some_none (judge_refusal c m) e p.0 q.0)
one_verdict c clauses m m' m'' (Ok Consistent) (Err f) p q = absurd (some_none (judge_refusal c m) f q.0 p.0)
one_verdict c clauses m m' m'' (Ok Contrary) (Err f) p q = absurd (some_none (judge_refusal c m) f q.0 p.0)
one_verdict c clauses m m' m'' (Ok Consistent) (Ok Consistent) p q = refl
one_verdict c clauses m m' m'' (Ok Contrary) (Ok Contrary) p q = refl
one_verdict c clauses m m' m'' (Ok Consistent) (Ok Contrary) p q = absurd (q.2.none (_, p.2.model))
one_verdict c clauses m m' m'' (Ok Contrary) (Ok Consistent) p q = absurd (p.2.none (_, q.2.model))

-- what was not refused had no cause
pub done_none : (o : Option Refusal) (u : Unit) → Ok u ≡ answer o → o ≡ None
done_none None u e = refl
done_none (Some f) u e = grind arith

-- the own model was written
pub record Wrote (c : Counts) (ms : List Mark) (leader : ℕ → ℕ) (before after : List ℕ) : Type 0 where
  pub first : BytesOf c (own c ms leader) (take (atoms c) after)
  pub rest : drop (atoms c) after ≡ drop (atoms c) before
  pub long : length after ≡ length before

pub wrote :
    (c n : Counts) (ms : List Mark) (leader : ℕ → ℕ) (before after : List ℕ) (r : Result Unit Refusal) → n ≡ c → atoms c ≤ length before →
    Written n (own n ms leader) before after r → (ClassTable n ms leader → ItsBytes n (own n ms leader) after r) → ClassTable c ms leader → Wrote c ms leader before after
wrote c n ms leader before after r e long w its fits =
    let P : Counts → Type 0 = λ k. Written k (own k ms leader) before after r × (ClassTable k ms leader → ItsBytes k (own k ms leader) after r) in
    at r (subst P e (w, its))
  where
    at : (r : Result Unit Refusal) → Written c (own c ms leader) before after r × (ClassTable c ms leader → ItsBytes c (own c ms leader) after r) → Wrote c ms leader before after
    at (Ok u) (w, its) = record { first = its fits; rest = w.1.rest; long = w.1.long }
    at (Err e) (w, its) = absurd (omega (arith, w.0))
