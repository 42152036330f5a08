-- One part of a turn after the other.
use Rattle.std.proofs.Common.{◌≡◌, ◌<◌, Bool, true, false, Ok, Err, Result, List, length, get_or, set, Bor, sym, refl, ap, ◌∙◌, subst, arith}
use Rattle.std.specs.Result.{IsErr}
use Rattle.syntax.specs.declared.types.Mark.{Mark}
use Rattle.syntax.specs.declared.types.Mark.TheVariants.{Open, Yes, No}
use Rattle.syntax.specs.declared.counts.Counts.{Counts}
use Rattle.syntax.specs.Numbers.{atoms, number_of}
use Rattle.semantics.specs.Meaning.{Clause}
use Rattle.semantics.specs.Branch.{Clash, ClassTable as Classes, signed as signed_so}
use Rattle.semantics.proofs.Steps.{no_clash}
use Rattle.classes.specs.declared.table.ClassTable.{ClassTable}
use Rattle.classes.specs.Leaders.{leader_of}
use Rattle.tables.specs.declared.table.BranchTable.{Ghosts as TableGhosts}
use Rattle.tables.specs.Items.{items}
use Rattle.tables.specs.Marks.{signed}
use Rattle.books.specs.declared.book.Book.{Ghosts as BookGhosts}
use Rattle.syntax.specs.declared.types.SignedAtom.{SignedAtom}
use Rattle.tableau.specs.declared.types.Search.{Search}
use Rattle.tableau.specs.declared.types.Hopeless.{Hopeless}
use Rattle.tableau.specs.Signs.{Says, OpenIn, Modelled}
use Rattle.tableau.specs.Branch.{State, weight}
use Rattle.tableau.specs.Scans.{NoModel}
use Rattle.tableau.specs.Turns.{Put, Chosen}
use Rattle.tableau.specs.Views.{moment, Same, ModelsOf, Searching, Ready, Lost, Follows, ClassesRead, Told, weight_of, Falls, Gone, Tries}
use Rattle.tableau.proofs.States.{put_stands, put_back, put_length, reaches, forces, forced_step, forced_lighter, chosen_step, chosen_lighter}

-- a model's valuation that agrees with the marks: the model agrees with the branch
pub says_so : (m : Mark) (a s : Bool) → Says m a → m ≡ signed_so s → a ≡ s
says_so Yes a true h e = h
says_so No a false h e = h
says_so Yes a false h e = grind arith
says_so No a true h e = grind arith
says_so Open a true h e = grind arith
says_so Open a false h e = grind arith

pub clash_hopeless : (c : Counts) (clauses : List Clause) (ms : List Mark) → Clash c ms → NoModel (Modelled c clauses) ms
clash_hopeless c clauses ms clash v m agrees =
    no_clash c ms m.by (λ g lawful s e. sym (m.same g lawful) ∙ says_so (get_or ms (number_of c g) Open) (v (number_of c g)) s (agrees (number_of c g)) e) clash

module _ {B T : Type 0} (b : BookGhosts B) (t : TableGhosts T) where
  -- a branch that clashes is lost
  pub clash_lost : (s : Search B T) → Searching b t s → Clash (b.counts s.book.now) (t.marks s.table.now) → Lost b t s
  clash_lost s state clash = record { state = state; hopeless = clash_hopeless (b.counts s.book.now) (b.clauses s.book.now) (t.marks s.table.now) clash }

  pub gone_here : (s : Search B T) → Gone b t s s false
  gone_here s = record { same = record { book = refl; table = refl; trail = refl; choices = refl }; frame = refl; falls = omega arith }

  pub gone_after : (s s' s'' : Search B T) (v : Bool) → Gone b t s s' false → Gone b t s' s'' v → Gone b t s s'' v
  gone_after s s' s'' v p q = record { same = record { book = q.same.book ∙ p.same.book; table = q.same.table ∙ p.same.table; trail = q.same.trail ∙ p.same.trail; choices = q.same.choices ∙ p.same.choices }; frame = q.frame ∙ p.frame; falls = falls v q.falls }
    where
      falls : (v : Bool) → Falls b t v (weight_of b t s') (weight_of b t s'') → Falls b t v (weight_of b t s) (weight_of b t s'')
      falls true h = omega (arith, h, p.falls)
      falls false h = omega (arith, h, p.falls)

  -- over one book: the invariant, and the weight
  module _ (s s' : Search B T) (book : s'.book ≡ s.book) where
    pub there : State (ModelsOf b t s) (Clash (b.counts s.book.now)) (atoms (b.counts s.book.now)) (moment t s') → Searching b t s'
    there = subst (λ (k : Bor B). State (Modelled (b.counts k.now) (b.clauses k.now)) (Clash (b.counts k.now)) (atoms (b.counts k.now)) (moment t s')) (sym book)

    pub weighs : weight_of b t s' ≡ weight (atoms (b.counts s.book.now)) (items s'.trail.now) (items s'.choices.now)
    weighs = ap (λ (k : Bor B). weight (atoms (b.counts k.now)) (items s'.trail.now) (items s'.choices.now)) book

  -- an atom told for a reason, or chosen
  module _ (s s' : Search B T) (l : SignedAtom) (r : Ready b t s) (below : l.atom < atoms (b.counts s.book.now)) (lies : OpenIn (t.marks s.table.now) l) (same : Same s s') where
    pub forced_there : Put l (moment t s) (moment t s') → Follows b t s l → Gone b t s s' true × Searching b t s'
    forced_there p why = (
      record { same = same; frame = p.frame_is; falls = omega (arith, weighs s s' same.book, forced_lighter r.state l below lies (moment t s') p) },
      there s s' same.book (forced_step r.state l below lies (moment t s') p (forces r.state l why)),
    )

    pub chosen_there : Chosen l (moment t s) (moment t s') → Gone b t s s' true × Searching b t s'
    chosen_there p = (
      record { same = same; frame = p.frame_is; falls = omega (arith, weighs s s' same.book, chosen_lighter r.state l below lies (moment t s') p) },
      there s s' same.book (chosen_step r.state l below lies (moment t s') p r.calm),
    )

    pub told_there : t.marks s'.table.now ≡ set (t.marks s.table.now) l.atom (signed l.sign) → s'.classes ≡ s.classes → Told b t s' l
    told_there e k =
        let ms = t.marks s.table.now in
        let ms' = t.marks s'.table.now in
        let lt : l.atom < length ms = omega (arith, below, reaches r.state) in
        record {
          below = subst (λ (i : Bor B). l.atom < atoms (b.counts i.now)) (sym same.book) below;
          inside = omega (arith, lt, put_length l ms ms' e);
          stands = put_stands l ms ms' e lt;
          fits = subst (λ (i : Bor B). Classes (b.counts i.now) (set ms' l.atom Open) (leader_of s'.classes)) (sym same.book) (subst (λ n. Classes (b.counts s.book.now) n (leader_of s'.classes)) (sym (put_back l ms ms' e lies)) (subst (λ i. Classes (b.counts s.book.now) ms (leader_of i)) (sym k) r.fits));
          calm = subst (λ (i : Bor B). Clash (b.counts i.now) (set ms' l.atom Open) → ⊥) (sym same.book) (λ c. r.calm (subst (Clash (b.counts s.book.now)) (put_back l ms ms' e lies) c));
        }

  -- and the classes read
  module _ (s s' : Search B T) (told : Gone b t s s' true × Searching b t s') where
    pub tried_ok : (k : ClassTable) → ClassesRead b t s' (Ok k) → Tries b t s (record s' { classes = k }) (Ok tt)
    tried_ok k h = (
      record { same = record { book = told.0.same.book; table = told.0.same.table; trail = told.0.same.trail; choices = told.0.same.choices }; frame = told.0.frame; falls = told.0.falls },
      record { state = told.1; calm = h.1; fits = h.0 },
    )

    pub tried_err : (e : Hopeless) → ClassesRead b t s' (Err e) → (r : Result Unit Hopeless) → IsErr r → Tries b t s s' r
    tried_err e h (Ok u) i = grind arith
    tried_err e h (Err f) i = (record { same = told.0.same; frame = told.0.frame; falls = omega (arith, told.0.falls) }, clash_lost s' told.1 h)
