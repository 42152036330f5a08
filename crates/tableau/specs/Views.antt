-- The search as the code holds it, and what its steps do. b and t are the ghost members of the book's type and of the table's.
use Rattle.std.specs.Prelude.{◌≡◌, ℕ, ◌<◌, ◌≤◌, Bool, true, false, length, Ok, Err, Result, slice_set}
use Rattle.syntax.specs.declared.types.Mark.TheVariants.{Open}
use Rattle.syntax.specs.Numbers.{atoms}
use Rattle.semantics.specs.Branch.{Clash, Fulfilled, ClassTable as Classes}
use Rattle.classes.specs.declared.table.ClassTable.{ClassTable}
use Rattle.classes.specs.Leaders.{leader_of}
use Rattle.tables.specs.declared.table.BranchTable.{Ghosts as TableGhosts}
use Rattle.tables.specs.Items.{items, slots_of, loan_of}
use Rattle.books.specs.declared.book.Book.{Ghosts as BookGhosts}
use Rattle.syntax.specs.declared.types.SignedAtom.{SignedAtom}
use Rattle.tableau.specs.declared.types.Search.{Search}
use Rattle.tableau.specs.declared.types.Hopeless.{Hopeless}
use Rattle.tableau.specs.Signs.{Clear, StandsIn, Modelled}
use Rattle.tableau.specs.Branch.{Moment, Models, State, weight}
use Rattle.tableau.specs.Scans.{NoModel, Entails}
use Rattle.tableau.specs.Turns.{Modelless}

abbrev pub moment : {B T : Type 0} → TableGhosts T → Search B T → Moment
moment t s = record {
  frame = record {
    loan = t.loan s.table.now;
    room = t.room s.table.now;
    reach = length (t.marks s.table.now);
    trail_slots = slots_of s.trail.now;
    trail_loan = loan_of s.trail.now;
    choice_slots = slots_of s.choices.now;
    choice_loan = loan_of s.choices.now;
  };
  marks = t.marks s.table.now;
  trail = items s.trail.now;
  choices = items s.choices.now;
}

-- the book, the table and the stacks are those that were lent
pub record Same {B T : Type 0} (s s' : Search B T) : Type 0 where
  pub book : s'.book ≡ s.book
  pub table : s'.table.ghost_name ≡ s.table.ghost_name
  pub trail : s'.trail.ghost_name ≡ s.trail.ghost_name
  pub choices : s'.choices.ghost_name ≡ s.choices.ghost_name

module _ {B T : Type 0} (b : BookGhosts B) (t : TableGhosts T) where
  -- the models of the book, by their valuations
  abbrev pub ModelsOf : Search B T → Models
  ModelsOf s = Modelled (b.counts s.book.now) (b.clauses s.book.now)

  -- the invariant
  abbrev pub Searching : Search B T → Type 0
  Searching s = State (ModelsOf s) (Clash (b.counts s.book.now)) (atoms (b.counts s.book.now)) (moment t s)

  -- and between the parts of a turn: nothing clashes, and the class table fits
  pub record Ready (s : Search B T) : Type 0 where
    pub state : Searching s
    pub calm : Clash (b.counts s.book.now) (t.marks s.table.now) → ⊥
    pub fits : Classes (b.counts s.book.now) (t.marks s.table.now) (leader_of s.classes)

  -- no model agrees with the branch
  pub record Lost (s : Search B T) : Type 0 where
    pub state : Searching s
    pub hopeless : NoModel (ModelsOf s) (t.marks s.table.now)

  -- every model that agrees with the branch makes the signed atom hold
  abbrev pub Follows : Search B T → SignedAtom → Type 0
  Follows s l = Entails (ModelsOf s) (t.marks s.table.now) l

  -- the branch fulfils every instance
  abbrev pub Fulfils : Search B T → Type 0
  Fulfils s = Fulfilled (b.counts s.book.now) (b.clauses s.book.now) (t.marks s.table.now)

  -- what was read of the classes: they fit, and nothing clashes; or something does
  abbrev pub ClassesRead : Search B T → Result ClassTable Hopeless → Type 0
  ClassesRead s (Ok k) = Classes (b.counts s.book.now) (t.marks s.table.now) (leader_of k) × (Clash (b.counts s.book.now) (t.marks s.table.now) → ⊥)
  ClassesRead s (Err _) = Clash (b.counts s.book.now) (t.marks s.table.now)

  -- the signed atom was told on a branch that did not clash and that the class table fits
  pub record Told (s : Search B T) (l : SignedAtom) : Type 0 where
    pub below : l.atom < atoms (b.counts s.book.now)
    pub inside : l.atom < length (t.marks s.table.now)
    pub stands : StandsIn (t.marks s.table.now) l
    pub fits : Classes (b.counts s.book.now) (slice_set (t.marks s.table.now) l.atom Open) (leader_of s.classes)
    pub calm : Clash (b.counts s.book.now) (slice_set (t.marks s.table.now) l.atom Open) → ⊥

  abbrev pub weight_of : Search B T → ℕ
  weight_of s = weight (atoms (b.counts s.book.now)) (items s.trail.now) (items s.choices.now)

  abbrev pub Falls : Bool → ℕ → ℕ → Type 0
  Falls true v w = w < v
  Falls false v w = w ≤ v

  -- steps that keep what is lent; the weight falls, if they told something, and else does not rise
  pub record Gone (s s' : Search B T) (moved : Bool) : Type 0 where
    pub same : Same s s'
    pub frame : (moment t s').frame ≡ (moment t s).frame
    pub falls : Falls moved (weight_of s) (weight_of s')

  -- there is no model, and everything was taken back
  pub record Emptied (s s' : Search B T) : Type 0 where
    pub same : Same s s'
    pub frame : (moment t s').frame ≡ (moment t s).frame
    pub none : Modelless (ModelsOf s')
    pub clear : Clear (t.marks s'.table.now)

  -- a sweep: whether something was told; or the branch is lost
  abbrev pub Passes : Search B T → Search B T → Result Bool Hopeless → Type 0
  Passes s s' (Ok moved) = Gone s s' moved × Ready s'
  Passes s s' (Err _) = Gone s s' false × Lost s'

  -- an atom was told; or the branch is lost
  abbrev pub Tries : Search B T → Search B T → Result Unit Hopeless → Type 0
  Tries s s' (Ok _) = Gone s s' true × Ready s'
  Tries s s' (Err _) = Gone s s' false × Lost s'

  -- a turn: something was told or chosen; or every instance is fulfilled; or the branch is lost
  abbrev pub Turns : Search B T → Search B T → Result Bool Hopeless → Type 0
  Turns s s' (Ok true) = Gone s s' true × Ready s'
  Turns s s' (Ok false) = Gone s s' false × Ready s' × Fulfils s'
  Turns s s' (Err _) = Gone s s' false × Lost s'

  -- whether there was a choice to take back, whose opposite was told
  abbrev pub Flips : Search B T → Search B T → Bool → Type 0
  Flips s s' true = Gone s s' true × Searching s'
  Flips s s' false = Emptied s s'

  -- and one whose opposite does not clash
  abbrev pub Retreats : Search B T → Search B T → Bool → Type 0
  Retreats s s' true = Gone s s' true × Ready s'
  Retreats s s' false = Emptied s s'

  -- the search's answer
  abbrev pub Decides : Search B T → Search B T → Bool → Type 0
  Decides s s' true = Gone s s' false × Ready s' × Fulfils s'
  Decides s s' false = Emptied s s'
