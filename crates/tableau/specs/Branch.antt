-- A branch of the search: the signed atoms told, the newest first, each with the reason why it may stand.
-- M says which valuations are models, K which marks clash.
use Rattle.std.specs.Prelude.{◌≡◌, ℕ, ◌+◌, ◌-◌, ◌^◌, ◌<◌, ◌≤◌, List, [], ◌∷◌, ◌++◌, length, slice_set}
use Rattle.syntax.specs.declared.types.Mark.{Mark}
use Rattle.tables.specs.declared.stack.Choice.{Choice}
use Rattle.tables.specs.Memory.{Loan}
use Rattle.tables.specs.Marks.{signed}
use Rattle.syntax.specs.declared.types.SignedAtom.{SignedAtom}
use Rattle.tableau.specs.Signs.{Valuation, Holds, Clear, OpenIn}

abbrev pub Models : Type 1
Models = Valuation → Type 0

abbrev pub Clashes : Type 1
Clashes = List Mark → Type 0

pub data Step : Type 0 where
  forced : SignedAtom → Step
  chosen : SignedAtom → Step

abbrev pub told : Step → SignedAtom
told (forced l) = l
told (chosen l) = l

-- what the trail, the choices and the table hold on a branch, the oldest first
abbrev pub trail_of : List Step → List ℕ
trail_of [] = []
trail_of (s ∷ b) = trail_of b ++ ((told s).atom ∷ [])

abbrev pub choice : ℕ → SignedAtom → Choice
choice n l = record { height = n; atom = l.atom; sign = l.sign }

abbrev pub choices_of : List Step → List Choice
choices_of [] = []
choices_of (forced l ∷ b) = choices_of b
choices_of (chosen l ∷ b) = choices_of b ++ (choice (length b) l ∷ [])

abbrev pub marks_of : List Mark → List Step → List Mark
marks_of base [] = base
marks_of base (s ∷ b) = slice_set (marks_of base b) (told s).atom (signed (told s).sign)

-- the valuation makes the choices of the branch hold
abbrev pub HeldBy : Valuation → Step → Type 0
HeldBy v (forced l) = Unit {0}
HeldBy v (chosen l) = Holds v l

abbrev pub Held : Valuation → List Step → Type 0
Held v [] = Unit {0}
Held v (s ∷ b) = HeldBy v s × Held v b

-- every model that makes the choices hold makes the signed atom hold; or there is none
abbrev pub Forces : Models → List Step → SignedAtom → Type 0
Forces M b l = (v : Valuation) → M v → Held v b → Holds v l

abbrev pub Refuted : Models → List Step → Type 0
Refuted M b = (v : Valuation) → M v → Held v b → ⊥

-- why a signed atom may stand: it is forced, or it was chosen where nothing clashed
abbrev pub Reason : Models → Clashes → List Mark → List Step → Step → Type 0
Reason M K base b (forced l) = Forces M b l
Reason M K base b (chosen l) = K (marks_of base b) → ⊥

-- each was told with a reason, below the number of atoms, while its atom was open
abbrev pub Sound : Models → Clashes → ℕ → List Mark → List Step → Type 0
Sound M K atoms base [] = Unit {0}
Sound M K atoms base (s ∷ b) = Reason M K base b s × ((told s).atom < atoms) × OpenIn (marks_of base b) (told s) × Sound M K atoms base b

-- what no move of the search changes: the table's loan, room and reach, the slots and the loans of the trail and of the choices
pub record Frame : Type 0 where
  pub loan : Loan
  pub room : ℕ
  pub reach : ℕ
  pub trail_slots : ℕ
  pub trail_loan : ℕ
  pub choice_slots : ℕ
  pub choice_loan : ℕ

-- there is room for each atom
pub record Roomy (atoms : ℕ) (f : Frame) : Type 0 where
  pub short : atoms ≤ 65535
  pub reaches : atoms ≤ f.reach
  pub table_room : atoms ≤ f.room
  pub trail_room : atoms ≤ f.trail_slots
  pub choice_room : atoms ≤ f.choice_slots

-- the search at a moment: what stays, the marks, the trail, the choices
pub record Moment : Type 0 where
  pub frame : Frame
  pub marks : List Mark
  pub trail : List ℕ
  pub choices : List Choice

-- the search's invariant: what the table, the trail and the choices hold is a sound branch, and there is room for each atom
pub record State (M : Models) (K : Clashes) (atoms : ℕ) (m : Moment) : Type 0 where
  pub steps : List Step
  pub base : List Mark
  pub clear : Clear base
  pub sound : Sound M K atoms base steps
  pub marks_is : m.marks ≡ marks_of base steps
  pub trail_is : m.trail ≡ trail_of steps
  pub choices_is : m.choices ≡ choices_of steps
  pub roomy : Roomy atoms m.frame
  pub reach_is : m.frame.reach ≡ length m.marks

-- the search's measure. Read the trail as digits in base 3, one for each atom: 0 forced, 1 chosen, 2 empty. This is that number and 1.
abbrev pub spent : ℕ → List Choice → ℕ
spent atoms [] = 0
spent atoms (c ∷ cs) = 3 ^ (atoms - (c.height + 1)) + spent atoms cs

abbrev pub weight : ℕ → List ℕ → List Choice → ℕ
weight atoms trail cs = 3 ^ (atoms - length trail) + spent atoms cs
