-- The moves of the search.
use Rattle.std.specs.Prelude.{◌≡◌, ◌<◌, [], ◌∷◌, ◌++◌, length, slice_set}
use Rattle.tables.specs.Marks.{signed, standing}
use Rattle.syntax.specs.declared.types.SignedAtom.{SignedAtom}
use Rattle.tableau.specs.Signs.{Valuation, OpenIn}
use Rattle.tableau.specs.Branch.{Models, Moment, choice}

-- the signed atom can be told and put on the trail
pub record Puttable (l : SignedAtom) (m : Moment) : Type 0 where
  pub inside : l.atom < length m.marks
  pub lies : OpenIn m.marks l
  pub few : standing m.marks < m.frame.room
  pub slot : length m.trail < m.frame.trail_slots

-- it is
pub record Put (l : SignedAtom) (m m' : Moment) : Type 0 where
  pub marks_are : m'.marks ≡ slice_set m.marks l.atom (signed l.sign)
  pub trail_is : m'.trail ≡ m.trail ++ (l.atom ∷ [])
  pub choices_are : m'.choices ≡ m.choices
  pub frame_is : m'.frame ≡ m.frame

-- it is, as a choice
pub record Chosen (l : SignedAtom) (m m' : Moment) : Type 0 where
  pub marks_are : m'.marks ≡ slice_set m.marks l.atom (signed l.sign)
  pub trail_is : m'.trail ≡ m.trail ++ (l.atom ∷ [])
  pub choices_are : m'.choices ≡ m.choices ++ (choice (length m.trail) l ∷ [])
  pub frame_is : m'.frame ≡ m.frame

-- there is no model
abbrev pub Modelless : Models → Type 0
Modelless M = (v : Valuation) → M v → ⊥
