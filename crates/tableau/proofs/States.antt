-- Each kind of move keeps the invariant and lowers the weight.
use Rattle.std.proofs.Common.{◌≡◌, ℕ, ◌+◌, ◌<◌, ◌≤◌, not, List, [], ◌∷◌, ◌++◌, length, get_or, take, drop, set, sym, refl, ap, ◌∙◌, subst, arith}
use Rattle.std.specs.List.{AllByRecursion}
use Rattle.std.proofs.lemmas.List.{length-set, length_push, get_or-set_same}
use Rattle.syntax.specs.declared.types.Mark.{Mark}
use Rattle.syntax.specs.declared.types.Mark.TheVariants.{Open}
use Rattle.tables.specs.declared.stack.Choice.{Choice}
use Rattle.tables.specs.Marks.{signed, standing}
use Rattle.tables.specs.declared.table.BranchTable.{Ghosts as TableGhosts}
use Rattle.tableau.specs.declared.types.Search.{Search}
use Rattle.tables.specs.Items.{slots_of, loan_of}
use Rattle.tables.specs.Walks.{opened}
use Rattle.tables.specs.Counting.{OpenFrom}
use Rattle.syntax.specs.declared.types.SignedAtom.{SignedAtom}
use Rattle.tableau.specs.Signs.{Valuation, Holds, SomeOf, Clear, OpenIn, StandsIn, DeniedIn, Agrees}
use Rattle.tableau.specs.Branch.{Models, Clashes, Step, forced, chosen, told, trail_of, choice, choices_of, marks_of, Held, Forces, Refuted, Reason, Frame, Roomy, Moment, State, weight}
use Rattle.tableau.specs.Scans.{AllBut, NoModel, Entails}
use Rattle.tableau.specs.Turns.{Puttable, Put, Chosen, Modelless}
use Rattle.tableau.specs.Views.{moment}
use Rattle.tableau.proofs.Steps.{choices_le, length_trail, length_marks, standing_steps, steps_le, steps_lt, beyond, agrees, broken_fails, unit_holds, refuted_none, opened_all, set_back, Cut, cut}
use Rattle.tableau.proofs.Weights.{forced_falls, chosen_falls, back_falls}

-- an instance that every model satisfies: every atom denied, or every one but l
module _ {M : Models} (ms : List Mark) (c : List SignedAtom) (satisfied : (v : Valuation) → M v → SomeOf (Holds v) c) where
  pub no_model : AllByRecursion (DeniedIn ms) c → NoModel M ms
  no_model d v m all = broken_fails ms c v all d (satisfied v m)

  pub entails : (l : SignedAtom) → AllBut ms l c → Entails M ms l
  entails l d v m all = unit_holds ms c l v all d (satisfied v m)

-- after a put
module _ (l : SignedAtom) (ms : List Mark) (ms' : List Mark) (is : ms' ≡ set ms l.atom (signed l.sign)) where
  pub put_stands : l.atom < length ms → StandsIn ms' l
  put_stands h = ap (λ m. get_or m l.atom Open) is ∙ get_or-set_same ms l.atom (signed l.sign) Open h

  pub put_back : OpenIn ms l → set ms' l.atom Open ≡ ms
  put_back lies = ap (λ m. set m l.atom Open) is ∙ set_back ms l.atom (signed l.sign) lies

  pub put_length : length ms' ≡ length ms
  put_length = ap length is ∙ length-set ms l.atom (signed l.sign)

pub same_frame :
    {B T : Type 0} (t : TableGhosts T) (s s' : Search B T) →
    t.loan s'.table.now ≡ t.loan s.table.now → t.room s'.table.now ≡ t.room s.table.now → length (t.marks s'.table.now) ≡ length (t.marks s.table.now) →
    slots_of s'.trail.now ≡ slots_of s.trail.now → loan_of s'.trail.now ≡ loan_of s.trail.now → slots_of s'.choices.now ≡ slots_of s.choices.now → loan_of s'.choices.now ≡ loan_of s.choices.now →
    (moment t s').frame ≡ (moment t s).frame
same_frame t s s' a b c d e f g = cc

-- the opposite of a choice
abbrev pub flipped : Choice → SignedAtom
flipped c = record { atom = c.atom; sign = not c.sign }

-- the branch below a choice that failed: its opposite is forced there
pub record Back (M : Models) (K : Clashes) (atoms : ℕ) (c : Choice) (m : Moment) : Type 0 where
  pub state : State M K atoms m
  pub calm : K m.marks → ⊥
  pub below : c.atom < atoms
  pub lies : OpenIn m.marks (flipped c)
  pub reason : Forces M state.steps (flipped c)
  pub height : length m.trail ≡ c.height

module _ {M : Models} {K : Clashes} {atoms : ℕ} {m : Moment} (st : State M K atoms m) where
  base_reaches : atoms ≤ length st.base
  base_reaches = omega (arith, st.roomy.reaches, st.reach_is, ap length st.marks_is, length_marks st.base st.steps)

  pub reaches : atoms ≤ length m.marks
  reaches = omega (arith, st.roomy.reaches, st.reach_is)

  pub height_is : length m.trail ≡ length st.steps
  height_is = ap length st.trail_is ∙ length_trail st.steps

  pub trail_le : length m.trail ≤ atoms
  trail_le = omega (arith, height_is, steps_le M K atoms st.base st.clear base_reaches st.steps st.sound)

  -- nothing past the atoms stands
  pub nothing_past : OpenFrom atoms m.marks
  nothing_past k le = ap (λ n. get_or n k Open) st.marks_is ∙ beyond M K atoms st.base st.clear base_reaches st.steps st.sound k le

  -- what holds of the models that agree with the marks holds of those that make the choices hold
  agreeing : (v : Valuation) → M v → Held v st.steps → Agrees m.marks v
  agreeing v is held =
      let P : List Mark → Type 0 = λ ms. Agrees ms v in
      subst P (sym st.marks_is) (agrees M K atoms st.base st.clear base_reaches st.steps st.sound v is held)

  pub refuted : NoModel M m.marks → Refuted M st.steps
  refuted h v is held = h v is (agreeing v is held)

  pub forces : (l : SignedAtom) → Entails M m.marks l → Forces M st.steps l
  forces l h v is held = h v is (agreeing v is held)

  lies_there : (l : SignedAtom) → OpenIn m.marks l → OpenIn (marks_of st.base st.steps) l
  lies_there l lies = ap (λ ms. get_or ms l.atom Open) (sym st.marks_is) ∙ lies

  module _ (l : SignedAtom) (lt : l.atom < atoms) (lies : OpenIn m.marks l) where
    pub shorter : length m.trail < atoms
    shorter = omega (arith, height_is, steps_lt M K atoms st.base st.clear base_reaches st.steps l st.sound lt (lies_there l lies))

    pub puttable : Puttable l m
    puttable =
        record {
          inside = omega (arith, reaches);
          lies = lies;
          few = omega (arith, shorter, st.roomy.table_room, height_is, ap standing st.marks_is, standing_steps M K atoms st.base st.clear base_reaches st.steps st.sound);
          slot = omega (arith, shorter, st.roomy.trail_room);
        }

    pub choice_slot : length m.choices < m.frame.choice_slots
    choice_slot = omega (arith, shorter, st.roomy.choice_room, height_is, ap length st.choices_is, choices_le st.steps)

    pub height_fits : length m.trail < 65536
    height_fits = omega (arith, shorter, st.roomy.short)

    -- one step more
    module _ (m' : Moment) where
      stepped : (s : Step) → told s ≡ l → Reason M K st.base st.steps s → m'.marks ≡ set m.marks l.atom (signed l.sign) → m'.trail ≡ m.trail ++ (l.atom ∷ []) → m'.frame ≡ m.frame → m'.frame.reach ≡ length m'.marks → m'.choices ≡ choices_of (s ∷ st.steps) → State M K atoms m'
      stepped s e why em et ef er ch =
          record {
            steps = s ∷ st.steps;
            base = st.base;
            clear = st.clear;
            sound = (why, subst (λ (k : SignedAtom). k.atom < atoms) (sym e) lt, subst (OpenIn (marks_of st.base st.steps)) (sym e) (lies_there l lies), st.sound);
            marks_is = em ∙ ap (λ ms. set ms l.atom (signed l.sign)) st.marks_is ∙ ap (λ (k : SignedAtom). set (marks_of st.base st.steps) k.atom (signed k.sign)) (sym e);
            trail_is = et ∙ ap (λ t. t ++ (l.atom ∷ [])) st.trail_is ∙ ap (λ (k : SignedAtom). trail_of st.steps ++ (k.atom ∷ [])) (sym e);
            choices_is = ch;
            roomy = subst (Roomy atoms) (sym ef) st.roomy;
            reach_is = er;
          }

      reach_put : m'.marks ≡ set m.marks l.atom (signed l.sign) → m'.frame ≡ m.frame → m'.frame.reach ≡ length m'.marks
      reach_put em ef = ap (λ (g : Frame). g.reach) ef ∙ st.reach_is ∙ sym (ap length em ∙ length-set m.marks l.atom (signed l.sign))

      pub forced_step : Put l m m' → Forces M st.steps l → State M K atoms m'
      forced_step p why = stepped (forced l) refl why p.marks_are p.trail_is p.frame_is (reach_put p.marks_are p.frame_is) (p.choices_are ∙ st.choices_is)

      pub forced_lighter : Put l m m' → weight atoms m'.trail m'.choices < weight atoms m.trail m.choices
      forced_lighter p =
          let w : weight atoms m'.trail m'.choices ≡ weight atoms (m.trail ++ (l.atom ∷ [])) m.choices = ap (λ t. weight atoms t m'.choices) p.trail_is ∙ ap (weight atoms (m.trail ++ (l.atom ∷ []))) p.choices_are in
          omega (arith, w, forced_falls atoms m.trail l.atom m.choices shorter)

      pub chosen_step : Chosen l m m' → (K m.marks → ⊥) → State M K atoms m'
      chosen_step p calm =
          stepped (chosen l) refl (λ k. calm (subst K (sym st.marks_is) k)) p.marks_are p.trail_is p.frame_is (reach_put p.marks_are p.frame_is)
          (p.choices_are ∙ ap (λ c. c ++ (choice (length m.trail) l ∷ [])) st.choices_is ∙ ap (λ n. choices_of st.steps ++ (choice n l ∷ [])) height_is)

      pub chosen_lighter : Chosen l m m' → weight atoms m'.trail m'.choices < weight atoms m.trail m.choices
      chosen_lighter p =
          let w : weight atoms m'.trail m'.choices ≡ weight atoms (m.trail ++ (l.atom ∷ [])) (m.choices ++ (choice (length m.trail) l ∷ [])) = ap (λ t. weight atoms t m'.choices) p.trail_is ∙ ap (weight atoms (m.trail ++ (l.atom ∷ []))) p.choices_are in
          omega (arith, w, chosen_falls atoms m.trail l.atom m.choices (choice (length m.trail) l) shorter refl)

  -- no choice is left: everything is taken off
  pub failed : m.choices ≡ [] → NoModel M m.marks → Modelless M
  failed none h = refuted_none M st.steps (sym st.choices_is ∙ none) (refuted h)

  pub all_off : (ms' : List Mark) → ms' ≡ opened m.marks (drop 0 m.trail) → Clear ms' × (length ms' ≡ length m.marks)
  all_off ms' e =
      let is : ms' ≡ st.base = e ∙ ap (λ n. opened n m.trail) st.marks_is ∙ ap (opened (marks_of st.base st.steps)) st.trail_is ∙ opened_all M K atoms st.base st.steps st.sound in
      (subst Clear (sym is) st.clear, ap length is ∙ sym (ap length st.marks_is ∙ length_marks st.base st.steps))

  -- the latest choice is taken back: what is left is a state that forces the opposite
  module _ (before : List Choice) (c : Choice) (is : m.choices ≡ before ++ (c ∷ [])) where
    the_cut : Cut M K atoms st.base st.steps before c
    the_cut = cut M K atoms st.base st.steps before c st.sound (sym st.choices_is ∙ is)

    module _ (ms' : List Mark) (em : ms' ≡ opened m.marks (drop c.height m.trail)) where
      rest_marks : ms' ≡ marks_of st.base the_cut.rest
      rest_marks =
          em ∙ ap (λ n. opened n (drop c.height m.trail)) st.marks_is ∙ ap (λ t. opened (marks_of st.base st.steps) (drop c.height t)) st.trail_is ∙ the_cut.marks

      pub back_length : length ms' ≡ length m.marks
      back_length = ap length rest_marks ∙ length_marks st.base the_cut.rest ∙ sym (ap length st.marks_is ∙ length_marks st.base st.steps)

    pub back : {m' : Moment} → m'.marks ≡ opened m.marks (drop c.height m.trail) → m'.trail ≡ take c.height m.trail → m'.choices ≡ before → m'.frame ≡ m.frame → NoModel M m.marks → Back M K atoms c m'
    back {m'} em et ech ef h =
        let k = the_cut in
        let t : m'.trail ≡ trail_of k.rest = et ∙ ap (take c.height) st.trail_is ∙ k.trail in
        record {
          state = record {
            steps = k.rest;
            base = st.base;
            clear = st.clear;
            sound = k.sound;
            marks_is = rest_marks m'.marks em;
            trail_is = t;
            choices_is = ech ∙ k.choices;
            roomy = subst (Roomy atoms) (sym ef) st.roomy;
            reach_is = ap (λ (g : Frame). g.reach) ef ∙ st.reach_is ∙ sym (back_length m'.marks em);
          };
          calm = λ clash. k.calm (subst K (rest_marks m'.marks em) clash);
          below = k.below;
          lies = ap (λ n. get_or n c.atom Open) (rest_marks m'.marks em) ∙ k.lies;
          reason = k.refutes (refuted h);
          height = ap length t ∙ length_trail k.rest ∙ sym k.height;
        }

-- and its opposite is told: the weight is below that before
pub back_lighter : {M : Models} {K : Clashes} {atoms : ℕ} {c : Choice} {m m' : Moment} → Back M K atoms c m → Put (flipped c) m m'
    → (old : List ℕ) (choices : List Choice) → choices ≡ m.choices ++ (c ∷ [])
    → weight atoms m'.trail m'.choices < weight atoms old choices
back_lighter {atoms = atoms} {c = c} {m = m} {m' = m'} b p old choices is =
    let n : length m'.trail ≡ c.height + 1 = ap length p.trail_is ∙ length_push m.trail c.atom ∙ ap (λ k. k + 1) b.height in
    let w : weight atoms old choices ≡ weight atoms old (m.choices ++ (c ∷ [])) = ap (weight atoms old) is in
    let u : weight atoms m'.trail m'.choices ≡ weight atoms m'.trail m.choices = ap (weight atoms m'.trail) p.choices_are in
    omega (arith, w, u, back_falls atoms old m'.trail m.choices c n)
