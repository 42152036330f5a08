-- What is proved of class tables and clashes.
use Rattle.std.specs.Prelude.{◌≡◌, ℕ, ◌<◌, Bool, ◌↔◌, length, ◌≢◌}
use Rattle.syntax.specs.declared.types.Ground.{Ground}
use Rattle.syntax.specs.declared.types.Ground.TheVariants.{Same}
use Rattle.syntax.specs.declared.types.Mark.TheVariants.{Open, Yes}
use Rattle.syntax.specs.declared.counts.Counts.{Counts}
use Rattle.syntax.specs.Numbers.{number_of, LawfulGround}
use Rattle.semantics.specs.Branch.{Branch, mark_at, signed, tell, Clash, ClassTable as Classes}
use Rattle.classes.specs.Leaders.{JoinsNone}
use Rattle.classes.specs.Clashes.{ClashBy, ClashAt}

-- with the leaders of the class table, a clash is one read off them
abbrev pub ClashByLaw : Type 0
ClashByLaw = (c : Counts) (marks : Branch) (leader : ℕ → ℕ) → Classes c marks leader → Clash c marks ↔ ClashBy c marks leader

-- two branches that have the same marks but for atoms with the number of g
abbrev pub SameBut : Counts → Ground → Branch → Branch → Type 0
SameBut c g before after = (h : Ground) → LawfulGround c h → (number_of c h ≢ number_of c g) → mark_at c after h ≡ mark_at c before h

-- a branch without clash gets one standing literal more, or with another mark, and keeps its class table: then it clashes exactly at that literal
abbrev pub ClashAtLaw : Type 0
ClashAtLaw =
    (c : Counts) (before marks : Branch) (leader : ℕ → ℕ) (g : Ground) (s : Bool) →
    Classes c before leader → (Clash c before → ⊥) → SameBut c g before marks → Classes c marks leader →
    LawfulGround c g → mark_at c marks g ≡ signed s → Clash c marks ↔ ClashAt c marks leader g s

-- the same of a literal told within the reach
abbrev pub ClashTold : Type 0
ClashTold =
    (c : Counts) (marks : Branch) (leader : ℕ → ℕ) (g : Ground) (s : Bool) →
    Classes c marks leader → (Clash c marks → ⊥) → LawfulGround c g → mark_at c marks g ≡ Open → number_of c g < length marks →
    JoinsNone leader g s → Clash c (tell c marks g s) ↔ ClashAt c (tell c marks g s) leader g s

-- what joins no classes leaves the class table
abbrev pub ClassesTold : Type 0
ClassesTold =
    (c : Counts) (marks : Branch) (leader : ℕ → ℕ) (g : Ground) (s : Bool) →
    Classes c marks leader → LawfulGround c g → mark_at c marks g ≡ Open → JoinsNone leader g s → Classes c (tell c marks g s) leader

-- the class table rests on the same atoms that stand yes, and on nothing else
abbrev pub ClassesSame : Type 0
ClassesSame =
    (c : Counts) (marks other : Branch) (leader : ℕ → ℕ) →
    ((a b : ℕ) → a < c.names → b < c.names → (mark_at c marks (Same a b) ≡ Yes) ↔ (mark_at c other (Same a b) ≡ Yes)) →
    Classes c marks leader → Classes c other leader
