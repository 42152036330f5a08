-- The instances of clauses: every model satisfies them, their atoms are of the book, and a branch that fulfils those of the clauses' own
-- variables fulfils all.
use Rattle.std.proofs.Common.{◌≡◌, ℕ, zero, suc, ◌<◌, Bool, true, false, cond, List, [], ◌∷◌, map, length, Option, Some, None, Result, Ok, Err, get_or, sym, refl, ap, ◌∙◌, subst, le_of_suc-le-suc, not-suc-le-zero, arith}
use Rattle.std.specs.List.{ContainsAt as Has, AllByRecursion}
use Rattle.std.specs.Option.{is_some}
use Rattle.std.proofs.ByRecursion.{all-has, All-map, All-weaker, All-get_or, has_get_or}
use Rattle.std.proofs.lemmas.List.{get_or-map, length-map}
use Rattle.std.proofs.lemmas.Bool.{cond-true, cond-false, cond_both, or_left, or_right}
use Rattle.syntax.specs.declared.types.Literal.{Literal}
use Rattle.syntax.specs.declared.counts.Counts.{Counts}
use Rattle.syntax.specs.Lawful.{Lawful, LawfulLiteral}
use Rattle.syntax.specs.Numbers.{atoms, number_of}
use Rattle.syntax.proofs.Laws.{below_all}
use Rattle.semantics.specs.Meaning.{Clause, AllLawful, Assignment, Assigns, ground_of}
use Rattle.semantics.specs.Branch.{Branch, mark_at, SomeStands, Fulfilled, signed as signed_so}
use Rattle.semantics.specs.Checks.{uses, atom_use, Proper}
use Rattle.semantics.proofs.Instances.{in_clause, instance_lawful, ground_same}
use Rattle.semantics.proofs.Checking.{ground_used}
use Rattle.tables.specs.Marks.{signed}
use Rattle.syntax.specs.declared.types.SignedAtom.{SignedAtom}
use Rattle.instances.specs.declared.ranges.Ranges.{Ranges}
use Rattle.instances.specs.Assignments.{names_of, RunsThrough, size, nth_assignment}
use Rattle.instances.proofs.Ranging.{each_assigns, each_reached}
use Rattle.tableau.specs.declared.types.Hopeless.{Hopeless}
use Rattle.tableau.specs.Scans.{Found, FulfilsClause, SurveyedFrom}
use Rattle.tableau.specs.Signs.{Valuation, Holds, SomeOf, StandsIn, signed_atom_of, instance, Modelled}

has_map : {X Y : Type 0} (f : X → Y) (xs : List X) (x : X) → Has xs x → Has (map f xs) (f x)
has_map f xs x (k, h, e) = (k, omega (arith, length-map xs f), λ d. get_or-map f xs k x d h ∙ ap f (e x))

-- the k-th names lie below N
pub assigned : (c : Counts) (cl : Clause) (r : Ranges) (k : ℕ) (n : List ℕ) → RunsThrough c cl r → n ≡ nth_assignment r k → Assigns c (names_of n)
assigned c cl r k n is e = subst (λ m. Assigns c (names_of m)) (sym e) (each_assigns c cl r k is)

module _ (c : Counts) (clauses : List Clause) (lawful : AllLawful c clauses) (i : ℕ) (inside : i < length clauses) (σ : Assignment) (assigns : Assigns c σ) where
  law : Lawful c (get_or clauses i [])
  law = All-get_or (Lawful c) clauses i [] inside lawful

  -- every model satisfies the instance
  pub satisfied : (v : Valuation) → Modelled c clauses v → SomeOf (Holds v) (instance c σ (get_or clauses i []))
  satisfied v m =
      let cl = get_or clauses i [] in
      let (l, has, so) = m.model.all cl (has_get_or clauses i [] inside) σ assigns in
      (signed_atom_of c σ l, has_map (signed_atom_of c σ) cl l has, m.same (ground_of σ l.atom) (in_clause c σ cl l assigns law has) ∙ so)

  -- its atoms are of the book
  pub atom_below : (l : SignedAtom) → Has (instance c σ (get_or clauses i [])) l → l.atom < atoms c
  atom_below l has =
      let cl = get_or clauses i [] in
      all-has (λ (m : SignedAtom). m.atom < atoms c) (instance c σ cl) l
      (All-map (λ (m : SignedAtom). m.atom < atoms c) (signed_atom_of c σ) cl
      (All-weaker (LawfulLiteral c) (λ m. number_of c (ground_of σ m.atom) < atoms c) (λ m h. below_all c (ground_of σ m.atom) (instance_lawful c σ m assigns h)) cl law.each))
      has

-- the two ways to write a told mark
pub same_signed : (s : Bool) → signed s ≡ signed_so s
same_signed true = refl
same_signed false = refl

has_unmap : {X Y : Type 0} (f : X → Y) (xs : List X) (y : Y) → Has (map f xs) y → (x : X) × Has xs x × (f x ≡ y)
has_unmap f [] y (k, h, e) = absurd (not-suc-le-zero h)
has_unmap f (x ∷ xs) y (zero, h, e) = (x, (0, omega arith, λ d. refl), e (f x))
has_unmap f (x ∷ xs) y (suc k, h, e) =
    let (z, (j, lt, at), so) = has_unmap f xs y (k, le_of_suc-le-suc h, e) in
    (z, (suc j, omega arith, at), so)

-- some signed atom of the instance stands
pub some_stands : (c : Counts) (marks : Branch) (σ : Assignment) (cl : Clause) → SomeOf (StandsIn marks) (instance c σ cl) → SomeStands c marks σ cl
some_stands c marks σ cl (x, has, so) =
    let (l, in-cl, e) = has_unmap (signed_atom_of c σ) cl x has in
    (l, in-cl, subst (StandsIn marks) (sym e) so ∙ same_signed l.sign)

-- which variables a clause uses
uses_in : (v : ℕ) (cl : Clause) → AllByRecursion (λ l. atom_use v l.atom ≡ true → uses v cl ≡ true) cl
uses_in v [] = tt
uses_in v (l ∷ ls) = (
  or_left (atom_use v l.atom) (uses v ls),
  All-weaker
      (λ m. atom_use v m.atom ≡ true → uses v ls ≡ true)
      (λ m. atom_use v m.atom ≡ true → uses v (l ∷ ls) ≡ true)
      (λ m f e. or_right (atom_use v l.atom) (uses v ls) (f e))
      ls
      (uses_in v ls),
)

-- a variable that the clause uses keeps its name, any other gets name 0
abbrev own : Clause → Assignment → Assignment
own cl σ v = cond (uses v cl) (σ v) 0

own_proper : (c : Counts) (cl : Clause) (σ : Assignment) → Assigns c σ → Proper c cl (own cl σ)
own_proper c cl σ assigns = record {
  assigns = λ v h. cond_both (uses v cl) (σ v) 0 (λ n. n < c.names) (λ _. assigns v h) (λ _. c.some);
  unused = λ v h e. cond-false (uses v cl) (σ v) 0 e;
}

-- every instance of a clause has a literal that stands, if every one of its own variables has
pub stands_always : (c : Counts) (marks : Branch) (cl : Clause) (r : Ranges) → Lawful c cl → RunsThrough c cl r
    → ((k : ℕ) → k < size r → SomeOf (StandsIn marks) (instance c (names_of (nth_assignment r k)) cl))
    → FulfilsClause c marks cl
stands_always c marks cl r law is each σ assigns =
    let (k, h, same) = each_reached c cl r (own cl σ) is (own_proper c cl σ assigns) in
    let τ = names_of (nth_assignment r k) in
    let (l, in-cl, so) = some_stands c marks τ cl (each k h) in
    let e : ground_of τ l.atom ≡ ground_of σ l.atom =
    ground_same c τ (own cl σ) l.atom same (all-has (LawfulLiteral c) cl l law.each in-cl)
    ∙ ground_used (own cl σ) σ l.atom (λ v u. cond-true (uses v cl) (σ v) 0 (all-has (λ (m : Literal). atom_use v m.atom ≡ true → uses v cl ≡ true) cl l (uses_in v cl) in-cl u)) in
    (l, in-cl, ap (mark_at c marks) (sym e) ∙ so)

-- what is known where nothing was found may be put in other words
pub found_so : (c : Counts) (clauses : List Clause) (marks : Branch) (P Q : Type 0) (r : Result (Option SignedAtom) Hopeless) → (P → Q) → Found P c clauses marks r → Found Q c clauses marks r
found_so c clauses marks P Q (Ok None) f h = f h
found_so c clauses marks P Q (Ok (Some l)) f h = h
found_so c clauses marks P Q (Err e) f h = h

-- where nothing was found, that is so
pub found_none : (c : Counts) (clauses : List Clause) (marks : Branch) (P : Type 0) (o : Option SignedAtom) → false ≡ is_some o → Found P c clauses marks (Ok o) → P
found_none c clauses marks P None e h = h
found_none c clauses marks P (Some l) e h = grind arith

-- a survey of all clauses
pub surveyed_whole : (c : Counts) (clauses : List Clause) (marks : Branch) → SurveyedFrom c clauses marks 0 → Fulfilled c clauses marks
surveyed_whole c clauses marks each cl (i, h, e) = subst (FulfilsClause c marks) (e []) (each i h (omega arith))
