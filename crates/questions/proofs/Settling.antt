-- From two searches to the answer.
use Rattle.std.proofs.Common.{◌≡◌, ℕ, ◌<◌, Bool, true, false, not, List, [], ◌∷◌, ◌++◌, length, None, Ok, Err, Decides, Result, sym, refl, ap, ◌∙◌, subst, inl, inr, arith}
use Rattle.std.proofs.ByRecursion.{has_push}
use Rattle.std.proofs.lemmas.Bool.{false≢true}
use Rattle.std.proofs.lemmas.Bool.Decides.{not_from_Decides}
use Rattle.syntax.specs.declared.types.Term.TheVariants.{Name, Var}
use Rattle.syntax.specs.declared.types.Atom.{Atom}
use Rattle.syntax.specs.declared.types.Atom.TheVariants.{Same, Prop, Rel}
use Rattle.syntax.specs.declared.types.Ground.{Ground}
use Rattle.syntax.specs.declared.types.Literal.{Literal}
use Rattle.syntax.specs.declared.types.Refusal.{Refusal}
use Rattle.syntax.specs.declared.counts.Counts.{Counts}
use Rattle.syntax.specs.Lawful.{AtomBy, GroundTerm, GroundLiteral}
use Rattle.syntax.specs.Numbers.{atom_of}
use Rattle.syntax.specs.Signs.{opposite}
use Rattle.semantics.specs.Meaning.{Clause, value}
use Rattle.semantics.specs.Judgements.{Consistent as Consistent', Contradictory, Always, Possible}
use Rattle.semantics.specs.Suppositions.{unit}
use Rattle.semantics.proofs.Suppose.{denial, unit_out, model_left}
use Rattle.semantics.proofs.Marks.{not_both}
use Rattle.books.specs.Suppositions.{unit as unit_clause, Supposed}
use Rattle.tableau.specs.declared.verdict.Verdict.{Verdict}
use Rattle.tableau.specs.declared.verdict.Verdict.TheVariants.{Consistent, Contradictory as Contrary}
use Rattle.tableau.specs.Judged.{Lent, Kept, Right}
use Rattle.tableau.specs.Branched.{branch_refusal, Branched}
use Rattle.tableau.specs.Signs.{Clear}
use Rattle.tableau.proofs.Judging.{cleared_clear, cleared_length, clear_cleared}
use Rattle.tables.specs.Marks.{cleared}
use Rattle.syntax.specs.declared.types.Mark.{Mark}
use Rattle.questions.specs.Verdicts.{found}
use Rattle.questions.specs.declared.answers.Certainty.{Certainty}
use Rattle.questions.specs.declared.answers.Sameness.{Sameness}
use Rattle.questions.specs.Asked.{named, sameness_literal, Tells, TellsNames, Asked, AskedNames, of_both, named_so}
use Rattle.questions.proofs.Truths.{some_none, to_names}

-- an atom without variables is the atom over the same names
named_atom : (c : Counts) (a : Atom) → AtomBy c (GroundTerm c) a → atom_of (named a) ≡ a
named_atom c (Same (Name a) (Name b)) h = refl
named_atom c (Same (Name a) (Var v)) h = absurd h.1
named_atom c (Same (Var u) t) h = absurd h.0
named_atom c (Prop p (Name a)) h = refl
named_atom c (Prop p (Var v)) h = absurd h.1
named_atom c (Rel r (Name a) (Name b)) h = refl
named_atom c (Rel r (Name a) (Var v)) h = absurd h.1.1
named_atom c (Rel r (Var u) t) h = absurd h.1.0

pub unit_named : (c : Counts) (l : Literal) → GroundLiteral c l → unit_clause l ≡ unit (named l.atom) l.sign
unit_named c l h = ap (λ a. record { sign = l.sign; atom = a } ∷ []) (sym (named_atom c l.atom h))

not_not : (s : Bool) → not (not s) ≡ s
not_not true = refl
not_not false = refl

module _ (c : Counts) (cs : List Clause) (g : Ground) (s : Bool) where
  possible : Consistent' c (cs ++ unit g s ∷ []) → Possible c cs g s
  possible (I, model) = (I, model_left c I cs (unit g s ∷ []) model, unit_out c I g s (model.all _ (has_push cs _)))

  consistent : Consistent' c (cs ++ unit g s ∷ []) → Consistent' c cs
  consistent (I, model) = (I, model_left c I cs (unit g s ∷ []) model)

  never : Contradictory c (cs ++ unit g s ∷ []) → Always c cs g (not s)
  never none =
      (denial c cs g (not s)).0 (subst (λ (t : Bool). Contradictory c (cs ++ unit g t ∷ [])) (sym (not_not s)) none)

-- the four cases
settled_at : (c : Counts) (cs : List Clause) (g : Ground) (s : Bool) (w o : Bool) → Decides w (Consistent' c (cs ++ unit g s ∷ [])) → Decides o (Consistent' c (cs ++ unit g (not s) ∷ [])) → Tells c cs g s (of_both w o)
settled_at c cs g s true true dw dn = (possible c cs g s (dw.0 refl), possible c cs g (not s) (dn.0 refl))
settled_at c cs g s true false dw dn =
    (consistent c cs g s (dw.0 refl), (denial c cs g s).0 (not_from_Decides false dn refl))
settled_at c cs g s false true dw dn =
    (consistent c cs g (not s) (dn.0 refl), never c cs g s (not_from_Decides false dw refl))
settled_at c cs g s false false dw dn =
    λ t.
    let holds = (denial c cs g s).0 (not_from_Decides false dn refl) t.0 t.1 in
    let fails = never c cs g s (not_from_Decides false dw refl) t.0 t.1 in
    not_both (value t.0 g) s holds fails

pub settled : (c : Counts) (cs : List Clause) (l : Literal) (w o : Bool) → GroundLiteral c l → Decides w (Consistent' c (cs ++ unit_clause l ∷ [])) → Decides o (Consistent' c (cs ++ unit_clause (opposite l) ∷ [])) → Tells c cs (named l.atom) l.sign (of_both w o)
settled c cs l w o h dw dn =
    settled_at c cs (named l.atom) l.sign w o
    (subst (λ (u : Clause). Decides w (Consistent' c (cs ++ u ∷ []))) (unit_named c l h) dw)
    (subst (λ (u : Clause). Decides o (Consistent' c (cs ++ u ∷ []))) (unit_named c (opposite l) h) dn)

-- a supposition that nothing stands against is done
pub supposed_done : (c : Counts) (cs : List Clause) (ls : List Literal) (l : Literal) (r : Result Unit Refusal) (cs' : List Clause) (ls' : List Literal) → Supposed c cs ls l r cs' ls' → GroundLiteral c l → length ls < 16 → length cs < 65535 → (cs' ≡ cs ++ unit_clause l ∷ []) × (ls' ≡ ls ++ l ∷ [])
supposed_done c cs ls l (Ok u) cs' ls' d h k n = (d.3, d.4)
supposed_done c cs ls l (Err e) cs' ls' (inl p, q, s) h k n = absurd (p.1 h)
supposed_done c cs ls l (Err e) cs' ls' (inr (p, q, inl x), s, t) h k n = absurd (omega arith)
supposed_done c cs ls l (Err e) cs' ls' (inr (p, q, inr x), s, t) h k n = absurd (omega arith)

-- what a search answered that was made over the counts k and the clauses ks, at what these are
pub record SearchedAt (c : Counts) (cs : List Clause) (m m' : Lent) (found-one : Bool) : Type 0 where
  pub right : Decides found-one (Consistent' c cs)
  pub kept : Kept m m'

pub searched_at : (k c : Counts) (ks cs : List Clause) (m m' : Lent) (r : Result Verdict Refusal) → k ≡ c → ks ≡ cs → Branched k ks m m' r → Right k ks r → branch_refusal c m ≡ None → SearchedAt c cs m m' (found r)
searched_at k c ks cs m m' (Ok Consistent) e f b h n =
    record { right = (λ _. subst (λ xs. Consistent' c xs) f (subst (λ q. Consistent' q ks) e h), λ _. refl); kept = b.1 }
searched_at k c ks cs m m' (Ok Contrary) e f b h n = record {
  right =
      (λ x. absurd (false≢true x), λ t. absurd (h (subst (λ xs. Consistent' k xs) (sym f) (subst (λ q. Consistent' q cs) (sym e) t))));
  kept = b.1;
}
searched_at k c ks cs m m' (Err x) e f b h n =
    absurd (some_none (branch_refusal c m) x (ap (λ q. branch_refusal q m) (sym e) ∙ b.0) n)

-- a cleared table is clear as it was handed over
pub after_clear : (a b z : List Mark) → z ≡ cleared b → length b ≡ length a → (z ≡ cleared a) × (length z ≡ length a)
after_clear a b z e f =
    let long : length z ≡ length a = ap length e ∙ cleared_length b ∙ f in
    (clear_cleared a z (subst Clear (sym e) (cleared_clear b)) long, long)

-- a question on two names is one on their literal
module _ (c : Counts) (cs : List Clause) (a b : ℕ) (l : Literal) (m m' : Lent) (is : l ≡ sameness_literal a b) where
  pub names_asked : (t : Certainty) (u : Sameness) → u ≡ named_so t → Asked c cs l m m' (Ok t) → AskedNames c cs a b m m' (Ok u)
  names_asked t u e h =
      let k : Asked c cs (sameness_literal a b) m m' (Ok t) = subst (λ x. Asked c cs x m m' (Ok t)) is h in
      (k.0, k.1, subst (TellsNames c cs a b) (sym e) (to_names c cs a b t k.2))

  pub names_refused : (e : Refusal) → Asked c cs l m m' (Err e) → AskedNames c cs a b m m' (Err e)
  names_refused e h = subst (λ x. Asked c cs x m m' (Err e)) is h
