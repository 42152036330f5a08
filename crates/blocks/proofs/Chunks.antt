-- What `all` and `position` answer over the pieces of a slice, and `find` over a range, where each call of the closure tells whether a
-- piece or a number has a property.
use Rattle.std.proofs.Common.{◌≡◌, ℕ, ◌+◌, ◌*◌, ◌/◌, ◌<◌, ◌≤◌, Bool, true, false, not, List, [], ◌∷◌, length, Some, None, Option, Decides, MatchOption, sym, refl, ap, ◌∙◌, subst, mul_comm, arith}
use denote.Ref.{Bor}
use denote.Param.Members.{Mut}
use Rattle.std.specs.Prelude.{slice_index_or, IfSome, MatchBool}
use Rattle.std.specs.Option.{option_map, IsSomeAnd}
use Rattle.std.specs.Bool.{⊤, IsTrue}
use Rattle.std.specs.Fn.{Called, CalledAt}
use Rattle.std.specs.List.{FoldsTo}
use Rattle.std.specs.Iterator.{YieldsThen}
use Rattle.std.specs.declared.ops.Range.{Range}
use Rattle.std.proofs.iter.Yields.{nat_range_steps}
use Rattle.std.proofs.lemmas.Iterator.{first_from_Range}
use Rattle.std.specs.Slice.Iter.{chunks_exact_rest, chunks_exact_size, chunks_exact_steps}
use Rattle.std.specs.Iterator.Runs.{Run, IsChunksExactRun, AllItemsGive, AnyItemGives, IsFirstToGive, CallKeepsClosure}
use Rattle.std.proofs.lemmas.Bool.{false≢true}
use Rattle.std.proofs.lemmas.Nat.{le-div}
use Rattle.blocks.specs.Reading.{part}
use Rattle.blocks.specs.Parts.{Searched}

some_at : {A : Type 0} (o : Option A) (xs : List A) (k : ℕ) → k < length xs → ((d : A) → option_map (λ y. y) o ≡ Some (slice_index_or xs k d)) → (x : A) × (o ≡ Some x)
some_at o [] k h e = absurd (omega arith)
some_at None (x ∷ xs) k h e = let z = e x in cc
some_at (Some y) (x ∷ xs) k h e = (y, refl)

if_some : {A : Type 0} (P : A → Type 0) (o : Option A) (x : A) → o ≡ Some x → IfSome o P → P x
if_some {A} P o x e h = let Q : Option A → Type 0 = λ r. IfSome r P in subst Q e h

some_and : {A : Type 0} (P : A → Type 0) (o : Option A) → IsSomeAnd o P → (x : A) × (o ≡ Some x) × P x
some_and P None h = absurd h
some_and P (Some x) h = (x, refl, h)

-- a run over the pieces of m bytes, where each call of f tells whether a piece has the property
module _ (m : ℕ) (pos : 0 < m) (bytes : List ℕ) (p : Run (chunks_exact_steps {A = ℕ})) (run : 0 < chunks_exact_size p.from → IsChunksExactRun p (chunks_exact_size p.from) (chunks_exact_rest p.from)) (size : chunks_exact_size p.from ≡ m) (rest : chunks_exact_rest p.from ≡ bytes) (Q : List ℕ → Type 0) where
  w : IsChunksExactRun p m bytes
  w = subst (λ xs. IsChunksExactRun p m xs) rest (subst (λ k. 0 < k → IsChunksExactRun p k (chunks_exact_rest p.from)) size run pos)

  at_is : (k : ℕ) → k < p.len → (x : Bor (List ℕ)) × (p.at k ≡ Some x)
  at_is k h = some_at (p.at k) p.items k (omega (arith, p.long)) (λ d. p.reads k d h)

  there : (k : ℕ) (x : Bor (List ℕ)) → p.at k ≡ Some x → x.now ≡ part (m * k) m bytes
  there k x e =
      let z = if_some _ (p.at k) x e (w.2 k) in
      z.2.0 ∙ ap (λ j. part j m bytes) (mul_comm k m)

  within : p.len ≤ length bytes / m
  within = le-div p.len (length bytes) m pos w.0

  module _ {F : Type 0} (g : Mut F (Bor (List ℕ) × Unit {0}) Bool) (f : F) (keeps : CallKeepsClosure g f) where
    pub all_tells : (r : Bool) → MatchBool r (IsTrue p.whole × AllItemsGive p g f true) (AnyItemGives p g f false) → ((x : Bor (List ℕ)) (b : Bool) → Called g f (x, tt) b f → Decides b (Q x.now)) → Decides r ((k : ℕ) → k < length bytes / m → Q (part (m * k) m bytes))
    all_tells true h tells = (
      λ e k i.
          let n = w.1 h.0 in
          let x = at_is k (omega arith) in
          subst Q (there k x.0 x.1) ((tells x.0 true (if_some _ (p.at k) x.0 x.1 (h.1 keeps k))).0 refl),
      λ a. refl,
    )
    all_tells false h tells = (
      λ e. absurd (false≢true e),
      λ a.
          let k = h keeps in
          let x = some_and _ (p.at k.0) k.2 in
          (tells x.0 false x.2).1 (subst Q (sym (there k.0 x.0 x.1)) (a k.0 (omega (arith, within)))),
    )

    pub position_tells : (r : Option ℕ) → MatchOption r (IsTrue p.whole × AllItemsGive p g f false) (λ i. (p.len ≡ i + 1) × IsFirstToGive p g f true false i) → ((x : Bor (List ℕ)) (b : Bool) → Called g f (x, tt) b f → Decides (not b) (Q x.now)) → Searched (λ k. Q (part (m * k) m bytes)) (length bytes / m) r
    position_tells None h tells = λ k i.
        let n = w.1 h.0 in
        let x = at_is k (omega arith) in
        subst Q (there k x.0 x.1) ((tells x.0 false (if_some _ (p.at k) x.0 x.1 (h.1 keeps k))).0 refl)
    position_tells (Some b) h tells =
        let first = h.1 keeps in
        let x = some_and _ (p.at b) first.0 in (
          omega (arith, within, h.0),
          λ q. false≢true ((tells x.0 true x.2).1 (subst Q (sym (there b x.0 x.1)) q)),
          λ k i.
              let y = some_and _ (p.at k) (first.1 k i) in
              subst Q (there k y.0 y.1) ((tells y.0 false y.2).0 refl),
        )

-- what a denied test tells
pub denied : (P : Type 0) (b r : Bool) → b ≡ not r → Decides r P → Decides (not b) P
denied P b true e d = subst (λ t. Decides (not t) P) (sym e) d
denied P b false e d = subst (λ t. Decides (not t) P) (sym e) d

-- `find` over the numbers below n
pub find_tells : {F : Type 0} {g : Mut F (Bor ℕ × Unit {0}) Bool} (s u : Range ℕ) (f : F) (r : Option ℕ) (Q : ℕ → Type 0) → (xs : List ℕ) × (j : F) × YieldsThen nat_range_steps s xs r u × FoldsTo (λ p x q. CalledAt g p x false q) f xs j × MatchOption r ⊤ (λ x. (h : F) × CalledAt g j x true h) → s.start ≡ 0 → ((x : ℕ) (b : Bool) (q : F) → CalledAt g f x b q → (q ≡ f) × Decides (not b) (Q x)) → Searched Q s.end r
find_tells s u f None Q ran z tells =
    let h = first_from_Range s u f None (λ x. Q x → ⊥) Q ran (λ x q k p. false≢true ((tells x true q k).1.1 p)) (λ x q k. let t = tells x false q k in (t.0, t.1.0 refl)) in
    λ k i. h k (omega arith) i
find_tells s u f (Some b) Q ran z tells =
    let h = first_from_Range s u f (Some b) (λ x. Q x → ⊥) Q ran (λ x q k p. false≢true ((tells x true q k).1.1 p)) (λ x q k. let t = tells x false q k in (t.0, t.1.0 refl)) in
    (h.1, h.2, λ k i. h.3 k (omega arith) i)
