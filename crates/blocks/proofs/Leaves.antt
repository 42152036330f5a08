-- What the tests of a block's parts come to.
use Rattle.std.proofs.Common.{◌≡◌, ℕ, ◌-◌, ◌*◌, ◌/◌, ◌%◌, ◌<◌, ◌≤◌, false, List, [], ◌∷◌, length, get_or, take, drop, replicate, sum, ◌≢◌, sym, refl, ap, ◌∙◌, ap₂, arith}
use native.Mathlib.Nat.{mul-div_cancel_left}
use Rattle.std.specs.List.{flat_map, AllByRecursion}
use Rattle.std.proofs.lemmas.List.{drop_more, drop_all, length-take-le, length-drop}
use Rattle.syntax.specs.declared.types.Atom.TheVariants.{Same}
use Rattle.syntax.specs.declared.types.Term.TheVariants.{Name}
use Rattle.syntax.specs.declared.types.Literal.{Literal}
use Rattle.syntax.specs.declared.counts.Counts.{Counts}
use Rattle.syntax.specs.Lawful.{Lawful, LawfulLiteral}
use Rattle.syntax.specs.Codes.{literal_code}
use Rattle.blocks.specs.Format.{padded, two_bytes, clause_bytes, front, clauses_front}
use Rattle.blocks.specs.Layout.{CheckRight, Clauses}
use Rattle.blocks.specs.Parts.{Made, MadeOne}
use Rattle.blocks.proofs.Pieces.{joined_length}
use Rattle.blocks.proofs.Written.{fives, fortytwos, padded_take, padded_drop, padded_from}

-- what stands for a literal past the end of a list
abbrev pub blank : Literal
blank = record { sign = false; atom = Same (Name 0) (Name 0) }

-- the check
tail : (block : List ℕ) → length block ≡ 512 → drop 510 block ≡ get_or block 510 0 ∷ get_or block 511 0 ∷ []
tail block h =
    drop_more block 510 0 (omega arith) ∙ ap (λ xs. get_or block 510 0 ∷ xs) (drop_more block 511 0 (omega arith)) ∙
    ap (λ xs. get_or block 510 0 ∷ get_or block 511 0 ∷ xs) (drop_all 512 block (omega arith))

pub check_made : (block : List ℕ) (s : ℕ) → length block ≡ 512 → s ≡ sum (take 510 block) % 65536 → get_or block 510 0 ≡ s % 256 → get_or block 511 0 ≡ s / 256 → CheckRight block
check_made block s h q e f = tail block h ∙ ap₂ (λ x y. x ∷ y ∷ []) e f ∙ ap two_bytes q

pub check_low : (block : List ℕ) (s : ℕ) → length block ≡ 512 → s ≡ sum (take 510 block) % 65536 → CheckRight block → get_or block 510 0 ≡ s % 256
check_low block s h q r = ap (λ xs. get_or xs 0 0) (sym (tail block h) ∙ r ∙ ap two_bytes (sym q))

pub check_high : (block : List ℕ) (s : ℕ) → length block ≡ 512 → s ≡ sum (take 510 block) % 65536 → CheckRight block → get_or block 511 0 ≡ s / 256
check_high block s h q r = ap (λ xs. get_or xs 1 0) (sym (tail block h) ∙ r ∙ ap two_bytes (sym q))

-- a list of two or more
pub two : (b : List ℕ) → 2 ≤ length b → b ≡ get_or b 0 0 ∷ get_or b 1 0 ∷ drop 2 b
two [] h = absurd (omega arith)
two (x ∷ []) h = absurd (omega arith)
two (x ∷ y ∷ b) h = refl

-- what is made of so many pieces has so many elements
pub made_count : {X : Type 0} (f : X → List ℕ) (m : ℕ) (xs : List X) (n : ℕ) (bytes : List ℕ) → AllByRecursion (λ x. length (f x) ≡ m) xs → 0 < m → bytes ≡ flat_map f xs → length bytes ≡ m * n → length xs ≡ n
made_count f m xs n bytes a z e h =
    sym (mul-div_cancel_left (length xs) z) ∙ ap (λ j. j / m) (sym (joined_length f m xs a) ∙ ap length (sym e) ∙ h) ∙
    mul-div_cancel_left n z

-- the places of a clause: used and unused
clause_parts : (cl : List Literal) (b : List ℕ) → b ≡ clause_bytes cl → (get_or b 0 0 ≡ length cl) × (get_or b 1 0 ≡ 0) × (drop 2 b ≡ padded 40 (flat_map literal_code cl))
unfolding clause_bytes
clause_parts cl b e = (ap (λ xs. get_or xs 0 0) e, ap (λ xs. get_or xs 1 0) e, ap (drop 2) e)

pub clause_head : (c : Counts) (b : List ℕ) → MadeOne clause_bytes (Lawful c) b → (1 ≤ get_or b 0 0) × (get_or b 0 0 ≤ 8) × (get_or b 1 0 ≡ 0)
clause_head c b m =
    let p = clause_parts m.0 b m.2 in
    let l = m.1 in
    (omega (arith, l.some), omega (arith, l.few), p.1)

pub clause_used : (c : Counts) (b places used : List ℕ) → places ≡ drop 2 b → used ≡ take (5 * get_or b 0 0) places → MadeOne clause_bytes (Lawful c) b → Made literal_code (LawfulLiteral c) used
clause_used c b places used e f m =
    let cl = m.0 in
    let p = clause_parts cl b m.2 in
    let size : length (flat_map literal_code cl) ≡ 5 * get_or b 0 0 = joined_length literal_code 5 cl (fives cl) ∙ ap (λ n. 5 * n) (sym p.0) in
    (cl, m.1.each, f ∙ ap (take (5 * get_or b 0 0)) (e ∙ p.2) ∙ padded_take 40 (5 * get_or b 0 0) (flat_map literal_code cl) size)

pub clause_unused : (c : Counts) (b places unused : List ℕ) → length b ≡ 42 → places ≡ drop 2 b → unused ≡ drop (5 * get_or b 0 0) places → MadeOne clause_bytes (Lawful c) b → unused ≡ replicate (length unused) 0
clause_unused c b places unused h e f m =
    let cl = m.0 in
    let p = clause_parts cl b m.2 in
    let size : length (flat_map literal_code cl) ≡ 5 * get_or b 0 0 = joined_length literal_code 5 cl (fives cl) ∙ ap (λ n. 5 * n) (sym p.0) in
    let long : length unused ≡ 40 - 5 * get_or b 0 0 = ap length f ∙ length-drop (5 * get_or b 0 0) places ∙ omega (arith, ap length e, length-drop 2 b) in
    f ∙ ap (drop (5 * get_or b 0 0)) (e ∙ p.2) ∙ padded_drop 40 (5 * get_or b 0 0) (flat_map literal_code cl) size ∙ ap (λ n. replicate n 0) (sym long)

pub clause_made : (c : Counts) (b places used unused : List ℕ) → length b ≡ 42 → places ≡ drop 2 b → used ≡ take (5 * get_or b 0 0) places → unused ≡ drop (5 * get_or b 0 0) places → 1 ≤ get_or b 0 0 → get_or b 0 0 ≤ 8 → get_or b 1 0 ≡ 0 → Made literal_code (LawfulLiteral c) used → unused ≡ replicate (length unused) 0 → MadeOne clause_bytes (Lawful c) b
unfolding clause_bytes
clause_made c b places used unused h e f g low high z m q =
    let n = get_or b 0 0 in
    let cl = m.0 in
    let forty : length places ≡ 40 = ap length e ∙ length-drop 2 b ∙ omega arith in
    let size : length used ≡ 5 * n = ap length f ∙ length-take-le (5 * n) places (omega arith) in
    let count : length cl ≡ n = made_count literal_code 5 cl n used (fives cl) (omega arith) m.2 size in
    let long : length unused ≡ 40 - 5 * n = ap length g ∙ length-drop (5 * n) places ∙ omega arith in
    let body : places ≡ padded 40 (flat_map literal_code cl) = padded_from 40 (5 * n) (flat_map literal_code cl) places (ap length (sym m.2) ∙ size) (sym f ∙ m.2) (sym g ∙ q ∙ ap (λ k. replicate k 0) long) in
    let whole : b ≡ clause_bytes cl = two b (omega arith) ∙ ap₂ (λ x xs. x ∷ get_or b 1 0 ∷ xs) (sym count) (sym e ∙ body) ∙ ap (λ x. length cl ∷ x ∷ padded 40 (flat_map literal_code cl)) z in
    (cl, record { some = omega (arith, count); few = omega (arith, count); each = m.1 }, whole)

-- the same of a clause block, whose contents are body
pub clauses_none : (c : Counts) (n : ℕ) (block : List ℕ) → ((body : List ℕ) → take 510 block ≢ 75 ∷ (66 ∷ (1 ∷ (n ∷ body)))) → Clauses c n block → ⊥
unfolding clauses_front front
clauses_none c n block wrong w =
    let body = padded 506 (flat_map clause_bytes w.clauses) in
    wrong body (w.says ∙ ap (λ k. 75 ∷ 66 ∷ 1 ∷ k ∷ body) w.count)

module _ (c : Counts) (n : ℕ) (block body : List ℕ) (size : length block ≡ 512) (front : take 510 block ≡ 75 ∷ (66 ∷ (1 ∷ (n ∷ body)))) where
  pub whole : length body ≡ 506
  whole = omega (arith, ap length front, length-take-le 510 block (omega arith))

  of_clauses : (w : Clauses c n block) → body ≡ padded 506 (flat_map clause_bytes w.clauses)
  unfolding clauses_front front
  of_clauses w = ap (drop 4) (sym front ∙ w.says)

  clauses_long : (w : Clauses c n block) → length (flat_map clause_bytes w.clauses) ≡ 42 * n
  clauses_long w =
      joined_length clause_bytes 42 w.clauses (fortytwos c w.clauses w.lawful) ∙ ap (λ k. 42 * k) w.count

  pub clauses_used : (used : List ℕ) → used ≡ take (42 * n) body → Clauses c n block → Made clause_bytes (Lawful c) used
  clauses_used used e w =
      (w.clauses, w.lawful, e ∙ ap (take (42 * n)) (of_clauses w) ∙ padded_take 506 (42 * n) (flat_map clause_bytes w.clauses) (clauses_long w))

  pub clauses_unused : (unused : List ℕ) → unused ≡ drop (42 * n) body → Clauses c n block → unused ≡ replicate (length unused) 0
  clauses_unused unused e w =
      let long : length unused ≡ 506 - 42 * n = ap length e ∙ length-drop (42 * n) body ∙ omega (arith, whole) in
      e ∙ ap (drop (42 * n)) (of_clauses w) ∙ padded_drop 506 (42 * n) (flat_map clause_bytes w.clauses) (clauses_long w) ∙ ap (λ k. replicate k 0) (sym long)

  pub clauses_made : (used unused : List ℕ) → used ≡ take (42 * n) body → unused ≡ drop (42 * n) body → n ≤ 12 → Made clause_bytes (Lawful c) used → unused ≡ replicate (length unused) 0 → Clauses c n block
  unfolding clauses_front front
  clauses_made used unused e f few m q =
      let cls = m.0 in
      let size : length used ≡ 42 * n = ap length e ∙ length-take-le (42 * n) body (omega (arith, whole)) in
      let amount : length cls ≡ n = made_count clause_bytes 42 cls n used (fortytwos c cls m.1) (omega arith) m.2 size in
      let long : length unused ≡ 506 - 42 * n = ap length f ∙ length-drop (42 * n) body ∙ omega (arith, whole) in
      let filled : body ≡ padded 506 (flat_map clause_bytes cls) = padded_from 506 (42 * n) (flat_map clause_bytes cls) body (ap length (sym m.2) ∙ size) (sym e ∙ m.2) (sym f ∙ q ∙ ap (λ k. replicate k 0) long) in
      record { clauses = cls; count = amount; lawful = m.1; says = front ∙ ap₂ (λ k xs. 75 ∷ (66 ∷ (1 ∷ (k ∷ xs)))) (sym amount) filled }
