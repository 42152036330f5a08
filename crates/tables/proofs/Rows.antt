-- What a change of the rows does to the marks.
use Rattle.std.proofs.Common.{◌≡◌, ℕ, zero, suc, ◌+◌, ◌<◌, ◌≤◌, Bool, true, is_some, ◌≢◌, List, [], ◌∷◌, ◌++◌, length, get_or, take, set, replicate, Some, None, Ok, Option, sym, refl, ap, ◌∙◌, subst, inl, inr, true≢false, le_of_suc-le-suc, arith}
use Rattle.std.specs.Prelude.{All, HoldsAt, MatchOption}
use Rattle.std.proofs.lemmas.List.{length-set, length-replicate, get_or-replicate, length_push, get_or-set_same, get_or-set_other, set-set, set_comm, set_past, get_or_past, get_or_append_left, get_or_push, take_more, take_more_set, length-take-le}
use Rattle.std.proofs.lemmas.Simd.{splat_is_map}
use Rattle.std.proofs.lemmas.Bool.{cases_lt}
use Rattle.syntax.specs.declared.types.SignedAtom.{SignedAtom}
use Rattle.syntax.specs.declared.types.Mark.{Mark}
use Rattle.syntax.specs.declared.types.Mark.TheVariants.{Open}
use Rattle.tables.specs.Marks.{stands, standing, signed, cleared}
use Rattle.tables.specs.Listed.{all_open, listed, Each, Sought}
use Rattle.tables.proofs.Counts.{standing_set, stands_signed, set_open}
use Rattle.tables.proofs.Refused.{open_from}
use Rattle.tables.proofs.Zero.{no_row}

standing_replicate : (n : ℕ) → standing (replicate n Open) ≡ 0
standing_replicate zero = refl
standing_replicate (suc n) = omega (arith, standing_replicate n)

pub none_stand : standing all_open ≡ 0
unfolding all_open
none_stand = standing_replicate 10240

none_open : (a : ℕ) → stands (get_or all_open a Open) ≡ 0
unfolding all_open
none_open a = elim (cases_lt a 10240) [
  | inl h ↦ ap stands (get_or-replicate 10240 a Open Open h)
  | inr h ↦ ap stands (get_or_past (replicate 10240 Open) a Open (omega (arith, length-replicate 10240 Open)))
]

all_length : length all_open ≡ 10240
unfolding all_open
all_length = length-replicate 10240 Open

pub listed_length : (rs : List SignedAtom) → length (listed rs) ≡ 10240
listed_length [] = all_length
listed_length (r ∷ rs) = length-set (listed rs) r.atom (signed r.sign) ∙ listed_length rs

-- a mark written over an open one raises the count, over any other not
set_le : (ms : List Mark) (k : ℕ) (b : Bool) → standing (set ms k (signed b)) ≤ standing ms + 1
set_le ms k b = elim (cases_lt k (length ms)) [
  | inl h ↦ omega (arith, standing_set ms k (signed b) h, stands_signed b)
  | inr h ↦ omega (arith, ap standing (set_past ms k (signed b) h))
]

pub count_le : (rs : List SignedAtom) → standing (listed rs) ≤ length rs
count_le [] = omega (arith, none_stand)
count_le (r ∷ rs) = omega (arith, set_le (listed rs) r.atom r.sign, count_le rs)

-- the first row's atom is in reach, and no other row has it
pub first : (r : SignedAtom) (rs : List SignedAtom) → Each (r ∷ rs) → Each rs × (r.atom < length (listed rs)) × (stands (get_or (listed rs) r.atom Open) ≡ 0)
first r rs e = elim (cases_lt r.atom (length (listed rs))) [
  | inl h ↦
      let s = standing_set (listed rs) r.atom (signed r.sign) h in
      let o = stands_signed r.sign in
      let l = count_le rs in
      (omega arith, h, omega arith)
  | inr h ↦ absurd (omega (arith, ap standing (set_past (listed rs) r.atom (signed r.sign) h), count_le rs))
]

set_lies : (ms : List Mark) (k : ℕ) → stands (get_or ms k Open) ≡ 0 → set ms k Open ≡ ms
set_lies ms k o = set_open ms k (open_from (get_or ms k Open) o)

-- what stands is another atom than what is open
apart : (ms : List Mark) (j k : ℕ) → stands (get_or ms j Open) ≡ 0 → stands (get_or ms k Open) ≡ 1 → j ≢ k
apart ms j k o s e = omega (arith, ap (λ x. stands (get_or ms x Open)) e)

-- the mark of a row's atom is the row's sign
pub sign_at : (rs : List SignedAtom) (i : ℕ) (d : SignedAtom) → i < length rs → Each rs → get_or (listed rs) (get_or rs i d).atom Open ≡ signed (get_or rs i d).sign
sign_at [] i d h e = absurd (omega arith)
sign_at (r ∷ rs) zero d h e = get_or-set_same (listed rs) r.atom (signed r.sign) Open (first r rs e).1
sign_at (r ∷ rs) (suc i) d h e =
    let f = first r rs e in
    let s = sign_at rs i d (le_of_suc-le-suc h) f.0 in
    get_or-set_other (listed rs) r.atom (get_or rs i d).atom (signed r.sign) Open
    (λ p. apart (listed rs) r.atom (get_or rs i d).atom f.2 (ap stands s ∙ stands_signed (get_or rs i d).sign) (sym p))
    ∙ s

pub stands_at : (rs : List SignedAtom) (i : ℕ) (d : SignedAtom) → i < length rs → Each rs → stands (get_or (listed rs) (get_or rs i d).atom Open) ≡ 1
stands_at rs i d h e = ap stands (sign_at rs i d h e) ∙ stands_signed (get_or rs i d).sign

-- an atom with no row is open
pub absent : (rs : List SignedAtom) (a : ℕ) → ((k : ℕ) (d : SignedAtom) → k < length rs → (get_or rs k d).atom ≡ a → ⊥) → stands (get_or (listed rs) a Open) ≡ 0
absent [] a none = none_open a
absent (r ∷ rs) a none =
    ap stands (get_or-set_other (listed rs) r.atom a (signed r.sign) Open (λ p. none 0 r (omega arith) (sym p)))
    ∙ absent rs a (λ k d h. none (suc k) d (omega arith))

-- what a search of the rows finds
pub placed : (rs : List SignedAtom) (a : ℕ) (o : Option ℕ) → Each rs → a < 10240
    → MatchOption o (All (λ (r : SignedAtom). r.atom ≢ a) rs) (λ i. (i < length rs) × HoldsAt (λ (r : SignedAtom). r.atom ≡ a) rs i) → Sought rs a (Ok o)
placed rs a None e h none = (omega (arith, listed_length rs), open_from _ (absent rs a none))
placed rs a (Some i) e h (lt, at) =
    (omega (arith, listed_length rs), lt, λ d. (at d, ap (λ k. get_or (listed rs) k Open) (sym (at d)) ∙ sign_at rs i d lt e))

pub placed_some : (rs : List SignedAtom) (a : ℕ) (o : Option ℕ) → Sought rs a (Ok o) → is_some o ≡ true → (a < length (listed rs)) × (stands (get_or (listed rs) a Open) ≡ 1)
placed_some rs a None p h = absurd (true≢false (sym h))
placed_some rs a (Some i) p h = (p.0, ap stands (p.2 no_row).1 ∙ stands_signed (get_or rs i no_row).sign)

pub placed_near : (rs : List SignedAtom) (a : ℕ) (o : Option ℕ) → Sought rs a (Ok o) → a < 10240
placed_near rs a None p = omega (arith, p.0, listed_length rs)
placed_near rs a (Some i) p = omega (arith, p.0, listed_length rs)

-- one more row, at the end
pub push : (rs : List SignedAtom) (z : SignedAtom) → Each rs → stands (get_or (listed rs) z.atom Open) ≡ 0 → listed (rs ++ (z ∷ [])) ≡ set (listed rs) z.atom (signed z.sign)
push [] z e o = refl
push (r ∷ rs) z e o =
    let f = first r rs e in
    let here = stands_at (r ∷ rs) 0 r (omega arith) e in
    let ne : z.atom ≢ r.atom = apart (listed (r ∷ rs)) z.atom r.atom o here in
    let o' = sym (ap stands (get_or-set_other (listed rs) r.atom z.atom (signed r.sign) Open ne)) ∙ o in
    ap (λ m. set m r.atom (signed r.sign)) (push rs z f.0 o') ∙ set_comm (listed rs) z.atom r.atom (signed z.sign) (signed r.sign) ne

pub push_each : (rs : List SignedAtom) (z : SignedAtom) → z.atom < 10240 → Each rs → stands (get_or (listed rs) z.atom Open) ≡ 0 → Each (rs ++ (z ∷ []))
push_each rs z h e o =
    omega (arith, ap standing (push rs z e o), standing_set (listed rs) z.atom (signed z.sign) (omega (arith, listed_length rs)), stands_signed z.sign, length_push rs z)

in_reach : (rs : List SignedAtom) (z : SignedAtom) → Each (rs ++ (z ∷ [])) → Each rs → stands (get_or (listed rs) z.atom Open) ≡ 0 → z.atom < length (listed rs)
in_reach rs z e i o = elim (cases_lt z.atom (length (listed rs))) [
  | inl h ↦ h
  | inr h ↦ absurd (omega (arith, e, i, ap standing (push rs z i o), ap standing (set_past (listed rs) z.atom (signed z.sign) h), length_push rs z))
]

-- the last row's atom is in reach, and no row before it has it
pub last : (rs : List SignedAtom) (z : SignedAtom) → Each (rs ++ (z ∷ [])) → Each rs × (stands (get_or (listed rs) z.atom Open) ≡ 0)
last [] z e = (none_stand, none_open z.atom)
last (r ∷ rs) z e =
    let f = first r (rs ++ (z ∷ [])) e in
    let i = last rs z f.0 in
    let p = push rs z i.0 i.1 in
    let r-open : stands (get_or (set (listed rs) z.atom (signed z.sign)) r.atom Open) ≡ 0 = ap (λ m. stands (get_or m r.atom Open)) (sym p) ∙ f.2 in
    let z< : z.atom < length (listed rs) = in_reach rs z f.0 i.0 i.1 in
    let z-stands : stands (get_or (set (listed rs) z.atom (signed z.sign)) z.atom Open) ≡ 1 = ap stands (get_or-set_same (listed rs) z.atom (signed z.sign) Open z<) ∙ stands_signed z.sign in
    let ne : r.atom ≢ z.atom = apart (set (listed rs) z.atom (signed z.sign)) r.atom z.atom r-open z-stands in
    let r-open' : stands (get_or (listed rs) r.atom Open) ≡ 0 = sym (ap stands (get_or-set_other (listed rs) z.atom r.atom (signed z.sign) Open ne)) ∙ r-open in
    let r< : r.atom < length (listed rs) = omega (arith, f.1, listed_length rs, listed_length (rs ++ (z ∷ []))) in (
      omega (arith, standing_set (listed rs) r.atom (signed r.sign) r<, stands_signed r.sign, i.0, r-open'),
      ap stands (get_or-set_other (listed rs) r.atom z.atom (signed r.sign) Open (λ q. ne (sym q))) ∙ i.1,
    )

-- a row replaced by a new one
pub replaced : (rs : List SignedAtom) (i : ℕ) (d z : SignedAtom) → i < length rs → Each rs → stands (get_or (listed rs) z.atom Open) ≡ 0
    → listed (set rs i z) ≡ set (set (listed rs) (get_or rs i d).atom Open) z.atom (signed z.sign)
replaced [] i d z h e o = absurd (omega arith)
replaced (r ∷ rs) zero d z h e o =
    let f = first r rs e in
    ap (λ m. set m z.atom (signed z.sign)) (sym (set-set (listed rs) r.atom (signed r.sign) Open ∙ set_lies (listed rs) r.atom f.2))
replaced (r ∷ rs) (suc i) d z h e o =
    let f = first r rs e in
    let x = get_or rs i d in
    let l = listed rs in
    let here = stands_at (r ∷ rs) 0 r (omega arith) e in
    let z≢r : z.atom ≢ r.atom = apart (listed (r ∷ rs)) z.atom r.atom o here in
    let r≢x : r.atom ≢ x.atom = apart l r.atom x.atom f.2 (stands_at rs i d (le_of_suc-le-suc h) f.0) in
    let o' = sym (ap stands (get_or-set_other l r.atom z.atom (signed r.sign) Open z≢r)) ∙ o in
    ap (λ m. set m r.atom (signed r.sign)) (replaced rs i d z (le_of_suc-le-suc h) f.0 o')
    ∙ set_comm (set l x.atom Open) z.atom r.atom (signed z.sign) (signed r.sign) z≢r
    ∙ ap (λ m. set m z.atom (signed z.sign)) (set_comm l x.atom r.atom Open (signed r.sign) (λ q. r≢x (sym q)))

-- an atom that stands is within reach
up_within : (ms : List Mark) (k : ℕ) → stands (get_or ms k Open) ≡ 1 → k < length ms
up_within ms k u = elim (cases_lt k (length ms)) [
  | inl h ↦ h
  | inr h ↦ absurd (omega (arith, u, ap stands (get_or_past ms k Open h)))
]

pub take_set_any : {X : Type 0} (n : ℕ) (xs : List X) (i : ℕ) (y : X) → take n (set xs i y) ≡ set (take n xs) i y
take_set_any zero xs i y = refl
take_set_any (suc n) [] i y = refl
take_set_any (suc n) (x ∷ xs) zero y = refl
take_set_any (suc n) (x ∷ xs) (suc i) y = ap (λ l. x ∷ l) (take_set_any n xs i y)

-- the row at i is given up: the last row takes its place
pub removed : (rs : List SignedAtom) (i : ℕ) (d z : SignedAtom) → Each (rs ++ (z ∷ [])) → i ≤ length rs
    → (listed (set rs i z) ≡ set (listed (rs ++ (z ∷ []))) (get_or (rs ++ (z ∷ [])) i d).atom Open) × Each (set rs i z)
removed rs i d z e h =
    let l = last rs z e in
    let p = push rs z l.0 l.1 in
    let full = listed (rs ++ (z ∷ [])) in
    let i< : i < length (rs ++ (z ∷ [])) = omega (arith, length_push rs z) in
    let x = get_or (rs ++ (z ∷ [])) i d in
    let up = stands_at (rs ++ (z ∷ [])) i d i< e in
    let m : listed (set rs i z) ≡ set full x.atom Open = elim (cases_lt i (length rs)) [
      | inl lt ↦
          let y = get_or rs i d in
          let same : x ≡ y = get_or_append_left rs (z ∷ []) d i lt in
          let ne : z.atom ≢ y.atom = apart (listed rs) z.atom y.atom l.1 (stands_at rs i d lt l.0) in
          replaced rs i d z lt l.0 l.1
          ∙ set_comm (listed rs) y.atom z.atom Open (signed z.sign) (λ q. ne (sym q))
          ∙ sym (ap (λ k. set full k.atom Open) same ∙ ap (λ k. set k y.atom Open) p)
      | inr ge ↦
          let same : x ≡ z = get_or_push rs z d i (omega arith) in
          ap listed (set_past rs i z ge)
          ∙ sym (ap (λ k. set full k.atom Open) same ∙ ap (λ k. set k z.atom Open) p ∙ set-set (listed rs) z.atom (signed z.sign) Open ∙ set_lies (listed rs) z.atom l.1)
    ] in
    let x< : x.atom < length full = up_within full x.atom up in
    (m, omega (arith, ap standing m, standing_set full x.atom Open x<, up, e, length_push rs z, length-set rs i z))

pub all_cleared : (rs : List SignedAtom) → all_open ≡ cleared (listed rs)
unfolding all_open
all_cleared rs = splat_is_map (listed rs) 10240 Open (listed_length rs)

-- the same, over the slots
pub removal : (rows : List SignedAtom) (n len i : ℕ) (d : SignedAtom) → n + 1 ≡ len → len ≤ length rows → i ≤ n → Each (take len rows)
    → (listed (take n (set rows i (get_or rows n d))) ≡ set (listed (take len rows)) (get_or (take len rows) i d).atom Open) × Each (take n (set rows i (get_or rows n d)))
removal rows n len i d el h hi e =
    let z = get_or rows n d in
    let t : take len rows ≡ take n rows ++ (z ∷ []) = ap (λ k. take k rows) (sym el) ∙ take_more rows n d (omega arith) in
    let s : take n (set rows i z) ≡ set (take n rows) i z = take_set_any n rows i z in
    let r = removed (take n rows) i d z (subst Each t e) (omega (arith, length-take-le n rows (omega arith))) in
    (ap listed s ∙ r.0 ∙ ap (λ l. set (listed l) (get_or l i d).atom Open) (sym t), subst Each (sym s) r.1)

-- one row more, over the slots
pub addition : (rows : List SignedAtom) (n : ℕ) (z : SignedAtom) → n < length rows → z.atom < 10240 → Each (take n rows) → stands (get_or (listed (take n rows)) z.atom Open) ≡ 0
    → (listed (take (n + 1) (set rows n z)) ≡ set (listed (take n rows)) z.atom (signed z.sign)) × Each (take (n + 1) (set rows n z))
addition rows n z h hz e o =
    let t : take (n + 1) (set rows n z) ≡ take n rows ++ (z ∷ []) = take_more_set rows n z h in
    (ap listed t ∙ push (take n rows) z e o, subst Each (sym t) (push_each (take n rows) z hz e o))
