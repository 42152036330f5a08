-- What the bytes of a head say.
use Rattle.std.proofs.Common.{◌≡◌, ℕ, ◌+◌, ◌-◌, ◌*◌, ◌/◌, ◌%◌, ◌<◌, ◌≤◌, List, [], ◌∷◌, length, get_or, take, drop, replicate, ◌≢◌, sym, refl, ap, ◌∙◌, subst, arith}
use native.Mathlib.Bridge.{le_prop}
use Rattle.std.proofs.lemmas.List.{length-drop}
use Rattle.syntax.specs.declared.counts.Counts.{Counts}
use Rattle.syntax.specs.Limits.{Are}
use Rattle.blocks.specs.Format.{padded, head_contents, front, head_front}
use Rattle.blocks.specs.Layout.{HeadIs, block_at}
use Rattle.blocks.specs.Parts.{HeadBody}
use Rattle.blocks.proofs.Written.{padded_from, padded_drop}

-- a list of five or more
five : (b : List ℕ) → 5 ≤ length b → take 5 b ≡ get_or b 0 0 ∷ get_or b 1 0 ∷ get_or b 2 0 ∷ get_or b 3 0 ∷ get_or b 4 0 ∷ []
five [] h = absurd (omega arith)
five (p ∷ []) h = absurd (omega arith)
five (p ∷ q ∷ []) h = absurd (omega arith)
five (p ∷ q ∷ r ∷ []) h = absurd (omega arith)
five (p ∷ q ∷ r ∷ s ∷ []) h = absurd (omega arith)
five (p ∷ q ∷ r ∷ s ∷ t ∷ b) h = refl

-- the contents by their places
pub record Parts (b : List ℕ) (c : Counts) (n : ℕ) : Type 0 where
  pub names : get_or b 0 0 ≡ c.names
  pub properties : get_or b 1 0 ≡ c.properties
  pub relations : get_or b 2 0 ≡ c.relations
  pub low : get_or b 3 0 ≡ n % 256
  pub high : get_or b 4 0 ≡ n / 256
  pub rest : drop 5 b ≡ replicate (506 - 5) 0

pub body_parts : (b : List ℕ) (c : Counts) (n : ℕ) → b ≡ padded 506 (head_contents c n) → Parts b c n
unfolding padded
body_parts b c n e = record {
  names = ap (λ xs. get_or xs 0 0) e;
  properties = ap (λ xs. get_or xs 1 0) e;
  relations = ap (λ xs. get_or xs 2 0) e;
  low = ap (λ xs. get_or xs 3 0) e;
  high = ap (λ xs. get_or xs 4 0) e;
  rest = ap (drop 5) e ∙ padded_drop 506 5 (head_contents c n) refl;
}

pub body_rest : (b rest : List ℕ) (c : Counts) (n : ℕ) → length b ≡ 506 → rest ≡ drop 5 b → HeadBody b c n → rest ≡ replicate (length rest) 0
body_rest b rest c n h e w =
    let long : length rest ≡ 506 - 5 = ap length e ∙ length-drop 5 b ∙ omega arith in
    e ∙ (body_parts b c n w.1).rest ∙ ap (λ k. replicate k 0) (sym long)

pub body_made : (b rest : List ℕ) (c : Counts) (n : ℕ) → length b ≡ 506 → rest ≡ drop 5 b → Are (get_or b 0 0) (get_or b 1 0) (get_or b 2 0) c → n ≡ get_or b 3 0 + 256 * get_or b 4 0 → get_or b 3 0 < 256 → n ≤ 256 → rest ≡ replicate (length rest) 0 → HeadBody b c n
body_made b rest c n h e a k low few z =
    let long : length rest ≡ 506 - 5 = ap length e ∙ length-drop 5 b ∙ omega arith in
    let lows : get_or b 3 0 ≡ n % 256 = omega arith in
    let highs : get_or b 4 0 ≡ n / 256 = omega arith in
    let na = a.0 in
    let pa = a.1 in
    let ra = a.2 in
    let front : take 5 b ≡ head_contents c n = five b (omega arith) ∙ cc in
    (few, padded_from 506 5 (head_contents c n) b refl front (sym e ∙ z ∙ ap (λ j. replicate j 0) long))

-- block 0 as a whole, whose contents are body
pub head_none : (block : List ℕ) (c : Counts) (n : ℕ) → ((body : List ℕ) → take 510 block ≢ 75 ∷ (66 ∷ (0 ∷ (0 ∷ body)))) → take 510 block ≡ head_front c n → ⊥
unfolding head_front front
head_none block c n wrong s = wrong (padded 506 (head_contents c n)) s

pub head_body : (block body : List ℕ) (c : Counts) (n : ℕ) → take 510 block ≡ 75 ∷ (66 ∷ (0 ∷ (0 ∷ body))) → take 510 block ≡ head_front c n → body ≡ padded 506 (head_contents c n)
unfolding head_front front
head_body block body c n e s = ap (drop 4) (sym e ∙ s)

pub head_made : (block body : List ℕ) (c : Counts) (n : ℕ) → take 510 block ≡ 75 ∷ (66 ∷ (0 ∷ (0 ∷ body))) → body ≡ padded 506 (head_contents c n) → take 510 block ≡ head_front c n
unfolding head_front front
head_made block body c n e s = e ∙ ap (λ xs. 75 ∷ (66 ∷ (0 ∷ (0 ∷ xs)))) s

-- the contents settle the counts and the number
abbrev counted : (n p r : ℕ) → 1 ≤ n → n ≤ 32 → p ≤ 32 → r ≤ 8 → Counts
counted n p r s f q u = record { names = n; properties = p; relations = r; some = s; few = f; props = q; rels = u }

counted_same : (n p r : ℕ) (s s' : 1 ≤ n) (f f' : n ≤ 32) (q q' : p ≤ 32) (u u' : r ≤ 8) → counted n p r s f q u ≡ counted n p r s' f' q' u'
counted_same n p r s s' f f' q q' u u' = λ i. counted n p r (le_prop s s' i) (le_prop f f' i) (le_prop q q' i) (le_prop u u' i)

pub counts_same : (c d : Counts) → c.names ≡ d.names → c.properties ≡ d.properties → c.relations ≡ d.relations → c ≡ d
counts_same c d e f g =
    let N : ℕ → Type 0 = λ n. (s : 1 ≤ n) (t : n ≤ 32) → c ≡ counted n c.properties c.relations s t c.props c.rels in
    let P : ℕ → Type 0 = λ p. (q : p ≤ 32) → c ≡ counted d.names p c.relations d.some d.few q c.rels in
    let R : ℕ → Type 0 = λ r. (u : r ≤ 8) → c ≡ counted d.names d.properties r d.some d.few d.props u in
    let first : N d.names = subst N e (λ s t. counted_same c.names c.properties c.relations c.some s c.few t c.props c.props c.rels c.rels) in
    let second : P d.properties = subst P f (λ q. first d.some d.few ∙ counted_same d.names c.properties c.relations d.some d.some d.few d.few c.props q c.rels c.rels) in
    let third : R d.relations = subst R g (λ u. second d.props ∙ counted_same d.names d.properties c.relations d.some d.some d.few d.few d.props d.props c.rels u) in
    third d.rels

pub number_same : (b : List ℕ) (c d : Counts) (n m : ℕ) → b ≡ padded 506 (head_contents c n) → b ≡ padded 506 (head_contents d m) → n ≡ m
number_same b c d n m e f =
    let p = body_parts b c n e in
    let q = body_parts b d m f in
    omega (arith, p.low, p.high, q.low, q.high)

pub head_same : (bytes : List ℕ) (c d : Counts) (n m : ℕ) → HeadIs bytes c n → HeadIs bytes d m → (c ≡ d) × (n ≡ m)
unfolding head_front front
head_same bytes c d n m h k =
    let e = ap (drop 4) h.says in
    let f = ap (drop 4) k.says in
    let b = drop 4 (take 510 (block_at bytes 0)) in
    let p = body_parts b c n e in
    let q = body_parts b d m f in
    (counts_same c d (sym p.names ∙ q.names) (sym p.properties ∙ q.properties) (sym p.relations ∙ q.relations), number_same b c d n m e f)
