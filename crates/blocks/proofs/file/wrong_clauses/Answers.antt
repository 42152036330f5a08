use Rattle.std.proofs.Common.{◌≡◌, ℕ, suc, ◌+◌, ◌-◌, ◌*◌, min, Bool, not, List, take, drop, Decides, ap, ◌∙◌, subst, arith, rules}
use Rattle.syntax.specs.declared.counts.Counts.{Counts}
use Rattle.blocks.specs.Reading.{part}
use Rattle.blocks.specs.Format.{blocks_for}
use Rattle.blocks.specs.Parts.{Searched}
use Rattle.blocks.specs.Layout.{Clauses, block_at, due}
use Rattle.blocks.proofs.Chunks.{denied, find_tells}
use Rattle.blocks.proofs.Pieces.{cut}
use Rattle.blocks.proofs.file.wrong_clauses.Goals as goal

-- the block that the code cuts out, and how many clauses are due there
there : (c : Counts) (bytes : List ℕ) (n b a m : ℕ) (r z : Bool) → a ≡ b → m ≡ min (n - 12 * a) 12 → r ≡ not z → Decides z (Clauses c m (take (512 * a + 512 + 512 - (512 * a + 512)) (drop (512 * a + 512) bytes))) → Decides (not r) (Clauses c (due n b) (block_at bytes (suc b)))
there c bytes n b a m r z same e f d =
    let next : 512 * a + 512 ≡ 512 * suc b = omega arith in
    let block : take (512 * a + 512 + 512 - (512 * a + 512)) (drop (512 * a + 512) bytes) ≡ block_at bytes (suc b) = cut (512 * a + 512) 512 bytes ∙ ap (λ (k : ℕ). part k 512 bytes) next in
    let few : m ≡ due n b = omega arith in
    denied _ r z f (subst (λ k. Decides z (Clauses c k (block_at bytes (suc b)))) few (subst (λ xs. Decides z (Clauses c m xs)) block d))

pub returns : goal.returns
returns c =
    let n = c.args.n in
    let bytes = c.args.bytes.now in
    let Q : ℕ → Type 0 = λ b. Clauses c.args.counts (due n b) (block_at bytes (suc b)) in
    let tells = there c.args.counts bytes n in
    let count : c.div_ceil.result ≡ blocks_for n = omega (arith, c.div_ceil.ensures) in
    subst (λ m. Searched Q m c.find.result) count (find_tells _ _ _ c.find.result Q c.find.ensures.ran (search rules) (λ x b q k. (search rules, search (rules, tells))))
