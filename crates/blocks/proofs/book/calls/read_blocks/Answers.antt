use Rattle.std.proofs.Common.{◌≡◌, ℕ, ◌%◌, Bool, false, eqb, List, [], ◌∷◌, length, sym, refl, ◌∙◌, inl, inr, arith}
use Rattle.std.proofs.lemmas.Bool.{eqb-true, false≢true}
use Rattle.blocks.specs.Layout.{LengthRight, LayoutRight, FirstWrong, block_count}
use Rattle.blocks.proofs.Files.{file_right, made_file, first_layout}
use Rattle.blocks.proofs.book.calls.read_blocks.Goals.{then-is_empty-via-then-is_empty, then-is_empty-via-else-is_empty+then-bytes-ne0}
use Rattle.blocks.proofs.book.calls.read_blocks.Goals as goal

-- what the tests of the length come to
sized : (bytes : List ℕ) (r : Bool) → r ≡ eqb (length bytes) 0 → r ≡ false → length bytes % 512 ≡ 0 → LengthRight bytes
sized [] r e f g = absurd (false≢true (sym f ∙ e))
sized (x ∷ xs) r e f g = (omega arith, g)

pub returns-then-is_empty-clause-read : goal.returns-then-is_empty-clause-read
returns-then-is_empty-clause-read c =
    let bytes = c.args.bytes.now in
    let wrong : LengthRight bytes → ⊥ = λ l. elim c.then-is_empty.branch [
      | then-is_empty-via-then-is_empty w ↦ let e = eqb-true (length bytes) 0 (sym c.is_empty.ensures ∙ w.if-is_empty.true) in omega (arith, l.0)
      | then-is_empty-via-else-is_empty+then-bytes-ne0 w ↦ w.if-bytes-ne0.true l.1
    ] in
    (inl (refl, wrong), λ d cls w. wrong (file_right bytes d cls w).sized)

pub returns-in-Some-clause-read : goal.returns-in-Some-clause-read
returns-in-Some-clause-read c =
    let bytes = c.args.bytes.now in
    let size : LengthRight bytes = sized bytes _ c.is_empty.ensures c.if-is_empty.false c.if-bytes-ne0.false in
    let f = c.in-Some.ensures in
    (inr (inl (c.in-Some.b, refl, size, f)), λ d cls w. f.1 ((file_right bytes d cls w).checks c.in-Some.b f.0))

pub returns-in_default-read_head-clause-read : goal.returns-in_default-read_head-clause-read
returns-in_default-read_head-clause-read c =
    let bytes = c.args.bytes.now in
    let size : LengthRight bytes = sized bytes _ c.is_empty.ensures c.if-is_empty.false c.if-bytes-ne0.false in
    let f = c.in_default-read_head.ensures in
    let first : FirstWrong (LayoutRight bytes) (block_count bytes) 0 = (omega (arith, size.0, size.1), λ l. f l.0 l.1 l.2, λ k h. absurd (omega arith)) in
    (inr (inr (0, refl, size, c.in_default.ensures, first)), λ d cls w. first.1 ((file_right bytes d cls w).layouts 0 first.0))

pub returns-in-Some-wrong_clauses-clause-read : goal.returns-in-Some-wrong_clauses-clause-read
returns-in-Some-wrong_clauses-clause-read c =
    let bytes = c.args.bytes.now in
    let size : LengthRight bytes = sized bytes _ c.is_empty.ensures c.if-is_empty.false c.if-bytes-ne0.false in
    let first = first_layout bytes _ _ c.in-Some-wrong_clauses.b c.in-Some-read_head.ensures c.in-Some-wrong_clauses.ensures in
    (inr (inr (_, refl, size, c.in_default.ensures, first)), λ d cls w. first.1 ((file_right bytes d cls w).layouts _ first.0))

pub invariant_of-result : goal.invariant_of-result
invariant_of-result c =
    let bytes = c.args.bytes.now in
    let size : LengthRight bytes = sized bytes _ c.is_empty.ensures c.if-is_empty.false c.if-bytes-ne0.false in
    record { file = made_file bytes _ _ size c.in-Some-read_head.ensures c.in_default.ensures c.in_default-wrong_clauses.ensures }
