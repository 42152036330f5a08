-- What stands at the places of a file.
use Rattle.std.proofs.Common.{◌≡◌, ℕ, ◌+◌, ◌*◌, ◌<◌, List, [], length, get_or, Some, None, Option, sym, ap, ◌∙◌}
use Rattle.std.proofs.lemmas.Option.{slice_get-get_or}
use Rattle.std.proofs.ByRecursion.{All-get_or}
use Rattle.syntax.specs.declared.types.Literal.{Literal}
use Rattle.syntax.specs.declared.counts.Counts.{Counts}
use Rattle.syntax.specs.Lawful.{Lawful, LawfulLiteral}
use Rattle.syntax.specs.Codes.{literal_code, Decoded}
use Rattle.blocks.specs.Format.{clause_bytes, blocks_for}
use Rattle.blocks.specs.Reading.{part, literal_from, place_of}
use Rattle.books.specs.Lists.{literal_at}
use Rattle.blocks.specs.Parts.{ClauseAt}
use Rattle.blocks.specs.Layout.{IsFile}
use Rattle.blocks.proofs.Written.{clause_length, literal_place, file_length}
use Rattle.blocks.proofs.Leaves.{blank}
use Rattle.blocks.proofs.Files.{from_code, file_place}

module _ (bytes : List ℕ) (c : Counts) (cls : List (List Literal)) (w : IsFile bytes c cls) where
  pub size_held : length bytes ≡ 512 * (1 + blocks_for (length cls))
  size_held = ap length w.written ∙ file_length c cls w.lawful

  pub clause_held : (i : ℕ) (clause : List ℕ) → i < length cls → clause ≡ part (place_of i) 42 bytes → ClauseAt c cls i clause
  unfolding clause_bytes
  clause_held i clause h e =
      let law = All-get_or (Lawful c) cls i [] h w.lawful in
      let is = e ∙ ap (part (place_of i) 42) w.written ∙ file_place c cls i w.lawful h in
      record {
        there = h;
        lawful = law;
        is = is;
        first = ap (λ xs. get_or xs 0 0) is;
        long = ap length is ∙ clause_length (get_or cls i []) law.few;
      }

-- what the bytes of a lawful literal decode to
decoded : (c : Counts) (l : Literal) (bytes : List ℕ) (r : Option Literal) → LawfulLiteral c l → bytes ≡ literal_code l → Decoded c bytes r → r ≡ Some l
decoded c l bytes (Some k) h e d =
    ap Some (sym (from_code c k d.0) ∙ ap literal_from (d.1 ∙ e) ∙ from_code c l h)
decoded c l bytes None h e d = absurd (d l h (sym e))

-- what five bytes of a clause decode to
pub literal_held : (c : Counts) (cls : List (List Literal)) (i j : ℕ) (clause : List ℕ) (r : Option Literal) → ClauseAt c cls i clause → j < length (get_or cls i []) → Decoded c (part (2 + 5 * j) 5 clause) r → r ≡ literal_at cls i j
literal_held c cls i j clause r b h d =
    let cl = get_or cls i [] in
    let l = get_or cl j blank in
    let e = ap (part (2 + 5 * j) 5) b.is ∙ literal_place cl j blank h in
    let law = All-get_or (LawfulLiteral c) cl j blank h b.lawful.each in
    decoded c l _ r law e d ∙ sym (slice_get-get_or cl j blank h)
