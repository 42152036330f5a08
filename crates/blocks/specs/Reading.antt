-- What bytes are read as at their places; the bytes of a file are read as what they were written from.
use Rattle.std.specs.Prelude.{ℕ, ◌+◌, ◌-◌, ◌*◌, ◌/◌, ◌%◌, cond, List, map, take, drop, ◌==◌, nat_lt, slice_index}
use Rattle.std.specs.List.{range_with_len}
use Rattle.syntax.specs.declared.types.Term.{Term}
use Rattle.syntax.specs.declared.types.Term.TheVariants.{Name, Var}
use Rattle.syntax.specs.declared.types.Atom.{Atom}
use Rattle.syntax.specs.declared.types.Atom.TheVariants.{Same, Prop, Rel}
use Rattle.syntax.specs.declared.types.Literal.{Literal}

-- n bytes from the place p on
abbrev pub part : ℕ → ℕ → List ℕ → List ℕ
part p n bytes = take n (drop p bytes)

-- the literal of five bytes
abbrev pub term_from : ℕ → Term
term_from b = cond (nat_lt b 32) (Name b) (Var (b - 32))

abbrev pub atom_from : ℕ → ℕ → ℕ → ℕ → Atom
atom_from kind symbol first second =
    cond (kind == 0) (Same (term_from first) (term_from second)) (cond (kind == 1) (Prop symbol (term_from first)) (Rel symbol (term_from first) (term_from second)))

unfoldable pub literal_from : List ℕ → Literal
literal_from bytes =
    record { sign = (slice_index bytes 0 == 1); atom = atom_from (slice_index bytes 1) (slice_index bytes 2) (slice_index bytes 3) (slice_index bytes 4) }

-- the clause of 42 bytes
unfoldable pub clause_in : List ℕ → List Literal
clause_in bytes = map (λ j. literal_from (part (2 + 5 * j) 5 bytes)) (range_with_len 0 (slice_index bytes 0))

-- where clause i begins: after the head, 12 to a block, behind the four bytes of its block
abbrev pub place_of : ℕ → ℕ
place_of i = 512 * (1 + i / 12) + (4 + 42 * (i % 12))

-- the clauses of n places
unfoldable pub clauses_at : ℕ → List ℕ → List (List Literal)
clauses_at n bytes = map (λ i. clause_in (part (place_of i) 42 bytes)) (range_with_len 0 n)
