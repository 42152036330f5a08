-- The working book's places against the list that it stands for.
use Rattle.std.proofs.Common.{◌≡◌, ℕ, ◌<◌, ◌≤◌, List, [], length, get_or, take, Some, sym, ap, ◌∙◌, subst, arith, length-take}
use Rattle.std.proofs.lemmas.List.{length-map, take-take, take-map, get_or-map}
use Rattle.std.specs.List.{AllByRecursion}
use Rattle.std.proofs.ByRecursion.{All-take}
use Rattle.arrayvec.specs.ArrayVec.{ArrayVec}
use Rattle.syntax.specs.declared.types.Literal.{Literal}
use Rattle.syntax.specs.declared.counts.Counts.{Counts}
use Rattle.syntax.specs.Lawful.{Lawful}
use Rattle.books.specs.declared.working.WorkingBook.{WorkingBook}
use Rattle.books.specs.Lists.{size_at_index}
use Rattle.books.specs.Stored.{stored, LawfulStored}
use Rattle.books.specs.Working.{standing_of}
use Rattle.books.proofs.Readings.{size_from}

-- how many clauses stand
pub len_is : (b : WorkingBook) → length (standing_of b) ≡ b.len
len_is b = simp (length-map, length-take) (omega arith)

-- fewer clauses, which stay lawful
pub stored_fewer : (xs : List (ArrayVec Literal)) (k n : ℕ) → k ≤ n → stored (take k xs) ≡ take k (stored (take n xs))
stored_fewer xs k n h = sym (take-map (λ z. z.items) k (take n xs) ∙ ap stored (take-take k n xs h))

pub lawful_fewer : (c : Counts) (xs : List (ArrayVec Literal)) (k n : ℕ) → k ≤ n → LawfulStored c (take n xs) → LawfulStored c (take k xs)
lawful_fewer c xs k n h f =
    let P : List (List Literal) → Type 0 = λ cs. AllByRecursion (Lawful c) cs in
    subst P (sym (stored_fewer xs k n h)) (All-take (Lawful c) k (stored (take n xs)) f)

-- how many literals a clause has
pub size_stored : (xs : List (ArrayVec Literal)) (i n : ℕ) (x : ArrayVec Literal) → i < length xs → x ≡ get_or xs i x → n ≡ length x.items → Some n ≡ size_at_index (stored xs) i
size_stored xs i n x h e f =
    size_from (stored xs) i (Some n) (simp length-map h, f ∙ ap (λ z. length z.items) e ∙ sym (ap length (get_or-map (λ z. z.items) xs i x [] h)))
