-- What is said of the memory behind a table.
use Rattle.std.specs.Prelude.{ℕ, List}

-- the memory lent to a table: its ghost name, by which the lender knows it again, and the part that the table never touches
pub record Loan : Type 0 where
  pub name : ℕ
  pub spare : List ℕ
