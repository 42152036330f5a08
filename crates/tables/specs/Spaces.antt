-- What is said of the space that a call is lent.
use Rattle.std.specs.Prelude.{◌≡◌}
use Rattle.tables.specs.declared.space.Space.{Space}

-- the table and the memory are those that were lent: by these names the lender knows them again
pub record SameMemory {T : Type 0} (before after : Space T) : Type 0 where
  pub table : after.table.ghost_name ≡ before.table.ghost_name
  pub trail : after.trail.ghost_name ≡ before.trail.ghost_name
  pub choices : after.choices.ghost_name ≡ before.choices.ghost_name
