-- What a read of a row has as its default.
use Rattle.std.proofs.Common.{false}
use Rattle.syntax.specs.declared.types.SignedAtom.{SignedAtom}

abbrev pub no_row : SignedAtom
no_row = record { atom = 0; sign = false }
