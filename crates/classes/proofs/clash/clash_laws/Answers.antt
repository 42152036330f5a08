use Rattle.classes.proofs.Clashing.{clash_by, clash_at, clash_told, classes_told, classes_same}
use Rattle.classes.proofs.clash.clash_laws.Goals as goal

pub returns : goal.returns
returns c = record { by = clash_by; at = clash_at; told = clash_told; classes = classes_told; same = classes_same }
