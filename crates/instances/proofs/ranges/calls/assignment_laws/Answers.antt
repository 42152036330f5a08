use Rattle.instances.proofs.Ranging.{each_assigns, each_reached, each_later}
use Rattle.instances.proofs.ranges.calls.assignment_laws.Goals as goal

pub returns : goal.returns
returns c = record { assigns = each_assigns; reached = each_reached; later = each_later }
