use Rattle.semantics.proofs.Reading as lemmas
use Rattle.semantics.proofs.interpretation_bytes.Goals as goal

pub returns : goal.returns
returns c = record { some = lemmas.some_bytes; one = lemmas.one_bytes; same = lemmas.same_bytes; which = lemmas.which_bytes }
