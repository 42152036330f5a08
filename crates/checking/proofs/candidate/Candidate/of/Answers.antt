use Rattle.std.proofs.Common.{◌≡◌, Bool, true, false, length, Option, refl, sym, subst, arith}
use Rattle.std.proofs.lemmas.Bool.{false≢true}
use Rattle.std.specs.Bool.{then_some, Decides}
use Rattle.syntax.specs.Numbers.{atoms}
use Rattle.checking.specs.declared.candidate.Candidate.{Candidate}
use Rattle.checking.specs.Alike.{Tested, Accepted}
use Rattle.checking.proofs.Congruence.{interpreted, tested}
use Rattle.checking.proofs.candidate.Candidate.of.Goals as goal

-- what a test of the bytes lets through
taken : (m : Candidate) (b : Bool) (r : Option Candidate) → length m.bytes.now ≡ atoms m.counts → Decides b (Tested m.counts m.bytes.now) → r ≡ then_some b m → Accepted m.counts m.bytes.now r
taken m true r long d e = subst (Accepted m.counts m.bytes.now) (sym e) (let t = interpreted m.counts m.bytes.now long (d.0 refl) in (refl, refl, t.0, t.1))
taken m false r long d e = subst (Accepted m.counts m.bytes.now) (sym e) (λ I b. false≢true (d.1 (tested m.counts m.bytes.now (I, b))))

pub returns : goal.returns
returns c = taken _ _ _ (omega arith) c.is_congruent.ensures c.then_some.ensures
