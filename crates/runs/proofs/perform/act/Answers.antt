use Rattle.runs.specs.Runs.{did_enter, did_strike, did_judge, did_same, did_hold, did_first, did_second}
use Rattle.runs.proofs.perform.act.Goals as goal

pub returns-in-Enter-clause-called : goal.returns-in-Enter-clause-called
returns-in-Enter-clause-called g c = rw c.in-Enter.is (did_enter _ _ c.enter.ensures.done)

pub returns-in-Strike-clause-called : goal.returns-in-Strike-clause-called
returns-in-Strike-clause-called g c = rw c.in-Strike.is (did_strike _ _ c.strike.ensures.done)

pub returns-in-Judge-clause-called : goal.returns-in-Judge-clause-called
returns-in-Judge-clause-called g c = rw c.in-Judge.is (did_judge _ c.judge.ensures.judged)

pub returns-in-Same-clause-called : goal.returns-in-Same-clause-called
returns-in-Same-clause-called g c = rw c.in-Same.is (did_same _ _ _ (c.same.ensures.asked _))

pub returns-in-Holds-clause-called : goal.returns-in-Holds-clause-called
returns-in-Holds-clause-called g c = rw c.in-Holds.is (did_hold _ _ (c.holds.ensures.asked _))

pub returns-in-CompareFirst-clause-called : goal.returns-in-CompareFirst-clause-called
returns-in-CompareFirst-clause-called g c = rw c.in-CompareFirst.is (did_first _ _ _ c.compare.ensures.compared)

pub returns-in-CompareSecond-clause-called : goal.returns-in-CompareSecond-clause-called
returns-in-CompareSecond-clause-called g c = rw c.in-CompareSecond.is (did_second _ _ _ c.compare-in-CompareSecond.ensures.compared)
