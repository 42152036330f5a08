use Rattle.std.proofs.Common.{rules}
use Rattle.tableau.proofs.Judging.{ready_first, searched_some, searched_none}
use Rattle.tableau.proofs.search.search.Goals as goal

pub decide-requires : goal.decide-requires
decide-requires g c =
    let q = c.requires in
    ready_first g.B.Book g.T.BranchTable _ q.clear q.reach q.room q.trail.0 q.choices.0 q.trail.1 q.choices.1 q.fits

pub returns-then-decide : goal.returns-then-decide
returns-then-decide g c =
    let d = c.if-decide.ensures in
    let a = searched_some g.B.Book g.T.BranchTable _ _ _ (search rules) d.decided in
    record { searched = a.searched; room = a.room; loan = a.loan }

pub returns-else-decide : goal.returns-else-decide
returns-else-decide g c =
    let d = c.if-decide.ensures in
    let a = searched_none g.B.Book g.T.BranchTable _ _ _ (search rules) d.decided in
    record { searched = a.searched; room = a.room; loan = a.loan }
