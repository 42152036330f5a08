use Rattle.std.proofs.Common.{◌≡◌, ℕ, ◌+◌, ◌*◌, ◌≤◌, sym, subst}
use Rattle.syntax.specs.Numbers.{atoms}
use Rattle.syntax.proofs.Laws.{few}
use Rattle.syntax.proofs.numbers.atom_count.Goals as goal

pub returns : goal.returns
unfolding atoms
returns c =
    let n = c.names-n.result in
    let count : n * n + c.properties.result * n + c.relations.result * n * n ≡ atoms c.args.counts = cc in
    let P : ℕ → Type 0 = λ k. k ≤ 10240 in
    record { count = count; few = subst P (sym count) (few c.args.counts) }
