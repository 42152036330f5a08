use Rattle.std.proofs.Common.{◌≡◌, ◌%◌, sum, subst, rules}
use Rattle.std.proofs.lemmas.Fn.{fold_over, slice_gives, fronts}
use Rattle.std.proofs.lemmas.List.Sums.{sum_by_push}
use Rattle.blocks.proofs.block.check_sum.Goals as goal

pub returns : goal.returns
returns c = subst (λ l. c.fold.result ≡ sum l % 65536) c.iter.ensures.rest
    (fold_over fronts (λ y. y.now) _ (λ ys n. n ≡ sum ys % 65536) _ (λ ys a x b f' j k. let more = sum_by_push (λ n. n) ys x.now in search rules) _ _ _ _ (slice_gives c.iter.result) (search rules) c.fold.ensures.ran)
