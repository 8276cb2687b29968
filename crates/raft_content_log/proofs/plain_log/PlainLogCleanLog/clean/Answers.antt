-- No group is answered.
use Rattle.std.proofs.Common.{nat_cmp, subst, sym}
use Rattle.std.specs.List.Sorted.{IsStrictlySortedBy}
use Rattle.raft_content_log.proofs.plain_log.PlainLogCleanLog.clean.Goals as goal

pub returns-clause-rising : goal.returns-clause-rising
unfolding IsStrictlySortedBy
returns-clause-rising c = subst (IsStrictlySortedBy nat_cmp) (sym c.new.ensures.items) tt
