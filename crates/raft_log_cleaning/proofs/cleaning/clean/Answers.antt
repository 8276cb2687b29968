-- No group is told where all is cleaned, or the rewrite queue is written anew, and no append file goes then.
use Rattle.std.proofs.Common.{◌≡◌, ap, subst, sym, ◌∙◌}
use Rattle.std.specs.List.Sorted.{IsStrictlySortedBy}
use Rattle.std.specs.Ordering.{nat_cmp}
use Rattle.std.proofs.lemmas.Bool.{false≢true}
use Rattle.raft_log_cleaning.specs.declared.due.Due.{Due}
use Rattle.raft_log_cleaning.proofs.cleaning.clean.Goals as goal

pub returns-in-Ok-clause-rising : goal.returns-in-Ok-clause-rising
unfolding IsStrictlySortedBy
returns-in-Ok-clause-rising g c = subst (IsStrictlySortedBy nat_cmp) (sym c.new.ensures.items) tt

pub returns-in-Ok-write_anew-clause-rising : goal.returns-in-Ok-write_anew-clause-rising
unfolding IsStrictlySortedBy
returns-in-Ok-write_anew-clause-rising g c = subst (IsStrictlySortedBy nat_cmp) (sym c.new-in-Ok-write_anew.ensures.items) tt

pub returns-in-Ok-write_anew-clause-barrier : goal.returns-in-Ok-write_anew-clause-barrier
returns-in-Ok-write_anew-clause-barrier g c = c.in-Ok-write_anew.ensures.barrier c.args.barrier

pub returns-in-Ok-purge_expired-clause-both_queues : goal.returns-in-Ok-purge_expired-clause-both_queues
returns-in-Ok-purge_expired-clause-both_queues g c = λ due is rewrites.
    let same : c.in-Expired.due ≡ due = cc in
    c.in-Ok-purge_expired.ensures.anew (ap (λ (d : Due). d.rewrites) same ∙ rewrites)

pub returns-in-Ok-purge_stale-clause-rising : goal.returns-in-Ok-purge_stale-clause-rising
unfolding IsStrictlySortedBy
returns-in-Ok-purge_stale-clause-rising g c = subst (IsStrictlySortedBy nat_cmp) (sym c.new-in-Ok-purge_stale.ensures.items) tt

-- ---- files of the rewrite queue

pub returns-in-Ok-clause-replaced : goal.returns-in-Ok-clause-replaced
returns-in-Ok-clause-replaced g c = rw c.in-All.is (λ anew. absurd (false≢true anew))

pub returns-in-Ok-purge_expired-clause-held : goal.returns-in-Ok-purge_expired-clause-held
returns-in-Ok-purge_expired-clause-held g c = rw c.in-Expired.is c.in-Ok-purge_expired.ensures.held

pub returns-in-Ok-purge_expired-clause-replaced : goal.returns-in-Ok-purge_expired-clause-replaced
returns-in-Ok-purge_expired-clause-replaced g c = rw c.in-Expired.is c.in-Ok-purge_expired.ensures.replaced

pub returns-in-Ok-write_anew-clause-held : goal.returns-in-Ok-write_anew-clause-held
returns-in-Ok-write_anew-clause-held g c = rw c.in-Rewrites.is (λ kept. absurd (false≢true (sym kept)))

pub returns-in-Ok-write_anew-clause-replaced : goal.returns-in-Ok-write_anew-clause-replaced
returns-in-Ok-write_anew-clause-replaced g c = λ anew. c.in-Ok-write_anew.ensures.anew.rewrite

pub returns-in-Ok-purge_stale-clause-held : goal.returns-in-Ok-purge_stale-clause-held
returns-in-Ok-purge_stale-clause-held g c = rw c.in-Stale.is (λ kept. absurd (false≢true (sym kept)))
