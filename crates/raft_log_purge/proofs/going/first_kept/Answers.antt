-- No later file would do.
use Rattle.raft_log_purge.proofs.GoingLemmas.{is_from_each}
use Rattle.raft_log_purge.proofs.going.first_kept.Goals as goal

pub returns-clause-last : goal.returns-clause-last
returns-clause-last c = λ n may_go within.
    c.at_most.ensures.greatest n (c.at_most-of_groups.ensures.greatest n within (is_from_each n c.min_file_seq.result (c.min_file_seq.ensures.least n may_go.groups))) may_go.barrier
