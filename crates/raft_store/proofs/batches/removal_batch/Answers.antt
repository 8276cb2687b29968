use Rattle.std.proofs.Common.{[], ◌+◌, inl, inr, refl, arith}
use Rattle.raft_store.specs.Batches.{end_changes, purge_changes}
use Rattle.raft_store.proofs.batches.removal_batch.Goals as goal

pub returns-in_ok-purge_batch-clause-items : goal.returns-in_ok-purge_batch-clause-items
returns-in_ok-purge_batch-clause-items c = (purge_changes c.args.id [], c.in_ok-purge_batch.ensures.items, inl (omega arith, refl))

pub returns-in_ok-start_batch-clause-items : goal.returns-in_ok-start_batch-clause-items
returns-in_ok-start_batch-clause-items c = (purge_changes c.args.id (end_changes (c.args.id.index + 1)), c.in_ok-start_batch.ensures.items, inr (omega arith, c.in_ok-start_batch.ensures.places, refl))
