use Rattle.raft_log_engine.proofs.ways.recover_in_turn.Goals as goal

pub returns : goal.returns
returns g c = record {
  ok = c.recover_queue.ensures.ok;
  replayed = c.recover_queue.ensures.replayed;
  only = c.recover_queue.ensures.only;
  reads = c.recover_queue.ensures.reads;
  err = c.recover_queue.ensures.err;
  refused = c.recover_queue.ensures.refused;
  kept = c.recover_queue.ensures.kept;
  corrupt = c.recover_queue.ensures.corrupt;
  later = c.recover_queue.ensures.later;
  cause = c.recover_queue.ensures.cause;
  taken = c.recover_queue.ensures.taken;
}
