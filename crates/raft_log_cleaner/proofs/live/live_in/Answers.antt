-- Entries and keys.
use Rattle.std.proofs.Common.{refl}
use Rattle.raft_log_cleaner.proofs.live.live_in.Goals as goal

pub returns : goal.returns
returns c = record {
  entries = c.rewritten_of-entries.result;
  keys = c.in_ok-keys.keys;
  of_entries = c.rewritten_of-entries.ensures;
  of_keys = c.in_ok-keys.ensures;
  is = refl;
}
