use Rattle.raft_log_covers.proofs.PlacedLemmas.{places_tell_files, traces_tell_keys}
use Rattle.raft_log_covers.proofs.kept.replays_tell_files.Goals as goal

pub returns-clause-entries : goal.returns-clause-entries
returns-clause-entries c = places_tell_files

pub returns-clause-keys : goal.returns-clause-keys
returns-clause-keys c = traces_tell_keys
