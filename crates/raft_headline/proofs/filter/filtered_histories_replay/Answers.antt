use Rattle.raft_headline.proofs.Filtering.{filtered_histories_replay}
use Rattle.raft_headline.proofs.filter.filtered_histories_replay.Goals as goal

pub returns : goal.returns
returns c = filtered_histories_replay
