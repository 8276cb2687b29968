use Rattle.raft_headline.proofs.TheHeadline.{headline_of_histories}
use Rattle.raft_headline.proofs.headline.histories_keep_the_headline.Goals as goal

pub returns : goal.returns
returns c = headline_of_histories
