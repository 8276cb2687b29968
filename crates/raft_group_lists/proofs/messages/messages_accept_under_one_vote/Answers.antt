use Rattle.raft_group_lists.proofs.MessageLemmas.{messages_accept}
use Rattle.raft_group_lists.proofs.messages.messages_accept_under_one_vote.Goals as goal

pub returns : goal.returns
returns c = messages_accept
