use Rattle.raft_laws.proofs.WorldTold as laws
use Rattle.raft_laws.proofs.origins.told_tokens_stand.Goals as goal

pub returns : goal.returns
returns c = laws.told_tokens_stand
