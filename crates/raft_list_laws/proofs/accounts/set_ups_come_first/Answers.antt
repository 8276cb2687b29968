use Rattle.raft_list_laws.proofs.FirstEntries.{set_ups_come_first}
use Rattle.raft_list_laws.proofs.accounts.set_ups_come_first.Goals as goal

pub returns : goal.returns
returns c = set_ups_come_first
