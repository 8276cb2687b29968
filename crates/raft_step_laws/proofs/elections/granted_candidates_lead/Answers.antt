use Rattle.raft_step_laws.proofs.Electing.{granted_lead, granters_replay}
use Rattle.raft_step_laws.proofs.elections.granted_candidates_lead.Goals as goal

pub returns-clause-leads : goal.returns-clause-leads
returns-clause-leads c = granted_lead

pub returns-clause-granters : goal.returns-clause-granters
returns-clause-granters c = granters_replay
