-- Calls that a leader alone takes.
use Rattle.std.specs.Prelude.{◌≡◌, ℕ, true, not, Option, Some, None, is_some, refl}
use Rattle.std.proofs.Common.{subst}
use Rattle.raft_group_step.specs.GroupState.{GroupState, Lead, Leader}
use Rattle.raft_engine.specs.Standing.{Engine, IsStateOf, PlaysRole}
use Rattle.raft_engine.proofs.ReplicationLemmas.{leads-not}

-- an engine that stands for a leader's state has what a leader knows
pub must_lead : {C R G : Type 0} (own : ℕ) (e : Engine C R) (s : GroupState) (lead : Lead) → IsStateOf own e s → s.role ≡ Leader lead → e.leader ≡ None → G
must_lead own e s lead stands leads none =
    leads-not own e.candidate s.stored s.role lead leads (subst (λ l. PlaysRole own l e.candidate s.stored s.role) none stands.role)

-- where somebody else is to be asked the node doesn't lead
pub unled : {L : Type 0} (l : Option L) → true ≡ not (is_some l) → l ≡ None
unled None h = refl
unled (Some l) h = cc h
