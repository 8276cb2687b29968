use Rattle.std.specs.Prelude.{◌≡◌, ℕ, Bool, true, false, Some, None, refl}
use Rattle.std.proofs.Common.{ap}
use Rattle.raft_group_step.specs.StoredGroup.{StoredGroup}
use Rattle.raft_group_step.specs.Peer.{Outstanding}
use Rattle.raft_group_step.specs.GroupState.{GroupState, Role, Follower, Candidate, Leader}
use Rattle.raft_group_step.specs.Lead.{peer_of}
use Rattle.raft_group_step.specs.Frames.{lacks_entries}
use Rattle.raft_group_step.specs.StepExample.{leads_three}
use Rattle.raft_step_laws.specs.PeerRows.{last}
use Rattle.raft_history_laws.specs.ServedPeers.{LacksEntries}
use Rattle.raft_history_laws.proofs.serving.peers_that_lack_entries.Goals as goal

pub returns-clause-lags : goal.returns-clause-lags
returns-clause-lags c = record { lead = _; leads = refl; member = refl; lacks = refl }

pub returns-clause-not_known : goal.returns-clause-not_known
returns-clause-not_known c = record { lead = _; leads = refl; member = refl; lacks = refl }

pub returns-clause-learner : goal.returns-clause-learner
returns-clause-learner c = record { lead = _; leads = refl; member = refl; lacks = refl }

-- whether a peer lacks entries, as a node in this role knows
abbrev lacks_in : Role → StoredGroup → ℕ → Bool
lacks_in Follower s n = false
lacks_in (Candidate granters) s n = false
lacks_in (Leader lead) s n = lacks_entries s (peer_of lead n)

false_true : false ≡ true → ⊥
false_true e = cc

-- one of which the node knows that it lacks none
lacks_none : (s : GroupState) (n peer : ℕ) → lacks_in s.role s.stored peer ≡ false → LacksEntries n s peer → ⊥
lacks_none s n peer none h =
    let same : lacks_in s.role s.stored peer ≡ lacks_entries s.stored (peer_of h.lead peer) = ap (λ r. lacks_in r s.stored peer) h.leads in
    let lacks : lacks_entries s.stored (peer_of h.lead peer) ≡ true = h.lacks in
    false_true (cc)

pub returns-clause-has_all : goal.returns-clause-has_all
returns-clause-has_all c = λ h. lacks_none (leads_three last) 2 1 refl h

pub returns-clause-itself : goal.returns-clause-itself
returns-clause-itself c = λ h. false_true h.member

pub returns-clause-stranger : goal.returns-clause-stranger
returns-clause-stranger c = λ h. false_true h.member

pub returns-clause-follower : goal.returns-clause-follower
returns-clause-follower c = λ h. let f : Follower ≡ Leader h.lead = h.leads in cc

no_request : (o : Outstanding) → None ≡ Some o → ⊥
no_request o e = cc

pub returns-clause-silent : goal.returns-clause-silent
returns-clause-silent c = λ h.
    let x = h 1 (record { lead = _; leads = refl; member = refl; lacks = refl }) in no_request x.0 x.1
