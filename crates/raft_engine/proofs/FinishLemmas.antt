-- What a leader does at the end of an event keeps the room that it has for it.
use Rattle.std.specs.Prelude.{◌≡◌, ℕ, ◌<◌, ◌^◌, true, false, if◌then◌else◌, Option, Some, None, refl}
use Rattle.std.proofs.Common.{ap, sym, ◌∙◌, subst, arith}
use Rattle.raft_values.specs.LogId.{next_place}
use Rattle.raft_known_state.specs.KnownState.{IsPlaced}
use Rattle.raft_leaders.specs.Candidate.{CandidateValue}
use Rattle.raft_group_step.specs.StoredGroup.{StoredGroup, end_place}
use Rattle.raft_group_step.specs.GroupState.{GroupState, Lead, Role, Follower, Candidate, Leader}
use Rattle.raft_group_step.specs.StepResult.{StepResult}
use Rattle.raft_group_step.specs.Peer.{is_kept_for_peers}
use Rattle.raft_group_step.specs.Lead.{commit_as_leader, other_ids, purge_as_wished, purge_up_to, with_wish}
use Rattle.raft_group_step.specs.Frames.{has_grown, with_frames}
use Rattle.raft_group_step.specs.GroupStep.{finished}
use Rattle.raft_engine.specs.Sending.{HasRoomFor, NumbersLeft}
use Rattle.raft_engine.specs.Standing.{EffectiveMembership, PlaysRole}
use Rattle.raft_engine.specs.Events.{HasLeadRoom}
use Rattle.raft_engine.proofs.PurgeLemmas.{KeepsStanding, all_stays, purge_keeps}
use Rattle.raft_engine.proofs.ReplicationLemmas.{all_unserved, by_no_lead}
use Rattle.raft_engine.proofs.SendingLemmas.{end-last}

-- who doesn't lead has nothing to finish
pub finished_unled : (own : ℕ) (before : Option ℕ) (c : Option (CandidateValue ℕ EffectiveMembership)) (s : StoredGroup) (r : StepResult) → PlaysRole own None c s r.state.role
    → finished own before r ≡ r
finished_unled own before c s r h =
    let commits : commit_as_leader own r.state.role r ≡ r = by_no_lead (λ role. commit_as_leader own role r ≡ r) refl (λ granters. refl) own c s r.state.role h in
    let purges : purge_as_wished r.state.role r.state.wish r ≡ r =
    by_no_lead (λ role. purge_as_wished role r.state.wish r ≡ r) refl (λ granters. refl) own c s r.state.role h in
    ap (λ (y : StepResult). with_frames own before (purge_as_wished y.state.role y.state.wish y)) commits ∙ ap (with_frames own before) purges
    ∙ all_unserved own (has_grown before r.state.committed) (other_ids own r.state.stored) c s r h

-- ---- committing leaves what is stored, the role and the wish

pub commit_keeps_wish : (own : ℕ) (role : Role) (r : StepResult) → (commit_as_leader own role r).state.wish ≡ r.state.wish
commit_keeps_wish own Follower r = refl
commit_keeps_wish own (Candidate granters) r = refl
commit_keeps_wish own (Leader lead) r = refl

-- ---- purging leaves the role and the end of the log

pub wished_keeps : (role : Role) (wish : Option ℕ) (r : StepResult) → IsPlaced r.state.stored
    → KeepsStanding r.state.stored (purge_as_wished role wish r).state.stored
wished_keeps Follower wish r p = all_stays r.state.stored
wished_keeps (Candidate granters) wish r p = all_stays r.state.stored
wished_keeps (Leader lead) None r p = all_stays r.state.stored
wished_keeps (Leader lead) (Some place) r p =
    elim (is_kept_for_peers place lead.peers) as (λ b. KeepsStanding r.state.stored (if b then r else purge_up_to place (with_wish None r)).state.stored) [
      | true ↦ all_stays r.state.stored
      | false ↦ purge_keeps place (with_wish None r) p
    ]

-- ---- room for what is sent

-- a leader that had room has room for a request to each other member
pub room_for_frames : (own : ℕ) (lead : Lead) (s s' : GroupState) → HasLeadRoom own s lead → IsPlaced s.stored → IsPlaced s'.stored → KeepsStanding s.stored s'.stored
    → s'.role ≡ Leader lead → HasRoomFor (2 ^ 63) s'
room_for_frames own lead s s' room p p' keeps role =
    let ends : end_place s'.stored ≡ end_place s.stored = sym (end-last s'.stored p') ∙ ap next_place keeps.last ∙ end-last s.stored p in
    let places = room.places in
    record {
      places = let fits : end_place s.stored < 2 ^ 64 = omega arith in subst (λ n. n < 2 ^ 64) (sym ends) fits;
      numbers = subst (NumbersLeft (2 ^ 63)) (sym role) (λ n. let low = room.numbers n in omega arith);
    }
