-- The part that an engine's node plays is the group's word for it.
use Rattle.std.specs.Prelude.{◌≡◌, ℕ, Bool, nat_eq, Option, Some, None, refl}
use Rattle.std.specs.Option.{is_some}
use Rattle.std.proofs.Common.{ap, ◌∙◌}
use Rattle.raft_membership.specs.Membership.{is_voter}
use Rattle.raft_commands.specs.declared.engine_config.EngineConfig.{EngineConfig}
use Rattle.raft_group_step.specs.Values.{LoggedMembership}
use Rattle.raft_group_step.specs.StoredGroup.{StoredGroup, membership_in_force}
use Rattle.raft_group_step.specs.GroupState.{GroupState, Role, Follower, Candidate, Leader}
use Rattle.raft_group_step.specs.Refusal.{is_voter_in}
use Rattle.raft_known_state.specs.KnownState.{effective_of}
use Rattle.raft_leaders.specs.Candidate.{CandidateValue}
use Rattle.raft_leaders.specs.Leader.{LeaderValue}
use Rattle.raft_engine.specs.ServerStates.{part_by, part_in, server_state_of}
use Rattle.raft_engine.specs.Standing.{EffectiveMembership, Engine, IsStateOf, PlaysRole}

-- the part by what the node knows is the one in its role
part_played : (own : ℕ) (l : Option (LeaderValue ℕ EffectiveMembership)) (c : Option (CandidateValue ℕ EffectiveMembership)) (s : StoredGroup) (role : Role) (voter : Bool)
    → PlaysRole own l c s role → part_by (is_some l) (is_some c) voter ≡ part_in role voter
part_played own None None s Follower voter h = refl
part_played own None (Some c) s Follower voter h = absurd h
part_played own (Some l) c s Follower voter h = absurd h
part_played own None None s (Candidate granters) voter h = absurd h
part_played own None (Some c) s (Candidate granters) voter h = refl
part_played own (Some l) c s (Candidate granters) voter h = absurd h
part_played own None c s (Leader lead) voter h = absurd h
part_played own (Some l) None s (Leader lead) voter h = refl
part_played own (Some l) (Some c) s (Leader lead) voter h = absurd h

-- a voter of the membership in force
voter_known : (m : Option LoggedMembership) (own : ℕ) → is_voter nat_eq (effective_of m).membership.configs own ≡ is_voter_in m own
voter_known None own = refl
voter_known (Some m) own = refl

-- the part of an engine that stands for a state
pub part_known : {C R : Type 0} (own : ℕ) (e : Engine C R) (s : GroupState) → IsStateOf own e s
    → server_state_of e ≡ part_in s.role (is_voter_in (membership_in_force s.stored) own)
part_known own e s h =
    ap (λ (m : EffectiveMembership). part_by (is_some e.leader) (is_some e.candidate) (is_voter nat_eq m.membership.configs e.config.id)) h.knows.in_force
    ∙ ap (λ (k : EngineConfig ℕ). part_by (is_some e.leader) (is_some e.candidate) (is_voter nat_eq (effective_of (membership_in_force s.stored)).membership.configs k.id)) h.config
    ∙ ap (part_by (is_some e.leader) (is_some e.candidate)) (voter_known (membership_in_force s.stored) own)
    ∙ part_played own e.leader e.candidate s.stored s.role (is_voter_in (membership_in_force s.stored) own) h.role
