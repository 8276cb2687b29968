-- The part that a node plays in its group.
use Rattle.std.specs.Prelude.{ℕ, List, Bool, true, false, nat_eq}
use Rattle.std.specs.Option.{is_some}
use Rattle.raft_values.specs.declared.server_state.ServerState.{ServerState}
use Rattle.raft_values.specs.declared.server_state.ServerState.TheVariants.{Learner as Learns, Follower as Follows, Candidate as Stands, Leader as Leads}
use Rattle.raft_membership.specs.Membership.{is_voter}
use Rattle.raft_group_step.specs.GroupState.{Role, Follower, Candidate, Leader}
use Rattle.raft_engine.specs.declared.engine.Engine.{Engine as EngineOf}

abbrev Engine : Type 0 → Type 0 → Type 0
Engine C R = EngineOf C (List ℕ) R ℕ (List ℕ)

-- one that neither leads nor stands
abbrev pub part_without_lead : Bool → ServerState
part_without_lead true = Follows
part_without_lead false = Learns

-- the part in this role, of a node that is a voter or isn't
abbrev pub part_in : Role → Bool → ServerState
part_in Follower voter = part_without_lead voter
part_in (Candidate granters) voter = Stands
part_in (Leader lead) voter = Leads

-- the part of a node that leads or doesn't, that stands or doesn't, and that is a voter or isn't
abbrev pub part_by : Bool → Bool → Bool → ServerState
part_by true standing voter = Leads
part_by false true voter = Stands
part_by false false voter = part_without_lead voter

module _ {C R : Type 0} where
  -- the part of an engine's node
  abbrev pub server_state_of : Engine C R → ServerState
  server_state_of e =
      part_by (is_some e.leader) (is_some e.candidate)
      (is_voter nat_eq e.state.state.membership_state.effective.membership.configs e.config.id)

  -- the engine with this part noted
  abbrev pub with_server_state : ServerState → Engine C R → Engine C R
  with_server_state part e =
      record e { state = record e.state { state = record e.state.state { server_state = part } } }
