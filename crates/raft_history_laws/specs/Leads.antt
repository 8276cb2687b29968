-- The events of each node's present lead: what came to it, and what it sent.
use Rattle.std.specs.Prelude.{ℕ, if◌then◌else◌, List, [], ◌∷◌, ◌++◌, is_some}
use Rattle.raft_group_step.specs.Message.{Message}
use Rattle.raft_group_step.specs.GroupState.{GroupState, is_leader, state_of}
use Rattle.raft_group_step.specs.GroupEvent.{GroupEvent, Open}
use Rattle.raft_laws.specs.BallotLists.{with_value}
use Rattle.raft_laws.specs.GroupWorld.{GroupWorld, NodeState, Up, Down, Outcome, Done, Refused, Stopped, Skipped}
use Rattle.raft_laws.specs.NodeEvent.{NodeEvent, Comes, Restarts}
use Rattle.raft_laws.specs.GroupRun.{Scene, Nowhere, At, outcome_of, ran, scene_of}
use Rattle.raft_laws.specs.Origins.{Events}
use Rattle.raft_step_laws.specs.PeerStates.{keeps_its_lead}

pub record LeadEvent : Type 0 where
  pub event : GroupEvent
  pub sent : List Message

-- behind an event that took the node from one state to another: one more event of its lead, or the first one of a new lead, or
-- none where it doesn't lead
abbrev pub lead_with : GroupState → GroupEvent → GroupState → List Message → List LeadEvent → List LeadEvent
lead_with s e t sent events =
    if is_leader t.role
    then (if keeps_its_lead s e t then events else []) ++ record { event = e; sent = sent } ∷ []
    else []

-- a crash ends the lead; an opening may begin one
abbrev pub lead_done : NodeEvent → List Message → NodeState → NodeState → List LeadEvent → List LeadEvent
lead_done (Comes e) sent (Up s) (Up t) events = lead_with s e t sent events
lead_done Restarts sent (Down stored) (Up t) events = lead_with (state_of stored) Open t sent events
lead_done other sent before next events = []

-- so does each stop; what is refused or skipped is no event of a lead
abbrev pub lead_behind : NodeEvent → Outcome → NodeState → NodeState → List LeadEvent → List LeadEvent
lead_behind e (Done sent told unknown) before next events = lead_done e sent before next events
lead_behind e (Refused why) before next events = events
lead_behind e (Stopped unknown) before next events = []
lead_behind e Skipped before next events = events

-- ---- along a run

abbrev pub Leads : Type 0
Leads = ℕ → List LeadEvent

abbrev pub leads_behind : Outcome → GroupWorld → GroupWorld → Scene → Leads → Leads
leads_behind o w next Nowhere leads = leads
leads_behind o w next (At n e) leads =
    with_value leads n (lead_behind e o (w.nodes n) (next.nodes n) (leads n))

abbrev pub leads_from : Events → GroupWorld → Leads → Leads
leads_from [] w leads = leads
leads_from (e ∷ es) w leads =
    let next = ran w e.0 e.1
    in leads_from es next (leads_behind (outcome_of w e.0 (is_some e.1)) w next (scene_of w e.0) leads)

-- the events of the present lead of each node, none where it doesn't lead, after a run from a world where none leads
abbrev pub leads_of : Events → GroupWorld → Leads
leads_of es w = leads_from es w (λ n. [])
