-- Small answers and records of worked rows: node 1, groups 7 and 9.
use Rattle.std.specs.Prelude.{◌≡◌, ℕ, true, List, [], ◌∷◌, None}
use Rattle.raft_group_step.specs.GroupState.{state_of}
use Rattle.raft_group_step.specs.Message.{Message}
use Rattle.raft_group_step.specs.StepResult.{tokens_of}
use Rattle.raft_group_step.specs.declared.group_call.GroupCall.TheVariants.{Elect}
use Rattle.raft_laws.specs.BallotLists.{with_value}
use Rattle.raft_laws.specs.GroupWorld.{NodeState, Up}
use Rattle.raft_machines.specs.Adding.{adding}
use Rattle.raft_machines.specs.Telling.{untold_of}
use Rattle.raft_machines.specs.declared.telling.Told.{Told}
use Rattle.raft_machines.specs.declared.telling.UnknownTokens.{UnknownTokens}
use Rattle.raft_sent_frames.specs.declared.frame.NodeFrame.{NodeFrame}
use Rattle.raft_cluster_events.specs.Node.{NodeActs}
use Rattle.raft_cluster_events.specs.States.{NodeStates}
use Rattle.raft_cluster_events.specs.declared.event.ClusterEvent.TheVariants as event
use Rattle.raft_cluster_events.specs.declared.event.CrashChoice.TheVariants.{Least}
use Rattle.raft_cluster_events.specs.declared.node.NodeOutcome.{NodeOutcome}
use Rattle.raft_cluster_events.specs.declared.outcome.EventOutcome.{EventOutcome}
use Rattle.raft_cluster_events.specs.declared.outcome.GroupOutcome.{GroupOutcome}
use Rattle.raft_cluster_events.specs.declared.outcome.Recorded.{Recorded}
use Rattle.raft_cluster_events.specs.declared.outcome.Stop.{Stop}
use Rattle.raft_cluster_events.specs.declared.outcome.StopCause.TheVariants.{Memory}
use Rattle.raft_headline.specs.ClusterEvent.{AddGroup, Ask, Clean, Crash, Done, TurnedAway, silent}
use Rattle.raft_headline.specs.ClusterEvent.{ClusterOutcome as PlainOutcome, Recorded as PlainRecord}
use Rattle.raft_headline.specs.Rows.{at_one}
use Rattle.raft_cluster_laws.specs.Rows.{a_message, made, nothing}
use Rattle.raft_node_laws.specs.Law.{Leads}

-- one token waited in the group
pub record IsWaiting (group token : ℕ) (x : UnknownTokens) : Type 0 where
  pub of_group : x.group ≡ group
  pub alone : tokens_of (untold_of x.tokens.items) ≡ token ∷ []

-- a stop at which these waited
abbrev pub stopped_with : List UnknownTokens → Stop
stopped_with waiting = record { cause = Memory; unsaid = None; unknown = waiting }

-- an event that was to tell a token at place 2, and to leave one unknown
abbrev pub done_unsaid : (group told unknown : ℕ) → NodeOutcome
done_unsaid group told unknown = record {
  group = group;
  frames = [];
  told = record { token = told; place = 2; answer = [] } ∷ [];
  unknown = unknown ∷ [];
}

-- the one frame that says the message, from node 1 to node 2
abbrev pub a_frame : NodeFrame
a_frame = record { peer = 2; bytes = 1 ∷ []; accepts = None }

abbrev pub spells : ℕ → Message → List ℕ → Type 0
spells group m bytes = (group ≡ 7) × (m ≡ a_message) × (bytes ≡ 1 ∷ [])

-- group 7 was asked for something, and did this
abbrev pub done_with : List NodeFrame → List Told → List ℕ → NodeOutcome
done_with frames told unknown = record { group = 7; frames = frames; told = told; unknown = unknown }

-- ---- records

-- node 1 was asked to stand for election in group 7, or crashed
abbrev pub elected : EventOutcome → Recorded
elected o = record { event = event.Ask 1 7 Elect 0; outcome = o }

abbrev pub plainly_elected : PlainOutcome → PlainRecord
plainly_elected o = at_one (Ask 1 7 Elect 0) o

abbrev pub crashed : EventOutcome → Recorded
crashed o = record { event = event.Crash 1 Least; outcome = o }

abbrev pub plainly_crashed : PlainRecord
plainly_crashed = at_one (Crash 1) (Done silent)

-- the node refused the crash
abbrev pub plainly_spared : PlainRecord
plainly_spared = at_one (Crash 1) TurnedAway

-- node 1 was cleaned
abbrev pub cleaned : EventOutcome → Recorded
cleaned o = record { event = event.Clean 1; outcome = o }

abbrev pub plainly_cleaned : PlainOutcome → PlainRecord
plainly_cleaned o = at_one (Clean 1) o

-- what it did in a group sent one frame to node 2, by this number
abbrev pub sent_by_number : (group number : ℕ) → GroupOutcome
sent_by_number group number = record { group = group; sent = record { peer = 2; number = number } ∷ []; told = []; unknown = [] }

-- ---- nodes

-- a node that may be in these states of each group, has id 1 and is up
abbrev pub Small : Type 0
Small = ℕ → List NodeState

abbrev pub small_acts : NodeActs Small
small_acts = record {
  id = λ n. 1;
  is_up = λ n. true;
  begins = λ id n. Unit {0};
  adds = λ old group answered new. Unit {0};
  asks = λ old group call now answered new. Unit {0};
  feeds = λ old peer piece now answered new. Unit {0};
  resets = λ old peer answered new. Unit {0};
  cleans = λ old answered new. Unit {0};
  fails = λ old stop new. Unit {0};
  fuses = λ old first_refused new. Unit {0};
  crashes = λ old choice new. Unit {0};
  refuses = λ old choice why. Unit {0};
  reopens = λ old workers answered new. Unit {0};
  closes = λ old new. Unit {0};
  machine_of = λ n group. None;
  applied_of = λ n group. None;
  leads = λ n group told. told ≡ None;
}

abbrev pub small_states : NodeStates Small
small_states = record { may_be = λ n h states. states ≡ n h; spells = spells }

-- it knows of no group, or has group 7 alone, with nothing in it
abbrev pub knows_none : Small
knows_none h = nothing ∷ []

abbrev pub has_seven : Small
has_seven = with_value knows_none 7 (Up (state_of made) ∷ [])

-- the first node was led to the other one by getting a group, with an outcome that is this
abbrev pub IsLed : (group : ℕ) → Small → PlainOutcome → Type 0
IsLed group new o = Leads adding small_acts small_states [] (AddGroup 1 group) knows_none knows_none new (λ p. p ≡ o)
