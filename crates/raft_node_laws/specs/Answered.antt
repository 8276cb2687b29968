-- What a node answers to an event, whatever call it was.
use Rattle.std.specs.Prelude.{List, [], ◌∷◌, Option, Some, None, Result, Ok, Err}
use Rattle.raft_cluster_events.specs.declared.node.NodeOutcome.{NodeOutcome}
use Rattle.raft_cluster_events.specs.declared.outcome.NodeError.{NodeError}
use Rattle.raft_cluster_events.specs.declared.outcome.NodeError.TheVariants as errors
use Rattle.raft_cluster_events.specs.declared.outcome.Stop.{Stop}
use Rattle.raft_cluster_events.specs.declared.outcome.Unsaid.{Unsaid}

abbrev pub Answered : Type 0
Answered = Result (List NodeOutcome) NodeError

abbrev pub one_of : Result NodeOutcome NodeError → Answered
one_of (Ok outcome) = Ok (outcome ∷ [])
one_of (Err error) = Err error

abbrev pub listed : Option NodeOutcome → List NodeOutcome
listed None = []
listed (Some outcome) = outcome ∷ []

abbrev pub some_of : Result (Option NodeOutcome) NodeError → Answered
some_of (Ok outcome) = Ok (listed outcome)
some_of (Err error) = Err error

abbrev pub none_of : Result (Unit {0}) NodeError → Answered
none_of (Ok done) = Ok []
none_of (Err error) = Err error

abbrev pub opening_of : Result (List NodeOutcome) Stop → Answered
opening_of (Ok outcomes) = Ok outcomes
opening_of (Err stop) = Err (errors.Stopped stop)

-- ---- memory is refused behind an event

-- its tokens, of which nobody is told
abbrev pub unsaid_of : NodeOutcome → Unsaid
unsaid_of outcome = record { group = outcome.group; told = outcome.told; unknown = outcome.unknown }

-- the stop of the node, with those of the event that it had done
abbrev pub stop_behind : NodeOutcome → Stop → Stop
stop_behind outcome stop = record stop { unsaid = Some (unsaid_of outcome) }
