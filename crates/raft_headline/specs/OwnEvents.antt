-- A cluster's history as a run of a group's own events.
use Rattle.std.specs.Prelude.{◌≡◌, ℕ, zero, suc, Bool, true, false, List, [], ◌∷◌, ◌++◌, Some, None}
use Rattle.raft_laws.specs.declared.world_event.WorldEvent.TheVariants as event
use Rattle.raft_laws.specs.GroupWorld.{new_world}
use Rattle.raft_laws.specs.GroupRun.{group_run, stop_at}
use Rattle.raft_laws.specs.Origins.{Events}
use Rattle.raft_machines.specs.Machine.{MachineRules}
use Rattle.raft_headline.specs.ClusterEvent.{ClusterOutcome, Recorded, is_stopped}
use Rattle.raft_headline.specs.Seen.{Seen, Passed, Own, Halted, Crashed, seen_by}
use Rattle.raft_headline.specs.Machines.{Replicas, new_replicas}
use Rattle.raft_headline.specs.Replaying.{ReplaysWith, takes_number}

-- what the group sees of an event, with the number of storing commands after which it stopped, if it did
abbrev pub own_event : Seen → ClusterOutcome → ℕ → Events
own_event Passed o k = []
own_event (Own e) o k = (e, stop_at (is_stopped o) k) ∷ []
own_event (Halted n) o k = (event.Halt n, Some 0) ∷ []
own_event (Crashed n) o k = (event.Crash n, None) ∷ []

abbrev pub next_number : List ℕ → ℕ
next_number [] = 0
next_number (k ∷ ks) = k

abbrev pub numbers_left : Bool → List ℕ → List ℕ
numbers_left false ks = ks
numbers_left true [] = []
numbers_left true (k ∷ ks) = ks

-- the group's own events in their order, where these are the numbers of its own stops
abbrev pub own_events : ℕ → List Recorded → List ℕ → Events
own_events h [] ks = []
own_events h (r ∷ rs) ks =
    own_event (seen_by h r) r.outcome (next_number ks)
    ++ own_events h rs (numbers_left (takes_number (seen_by h r) r.outcome) ks)

-- one more, if the group sees it
abbrev pub counted_if : Seen → ℕ → ℕ
counted_if Passed i = i
counted_if (Own e) i = suc i
counted_if (Halted n) i = suc i
counted_if (Crashed n) i = suc i

-- how many of the events before this number the group sees: so an event that it sees has this number in the group
abbrev pub own_number : ℕ → List Recorded → ℕ → ℕ
own_number h [] i = 0
own_number h (r ∷ rs) zero = 0
own_number h (r ∷ rs) (suc i) = counted_if (seen_by h r) (own_number h rs i)

-- the group's own events lead where the history leads
abbrev pub RunsAsGroup : MachineRules → List ℕ → ℕ → List Recorded → Replicas → Type 0
RunsAsGroup rules ids h history end =
    (numbers : List ℕ) → ReplaysWith rules h (new_replicas rules ids) history numbers end
    → group_run (own_events h history numbers) (new_world ids) ≡ end.world
