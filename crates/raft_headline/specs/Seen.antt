-- What a group sees of a history of the cluster: the filter to the group.
use Rattle.std.specs.Prelude.{ℕ, ◌==◌, Bool, true, false, if◌then◌else◌, List, [], ◌∷◌, filter, map}
use Rattle.raft_laws.specs.declared.world_event.WorldEvent.{WorldEvent}
use Rattle.raft_laws.specs.declared.world_event.WorldEvent.TheVariants as world
use Rattle.raft_headline.specs.ClusterEvent.{ClusterEvent, AddGroup, Ask, Deliver, ResetPeer, Clean, Fuse, Crash, Reopen, Halt, ClusterOutcome, Done}
use Rattle.raft_headline.specs.ClusterEvent.{Opened, Refused, Stopped, Fused, PassedOver, TurnedAway, Recorded, Said, Unknown, is_stopped, is_turned_away}

-- the group sees nothing of it, or it is an event of the group, or one of others stopped the group's node, or the node crashed
pub data Seen : Type 0 where
  Passed : Seen
  Own : (event : WorldEvent) → Seen
  Halted : (node : ℕ) → Seen
  Crashed : (node : ℕ) → Seen

-- an event of others shows only where it stopped its node
abbrev pub aside : ℕ → ClusterOutcome → Seen
aside n o = if is_stopped o then Halted n else Passed

abbrev pub own_or_aside : Bool → WorldEvent → ℕ → ClusterOutcome → Seen
own_or_aside true e n o = Own e
own_or_aside false e n o = aside n o

abbrev pub seen_of : ℕ → ClusterEvent → ℕ → ClusterOutcome → Seen
seen_of h (AddGroup n g) at o = own_or_aside (g == h) (world.Add n) n o
seen_of h (Ask n g call now) at o = own_or_aside (g == h) (world.Ask n call now) n o
seen_of h (Deliver g number now) at o = own_or_aside (g == h) (world.Deliver number now) at o
seen_of h (ResetPeer n peer) at o = aside n o
seen_of h (Clean n) at o = aside n o
seen_of h (Fuse n) at o = aside n o
seen_of h (Crash n) at o = Crashed n
seen_of h (Reopen n) at o = Own (world.Restart n)
seen_of h (Halt n) at o = aside n o

abbrev pub seen_unless : Bool → Seen → Seen
seen_unless true seen = Passed
seen_unless false seen = seen

-- what the group sees of an event with its outcome
abbrev pub seen_by : ℕ → Recorded → Seen
seen_by h r = seen_unless (is_turned_away r.outcome) (seen_of h r.event r.node r.outcome)

-- ---- the filter

abbrev pub own_unknown : ℕ → List Unknown → List Unknown
own_unknown h us = filter (λ (u : Unknown). u.group == h) us

abbrev pub own_parts : ℕ → List (ℕ × Said) → List (ℕ × Said)
own_parts h parts = filter (λ (part : ℕ × Said). part.0 == h) parts

-- the outcome without what it says of other groups
abbrev pub own_outcome : ℕ → ClusterOutcome → ClusterOutcome
own_outcome h (Done said) = Done said
own_outcome h (Opened parts) = Opened (own_parts h parts)
own_outcome h (Refused why) = Refused why
own_outcome h (Stopped unknown) = Stopped (own_unknown h unknown)
own_outcome h Fused = Fused
own_outcome h PassedOver = PassedOver
own_outcome h TurnedAway = TurnedAway

-- what the group keeps of a record, before the others
abbrev pub kept_before : ℕ → Seen → Recorded → List Recorded → List Recorded
kept_before h Passed r rest = rest
kept_before h (Own e) r rest = record r { outcome = own_outcome h r.outcome } ∷ rest
kept_before h (Halted n) r rest = record { event = Halt n; node = n; outcome = own_outcome h r.outcome } ∷ rest
kept_before h (Crashed n) r rest = r ∷ rest

-- the group's own events, each crash and each opening; an event of others only where it stopped the node, as a plain halt
abbrev pub own_part : ℕ → List Recorded → List Recorded
own_part h [] = []
own_part h (r ∷ rs) = kept_before h (seen_by h r) r (own_part h rs)

-- the tokens of the group among these
abbrev pub own_tokens : ℕ → List Unknown → List ℕ
own_tokens h us = map (λ (u : Unknown). u.token) (own_unknown h us)
