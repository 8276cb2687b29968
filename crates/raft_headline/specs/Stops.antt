-- Once an event stopped a node, it does nothing until it is opened.
use Rattle.std.specs.Prelude.{◌≡◌, ℕ, ◌==◌, ◌&&◌, Bool, true, false, List, ◌∷◌, ◌++◌, Contains}
use Rattle.raft_headline.specs.ClusterEvent.{ClusterEvent, AddGroup, Ask, Deliver, ResetPeer, Clean, Fuse, Crash, Reopen, Halt, ClusterOutcome, Done}
use Rattle.raft_headline.specs.ClusterEvent.{Opened, Refused, Stopped, Fused, PassedOver, TurnedAway, Recorded, is_stopped}

-- the node that an event came to
abbrev pub node_in : ClusterEvent → ℕ → ℕ
node_in (AddGroup n g) at = n
node_in (Ask n g call now) at = n
node_in (Deliver g number now) at = at
node_in (ResetPeer n peer) at = n
node_in (Clean n) at = n
node_in (Fuse n) at = n
node_in (Crash n) at = n
node_in (Reopen n) at = n
node_in (Halt n) at = n

abbrev pub node_at : Recorded → ℕ
node_at r = node_in r.event r.node

abbrev pub is_of_group : ℕ → ClusterEvent → Bool
is_of_group h (AddGroup n g) = g == h
is_of_group h (Ask n g call now) = g == h
is_of_group h (Deliver g number now) = g == h
is_of_group h (ResetPeer n peer) = false
is_of_group h (Clean n) = false
is_of_group h (Fuse n) = false
is_of_group h (Crash n) = false
is_of_group h (Reopen n) = false
is_of_group h (Halt n) = false

abbrev pub is_opened : ClusterOutcome → Bool
is_opened (Done said) = false
is_opened (Opened parts) = true
is_opened (Refused why) = false
is_opened (Stopped unknown) = false
is_opened Fused = false
is_opened PassedOver = false
is_opened TurnedAway = false

-- it opened the node
abbrev pub opens_by : ℕ → ClusterEvent → ClusterOutcome → Bool
opens_by n (AddGroup m g) o = false
opens_by n (Ask m g call now) o = false
opens_by n (Deliver g number now) o = false
opens_by n (ResetPeer m peer) o = false
opens_by n (Clean m) o = false
opens_by n (Fuse m) o = false
opens_by n (Crash m) o = false
opens_by n (Reopen m) o = (m == n) && is_opened o
opens_by n (Halt m) o = false

abbrev pub opens : ℕ → Recorded → Bool
opens n r = opens_by n r.event r.outcome

-- nothing came of it
abbrev pub is_passed : ClusterOutcome → Bool
is_passed (Done said) = false
is_passed (Opened parts) = false
is_passed (Refused why) = false
is_passed (Stopped unknown) = false
is_passed Fused = false
is_passed PassedOver = true
is_passed TurnedAway = true

-- once an event stopped a node nothing comes of the group's events there until the node is opened
abbrev pub StopsStay : ℕ → List Recorded → Type 0
StopsStay h history =
    (before between after : List Recorded) (r x : Recorded) → history ≡ before ++ r ∷ between ++ x ∷ after
    → is_stopped r.outcome ≡ true → ((y : Recorded) → Contains between y → opens (node_at r) y ≡ false)
    → node_at x ≡ node_at r → is_of_group h x.event ≡ true → is_passed x.outcome ≡ true
