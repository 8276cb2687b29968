-- When a request to a peer is given up.
use Rattle.std.specs.Prelude.{ℕ, ◌*◌, min, Bool, false, ◌&&◌, ◌==◌, if◌then◌else◌, List, map, filter, find, Option, Some, None, unwrap_or}
use Rattle.std.specs.List.{list_any}
use Rattle.raft_timers.specs.declared.config.TimerSettings.{TimerSettings}
use Rattle.raft_timers.specs.declared.request.RequestTimer.{RequestTimer}
use Rattle.raft_timers.specs.Interval.{have_passed}

-- nothing is seen to wait; a first timeout
abbrev pub new_request : TimerSettings → ℕ → RequestTimer
new_request s peer = record { peer = peer; waits_from = None; timeout = s.request_timeout }

abbrev pub has_waited : ℕ → Option ℕ → ℕ → Bool
has_waited timeout None now = false
has_waited timeout (Some from) now = have_passed timeout from now

-- it waits, and has been seen to wait for its timeout
abbrev pub is_lost : Bool → ℕ → RequestTimer → Bool
is_lost is_waiting now r = is_waiting && has_waited r.timeout r.waits_from now

-- sent anew: twice as long, up to the limit
abbrev pub given_up : TimerSettings → ℕ → RequestTimer → RequestTimer
given_up s now r = record r { waits_from = Some now; timeout = min (2 * r.timeout) s.request_timeout_max }

abbrev pub waiting_after : TimerSettings → ℕ → Option ℕ → RequestTimer → RequestTimer
waiting_after s now None r = record r { waits_from = Some now }
waiting_after s now (Some from) r = if have_passed r.timeout from now then given_up s now r else r

-- what doesn't wait was answered, or the lead is over
abbrev pub request_after : TimerSettings → Bool → ℕ → RequestTimer → RequestTimer
request_after s is_waiting now r =
    if is_waiting then waiting_after s now r.waits_from r else new_request s r.peer

-- ---- of all peers, each of which has one

abbrev pub is_among : List ℕ → ℕ → Bool
is_among peers peer = list_any (λ p. p == peer) peers

abbrev pub lost_peers : List ℕ → ℕ → List RequestTimer → List ℕ
lost_peers waiting now rs = map (λ r. r.peer) (filter (λ r. is_lost (is_among waiting r.peer) now r) rs)

abbrev pub requests_after : TimerSettings → List ℕ → ℕ → List RequestTimer → List RequestTimer
requests_after s waiting now rs = map (λ r. request_after s (is_among waiting r.peer) now r) rs

-- this peer's timeout is the first one again
abbrev pub answered_by : TimerSettings → ℕ → RequestTimer → RequestTimer
answered_by s peer r = if r.peer == peer then new_request s peer else r

abbrev pub requests_answered : TimerSettings → ℕ → List RequestTimer → List RequestTimer
requests_answered s peer rs = map (answered_by s peer) rs

abbrev pub kept_request : TimerSettings → List RequestTimer → ℕ → RequestTimer
kept_request s rs peer = unwrap_or (find (λ r. r.peer == peer) rs) (new_request s peer)

abbrev pub requests_of : TimerSettings → List RequestTimer → List ℕ → List RequestTimer
requests_of s rs peers = map (kept_request s rs) peers
