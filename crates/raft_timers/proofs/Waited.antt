-- Requests that are told lost have waited.
use Rattle.std.proofs.Common.{◌≡◌, ℕ, ◌+◌, ◌≤◌, Bool, true, false, List, [], ◌∷◌, cond, get_or, Option, Some, None, refl, arith}
use Rattle.std.specs.Prelude.{if◌then◌else◌, ◌==◌, Contains, unwrap_or}
use Rattle.std.specs.List.{All, filter, find}
use Rattle.std.proofs.lemmas.Bool.{and_parts}
use Rattle.std.proofs.lemmas.List.Elements.{All-map, All-filter, All-contains, filter_passes, All-contains_itself, All-head, All-tail}
use Rattle.raft_timers.specs.declared.config.TimerConfig.{TimerConfig}
use Rattle.raft_timers.specs.declared.config.TimerSettings.{TimerSettings}
use Rattle.raft_timers.specs.declared.request.RequestTimer.{RequestTimer}
use Rattle.raft_timers.specs.Clock.{Clock}
use Rattle.raft_timers.specs.Interval.{have_passed}
use Rattle.raft_timers.specs.Laws.{HasWaited}
use Rattle.raft_timers.specs.Request.{has_waited, is_among, is_lost, kept_request, lost_peers, new_request, request_after, given_up, waiting_after}
use Rattle.raft_timers.specs.History.{Call, Ticks, Answers, Peers, History, TellsLost, after_call, clock_of}
use Rattle.raft_timers.specs.Timers.{moment, new_clock}
use Rattle.raft_timers.proofs.Histories.{kept_by_calls}
use Rattle.raft_timers.proofs.Passing.{passed}

-- ---- each timeout is the first one at least

abbrev pub IsLong : TimerSettings → RequestTimer → Type 0
IsLong s r = s.request_timeout ≤ r.timeout

abbrev pub AreLong : Clock → Type 0
AreLong c = All (IsLong c.config.settings) c.requests

long_if_passed : (config : TimerConfig) (now : ℕ) (r : RequestTimer) (over : Bool) → IsLong config.settings r
    → IsLong config.settings (if over then given_up config.settings now r else r)
long_if_passed config now r true h = let limit = config.limit in omega arith
long_if_passed config now r false h = h

long_waiting : (config : TimerConfig) (now : ℕ) (from : Option ℕ) (r : RequestTimer) → IsLong config.settings r
    → IsLong config.settings (waiting_after config.settings now from r)
long_waiting config now None r h = h
long_waiting config now (Some from) r h = long_if_passed config now r (have_passed r.timeout from now) h

long_after : (config : TimerConfig) (waits : Bool) (now : ℕ) (r : RequestTimer) → IsLong config.settings r
    → IsLong config.settings (request_after config.settings waits now r)
long_after config true now r h = long_waiting config now r.waits_from r h
long_after config false now r h = omega arith

long_answered : (s : TimerSettings) (r : RequestTimer) (peer : ℕ) (is : Bool) → IsLong s r
    → IsLong s (if is then new_request s peer else r)
long_answered s r peer true h = omega arith
long_answered s r peer false h = h

long_found : (s : TimerSettings) (peer : ℕ) (rs : List RequestTimer) → All (IsLong s) rs → IsLong s (kept_request s rs peer)
long_found s peer [] h = omega arith
long_found s peer (r ∷ rs) h = by_test (r.peer == peer) (All-head (IsLong s) r rs h) (long_found s peer rs (All-tail (IsLong s) r rs h))
  where
    by_test : (is : Bool) → IsLong s r → IsLong s (kept_request s rs peer)
        → IsLong s (unwrap_or (cond is (Some r) (find (λ x. x.peer == peer) rs)) (new_request s peer))
    by_test true here later = here
    by_test false here later = later

long_by_call : (call : Call) (c : Clock) → AreLong c → AreLong (after_call call c)
long_by_call (Ticks now view waiting) c h =
    All-map (IsLong c.config.settings) _ c.requests
    (λ k d within.
    let r : RequestTimer = get_or c.requests k d in
    long_after c.config (is_among waiting r.peer) (moment c now) r (h k d within))
long_by_call (Answers peer) c h =
    All-map (IsLong c.config.settings) _ c.requests (λ k d within. long_answered c.config.settings _ peer _ (h k d within))
long_by_call (Peers peers) c h =
    All-map (IsLong c.config.settings) (kept_request c.config.settings c.requests) peers
    (λ k d within. long_found c.config.settings _ c.requests h)

pub long_of : (h : History) → AreLong (clock_of h)
long_of h =
    kept_by_calls AreLong long_by_call h.calls (new_clock h.config h.seed h.peers h.start)
    (All-map (IsLong h.config.settings) (kept_request h.config.settings []) h.peers (λ k d within. omega arith))

-- ---- who is told lost

-- a timer of the peer that is told lost
abbrev pub IsTold : List ℕ → ℕ → List RequestTimer → ℕ → RequestTimer → Type 0
IsTold waiting m rs peer r =
    Contains rs r × (r.peer ≡ peer) × (is_lost (is_among waiting r.peer) m r ≡ true)

has_told : (waiting : List ℕ) (m : ℕ) (rs : List RequestTimer)
    → All (λ peer. (r : RequestTimer) × IsTold waiting m rs peer r) (lost_peers waiting m rs)
has_told waiting m rs =
    let lost : RequestTimer → Bool = λ r. is_lost (is_among waiting r.peer) m r in
    All-map (λ peer. (r : RequestTimer) × IsTold waiting m rs peer r) (λ r. r.peer) (filter lost rs)
    (λ k d within. (
      get_or (filter lost rs) k d,
      (All-filter lost (Contains rs) rs (All-contains_itself rs) k d within, refl, filter_passes lost rs k d within),
    ))

waited_since : (config : TimerConfig) (m : ℕ) (r : RequestTimer) (from : Option ℕ) → IsLong config.settings r
    → has_waited r.timeout from m ≡ true → (since : ℕ) × (from ≡ Some since) × (since + r.timeout ≤ m)
waited_since config m r None long h = absurd (cc)
waited_since config m r (Some since) long h =
    let positive = config.request in (since, refl, passed r.timeout since m (omega arith) h)

told : (c : Clock) (waiting : List ℕ) (now peer : ℕ) → AreLong c
    → (r : RequestTimer) × IsTold waiting (moment c now) c.requests peer r → HasWaited c waiting now peer
told c waiting now peer long (r, (noted, of_peer, lost)) =
    let parts : (is_among waiting r.peer ≡ true) × (has_waited r.timeout r.waits_from (moment c now) ≡ true) =
    and_parts (is_among waiting r.peer) (has_waited r.timeout r.waits_from (moment c now)) lost in
    let least : IsLong c.config.settings r = All-contains (IsLong c.config.settings) c.requests r long noted in
    let waited : (since : ℕ) × (r.waits_from ≡ Some since) × (since + r.timeout ≤ moment c now) =
    waited_since c.config (moment c now) r r.waits_from least parts.1 in
    record {
      timer = r;
      noted = noted;
      of_peer = of_peer;
      waits = rw of_peer at parts.0;
      since = waited.0;
      seen = waited.1;
      timeout = waited.2;
      least = least;
    }

pub lost_have_waited : (h : History) (waiting : List ℕ) (now peer : ℕ) → TellsLost (clock_of h) waiting now peer
    → HasWaited (clock_of h) waiting now peer
lost_have_waited h waiting now peer lost =
    let c : Clock = clock_of h in
    told c waiting now peer (long_of h)
    (All-contains (λ p. (r : RequestTimer) × IsTold waiting (moment c now) c.requests p r)
    (lost_peers waiting (moment c now) c.requests) peer (has_told waiting (moment c now) c.requests) lost)
