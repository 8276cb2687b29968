-- Which entries go to a peer, by the log ids before and at their end.
use Rattle.std.specs.Prelude.{◌≡◌, ℕ, zero, suc, ◌+◌, ◌-◌, ◌<◌, ◌≤◌, ◌==◌, min, nat_lt, true, false, if◌then◌else◌, List, [], ◌∷◌, ◌++◌, length, take, drop, Option, Some, None, option_map, refl}
use Rattle.std.specs.List.{slice_get}
use Rattle.std.proofs.Common.{ap, sym, ◌∙◌, subst, arith}
use Rattle.std.proofs.lemmas.Bool.Decides.{nat_tests}
use Rattle.std.proofs.lemmas.List.{drop_all, take_all, length-drop, length-take, length-take-le}
use Rattle.std.proofs.Math.Seq.{take-length}
use Rattle.raft_values.specs.declared.log_id.LogId.{LogId}
use Rattle.raft_values.specs.LogId.{next_place}
use Rattle.raft_group_step.specs.Values.{Entry}
use Rattle.raft_group_step.specs.StoredGroup.{StoredGroup, first_place, end_place, id_of, id_before, last_id}
use Rattle.raft_group_step.specs.Message.{last_sent}
use Rattle.raft_known_state.specs.KnownState.{ArePlaced, IsPlaced}
use Rattle.raft_known_state.proofs.KnownStateLemmas.{end-known, last-known}
use Rattle.raft_known_state.proofs.PlacedIds.{by_order}
use Rattle.raft_engine.specs.Commands.{entries_between, message_to, request_to, snapshot_to}
use Rattle.std.specs.Option.{is_some}
use Rattle.std.proofs.Math.Bool.{true≢false}
use Rattle.raft_progress.specs.declared.inflight.Inflight.{Inflight}
use Rattle.raft_progress.specs.declared.inflight.Inflight.TheVariants.{Snapshot as SnapshotInFlight}
use Rattle.raft_progress.specs.declared.progress_entry.ProgressEntry.{ProgressEntry}
use Rattle.raft_group_step.specs.StoredGroup.{Snapshot}
use Rattle.raft_group_step.specs.Message.{AppendRequest, Numbered}
use Rattle.raft_group_step.specs.Peer.{PeerState}
use Rattle.raft_group_step.specs.GroupState.{Lead}
use Rattle.raft_group_step.specs.StepResult.{StepResult}
use Rattle.raft_group_step.specs.Frames.{committed_id, entries_in_request, request_start, send_entries, send_request, send_snapshot, with_peer_state}
use Rattle.raft_known_state.specs.KnownState.{meta_of}
use Rattle.raft_engine.specs.Standing.{peer_state}
use Rattle.raft_engine.specs.Sending.{logs_for, request_for, waiting_for}
use Rattle.raft_engine.specs.Ordering.{IsStoredRequest}
use Rattle.raft_engine.proofs.PlacedEntries.{dropped, found_at, get_of_dropped, some_within, taken}

-- ---- entries at their places

some_there : (es : List Entry) (k : ℕ) → k < length es → (e : Entry) × (slice_get es k ≡ Some e)
some_there [] k l = absurd (omega arith)
some_there (x ∷ es) zero l = (x, refl)
some_there (x ∷ es) (suc k) l = some_there es k (omega arith)

-- ---- the log id before a place

module _ (s : StoredGroup) where
  -- above the purge point it is that of the log's entry
  before-entry : (place : ℕ) → first_place s < place → id_before s place ≡ id_of (slice_get s.log (place - 1 - first_place s))
  before-entry place l =
      let a : (place == 0) ≡ false = grind (arith, nat_tests, l) in
      let b : (place - 1 + 1 == first_place s) ≡ false = grind (arith, nat_tests, l) in
      let d : nat_lt (place - 1) (first_place s) ≡ false = grind (arith, nat_tests, l) in
      rw (a, b, d) refl

  before-first : (place : ℕ) → place ≡ first_place s → next_place (id_before s place) ≡ place
  before-first place e =
      by_order 0 place
      (λ l. let a : (place == 0) ≡ false = grind (arith, nat_tests, l) in
      let b : (place - 1 + 1 == first_place s) ≡ true = grind (arith, nat_tests, l, e) in
      rw (a, b) (sym e))
      (λ l. let a : (place == 0) ≡ true = grind (arith, nat_tests, l) in rw a (omega arith))

  -- it stands right before the place, within the log
  next_before : (place : ℕ) → IsPlaced s → first_place s ≤ place → place ≤ end_place s → next_place (id_before s place) ≡ place
  next_before place p l k =
      by_order (first_place s) place
      (λ m. let w = some_there s.log (place - 1 - first_place s) (omega arith) in
      let at : w.0.log_id.index ≡ first_place s + (place - 1 - first_place s) = found_at s.log (first_place s) (place - 1 - first_place s) w.0 p w.1 in
      ap next_place (before-entry place m ∙ ap id_of w.1) ∙ omega arith)
      (λ m. before-first place (omega arith))

-- the place after the last log id is where the log ends
pub end-last : (s : StoredGroup) → IsPlaced s → next_place (last_id s) ≡ end_place s
end-last s p = ap next_place (sym (last-known s p)) ∙ end-known s p

-- ---- the entries of a request

next_sent : (es : List Entry) (place : ℕ) (prev : Option (LogId ℕ)) → ArePlaced place es → next_place prev ≡ place → next_place (last_sent prev es) ≡ place + length es
next_sent [] place prev p e = omega (arith, e)
next_sent (x ∷ es) place prev p e =
    let at : x.log_id.index + 1 ≡ suc place = let f : x.log_id.index ≡ place = p.0 in omega arith in
    next_sent es (suc place) (Some x.log_id) p.1 at ∙ omega arith

take_taken : {X : Type 0} (n m : ℕ) (xs : List X) → m ≡ length (take n xs) → take m xs ≡ take n xs
take_taken n m xs e =
    by_order n (length xs)
    (λ l. let at : m ≡ n = omega (arith, e, length-take-le n xs (omega arith)) in ap (λ k. take k xs) at)
    (λ l. let all : take n xs ≡ xs = take_all n xs l in
    let at : m ≡ length xs = e ∙ ap length all in
    ap (λ k. take k xs) at ∙ take-length xs ∙ sym all)

-- so many entries are those between the log ids before and at their end
pub sent-between : (s : StoredGroup) (start n : ℕ) → IsPlaced s → first_place s ≤ start
    → entries_between s (id_before s start) (last_sent (id_before s start) (take n (drop (start - first_place s) s.log))) ≡ take n (drop (start - first_place s) s.log)
sent-between s start n p l =
    by_order (end_place s) start
    (λ m.
    let none : drop (start - first_place s) s.log ≡ [] = drop_all (start - first_place s) s.log (omega arith) in
    let empty : take n (drop (start - first_place s) s.log) ≡ [] = ap (take n) none ∙ take_all n [] (omega arith) in
    ap (λ es. entries_between s (id_before s start) (last_sent (id_before s start) es)) empty
    ∙ (let zero_more : next_place (id_before s start) - next_place (id_before s start) ≡ 0 = omega arith in rw zero_more refl) ∙ sym empty)
    (λ m.
    let before : next_place (id_before s start) ≡ start = next_before s start p l m in
    let here : first_place s + (start - first_place s) ≡ start = omega arith in
    let placed : ArePlaced start (drop (start - first_place s) s.log) =
    subst (λ k. ArePlaced k (drop (start - first_place s) s.log)) here (dropped s.log (first_place s) (start - first_place s) p) in
    let es = take n (drop (start - first_place s) s.log) in
    let after : next_place (last_sent (id_before s start) es) ≡ start + length es =
    next_sent es start (id_before s start) (taken (drop (start - first_place s) s.log) start n placed) before in
    let count : next_place (last_sent (id_before s start) es) - next_place (id_before s start) ≡ length es = omega arith in
    ap (λ k. take (next_place (last_sent (id_before s start) es) - next_place (id_before s start)) (drop (k - first_place s) s.log)) before
    ∙ take_taken n (next_place (last_sent (id_before s start) es) - next_place (id_before s start)) (drop (start - first_place s) s.log) count)

last_of_sent : (es : List Entry) (prev : Option (LogId ℕ)) (n : ℕ) → n < length es → last_sent prev (take (suc n) es) ≡ id_of (slice_get es n)
last_of_sent [] prev n l = absurd (omega arith)
last_of_sent (x ∷ es) prev zero l = refl
last_of_sent (x ∷ es) prev (suc n) l = last_of_sent es (Some x.log_id) n (omega arith)

module _ (s : StoredGroup) (start n : ℕ) (l : first_place s ≤ start) where
  -- the last of so many entries stands right before their end
  pub last-sent : (stop : ℕ) → start < stop → stop ≡ min (start + n) (end_place s)
      → id_before s stop ≡ last_sent (id_before s start) (take n (drop (start - first_place s) s.log))
  last-sent stop m e =
      let rest = drop (start - first_place s) s.log in
      let all : length rest ≡ length s.log - (start - first_place s) = length-drop (start - first_place s) s.log in
      let count : suc (stop - 1 - start) ≡ length (take n rest) = omega (arith, length-take n rest) in
      let same : take (suc (stop - 1 - start)) rest ≡ take n rest = take_taken n (suc (stop - 1 - start)) rest count in
      let at : start - first_place s + (stop - 1 - start) ≡ stop - 1 - first_place s = omega arith in
      before-entry s stop (omega arith) ∙ ap (λ k. id_of (slice_get s.log k)) (sym at) ∙ ap id_of (sym (get_of_dropped s.log (start - first_place s) (stop - 1 - start)))
      ∙ sym (last_of_sent rest (id_before s start) (stop - 1 - start) (omega arith)) ∙ ap (last_sent (id_before s start)) same

  -- past the log none is sent
  pub none-sent : end_place s ≤ start → id_before s start ≡ last_sent (id_before s start) (take n (drop (start - first_place s) s.log))
  none-sent m =
      let none : drop (start - first_place s) s.log ≡ [] = drop_all (start - first_place s) s.log (omega arith) in
      sym (ap (last_sent (id_before s start)) (ap (take n) none ∙ take_all n [] (omega arith)))

-- and what is sent is stored
pub sent-stored : (s : StoredGroup) (start n : ℕ) → IsPlaced s → first_place s ≤ start
    → next_place (last_sent (id_before s start) (take n (drop (start - first_place s) s.log))) ≤ end_place s
sent-stored s start n p l =
    by_order (end_place s) start
    (λ m. subst (λ id. next_place id ≤ end_place s) (none-sent s start n l (omega arith)) (nothing (slice_get s.log (start - 1 - first_place s)) refl m))
    (λ m.
    let before : next_place (id_before s start) ≡ start = next_before s start p l m in
    let here : first_place s + (start - first_place s) ≡ start = omega arith in
    let rest = drop (start - first_place s) s.log in
    let placed : ArePlaced start rest = subst (λ k. ArePlaced k rest) here (dropped s.log (first_place s) (start - first_place s) p) in
    let after : next_place (last_sent (id_before s start) (take n rest)) ≡ start + length (take n rest) = next_sent (take n rest) start (id_before s start) (taken rest start n placed) before in
    let all : length rest ≡ length s.log - (start - first_place s) = length-drop (start - first_place s) s.log in
    omega (arith, length-take n rest))
  where
    nothing : (e : Option Entry) → slice_get s.log (start - 1 - first_place s) ≡ e → end_place s < start → next_place (id_before s start) ≤ end_place s
    nothing None f m =
        let none : id_before s start ≡ None = before-entry s start (omega arith) ∙ ap id_of f in subst (λ id. next_place id ≤ end_place s) (sym none) (omega arith)
    nothing (Some e) f m = let within : start - 1 - first_place s < length s.log = some_within s.log (start - 1 - first_place s) e f in absurd (omega arith)

-- a request has what is stored
pub stored-request : (s : StoredGroup) (p : PeerState) (o : Option Snapshot) → IsPlaced s → s.snapshot ≡ o → IsStoredRequest s (request_for s p o)
stored-request s p None placed e = sent-stored s (request_start s p) entries_in_request placed (omega arith)
stored-request s p (Some x) placed e =
    elim (nat_lt p.search (first_place s)) as (λ b. IsStoredRequest s (if b then SnapshotInFlight p.next_id (Some x.last) else logs_for s p)) [
      | true ↦ sym (ap (option_map (λ (y : Snapshot). y.last)) e)
      | false ↦ sent-stored s (request_start s p) entries_in_request placed (omega arith)
    ]

-- ---- a request as it leaves

-- entries go where the search doesn't stand below the log, or there is no snapshot
pub as-logs : (s : StoredGroup) (p : PeerState) (o : Option Snapshot) → ((x : Snapshot) → o ≡ Some x → nat_lt p.search (first_place s) ≡ false) → request_for s p o ≡ logs_for s p
as-logs s p None h = refl
as-logs s p (Some x) h = ap (λ b. if b then SnapshotInFlight p.next_id (Some x.last) else logs_for s p) (h x refl)

-- else the snapshot goes
pub as-snapshot : (s : StoredGroup) (p : PeerState) (o : Option Snapshot) (last : Option (LogId ℕ)) → last ≡ (meta_of o).last_log_id → is_some last ≡ true
    → nat_lt p.search (first_place s) ≡ true → SnapshotInFlight p.next_id last ≡ request_for s p o
as-snapshot s p None last e k h = let f : is_some last ≡ false = ap is_some e in absurd (true≢false (sym k ∙ f))
as-snapshot s p (Some x) last e k h =
    ap (SnapshotInFlight p.next_id) e ∙ sym (ap (λ b. if b then SnapshotInFlight p.next_id (Some x.last) else logs_for s p) h)

module _ (own n : ℕ) (entry : ProgressEntry ℕ) (lead : Lead) (r : StepResult) where
  abbrev pub peer : PeerState
  peer = peer_state n entry

  -- a request leaves for the peer, which then waits
  abbrev pub sent_as : Inflight ℕ → StepResult
  sent_as request =
      with_peer_state (peer_state n (waiting_for entry request)) lead
      (record r { messages = r.messages ++ request_to own r.state.stored (committed_id r.state) n request })

  logs-sent : IsPlaced r.state.stored → send_entries own peer lead r ≡ sent_as (logs_for r.state.stored peer)
  logs-sent p =
      let s = r.state.stored in
      let start = request_start s peer in
      let prev = id_before s start in
      let last = last_sent prev (take entries_in_request (drop (start - first_place s) s.log)) in
      let above : first_place s ≤ start = omega arith in
      ap (λ es. with_peer_state (peer_state n (waiting_for entry (logs_for s peer))) lead
      (record r {
        messages = r.messages ++ message_to own n
            (AppendRequest (record { vote = s.vote; id = Numbered peer.next_id; previous = prev; committed = committed_id r.state; entries = es }));
      }))
      (sym (sent-between s start entries_in_request p above))

  -- a request is what leaves, by the snapshot that there is
  pub request-sent : (o : Option Snapshot) → IsPlaced r.state.stored → r.state.stored.snapshot ≡ o
      → send_request own peer lead o r ≡ sent_as (request_for r.state.stored peer o)
  request-sent None p e = logs-sent p
  request-sent (Some x) p e =
      elim (nat_lt peer.search (first_place r.state.stored)) as (λ b. (if b then send_snapshot own peer lead x r else send_entries own peer lead r)
      ≡ sent_as (if b then SnapshotInFlight peer.next_id (Some x.last) else logs_for r.state.stored peer)) [
        | true ↦
            ap (λ o. with_peer_state (peer_state n (waiting_for entry (SnapshotInFlight peer.next_id (Some x.last)))) lead
            (record r { messages = r.messages ++ snapshot_to own n peer.next_id r.state.stored o })) (sym e)
        | false ↦ logs-sent p
      ]
