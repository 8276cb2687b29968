-- Low numbers in what a node has stored, in what it knows of its peers, and in messages.
use Rattle.std.specs.Prelude.{◌≡◌, ℕ, zero, suc, ◌+◌, ◌-◌, ◌<◌, ◌==◌, ◌&&◌, cond, nat_lt, Bool, true, false, List, [], ◌∷◌, ◌++◌, drop, length, slice_get, take, Option, Some, None, All, IfSome, option_and_then, refl}
use Rattle.std.proofs.Common.{arith, ltb-true, lt-ltb}
use Rattle.std.proofs.lemmas.Bool.{and_parts}
use Rattle.std.proofs.lemmas.List.Elements.{All-append, All-cons, All-drop, All-head, All-nil, All-tail, All-take}
use Rattle.raft_values.specs.declared.log_id.LogId.{LogId}
use Rattle.raft_state.specs.declared.entry.EntryPayload.TheVariants.{Blank, Normal, Membership as Members}
use Rattle.raft_group_step.specs.Values.{Entry, EntryPayload, LoggedMembership, last_membership, membership_after}
use Rattle.raft_group_step.specs.StoredGroup.{Snapshot, StoredGroup, StoringCommand, MakeGroup, SetVote, PutEntries, CutFrom, RemoveUpTo, SetSnapshot, StartAfter, after_storing, after_storing_all, end_place, entry_at, first_place, has_id_in_log, held, id_at, id_before, id_of, last_id, prefix_of}
use Rattle.raft_group_step.specs.Message.{AppendFields, AppendRequest, ReplyFields, last_sent}
use Rattle.raft_group_step.specs.Peer.{PeerState, peer_or, with_peer}
use Rattle.raft_group_step.specs.AppendRequest.{missing_entries}
use Rattle.raft_group_step.specs.SnapshotTrigger.{snapshot_at}
use Rattle.raft_group_step.specs.Refusal.{are_in_range, number_limit, numbers_of, numbers_of_entries, numbers_of_id, numbers_of_membership, numbers_of_reply, numbers_of_request, numbers_of_result}
use Rattle.raft_step_laws.specs.Numbers.{AreLow, HasLowId, IsLowSnapshot, IsLowStored}

-- ---- lists of numbers

-- which no number is, also one that is too large to count to
pub not_below_itself : (n : ℕ) → n < n → ⊥
not_below_itself n l = omega arith

abbrev pub IsLow : ℕ → Type 0
IsLow n = n < number_limit

pub none_low : AreLow []
none_low = All-nil IsLow

pub more_low : (n : ℕ) (ns : List ℕ) → n < number_limit → AreLow ns → AreLow (n ∷ ns)
more_low n ns h k = All-cons IsLow n ns h k

pub joined_low : (ms ns : List ℕ) → AreLow ms → AreLow ns → AreLow (ms ++ ns)
joined_low ms ns h k = All-append IsLow ms ns h k

pub one_low : (n : ℕ) → n < number_limit → AreLow (n ∷ [])
one_low n h = more_low n [] h none_low

pub first_low : (n : ℕ) (ns : List ℕ) → AreLow (n ∷ ns) → n < number_limit
first_low n ns h = All-head IsLow n ns h

pub rest_low : (n : ℕ) (ns : List ℕ) → AreLow (n ∷ ns) → AreLow ns
rest_low n ns h = All-tail IsLow n ns h

pub id_low : (id : LogId ℕ) → id.leader_id.term < number_limit → id.index < number_limit → AreLow (numbers_of_id (Some id))
id_low id h k = more_low id.leader_id.term (id.index ∷ []) h (one_low id.index k)

pub parts_low : (ms ns : List ℕ) → AreLow (ms ++ ns) → AreLow ms × AreLow ns
parts_low [] ns h = (none_low, h)
parts_low (m ∷ ms) ns h =
    let rest = parts_low ms ns (rest_low m (ms ++ ns) h) in (more_low m ms (first_low m (ms ++ ns) h) rest.0, rest.1)

-- what the test of the range finds
pub range_low : (ns : List ℕ) → are_in_range ns ≡ true → AreLow ns
range_low [] t = none_low
range_low (n ∷ ns) t =
    let parts = and_parts (nat_lt n number_limit) (are_in_range ns) t in
    more_low n ns (ltb-true n number_limit parts.0) (range_low ns parts.1)

pub low_range : (ns : List ℕ) → AreLow ns → are_in_range ns ≡ true
low_range [] h = refl
low_range (n ∷ ns) h = go (nat_lt n number_limit) (lt-ltb n number_limit (first_low n ns h)) (low_range ns (rest_low n ns h))
  where
    go : (b : Bool) → b ≡ true → are_in_range ns ≡ true → (b && are_in_range ns) ≡ true
    go true t u = u
    go false t u = t

-- ---- entries

pub numbers_low : (es : List Entry) → All HasLowId es → AreLow (numbers_of_entries es)
numbers_low [] h = none_low
numbers_low (e ∷ es) h =
    joined_low (numbers_of_id (Some e.log_id)) (numbers_of_entries es) (All-head HasLowId e es h) (numbers_low es (All-tail HasLowId e es h))

pub entries_low : (es : List Entry) → AreLow (numbers_of_entries es) → All HasLowId es
entries_low [] h = All-nil HasLowId
entries_low (e ∷ es) h =
    let parts = parts_low (numbers_of_id (Some e.log_id)) (numbers_of_entries es) h in
    All-cons HasLowId e es parts.0 (entries_low es parts.1)

pub missing_low : (st : StoredGroup) (es : List Entry) → All HasLowId es → All HasLowId (missing_entries st es)
missing_low st [] h = h
missing_low st (e ∷ es) h = go (has_id_in_log st e.log_id) (missing_low st es (All-tail HasLowId e es h))
  where
    go : (b : Bool) → All HasLowId (missing_entries st es) → All HasLowId (cond b (missing_entries st es) (e ∷ es))
    go true rest = rest
    go false rest = h

pub sent_low : (previous : Option (LogId ℕ)) (es : List Entry) → AreLow (numbers_of_id previous) → All HasLowId es → AreLow (numbers_of_id (last_sent previous es))
sent_low previous [] h k = h
sent_low previous (e ∷ es) h k = sent_low (Some e.log_id) es (All-head HasLowId e es k) (All-tail HasLowId e es k)

-- the log id of the last membership
pub logged_low : (before : Option LoggedMembership) (es : List Entry) → AreLow (numbers_of_membership before) → All HasLowId es → AreLow (numbers_of_membership (last_membership before es))
logged_low before [] h k = h
logged_low before (e ∷ es) h k =
    logged_low (membership_after before e.log_id e.payload) es (after e.payload) (All-tail HasLowId e es k)
  where
    after : (p : EntryPayload) → AreLow (numbers_of_membership (membership_after before e.log_id p))
    after Blank = h
    after (Normal command) = h
    after (Members m) = All-head HasLowId e es k

-- ---- log ids of what is stored

slice_low : (es : List Entry) (i : ℕ) → All HasLowId es → AreLow (numbers_of_id (id_of (slice_get es i)))
slice_low [] i h = none_low
slice_low (e ∷ es) zero h = All-head HasLowId e es h
slice_low (e ∷ es) (suc i) h = slice_low es i (All-tail HasLowId e es h)

either_low : (b : Bool) (x y : Option (LogId ℕ)) → AreLow (numbers_of_id x) → AreLow (numbers_of_id y) → AreLow (numbers_of_id (cond b x y))
either_low true x y h k = h
either_low false x y h k = k

pub entry_low : (st : StoredGroup) → IsLowStored st → (i : ℕ) → AreLow (numbers_of_id (id_of (entry_at st i)))
entry_low st h i = go (nat_lt i (first_place st))
  where
    go : (b : Bool) → AreLow (numbers_of_id (id_of (cond b None (slice_get st.log (i - first_place st)))))
    go true = none_low
    go false = slice_low st.log (i - first_place st) h.log

pub at_low : (st : StoredGroup) → IsLowStored st → (i : ℕ) → AreLow (numbers_of_id (id_at st i))
at_low st h i = either_low (i + 1 == first_place st) st.purged (id_of (entry_at st i)) h.purged (entry_low st h i)

pub before_low : (st : StoredGroup) → IsLowStored st → (i : ℕ) → AreLow (numbers_of_id (id_before st i))
before_low st h i = either_low (i == 0) None (id_at st (i - 1)) none_low (at_low st h (i - 1))

pub last_low : (st : StoredGroup) → IsLowStored st → AreLow (numbers_of_id (last_id st))
last_low st h = before_low st h (end_place st)

pub known_low : (st : StoredGroup) → IsLowStored st → (committed : Option ℕ) → AreLow (numbers_of_id (option_and_then (id_at st) committed))
known_low st h None = none_low
known_low st h (Some i) = at_low st h i

-- ---- snapshots

prefix_low : (o : Option Snapshot) → IfSome o IsLowSnapshot → All HasLowId (prefix_of o)
prefix_low None h = All-nil HasLowId
prefix_low (Some x) h = h.entries

pub built_low : (st : StoredGroup) → IsLowStored st → (id : LogId ℕ) → AreLow (numbers_of_id (Some id)) → IsLowSnapshot (snapshot_at st id)
built_low st h id k =
    let rest = drop (length (prefix_of st.snapshot) - first_place st) st.log in
    let list : All HasLowId (held st) = All-append HasLowId (prefix_of st.snapshot) rest (prefix_low st.snapshot h.snapshot) (All-drop HasLowId _ st.log h.log) in
    let xs = All-take HasLowId (id.index + 1) (held st) list in
    record { last = k; membership = logged_low None (take (id.index + 1) (held st)) none_low xs; entries = xs }

-- ---- storing commands

-- what the command stores is low
abbrev pub StoringLow : StoringCommand → Type 0
StoringLow MakeGroup = Unit {0}
StoringLow (SetVote vote) = vote.leader_id.term < number_limit
StoringLow (PutEntries place entries) = All HasLowId entries
StoringLow (CutFrom place) = Unit {0}
StoringLow (RemoveUpTo id) = AreLow (numbers_of_id (Some id))
StoringLow (SetSnapshot snapshot) = IsLowSnapshot snapshot
StoringLow (StartAfter id) = AreLow (numbers_of_id (Some id))

pub stored_low : (c : StoringCommand) (st : StoredGroup) → IsLowStored st → StoringLow c → IsLowStored (after_storing c st)
stored_low MakeGroup st h k = record { vote = h.vote; purged = h.purged; log = h.log; snapshot = h.snapshot }
stored_low (SetVote vote) st h k = record { vote = k; purged = h.purged; log = h.log; snapshot = h.snapshot }
stored_low (PutEntries place entries) st h k =
    let n = place - first_place st in
    record {
      vote = h.vote;
      purged = h.purged;
      log = All-append HasLowId (take n st.log) entries (All-take HasLowId n st.log h.log) k;
      snapshot = h.snapshot;
    }
stored_low (CutFrom place) st h k =
    record {
      vote = h.vote;
      purged = h.purged;
      log = All-take HasLowId (place - first_place st) st.log h.log;
      snapshot = h.snapshot;
    }
stored_low (RemoveUpTo id) st h k =
    record {
      vote = h.vote;
      purged = k;
      log = All-drop HasLowId (id.index + 1 - first_place st) st.log h.log;
      snapshot = h.snapshot;
    }
stored_low (SetSnapshot x) st h k = record { vote = h.vote; purged = h.purged; log = h.log; snapshot = k }
stored_low (StartAfter id) st h k = record { vote = h.vote; purged = k; log = All-nil HasLowId; snapshot = h.snapshot }

-- a stop after any number of them
pub stop_low : (k : ℕ) (cs : List StoringCommand) (st : StoredGroup) → IsLowStored st → All StoringLow cs → IsLowStored (after_storing_all (take k cs) st)
stop_low zero cs st h all = h
stop_low (suc k) [] st h all = h
stop_low (suc k) (c ∷ cs) st h all =
    stop_low k cs (after_storing c st) (stored_low c st h (All-head StoringLow c cs all)) (All-tail StoringLow c cs all)

-- ---- peers

module _ (Q : PeerState → Type 0) where
  pub found_peer : (d : PeerState) (ps : List PeerState) → Q d → All Q ps → Q (peer_or d ps)
  found_peer d [] h k = h
  found_peer d (p ∷ ps) h k = go (p.peer == d.peer) (found_peer d ps h (All-tail Q p ps k))
    where
      go : (b : Bool) → Q (peer_or d ps) → Q (cond b p (peer_or d ps))
      go true rest = All-head Q p ps k
      go false rest = rest

  pub put_peer : (p : PeerState) (ps : List PeerState) → Q p → All Q ps → All Q (with_peer p ps)
  put_peer p [] h k = All-cons Q p [] h k
  put_peer p (x ∷ xs) h k = go (x.peer == p.peer) (nat_lt p.peer x.peer) (put_peer p xs h (All-tail Q x xs k))
    where
      go : (b c : Bool) → All Q (with_peer p xs) → All Q (cond b (p ∷ xs) (cond c (p ∷ x ∷ xs) (x ∷ with_peer p xs)))
      go true c rest = All-cons Q p xs h (All-tail Q x xs k)
      go false true rest = All-cons Q p (x ∷ xs) h k
      go false false rest = All-cons Q x (with_peer p xs) (All-head Q x xs k) rest

-- ---- the numbers of messages

pub record LowRequest (m : AppendFields) : Type 0 where
  pub vote : m.vote.leader_id.term < number_limit
  pub id : AreLow (numbers_of_request m.id)
  pub previous : AreLow (numbers_of_id m.previous)
  pub committed : AreLow (numbers_of_id m.committed)
  pub entries : All HasLowId m.entries

pub record LowReply (m : ReplyFields) : Type 0 where
  pub vote : m.vote.leader_id.term < number_limit
  pub id : AreLow (numbers_of_request m.id)
  pub previous : AreLow (numbers_of_id m.previous)
  pub last : AreLow (numbers_of_id m.last)
  pub outcome : AreLow (numbers_of_result m.outcome)

pub request_low : (m : AppendFields) → LowRequest m → AreLow (numbers_of (AppendRequest m))
request_low m h =
    let ids = numbers_of_request m.id in
    let previous = ids ++ numbers_of_id m.previous in
    let committed = previous ++ numbers_of_id m.committed in
    more_low m.vote.leader_id.term (committed ++ numbers_of_entries m.entries) h.vote
    (joined_low committed (numbers_of_entries m.entries)
    (joined_low previous (numbers_of_id m.committed) (joined_low ids (numbers_of_id m.previous) h.id h.previous) h.committed)
    (numbers_low m.entries h.entries))

pub request_parts : (m : AppendFields) → AreLow (numbers_of (AppendRequest m)) → LowRequest m
request_parts m h =
    let ids = numbers_of_request m.id in
    let previous = ids ++ numbers_of_id m.previous in
    let committed = previous ++ numbers_of_id m.committed in
    let all = committed ++ numbers_of_entries m.entries in
    let three = parts_low committed (numbers_of_entries m.entries) (rest_low m.vote.leader_id.term all h) in
    let two = parts_low previous (numbers_of_id m.committed) three.0 in
    let one = parts_low ids (numbers_of_id m.previous) two.0 in
    record {
      vote = first_low m.vote.leader_id.term all h;
      id = one.0;
      previous = one.1;
      committed = two.1;
      entries = entries_low m.entries three.1;
    }

pub reply_low : (m : ReplyFields) → LowReply m → AreLow (numbers_of_reply m)
reply_low m h =
    let ids = numbers_of_request m.id in
    let previous = ids ++ numbers_of_id m.previous in
    let last = previous ++ numbers_of_id m.last in
    more_low m.vote.leader_id.term (last ++ numbers_of_result m.outcome) h.vote
    (joined_low last (numbers_of_result m.outcome)
    (joined_low previous (numbers_of_id m.last) (joined_low ids (numbers_of_id m.previous) h.id h.previous) h.last)
    h.outcome)

pub reply_parts : (m : ReplyFields) → AreLow (numbers_of_reply m) → LowReply m
reply_parts m h =
    let ids = numbers_of_request m.id in
    let previous = ids ++ numbers_of_id m.previous in
    let last = previous ++ numbers_of_id m.last in
    let all = last ++ numbers_of_result m.outcome in
    let three = parts_low last (numbers_of_result m.outcome) (rest_low m.vote.leader_id.term all h) in
    let two = parts_low previous (numbers_of_id m.last) three.0 in
    let one = parts_low ids (numbers_of_id m.previous) two.0 in
    record { vote = first_low m.vote.leader_id.term all h; id = one.0; previous = one.1; last = two.1; outcome = three.1 }
