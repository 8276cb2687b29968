-- A frame within its limits is no longer than a frame may be.
use Rattle.std.proofs.Common.{◌≡◌, ℕ, ◌+◌, ◌*◌, ◌<◌, ◌≤◌, Bool, true, false, not, ◌&&◌, cond, nat_le, List, [], ◌∷◌, ◌++◌, length, Option, Some, None, refl, ap, arith, length-append}
use Rattle.std.specs.List.{flat_map, list_all}
use Rattle.std.specs.Int.{w32, w64, to_be_bytes}
use Rattle.std.proofs.lemmas.Bool.{leb-true, and_parts}
use Rattle.std.proofs.lemmas.List.Concat.{flat_map-cons}
use Rattle.std.proofs.Math.Nat.{suc-mul}
use Rattle.raft_values.specs.declared.vote.Vote.{Vote}
use Rattle.raft_values.specs.declared.log_id.LogId.{LogId}
use Rattle.raft_state.specs.declared.entry.EntryPayload.TheVariants.{Blank, Normal, Membership as Members}
use Rattle.raft_group_step.specs.Values.{Membership, Entry, EntryPayload, LoggedMembership, is_within_limits}
use Rattle.raft_messages.specs.declared.message.RequestId.{RequestId}
use Rattle.raft_messages.specs.declared.message.RequestId.TheVariants.{HeartBeat, Numbered}
use Rattle.raft_group_step.specs.declared.append_entries.AppendEntriesResponse.{AppendEntriesResponse}
use Rattle.raft_group_step.specs.declared.append_entries.AppendEntriesResponse.TheVariants.{Success, PartialSuccess, Conflict, HigherVote}
use Rattle.raft_messages.specs.declared.message.AppendFields.{AppendFields}
use Rattle.raft_messages.specs.declared.message.ReplyFields.{ReplyFields}
use Rattle.raft_messages.specs.declared.message.MessageBody.TheVariants as body
use Rattle.raft_wire.specs.declared.error.FrameFault.{FrameFault}
use Rattle.raft_wire.specs.declared.error.FrameFault.TheVariants as fault
use Rattle.raft_wire.specs.declared.frame.Frame.{Frame}
use Rattle.raft_wire.specs.Fields.{spelled_flag, spelled_vote, spelled_log_id, spelled_last, spelled_option}
use Rattle.raft_wire.specs.Memberships.{spelled_list, spelled_id, spelled_ids, spelled_address, spelled_node, spelled_membership}
use Rattle.raft_wire.specs.Entries.{spelled_text, spelled_payload, spelled_entry}
use Rattle.raft_group_step.specs.Refusal.{is_payload_short}
use Rattle.raft_wire.specs.Bodies.{spelled_id as spelled_request_id, spelled_append, spelled_result, spelled_reply, spelled_logged, spelled_snapshot, SentSnapshot, sent, spelled_sent, spelled_number}
use Rattle.raft_wire.specs.Frames.{Body, spelled_parties, spelled_body, spelled_rest, are_consecutive, are_entries_short, is_logged_short, is_snapshot_short, fault_of_entries, fault_of_snapshot, fault_of_frame}

-- ---- lists

module _ {A : Type 0} (spelled : A → List ℕ) (test : A → Bool) (most : ℕ) (each : (a : A) → test a ≡ true → length (spelled a) ≤ most) where
  all_short : (xs : List A) → list_all test xs ≡ true → length (flat_map spelled xs) ≤ length xs * most
  all_short [] h = omega arith
  all_short (x ∷ xs) h =
      let t = and_parts (test x) (list_all test xs) h in
      let first = each x t.0 in
      let others = all_short xs t.1 in
      omega (arith, ap length (flat_map-cons spelled x xs), length-append (spelled x) (flat_map spelled xs), suc-mul (length xs) most)

ids_short : (ids : List ℕ) → length (flat_map spelled_id ids) ≡ length ids * 8
ids_short [] = refl
ids_short (id ∷ ids) = omega (arith, ap length (flat_map-cons spelled_id id ids), length-append (spelled_id id) (flat_map spelled_id ids), ids_short ids)

group_short : (ids : List ℕ) → nat_le (length ids) 64 ≡ true → length (spelled_ids ids) ≤ 516
group_short ids h =
    let few : length ids ≤ 64 = leb-true _ _ h in
    omega (arith, length-append (to_be_bytes w32 (length ids)) (flat_map spelled_id ids), ids_short ids)

node_short : (node : ℕ × List ℕ) → nat_le (length node.1) 255 ≡ true → length (spelled_node node) ≤ 264
node_short node h =
    let few : length node.1 ≤ 255 = leb-true _ _ h in
    omega (arith, length-append (to_be_bytes w64 node.0) (spelled_address node.1))

membership_short : (m : Membership) → is_within_limits m ≡ true → length (spelled_membership m) ≤ 37928
membership_short m h =
    let a = and_parts (nat_le (length m.configs) 8 && list_all (λ (group : List ℕ). nat_le (length group) 64) m.configs && nat_le (length m.nodes) 128) (list_all (λ (x : ℕ × List ℕ). nat_le (length x.1) 255) m.nodes) h in
    let b = and_parts (nat_le (length m.configs) 8 && list_all (λ (group : List ℕ). nat_le (length group) 64) m.configs) (nat_le (length m.nodes) 128) a.0 in
    let c = and_parts (nat_le (length m.configs) 8) (list_all (λ (group : List ℕ). nat_le (length group) 64) m.configs) b.0 in
    let few_groups : length m.configs ≤ 8 = leb-true _ _ c.0 in
    let few_nodes : length m.nodes ≤ 128 = leb-true _ _ b.1 in
    let groups = all_short spelled_ids (λ (group : List ℕ). nat_le (length group) 64) 516 group_short m.configs c.1 in
    let nodes = all_short spelled_node (λ (x : ℕ × List ℕ). nat_le (length x.1) 255) 264 node_short m.nodes a.1 in
    omega (
      arith,
      length-append (spelled_list spelled_ids m.configs) (spelled_list spelled_node m.nodes),
      length-append (to_be_bytes w32 (length m.configs)) (flat_map spelled_ids m.configs),
      length-append (to_be_bytes w32 (length m.nodes)) (flat_map spelled_node m.nodes),
    )

-- ---- entries

payload_short : (payload : EntryPayload) → is_payload_short payload ≡ true → length (spelled_payload payload) ≤ 65541
payload_short Blank h = omega arith
payload_short (Normal command) h =
    let short : length command ≤ 65536 = leb-true _ _ h in
    omega (arith, length-append (to_be_bytes w32 (length command)) command)
payload_short (Members m) h = omega (arith, membership_short m h)

log_id_len : (id : LogId ℕ) → length (spelled_log_id id) ≡ 24
log_id_len id = refl

entry_short : (e : Entry) → is_payload_short e.payload ≡ true → length (spelled_entry e) ≤ 65565
entry_short e h = omega (arith, length-append (spelled_log_id e.log_id) (spelled_payload e.payload), log_id_len e.log_id, payload_short e.payload h)

-- ---- bodies

flag_len : (flag : Bool) → length (spelled_flag flag) ≡ 1
flag_len true = refl
flag_len false = refl

vote_len : (v : Vote ℕ) → length (spelled_vote v) ≤ 17
vote_len v = elim v.committed as (λ c. length (to_be_bytes w64 v.leader_id.term ++ (to_be_bytes w64 v.leader_id.node_id ++ spelled_flag c)) ≤ 17) [ true ↦ omega arith | false ↦ omega arith ]

last_len : (id : Option (LogId ℕ)) → length (spelled_last id) ≤ 25
last_len None = omega arith
last_len (Some id) = omega (arith, log_id_len id)

id_len : (id : RequestId) → length (spelled_request_id id) ≤ 9
id_len HeartBeat = omega arith
id_len (Numbered id) = omega arith

result_len : (r : AppendEntriesResponse ℕ) → length (spelled_result r) ≤ 18
result_len Success = omega arith
result_len (PartialSuccess last) = omega arith
result_len Conflict = omega arith
result_len (HigherVote vote) = omega (arith, vote_len vote)

none_unless : (b : Bool) (r : Option FrameFault) → cond (not b) (Some fault.TooLong) r ≡ None → b ≡ true
none_unless true r h = refl
none_unless false r h = absurd cc

none_where : (b : Bool) → cond b None (Some fault.TooLong) ≡ None → b ≡ true
none_where true h = refl
none_where false h = absurd cc

pub entries_are_short : (es : List Entry) → fault_of_entries es ≡ None → are_entries_short es ≡ true
entries_are_short es h = none_unless (are_entries_short es) (cond (not (are_consecutive None es)) (Some fault.NotRising) None) h

pub snapshot_is_short : (m : Option LoggedMembership) (bytes : List ℕ) → fault_of_snapshot m bytes ≡ None → is_snapshot_short m bytes ≡ true
snapshot_is_short m bytes h = none_where (is_snapshot_short m bytes) h

entries_short : (es : List Entry) → are_entries_short es ≡ true → length (spelled_list spelled_entry es) ≤ 4196164
entries_short es h =
    let t = and_parts (nat_le (length es) 64) (list_all (λ (e : Entry). is_payload_short e.payload) es) h in
    let few : length es ≤ 64 = leb-true _ _ t.0 in
    let all = all_short spelled_entry (λ (e : Entry). is_payload_short e.payload) 65565 entry_short es t.1 in
    omega (arith, length-append (to_be_bytes w32 (length es)) (flat_map spelled_entry es))

three : (a b c : List ℕ) → length (a ++ b ++ c) ≡ length a + length b + length c
three a b c = omega (arith, length-append (a ++ b) c, length-append a b)

five : (a b c d e : List ℕ) → length (a ++ b ++ c ++ d ++ e) ≡ length a + length b + length c + length d + length e
five a b c d e = omega (arith, length-append (a ++ b ++ c ++ d) e, length-append (a ++ b ++ c) d, three a b c)

append_short : (m : AppendFields) → are_entries_short m.entries ≡ true → length (spelled_append m) ≤ 4200000
append_short m h =
    omega (
      arith,
      five (spelled_flag m.vote.committed) (spelled_request_id m.id) (spelled_last m.previous) (spelled_last m.committed) (spelled_list spelled_entry m.entries),
      flag_len m.vote.committed,
      id_len m.id,
      last_len m.previous,
      last_len m.committed,
      entries_short m.entries h,
    )

reply_short : (m : ReplyFields) → length (spelled_reply m) ≤ 16816000
reply_short m =
    omega (
      arith,
      five (spelled_flag m.vote.committed) (spelled_request_id m.id) (spelled_last m.previous) (spelled_last m.last) (spelled_result m.outcome),
      flag_len m.vote.committed,
      id_len m.id,
      last_len m.previous,
      last_len m.last,
      result_len m.outcome,
    )

logged_short : (m : Option LoggedMembership) → is_logged_short m ≡ true → length (spelled_option spelled_logged m) ≤ 37953
logged_short None h = omega arith
logged_short (Some m) h = omega (arith, length-append (spelled_log_id m.log_id) (spelled_membership m.membership), log_id_len m.log_id, membership_short m.membership h)

sent_short : (s : SentSnapshot) → is_snapshot_short s.snapshot.meta.last_membership s.snapshot.bytes ≡ true → length (spelled_sent s) ≤ 16816000
sent_short s h =
    let meta = s.snapshot.meta in
    let bytes = s.snapshot.bytes in
    let t = and_parts (is_logged_short meta.last_membership) (nat_le (length bytes) 16777216) h in
    let short : length bytes ≤ 16777216 = leb-true _ _ t.1 in
    omega (
      arith,
      three (spelled_flag s.vote.committed) (spelled_number s.number) (spelled_snapshot s.snapshot),
      three (spelled_log_id meta.last_log_id) (spelled_option spelled_logged meta.last_membership) (spelled_text bytes),
      length-append (to_be_bytes w32 (length bytes)) bytes,
      flag_len s.vote.committed,
      log_id_len meta.last_log_id,
      logged_short meta.last_membership t.0,
    )

body_short : (b : Body) → fault_of_frame b ≡ None → length (spelled_body b) ≤ 16816000
body_short (body.VoteRequest r) h = omega (arith, length-append (spelled_flag r.vote.committed) (spelled_last r.last_log_id), flag_len r.vote.committed, last_len r.last_log_id)
body_short (body.VoteReply r) h =
    omega (arith, three (spelled_flag r.vote.committed) (spelled_flag r.vote_granted) (spelled_last r.last_log_id), flag_len r.vote.committed, flag_len r.vote_granted, last_len r.last_log_id)
body_short (body.AppendRequest m) h = omega (arith, append_short m (entries_are_short m.entries h))
body_short (body.AppendReply m) h = reply_short m
body_short (body.SnapshotRequest vote id s) h = sent_short (sent vote id s) (snapshot_is_short s.meta.last_membership s.bytes h)
body_short (body.SnapshotReply m) h = reply_short m

pub rest_short : (f : Frame) → fault_of_frame f.message.body ≡ None → length (spelled_rest f) ≤ 17825788
rest_short f h = omega (arith, length-append (spelled_parties f) (spelled_body f.message.body), body_short f.message.body h)

pub joined_short : (start rest out : List ℕ) → length start ≤ 4 → length rest ≤ 17825788 → out ≡ start ++ rest → length out < 4294967296
joined_short start rest out a b e = omega (arith, ap length e, length-append start rest)
