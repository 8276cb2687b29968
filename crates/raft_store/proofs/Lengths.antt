-- How long the bytes of entries and snapshots within their limits are.
use Rattle.std.proofs.Common.{◌≡◌, ℕ, ◌+◌, ◌*◌, ◌≤◌, Bool, true, false, ◌&&◌, nat_le, List, [], ◌∷◌, ◌++◌, length, map, Option, Some, None, refl, ap, arith, length-append}
use Rattle.std.specs.List.{flat_map, list_all}
use Rattle.std.specs.Int.{w32, w64, to_be_bytes}
use Rattle.std.proofs.lemmas.Bool.{leb-true, and_parts}
use Rattle.std.proofs.lemmas.List.Concat.{flat_map-cons}
use Rattle.std.proofs.lemmas.List.Elements.{All-head, All-tail}
use Rattle.std.proofs.Math.Nat.{suc-mul}
use Rattle.raft_values.specs.declared.log_id.LogId.{LogId}
use Rattle.raft_values.specs.declared.vote.Vote.{Vote}
use Rattle.raft_state.specs.declared.entry.EntryPayload.TheVariants.{Blank, Normal, Membership as Members}
use Rattle.raft_group_step.specs.Values.{Membership, Entry, EntryPayload, LoggedMembership, is_within_limits}
use Rattle.raft_group_step.specs.Refusal.{is_payload_short}
use Rattle.raft_messages.specs.declared.memberships.SnapshotBytes.{SnapshotBytes}
use Rattle.raft_log_records.specs.Batch.{joined}
use Rattle.raft_wire.specs.Fields.{spelled_flag, spelled_log_id, spelled_option, spelled_vote}
use Rattle.raft_wire.specs.Memberships.{spelled_list, spelled_id, spelled_ids, spelled_address, spelled_node, spelled_membership}
use Rattle.raft_wire.specs.Entries.{spelled_text, spelled_payload, spelled_entry}
use Rattle.raft_wire.specs.Bodies.{spelled_logged, spelled_snapshot}
use Rattle.raft_wire.specs.Frames.{fault_of_snapshot, is_logged_short}
use Rattle.raft_wire.proofs.Lengths.{snapshot_is_short}
use Rattle.raft_store.specs.Storable.{AreShort}

-- ---- memberships

module _ {A : Type 0} (spelled : A → List ℕ) (test : A → Bool) (most : ℕ) (each : (a : A) → test a ≡ true → length (spelled a) ≤ most) where
  all_short : (xs : List A) → list_all test xs ≡ true → length (flat_map spelled xs) ≤ length xs * most
  all_short [] h = omega arith
  all_short (x ∷ xs) h =
      let t = and_parts (test x) (list_all test xs) h in
      let first = each x t.0 in
      let others = all_short xs t.1 in
      omega (arith, ap length (flat_map-cons spelled x xs), length-append (spelled x) (flat_map spelled xs), suc-mul (length xs) most)

ids_short : (ids : List ℕ) → length (flat_map spelled_id ids) ≡ length ids * 8
ids_short [] = refl
ids_short (id ∷ ids) = omega (arith, ap length (flat_map-cons spelled_id id ids), length-append (spelled_id id) (flat_map spelled_id ids), ids_short ids)

group_short : (ids : List ℕ) → nat_le (length ids) 64 ≡ true → length (spelled_ids ids) ≤ 516
group_short ids h =
    let few : length ids ≤ 64 = leb-true _ _ h in
    omega (arith, length-append (to_be_bytes w32 (length ids)) (flat_map spelled_id ids), ids_short ids)

node_short : (node : ℕ × List ℕ) → nat_le (length node.1) 255 ≡ true → length (spelled_node node) ≤ 264
node_short node h =
    let few : length node.1 ≤ 255 = leb-true _ _ h in
    omega (arith, length-append (to_be_bytes w64 node.0) (spelled_address node.1))

membership_short : (m : Membership) → is_within_limits m ≡ true → length (spelled_membership m) ≤ 37928
membership_short m h =
    let a = and_parts (nat_le (length m.configs) 8 && list_all (λ (group : List ℕ). nat_le (length group) 64) m.configs && nat_le (length m.nodes) 128) (list_all (λ (x : ℕ × List ℕ). nat_le (length x.1) 255) m.nodes) h in
    let b = and_parts (nat_le (length m.configs) 8 && list_all (λ (group : List ℕ). nat_le (length group) 64) m.configs) (nat_le (length m.nodes) 128) a.0 in
    let c = and_parts (nat_le (length m.configs) 8) (list_all (λ (group : List ℕ). nat_le (length group) 64) m.configs) b.0 in
    let few_groups : length m.configs ≤ 8 = leb-true _ _ c.0 in
    let few_nodes : length m.nodes ≤ 128 = leb-true _ _ b.1 in
    let groups = all_short spelled_ids (λ (group : List ℕ). nat_le (length group) 64) 516 group_short m.configs c.1 in
    let nodes = all_short spelled_node (λ (x : ℕ × List ℕ). nat_le (length x.1) 255) 264 node_short m.nodes a.1 in
    omega (
      arith,
      length-append (spelled_list spelled_ids m.configs) (spelled_list spelled_node m.nodes),
      length-append (to_be_bytes w32 (length m.configs)) (flat_map spelled_ids m.configs),
      length-append (to_be_bytes w32 (length m.nodes)) (flat_map spelled_node m.nodes),
    )

-- ---- entries

payload_short : (payload : EntryPayload) → is_payload_short payload ≡ true → length (spelled_payload payload) ≤ 65541
payload_short Blank h = omega arith
payload_short (Normal command) h =
    let short : length command ≤ 65536 = leb-true _ _ h in
    omega (arith, length-append (to_be_bytes w32 (length command)) command)
payload_short (Members m) h = omega (arith, membership_short m h)

log_id_len : (id : LogId ℕ) → length (spelled_log_id id) ≡ 24
log_id_len id = refl

entry_short : (e : Entry) → is_payload_short e.payload ≡ true → length (spelled_entry e) ≤ 65565
entry_short e h = omega (arith, length-append (spelled_log_id e.log_id) (spelled_payload e.payload), log_id_len e.log_id, payload_short e.payload h)

-- the entries of a put, together
pub entries_len : (es : List Entry) → AreShort es → length (joined (map spelled_entry es)) ≤ length es * 65565
entries_len [] short = omega arith
entries_len (e ∷ es) short =
    let first = entry_short e (All-head (λ (x : Entry). is_payload_short x.payload ≡ true) e es short) in
    let others = entries_len es (All-tail (λ (x : Entry). is_payload_short x.payload ≡ true) e es short) in
    omega (arith, ap length (flat_map-cons (λ (bytes : List ℕ). bytes) (spelled_entry e) (map spelled_entry es)), length-append (spelled_entry e) (joined (map spelled_entry es)), suc-mul (length es) 65565)

-- ---- snapshots

logged_short : (m : Option LoggedMembership) → is_logged_short m ≡ true → length (spelled_option spelled_logged m) ≤ 37953
logged_short None h = omega arith
logged_short (Some m) h = omega (arith, length-append (spelled_log_id m.log_id) (spelled_membership m.membership), log_id_len m.log_id, membership_short m.membership h)

three : (a b c : List ℕ) → length (a ++ b ++ c) ≡ length a + length b + length c
three a b c = omega (arith, length-append (a ++ b) c, length-append a b)

pub snapshot_len : (x : SnapshotBytes) → fault_of_snapshot x.meta.last_membership x.bytes ≡ None → length (spelled_snapshot x) ≤ 16816000
snapshot_len x right =
    let t = and_parts (is_logged_short x.meta.last_membership) (nat_le (length x.bytes) 16777216) (snapshot_is_short x.meta.last_membership x.bytes right) in
    let short : length x.bytes ≤ 16777216 = leb-true _ _ t.1 in
    omega (
      arith,
      three (spelled_log_id x.meta.last_log_id) (spelled_option spelled_logged x.meta.last_membership) (spelled_text x.bytes),
      length-append (to_be_bytes w32 (length x.bytes)) x.bytes,
      log_id_len x.meta.last_log_id,
      logged_short x.meta.last_membership t.0,
    )

-- ---- votes

pub vote_len : (v : Vote ℕ) → length (spelled_vote v) ≤ 17
vote_len v = elim v.committed as (λ c. length (to_be_bytes w64 v.leader_id.term ++ (to_be_bytes w64 v.leader_id.node_id ++ spelled_flag c)) ≤ 17) [ true ↦ omega arith | false ↦ omega arith ]
