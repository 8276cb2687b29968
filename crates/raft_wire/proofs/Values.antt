-- The readers of votes, log ids, memberships and entries fit their spellings.
use Rattle.std.proofs.Common.{◌≡◌, ℕ, zero, suc, ◌^◌, ◌<◌, ◌≤◌, Bool, true, cond, List, [], ◌∷◌, ◌++◌, length, Option, Some, None, Ok, Err, refl, sym, subst, arith}
use Rattle.std.specs.Int.{w64, to_be_bytes}
use Rattle.std.specs.Str.{is_utf8}
use Rattle.std.proofs.lemmas.Str.{IsUtf8-from_is_utf8, is_utf8-from_IsUtf8}
use Rattle.std.proofs.lemmas.Bool.{ltb-true, lt-ltb}
use Rattle.raft_values.specs.declared.log_id.LogId.{LogId}
use Rattle.raft_state.specs.declared.entry.EntryPayload.TheVariants.{Blank, Normal, Membership as Members}
use Rattle.raft_values.specs.Vote.{vote_of}
use Rattle.raft_values.specs.LogId.{log_id_of}
use Rattle.raft_group_step.specs.Values.{Entry, EntryPayload}
use Rattle.raft_wire.specs.declared.error.FrameFault.TheVariants as fault
use Rattle.raft_wire.specs.Reader.{both, made, tested, number_at, piece_at, counted_at, text_at}
use Rattle.raft_wire.specs.Fields.{spelled_flag, flag_at, spelled_vote, FitsVote, vote_at, spelled_log_id, FitsLogId, log_id_at, spelled_last, FitsLast, last_at}
use Rattle.raft_wire.specs.Memberships.{Chained, spelled_list, is_above, IsAbove, FitsId, spelled_id, id_above, that_id, spelled_ids, FitsIds, ids_at, nothing_left}
use Rattle.raft_wire.specs.Memberships.{spelled_address, FitsAddress, address_at, spelled_node, FitsNode, node_above, that_node, spelled_membership, FitsMembership, membership_of, membership_at}
use Rattle.raft_wire.specs.Entries.{spelled_text, spelled_payload, FitsPayload, normal_of, members_of, payload_at, spelled_entry, FitsEntry, follows, entry_of, entry_behind, entry_at}
use Rattle.raft_bytes.specs.Bytes.{AreBytes}
use Rattle.raft_bytes.proofs.Bytes.{AreBytes-rest, bind_ok, passed_ok, ok_is, Takes, Takes-behind}
use Rattle.raft_wire.proofs.Fitting.{Reads, fits_as, both_reads, made_reads, tested_reads, u64_reads, flag_reads, Anything, option_reads, piece_takes, piece_again, text_reads}
use Rattle.raft_wire.proofs.Lists.{counted_reads}

-- ---- votes and log ids

abbrev Numbered : ℕ → Type 0
Numbered n = n < 2 ^ 64

pub vote_reads : Reads vote_at spelled_vote FitsVote
unfolding vote_at
vote_reads =
    let node_and_flag = both_reads (number_at w64) (to_be_bytes w64) Numbered flag_at spelled_flag Anything u64_reads flag_reads in
    let fields = both_reads (number_at w64) (to_be_bytes w64) Numbered (both (number_at w64) flag_at) (λ p. to_be_bytes w64 p.0 ++ spelled_flag p.1) (λ p. Numbered p.0 × Anything p.1) u64_reads node_and_flag in
    let whole = made_reads (λ (x : ℕ × (ℕ × Bool)). vote_of x.0 x.1.0 x.1.1) (λ v. (v.leader_id.term, (v.leader_id.node_id, v.committed))) (both (number_at w64) (both (number_at w64) flag_at))
    (λ p. to_be_bytes w64 p.0 ++ (to_be_bytes w64 p.1.0 ++ spelled_flag p.1.1)) (λ p. Numbered p.0 × (Numbered p.1.0 × Anything p.1.1)) (λ v. refl) (λ p. refl) fields in
    fits_as vote_at spelled_vote (λ v. Numbered v.leader_id.term × (Numbered v.leader_id.node_id × Unit {0})) FitsVote whole (λ v h. record { term = h.0; node = h.1.0 }) (λ v h. (h.term, (h.node, tt)))

pub log_id_reads : Reads log_id_at spelled_log_id FitsLogId
unfolding log_id_at
log_id_reads =
    let node_and_index = both_reads (number_at w64) (to_be_bytes w64) Numbered (number_at w64) (to_be_bytes w64) Numbered u64_reads u64_reads in
    let fields = both_reads (number_at w64) (to_be_bytes w64) Numbered (both (number_at w64) (number_at w64)) (λ p. to_be_bytes w64 p.0 ++ to_be_bytes w64 p.1) (λ p. Numbered p.0 × Numbered p.1) u64_reads node_and_index in
    let whole = made_reads (λ (x : ℕ × (ℕ × ℕ)). log_id_of x.0 x.1.0 x.1.1) (λ v. (v.leader_id.term, (v.leader_id.node_id, v.index))) (both (number_at w64) (both (number_at w64) (number_at w64)))
    (λ p. to_be_bytes w64 p.0 ++ (to_be_bytes w64 p.1.0 ++ to_be_bytes w64 p.1.1)) (λ p. Numbered p.0 × (Numbered p.1.0 × Numbered p.1.1)) (λ v. refl) (λ p. refl) fields in
    fits_as log_id_at spelled_log_id (λ v. Numbered v.leader_id.term × (Numbered v.leader_id.node_id × Numbered v.index)) FitsLogId whole (λ v h. record { term = h.0; node = h.1.0; index = h.1.1 }) (λ v h. (h.term, (h.node, h.index)))

pub last_reads : Reads last_at spelled_last FitsLast
last_reads = option_reads log_id_at spelled_log_id FitsLogId log_id_reads

-- ---- ids

pub above : (last : Option ℕ) (id : ℕ) → is_above last id ≡ true → IsAbove last id
above None id h = tt
above (Some last) id h = ltb-true _ _ h

tests_above : (last : Option ℕ) (id : ℕ) → IsAbove last id → is_above last id ≡ true
tests_above None id h = refl
tests_above (Some last) id h = lt-ltb _ _ h

pub id_reads : (last : Option ℕ) → Reads (id_above last) spelled_id (FitsId last)
unfolding id_above
id_reads last =
    let numbers = tested_reads fault.NotRising (is_above last) (number_at w64) (to_be_bytes w64) Numbered u64_reads in
    fits_as (tested fault.NotRising (is_above last) (number_at w64)) (to_be_bytes w64) (λ id. Numbered id × (is_above last id ≡ true)) (FitsId last) numbers
    (λ id h. record { rising = above last id h.1; number = h.0 }) (λ id h. (h.number, tests_above last id h.rising))

pub ids_reads : Reads ids_at spelled_ids FitsIds
unfolding ids_at
ids_reads = counted_reads id_above that_id spelled_id FitsId id_reads 64 (omega arith)

-- ---- nodes

address_takes : (bytes : List ℕ) (x : List ℕ × List ℕ) → AreBytes bytes → address_at bytes ≡ Ok x → Takes bytes (spelled_address x.0) x.1 × FitsAddress x.0
unfolding address_at
address_takes [] x fits e = absurd cc
address_takes (n ∷ bytes) x fits e =
    let a = bind_ok (piece_at n bytes) (λ a. cond (is_utf8 a.0) (Ok a) (Err fault.NotUtf8)) x e in
    let g = passed_ok (is_utf8 a.0.0) fault.NotUtf8 a.0 x a.2 in
    let t = piece_takes n bytes a.0 (AreBytes-rest n bytes fits) a.1 in
    let small : n < 256 = fits 0 in
    let whole = Takes-behind n bytes a.0.0 a.0.1 t.0 in
    let counted : Takes (n ∷ bytes) (spelled_address a.0.0) a.0.1 = subst (λ (k : ℕ). Takes (n ∷ bytes) (k ∷ a.0.0) a.0.1) (sym t.1) whole in
    subst (λ (y : List ℕ × List ℕ). Takes (n ∷ bytes) (spelled_address y.0) y.1 × FitsAddress y.0) g.1 (counted, record { length = omega (arith, t.1, small); text = IsUtf8-from_is_utf8 a.0.0 g.0 })

address_again : (address rest : List ℕ) → FitsAddress address → address_at (spelled_address address ++ rest) ≡ Ok (address, rest)
unfolding address_at
address_again address rest h = rw (piece_again address rest, is_utf8-from_IsUtf8 address h.text) refl

pub address_reads : Reads address_at spelled_address FitsAddress
address_reads = record {
  takes = λ bytes address rest fits e. address_takes bytes (address, rest) fits e;
  again = λ address rest h. address_again address rest h;
}

pub node_reads : (last : Option ℕ) → Reads (node_above last) spelled_node (FitsNode last)
unfolding node_above
node_reads last = both_reads (id_above last) spelled_id (FitsId last) address_at spelled_address FitsAddress (id_reads last) address_reads

-- ---- memberships

pub membership_reads : Reads membership_at spelled_membership FitsMembership
unfolding membership_at
membership_reads =
    let groups_at = counted_at (λ _. ids_at) nothing_left 8 in
    let nodes_at = counted_at node_above that_node 128 in
    let groups = counted_reads (λ _. ids_at) nothing_left spelled_ids (λ _ ids. FitsIds ids) (λ _. ids_reads) 8 (omega arith) in
    let nodes = counted_reads node_above that_node spelled_node FitsNode node_reads 128 (omega arith) in
    let fields = both_reads groups_at (spelled_list spelled_ids) (λ gs. (length gs ≤ 8) × Chained (λ _ ids. FitsIds ids) nothing_left None gs) nodes_at (spelled_list spelled_node) (λ ns. (length ns ≤ 128) × Chained FitsNode that_node None ns) groups nodes in
    let whole = made_reads membership_of (λ m. (m.configs, m.nodes)) (both groups_at nodes_at) (λ p. spelled_list spelled_ids p.0 ++ spelled_list spelled_node p.1)
    (λ p. ((length p.0 ≤ 8) × Chained (λ _ ids. FitsIds ids) nothing_left None p.0) × ((length p.1 ≤ 128) × Chained FitsNode that_node None p.1)) (λ m. refl) (λ p. refl) fields in
    fits_as (made membership_of (both groups_at nodes_at)) spelled_membership
    (λ m. ((length m.configs ≤ 8) × Chained (λ _ ids. FitsIds ids) nothing_left None m.configs) × ((length m.nodes ≤ 128) × Chained FitsNode that_node None m.nodes)) FitsMembership whole
    (λ m h. record { group_count = h.0.0; groups = h.0.1; node_count = h.1.0; nodes = h.1.1 }) (λ m h. ((h.group_count, h.groups), (h.node_count, h.nodes)))

-- ---- entries

command_reads : Reads (text_at 65536) spelled_text (λ command. length command ≤ 65536)
command_reads = text_reads 65536 (omega arith)

payload_takes : (bytes : List ℕ) (x : EntryPayload × List ℕ) → AreBytes bytes → payload_at bytes ≡ Ok x → Takes bytes (spelled_payload x.0) x.1 × FitsPayload x.0
unfolding payload_at
payload_takes [] x fits e = absurd cc
payload_takes (zero ∷ bytes) x fits e =
    subst (λ (y : EntryPayload × List ℕ). Takes (0 ∷ bytes) (spelled_payload y.0) y.1 × FitsPayload y.0) (ok_is (Blank, bytes) x e) (record { parts = refl; rest_fits = AreBytes-rest 0 bytes fits }, tt)
payload_takes (suc zero ∷ bytes) x fits e =
    let a = bind_ok (text_at 65536 bytes) (λ a. Ok (normal_of a.0, a.1)) x e in
    let t = command_reads.takes bytes a.0.0 a.0.1 (AreBytes-rest 1 bytes fits) a.1 in
    subst (λ (y : EntryPayload × List ℕ). Takes (1 ∷ bytes) (spelled_payload y.0) y.1 × FitsPayload y.0) (ok_is (Normal a.0.0, a.0.1) x a.2) (Takes-behind 1 bytes (spelled_text a.0.0) a.0.1 t.0, t.1)
payload_takes (suc (suc zero) ∷ bytes) x fits e =
    let a = bind_ok (membership_at bytes) (λ a. Ok (members_of a.0, a.1)) x e in
    let t = membership_reads.takes bytes a.0.0 a.0.1 (AreBytes-rest 2 bytes fits) a.1 in
    subst (λ (y : EntryPayload × List ℕ). Takes (2 ∷ bytes) (spelled_payload y.0) y.1 × FitsPayload y.0) (ok_is (Members a.0.0, a.0.1) x a.2) (Takes-behind 2 bytes (spelled_membership a.0.0) a.0.1 t.0, t.1)
payload_takes (suc (suc (suc b)) ∷ bytes) x fits e = absurd cc

payload_again : (payload : EntryPayload) (rest : List ℕ) → FitsPayload payload → payload_at (spelled_payload payload ++ rest) ≡ Ok (payload, rest)
unfolding payload_at
payload_again Blank rest h = refl
payload_again (Normal command) rest h = rw (command_reads.again command rest h) refl
payload_again (Members m) rest h = rw (membership_reads.again m rest h) refl

payload_reads : Reads payload_at spelled_payload FitsPayload
payload_reads = record {
  takes = λ bytes payload rest fits e. payload_takes bytes (payload, rest) fits e;
  again = λ payload rest h. payload_again payload rest h;
}

pub entry_reads : (last : Option ℕ) → Reads (entry_behind last) spelled_entry (λ e. FitsEntry e × (follows last e.log_id.index ≡ true))
unfolding entry_behind
entry_reads last =
    let id_at = tested fault.NotRising (λ (id : LogId ℕ). follows last id.index) log_id_at in
    let ids = tested_reads fault.NotRising (λ (id : LogId ℕ). follows last id.index) log_id_at spelled_log_id FitsLogId log_id_reads in
    let fields = both_reads id_at spelled_log_id (λ (id : LogId ℕ). FitsLogId id × (follows last id.index ≡ true)) payload_at spelled_payload FitsPayload ids payload_reads in
    let whole = made_reads entry_of (λ (e : Entry). (e.log_id, e.payload)) (both id_at payload_at) (λ p. spelled_log_id p.0 ++ spelled_payload p.1) (λ p. (FitsLogId p.0 × (follows last p.0.index ≡ true)) × FitsPayload p.1) (λ e. refl) (λ p. refl) fields in
    fits_as (made entry_of (both id_at payload_at)) spelled_entry (λ e. (FitsLogId e.log_id × (follows last e.log_id.index ≡ true)) × FitsPayload e.payload) (λ e. FitsEntry e × (follows last e.log_id.index ≡ true)) whole
    (λ e h. (record { log_id = h.0.0; payload = h.1 }, h.0.1)) (λ e h. ((h.0.log_id, h.1), h.0.payload))

pub entry_alone_reads : Reads entry_at spelled_entry FitsEntry
unfolding entry_at
entry_alone_reads = fits_as (entry_behind None) spelled_entry (λ e. FitsEntry e × (follows None e.log_id.index ≡ true)) FitsEntry (entry_reads None) (λ e h. h.0) (λ e h. (h, refl))
