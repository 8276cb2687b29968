-- Lists whose items fit, and which are in order, fit as a whole.
use Rattle.std.proofs.Common.{◌≡◌, ℕ, ◌<◌, ◌≤◌, ◌^◌, Bool, true, false, not, cond, length, refl, List, [], ◌∷◌, map, Option, Some, None, sym, arith}
use Rattle.std.specs.declared.cmp.Ordering.TheVariants.{Less}
use Rattle.std.specs.Ordering.{nat_cmp}
use Rattle.std.specs.Prelude.{nat_le, ◌&&◌}
use Rattle.std.specs.List.{All, AllWithin, list_all}
use Rattle.std.proofs.lemmas.Cmp.{ranked}
use Rattle.std.proofs.lemmas.Bool.{and_parts}
use Rattle.std.proofs.lemmas.Bool.Decides.{nat_tests}
use Rattle.std.proofs.lemmas.List.Elements.{All-head, All-tail, All-from_all_within, AllWithin-upto}
use Rattle.raft_quorums.specs.Rising.{IsBelowAll, IsRising, IsRisingByFirst}
use Rattle.raft_group_step.specs.Values.{Entry}
use Rattle.raft_messages.specs.declared.message.AppendFields.{AppendFields}
use Rattle.raft_wire.specs.Memberships.{Chained, FitsId as FitsIdAbove, that_id, FitsIds, nothing_left, FitsAddress, FitsNode, that_node}
use Rattle.raft_wire.specs.Entries.{FitsEntry, that_place}
use Rattle.raft_wire.specs.Bodies.{FitsBehind, FitsId, FitsAppend}
use Rattle.raft_wire.specs.Fields.{FitsVote, FitsLast}
use Rattle.raft_group_step.specs.Refusal.{is_payload_short}
use Rattle.raft_wire.specs.declared.error.FrameFault.TheVariants as fault
use Rattle.raft_wire.specs.Frames.{are_consecutive, are_entries_short, fault_of_entries}

-- ---- ids

ids_above : (last : ℕ) (ids : List ℕ) → IsBelowAll nat_cmp last ids → IsRising nat_cmp ids → All (λ n. n < 2 ^ 64) ids → Chained FitsIdAbove that_id (Some last) ids
ids_above last [] below rising each = tt
ids_above last (x ∷ ids) below rising each =
    (record { rising = ranked last x Less (sym below.0); number = All-head (λ (n : ℕ). n < 2 ^ 64) x ids each }, ids_above x ids rising.0 rising.1 (All-tail (λ (n : ℕ). n < 2 ^ 64) x ids each))

pub ids_fit : (ids : List ℕ) → IsRising nat_cmp ids → All (λ n. n < 2 ^ 64) ids → Chained FitsIdAbove that_id None ids
ids_fit [] rising each = tt
ids_fit (x ∷ ids) rising each =
    (record { rising = tt; number = All-head (λ (n : ℕ). n < 2 ^ 64) x ids each }, ids_above x ids rising.0 rising.1 (All-tail (λ (n : ℕ). n < 2 ^ 64) x ids each))

pub groups_fit : (groups : List (List ℕ)) → All FitsIds groups → Chained (λ _ ids. FitsIds ids) nothing_left None groups
groups_fit [] each = tt
groups_fit (ids ∷ groups) each = (All-head FitsIds ids groups each, groups_fit groups (All-tail FitsIds ids groups each))

-- a loop that came to the end passed each item
pub passed_all : {X : Type 0} (P : X → Type 0) (xs : List X) (i : ℕ) → length xs ≤ i → AllWithin P xs 0 i → All P xs
passed_all P xs i end each = All-from_all_within P xs (AllWithin-upto P xs 0 i (length xs) end each)

-- ---- nodes

pub record IsNodeShort (node : ℕ × List ℕ) : Type 0 where
  pub number : node.0 < 2 ^ 64
  pub address : FitsAddress node.1

nodes_above : (last : ℕ) (nodes : List (ℕ × List ℕ)) → IsBelowAll nat_cmp last (map (λ (p : ℕ × List ℕ). p.0) nodes) → IsRisingByFirst nat_cmp nodes → All IsNodeShort nodes
    → Chained FitsNode that_node (Some last) nodes
nodes_above last [] below rising each = tt
nodes_above last (x ∷ nodes) below rising each =
    let first = All-head IsNodeShort x nodes each in
    ((record { rising = ranked last x.0 Less (sym below.0); number = first.number }, first.address), nodes_above x.0 nodes rising.0 rising.1 (All-tail IsNodeShort x nodes each))

pub nodes_fit : (nodes : List (ℕ × List ℕ)) → IsRisingByFirst nat_cmp nodes → All IsNodeShort nodes → Chained FitsNode that_node None nodes
nodes_fit [] rising each = tt
nodes_fit (x ∷ nodes) rising each =
    let first = All-head IsNodeShort x nodes each in
    ((record { rising = tt; number = first.number }, first.address), nodes_above x.0 nodes rising.0 rising.1 (All-tail IsNodeShort x nodes each))

-- ---- entries

pub entries_fit : (last : Option ℕ) (es : List Entry) → are_consecutive last es ≡ true → All FitsEntry es → Chained FitsBehind that_place last es
entries_fit last [] follow each = tt
entries_fit last (e ∷ es) follow each =
    let split = and_parts _ _ follow in
    ((All-head FitsEntry e es each, split.0), entries_fit (Some e.log_id.index) es split.1 (All-tail FitsEntry e es each))

-- where nothing is wrong with the entries
right_entries : (short follow : Bool) → cond (not short) (Some fault.TooLong) (cond (not follow) (Some fault.NotRising) None) ≡ None → (short ≡ true) × (follow ≡ true)
right_entries true true h = (refl, refl)
right_entries true false h = absurd cc
right_entries false follow h = absurd cc

few : (n : ℕ) (others : Bool) → (nat_le n 64 && others) ≡ true → n ≤ 64
few n others h = let parts = and_parts (nat_le n 64) others h in grind (arith, nat_tests)

pub append_fits : (m : AppendFields) → fault_of_entries m.entries ≡ None → FitsVote m.vote → FitsId m.id → FitsLast m.previous → FitsLast m.committed → All FitsEntry m.entries → FitsAppend m
append_fits m right vote id previous committed each =
    let es = m.entries in
    let parts = right_entries (are_entries_short es) (are_consecutive None es) right in
    record { vote = vote; id = id; previous = previous; committed = committed; count = few (length es) (list_all (λ e. is_payload_short e.payload) es) parts.0; entries = entries_fit None es parts.1 each }
