-- Entries at the log's end leave a leader room to finish.
use Rattle.std.specs.Prelude.{◌≡◌, ℕ, ◌+◌, ◌^◌, ◌<◌, ◌≤◌, List, [], ◌∷◌, length, Some}
use Rattle.std.proofs.Common.{ap, sym, subst, arith, length-append}
use Rattle.raft_values.specs.declared.log_id.LogId.{LogId}
use Rattle.raft_values.specs.LogId.{next_place}
use Rattle.raft_group_step.specs.Values.{Entry, EntryPayload, entry_of}
use Rattle.raft_group_step.specs.StoredGroup.{StoredGroup, end_place, snapshot_last}
use Rattle.raft_group_step.specs.GroupState.{GroupState, Lead}
use Rattle.raft_group_step.specs.StepResult.{StepResult, append}
use Rattle.raft_group_step.specs.Lead.{peer_of}
use Rattle.raft_engine.specs.Events.{HasLeadRoom}
use Rattle.raft_engine.proofs.AppendLemmas.{grown_by, grown_is}

module _ (s : StoredGroup) (es : List Entry) where
  pub end_grown : end_place (grown_by s es) ≡ end_place s + length es
  end_grown =
      let ends = ap end_place (grown_is s es) in
      let more = length-append s.log es in omega (arith, ends, more)

-- a leader whose log grows has room, where the places and the numbers fit
pub room_grown : (own : ℕ) (s : GroupState) (lead : Lead) (es : List Entry) → end_place s.stored + length es < 2 ^ 63
    → ((n : ℕ) → (peer_of lead n).next_id ≤ 2 ^ 63) → ((place : ℕ) → s.wish ≡ Some place → place < next_place (snapshot_last s.stored))
    → HasLeadRoom own (record s { stored = grown_by s.stored es }) lead
room_grown own s lead es fits numbers covered =
    record {
      places = subst (λ n. n < 2 ^ 63) (sym (end_grown s.stored es)) fits;
      numbers = numbers;
      wish = covered;
    }

module _ (own : ℕ) (r : StepResult) (lead : Lead) (payload : EntryPayload) (fits : end_place r.state.stored + 1 < 2 ^ 63) where
  -- an entry that is appended leaves room
  pub room_appended : HasLeadRoom own r.state lead → HasLeadRoom own (append payload r).state lead
  room_appended room =
      let next : LogId ℕ = record { leader_id = r.state.stored.vote.leader_id; index = end_place r.state.stored } in
      room_grown own r.state lead (entry_of next payload ∷ []) fits room.numbers room.wish
