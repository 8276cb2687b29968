-- A leader takes each command within the limits, and stores it at the next place.
use Rattle.std.specs.Prelude.{◌≡◌, ℕ, ◌+◌, ◌-◌, ◌<◌, ◌^◌, nat_le, nat_lt, Bool, true, List, [], ◌∷◌, ◌++◌, Option, Some, None, All, length, map, slice_get, refl}
use Rattle.std.proofs.Common.{sym, ap, ◌∙◌, subst, arith, le-leb, lt-ltb, le-ltb}
use Rattle.std.proofs.lemmas.Bool.{cond-false}
use Rattle.std.proofs.lemmas.List.{take_all}
use Rattle.std.proofs.lemmas.List.Elements.{All-cons, All-map, All-weaker}
use Rattle.std.proofs.lemmas.List.Sums.{list_all-from_AllPass}
use Rattle.raft_state.specs.declared.entry.EntryPayload.TheVariants.{Normal}
use Rattle.raft_group_step.specs.Values.{Entry}
use Rattle.raft_group_step.specs.StoredGroup.{StoredGroup, PutEntries, after_storing, end_place, entry_at, first_place, log_below}
use Rattle.raft_group_step.specs.Peer.{PeerState}
use Rattle.raft_group_step.specs.GroupState.{GroupState, Lead, Leader, is_leader}
use Rattle.raft_group_step.specs.declared.group_call.GroupCall.TheVariants.{Propose}
use Rattle.raft_group_step.specs.GroupEvent.{Call}
use Rattle.raft_group_step.specs.StepResult.{CommandTooLong, NotLeader, NumberAtEnd, RefusalReason, UnknownGroup}
use Rattle.raft_group_step.specs.Refusal.{are_in_range, command_limit, first_of_reasons, known_leader, next_ids, number_limit, reasons_of, unless}
use Rattle.raft_group_step.specs.GroupStep.{event_step, step_unless}
use Rattle.raft_laws.specs.Origins.{next_entry}
use Rattle.raft_laws.proofs.Shapes.{slice_after}
use Rattle.raft_laws.proofs.StepCalls.{NoReason}
use Rattle.raft_step_laws.specs.Taking.{HasRoom, LeadersTake, ProposalsAreStored, StoresNext}
use Rattle.raft_step_laws.proofs.Sending.{finished_adds}

-- ---- nothing speaks against it

none_first : (os : List (Option RefusalReason)) → NoReason os → first_of_reasons os ≡ None
none_first [] h = refl
none_first (o ∷ os) h = subst (λ x. first_of_reasons (x ∷ os) ≡ None) (sym h.0) (none_first os h.1)

passes : (b : Bool) (why : RefusalReason) → b ≡ true → unless b why ≡ None
passes b why t = ap (λ x. unless x why) t

abbrev IsLow : ℕ → Type 0
IsLow n = nat_lt n number_limit ≡ true

next_ids_low : (s : GroupState) (lead : Lead) (now : ℕ) → HasRoom s lead now → All IsLow (map (λ (p : PeerState). p.next_id) lead.peers)
next_ids_low s lead now room =
    All-map IsLow (λ (p : PeerState). p.next_id) lead.peers
    (All-weaker (λ (p : PeerState). p.next_id < 2 ^ 62) (λ (p : PeerState). IsLow p.next_id) (λ p l. lt-ltb p.next_id number_limit l) lead.peers room.requests)

in_range : (s : GroupState) (lead : Lead) (now : ℕ) → HasRoom s lead now → are_in_range (now ∷ end_place s.stored ∷ next_ids (Leader lead)) ≡ true
in_range s lead now room =
    list_all-from_AllPass (λ n. nat_lt n number_limit) (now ∷ end_place s.stored ∷ next_ids (Leader lead))
    (All-cons IsLow now (end_place s.stored ∷ next_ids (Leader lead)) (lt-ltb now number_limit room.moment)
    (All-cons IsLow (end_place s.stored) (next_ids (Leader lead)) (lt-ltb (end_place s.stored) number_limit room.place)
    (next_ids_low s lead now room)))

pub leaders_take : LeadersTake
leaders_take own s lead command token now present leads short room =
    none_first (reasons_of own s (Call (Propose command token) now)) (
      passes s.stored.present UnknownGroup present,
      (
        passes (nat_le (length command) command_limit) CommandTooLong (le-leb (length command) command_limit short),
        (
          passes (are_in_range (now ∷ end_place s.stored ∷ next_ids s.role)) NumberAtEnd
              (ap (λ role. are_in_range (now ∷ end_place s.stored ∷ next_ids role)) leads ∙ in_range s lead now room),
          (
            passes (is_leader s.role) (NotLeader (known_leader s.stored.vote)) (ap is_leader leads),
            tt,
          ),
        ),
      ),
    )

-- ---- it is stored

-- what is put at the log's end stands there
pub put_stands : (st : StoredGroup) (e : Entry) → entry_at (after_storing (PutEntries (end_place st) (e ∷ [])) st) (end_place st) ≡ Some e
put_stands st e =
    let from = first_place st in
    let whole : log_below st (end_place st) ≡ st.log = take_all (end_place st - from) st.log (omega arith) in
    cond-false (nat_lt (end_place st) from) None _ (le-ltb (end_place st) from (omega arith))
    ∙ ap (λ xs. slice_get (xs ++ e ∷ []) (end_place st - from)) whole
    ∙ ap (slice_get (st.log ++ e ∷ [])) (let n : end_place st - from ≡ length st.log + 0 = omega arith in n)
    ∙ slice_after st.log (e ∷ []) 0

pub proposals_stored : ProposalsAreStored
proposals_stored own s command token now passed =
    let e = Call (Propose command token) now in
    let entry = next_entry s.stored (Normal command) in
    let on = finished_adds own s.committed (event_step own s e) in
    subst (λ o. StoresNext s.stored entry (step_unless o own s e)) (sym passed)
    (record { rest = on.removed; first = on.stored; stands = put_stands s.stored entry; removals = on.removals })
