-- What a step stores and sends fits the limits, where what the node has and is sent does.
use Rattle.std.specs.Prelude.{◌≡◌, ℕ, ◌+◌, ◌-◌, ◌≤◌, ◌==◌, ◌&&◌, ◌||◌, cond, is_none, is_some, nat_le, nat_lt, not, Bool, true, false, List, [], ◌∷◌, ◌++◌, drop, filter, length, take, Option, Some, None, All, IfSome, IsTrue, refl}
use Rattle.std.specs.List.{list_any}
use Rattle.std.proofs.Common.{sym, ap, ◌∙◌, subst, arith, eqb-true, ltb-false}
use Rattle.std.proofs.lemmas.Bool.{and_parts, or_parts}
use Rattle.std.proofs.lemmas.List.{length-take, length-take-le}
use Rattle.std.proofs.lemmas.List.Elements.{All-append, All-cons, All-drop, All-filter, All-nil, All-tail, All-take}
use Rattle.std.proofs.lemmas.Option.{slice_get_within}
use Rattle.raft_values.specs.declared.vote.Vote.{Vote}
use Rattle.raft_values.specs.Vote.{vote_of}
use Rattle.raft_values.specs.declared.log_id.LogId.{LogId}
use Rattle.raft_values.specs.LogId.{log_id_of, next_place}
use Rattle.raft_quorums.specs.Quorum.{is_quorum}
use Rattle.raft_state.specs.declared.entry.EntryPayload.TheVariants.{Blank, Normal, Membership as Members}
use Rattle.raft_group_step.specs.Values.{after_change, ChangeMembers, Entry, EntryPayload, LoggedMembership, entry_of, has_id, is_valid, is_within_limits, is_written_by, vote_eq, vote_lt}
use Rattle.raft_group_step.specs.StoredGroup.{Snapshot, StoredGroup, StoringCommand, MakeGroup, SetVote, PutEntries, CutFrom, RemoveUpTo, SetSnapshot, StartAfter, after_storing, after_storing_all, end_place, entry_at, first_place, has_id_in_log, id_before, id_of, membership_in_force, snapshot_last}
use Rattle.raft_group_step.specs.Message.{AppendFields, Message, Numbered, RequestId, MessageBody, VoteRequest, VoteReply, AppendRequest, AppendReply, SnapshotRequest, SnapshotReply, ReplyFields, ReplyResult, Success, PartialSuccess, Conflict, HigherVote}
use Rattle.raft_group_step.specs.Peer.{PeerState, is_answer_to, is_kept_for_peers}
use Rattle.raft_group_step.specs.GroupState.{GroupState, Lead, Role, Follower, Candidate, Leader, state_of}
use Rattle.raft_group_step.specs.declared.group_call.GroupCall.TheVariants.{Initialize, Elect, Propose, ChangeMembership, Heartbeat, Lost, TriggerSnapshot, TriggerPurge}
use Rattle.raft_group_step.specs.GroupEvent.{GroupCall, GroupEvent, AddGroup, Call, Receive, Open}
use Rattle.raft_group_step.specs.StepResult.{CommandTooLong, MembershipRefused, NotAllowed, RefusalReason, StepResult, append, apply_up_to, in_role, is_within, later_place, refused_step, renew, send, step_down, store, store_vote, take_over, unchanged}
use Rattle.raft_group_step.specs.Lead.{begin_lead, commit_as_leader, committed_vote, configs_in_force, lead_if, new_lead, other_ids, peer_of, purge_as_wished, purge_up_to, remove_up_to, with_grant, with_wish}
use Rattle.raft_group_step.specs.Frames.{committed_id, entries_in_request, has_grown, lacks_entries, notice, request_start, send_entries, send_request, send_snapshot, serve, serve_all, serve_as}
use Rattle.raft_group_step.specs.Elect.{ask, elect_step, other_voters, stand}
use Rattle.raft_group_step.specs.VoteRequest.{judged, may_grant}
use Rattle.raft_group_step.specs.VoteReply.{counted, take_over_greater}
use Rattle.raft_group_step.specs.AppendRequest.{above_committed, cut_at, cut_from, heard, is_held, joined, missing_entries, put_entries}
use Rattle.raft_group_step.specs.SnapshotRequest.{cut_other, install_unless, offered, place_above}
use Rattle.raft_group_step.specs.Reply.{answered, reply_step, with_higher_vote}
use Rattle.raft_group_step.specs.Propose.{append_with_token}
use Rattle.raft_group_step.specs.MembershipStep.{append_changed}
use Rattle.raft_group_step.specs.Heartbeat.{beat_as, send_notices}
use Rattle.raft_group_step.specs.Lost.{lost_as}
use Rattle.raft_group_step.specs.SnapshotTrigger.{snapshot_of_applied, store_snapshot_at}
use Rattle.raft_group_step.specs.PurgeTrigger.{purge_as, purge_within}
use Rattle.raft_group_step.specs.Opening.{drop_stale_log, is_joined_to, resume_lead}
use Rattle.raft_group_step.specs.Initialize.{is_new}
use Rattle.raft_group_step.specs.Refusal.{command_limit, is_first_membership, reasons_of, reasons_of_call, reasons_of_change, refusal_of}
use Rattle.raft_group_step.specs.GroupStep.{begun, call_step, event_step, finished, group_step, message_step, step_unless}
use Rattle.raft_group_step.proofs.Words.{either, either_by, cut_keeps_first}
use Rattle.raft_group_step.proofs.Refusals.{unless_none}
use Rattle.raft_group_step.proofs.EntryPlaces.{entry_within, in_log_within}
use Rattle.raft_laws.proofs.FreshEntries.{within_is, without_is}
use Rattle.raft_laws.proofs.Shapes.{slice_drop, slice_taken}
use Rattle.raft_laws.proofs.StepCalls.{NoReason, no_reason}
use Rattle.raft_laws.proofs.StepWords.{all-append}
use Rattle.raft_step_laws.specs.Fitting.{AllFit, ComesWithin, FitEntries, IsBodyBounded, FitsEvent, IsPayloadBounded, FitsRequest, IsSnapshotBounded, FitsStored, FitsStoring, IsCommittedWithin, StepsFit}
use Rattle.raft_step_laws.proofs.FitWords.{Fits, StandWithin, above_within, all_fit, before_next, built_fits, entry_place, missing_within, no_entry, placed_one, placed_stand, some_entry, stand_placed, stop_fits, stored_fits}

abbrev FitsMessage : Message → Type 0
FitsMessage m = IsBodyBounded m.body

-- a notice has no entries
notice_fits : (s : GroupState) (p : PeerState) → IsBodyBounded (notice s p)
notice_fits s p =
    record { count = omega arith; entries = All-nil Fits; placed = λ i e at. absurd (let f : None ≡ Some e = at in cc) }

module _ (base : StoredGroup) where
  -- all that was stored and sent fits, and what is stored then
  record Keeps (r : StepResult) : Type 0 where
    now : FitsStored r.state.stored
    is : r.state.stored ≡ after_storing_all r.commands base
    all : AllFit base r.commands
    messages : All FitsMessage r.messages

  same : (r q : StepResult) → q.state.stored ≡ r.state.stored → q.commands ≡ r.commands → q.messages ≡ r.messages → Keeps r → Keeps q
  same r q e f g h =
      record {
        now = subst FitsStored (sym e) h.now;
        is = e ∙ h.is ∙ ap (λ cs. after_storing_all cs base) (sym f);
        all = subst (AllFit base) (sym f) h.all;
        messages = subst (All FitsMessage) (sym g) h.messages;
      }

  stores : (c : StoringCommand) (r : StepResult) → Keeps r → FitsStoring r.state.stored c → Keeps (store c r)
  stores c r h k =
      record {
        now = stored_fits c r.state.stored h.now k;
        is = ap (after_storing c) h.is ∙ sym (all-append r.commands c base);
        all = all_fit r.commands c base h.all (subst (λ st. FitsStoring st c) h.is k);
        messages = h.messages;
      }

  sends : (own peer : ℕ) (b : MessageBody) (r : StepResult) → Keeps r → IsBodyBounded b → Keeps (send own peer b r)
  sends own peer b r h k =
      record {
        now = h.now;
        is = h.is;
        all = h.all;
        messages =
            All-append FitsMessage r.messages (record { sender = own; addressee = peer; body = b } ∷ []) h.messages
            (All-cons FitsMessage (record { sender = own; addressee = peer; body = b }) [] k (All-nil FitsMessage));
      }

  -- ---- votes and elections

  voted : (v : Vote ℕ) (r : StepResult) → Keeps r → Keeps (store_vote v r)
  voted v r h = same (store (SetVote v) r) (store_vote v r) refl refl refl (stores (SetVote v) r h tt)

  down : (v : Vote ℕ) (r : StepResult) → Keeps r → Keeps (store_vote v (step_down r))
  down v r h = voted v (step_down r) (same r (step_down r) refl refl refl h)

  took : (v : Vote ℕ) (r : StepResult) → Keeps r → Keeps (take_over v r)
  took v r h =
      either Keeps (vote_lt r.state.stored.vote v) (store_vote v (step_down r)) (renew r) (down v r h) (same r (renew r) refl refl refl h)

  greater : (v : Vote ℕ) (r : StepResult) → Keeps r → Keeps (take_over_greater v r)
  greater v r h = either Keeps (vote_lt r.state.stored.vote v) (store_vote v (step_down r)) r (down v r h) h

  -- an entry at the log's end
  appended : (p : EntryPayload) (r : StepResult) → Keeps r → IsPayloadBounded p → Keeps (append p r)
  appended p r h k =
      let st = r.state.stored in
      let e = entry_of (record { leader_id = st.vote.leader_id; index = end_place st }) p in
      stores (PutEntries (end_place st) (e ∷ [])) r h
      (record {
        at_end = refl;
        count = omega arith;
        entries = All-cons Fits e [] k (All-nil Fits);
        placed = placed_one (end_place st) e refl;
      })

  began : (r : StepResult) → Keeps r → Keeps (begin_lead r)
  began r h =
      let v = committed_vote r.state.stored.vote in
      let q = in_role (Leader (new_lead r.state.stored)) (store_vote v r) in
      let k = same (store_vote v r) q refl refl refl (voted v r h) in
      either Keeps (list_any (is_written_by q.state.stored.vote.leader_id) q.state.stored.log) q (append Blank q) k (appended Blank q k refl)

  led : (b : Bool) (r : StepResult) → Keeps r → Keeps (lead_if b r)
  led true r h = began r h
  led false r h = h

  granted_keeps : (n : ℕ) (role : Role) (r : StepResult) → Keeps r → Keeps (with_grant n role r)
  granted_keeps n Follower r h = h
  granted_keeps n (Candidate granters) r h =
      let granted = cond (has_id granters n) granters (granters ++ n ∷ []) in
      led (is_quorum (configs_in_force r.state.stored) (has_id granted)) (in_role (Candidate granted) r)
      (same r (in_role (Candidate granted) r) refl refl refl h)
  granted_keeps n (Leader lead) r h = h

  asked : (own : ℕ) (ns : List ℕ) (r : StepResult) → Keeps r → Keeps (ask own ns r)
  asked own [] r h = h
  asked own (n ∷ ns) r h = asked own ns _ (sends own n _ r h tt)

  elected : (own : ℕ) (r : StepResult) → Keeps r → Keeps (elect_step own r)
  elected own r h =
      let v = vote_of (r.state.stored.vote.leader_id.term + 1) own false in
      let q : StepResult = in_role (Candidate []) (store_vote v (step_down r)) in
      granted_keeps own (stand own r).state.role (stand own r)
      (asked own (other_voters own r.state.stored) q (same (store_vote v (step_down r)) q refl refl refl (down v r h)))

  judged_keeps : (own peer : ℕ) (v : Vote ℕ) (b : Bool) (r : StepResult) → Keeps r → Keeps (judged own peer v b r)
  judged_keeps own peer v true r h = sends own peer _ (take_over v r) (took v r h) tt
  judged_keeps own peer v false r h = sends own peer _ r h tt

  counted_keeps : (peer : ℕ) (b : Bool) (v : Vote ℕ) (r : StepResult) → Keeps r → Keeps (counted peer b v r)
  counted_keeps peer true v r h = granted_keeps peer r.state.role r h
  counted_keeps peer false v r h = greater v r h

  -- ---- entries of another leader

  cut : (i : ℕ) (r : StepResult) → Keeps r → Keeps (cut_from i r)
  cut i r h =
      either_by Keeps (is_some (entry_at r.state.stored i)) (store (CutFrom i) r) r
      (λ t.
      let x = some_entry (entry_at r.state.stored i) t in
      let w = entry_within r.state.stored i x.0 x.1 in
      stores (CutFrom i) r h (w.0, w.1))
      (λ t. h)

  cut_at_keeps : (id : Option (LogId ℕ)) (r : StepResult) → Keeps r → Keeps (cut_at id r)
  cut_at_keeps None r h = h
  cut_at_keeps (Some id) r h = cut id.index r h

  -- the log ends at the place from which it was cut
  cut_ends : (i : ℕ) (r : StepResult) → first_place r.state.stored ≤ i → i ≤ end_place r.state.stored → i ≡ end_place (cut_from i r).state.stored
  cut_ends i r low high =
      either_by (λ q. i ≡ end_place q.state.stored) (is_some (entry_at r.state.stored i)) (store (CutFrom i) r) r
      (λ t. let l = length-take-le (i - first_place r.state.stored) r.state.stored.log (omega (arith, high)) in omega arith)
      (λ t. let past = no_entry r.state.stored i t low in omega arith)

  put : (es : List Entry) (r : StepResult) → Keeps r → StandWithin (first_place r.state.stored) (end_place r.state.stored) es → FitEntries es → length es ≤ 64 → Keeps (put_entries es r)
  put [] r h k f l = h
  put (e ∷ es) r h k f l =
      let i = e.log_id.index in
      stores (PutEntries i (e ∷ es)) (cut_from i r) (cut i r h)
      (record {
        at_end = cut_ends i r k.0 k.1;
        count = l;
        entries = f;
        placed = stand_placed i (e ∷ es) k.2;
      })

  -- what is held reaches up to the previous log id
  held_reaches : (st : StoredGroup) (committed : Option ℕ) (previous : Option (LogId ℕ)) → place_above committed ≤ end_place st → is_held st committed previous ≡ true → next_place previous ≤ end_place st
  held_reaches st committed None l t = omega arith
  held_reaches st committed (Some id) l t = go (is_within id.index committed) refl t
    where
      go : (b : Bool) → is_within id.index committed ≡ b → (b || has_id_in_log st id) ≡ true → id.index + 1 ≤ end_place st
      go true w u = let p = within_is committed id.index w in omega arith
      go false w u = let p = in_log_within st id u in omega arith

  fits_missing : (st : StoredGroup) (es : List Entry) → FitEntries es → FitEntries (missing_entries st es)
  fits_missing st [] h = h
  fits_missing st (e ∷ es) h = go (has_id_in_log st e.log_id) (fits_missing st es (All-tail Fits e es h))
    where
      go : (b : Bool) → FitEntries (missing_entries st es) → FitEntries (cond b (missing_entries st es) (e ∷ es))
      go true rest = rest
      go false rest = h

  fewer_missing : (st : StoredGroup) (es : List Entry) → length (missing_entries st es) ≤ length es
  fewer_missing st [] = omega arith
  fewer_missing st (e ∷ es) = go (has_id_in_log st e.log_id) (fewer_missing st es)
    where
      go : (b : Bool) → length (missing_entries st es) ≤ length es → length (cond b (missing_entries st es) (e ∷ es)) ≤ length (e ∷ es)
      go true rest = omega arith
      go false rest = omega arith

  filter_fewer : (p : Entry → Bool) (es : List Entry) → length (filter p es) ≤ length es
  filter_fewer p [] = omega arith
  filter_fewer p (e ∷ es) = go (p e) (filter_fewer p es)
    where
      go : (b : Bool) → length (filter p es) ≤ length es → length (cond b (e ∷ filter p es) (filter p es)) ≤ length (e ∷ es)
      go true rest = omega arith
      go false rest = omega arith

  -- entries that are put, from a lower place on than the lowest that is told
  lower_within : (low low' high : ℕ) (es : List Entry) → low ≤ low' → StandWithin low' high es → StandWithin low high es
  lower_within low low' high [] l h = tt
  lower_within low low' high (e ∷ es) l h = (omega (arith, h.0), h.1, h.2)

  joins : (own peer : ℕ) (m : AppendFields) (b : Bool) (r : StepResult) → Keeps r → IsCommittedWithin r.state → FitsRequest m → is_held r.state.stored r.state.committed m.previous ≡ b → Keeps (joined own peer m b r)
  joins own peer m true r h c f held =
      let st = r.state.stored in
      let above = above_committed r.state.committed m.entries in
      let fresh = missing_entries st above in
      let reaches = held_reaches st r.state.committed m.previous c.ends held in
      let stand = above_within r.state.committed (end_place st) (next_place m.previous) m.entries c.ends reaches (placed_stand (next_place m.previous) m.entries f.placed) in
      let within = missing_within st (place_above r.state.committed) above stand in
      let fits = fits_missing st above (All-filter (λ (e : Entry). not (is_within e.log_id.index r.state.committed)) Fits m.entries f.entries) in
      let few = fewer_missing st above in
      let fewer = filter_fewer (λ (e : Entry). not (is_within e.log_id.index r.state.committed)) m.entries in
      let done = put fresh r h (lower_within (first_place st) (place_above r.state.committed) (end_place st) fresh c.begins within) fits (omega (arith, f.count)) in
      sends own peer _ _ (same (put_entries fresh r) _ refl refl refl done) tt
  joins own peer m false r h c f held = sends own peer _ (cut_at m.previous r) (cut_at_keeps m.previous r h) tt

  -- taking over a vote leaves the log and what is committed
  took_within : (v : Vote ℕ) (r : StepResult) → IsCommittedWithin r.state → IsCommittedWithin (take_over v r).state
  took_within v r c =
      either (λ q. IsCommittedWithin q.state) (vote_lt r.state.stored.vote v) (store_vote v (step_down r)) (renew r)
      (record { begins = c.begins; ends = c.ends }) (record { begins = c.begins; ends = c.ends })

  heard_keeps : (own peer : ℕ) (m : AppendFields) (b : Bool) (r : StepResult) → Keeps r → IsCommittedWithin r.state → FitsRequest m → Keeps (heard own peer m b r)
  heard_keeps own peer m true r h c f = sends own peer _ r h tt
  heard_keeps own peer m false r h c f =
      let taken = take_over m.vote r in
      joins own peer m (is_held taken.state.stored taken.state.committed m.previous) taken (took m.vote r h) (took_within m.vote r c) f refl

  -- ---- snapshots of another leader

  other : (last : LogId ℕ) (r : StepResult) → Keeps r → Keeps (cut_other last r)
  other last r h =
      either Keeps (has_id_in_log r.state.stored last) r _ h
      (either Keeps (is_some (entry_at r.state.stored last.index)) _ r (cut (place_above r.state.committed) r h) h)

  other_first : (last : LogId ℕ) (r : StepResult) → first_place (cut_other last r).state.stored ≡ first_place r.state.stored
  other_first last r =
      either (λ q. first_place q.state.stored ≡ first_place r.state.stored) (has_id_in_log r.state.stored last) r _ refl
      (either (λ q. first_place q.state.stored ≡ first_place r.state.stored) (is_some (entry_at r.state.stored last.index)) _ r (cut_keeps_first (place_above r.state.committed) r) refl)

  installed : (b : Bool) (x : Snapshot) (r : StepResult) → is_within x.last.index r.state.committed ≡ b → Keeps r → IsCommittedWithin r.state → IsSnapshotBounded x → Keeps (install_unless b x r)
  installed true x r t h c f = h
  installed false x r t h c f =
      let cleared = cut_other x.last r in
      let first = other_first x.last r in
      let past = without_is r.state.committed x.last.index t in
      let set = store (SetSnapshot x) cleared in
      let removed = store (RemoveUpTo x.last) set in
      same removed (apply_up_to (Some x.last.index) removed) refl refl refl
      (stores (RemoveUpTo x.last) set (stores (SetSnapshot x) cleared (other x.last r h) f) (omega (arith, first, past, c.begins)))

  offered_keeps : (own peer : ℕ) (v : Vote ℕ) (id : ℕ) (x : Snapshot) (b : Bool) (r : StepResult) → Keeps r → IsCommittedWithin r.state → IsSnapshotBounded x → Keeps (offered own peer v id x b r)
  offered_keeps own peer v id x true r h c f =
      sends own peer _ r h (record { number = id; numbered = refl; previous = refl; agrees = λ e. absurd (let f : HigherVote r.state.stored.vote ≡ Conflict = e in cc); whole = tt })
  offered_keeps own peer v id x false r h c f =
      let taken = take_over v r in
      let b = is_within x.last.index taken.state.committed in
      sends own peer _ (install_unless b x taken) (installed b x taken refl (took v r h) (took_within v r c) f)
      (record { number = id; numbered = refl; previous = refl; agrees = λ e. absurd (let f : Success ≡ Conflict = e in cc); whole = tt })

  -- ---- replies

  answered_keeps : (peer : ℕ) (m : ReplyFields) (role : Role) (r : StepResult) → Keeps r → Keeps (answered peer m role r)
  answered_keeps peer m Follower r h = h
  answered_keeps peer m (Candidate granters) r h = h
  answered_keeps peer m (Leader lead) r h =
      either Keeps (vote_eq m.vote r.state.stored.vote && is_answer_to m (peer_of lead peer).outstanding) _ r (same r _ refl refl refl h) h

  higher : (o : ReplyResult) (r : StepResult) → Keeps r → Keeps (with_higher_vote o r)
  higher Success r h = h
  higher (PartialSuccess last) r h = h
  higher Conflict r h = h
  higher (HigherVote v) r h = greater v r h

  reply_keeps : (peer : ℕ) (m : ReplyFields) (r : StepResult) → Keeps r → Keeps (reply_step peer m r)
  reply_keeps peer m r h =
      let judged = with_higher_vote m.outcome r in answered_keeps peer m judged.state.role judged (higher m.outcome r h)

  -- ---- calls

  tokened : (p : EntryPayload) (token : ℕ) (r : StepResult) → Keeps r → IsPayloadBounded p → Keeps (append_with_token p token r)
  tokened p token r h k = appended p _ (same r _ refl refl refl h) k

  abbrev ChangeFits : Option LoggedMembership → ChangeMembers → Type 0
  ChangeFits None change = Unit {0}
  ChangeFits (Some m) change = IsTrue (is_within_limits (after_change m.membership change))

  changed_keeps : (o : Option LoggedMembership) (change : ChangeMembers) (token : ℕ) (r : StepResult) → Keeps r → ChangeFits o change → Keeps (append_changed o change token r)
  changed_keeps None change token r h k = h
  changed_keeps (Some m) change token r h k = tokened (Members (after_change m.membership change)) token r h k

  notices_keep : (own : ℕ) (lead : Lead) (ns : List ℕ) (r : StepResult) → Keeps r → Keeps (send_notices own lead ns r)
  notices_keep own lead [] r h = h
  notices_keep own lead (n ∷ ns) r h = notices_keep own lead ns _ (sends own n _ r h (notice_fits r.state (peer_of lead n)))

  beat_keeps : (own : ℕ) (role : Role) (r : StepResult) → Keeps r → Keeps (beat_as own role r)
  beat_keeps own Follower r h = h
  beat_keeps own (Candidate granters) r h = h
  beat_keeps own (Leader lead) r h = notices_keep own lead (other_ids own r.state.stored) r h

  lost_keeps : (peer : ℕ) (role : Role) (r : StepResult) → Keeps r → Keeps (lost_as peer role r)
  lost_keeps peer Follower r h = h
  lost_keeps peer (Candidate granters) r h = h
  lost_keeps peer (Leader lead) r h = either Keeps (is_some (peer_of lead peer).outstanding) _ r (same r _ refl refl refl h) h

  shot : (id : Option (LogId ℕ)) (r : StepResult) → Keeps r → Keeps (store_snapshot_at id r)
  shot None r h = h
  shot (Some id) r h = stores _ r h (built_fits r.state.stored id h.now)

  snapshot_keeps : (applied : Option ℕ) (r : StepResult) → Keeps r → Keeps (snapshot_of_applied applied r)
  snapshot_keeps None r h = h
  snapshot_keeps (Some a) r h = either Keeps _ r _ h (shot (id_of (entry_at r.state.stored a)) r h)

  purged : (place : ℕ) (r : StepResult) → Keeps r → Keeps (purge_up_to place r)
  purged place r h = go (entry_at r.state.stored place) refl
    where
      go : (o : Option Entry) → entry_at r.state.stored place ≡ o → Keeps (remove_up_to (id_of o) r)
      go None is = h
      go (Some e) is =
          let w = entry_within r.state.stored place e is in
          let p = entry_place r.state.stored h.now place e is in
          stores (RemoveUpTo e.log_id) r h (omega (arith, w.0))

  purge_keeps : (place : ℕ) (role : Role) (r : StepResult) → Keeps r → Keeps (purge_as place role r)
  purge_keeps place Follower r h = purged place r h
  purge_keeps place (Candidate granters) r h = purged place r h
  purge_keeps place (Leader lead) r h =
      either Keeps (nat_lt place (first_place r.state.stored)) r (with_wish (later_place r.state.wish (Some place)) r) h (same r _ refl refl refl h)

  within_keeps : (place : ℕ) (last : Option (LogId ℕ)) (r : StepResult) → Keeps r → Keeps (purge_within place last r)
  within_keeps place None r h = h
  within_keeps place (Some last) r h = purge_keeps _ r.state.role r h

  -- ---- the end of an event

  commit_keeps : (own : ℕ) (role : Role) (r : StepResult) → Keeps r → Keeps (commit_as_leader own role r)
  commit_keeps own Follower r h = h
  commit_keeps own (Candidate granters) r h = h
  commit_keeps own (Leader lead) r h = same r _ refl refl refl h

  wished_keeps : (role : Role) (wish : Option ℕ) (r : StepResult) → Keeps r → Keeps (purge_as_wished role wish r)
  wished_keeps Follower wish r h = h
  wished_keeps (Candidate granters) wish r h = h
  wished_keeps (Leader lead) None r h = h
  wished_keeps (Leader lead) (Some place) r h =
      let q = with_wish None r in
      either Keeps (is_kept_for_peers place lead.peers) r (purge_up_to place q) h (purged place q (same r q refl refl refl h))

  -- a request follows what stands before it
  request_fits : (st : StoredGroup) (vote : Vote ℕ) (id : RequestId) (committed : Option (LogId ℕ)) (start : ℕ) → FitsStored st → first_place st ≤ start → FitsRequest (record { vote = vote; id = id; previous = id_before st start; committed = committed; entries = take entries_in_request (drop (start - first_place st) st.log) })
  request_fits st vote id committed start h low =
      let k = start - first_place st in
      let es = drop k st.log in
      let size = length-take 64 es in
      record {
        count = omega arith;
        entries = All-take Fits 64 es (All-drop Fits k st.log h.entries);
        placed = λ i e at.
            let there = sym (slice_drop k st.log i) ∙ slice_taken 64 es i e at in
            let inside = slice_get_within st.log (k + i) e there in
            let p = h.placed (k + i) e there in
            let next = before_next st h start low (omega arith) in
            omega arith;
      }

  request_keeps : (own : ℕ) (p : PeerState) (lead : Lead) (o : Option Snapshot) (r : StepResult) → r.state.stored.snapshot ≡ o → Keeps r → Keeps (send_request own p lead o r)
  request_keeps own p lead o r is h = go o is
    where
      entries : Keeps (send_entries own p lead r)
      entries =
          let st = r.state.stored in
          same _ (send_entries own p lead r) refl refl refl
          (sends own p.peer _ r h (request_fits st st.vote (Numbered p.next_id) (committed_id r.state) (request_start st p) h.now (omega arith)))

      go : (x : Option Snapshot) → r.state.stored.snapshot ≡ x → Keeps (send_request own p lead x r)
      go None e = entries
      go (Some x) e =
          either Keeps (nat_lt p.search (first_place r.state.stored)) (send_snapshot own p lead x r) (send_entries own p lead r)
          (same _ (send_snapshot own p lead x r) refl refl refl
          (sends own p.peer (SnapshotRequest r.state.stored.vote p.next_id x) r h (subst (λ y. IfSome y IsSnapshotBounded) e h.now.snapshot)))
          entries

  serve_keeps : (own : ℕ) (b : Bool) (p : PeerState) (lead : Lead) (r : StepResult) → Keeps r → Keeps (serve own b p lead r)
  serve_keeps own b p lead r h =
      let told = send own p.peer (notice r.state p) r in
      either Keeps (is_none p.outstanding && lacks_entries r.state.stored p) (send_request own p lead r.state.stored.snapshot r) (cond b told r)
      (request_keeps own p lead r.state.stored.snapshot r refl h)
      (either Keeps b told r (sends own p.peer (notice r.state p) r h (notice_fits r.state p)) h)

  serve_as_keeps : (own : ℕ) (b : Bool) (n : ℕ) (role : Role) (r : StepResult) → Keeps r → Keeps (serve_as own b n role r)
  serve_as_keeps own b n Follower r h = h
  serve_as_keeps own b n (Candidate granters) r h = h
  serve_as_keeps own b n (Leader lead) r h = serve_keeps own b (peer_of lead n) lead r h

  serve_all_keeps : (own : ℕ) (b : Bool) (ns : List ℕ) (r : StepResult) → Keeps r → Keeps (serve_all own b ns r)
  serve_all_keeps own b [] r h = h
  serve_all_keeps own b (n ∷ ns) r h = serve_all_keeps own b ns _ (serve_as_keeps own b n r.state.role r h)

  finished_keeps : (own : ℕ) (before : Option ℕ) (r : StepResult) → Keeps r → Keeps (finished own before r)
  finished_keeps own before r h =
      let committed = commit_as_leader own r.state.role r in
      let gone = purge_as_wished committed.state.role committed.state.wish committed in
      serve_all_keeps own (has_grown before gone.state.committed) (other_ids own gone.state.stored) gone
      (wished_keeps committed.state.role committed.state.wish committed (commit_keeps own r.state.role r h))

  -- ---- openings

  dropped : (last : Option (LogId ℕ)) (r : StepResult) → snapshot_last r.state.stored ≡ last → Keeps r → Keeps (drop_stale_log last r)
  dropped None r is h = h
  dropped (Some last) r is h =
      let st = r.state.stored in
      either_by Keeps (is_joined_to st last) r (store (StartAfter last) r)
      (λ t. h)
      (λ f.
      let apart = or_parts (nat_lt last.index (first_place st)) (has_id_in_log st last) f in
      let above = ltb-false last.index (first_place st) apart.0 in
      stores (StartAfter last) r h (record { behind_snapshot = is; goes_on = omega (arith, above); lacks = apart.1 }))

  resumed : (own : ℕ) (r : StepResult) → Keeps r → Keeps (resume_lead own r)
  resumed own r h =
      let vote = r.state.stored.vote in
      either Keeps (vote.committed && vote.leader_id.node_id == own) (in_role (Leader (new_lead r.state.stored)) r) r (same r _ refl refl refl h) h

  -- ---- all events

  -- what a call that isn't refused brings fits
  abbrev CallFits : GroupState → GroupCall → Type 0
  CallFits s (Initialize m) = IsPayloadBounded (Members m) × (end_place s.stored ≡ 0)
  CallFits s Elect = Unit {0}
  CallFits s (Propose command token) = IsPayloadBounded (Normal command)
  CallFits s (ChangeMembership change token) = ChangeFits (membership_in_force s.stored) change
  CallFits s Heartbeat = Unit {0}
  CallFits s (Lost peer) = Unit {0}
  CallFits s TriggerSnapshot = Unit {0}
  CallFits s (TriggerPurge place) = Unit {0}

  call_keeps : (own : ℕ) (call : GroupCall) (r : StepResult) → Keeps r → CallFits r.state call → Keeps (call_step own call r)
  call_keeps own (Initialize m) r h k =
      let e = entry_of (log_id_of 0 0 0) (Members m) in
      elected own (store (PutEntries 0 (e ∷ [])) r)
      (stores (PutEntries 0 (e ∷ [])) r h
      (record {
        at_end = sym k.1;
        count = omega arith;
        entries = All-cons Fits e [] k.0 (All-nil Fits);
        placed = placed_one 0 e refl;
      }))
  call_keeps own Elect r h k = elected own r h
  call_keeps own (Propose command token) r h k = tokened (Normal command) token r h k
  call_keeps own (ChangeMembership change token) r h k = changed_keeps (membership_in_force r.state.stored) change token r h k
  call_keeps own Heartbeat r h k = beat_keeps own r.state.role r h
  call_keeps own (Lost peer) r h k = lost_keeps peer r.state.role r h
  call_keeps own TriggerSnapshot r h k = snapshot_keeps r.state.applied r h
  call_keeps own (TriggerPurge place) r h k = within_keeps place (snapshot_last r.state.stored) r h

  body_keeps : (own peer : ℕ) (b : MessageBody) (r : StepResult) → Keeps r → IsCommittedWithin r.state → IsBodyBounded b → Keeps (message_step own peer b r)
  body_keeps own peer (VoteRequest v last) r h c f = judged_keeps own peer v (may_grant r.state v last) r h
  body_keeps own peer (VoteReply v granted last) r h c f = counted_keeps peer (granted && vote_eq v r.state.stored.vote) v r h
  body_keeps own peer (AppendRequest m) r h c f = heard_keeps own peer m (vote_lt m.vote r.state.stored.vote) r h c f
  body_keeps own peer (AppendReply m) r h c f = reply_keeps peer m r h
  body_keeps own peer (SnapshotRequest v id x) r h c f = offered_keeps own peer v id x (vote_lt v r.state.stored.vote) r h c f
  body_keeps own peer (SnapshotReply m) r h c f = reply_keeps peer m r h

-- ---- what a call that isn't refused passed

change_fits : (o : Option LoggedMembership) (change : ChangeMembers) → NoReason (reasons_of_change o change) → (base : StoredGroup) → ChangeFits base o change
change_fits None change passed base = tt
change_fits (Some m) change passed base =
    let new = after_change m.membership change in
    (and_parts (is_valid new) (is_within_limits new) (unless_none (is_valid new && is_within_limits new) MembershipRefused passed.0)).1

call_passed : (own : ℕ) (s : GroupState) (now : ℕ) (call : GroupCall) → NoReason (reasons_of_call own s now call) → CallFits s.stored s call
call_passed own s now (Initialize m) passed =
    let first = unless_none (is_first_membership m) MembershipRefused passed.0 in
    let limits = (and_parts (is_valid m && is_within_limits m) (not (length m.configs == 0)) first).0 in
    let new = unless_none (is_new s.stored) NotAllowed passed.1.1.1.0 in
    let two = and_parts (vote_eq s.stored.vote (vote_of 0 0 false) && end_place s.stored == 0) (is_none s.stored.snapshot) new in
    let one = and_parts (vote_eq s.stored.vote (vote_of 0 0 false)) (end_place s.stored == 0) two.0 in
    ((and_parts (is_valid m) (is_within_limits m) limits).1, eqb-true (end_place s.stored) 0 one.1)
call_passed own s now Elect passed = tt
call_passed own s now (Propose command token) passed =
    unless_none (nat_le (length command) command_limit) CommandTooLong passed.0
call_passed own s now (ChangeMembership change token) passed = change_fits (membership_in_force s.stored) change passed.1.1.1 s.stored
call_passed own s now Heartbeat passed = tt
call_passed own s now (Lost peer) passed = tt
call_passed own s now TriggerSnapshot passed = tt
call_passed own s now (TriggerPurge place) passed = tt

-- ---- all steps

module _ (own : ℕ) (s : GroupState) (fits : FitsStored s.stored) where
  none_yet : (t : GroupState) → t.stored ≡ s.stored → Keeps s.stored (unchanged t)
  none_yet t e =
      record { now = subst FitsStored (sym e) fits; is = e; all = tt; messages = All-nil FitsMessage }

  event_keeps : (e : GroupEvent) → ComesWithin s e → FitsEvent e → refusal_of own s e ≡ None → Keeps s.stored (event_step own s e)
  event_keeps AddGroup c f passed = stores s.stored MakeGroup (unchanged s) (none_yet s refl) tt
  event_keeps (Call call now) c f passed =
      call_keeps s.stored own call (begun now s) (none_yet (begun now s).state refl)
      (call_passed own s now call (no_reason (reasons_of own s (Call call now)) passed).1)
  event_keeps (Receive peer m now) c f passed =
      body_keeps s.stored own peer m.body (begun now s) (none_yet (begun now s).state refl) (record { begins = c.begins; ends = c.ends }) f
  event_keeps Open c f passed =
      let last = snapshot_last s.stored in
      let fresh = unchanged (state_of s.stored) in
      resumed s.stored own _
      (same s.stored (drop_stale_log last fresh) _ refl refl refl (dropped s.stored last fresh refl (none_yet (state_of s.stored) refl)))

  step_keeps : (e : GroupEvent) → ComesWithin s e → FitsEvent e → (why : Option RefusalReason) → refusal_of own s e ≡ why → Keeps s.stored (step_unless why own s e)
  step_keeps e c f (Some why) is = same s.stored (unchanged s) (refused_step s why) refl refl refl (none_yet s refl)
  step_keeps e c f None is = finished_keeps s.stored own s.committed (event_step own s e) (event_keeps e c f is)

pub steps_fit : StepsFit
steps_fit own s e fits c f =
    let k = step_keeps own s fits e c f (refusal_of own s e) refl in
    record {
      commands = k.all;
      messages = k.messages;
      stored = k.now;
      stops = λ n. stop_fits n (group_step own s e).commands s.stored fits k.all;
    }

-- what the event itself leaves fits
pub event_fits : (own : ℕ) (s : GroupState) (e : GroupEvent) → FitsStored s.stored → ComesWithin s e → FitsEvent e → refusal_of own s e ≡ None → FitsStored (event_step own s e).state.stored
event_fits own s e fits c f passed = (event_keeps own s fits e c f passed).now
