-- What a step tells: each token that is told or still to be told stands for an entry at its place, and a told place is
-- committed.
use Rattle.std.specs.Prelude.{◌≡◌, ℕ, ◌+◌, ◌<◌, ◌^◌, ◌==◌, ◌&&◌, not, cond, Bool, true, false, List, [], ◌∷◌, ◌++◌, length, take, filter, slice_get, Option, Some, None, refl}
use Rattle.std.proofs.Common.{sym, ap, ◌∙◌, subst, arith, length-take-le}
use Rattle.std.proofs.lemmas.Bool.{and_parts}
use Rattle.std.proofs.lemmas.Option.{slice_get_within}
use Rattle.raft_values.specs.declared.vote.Vote.{Vote}
use Rattle.raft_values.specs.declared.log_id.LogId.{LogId}
use Rattle.raft_values.specs.LogId.{log_id_of, place_of}
use Rattle.raft_state.specs.declared.entry.EntryPayload.TheVariants.{Normal, Membership as Members}
use Rattle.raft_group_step.specs.Values.{after_change, ChangeMembers, Entry, EntryPayload, entry_of, LoggedMembership, Membership, vote_eq, vote_lt}
use Rattle.raft_group_step.specs.StoredGroup.{StoredGroup, Snapshot, PutEntries, end_place, held, membership_in_force, snapshot_last}
use Rattle.raft_group_step.specs.Message.{MessageBody, VoteRequest, VoteReply, AppendRequest, AppendReply, SnapshotRequest, SnapshotReply, AppendFields, ReplyFields, ReplyResult, Success, PartialSuccess, Conflict, HigherVote}
use Rattle.raft_group_step.specs.Peer.{is_kept_for_peers}
use Rattle.raft_group_step.specs.GroupState.{GroupState, Lead, Role, Follower, Candidate, Leader, Untold, is_leader, state_of}
use Rattle.raft_group_step.specs.declared.group_call.GroupCall.TheVariants.{Initialize, Elect, Propose, ChangeMembership, Heartbeat, Lost, TriggerSnapshot, TriggerPurge}
use Rattle.raft_group_step.specs.GroupEvent.{GroupCall, GroupEvent, AddGroup, Call, Receive, Open}
use Rattle.raft_group_step.specs.StepResult.{RefusalReason, NotLeader, StepResult, append, apply_up_to, in_role, is_within, later_place, renew, send, step_down, store, store_vote, take_over, unchanged}
use Rattle.raft_group_step.specs.Lead.{commit_as_leader, new_lead, purge_as_wished, purge_up_to, with_grant, with_wish}
use Rattle.raft_group_step.specs.VoteRequest.{judged, may_grant}
use Rattle.raft_group_step.specs.VoteReply.{counted, take_over_greater}
use Rattle.raft_group_step.specs.AppendRequest.{heard, is_held}
use Rattle.raft_group_step.specs.SnapshotRequest.{offered}
use Rattle.raft_group_step.specs.Reply.{reply_step, with_higher_vote}
use Rattle.raft_group_step.specs.Propose.{append_with_token}
use Rattle.raft_group_step.specs.MembershipStep.{append_changed}
use Rattle.raft_group_step.specs.Opening.{drop_stale_log, opening_step}
use Rattle.raft_group_step.specs.Refusal.{do_follow, has_known_snapshot, is_of_leader, is_sound, keep_voters, known_leader, reasons_of, reasons_of_call, reasons_of_change, refusal_of}
use Rattle.raft_group_step.specs.GroupStep.{begun, call_step, event_step, finished, group_step, message_step, step_unless}
use Rattle.raft_group_step.proofs.Words.{either, leads_if}
use Rattle.raft_group_step.proofs.Refusals.{unless_none}
use Rattle.raft_laws.specs.BallotWorld.{BallotWorld, BallotEvent}
use Rattle.raft_laws.proofs.Shapes.{joined_end, joined_held, slice_after}
use Rattle.raft_laws.proofs.Standing.{BodyFits, OwnVote, RoleFits}
use Rattle.raft_laws.proofs.StepCalls.{NoReason, change_keeps, leading, no_reason, normal_differs}
use Rattle.raft_laws.proofs.StepMessages.{message_passed, of_leader}
use Rattle.raft_laws.proofs.StepWishes.{Wished, committed_wish}
use Rattle.raft_laws.proofs.TrackCommits.{commit_ends}
use Rattle.raft_laws.proofs.TrackElections.{Ends}
use Rattle.raft_laws.proofs.TrackVotes.{took_over}
use Rattle.raft_laws.proofs.StepEntries.{Each, each_append, each_filter, each_more}
use Rattle.raft_laws.proofs.StepTokens.{Quiet, SameTokens, apply_quiet, drop_quiet, same_quiet, answered_same, beat_same, elect_quiet, frames_same, grant_quiet, joined_quiet, lost_same, purge_same, purge_within_same, same_refl, same_trans, snapshot_same, unless_quiet}
use Rattle.raft_laws.proofs.StepFits.{EventFits, NodeFits, StopFits, world_after}
use Rattle.raft_laws.proofs.StepDispatch.{begins, event_ends}
use Rattle.raft_laws.proofs.StepOpening.{opening_ends, opening_wish}
use Rattle.raft_laws.proofs.Tracking.{Tracks, track_same}
use Rattle.raft_laws.proofs.TrackWrites.{below_stays, write_held}

-- what passes, with that it passed
each_passed : {A : Type 0} (P : A → Type 0) (p : A → Bool) (xs : List A) → Each P xs → Each (λ x. P x × (p x ≡ true)) (filter p xs)
each_passed P p [] h = tt
each_passed P p (x ∷ xs) h = go (p x) refl (each_passed P p xs h.1)
  where
    go : (b : Bool) → p x ≡ b → Each (λ y. P y × (p y ≡ true)) (filter p xs) → Each (λ y. P y × (p y ≡ true)) (cond b (x ∷ filter p xs) (filter p xs))
    go true e rest = ((h.0, e), rest)
    go false e rest = rest

abbrev next_id : StoredGroup → LogId ℕ
next_id st = record { leader_id = st.vote.leader_id; index = end_place st }

abbrev pub token_at : StoredGroup → ℕ → Untold
token_at st token = record { token = token; place = end_place st }

abbrev with_token : ℕ → StepResult → StepResult
with_token token r =
    record r { state = record r.state { untold = r.state.untold ++ token_at r.state.stored token ∷ [] } }

module _ (Q : Untold → Entry → Type 0) where
  -- the token's place has an entry that the token is for
  abbrev pub TokenFits : StoredGroup → Untold → Type 0
  TokenFits st x = (e : Entry) × (slice_get (held st) x.place ≡ Some e) × Q x e

  -- a leader's tokens; others have none
  pub record TokensFit (s : GroupState) : Type 0 where
    pub untold : Each (TokenFits s.stored) s.untold
    pub leads : is_leader s.role ≡ false → s.untold ≡ []

  abbrev pub ToldFits : GroupState → Untold → Type 0
  ToldFits s x = TokenFits s.stored x × (is_within x.place s.committed ≡ true)

  -- the end of a step
  pub record TokensEnd (r : StepResult) : Type 0 where
    pub left : TokensFit r.state
    pub told : Each (ToldFits r.state) r.told

  -- the entry that a call writes is what its token is for
  abbrev pub TokenFor : StoredGroup → ℕ → EntryPayload → Type 0
  TokenFor st token payload = Q (token_at st token) (entry_of (next_id st) payload)

  abbrev pub ChangeToken : StoredGroup → Option LoggedMembership → ChangeMembers → ℕ → Type 0
  ChangeToken st None change token = Unit {0}
  ChangeToken st (Some x) change token = TokenFor st token (Members (after_change x.membership change))

  abbrev pub CallToken : StoredGroup → GroupCall → Type 0
  CallToken st (Initialize first) = Unit {0}
  CallToken st Elect = Unit {0}
  CallToken st (Propose command token) = TokenFor st token (Normal command)
  CallToken st (ChangeMembership change token) = ChangeToken st (membership_in_force st) change token
  CallToken st Heartbeat = Unit {0}
  CallToken st (Lost peer) = Unit {0}
  CallToken st TriggerSnapshot = Unit {0}
  CallToken st (TriggerPurge place) = Unit {0}

  abbrev pub EventToken : StoredGroup → GroupEvent → Type 0
  EventToken st AddGroup = Unit {0}
  EventToken st (Call call now) = CallToken st call
  EventToken st (Receive peer x now) = Unit {0}
  EventToken st Open = Unit {0}

  -- ---- inside an event nothing is told yet

  record Holding (r : StepResult) : Type 0 where
    fits : TokensFit r.state
    none : r.told ≡ []

  tokens_on : {r q : StepResult} → SameTokens r q → TokensFit r.state → TokensFit q.state
  tokens_on {r} {q} s h =
      record {
        untold =
            subst (Each (TokenFits q.state.stored)) (sym s.untold)
            (each_more (TokenFits r.state.stored) (TokenFits q.state.stored) (λ x f. (f.0, ap (λ l. slice_get l x.place) s.listed ∙ f.1, f.2)) r.state.untold h.untold);
        leads = λ n. s.untold ∙ h.leads (sym s.leads ∙ n);
      }

  holding_on : {r q : StepResult} → SameTokens r q → Holding r → Holding q
  holding_on s h = record { fits = tokens_on s h.fits; none = s.told ∙ h.none }

  told_on : {r q : StepResult} → SameTokens r q → (x : Untold) → ToldFits r.state x → ToldFits q.state x
  told_on s x f =
      ((f.0.0, ap (λ l. slice_get l x.place) s.listed ∙ f.0.1, f.0.2), ap (is_within x.place) s.committed ∙ f.1)

  end_on : {r q : StepResult} → SameTokens r q → TokensEnd r → TokensEnd q
  end_on {r} {q} s h =
      record {
        left = tokens_on s h.left;
        told =
            subst (Each (ToldFits q.state)) (sym s.told)
            (each_more (ToldFits r.state) (ToldFits q.state) (told_on s) r.told h.told);
      }

  quiet_holds : {q : StepResult} → Quiet q → Holding q
  quiet_holds {q} h =
      record {
        fits = record { untold = subst (Each (TokenFits q.state.stored)) (sym h.untold) tt; leads = λ n. h.untold };
        none = h.told;
      }

  holds_quiet : {r : StepResult} → Holding r → is_leader r.state.role ≡ false → Quiet r
  holds_quiet h n = record { untold = h.fits.leads n; told = h.none }

  take_over_holds : (v : Vote ℕ) (r : StepResult) → Holding r → Holding (take_over v r)
  take_over_holds v r h =
      either Holding (vote_lt r.state.stored.vote v) (store_vote v (step_down r)) (renew r)
      (quiet_holds (record { untold = refl; told = h.none }))
      (holding_on (record { listed = refl; untold = refl; leads = refl; told = refl; committed = refl }) h)

  greater_holds : (v : Vote ℕ) (r : StepResult) → Holding r → Holding (take_over_greater v r)
  greater_holds v r h =
      either Holding (vote_lt r.state.stored.vote v) (store_vote v (step_down r)) r
      (quiet_holds (record { untold = refl; told = h.none })) h

  send_holds : (own peer : ℕ) (b : MessageBody) (r : StepResult) → Holding r → Holding (send own peer b r)
  send_holds own peer b r h = holding_on (record { listed = refl; untold = refl; leads = refl; told = refl; committed = refl }) h

  grant_holds : (n : ℕ) (role : Role) (r : StepResult) → r.state.role ≡ role → Holding r → Holding (with_grant n role r)
  grant_holds n Follower r e h = h
  grant_holds n (Candidate granters) r e h = quiet_holds (grant_quiet n (Candidate granters) r (holds_quiet h (ap is_leader e)))
  grant_holds n (Leader lead) r e h = h

  judged_holds : (own peer : ℕ) (v : Vote ℕ) (b : Bool) (r : StepResult) → Holding r → Holding (judged own peer v b r)
  judged_holds own peer v true r h = send_holds own peer _ (take_over v r) (take_over_holds v r h)
  judged_holds own peer v false r h = send_holds own peer _ r h

  counted_holds : (peer : ℕ) (b : Bool) (v : Vote ℕ) (r : StepResult) → Holding r → Holding (counted peer b v r)
  counted_holds peer true v r h = grant_holds peer r.state.role r refl h
  counted_holds peer false v r h = greater_holds v r h

  higher_holds : (o : ReplyResult) (r : StepResult) → Holding r → Holding (with_higher_vote o r)
  higher_holds Success r h = h
  higher_holds (PartialSuccess last) r h = h
  higher_holds Conflict r h = h
  higher_holds (HigherVote v) r h = greater_holds v r h

  reply_holds : (peer : ℕ) (reply : ReplyFields) (r : StepResult) → Holding r → Holding (reply_step peer reply r)
  reply_holds peer reply r h =
      let judged = with_higher_vote reply.outcome r in
      holding_on (answered_same peer reply judged.state.role judged refl) (higher_holds reply.outcome r h)

  -- where a vote of another node is taken over, the node follows
  heard_holds : (own peer : ℕ) (a : AppendFields) (b : Bool) (r : StepResult) → Holding r → (b ≡ false → (take_over a.vote r).state.role ≡ Follower) → Holding (heard own peer a b r)
  heard_holds own peer a true r h f = send_holds own peer _ r h
  heard_holds own peer a false r h f =
      let taken = take_over a.vote r in
      quiet_holds
      (joined_quiet own peer a (is_held taken.state.stored taken.state.committed a.previous) taken
      (holds_quiet (take_over_holds a.vote r h) (ap is_leader (f refl))))

  -- ---- the end of an event

  told_holds : (place : Option ℕ) (r : StepResult) → Holding r → TokensEnd (apply_up_to place r)
  told_holds place r h =
      let due : Untold → Bool = λ x. is_within x.place (later_place r.state.committed place) in
      record {
        left = record {
          untold = each_filter (TokenFits r.state.stored) (λ x. not (due x)) r.state.untold h.fits.untold;
          leads = λ n. ap (filter (λ x. not (due x))) (h.fits.leads n);
        };
        told =
            each_append (ToldFits (apply_up_to place r).state) r.told (filter due r.state.untold)
            (subst (Each (ToldFits (apply_up_to place r).state)) (sym h.none) tt)
            (each_passed (TokenFits r.state.stored) due r.state.untold h.fits.untold);
      }

  not_told : {r : StepResult} → Holding r → TokensEnd r
  not_told {r} h = record { left = h.fits; told = subst (Each (ToldFits r.state)) (sym h.none) tt }

  commit_tells : (own : ℕ) (role : Role) (r : StepResult) → Holding r → TokensEnd (commit_as_leader own role r)
  commit_tells own Follower r h = not_told h
  commit_tells own (Candidate granters) r h = not_told h
  commit_tells own (Leader lead) r h = told_holds _ r h

  -- a leader's new token stands for the entry that is appended
  module _ {m : Membership} {some : 0 < length m.configs} {own : ℕ} {before : List BallotEvent} {base : StoredGroup} (w : BallotWorld) (r : StepResult) (t : Tracks m some own before base w r) (mine : OwnVote own r.state.stored.vote true) where
    token_holds : (payload : EntryPayload) (token : ℕ) → ((x : Membership) → payload ≡ Members x → x.configs ≡ m.configs) → is_leader r.state.role ≡ true → TokenFor r.state.stored token payload → Holding r → Holding (append_with_token payload token r)
    token_holds payload token keeps leads wanted h =
        let q = with_token token r in
        let u = track_same q t refl refl refl refl refl in
        let xs = u.up.list in
        let p = end_place r.state.stored in
        let new : Entry = entry_of (next_id r.state.stored) payload in
        let listed : held r.state.stored ≡ xs = joined_held q.state.stored xs u.up.joined in
        let ends : p ≡ length xs = joined_end q.state.stored xs u.up.joined in
        let now : held (append payload q).state.stored ≡ take p xs ++ new ∷ [] = write_held w q u mine payload keeps in
        let size : length (take p xs) ≡ p = length-take-le p xs (omega (arith, ends)) in
        let last : slice_get (take p xs ++ new ∷ []) p ≡ Some new =
        ap (slice_get (take p xs ++ new ∷ [])) (let e : p ≡ length (take p xs) + 0 = omega (arith, size) in e) ∙ slice_after (take p xs) (new ∷ []) 0
        in
        let stays : (x : Untold) → TokenFits r.state.stored x → TokenFits (append payload q).state.stored x =
        λ x f.
        let there : slice_get xs x.place ≡ Some f.0 = ap (λ l. slice_get l x.place) (sym listed) ∙ f.1 in
        let inside : x.place < p = let l = slice_get_within xs x.place f.0 there in omega (arith, l, ends) in
        (f.0, ap (λ l. slice_get l x.place) now ∙ below_stays xs (new ∷ []) p x.place f.0 (omega (arith, ends)) inside there, f.2)
        in
        record {
          fits = record {
            untold =
                each_append (TokenFits (append payload q).state.stored) r.state.untold (token_at r.state.stored token ∷ [])
                (each_more (TokenFits r.state.stored) (TokenFits (append payload q).state.stored) stays r.state.untold h.fits.untold)
                ((new, ap (λ l. slice_get l p) now ∙ last, wanted), tt);
            leads = λ n. absurd (let f : true ≡ false = sym leads ∙ n in cc);
          };
          none = h.none;
        }

  module _ {m : Membership} {some : 0 < length m.configs} {own : ℕ} {before : List BallotEvent} {base : StoredGroup} where
    wished_same : (w : BallotWorld) (r : StepResult) → Tracks m some own before base w r → RoleFits own w r.state.stored.vote (held r.state.stored) r.state.role → (part : Role) (wish : Option ℕ) → r.state.wish ≡ wish → Wished r → SameTokens r (purge_as_wished part wish r)
    wished_same w r t role Follower wish e h = same_refl r
    wished_same w r t role (Candidate granters) wish e h = same_refl r
    wished_same w r t role (Leader lead) None e h = same_refl r
    wished_same w r t role (Leader lead) (Some place) e h =
        let q = with_wish None r in
        either (SameTokens r) (is_kept_for_peers place lead.peers) r (purge_up_to place q) (same_refl r)
        (same_trans (record { listed = refl; untold = refl; leads = refl; told = refl; committed = refl })
        (purge_same w q (track_same q t refl refl refl refl refl) role place (h place e)))

    finished_tells : {w : BallotWorld} (committed : Option ℕ) (r : StepResult) → Ends m some own before base w r → Wished r → Holding r → TokensEnd (finished own committed r)
    finished_tells committed r e wished h =
        let one = commit_ends e.world r e.tracks r.state.role refl e.role in
        let r1 = commit_as_leader own r.state.role r in
        let r2 = purge_as_wished r1.state.role r1.state.wish r1 in
        end_on (frames_same own committed r2)
        (end_on (wished_same one.world r1 one.tracks one.role r1.state.role r1.state.wish refl (committed_wish own r wished))
        (commit_tells own r.state.role r h))

  -- ---- all events

  module _ {m : Membership} {some : 0 < length m.configs} {own : ℕ} {before : List BallotEvent} {base : StoredGroup} (small : own < 2 ^ 64) (w : BallotWorld) (s : GroupState) (now : ℕ) (t : Tracks m some own before base w (begun now s)) (role : RoleFits own w s.stored.vote (held s.stored) s.role) (tokens : TokensFit s) where
    abbrev r : StepResult
    r = begun now s

    holds : Holding r
    holds = record { fits = record { untold = tokens.untold; leads = tokens.leads }; none = refl }

    changed_holds : (lead : Lead) → s.role ≡ Leader lead → (o : Option LoggedMembership) → membership_in_force s.stored ≡ o → (change : ChangeMembers) (token : ℕ) → NoReason (reasons_of_change o change) → ChangeToken s.stored o change token → Holding (append_changed o change token r)
    changed_holds lead leads None e change token passed wanted = holds
    changed_holds lead leads (Some x) e change token passed wanted =
        token_holds w r t (leading w r t role lead leads).0 (Members (after_change x.membership change)) token
        (change_keeps w r t role x e change passed) (ap is_leader leads) wanted holds

    call_holds : (call : GroupCall) → NoReason (reasons_of_call own s now call) → CallToken s.stored call → Holding (call_step own call r)
    call_holds (Initialize first) passed wanted =
        quiet_holds (elect_quiet own (store (PutEntries 0 (entry_of (log_id_of 0 0 0) (Members first) ∷ [])) r) refl)
    call_holds Elect passed wanted = quiet_holds (elect_quiet own r refl)
    call_holds (Propose command token) passed wanted =
        let lead = leads_if s.role (unless_none (is_leader s.role) (NotLeader (known_leader s.stored.vote)) passed.1.1.0) in
        token_holds w r t (leading w r t role lead.0 lead.1).0 (Normal command) token (λ x e. absurd (normal_differs command x e)) (ap is_leader lead.1) wanted holds
    call_holds (ChangeMembership change token) passed wanted =
        let lead = leads_if s.role (unless_none (is_leader s.role) (NotLeader (known_leader s.stored.vote)) passed.1.0) in
        changed_holds lead.0 lead.1 (membership_in_force s.stored) refl change token passed.1.1.1 wanted
    call_holds Heartbeat passed wanted = holding_on (beat_same own s.role r) holds
    call_holds (Lost peer) passed wanted = holding_on (lost_same peer s.role r refl) holds
    call_holds TriggerSnapshot passed wanted = holding_on (snapshot_same w r t role s.applied refl) holds
    call_holds (TriggerPurge place) passed wanted = holding_on (purge_within_same w r t role place s.stored.snapshot refl) holds

    -- a leader's request makes the node follow
    follows : (v : Vote ℕ) → v.leader_id.node_id < 2 ^ 64 → (v.leader_id.node_id ≡ own → ⊥) → vote_lt v s.stored.vote ≡ false → (take_over v r).state.role ≡ Follower
    follows v bound other low =
        (took_over m some own small before base w r t v bound other
        (subst (λ l. RoleFits own w s.stored.vote l s.role) (joined_held s.stored t.up.list t.up.joined) role) low).role

    offered_holds : (peer : ℕ) (v : Vote ℕ) (id : ℕ) (x : Snapshot) (b : Bool) → (b ≡ false → (take_over v r).state.role ≡ Follower) → Holding (offered own peer v id x b r)
    offered_holds peer v id x true f = send_holds own peer _ r holds
    offered_holds peer v id x false f =
        let taken = take_over v r in
        let quiet = holds_quiet (take_over_holds v r holds) (ap is_leader (f refl)) in
        send_holds own peer _ _ (quiet_holds (unless_quiet (is_within x.last.index taken.state.committed) x taken quiet))

    body_holds : (peer : ℕ) → (peer ≡ own → ⊥) → (b : MessageBody) → BodyFits m w peer b → is_sound own peer s.stored b ≡ true → Holding (message_step own peer b r)
    body_holds peer ne (VoteRequest v last) fits sound = judged_holds own peer v (may_grant r.state v last) r holds
    body_holds peer ne (VoteReply v granted last) fits sound = counted_holds peer (granted && vote_eq v s.stored.vote) v r holds
    body_holds peer ne (AppendRequest a) fits sound =
        let one = and_parts (is_of_leader peer a.vote && do_follow a.vote a.previous a.entries) (keep_voters (membership_in_force s.stored) a.entries) sound in
        let two = and_parts (is_of_leader peer a.vote) (do_follow a.vote a.previous a.entries) one.0 in
        let led = of_leader peer ne a.vote two.0 in
        heard_holds own peer a (vote_lt a.vote s.stored.vote) r holds (follows a.vote fits.bound led.1)
    body_holds peer ne (AppendReply reply) fits sound = reply_holds peer reply r holds
    body_holds peer ne (SnapshotRequest v id x) fits sound =
        let parts = and_parts (is_of_leader peer v) (has_known_snapshot (membership_in_force s.stored) x.membership) sound in
        let led = of_leader peer ne v parts.0 in
        offered_holds peer v id x (vote_lt v s.stored.vote) (follows v fits.bound led.1)
    body_holds peer ne (SnapshotReply reply) fits sound = reply_holds peer reply r holds

  opening_quiet : (own : ℕ) (st : StoredGroup) → Quiet (opening_step own st)
  opening_quiet own st =
      let last = snapshot_last st in
      let dropped = drop_stale_log last (unchanged (state_of st)) in
      let placed = apply_up_to (place_of last) dropped in
      let quiet = apply_quiet (place_of last) dropped (drop_quiet last (unchanged (state_of st)) (record { untold = refl; told = refl })) in
      let vote = placed.state.stored.vote in
      either Quiet (vote.committed && vote.leader_id.node_id == own) (in_role (Leader (new_lead placed.state.stored)) placed) placed
      (same_quiet placed (in_role (Leader (new_lead placed.state.stored)) placed) refl refl quiet) quiet

  module _ (m : Membership) (some : 0 < length m.configs) (own : ℕ) (small : own < 2 ^ 64) (before : List BallotEvent) where
    event_holds : (s : GroupState) (e : GroupEvent) → NodeFits m (world_after m before) own s → EventFits m (world_after m before) e → TokensFit s → refusal_of own s e ≡ None → EventToken s.stored e → Holding (event_step own s e)
    event_holds s AddGroup n fits tokens passed wanted =
        holding_on {r = unchanged s} (record { listed = refl; untold = refl; leads = refl; told = refl; committed = refl }) (record { fits = tokens; none = refl })
    event_holds s (Call call now) n fits tokens passed wanted =
        call_holds small (world_after m before) s now (begins m some own before s (begun now s).state n refl refl refl) n.role tokens call
        (no_reason (reasons_of own s (Call call now)) passed).1 wanted
    event_holds s (Receive peer x now) n fits tokens passed wanted =
        let p = message_passed own s peer x now passed in
        body_holds small (world_after m before) s now (begins m some own before s (begun now s).state n refl refl refl) n.role tokens peer p.stranger x.body
        (subst (λ k. BodyFits m (world_after m before) k x.body) p.sender fits) p.sound
    event_holds s Open n fits tokens passed wanted = quiet_holds (opening_quiet own s.stored)

    told_unless : (s : GroupState) (e : GroupEvent) → NodeFits m (world_after m before) own s → EventFits m (world_after m before) e → TokensFit s → (why : Option RefusalReason) → refusal_of own s e ≡ why → (why ≡ None → EventToken s.stored e) → TokensEnd (step_unless why own s e)
    told_unless s e n fits tokens (Some why) f wanted = record { left = tokens; told = tt }
    told_unless s e n fits tokens None f wanted =
        let on = event_ends m some own before small s e n fits f in
        finished_tells s.committed (event_step own s e) on.0 on.1 (event_holds s e n fits tokens f (wanted refl))

    -- each step of a node that is up
    pub step_tells : (s : GroupState) (e : GroupEvent) → NodeFits m (world_after m before) own s → EventFits m (world_after m before) e → TokensFit s → (refusal_of own s e ≡ None → EventToken s.stored e) → TokensEnd (group_step own s e)
    step_tells s e n fits tokens wanted = told_unless s e n fits tokens (refusal_of own s e) refl wanted

    -- each opening of a node that is down
    pub opening_tells : (st : StoredGroup) → StopFits m (world_after m before) own st → TokensEnd (group_step own (state_of st) Open)
    opening_tells st n =
        finished_tells None (event_step own (state_of st) Open) (opening_ends m some own before st n.down n.lead) (opening_wish m some own before st n.down n.lead)
        (quiet_holds (opening_quiet own st))
