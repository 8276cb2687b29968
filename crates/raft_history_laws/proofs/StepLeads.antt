-- In each step a lead goes on with its tokens, or there are no tokens behind it.
use Rattle.std.specs.Prelude.{◌≡◌, ◌⊎◌, ℕ, ◌≤◌, ◌&&◌, cond, min, nat_lt, Bool, true, false, List, [], ◌∷◌, ◌++◌, Option, Some, None, is_some, refl}
use Rattle.std.specs.List.{list_any}
use Rattle.std.proofs.Common.{inl, inr, sym, ap, ◌∙◌, subst, arith, ⊎_elim}
use Rattle.raft_values.specs.declared.log_id.LogId.{LogId}
use Rattle.raft_values.specs.declared.vote.Vote.{Vote}
use Rattle.raft_values.specs.LogId.{next_place}
use Rattle.raft_state.specs.declared.entry.EntryPayload.TheVariants.{Blank}
use Rattle.raft_quorums.specs.Quorum.{is_quorum}
use Rattle.raft_group_step.specs.Values.{entry_of, has_id, is_written_by, vote_eq, vote_lt}
use Rattle.raft_group_step.specs.StoredGroup.{StoredGroup, Snapshot, end_place, entry_at, first_place, id_of, snapshot_last}
use Rattle.raft_group_step.specs.Message.{AppendFields, MessageBody, ReplyFields, ReplyResult, Success, PartialSuccess, Conflict, HigherVote}
use Rattle.raft_group_step.specs.Peer.{PeerState, is_answer_to}
use Rattle.raft_group_step.specs.GroupState.{GroupState, Lead, Role, Follower, Candidate, Leader, is_leader}
use Rattle.raft_group_step.specs.StepResult.{StepResult, append, in_role, is_within, later_place, renew, send, step_down, store_vote, take_over}
use Rattle.raft_group_step.specs.Lead.{begin_lead, committed_vote, configs_in_force, lead_if, new_lead, other_ids, peer_of, remove_up_to, with_grant, with_wish}
use Rattle.raft_group_step.specs.Frames.{with_peer_state}
use Rattle.raft_group_step.specs.Elect.{ask, elect_step, other_voters, stand}
use Rattle.raft_group_step.specs.VoteRequest.{judged}
use Rattle.raft_group_step.specs.VoteReply.{counted, take_over_greater}
use Rattle.raft_group_step.specs.AppendRequest.{heard, is_held, joined}
use Rattle.raft_group_step.specs.SnapshotRequest.{install_unless, offered}
use Rattle.raft_group_step.specs.Reply.{after_answer, answered, ended, reply_step, with_higher_vote}
use Rattle.raft_group_step.specs.Heartbeat.{beat_as, send_notices}
use Rattle.raft_group_step.specs.Lost.{lost_as}
use Rattle.raft_group_step.specs.SnapshotTrigger.{snapshot_of_applied, store_snapshot_at}
use Rattle.raft_group_step.specs.PurgeTrigger.{purge_as, purge_within}
use Rattle.raft_group_step.proofs.Words.{either, installing_keeps_role, joined_keeps_role}
use Rattle.raft_laws.proofs.BallotAgreement.{same_some}
use Rattle.raft_laws.proofs.StepTokens.{Quiet, joined_quiet, same_quiet, unless_quiet}
use Rattle.raft_history_laws.proofs.TakenEntries.{put_end}

-- where a leader's lead began
abbrev pub began_of : Role → Option ℕ
began_of Follower = None
began_of (Candidate granters) = None
began_of (Leader lead) = Some lead.began

-- the lead, if there is one, began within the log
abbrev pub BeganWithin : Role → StoredGroup → Type 0
BeganWithin role st = (place : ℕ) → began_of role ≡ Some place → place ≤ end_place st

-- there are no tokens, whatever the node does from now on
pub record Without (q : StepResult) : Type 0 where
  pub quiet : Quiet q
  pub began : BeganWithin q.state.role q.state.stored

without_on : (q p : StepResult) → p.state.untold ≡ q.state.untold → p.told ≡ q.told → p.state.role ≡ q.state.role → end_place p.state.stored ≡ end_place q.state.stored → Without q → Without p
without_on q p e f g h w =
    record {
      quiet = same_quiet q p e f w.quiet;
      began = λ place is. let l = w.began place (ap began_of (sym g) ∙ is) in omega arith;
    }

-- there is no lead
pub none_began : (role : Role) (st : StoredGroup) → began_of role ≡ None → BeganWithin role st
none_began role st e place is = absurd (let f : None ≡ Some place = sym e ∙ is in cc)

-- a node that follows
without_follower : (q : StepResult) → Quiet q → q.state.role ≡ Follower → Without q
without_follower q h e = record { quiet = h; began = none_began q.state.role q.state.stored (ap began_of e) }

-- ---- a lead that begins

begin_without : (r : StepResult) → Quiet r → Without (begin_lead r)
begin_without r h =
    let q = in_role (Leader (new_lead r.state.stored)) (store_vote (committed_vote r.state.stored.vote) r) in
    let k : Quiet q = same_quiet r q refl refl h in
    either Without (list_any (is_written_by q.state.stored.vote.leader_id) q.state.stored.log) q (append Blank q)
    (record { quiet = k; began = λ place is. let e = same_some is in omega arith })
    (record {
      quiet = same_quiet q (append Blank q) refl refl k;
      began = λ place is.
          let e = same_some is in
          let n = put_end q.state.stored (entry_of (record { leader_id = q.state.stored.vote.leader_id; index = end_place q.state.stored }) Blank) in
          omega arith;
    })

grant_without : (n : ℕ) (granters : List ℕ) (r : StepResult) → Quiet r → Without (with_grant n (Candidate granters) r)
grant_without n granters r h =
    let granted = cond (has_id granters n) granters (granters ++ n ∷ []) in
    let q = in_role (Candidate granted) r in
    go (is_quorum (configs_in_force r.state.stored) (has_id granted)) q (same_quiet r q refl refl h) (none_began q.state.role q.state.stored refl)
  where
    go : (b : Bool) (q : StepResult) → Quiet q → BeganWithin q.state.role q.state.stored → Without (lead_if b q)
    go true q k began = begin_without q k
    go false q k began = record { quiet = k; began = began }

ask_same : (own : ℕ) (ns : List ℕ) (r : StepResult) → ((ask own ns r).state ≡ r.state) × ((ask own ns r).told ≡ r.told)
ask_same own [] r = (refl, refl)
ask_same own (n ∷ ns) r = ask_same own ns _

pub elect_without : (own : ℕ) (r : StepResult) → r.told ≡ [] → Without (elect_step own r)
elect_without own r none =
    let stood = stand own r in
    let asked = ask_same own (other_voters own r.state.stored) _ in
    let quiet : Quiet stood = record { untold = ap (λ (s : GroupState). s.untold) asked.0; told = asked.1 ∙ none } in
    subst (λ role. Without (with_grant own role stood)) (sym (ap (λ (s : GroupState). s.role) asked.0))
    (grant_without own [] stood quiet)

-- ---- a lead that goes on

module _ (s : GroupState) (others : is_leader s.role ≡ false → s.untold ≡ []) where
  pub record Going (q : StepResult) : Type 0 where
    pub vote : q.state.stored.vote ≡ s.stored.vote
    pub began : began_of q.state.role ≡ began_of s.role
    pub untold : q.state.untold ≡ s.untold
    pub told : q.told ≡ []
    pub committed : q.state.committed ≡ s.committed

  abbrev pub Kept : StepResult → Type 0
  Kept q = Without q ⊎ Going q

  going_on : (q p : StepResult) → p.state.stored.vote ≡ q.state.stored.vote → began_of p.state.role ≡ began_of q.state.role → p.state.untold ≡ q.state.untold → p.told ≡ q.told → p.state.committed ≡ q.state.committed → Going q → Going p
  going_on q p a b c d e h =
      record {
        vote = a ∙ h.vote;
        began = b ∙ h.began;
        untold = c ∙ h.untold;
        told = d ∙ h.told;
        committed = e ∙ h.committed;
      }

  -- what stores and says nothing of the lead
  kept_on : (q p : StepResult) → p.state.stored ≡ q.state.stored → p.state.role ≡ q.state.role → p.state.untold ≡ q.state.untold → p.told ≡ q.told → p.state.committed ≡ q.state.committed → Kept q → Kept p
  kept_on q p a b c d e h =
      ⊎_elim
      (λ w. inl (without_on q p c d b (ap end_place a) w))
      (λ g. inr (going_on q p (ap (λ (st : StoredGroup). st.vote) a) (ap began_of b) c d e g))
      h

  kept_told : (q : StepResult) → Kept q → q.told ≡ []
  kept_told q h = ⊎_elim (λ w. w.quiet.told) (λ g. g.told) h

  -- a candidate or follower has no tokens
  no_lead : (role : Role) → began_of role ≡ None → is_leader role ≡ false
  no_lead Follower e = refl
  no_lead (Candidate granters) e = refl
  no_lead (Leader lead) e = absurd (let f : Some lead.began ≡ None = e in cc)

  kept_quiet : (q : StepResult) → began_of q.state.role ≡ None → Kept q → Quiet q
  kept_quiet q e h =
      ⊎_elim
      (λ w. w.quiet)
      (λ g. record { untold = g.untold ∙ others (no_lead s.role (sym g.began ∙ e)); told = g.told })
      h

  down_without : (q : StepResult) (vote : Vote ℕ) → Kept q → Without (store_vote vote (step_down q))
  down_without q vote h =
      without_follower (store_vote vote (step_down q)) (record { untold = refl; told = kept_told q h }) refl

  take_over_kept : (v : Vote ℕ) (q : StepResult) → Kept q → Kept (take_over v q)
  take_over_kept v q h =
      either Kept (vote_lt q.state.stored.vote v) (store_vote v (step_down q)) (renew q)
      (inl (down_without q v h))
      (kept_on q (renew q) refl refl refl refl refl h)

  greater_kept : (v : Vote ℕ) (q : StepResult) → Kept q → Kept (take_over_greater v q)
  greater_kept v q h =
      either Kept (vote_lt q.state.stored.vote v) (store_vote v (step_down q)) q (inl (down_without q v h)) h

  send_kept : (own peer : ℕ) (b : MessageBody) (q : StepResult) → Kept q → Kept (send own peer b q)
  send_kept own peer b q h = kept_on q (send own peer b q) refl refl refl refl refl h

  grant_kept : (n : ℕ) (role : Role) (q : StepResult) → q.state.role ≡ role → Kept q → Kept (with_grant n role q)
  grant_kept n Follower q e h = h
  grant_kept n (Candidate granters) q e h = inl (grant_without n granters q (kept_quiet q (ap began_of e) h))
  grant_kept n (Leader lead) q e h = h

  pub judged_kept : (own peer : ℕ) (v : Vote ℕ) (b : Bool) (q : StepResult) → Kept q → Kept (judged own peer v b q)
  judged_kept own peer v true q h = send_kept own peer _ (take_over v q) (take_over_kept v q h)
  judged_kept own peer v false q h = send_kept own peer _ q h

  pub counted_kept : (peer : ℕ) (b : Bool) (v : Vote ℕ) (q : StepResult) → Kept q → Kept (counted peer b v q)
  counted_kept peer true v q h = grant_kept peer q.state.role q refl h
  counted_kept peer false v q h = greater_kept v q h

  -- ---- replies

  higher_kept : (o : ReplyResult) (q : StepResult) → Kept q → Kept (with_higher_vote o q)
  higher_kept Success q h = h
  higher_kept (PartialSuccess last) q h = h
  higher_kept Conflict q h = h
  higher_kept (HigherVote v) q h = greater_kept v q h

  -- another note of a peer
  peer_kept : (p : PeerState) (lead : Lead) (q : StepResult) → q.state.role ≡ Leader lead → Kept q → Kept (with_peer_state p lead q)
  peer_kept p lead q e h =
      ⊎_elim
      (λ w.
      inl
      (record {
        quiet = same_quiet q (with_peer_state p lead q) refl refl w.quiet;
        began = λ place is. w.began place (ap began_of e ∙ is);
      }))
      (λ g. inr (going_on q (with_peer_state p lead q) refl (sym (ap began_of e)) refl refl refl g))
      h

  answered_kept : (peer : ℕ) (reply : ReplyFields) (role : Role) (q : StepResult) → q.state.role ≡ role → Kept q → Kept (answered peer reply role q)
  answered_kept peer reply Follower q e h = h
  answered_kept peer reply (Candidate granters) q e h = h
  answered_kept peer reply (Leader lead) q e h =
      let p = after_answer (peer_of lead peer) reply reply.outcome in
      either Kept (vote_eq reply.vote q.state.stored.vote && is_answer_to reply (peer_of lead peer).outstanding) (with_peer_state p lead q) q
      (peer_kept p lead q e h) h

  pub reply_kept : (peer : ℕ) (reply : ReplyFields) (q : StepResult) → Kept q → Kept (reply_step peer reply q)
  reply_kept peer reply q h =
      let judged = with_higher_vote reply.outcome q in
      answered_kept peer reply judged.state.role judged refl (higher_kept reply.outcome q h)

  -- ---- requests of a leader, behind which the node follows

  pub heard_kept : (own peer : ℕ) (a : AppendFields) (b : Bool) (q : StepResult) → (b ≡ false → (take_over a.vote q).state.role ≡ Follower) → Kept q → Kept (heard own peer a b q)
  heard_kept own peer a true q f h = send_kept own peer _ q h
  heard_kept own peer a false q f h =
      let taken = take_over a.vote q in
      let quiet = kept_quiet taken (ap began_of (f refl)) (take_over_kept a.vote q h) in
      let b = is_held taken.state.stored taken.state.committed a.previous in
      inl (without_follower (joined own peer a b taken) (joined_quiet own peer a b taken quiet) (joined_keeps_role own peer a b taken ∙ f refl))

  pub offered_kept : (own peer : ℕ) (v : Vote ℕ) (id : ℕ) (x : Snapshot) (b : Bool) (q : StepResult) → (b ≡ false → (take_over v q).state.role ≡ Follower) → Kept q → Kept (offered own peer v id x b q)
  offered_kept own peer v id x true q f h = send_kept own peer _ q h
  offered_kept own peer v id x false q f h =
      let taken = take_over v q in
      let quiet = kept_quiet taken (ap began_of (f refl)) (take_over_kept v q h) in
      let b = is_within x.last.index taken.state.committed in
      inl
      (without_follower (offered own peer v id x false q)
      (same_quiet (install_unless b x taken) (offered own peer v id x false q) refl refl (unless_quiet b x taken quiet))
      (installing_keeps_role b x taken ∙ f refl))

  -- ---- calls that leave the lead alone

  notices_going : (own : ℕ) (lead : Lead) (ns : List ℕ) (q : StepResult) → Going q → Going (send_notices own lead ns q)
  notices_going own lead [] q h = h
  notices_going own lead (n ∷ ns) q h = notices_going own lead ns _ (going_on q _ refl refl refl refl refl h)

  pub beat_going : (own : ℕ) (role : Role) (q : StepResult) → Going q → Going (beat_as own role q)
  beat_going own Follower q h = h
  beat_going own (Candidate granters) q h = h
  beat_going own (Leader lead) q h = notices_going own lead (other_ids own q.state.stored) q h

  pub lost_going : (peer : ℕ) (role : Role) (q : StepResult) → q.state.role ≡ role → Going q → Going (lost_as peer role q)
  lost_going peer Follower q e h = h
  lost_going peer (Candidate granters) q e h = h
  lost_going peer (Leader lead) q e h =
      let p = ended (peer_of lead peer) in
      either Going (is_some (peer_of lead peer).outstanding) (with_peer_state p lead q) q
      (going_on q (with_peer_state p lead q) refl (sym (ap began_of e)) refl refl refl h) h

  shot_going : (id : Option (LogId ℕ)) (q : StepResult) → Going q → Going (store_snapshot_at id q)
  shot_going None q h = h
  shot_going (Some id) q h = going_on q _ refl refl refl refl refl h

  pub snapshot_going : (place : Option ℕ) (q : StepResult) → Going q → Going (snapshot_of_applied place q)
  snapshot_going None q h = h
  snapshot_going (Some place) q h =
      either Going (nat_lt place (next_place (snapshot_last q.state.stored))) q (store_snapshot_at (id_of (entry_at q.state.stored place)) q) h (shot_going _ q h)

  remove_going : (id : Option (LogId ℕ)) (q : StepResult) → Going q → Going (remove_up_to id q)
  remove_going None q h = h
  remove_going (Some id) q h = going_on q _ refl refl refl refl refl h

  purge_going : (place : ℕ) (role : Role) (q : StepResult) → Going q → Going (purge_as place role q)
  purge_going place Follower q h = remove_going _ q h
  purge_going place (Candidate granters) q h = remove_going _ q h
  purge_going place (Leader lead) q h =
      either Going (nat_lt place (first_place q.state.stored)) q (with_wish (later_place q.state.wish (Some place)) q) h
      (going_on q _ refl refl refl refl refl h)

  pub within_going : (place : ℕ) (last : Option (LogId ℕ)) (q : StepResult) → Going q → Going (purge_within place last q)
  within_going place None q h = h
  within_going place (Some last) q h = purge_going (min place last.index) q.state.role q h
