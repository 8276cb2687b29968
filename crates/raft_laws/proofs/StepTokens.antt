-- Tokens that are told, or still to be told: each stands for an entry at its place, which stays there.
use Rattle.std.specs.Prelude.{◌≡◌, ℕ, ◌<◌, ◌≤◌, ◌&&◌, not, cond, nat_lt, min, Bool, true, false, List, [], ◌∷◌, ◌++◌, length, filter, slice_get, Option, Some, None, is_none, is_some, option_map, refl}
use Rattle.std.proofs.Common.{sym, ap, ap₂, ◌∙◌, subst, arith, ⊎_elim}
use Rattle.std.proofs.lemmas.Bool.{cases_lt, ltb-false}
use Rattle.std.proofs.lemmas.Option.{slice_get_within}
use Rattle.raft_values.specs.LogId.{next_place}
use Rattle.raft_values.specs.declared.log_id.LogId.{LogId}
use Rattle.raft_state.specs.declared.entry.EntryPayload.TheVariants.{Blank}
use Rattle.std.specs.List.{list_any}
use Rattle.raft_quorums.specs.Quorum.{is_quorum}
use Rattle.raft_group_step.specs.Values.{Entry, has_id, is_written_by, Membership, vote_eq}
use Rattle.raft_group_step.specs.StoredGroup.{StoredGroup, Snapshot, RemoveUpTo, SetSnapshot, StartAfter, CutFrom, entry_at, first_place, held, id_of, prefix_of, snapshot_last}
use Rattle.raft_group_step.specs.Message.{AppendFields, ReplyFields}
use Rattle.raft_group_step.specs.Peer.{PeerState, is_answer_to, with_peer}
use Rattle.raft_group_step.specs.GroupState.{Lead, Role, Follower, Candidate, Leader, Untold, is_leader}
use Rattle.raft_group_step.specs.StepResult.{StepResult, append, apply_up_to, in_role, is_within, later_place, send, step_down, store, store_vote}
use Rattle.raft_group_step.specs.Lead.{begin_lead, committed_vote, configs_in_force, lead_if, new_lead, other_ids, peer_of, purge_up_to, remove_up_to, with_grant, with_wish}
use Rattle.raft_group_step.specs.Frames.{has_grown, with_peer_state, lacks_entries, notice, send_entries, send_request, send_snapshot, serve, serve_all, serve_as, with_frames}
use Rattle.raft_group_step.specs.Elect.{ask, elect_step, other_voters, stand}
use Rattle.raft_group_step.specs.AppendRequest.{cut_at, cut_from, joined, put_entries}
use Rattle.raft_group_step.specs.SnapshotRequest.{cut_other, install_unless, place_above}
use Rattle.raft_group_step.specs.Reply.{after_answer, answered, ended}
use Rattle.raft_group_step.specs.Heartbeat.{beat_as, send_notices}
use Rattle.raft_group_step.specs.Lost.{lost_as}
use Rattle.raft_group_step.specs.SnapshotTrigger.{snapshot_of_applied, store_snapshot_at}
use Rattle.raft_group_step.specs.PurgeTrigger.{purge_as, purge_within}
use Rattle.raft_group_step.specs.Opening.{drop_stale_log, is_joined_to}
use Rattle.raft_group_step.proofs.Words.{either, either_by}
use Rattle.raft_laws.specs.BallotWorld.{BallotWorld, BallotEvent}
use Rattle.raft_laws.proofs.BallotAgreement.{some_at}
use Rattle.raft_laws.proofs.Shapes.{joined_at, joined_below}
use Rattle.raft_laws.proofs.Standing.{RoleFits}
use Rattle.raft_laws.proofs.Tracking.{Tracks}
use Rattle.raft_laws.proofs.TrackCalls.{same_held as shot_held, snapshot_next}
use Rattle.raft_laws.proofs.TrackPurges.{same_held as purged_held}

-- ---- what keeps the tokens

-- the same tokens, and the same list behind them
pub record SameTokens (r q : StepResult) : Type 0 where
  pub listed : held q.state.stored ≡ held r.state.stored
  pub untold : q.state.untold ≡ r.state.untold
  pub leads : is_leader q.state.role ≡ is_leader r.state.role
  pub told : q.told ≡ r.told
  pub committed : q.state.committed ≡ r.state.committed

pub same_refl : (r : StepResult) → SameTokens r r
same_refl r = record { listed = refl; untold = refl; leads = refl; told = refl; committed = refl }

pub same_trans : {p q r : StepResult} → SameTokens p q → SameTokens q r → SameTokens p r
same_trans h k =
    record {
      listed = k.listed ∙ h.listed;
      untold = k.untold ∙ h.untold;
      leads = k.leads ∙ h.leads;
      told = k.told ∙ h.told;
      committed = k.committed ∙ h.committed;
    }

-- a leader leads on, with other notes of its peers
same_lead : (r q : StepResult) (lead lead' : Lead) → r.state.role ≡ Leader lead → q.state.role ≡ Leader lead' → q.state.stored ≡ r.state.stored → q.state.untold ≡ r.state.untold → q.told ≡ r.told → q.state.committed ≡ r.state.committed → SameTokens r q
same_lead r q lead lead' e f g h i j =
    record { listed = ap held g; untold = h; leads = ap is_leader f ∙ sym (ap is_leader e); told = i; committed = j }

same_send : (own peer : ℕ) (r : StepResult) → (b : _) → SameTokens r (send own peer b r)
same_send own peer r b = record { listed = refl; untold = refl; leads = refl; told = refl; committed = refl }

request_same : (own : ℕ) (p : PeerState) (lead : Lead) (o : Option Snapshot) (r : StepResult) → r.state.role ≡ Leader lead → SameTokens r (send_request own p lead o r)
request_same own p lead None r e = same_lead r (send_entries own p lead r) lead _ e refl refl refl refl refl
request_same own p lead (Some x) r e =
    either (SameTokens r) (nat_lt p.search (first_place r.state.stored)) (send_snapshot own p lead x r) (send_entries own p lead r)
    (same_lead r (send_snapshot own p lead x r) lead _ e refl refl refl refl refl)
    (same_lead r (send_entries own p lead r) lead _ e refl refl refl refl refl)

serve_same : (own : ℕ) (b : Bool) (p : PeerState) (lead : Lead) (r : StepResult) → r.state.role ≡ Leader lead → SameTokens r (serve own b p lead r)
serve_same own b p lead r e =
    let news = cond b (send own p.peer (notice r.state p) r) r in
    either (SameTokens r) (is_none p.outstanding && lacks_entries r.state.stored p) (send_request own p lead r.state.stored.snapshot r) news
    (request_same own p lead r.state.stored.snapshot r e)
    (either (SameTokens r) b (send own p.peer (notice r.state p) r) r (same_send own p.peer r (notice r.state p)) (same_refl r))

serve_as_same : (own : ℕ) (b : Bool) (n : ℕ) (role : Role) (r : StepResult) → r.state.role ≡ role → SameTokens r (serve_as own b n role r)
serve_as_same own b n Follower r e = same_refl r
serve_as_same own b n (Candidate granters) r e = same_refl r
serve_as_same own b n (Leader lead) r e = serve_same own b _ lead r e

serve_all_same : (own : ℕ) (b : Bool) (ns : List ℕ) (r : StepResult) → SameTokens r (serve_all own b ns r)
serve_all_same own b [] r = same_refl r
serve_all_same own b (n ∷ ns) r = same_trans (serve_as_same own b n r.state.role r refl) (serve_all_same own b ns _)

pub frames_same : (own : ℕ) (before : Option ℕ) (r : StepResult) → SameTokens r (with_frames own before r)
frames_same own before r = serve_all_same own (has_grown before r.state.committed) (other_ids own r.state.stored) r

notices_same : (own : ℕ) (lead : Lead) (ns : List ℕ) (r : StepResult) → SameTokens r (send_notices own lead ns r)
notices_same own lead [] r = same_refl r
notices_same own lead (n ∷ ns) r = same_trans (same_send own n r _) (notices_same own lead ns _)

pub beat_same : (own : ℕ) (role : Role) (r : StepResult) → SameTokens r (beat_as own role r)
beat_same own Follower r = same_refl r
beat_same own (Candidate granters) r = same_refl r
beat_same own (Leader lead) r = notices_same own lead (other_ids own r.state.stored) r

pub lost_same : (peer : ℕ) (role : Role) (r : StepResult) → r.state.role ≡ role → SameTokens r (lost_as peer role r)
lost_same peer Follower r e = same_refl r
lost_same peer (Candidate granters) r e = same_refl r
lost_same peer (Leader lead) r e =
    let p = peer_of lead peer in
    let q = with_peer_state (ended p) lead r in
    either (SameTokens r) (is_some p.outstanding) q r
    (same_lead r q lead (record lead { peers = with_peer (ended p) lead.peers }) e refl refl refl refl refl)
    (same_refl r)

pub answered_same : (peer : ℕ) (reply : ReplyFields) (role : Role) (r : StepResult) → r.state.role ≡ role → SameTokens r (answered peer reply role r)
answered_same peer reply Follower r e = same_refl r
answered_same peer reply (Candidate granters) r e = same_refl r
answered_same peer reply (Leader lead) r e =
    let p = after_answer (peer_of lead peer) reply reply.outcome in
    let q = with_peer_state p lead r in
    either (SameTokens r) (vote_eq reply.vote r.state.stored.vote && is_answer_to reply (peer_of lead peer).outstanding) q r
    (same_lead r q lead (record lead { peers = with_peer p lead.peers }) e refl refl refl refl refl)
    (same_refl r)

-- ---- purges and snapshots leave the list

module _ {m : Membership} {some : 0 < length m.configs} {own : ℕ} {before : List BallotEvent} {base : StoredGroup} (w : BallotWorld) (r : StepResult) (t : Tracks m some own before base w r) (role : RoleFits own w r.state.stored.vote (held r.state.stored) r.state.role) where
  pub purge_same : (place : ℕ) → place < length (prefix_of r.state.stored.snapshot) → SameTokens r (purge_up_to place r)
  purge_same place to =
      ⊎_elim
      (λ l. subst (λ o. SameTokens r (remove_up_to (id_of o) r)) (sym (joined_below r.state.stored t.up.list t.up.joined place l)) (same_refl r))
      (λ l.
      let y = some_at t.up.list place (omega (arith, to, (t.up.joined).high)) in
      subst (λ o. SameTokens r (remove_up_to (id_of o) r)) (sym (joined_at r.state.stored t.up.list t.up.joined place l ∙ y.1))
      (record { listed = sym (purged_held w r t role y.0 place y.1 l to); untold = refl; leads = refl; told = refl; committed = refl }))
      (cases_lt place (first_place r.state.stored))

  purge_as_same : (place : ℕ) (part : Role) → place < length (prefix_of r.state.stored.snapshot) → SameTokens r (purge_as place part r)
  purge_as_same place Follower l = purge_same place l
  purge_as_same place (Candidate granters) l = purge_same place l
  purge_as_same place (Leader lead) l =
      either (SameTokens r) (nat_lt place (first_place r.state.stored)) r (with_wish (later_place r.state.wish (Some place)) r) (same_refl r)
      (record { listed = refl; untold = refl; leads = refl; told = refl; committed = refl })

  pub purge_within_same : (place : ℕ) (o : Option Snapshot) → r.state.stored.snapshot ≡ o → SameTokens r (purge_within place (option_map (λ (x : Snapshot). x.last) o) r)
  purge_within_same place None e = same_refl r
  purge_within_same place (Some x) e =
      let n = (t.up.fits.snapshot x e).size in
      purge_as_same (min place x.last.index) r.state.role
      (subst (λ o. min place x.last.index < length (prefix_of o)) (sym e) (omega (arith, n)))

  shot_same : (a : ℕ) → r.state.applied ≡ Some a → length (prefix_of r.state.stored.snapshot) ≤ a → (o : Option Entry) → entry_at r.state.stored a ≡ o → SameTokens r (store_snapshot_at (id_of o) r)
  shot_same a is past None e = same_refl r
  shot_same a is past (Some x) e =
      let at = joined_at r.state.stored t.up.list t.up.joined a (omega (arith, past, (t.up.joined).low)) in
      let there : slice_get t.up.list a ≡ Some x = sym at ∙ e in
      record {
        listed = sym (shot_held w r t a is past x there (slice_get_within t.up.list a x there));
        untold = refl;
        leads = refl;
        told = refl;
        committed = refl;
      }

  pub snapshot_same : (o : Option ℕ) → r.state.applied ≡ o → SameTokens r (snapshot_of_applied o r)
  snapshot_same None e = same_refl r
  snapshot_same (Some a) e =
      either_by (SameTokens r) (nat_lt a (next_place (snapshot_last r.state.stored))) _ _
      (λ b. same_refl r)
      (λ b.
      let l = ltb-false a (next_place (snapshot_last r.state.stored)) b in
      let n = snapshot_next w r t r.state.stored.snapshot refl in
      shot_same a e (omega (arith, l, n)) (entry_at r.state.stored a) refl)

-- ---- no tokens

-- there are none, and none was told
pub record Quiet (r : StepResult) : Type 0 where
  pub untold : r.state.untold ≡ []
  pub told : r.told ≡ []

pub same_quiet : (r q : StepResult) → q.state.untold ≡ r.state.untold → q.told ≡ r.told → Quiet r → Quiet q
same_quiet r q e f h = record { untold = e ∙ h.untold; told = f ∙ h.told }

pub apply_quiet : (place : Option ℕ) (r : StepResult) → Quiet r → Quiet (apply_up_to place r)
apply_quiet place r h =
    let due : Untold → Bool = λ x. is_within x.place (later_place r.state.committed place) in
    record {
      untold = ap (filter (λ x. not (due x))) h.untold;
      told = ap₂ (λ xs ys. xs ++ filter due ys) h.told h.untold;
    }

begin_quiet : (r : StepResult) → Quiet r → Quiet (begin_lead r)
begin_quiet r h =
    let q = in_role (Leader (new_lead r.state.stored)) (store_vote (committed_vote r.state.stored.vote) r) in
    let k = same_quiet r q refl refl h in
    either Quiet (list_any (is_written_by q.state.stored.vote.leader_id) q.state.stored.log) q (append Blank q) k
    (same_quiet q (append Blank q) refl refl k)

lead_if_quiet : (b : Bool) (r : StepResult) → Quiet r → Quiet (lead_if b r)
lead_if_quiet true r h = begin_quiet r h
lead_if_quiet false r h = h

pub grant_quiet : (n : ℕ) (role : Role) (r : StepResult) → Quiet r → Quiet (with_grant n role r)
grant_quiet n Follower r h = h
grant_quiet n (Candidate granters) r h =
    let granted = cond (has_id granters n) granters (granters ++ n ∷ []) in
    lead_if_quiet (is_quorum (configs_in_force r.state.stored) (has_id granted)) (in_role (Candidate granted) r) (same_quiet r _ refl refl h)
grant_quiet n (Leader lead) r h = h

ask_quiet : (own : ℕ) (ns : List ℕ) (r : StepResult) → Quiet r → Quiet (ask own ns r)
ask_quiet own [] r h = h
ask_quiet own (n ∷ ns) r h = ask_quiet own ns _ (same_quiet r _ refl refl h)

pub elect_quiet : (own : ℕ) (r : StepResult) → r.told ≡ [] → Quiet (elect_step own r)
elect_quiet own r none =
    let down : Quiet (step_down r) = record { untold = refl; told = none } in
    grant_quiet own (stand own r).state.role (stand own r)
    (ask_quiet own (other_voters own r.state.stored) _ (same_quiet (step_down r) _ refl refl down))

cut_quiet : (i : ℕ) (r : StepResult) → Quiet r → Quiet (cut_from i r)
cut_quiet i r h =
    either Quiet (is_some (entry_at r.state.stored i)) (store (CutFrom i) r) r (same_quiet r (store (CutFrom i) r) refl refl h) h

cut_at_quiet : (id : Option (LogId ℕ)) (r : StepResult) → Quiet r → Quiet (cut_at id r)
cut_at_quiet None r h = h
cut_at_quiet (Some id) r h = cut_quiet id.index r h

put_quiet : (es : List Entry) (r : StepResult) → Quiet r → Quiet (put_entries es r)
put_quiet [] r h = h
put_quiet (e ∷ es) r h = same_quiet (cut_from e.log_id.index r) _ refl refl (cut_quiet e.log_id.index r h)

pub joined_quiet : (own peer : ℕ) (a : AppendFields) (b : Bool) (r : StepResult) → Quiet r → Quiet (joined own peer a b r)
joined_quiet own peer a true r h = same_quiet _ _ refl refl (apply_quiet _ _ (put_quiet _ r h))
joined_quiet own peer a false r h = same_quiet (cut_at a.previous r) _ refl refl (cut_at_quiet a.previous r h)

cut_other_quiet : (last : LogId ℕ) (r : StepResult) → Quiet r → Quiet (cut_other last r)
cut_other_quiet last r h = either Quiet _ _ _ h (either Quiet _ _ _ (cut_quiet (place_above r.state.committed) r h) h)

pub unless_quiet : (b : Bool) (x : Snapshot) (r : StepResult) → Quiet r → Quiet (install_unless b x r)
unless_quiet true x r h = h
unless_quiet false x r h =
    apply_quiet (Some x.last.index) (store (RemoveUpTo x.last) (store (SetSnapshot x) (cut_other x.last r)))
    (same_quiet (cut_other x.last r) _ refl refl (cut_other_quiet x.last r h))

-- ---- openings

pub drop_quiet : (last : Option (LogId ℕ)) (r : StepResult) → Quiet r → Quiet (drop_stale_log last r)
drop_quiet None r h = h
drop_quiet (Some last) r h =
    either Quiet (is_joined_to r.state.stored last) r (store (StartAfter last) r) h (same_quiet r (store (StartAfter last) r) refl refl h)
