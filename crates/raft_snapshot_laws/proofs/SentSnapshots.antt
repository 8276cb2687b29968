-- A snapshot that is sent is the one that is stored: requests go out at an event's end, where nothing is stored any more but
-- removals from the log.
use Rattle.std.specs.Prelude.{◌≡◌, ℕ, ◌&&◌, nat_lt, Bool, List, [], ◌∷◌, ◌++◌, Option, Some, None, is_none, refl}
use Rattle.std.proofs.Common.{sym, ap, ◌∙◌, subst, ⊎_elim}
use Rattle.raft_values.specs.declared.vote.Vote.{Vote}
use Rattle.raft_group_step.specs.StoredGroup.{Snapshot, entry_at, first_place, id_of}
use Rattle.raft_group_step.specs.Message.{Message, AppendRequest, SnapshotRequest}
use Rattle.raft_group_step.specs.Peer.{PeerState, is_kept_for_peers}
use Rattle.raft_group_step.specs.GroupState.{GroupState, Lead, Role, Follower, Candidate, Leader}
use Rattle.raft_group_step.specs.GroupEvent.{GroupEvent}
use Rattle.raft_group_step.specs.StepResult.{RefusalReason, StepResult, send}
use Rattle.raft_group_step.specs.Lead.{commit_as_leader, other_ids, peer_of, purge_as_wished, purge_up_to, remove_up_to, with_wish}
use Rattle.raft_group_step.specs.Frames.{has_grown, lacks_entries, notice, send_entries, send_request, send_snapshot, serve_all, serve_as}
use Rattle.raft_group_step.specs.Refusal.{refusal_of}
use Rattle.raft_group_step.specs.GroupStep.{event_step, finished, group_step, step_unless}
use Rattle.raft_group_step.proofs.Words.{either}
use Rattle.raft_laws.proofs.BallotSafe.{Among, among_at}
use Rattle.raft_laws.proofs.Counts.{contains_at}
use Rattle.raft_laws.proofs.WorldRuns.{among_either}
use Rattle.raft_step_laws.specs.Serving.{request_number}
use Rattle.raft_step_laws.proofs.PeerLists.{AllUnnumbered}
use Rattle.raft_step_laws.proofs.Unnumbered.{event_unnumbered}
use Rattle.raft_snapshot_laws.specs.Snapshots.{SentSnapshotsAreStored}

-- each snapshot among these messages is this one
abbrev Offers : Option Snapshot → Message → Type 0
Offers o m = (v : Vote ℕ) (id : ℕ) (x : Snapshot) → m.body ≡ SnapshotRequest v id x → o ≡ Some x

record AllOffer (r : StepResult) : Type 0 where
  all : (m : Message) → Among m r.messages → Offers r.state.stored.snapshot m

pass : (r q : StepResult) → q.state.stored.snapshot ≡ r.state.stored.snapshot → q.messages ≡ r.messages → AllOffer r → AllOffer q
pass r q e f h = record {
  all = λ m a v id x is. e ∙ h.all m (subst (λ ms. Among m ms) f a) v id x is;
}

one_more : (r q : StepResult) (y : Message) → q.state.stored.snapshot ≡ r.state.stored.snapshot → q.messages ≡ r.messages ++ y ∷ [] → Offers r.state.stored.snapshot y → AllOffer r → AllOffer q
one_more r q y e f new h = record {
  all = λ m a v id x is.
      e
      ∙ ⊎_elim
      (λ old. h.all m old v id x is)
      (λ here. ⊎_elim (λ same. new v id x (sym (ap (λ (z : Message). z.body) same) ∙ is)) (λ none. absurd none) here)
      (among_either m r.messages (y ∷ []) (subst (λ ms. Among m ms) f a));
}

no_snapshot : (o : Option Snapshot) (y : Message) → request_number y.body ≡ None → Offers o y
no_snapshot o y none v id x is = absurd (let f : Some id ≡ None = sym (ap request_number is) ∙ none in cc)

entries_offer : (own : ℕ) (p : PeerState) (lead : Lead) (r : StepResult) → AllOffer r → AllOffer (send_entries own p lead r)
entries_offer own p lead r h = one_more r _ _ refl refl (λ v id x is. absurd (let f : AppendRequest _ ≡ SnapshotRequest v id x = is in cc)) h

request_offer : (own : ℕ) (p : PeerState) (lead : Lead) (o : Option Snapshot) (r : StepResult) → r.state.stored.snapshot ≡ o → AllOffer r → AllOffer (send_request own p lead o r)
request_offer own p lead None r e h = entries_offer own p lead r h
request_offer own p lead (Some y) r e h =
    either AllOffer (nat_lt p.search (first_place r.state.stored)) (send_snapshot own p lead y r) (send_entries own p lead r)
    (one_more r _ _ refl refl (λ v id x is. e ∙ ap Some (let f : SnapshotRequest r.state.stored.vote p.next_id y ≡ SnapshotRequest v id x = is in let g : y ≡ x = cc in g)) h)
    (entries_offer own p lead r h)

serve_offer : (own : ℕ) (news : Bool) (n : ℕ) (role : Role) (r : StepResult) → AllOffer r → AllOffer (serve_as own news n role r)
serve_offer own news n Follower r h = h
serve_offer own news n (Candidate granters) r h = h
serve_offer own news n (Leader lead) r h =
    let p = peer_of lead n in
    either AllOffer (is_none p.outstanding && lacks_entries r.state.stored p) (send_request own p lead r.state.stored.snapshot r) _
    (request_offer own p lead r.state.stored.snapshot r refl h)
    (either AllOffer news (send own p.peer (notice r.state p) r) r
    (one_more r _ _ refl refl (λ v id x is. absurd (let f : AppendRequest _ ≡ SnapshotRequest v id x = is in cc)) h)
    h)

serve_all_offer : (own : ℕ) (news : Bool) (ns : List ℕ) (r : StepResult) → AllOffer r → AllOffer (serve_all own news ns r)
serve_all_offer own news [] r h = h
serve_all_offer own news (n ∷ ns) r h = serve_all_offer own news ns _ (serve_offer own news n r.state.role r h)

commit_offer : (own : ℕ) (role : Role) (r : StepResult) → AllOffer r → AllOffer (commit_as_leader own role r)
commit_offer own Follower r h = h
commit_offer own (Candidate granters) r h = h
commit_offer own (Leader lead) r h = pass r _ refl refl h

wished_offer : (role : Role) (wish : Option ℕ) (r : StepResult) → AllOffer r → AllOffer (purge_as_wished role wish r)
wished_offer Follower wish r h = h
wished_offer (Candidate granters) wish r h = h
wished_offer (Leader lead) None r h = h
wished_offer (Leader lead) (Some place) r h =
    let wished = with_wish None r in
    either AllOffer (is_kept_for_peers place lead.peers) r (purge_up_to place wished) h
    (removed (id_of (entry_at r.state.stored place)) wished (pass r wished refl refl h))
  where
    removed : (id : Option _) (q : StepResult) → AllOffer q → AllOffer (remove_up_to id q)
    removed None q k = k
    removed (Some id) q k = pass q _ refl refl k

finished_offer : (own : ℕ) (before : Option ℕ) (r : StepResult) → AllOffer r → AllOffer (finished own before r)
finished_offer own before r h =
    let committed = commit_as_leader own r.state.role r in
    let purged = purge_as_wished committed.state.role committed.state.wish committed in
    serve_all_offer own (has_grown before purged.state.committed) (other_ids own purged.state.stored) purged
    (wished_offer committed.state.role committed.state.wish committed (commit_offer own r.state.role r h))

unnumbered_offer : (o : Option Snapshot) (ms : List Message) → AllUnnumbered ms → (m : Message) → Among m ms → Offers o m
unnumbered_offer o [] h m a = absurd a
unnumbered_offer o (y ∷ ms) h m a =
    ⊎_elim (λ same. subst (Offers o) (sym same) (no_snapshot o y h.0)) (λ rest. unnumbered_offer o ms h.1 m rest) a

unless_offer : (own : ℕ) (s : GroupState) (e : GroupEvent) (why : Option RefusalReason) → AllOffer (step_unless why own s e)
unless_offer own s e (Some why) = record { all = λ m a. absurd a }
unless_offer own s e None =
    finished_offer own s.committed (event_step own s e)
    (record { all = unnumbered_offer (event_step own s e).state.stored.snapshot (event_step own s e).messages (event_unnumbered own s e) })

pub sent_are_stored : SentSnapshotsAreStored
sent_are_stored own s e m has v id x is =
    let ms = (group_step own s e).messages in
    let at = contains_at ms m has in
    (unless_offer own s e (refusal_of own s e)).all m (among_at ms at.0 m at.1) v id x is
