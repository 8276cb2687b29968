-- What the end of an event does: it sends requests alone and stores removals alone, behind what the event itself sent and
-- stored. It leaves the vote, the unknown tokens, and whether the node leads, and where the node doesn't lead it does nothing.
use Rattle.std.specs.Prelude.{◌≡◌, ℕ, ◌&&◌, cond, nat_lt, Bool, true, false, List, [], ◌∷◌, ◌++◌, Option, Some, None, All, is_none, refl}
use Rattle.std.proofs.Common.{sym, ap, ◌∙◌, append_assoc}
use Rattle.std.proofs.lemmas.List.{append-nil}
use Rattle.std.proofs.lemmas.List.Elements.{All-append, All-cons, All-nil}
use Rattle.raft_values.specs.declared.log_id.LogId.{LogId}
use Rattle.raft_group_step.specs.StoredGroup.{Snapshot, StoringCommand, RemoveUpTo, entry_at, first_place, id_of}
use Rattle.raft_group_step.specs.Message.{Message}
use Rattle.raft_group_step.specs.Peer.{PeerState, is_kept_for_peers}
use Rattle.raft_group_step.specs.GroupState.{Lead, Role, Follower, Candidate, Leader, is_leader}
use Rattle.raft_group_step.specs.StepResult.{StepResult, send}
use Rattle.raft_group_step.specs.Lead.{commit_as_leader, other_ids, peer_of, purge_as_wished, purge_up_to, remove_up_to, with_wish}
use Rattle.raft_group_step.specs.Frames.{has_grown, lacks_entries, notice, send_entries, send_request, send_snapshot, serve_all, serve_as, with_frames}
use Rattle.raft_group_step.specs.GroupStep.{finished}
use Rattle.raft_group_step.proofs.Words.{either}
use Rattle.raft_step_laws.specs.Replies.{is_request}
use Rattle.raft_step_laws.specs.Taking.{is_removal}

abbrev pub AsksReply : Message → Type 0
AsksReply m = is_request m.body ≡ true

abbrev pub Removes : StoringCommand → Type 0
Removes c = is_removal c ≡ true

pub record AddsRequests (r q : StepResult) : Type 0 where
  pub more : List Message
  pub added : q.messages ≡ r.messages ++ more
  pub requests : All AsksReply more
  pub vote : q.state.stored.vote ≡ r.state.stored.vote
  pub leads : is_leader q.state.role ≡ is_leader r.state.role
  pub removed : List StoringCommand
  pub stored : q.commands ≡ r.commands ++ removed
  pub removals : All Removes removed
  pub unknown : q.unknown ≡ r.unknown

-- what neither sends nor stores
adds_none : (r q : StepResult) → q.messages ≡ r.messages → q.state.stored.vote ≡ r.state.stored.vote → is_leader q.state.role ≡ is_leader r.state.role → q.commands ≡ r.commands → q.unknown ≡ r.unknown → AddsRequests r q
adds_none r q e v l c u =
    record {
      more = [];
      added = e ∙ sym (append-nil r.messages);
      requests = All-nil AsksReply;
      vote = v;
      leads = l;
      removed = [];
      stored = c ∙ sym (append-nil r.commands);
      removals = All-nil Removes;
      unknown = u;
    }

adds_one : (r q : StepResult) (x : Message) → AsksReply x → q.messages ≡ r.messages ++ x ∷ [] → q.state.stored.vote ≡ r.state.stored.vote → is_leader q.state.role ≡ is_leader r.state.role → q.commands ≡ r.commands → q.unknown ≡ r.unknown → AddsRequests r q
adds_one r q x h e v l c u =
    record {
      more = x ∷ [];
      added = e;
      requests = All-cons AsksReply x [] h (All-nil AsksReply);
      vote = v;
      leads = l;
      removed = [];
      stored = c ∙ sym (append-nil r.commands);
      removals = All-nil Removes;
      unknown = u;
    }

-- a leader leads on, with other notes of its peers
leads_yet : (r q : StepResult) (lead lead' : Lead) → r.state.role ≡ Leader lead → q.state.role ≡ Leader lead' → is_leader q.state.role ≡ is_leader r.state.role
leads_yet r q lead lead' e f = ap is_leader f ∙ sym (ap is_leader e)

adds_then : {p q r : StepResult} → AddsRequests p q → AddsRequests q r → AddsRequests p r
adds_then {p} {q} {r} h k =
    record {
      more = h.more ++ k.more;
      added = k.added ∙ ap (λ ms. ms ++ k.more) h.added ∙ append_assoc p.messages h.more k.more;
      requests = All-append AsksReply h.more k.more h.requests k.requests;
      vote = k.vote ∙ h.vote;
      leads = k.leads ∙ h.leads;
      removed = h.removed ++ k.removed;
      stored = k.stored ∙ ap (λ cs. cs ++ k.removed) h.stored ∙ append_assoc p.commands h.removed k.removed;
      removals = All-append Removes h.removed k.removed h.removals k.removals;
      unknown = k.unknown ∙ h.unknown;
    }

entries_add : (own : ℕ) (p : PeerState) (lead : Lead) (r : StepResult) → r.state.role ≡ Leader lead → AddsRequests r (send_entries own p lead r)
entries_add own p lead r e =
    let q = send_entries own p lead r in adds_one r q _ refl refl refl (leads_yet r q lead _ e refl) refl refl

request_adds : (own : ℕ) (p : PeerState) (lead : Lead) (o : Option Snapshot) (r : StepResult) → r.state.role ≡ Leader lead → AddsRequests r (send_request own p lead o r)
request_adds own p lead None r e = entries_add own p lead r e
request_adds own p lead (Some x) r e =
    let q = send_snapshot own p lead x r in
    either (AddsRequests r) (nat_lt p.search (first_place r.state.stored)) q (send_entries own p lead r)
    (adds_one r q _ refl refl refl (leads_yet r q lead _ e refl) refl refl)
    (entries_add own p lead r e)

nothing_added : (r : StepResult) → AddsRequests r r
nothing_added r = adds_none r r refl refl refl refl refl

notice_adds : (own : ℕ) (news : Bool) (p : PeerState) (r : StepResult) → AddsRequests r (cond news (send own p.peer (notice r.state p) r) r)
notice_adds own news p r =
    let q = send own p.peer (notice r.state p) r in
    either (AddsRequests r) news q r (adds_one r q _ refl refl refl refl refl refl) (nothing_added r)

serve_adds : (own : ℕ) (news : Bool) (n : ℕ) (role : Role) (r : StepResult) → r.state.role ≡ role → AddsRequests r (serve_as own news n role r)
serve_adds own news n Follower r e = nothing_added r
serve_adds own news n (Candidate granters) r e = nothing_added r
serve_adds own news n (Leader lead) r e =
    let p = peer_of lead n in
    either (AddsRequests r) (is_none p.outstanding && lacks_entries r.state.stored p) (send_request own p lead r.state.stored.snapshot r)
    (cond news (send own p.peer (notice r.state p) r) r)
    (request_adds own p lead r.state.stored.snapshot r e)
    (notice_adds own news p r)

serve_all_adds : (own : ℕ) (news : Bool) (ns : List ℕ) (r : StepResult) → AddsRequests r (serve_all own news ns r)
serve_all_adds own news [] r = nothing_added r
serve_all_adds own news (n ∷ ns) r = adds_then (serve_adds own news n r.state.role r refl) (serve_all_adds own news ns _)

commit_adds : (own : ℕ) (role : Role) (r : StepResult) → AddsRequests r (commit_as_leader own role r)
commit_adds own Follower r = nothing_added r
commit_adds own (Candidate granters) r = nothing_added r
commit_adds own (Leader lead) r = adds_none r _ refl refl refl refl refl

remove_adds : (id : Option (LogId ℕ)) (r : StepResult) → AddsRequests r (remove_up_to id r)
remove_adds None r = nothing_added r
remove_adds (Some id) r =
    record {
      more = [];
      added = sym (append-nil r.messages);
      requests = All-nil AsksReply;
      vote = refl;
      leads = refl;
      removed = RemoveUpTo id ∷ [];
      stored = refl;
      removals = All-cons Removes (RemoveUpTo id) [] refl (All-nil Removes);
      unknown = refl;
    }

purge_adds : (role : Role) (wish : Option ℕ) (r : StepResult) → AddsRequests r (purge_as_wished role wish r)
purge_adds Follower wish r = nothing_added r
purge_adds (Candidate granters) wish r = nothing_added r
purge_adds (Leader lead) None r = nothing_added r
purge_adds (Leader lead) (Some place) r =
    let wished = with_wish None r in
    either (AddsRequests r) (is_kept_for_peers place lead.peers) r (purge_up_to place wished)
    (nothing_added r)
    (adds_then (adds_none r wished refl refl refl refl refl) (remove_adds (id_of (entry_at r.state.stored place)) wished))

pub finished_adds : (own : ℕ) (before : Option ℕ) (r : StepResult) → AddsRequests r (finished own before r)
finished_adds own before r =
    let committed = commit_as_leader own r.state.role r in
    let purged = purge_as_wished committed.state.role committed.state.wish committed in
    adds_then (commit_adds own r.state.role r)
    (adds_then (purge_adds committed.state.role committed.state.wish committed)
    (serve_all_adds own (has_grown before purged.state.committed) (other_ids own purged.state.stored) purged))

-- ---- where the node doesn't lead

idle_commit : (own : ℕ) (role : Role) (r : StepResult) → is_leader role ≡ false → commit_as_leader own role r ≡ r
idle_commit own Follower r idle = refl
idle_commit own (Candidate granters) r idle = refl
idle_commit own (Leader lead) r idle = absurd (let e : true ≡ false = idle in cc)

idle_purge : (role : Role) (wish : Option ℕ) (r : StepResult) → is_leader role ≡ false → purge_as_wished role wish r ≡ r
idle_purge Follower wish r idle = refl
idle_purge (Candidate granters) wish r idle = refl
idle_purge (Leader lead) wish r idle = absurd (let e : true ≡ false = idle in cc)

idle_serve : (own : ℕ) (news : Bool) (n : ℕ) (role : Role) (r : StepResult) → is_leader role ≡ false → serve_as own news n role r ≡ r
idle_serve own news n Follower r idle = refl
idle_serve own news n (Candidate granters) r idle = refl
idle_serve own news n (Leader lead) r idle = absurd (let e : true ≡ false = idle in cc)

idle_serve_all : (own : ℕ) (news : Bool) (ns : List ℕ) (r : StepResult) → is_leader r.state.role ≡ false → serve_all own news ns r ≡ r
idle_serve_all own news [] r idle = refl
idle_serve_all own news (n ∷ ns) r idle =
    ap (serve_all own news ns) (idle_serve own news n r.state.role r idle) ∙ idle_serve_all own news ns r idle

pub idle_end : (own : ℕ) (before : Option ℕ) (r : StepResult) → is_leader r.state.role ≡ false → finished own before r ≡ r
idle_end own before r idle =
    let purge : StepResult → StepResult = λ q. purge_as_wished q.state.role q.state.wish q in
    ap (λ q. with_frames own before (purge q)) (idle_commit own r.state.role r idle)
    ∙ ap (with_frames own before) (idle_purge r.state.role r.state.wish r idle)
    ∙ idle_serve_all own (has_grown before r.state.committed) (other_ids own r.state.stored) r idle
