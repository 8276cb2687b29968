-- Each word at the end of an event does the same behind what was done before, since it reads the state alone.
use Rattle.std.specs.Prelude.{◌≡◌, ℕ, Bool, true, false, if◌then◌else◌, List, [], ◌∷◌, ◌++◌, filter, Option, Some, None, refl}
use Rattle.std.proofs.Common.{sym, ap, ◌∙◌, append_assoc, append-nil}
use Rattle.raft_values.specs.declared.log_id.LogId.{LogId}
use Rattle.raft_group_step.specs.StoredGroup.{StoringCommand, Snapshot}
use Rattle.raft_group_step.specs.Message.{Message, MessageBody}
use Rattle.raft_group_step.specs.Peer.{PeerState}
use Rattle.raft_group_step.specs.GroupState.{Lead, Role, Follower, Candidate, Leader, Untold}
use Rattle.raft_group_step.specs.StepResult.{RefusalReason, StepResult, apply_up_to, is_within, later_place, send, store, unchanged}
use Rattle.raft_group_step.specs.Lead.{commit_as_leader, other_ids, purge_as_wished, remove_up_to, with_wish}
use Rattle.raft_group_step.specs.Frames.{has_grown, send_entries, send_request, send_snapshot, serve, serve_all, serve_as, with_frames, with_peer_state}
use Rattle.raft_group_step.specs.Opening.{resume_lead}
use Rattle.raft_group_step.specs.GroupStep.{finished}
use Rattle.raft_laws.specs.GoingOn.{OpeningsGoOn, behind}

module _ (b : StepResult) where
  -- a word does the same behind b
  abbrev GoesOn : (StepResult → StepResult) → Type 0
  GoesOn word = (r : StepResult) → word (behind b r) ≡ behind b (word r)

  -- whichever it is
  either_goes_on : (c : Bool) (x y p q : StepResult) → p ≡ behind b x → q ≡ behind b y → (if c then p else q) ≡ behind b (if c then x else y)
  either_goes_on true x y p q h k = h
  either_goes_on false x y p q h k = k

  store_goes_on : (c : StoringCommand) → GoesOn (store c)
  store_goes_on c r =
      ap (λ (cs : List StoringCommand). record (behind b (store c r)) { commands = cs }) (append_assoc b.commands r.commands (c ∷ []))

  send_goes_on : (own peer : ℕ) (body : MessageBody) → GoesOn (send own peer body)
  send_goes_on own peer body r =
      ap (λ (ms : List Message). record (behind b (send own peer body r)) { messages = ms })
      (append_assoc b.messages r.messages (record { sender = own; addressee = peer; body = body } ∷ []))

  apply_goes_on : (place : Option ℕ) → GoesOn (apply_up_to place)
  apply_goes_on place r =
      let upto = later_place r.state.committed place in
      ap (λ (xs : List Untold). record (behind b (apply_up_to place r)) { told = xs })
      (append_assoc b.told r.told (filter (λ (x : Untold). is_within x.place upto) r.state.untold))

  -- ---- what a leader sends

  send_entries_goes_on : (own : ℕ) (p : PeerState) (lead : Lead) → GoesOn (send_entries own p lead)
  send_entries_goes_on own p lead r = ap (with_peer_state _ lead) (send_goes_on own p.peer _ r)

  send_snapshot_goes_on : (own : ℕ) (p : PeerState) (lead : Lead) (x : Snapshot) → GoesOn (send_snapshot own p lead x)
  send_snapshot_goes_on own p lead x r = ap (with_peer_state _ lead) (send_goes_on own p.peer _ r)

  send_request_goes_on : (own : ℕ) (p : PeerState) (lead : Lead) (o : Option Snapshot) → GoesOn (send_request own p lead o)
  send_request_goes_on own p lead None r = send_entries_goes_on own p lead r
  send_request_goes_on own p lead (Some x) r =
      either_goes_on _ _ _ _ _ (send_snapshot_goes_on own p lead x r) (send_entries_goes_on own p lead r)

  serve_goes_on : (own : ℕ) (has_news : Bool) (p : PeerState) (lead : Lead) → GoesOn (serve own has_news p lead)
  serve_goes_on own has_news p lead r =
      either_goes_on _ _ _ _ _ (send_request_goes_on own p lead r.state.stored.snapshot r)
      (either_goes_on has_news _ _ _ _ (send_goes_on own p.peer _ r) refl)

  serve_as_goes_on : (own : ℕ) (has_news : Bool) (n : ℕ) (role : Role) → GoesOn (serve_as own has_news n role)
  serve_as_goes_on own has_news n Follower r = refl
  serve_as_goes_on own has_news n (Candidate granters) r = refl
  serve_as_goes_on own has_news n (Leader lead) r = serve_goes_on own has_news _ lead r

  serve_all_goes_on : (own : ℕ) (has_news : Bool) (ns : List ℕ) → GoesOn (serve_all own has_news ns)
  serve_all_goes_on own has_news [] r = refl
  serve_all_goes_on own has_news (n ∷ ns) r =
      ap (serve_all own has_news ns) (serve_as_goes_on own has_news n r.state.role r)
      ∙ serve_all_goes_on own has_news ns (serve_as own has_news n r.state.role r)

  frames_go_on : (own : ℕ) (before : Option ℕ) → GoesOn (with_frames own before)
  frames_go_on own before r =
      serve_all_goes_on own (has_grown before r.state.committed) (other_ids own r.state.stored) r

  -- ---- what a leader commits and purges

  commit_goes_on : (own : ℕ) (role : Role) → GoesOn (commit_as_leader own role)
  commit_goes_on own Follower r = refl
  commit_goes_on own (Candidate granters) r = refl
  commit_goes_on own (Leader lead) r = apply_goes_on _ r

  remove_goes_on : (id : Option (LogId ℕ)) → GoesOn (remove_up_to id)
  remove_goes_on None r = refl
  remove_goes_on (Some id) r = store_goes_on _ r

  purge_goes_on : (role : Role) (wish : Option ℕ) → GoesOn (purge_as_wished role wish)
  purge_goes_on Follower wish r = refl
  purge_goes_on (Candidate granters) wish r = refl
  purge_goes_on (Leader lead) None r = refl
  purge_goes_on (Leader lead) (Some place) r =
      either_goes_on _ _ _ _ _ refl (remove_goes_on _ (with_wish None r))

  -- ---- the end of an event

  pub finished_goes_on : (own : ℕ) (before : Option ℕ) → GoesOn (finished own before)
  finished_goes_on own before r =
      let committed = commit_as_leader own r.state.role r in
      ap (λ (c : StepResult). with_frames own before (purge_as_wished c.state.role c.state.wish c)) (commit_goes_on own r.state.role r)
      ∙ ap (with_frames own before) (purge_goes_on committed.state.role committed.state.wish committed)
      ∙ frames_go_on own before (purge_as_wished committed.state.role committed.state.wish committed)

  pub resume_goes_on : (own : ℕ) → GoesOn (resume_lead own)
  resume_goes_on own r = either_goes_on _ _ _ _ _ refl refl

-- what was done is what was done before nothing else
done_before : (r : StepResult) → r.refused ≡ None → r ≡ behind r (unchanged r.state)
done_before r kept =
    ap (λ (cs : List StoringCommand). record r { commands = cs }) (sym (append-nil r.commands))
    ∙ ap (λ (ms : List Message). record r { commands = r.commands ++ []; messages = ms }) (sym (append-nil r.messages))
    ∙ ap (λ (xs : List Untold). record r { commands = r.commands ++ []; messages = r.messages ++ []; told = xs }) (sym (append-nil r.told))
    ∙ ap (λ (ts : List ℕ). record r { commands = r.commands ++ []; messages = r.messages ++ []; told = r.told ++ []; unknown = ts }) (sym (append-nil r.unknown))
    ∙ ap (λ (o : Option RefusalReason). record (behind r (unchanged r.state)) { refused = o }) kept

pub openings_go_on : OpeningsGoOn
openings_go_on own r kept =
    ap (λ (q : StepResult). finished own None (resume_lead own q)) (done_before r kept)
    ∙ ap (finished own None) (resume_goes_on r own (unchanged r.state))
    ∙ finished_goes_on r own None (resume_lead own (unchanged r.state))
