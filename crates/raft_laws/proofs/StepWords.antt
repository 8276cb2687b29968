-- Each word by which steps are put together keeps what is stored in line with the commands.
use Rattle.std.specs.Prelude.{◌≡◌, ℕ, Bool, true, false, List, [], ◌∷◌, ◌++◌, Option, Some, None, refl}
use Rattle.std.proofs.Common.{sym, ◌∙◌, ap, subst}
use Rattle.raft_group_step.specs.StoredGroup.{StoredGroup, Snapshot, StoringCommand, SetVote, after_storing, after_storing_all}
use Rattle.raft_group_step.specs.GroupState.{Lead, Role, Follower, Candidate, Leader}
use Rattle.raft_group_step.specs.StepResult.{StepResult, store, renew, store_vote, step_down, take_over, append}
use Rattle.raft_values.specs.declared.vote.Vote.{Vote}
use Rattle.raft_group_step.specs.Values.{vote_lt}
use Rattle.raft_values.specs.declared.log_id.LogId.{LogId}
use Rattle.raft_group_step.specs.Values.{EntryPayload}
use Rattle.raft_state.specs.declared.entry.EntryPayload.TheVariants.{Blank}
use Rattle.raft_group_step.specs.Peer.{PeerState}
use Rattle.raft_group_step.specs.GroupStep.{finished}
use Rattle.raft_group_step.specs.Lead.{other_ids, remove_up_to, with_wish, append_blank, committed_vote, begin_lead, lead_if, with_grant, commit_as_leader, purge_as_wished}
use Rattle.raft_group_step.specs.Frames.{with_frames, has_grown, send_request, serve, serve_all, serve_as}
use Rattle.raft_group_step.proofs.Words.{either, either_by}
use Rattle.raft_laws.specs.StoringOrder.{StoresInOrder, KeepsVoteAndCommitted, AllKeep}
use Rattle.raft_laws.proofs.VoteOrders.{not_below, committed_not_below}

pub all-append : (cs : List StoringCommand) (c : StoringCommand) (s : StoredGroup) → after_storing_all (cs ++ c ∷ []) s ≡ after_storing c (after_storing_all cs s)
all-append [] c s = refl
all-append (x ∷ cs) c s = all-append cs c (after_storing x s)

module _ (committed : Option ℕ) where
  all-keep : (cs : List StoringCommand) (c : StoringCommand) (s : StoredGroup) → AllKeep committed s cs → KeepsVoteAndCommitted committed (after_storing_all cs s) c → AllKeep committed s (cs ++ c ∷ [])
  all-keep [] c s h k = (k, tt)
  all-keep (x ∷ cs) c s h k = (h.0, all-keep cs c (after_storing x s) h.1 k)

  pub store-keeps : (s : StoredGroup) (c : StoringCommand) (r : StepResult) → StoresInOrder committed s r → KeepsVoteAndCommitted committed r.state.stored c → StoresInOrder committed s (store c r)
  store-keeps s c r h k =
      record {
        stored = ap (after_storing c) h.stored ∙ sym (all-append r.commands c s);
        all = all-keep r.commands c s h.all (subst (λ x. KeepsVoteAndCommitted committed x c) h.stored k);
      }

  -- what stores nothing
  pub same : (s : StoredGroup) (r q : StepResult) → q.state.stored ≡ r.state.stored → q.commands ≡ r.commands → StoresInOrder committed s r → StoresInOrder committed s q
  same s r q e c h =
      record {
        stored = e ∙ h.stored ∙ ap (λ cs. after_storing_all cs s) (sym c);
        all = subst (AllKeep committed s) (sym c) h.all;
      }

  pub store_vote-keeps : (s : StoredGroup) (v : Vote ℕ) (r : StepResult) → StoresInOrder committed s r → vote_lt v r.state.stored.vote ≡ false → StoresInOrder committed s (store_vote v r)
  store_vote-keeps s v r h p = same s (store (SetVote v) r) (store_vote v r) refl refl (store-keeps s (SetVote v) r h p)

  pub step_down-keeps : (s : StoredGroup) (r : StepResult) → StoresInOrder committed s r → StoresInOrder committed s (step_down r)
  step_down-keeps s r h = same s r (step_down r) refl refl h

  pub take_over-keeps : (s : StoredGroup) (vote : Vote ℕ) (r : StepResult) → StoresInOrder committed s r → StoresInOrder committed s (take_over vote r)
  take_over-keeps s vote r h =
      either_by (StoresInOrder committed s) _ _ _
      (λ t. store_vote-keeps s vote (step_down r) (step_down-keeps s r h) (not_below r.state.stored.vote vote t))
      (λ t. same s r (renew r) refl refl h)

  pub append-keeps : (s : StoredGroup) (p : EntryPayload) (r : StepResult) → StoresInOrder committed s r → StoresInOrder committed s (append p r)
  append-keeps s p r h = store-keeps s _ r h tt

  pub append_blank-keeps : (s : StoredGroup) (r : StepResult) → StoresInOrder committed s r → StoresInOrder committed s (append_blank r)
  append_blank-keeps s r h = either (StoresInOrder committed s) _ _ _ h (append-keeps s Blank r h)

  pub begin_lead-keeps : (s : StoredGroup) (r : StepResult) → StoresInOrder committed s r → StoresInOrder committed s (begin_lead r)
  begin_lead-keeps s r h = append_blank-keeps s _ (same s (store_vote _ r) _ refl refl (store_vote-keeps s _ r h (committed_not_below (committed_vote r.state.stored.vote) r.state.stored.vote refl refl)))

  pub lead_if-keeps : (s : StoredGroup) (b : Bool) (r : StepResult) → StoresInOrder committed s r → StoresInOrder committed s (lead_if b r)
  lead_if-keeps s true r h = begin_lead-keeps s r h
  lead_if-keeps s false r h = h

  pub with_grant-keeps : (s : StoredGroup) (n : ℕ) (role : Role) (r : StepResult) → StoresInOrder committed s r → StoresInOrder committed s (with_grant n role r)
  with_grant-keeps s n Follower r h = h
  with_grant-keeps s n (Candidate granters) r h = lead_if-keeps s _ _ (same s r _ refl refl h)
  with_grant-keeps s n (Leader lead) r h = h

  pub send_request-keeps : (s : StoredGroup) (own : ℕ) (p : PeerState) (lead : Lead) (snapshot : Option Snapshot) (r : StepResult) → StoresInOrder committed s r → StoresInOrder committed s (send_request own p lead snapshot r)
  send_request-keeps s own p lead None r h = same s r _ refl refl h
  send_request-keeps s own p lead (Some snapshot) r h =
      either (StoresInOrder committed s) _ _ _ (same s r _ refl refl h) (same s r _ refl refl h)

  pub serve-keeps : (s : StoredGroup) (own : ℕ) (b : Bool) (p : PeerState) (lead : Lead) (r : StepResult) → StoresInOrder committed s r → StoresInOrder committed s (serve own b p lead r)
  serve-keeps s own b p lead r h =
      either (StoresInOrder committed s) _ _ _ (send_request-keeps s own p lead _ r h) (either (StoresInOrder committed s) _ _ _ (same s r _ refl refl h) h)

  pub serve_as-keeps : (s : StoredGroup) (own : ℕ) (b : Bool) (n : ℕ) (role : Role) (r : StepResult) → StoresInOrder committed s r → StoresInOrder committed s (serve_as own b n role r)
  serve_as-keeps s own b n Follower r h = h
  serve_as-keeps s own b n (Candidate granters) r h = h
  serve_as-keeps s own b n (Leader lead) r h = serve-keeps s own b _ lead r h

  pub serve_all-keeps : (s : StoredGroup) (own : ℕ) (b : Bool) (ns : List ℕ) (r : StepResult) → StoresInOrder committed s r → StoresInOrder committed s (serve_all own b ns r)
  serve_all-keeps s own b [] r h = h
  serve_all-keeps s own b (n ∷ ns) r h = serve_all-keeps s own b ns _ (serve_as-keeps s own b n r.state.role r h)

  pub with_frames-keeps : (s : StoredGroup) (own : ℕ) (before : Option ℕ) (r : StepResult) → StoresInOrder committed s r → StoresInOrder committed s (with_frames own before r)
  with_frames-keeps s own before r h =
      serve_all-keeps s own (has_grown before r.state.committed) (other_ids own r.state.stored) r h

  pub commit-keeps : (s : StoredGroup) (own : ℕ) (role : Role) (r : StepResult) → StoresInOrder committed s r → StoresInOrder committed s (commit_as_leader own role r)
  commit-keeps s own Follower r h = h
  commit-keeps s own (Candidate granters) r h = h
  commit-keeps s own (Leader lead) r h = same s r _ refl refl h

  pub remove-keeps : (s : StoredGroup) (id : Option (LogId ℕ)) (r : StepResult) → StoresInOrder committed s r → StoresInOrder committed s (remove_up_to id r)
  remove-keeps s None r h = h
  remove-keeps s (Some id) r h = store-keeps s _ r h tt

  pub purge-keeps : (s : StoredGroup) (role : Role) (wish : Option ℕ) (r : StepResult) → StoresInOrder committed s r → StoresInOrder committed s (purge_as_wished role wish r)
  purge-keeps s Follower wish r h = h
  purge-keeps s (Candidate granters) wish r h = h
  purge-keeps s (Leader lead) None r h = h
  purge-keeps s (Leader lead) (Some place) r h =
      either (StoresInOrder committed s) _ _ _ h (remove-keeps s _ _ (same s r (with_wish None r) refl refl h))

  pub finished-keeps : (s : StoredGroup) (own : ℕ) (before : Option ℕ) (r : StepResult) → StoresInOrder committed s r → StoresInOrder committed s (finished own before r)
  finished-keeps s own before r h =
      let committed = commit_as_leader own r.state.role r
      in with_frames-keeps s own before _
      (purge-keeps s committed.state.role committed.state.wish committed
      (commit-keeps s own r.state.role r h))
