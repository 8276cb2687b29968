-- What holds of each entry that a node has and that comes in a message holds, before a leader writes, of each entry that the node
-- stores and sends in a step.
use Rattle.std.specs.Prelude.{◌≡◌, ℕ, ◌+◌, cond, Bool, true, false, List, [], ◌∷◌, Option, Some, None, refl}
use Rattle.std.proofs.Common.{sym, ap, ◌∙◌, subst}
use Rattle.raft_values.specs.declared.vote.Vote.{Vote}
use Rattle.raft_values.specs.declared.log_id.LogId.{LogId}
use Rattle.raft_group_step.specs.Values.{Entry, vote_lt}
use Rattle.raft_group_step.specs.StoredGroup.{StoredGroup, Snapshot, StoringCommand, MakeGroup, SetVote, PutEntries, CutFrom, RemoveUpTo, SetSnapshot, StartAfter, after_storing, after_storing_all, has_id_in_log, held, prefix_of}
use Rattle.raft_group_step.specs.Message.{Message, MessageBody, AppendFields, ReplyFields, ReplyResult, Success, PartialSuccess, Conflict, HigherVote}
use Rattle.raft_group_step.specs.GroupState.{GroupState, Lead, Role, Follower, Candidate, Leader}
use Rattle.raft_group_step.specs.StepResult.{StepResult, send, step_down, store, store_vote, take_over, unchanged}
use Rattle.raft_group_step.specs.Lead.{other_ids, remove_up_to}
use Rattle.raft_group_step.specs.Elect.{ask, other_voters, stand}
use Rattle.raft_group_step.specs.VoteRequest.{judged}
use Rattle.raft_group_step.specs.VoteReply.{take_over_greater}
use Rattle.raft_group_step.specs.AppendRequest.{above_committed, cut_at, cut_from, heard, joined, missing_entries, put_entries}
use Rattle.raft_group_step.specs.SnapshotRequest.{cut_other, install, install_unless, offered, place_above}
use Rattle.raft_group_step.specs.Reply.{answered, reply_step, with_higher_vote}
use Rattle.raft_group_step.specs.Heartbeat.{beat_as, send_notices}
use Rattle.raft_group_step.specs.Lost.{lost_as}
use Rattle.raft_group_step.specs.SnapshotTrigger.{snapshot_at, snapshot_of_applied, store_snapshot_at}
use Rattle.raft_group_step.specs.PurgeTrigger.{purge_as, purge_within}
use Rattle.raft_group_step.proofs.Words.{either, either_by}
use Rattle.raft_laws.proofs.StepEntries.{Each, each_append, each_drop, each_filter, each_take, BodyEach, StoredEach}
use Rattle.raft_laws.proofs.StepWords.{all-append}

module _ (P : Entry → Type 0) (base : StoredGroup) where
  abbrev pub CommandEach : StoringCommand → Type 0
  CommandEach MakeGroup = Unit {0}
  CommandEach (SetVote vote) = Unit {0}
  CommandEach (PutEntries place entries) = Each P entries
  CommandEach (CutFrom place) = Unit {0}
  CommandEach (RemoveUpTo id) = Unit {0}
  CommandEach (SetSnapshot x) = Each P x.«prefix»
  CommandEach (StartAfter id) = Unit {0}

  abbrev pub MessageEach : Message → Type 0
  MessageEach x = BodyEach P x.body

  -- what is stored is what the commands make of the base, and each entry of what is stored, of the commands and of the messages is so
  pub record Kept (r : StepResult) : Type 0 where
    pub stored : r.state.stored ≡ after_storing_all r.commands base
    pub now : StoredEach P r.state.stored
    pub commands : Each CommandEach r.commands
    pub messages : Each MessageEach r.messages

  stored-each : (c : StoringCommand) (st : StoredGroup) → StoredEach P st → CommandEach c → StoredEach P (after_storing c st)
  stored-each MakeGroup st h k = h
  stored-each (SetVote vote) st h k = h
  stored-each (PutEntries place entries) st h k = (each_append P _ entries (each_take P _ st.log h.0) k, h.1)
  stored-each (CutFrom place) st h k = (each_take P _ st.log h.0, h.1)
  stored-each (RemoveUpTo id) st h k = (each_drop P _ st.log h.0, h.1)
  stored-each (SetSnapshot x) st h k = (h.0, k)
  stored-each (StartAfter id) st h k = (tt, h.1)

  pub all-each : (cs : List StoringCommand) (st : StoredGroup) → StoredEach P st → Each CommandEach cs → StoredEach P (after_storing_all cs st)
  all-each [] st h k = h
  all-each (c ∷ cs) st h k = all-each cs (after_storing c st) (stored-each c st h k.0) k.1

  held-each : (st : StoredGroup) → StoredEach P st → Each P (held st)
  held-each st h = each_append P (prefix_of st.snapshot) _ h.1 (each_drop P _ st.log h.0)

  -- ---- the words by which steps are put together

  -- neither stored nor sent
  pub same-each : (r q : StepResult) → q.state.stored ≡ r.state.stored → q.commands ≡ r.commands → q.messages ≡ r.messages → Kept r → Kept q
  same-each r q e f g h =
      record {
        stored = e ∙ h.stored ∙ ap (λ cs. after_storing_all cs base) (sym f);
        now = subst (StoredEach P) (sym e) h.now;
        commands = subst (Each CommandEach) (sym f) h.commands;
        messages = subst (Each MessageEach) (sym g) h.messages;
      }

  pub store-each : (c : StoringCommand) (r : StepResult) → Kept r → CommandEach c → Kept (store c r)
  store-each c r h k =
      record {
        stored = ap (after_storing c) h.stored ∙ sym (all-append r.commands c base);
        now = stored-each c r.state.stored h.now k;
        commands = each_append CommandEach r.commands (c ∷ []) h.commands (k, tt);
        messages = h.messages;
      }

  send-each : (own peer : ℕ) (b : MessageBody) (r : StepResult) → Kept r → BodyEach P b → Kept (send own peer b r)
  send-each own peer b r h k =
      record {
        stored = h.stored;
        now = h.now;
        commands = h.commands;
        messages = each_append MessageEach r.messages (record { sender = own; addressee = peer; body = b } ∷ []) h.messages (k, tt);
      }

  pub vote-each : (v : Vote ℕ) (r : StepResult) → Kept r → Kept (store_vote v r)
  vote-each v r h = same-each (store (SetVote v) r) (store_vote v r) refl refl refl (store-each (SetVote v) r h tt)

  down-each : (v : Vote ℕ) (r : StepResult) → Kept r → Kept (store_vote v (step_down r))
  down-each v r h = vote-each v (step_down r) (same-each r (step_down r) refl refl refl h)

  take_over-each : (v : Vote ℕ) (r : StepResult) → Kept r → Kept (take_over v r)
  take_over-each v r h = either_by Kept (vote_lt r.state.stored.vote v) _ _ (λ t. down-each v r h) (λ t. same-each r _ refl refl refl h)

  pub greater-each : (v : Vote ℕ) (r : StepResult) → Kept r → Kept (take_over_greater v r)
  greater-each v r h = either_by Kept (vote_lt r.state.stored.vote v) _ _ (λ t. down-each v r h) (λ t. h)

  ask-each : (own : ℕ) (ns : List ℕ) (r : StepResult) → Kept r → Kept (ask own ns r)
  ask-each own [] r h = h
  ask-each own (n ∷ ns) r h = ask-each own ns _ (send-each own n _ r h tt)

  pub stand-each : (own : ℕ) (r : StepResult) → Kept r → Kept (stand own r)
  stand-each own r h =
      ask-each own (other_voters own r.state.stored) _
      (same-each (store_vote _ (step_down r)) _ refl refl refl (down-each _ r h))

  -- ---- messages

  pub judged-each : (own peer : ℕ) (v : Vote ℕ) (b : Bool) (r : StepResult) → Kept r → Kept (judged own peer v b r)
  judged-each own peer v true r h = send-each own peer _ (take_over v r) (take_over-each v r h) tt
  judged-each own peer v false r h = send-each own peer _ r h tt

  cut_from-each : (i : ℕ) (r : StepResult) → Kept r → Kept (cut_from i r)
  cut_from-each i r h = either Kept _ _ _ (store-each (CutFrom i) r h tt) h

  cut_at-each : (id : Option (LogId ℕ)) (r : StepResult) → Kept r → Kept (cut_at id r)
  cut_at-each None r h = h
  cut_at-each (Some id) r h = cut_from-each id.index r h

  missing-each : (st : StoredGroup) (es : List Entry) → Each P es → Each P (missing_entries st es)
  missing-each st [] h = tt
  missing-each st (e ∷ es) h = go (has_id_in_log st e.log_id) (missing-each st es h.1)
    where
      go : (b : Bool) → Each P (missing_entries st es) → Each P (cond b (missing_entries st es) (e ∷ es))
      go true rest = rest
      go false rest = h

  put-each : (es : List Entry) (r : StepResult) → Kept r → Each P es → Kept (put_entries es r)
  put-each [] r h k = h
  put-each (e ∷ es) r h k = store-each _ _ (cut_from-each e.log_id.index r h) k

  joined-each : (own peer : ℕ) (a : AppendFields) (b : Bool) (r : StepResult) → Kept r → Each P a.entries → Kept (joined own peer a b r)
  joined-each own peer a true r h k =
      let fresh = missing_entries r.state.stored (above_committed r.state.committed a.entries) in
      let put = put-each fresh r h (missing-each r.state.stored _ (each_filter P _ a.entries k)) in
      send-each own peer _ _ (same-each (put_entries fresh r) _ refl refl refl put) tt
  joined-each own peer a false r h k = send-each own peer _ (cut_at a.previous r) (cut_at-each a.previous r h) tt

  pub heard-each : (own peer : ℕ) (a : AppendFields) (b : Bool) (r : StepResult) → Kept r → Each P a.entries → Kept (heard own peer a b r)
  heard-each own peer a true r h k = send-each own peer _ r h tt
  heard-each own peer a false r h k = joined-each own peer a _ (take_over a.vote r) (take_over-each a.vote r h) k

  cut_other-each : (last : LogId ℕ) (r : StepResult) → Kept r → Kept (cut_other last r)
  cut_other-each last r h =
      either Kept _ _ _ h (either Kept _ _ _ (cut_from-each (place_above r.state.committed) r h) h)

  install-each : (x : Snapshot) (r : StepResult) → Kept r → Each P x.«prefix» → Kept (install x r)
  install-each x r h k =
      same-each (store (RemoveUpTo x.last) (store (SetSnapshot x) (cut_other x.last r))) _ refl refl refl
      (store-each (RemoveUpTo x.last) _ (store-each (SetSnapshot x) _ (cut_other-each x.last r h) k) tt)

  unless-each : (b : Bool) (x : Snapshot) (r : StepResult) → Kept r → Each P x.«prefix» → Kept (install_unless b x r)
  unless-each true x r h k = h
  unless-each false x r h k = install-each x r h k

  pub offered-each : (own peer : ℕ) (v : Vote ℕ) (id : ℕ) (x : Snapshot) (b : Bool) (r : StepResult) → Kept r → Each P x.«prefix» → Kept (offered own peer v id x b r)
  offered-each own peer v id x true r h k = send-each own peer _ r h tt
  offered-each own peer v id x false r h k =
      send-each own peer _ _ (unless-each _ x (take_over v r) (take_over-each v r h) k) tt

  higher-each : (o : ReplyResult) (r : StepResult) → Kept r → Kept (with_higher_vote o r)
  higher-each Success r h = h
  higher-each (PartialSuccess last) r h = h
  higher-each Conflict r h = h
  higher-each (HigherVote v) r h = greater-each v r h

  answered-each : (peer : ℕ) (reply : ReplyFields) (role : Role) (r : StepResult) → Kept r → Kept (answered peer reply role r)
  answered-each peer reply Follower r h = h
  answered-each peer reply (Candidate granters) r h = h
  answered-each peer reply (Leader lead) r h = either Kept _ _ _ (same-each r _ refl refl refl h) h

  pub reply-each : (peer : ℕ) (reply : ReplyFields) (r : StepResult) → Kept r → Kept (reply_step peer reply r)
  reply-each peer reply r h =
      answered-each peer reply (with_higher_vote reply.outcome r).state.role (with_higher_vote reply.outcome r)
      (higher-each reply.outcome r h)

  -- ---- calls

  notices-each : (own : ℕ) (lead : Lead) (ns : List ℕ) (r : StepResult) → Kept r → Kept (send_notices own lead ns r)
  notices-each own lead [] r h = h
  notices-each own lead (n ∷ ns) r h = notices-each own lead ns _ (send-each own n _ r h tt)

  pub beat-each : (own : ℕ) (role : Role) (r : StepResult) → Kept r → Kept (beat_as own role r)
  beat-each own Follower r h = h
  beat-each own (Candidate granters) r h = h
  beat-each own (Leader lead) r h = notices-each own lead (other_ids own r.state.stored) r h

  pub lost-each : (peer : ℕ) (role : Role) (r : StepResult) → Kept r → Kept (lost_as peer role r)
  lost-each peer Follower r h = h
  lost-each peer (Candidate granters) r h = h
  lost-each peer (Leader lead) r h = either Kept _ _ _ (same-each r _ refl refl refl h) h

  snapshot_at-each : (id : Option (LogId ℕ)) (r : StepResult) → Kept r → Kept (store_snapshot_at id r)
  snapshot_at-each None r h = h
  snapshot_at-each (Some id) r h =
      store-each (SetSnapshot (snapshot_at r.state.stored id)) r h (each_take P (id.index + 1) (held r.state.stored) (held-each r.state.stored h.now))

  pub snapshot-each : (a : Option ℕ) (r : StepResult) → Kept r → Kept (snapshot_of_applied a r)
  snapshot-each None r h = h
  snapshot-each (Some a) r h = either Kept _ _ _ h (snapshot_at-each _ r h)

  remove-each : (id : Option (LogId ℕ)) (r : StepResult) → Kept r → Kept (remove_up_to id r)
  remove-each None r h = h
  remove-each (Some id) r h = store-each (RemoveUpTo id) r h tt

  purge_as-each : (i : ℕ) (role : Role) (r : StepResult) → Kept r → Kept (purge_as i role r)
  purge_as-each i Follower r h = remove-each _ r h
  purge_as-each i (Candidate granters) r h = remove-each _ r h
  purge_as-each i (Leader lead) r h = either Kept _ _ _ h (same-each r _ refl refl refl h)

  pub purge_within-each : (i : ℕ) (last : Option (LogId ℕ)) (r : StepResult) → Kept r → Kept (purge_within i last r)
  purge_within-each i None r h = h
  purge_within-each i (Some last) r h = purge_as-each _ r.state.role r h

  pub none-yet : (s : GroupState) → s.stored ≡ base → StoredEach P s.stored → Kept (unchanged s)
  none-yet s e h = record { stored = e; now = h; commands = tt; messages = tt }
