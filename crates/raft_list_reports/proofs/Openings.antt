-- An opening leaves the vote and the list that its node holds, whether it stops or not.
use Rattle.std.specs.Prelude.{◌≡◌, ℕ, zero, suc, ◌+◌, ◌-◌, ◌==◌, ◌&&◌, nat_lt, true, false, List, [], ◌∷◌, ◌++◌, drop, length, slice_get, take, Option, Some, None, option_map, refl}
use Rattle.std.proofs.Common.{sym, ap, ◌∙◌, subst, arith, ⊎_elim, append-nil, eq-eqb, lt-ltb}
use Rattle.std.proofs.lemmas.Bool.{and_from, cases_lt, or_left, or_right}
use Rattle.raft_values.specs.declared.log_id.LogId.{LogId}
use Rattle.raft_values.specs.LogId.{place_of}
use Rattle.raft_group_step.specs.Values.{Entry, Membership, leader_eq, log_id_eq}
use Rattle.raft_group_step.specs.StoredGroup.{StoredGroup, Snapshot, StoringCommand, StartAfter, after_storing, after_storing_all, first_place, has_id_in_log, held, id_of, is_id, prefix_of, snapshot_last}
use Rattle.raft_group_step.specs.GroupState.{Role, Follower, Candidate, Leader, state_of}
use Rattle.raft_group_step.specs.GroupEvent.{Open}
use Rattle.raft_group_step.specs.StepResult.{StepResult, apply_up_to, in_role, store, unchanged}
use Rattle.raft_group_step.specs.Lead.{commit_as_leader, new_lead, purge_as_wished}
use Rattle.raft_group_step.specs.Opening.{drop_stale_log, is_joined_to, opening_step, resume_lead}
use Rattle.raft_group_step.specs.GroupStep.{finished, group_step}
use Rattle.raft_group_step.proofs.Words.{either, either_by}
use Rattle.raft_laws.specs.BallotWorld.{BallotNode}
use Rattle.raft_laws.specs.NodeEvent.{after_step}
use Rattle.raft_laws.specs.VotesRise.{stored_of}
use Rattle.raft_laws.proofs.BallotAgreement.{same_some}
use Rattle.raft_laws.proofs.Shapes.{Joined, joined_at, slice_take}
use Rattle.raft_laws.proofs.Standing.{DownFits, SnapshotFits}
use Rattle.raft_laws.proofs.StepCommits.{frames_same}
use Rattle.raft_laws.proofs.StepOpening.{stale_held}
use Rattle.raft_laws.proofs.VoteRanks.{leader_eq_from}
use Rattle.raft_history_laws.proofs.StepEnds.{commit_same}

-- ---- a log that is dropped is stale

same_log_id : (id other : LogId ℕ) → other ≡ id → log_id_eq other id ≡ true
same_log_id id other e =
    and_from (leader_eq other.leader_id id.leader_id) (other.index == id.index)
    (leader_eq_from other.leader_id id.leader_id (ap (λ (x : LogId ℕ). x.leader_id) e))
    (eq-eqb other.index id.index (ap (λ (x : LogId ℕ). x.index) e))

-- a joined log has the snapshot's last entry, or has purged it
joined_to : (st : StoredGroup) (xs : List Entry) (x : Snapshot) → st.snapshot ≡ Some x → SnapshotFits x → Joined st xs → is_joined_to st x.last ≡ true
joined_to st xs x is fits j =
    let own : prefix_of st.snapshot ≡ x.«prefix» = ap prefix_of is in
    let size : length (prefix_of st.snapshot) ≡ x.last.index + 1 = ap length own ∙ fits.size in
    let last = fits.last in
    ⊎_elim
    (λ below. or_left (nat_lt x.last.index (first_place st)) (has_id_in_log st x.last) (lt-ltb x.last.index (first_place st) below))
    (λ above.
    let here : slice_get xs x.last.index ≡ Some last.entry =
    sym (slice_take (length (prefix_of st.snapshot)) xs x.last.index (omega arith))
    ∙ ap (λ (ys : List Entry). slice_get ys x.last.index) (sym j.front ∙ own)
    ∙ last.there
    in
    or_right (nat_lt x.last.index (first_place st)) (has_id_in_log st x.last)
    (ap (λ (o : Option Entry). is_id x.last (id_of o)) (joined_at st xs j x.last.index above ∙ here) ∙ same_log_id x.last last.entry.log_id last.same))
    (cases_lt x.last.index (first_place st))

drop_none : (k : ℕ) → drop k (let xs : List Entry = [] in xs) ≡ []
drop_none zero = refl
drop_none (suc k) = refl

module _ {m : Membership} {b : BallotNode} (st : StoredGroup) (down : DownFits m b st) where
  -- it leaves what is held
  dropped_held : (x : Snapshot) → st.snapshot ≡ Some x → is_joined_to st x.last ≡ false → held (after_storing (StartAfter x.last) st) ≡ held st
  dropped_held x is apart =
      ⊎_elim
      (λ j. absurd (let no : true ≡ false = sym (joined_to st down.list x is (down.fits.snapshot x is) j) ∙ apart in cc))
      (λ stale.
      ap (λ (ys : List Entry). prefix_of st.snapshot ++ ys) (drop_none (length (prefix_of st.snapshot) - (x.last.index + 1)))
      ∙ append-nil (prefix_of st.snapshot) ∙ stale.front ∙ sym (stale_held st down.list stale))
      down.shape

  -- ---- the opening

  abbrev last_in : Option Snapshot → Option (LogId ℕ)
  last_in o = option_map (λ (x : Snapshot). x.last) o

  -- a stored part with the same vote and list
  abbrev Same : StoredGroup → Type 0
  Same y = (y.vote ≡ st.vote) × (held y ≡ held st)

  -- so is the stored part behind each number of commands, and at the end
  record Keeps (r : StepResult) : Type 0 where
    now : Same r.state.stored
    stops : (k : ℕ) → Same (after_storing_all (take k r.commands) st)
    wish : r.state.wish ≡ None

  none_yet : (k : ℕ) → after_storing_all (take k (let cs : List StoringCommand = [] in cs)) st ≡ st
  none_yet zero = refl
  none_yet (suc k) = refl

  begins : Keeps (unchanged (state_of st))
  begins = record { now = (refl, refl); stops = λ k. subst Same (sym (none_yet k)) (refl, refl); wish = refl }

  one_stop : (c : StoringCommand) → Same (after_storing c st) → (k : ℕ) → Same (after_storing_all (take k (c ∷ [])) st)
  one_stop c same zero = (refl, refl)
  one_stop c same (suc zero) = same
  one_stop c same (suc (suc k)) = same

  dropped : (o : Option Snapshot) → st.snapshot ≡ o → Keeps (drop_stale_log (last_in o) (unchanged (state_of st)))
  dropped None is = begins
  dropped (Some x) is =
      either_by Keeps (is_joined_to st x.last) (unchanged (state_of st)) (store (StartAfter x.last) (unchanged (state_of st)))
      (λ joined. begins)
      (λ apart.
      let same : Same (after_storing (StartAfter x.last) st) = (refl, dropped_held x is apart) in
      record { now = same; stops = one_stop (StartAfter x.last) same; wish = refl })

  resumed : (own : ℕ) (r : StepResult) → Keeps r → Keeps (resume_lead own r)
  resumed own r h =
      either Keeps (r.state.stored.vote.committed && r.state.stored.vote.leader_id.node_id == own) (in_role (Leader (new_lead r.state.stored)) r) r
      (record { now = h.now; stops = h.stops; wish = h.wish }) h

  opened : (own : ℕ) → Keeps (opening_step own st)
  opened own =
      let drops = dropped st.snapshot refl in
      resumed own (apply_up_to (place_of (snapshot_last st)) (drop_stale_log (snapshot_last st) (unchanged (state_of st))))
      (record { now = drops.now; stops = drops.stops; wish = drops.wish })

  -- nothing is wished for
  unwished : (role : Role) (o : Option ℕ) (r : StepResult) → o ≡ None → purge_as_wished role o r ≡ r
  unwished Follower o r none = refl
  unwished (Candidate granters) o r none = refl
  unwished (Leader lead) None r none = refl
  unwished (Leader lead) (Some place) r none = absurd (let no : Some place ≡ None = none in cc)

  commit_wish : (own : ℕ) (role : Role) (r : StepResult) → (commit_as_leader own role r).state.wish ≡ r.state.wish
  commit_wish own Follower r = refl
  commit_wish own (Candidate granters) r = refl
  commit_wish own (Leader lead) r = refl

  ended : (own : ℕ) (r : StepResult) → Keeps r → Same (finished own None r).state.stored × ((k : ℕ) → Same (after_storing_all (take k (finished own None r).commands) st))
  ended own r h =
      let committed = commit_as_leader own r.state.role r in
      let purged = purge_as_wished committed.state.role committed.state.wish committed in
      let none : purged ≡ committed = unwished committed.state.role committed.state.wish committed (commit_wish own r.state.role r ∙ h.wish) in
      let first = commit_same own r.state.role r in
      let frames = frames_same own None purged in
      let stored : (finished own None r).state.stored ≡ r.state.stored = frames.0 ∙ ap (λ (q : StepResult). q.state.stored) none ∙ first.1 in
      let commands : (finished own None r).commands ≡ r.commands = frames.4 ∙ ap (λ (q : StepResult). q.commands) none ∙ first.0 in (
        subst Same (sym stored) h.now,
        λ k. subst (λ (cs : List StoringCommand). Same (after_storing_all (take k cs) st)) (sym commands) (h.stops k),
      )

  pub opening_keeps : (own : ℕ) (stop : Option ℕ) (y : StoredGroup) → stored_of (after_step stop (state_of st) (group_step own (state_of st) Open)) ≡ Some y → (y.vote ≡ st.vote) × (held y ≡ held st)
  opening_keeps own None y is = subst Same (same_some is) (ended own (opening_step own st) (opened own)).0
  opening_keeps own (Some k) y is = subst Same (same_some is) ((ended own (opening_step own st) (opened own)).1 k)
