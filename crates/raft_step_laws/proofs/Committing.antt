-- A leader commits at once what a quorum accepted.
use Rattle.std.specs.Prelude.{◌≡◌, ℕ, zero, suc, ◌+◌, ◌-◌, ◌<◌, ◌≤◌, ◌==◌, ◌||◌, cond, max, nat_lt, Bool, true, false, List, [], ◌∷◌, filter, slice_get, Option, Some, None, option_map, refl}
use Rattle.std.specs.List.{last_or}
use Rattle.std.proofs.Common.{sym, ap, ◌∙◌, subst, arith, le-leb, lt-ltb}
use Rattle.std.proofs.lemmas.Bool.{and_from, cond_both}
use Rattle.std.proofs.lemmas.List.Elements.{All-contains}
use Rattle.std.proofs.lemmas.Option.{slice_get_within}
use Rattle.raft_values.specs.declared.log_id.LogId.{LogId}
use Rattle.raft_values.specs.LogId.{place_of}
use Rattle.raft_quorums.specs.Quorum.{is_quorum}
use Rattle.raft_quorums.specs.QuorumLaws.{wider_quorum}
use Rattle.raft_group_step.specs.Values.{Entry, is_written_by}
use Rattle.raft_group_step.specs.StoredGroup.{StoredGroup, end_place, entry_at, first_place, id_of}
use Rattle.raft_group_step.specs.Peer.{is_kept_for_peers}
use Rattle.raft_group_step.specs.GroupState.{GroupState, Lead, Role, Follower, Candidate, Leader, is_leader}
use Rattle.raft_group_step.specs.GroupEvent.{GroupEvent}
use Rattle.raft_group_step.specs.StepResult.{StepResult, is_within, later_place}
use Rattle.raft_group_step.specs.Lead.{commit_as_leader, configs_in_force, has_accepted, may_be_committed, peer_of, purge_as_wished, purge_up_to, remove_up_to, with_wish}
use Rattle.raft_group_step.specs.GroupStep.{event_step, finished, group_step, step_unless}
use Rattle.raft_group_step.proofs.Words.{either, commit_keeps_stored, leads_if}
use Rattle.raft_group_step.proofs.EntryPlaces.{entry_within}
use Rattle.raft_laws.proofs.Counts.{at_contains, contains_at}
use Rattle.raft_laws.proofs.Shapes.{slice_drop}
use Rattle.raft_laws.proofs.StepTokens.{frames_same}
use Rattle.raft_step_laws.specs.Commits.{CommitsAll, CommitsAtOnce, TokensAreToldAtOnce, has_quorum_at, reaches}
use Rattle.raft_step_laws.specs.Fitting.{ArePlacedFrom}
use Rattle.raft_step_laws.proofs.FitSteps.{event_fits, steps_fit}
use Rattle.raft_step_laws.proofs.FitWords.{StandFrom, entry_place, placed_stand}
use Rattle.raft_step_laws.proofs.LeaderSends.{finished_sends, matched_after, same_lead, settled}
use Rattle.raft_step_laws.proofs.Sending.{finished_adds}
use Rattle.raft_step_laws.proofs.Telling.{purged_untouched, untold_above}
use Rattle.raft_step_laws.specs.Tokens.{is_due}

-- ---- the last entry that passes stands at or behind each that does

abbrev AtOrBehind : ℕ → Option Entry → Type 0
AtOrBehind place o = (y : Entry) × (o ≡ Some y) × (place ≤ y.log_id.index)

-- what follows stands behind
later_last : (p : Entry → Bool) (k : ℕ) (es : List Entry) (y : Entry) (place : ℕ) → StandFrom k es → y.log_id.index < k → place ≤ y.log_id.index → AtOrBehind place (last_or (Some y) (filter p es))
later_last p k [] y place h l m = (y, refl, m)
later_last p k (e ∷ es) y place h l m =
    go (p e) (later_last p (k + 1) es y place h.1 (omega arith) m) (later_last p (k + 1) es e place h.1 (omega (arith, h.0)) (omega (arith, h.0)))
  where
    go : (b : Bool) → AtOrBehind place (last_or (Some y) (filter p es)) → AtOrBehind place (last_or (Some e) (filter p es)) → AtOrBehind place (last_or (Some y) (cond b (e ∷ filter p es) (filter p es)))
    go true rest kept = kept
    go false rest kept = rest

last_reaches : (p : Entry → Bool) (k : ℕ) (es : List Entry) (o : Option Entry) (x : Entry) (j : ℕ) → StandFrom k es → slice_get es j ≡ Some x → p x ≡ true → AtOrBehind x.log_id.index (last_or o (filter p es))
last_reaches p k [] o x j h at t = absurd (let f : None ≡ Some x = at in cc)
last_reaches p k (e ∷ es) o x zero h at t =
    let same : e ≡ x = (let f : Some e ≡ Some x = at in cc) in
    let place = ap (λ (y : Entry). y.log_id.index) same in
    subst (λ b. AtOrBehind x.log_id.index (last_or o (cond b (e ∷ filter p es) (filter p es)))) (sym (ap p same ∙ t))
    (later_last p (k + 1) es e x.log_id.index h.1 (omega (arith, h.0)) (omega arith))
last_reaches p k (e ∷ es) o x (suc j) h at t =
    go (p e) (last_reaches p (k + 1) es o x j h.1 at t) (last_reaches p (k + 1) es (Some e) x j h.1 at t)
  where
    go : (b : Bool) → AtOrBehind x.log_id.index (last_or o (filter p es)) → AtOrBehind x.log_id.index (last_or (Some e) (filter p es)) → AtOrBehind x.log_id.index (last_or o (cond b (e ∷ filter p es) (filter p es)))
    go true rest kept = kept
    go false rest kept = rest

within_later : (c : Option ℕ) (place i : ℕ) → place ≤ i → is_within place (later_place c (Some i)) ≡ true
within_later None place i l = le-leb place i l
within_later (Some a) place i l = le-leb place (max a i) (omega arith)

-- ---- what a leader commits

module _ (own : ℕ) (r : StepResult) (a : Lead) (placed : ArePlacedFrom (first_place r.state.stored) r.state.stored.log) where
  abbrev st : StoredGroup
  st = r.state.stored

  committed_then : (x : Entry) (j : ℕ) → slice_get st.log j ≡ Some x → may_be_committed own st a x ≡ true → is_within x.log_id.index (commit_as_leader own (Leader a) r).state.committed ≡ true
  committed_then x j at may =
      let y = last_reaches (may_be_committed own st a) (first_place st) st.log None x j (placed_stand (first_place st) st.log placed) at may in
      ap (λ o. is_within x.log_id.index (later_place r.state.committed (option_map (λ (e : Entry). e.log_id.index) o))) y.1
      ∙ within_later r.state.committed x.log_id.index y.0.log_id.index y.2

  -- whom the leader counts: itself, and whoever has accepted its entries up to there
  counts : (x : Entry) (j : ℕ) → slice_get st.log j ≡ Some x → (lead : Lead) → ((n : ℕ) → (peer_of lead n).matched ≡ (peer_of a n).matched)
      → (n : ℕ) → (n == own || reaches (peer_of lead n).matched x.log_id.index) ≡ true → has_accepted own st a x.log_id.index n ≡ true
  counts x j at lead same n =
      cond_both (n == own) (nat_lt x.log_id.index (end_place st)) (is_within x.log_id.index (place_of (peer_of a n).matched))
      (λ b. (n == own || reaches (peer_of lead n).matched x.log_id.index) ≡ true → b ≡ true)
      (λ t h.
      let inside = slice_get_within st.log j x at in
      let place = placed j x at in
      lt-ltb x.log_id.index (end_place st) (omega arith))
      (λ f h. within (peer_of a n).matched (ap (λ o. reaches o x.log_id.index) (sym (same n)) ∙ ap (λ b. b || reaches (peer_of lead n).matched x.log_id.index) (sym f) ∙ h))
    where
      within : (o : Option (LogId ℕ)) → reaches o x.log_id.index ≡ true → is_within x.log_id.index (place_of o) ≡ true
      within None t = t
      within (Some id) t = t

-- ---- the end of an event

-- a purge takes entries from the log, and brings none
abbrev NoneNew : StoredGroup → StepResult → Type 0
NoneNew base q = (x : Entry) (j : ℕ) → slice_get q.state.stored.log j ≡ Some x → (k : ℕ) × (slice_get base.log k ≡ Some x)

removed_none_new : (base : StoredGroup) (o : Option (LogId ℕ)) (q : StepResult) → NoneNew base q → NoneNew base (remove_up_to o q)
removed_none_new base None q h = h
removed_none_new base (Some id) q h =
    λ x j at.
    let k = id.index + 1 - first_place q.state.stored in
    h x (k + j) (sym (slice_drop k q.state.stored.log j) ∙ at)

purged_none_new : (base : StoredGroup) (role : Role) (wish : Option ℕ) (q : StepResult) → NoneNew base q → NoneNew base (purge_as_wished role wish q)
purged_none_new base Follower wish q h = h
purged_none_new base (Candidate granters) wish q h = h
purged_none_new base (Leader lead) None q h = h
purged_none_new base (Leader lead) (Some place) q h =
    let wished = with_wish None q in
    either (NoneNew base) (is_kept_for_peers place lead.peers) q (purge_up_to place wished) h
    (removed_none_new base (id_of (entry_at q.state.stored place)) wished h)

settled_none_new : (own : ℕ) (r : StepResult) → NoneNew r.state.stored (settled own r)
settled_none_new own r =
    let committed = commit_as_leader own r.state.role r in
    purged_none_new r.state.stored committed.state.role committed.state.wish committed
    (λ x j at. (j, ap (λ (s : StoredGroup). slice_get s.log j) (sym (commit_keeps_stored own r.state.role r)) ∙ at))

finished_committed : (own : ℕ) (before : Option ℕ) (r : StepResult) → (finished own before r).state.committed ≡ (commit_as_leader own r.state.role r).state.committed
finished_committed own before r =
    let committed = commit_as_leader own r.state.role r in
    (frames_same own before (settled own r)).committed
    ∙ (purged_untouched committed.state.role committed.state.wish committed).committed

-- ---- the law

module _ (own : ℕ) (s : GroupState) (e : GroupEvent) (placed : ArePlacedFrom (first_place (event_step own s e).state.stored) (event_step own s e).state.stored.log) where
  abbrev q : StepResult
  q = event_step own s e

  abbrev end : StepResult
  end = finished own s.committed q

  commits : configs_in_force end.state.stored ≡ configs_in_force q.state.stored → (lead : Lead) → end.state.role ≡ Leader lead → CommitsAll own end.state lead
  commits voters lead is x there mine many =
      let on = finished_adds own s.committed q in
      let a = leads_if q.state.role (sym on.leads ∙ ap is_leader is) in
      let h = finished_sends own s.committed a.0 q a.1 in
      let after : h.after ≡ lead = same_lead h.after lead (sym h.role ∙ is) in
      let same : (n : ℕ) → (peer_of lead n).matched ≡ (peer_of a.0 n).matched =
      λ n. ap (λ l. (peer_of l n).matched) (sym after) ∙ ap (λ p. p.matched) (h.peers n) ∙ matched_after h.more (peer_of a.0 n)
      in
      let at = contains_at end.state.stored.log x there in
      let old = settled_none_new own q x at.0 (ap (λ (st : StoredGroup). slice_get st.log at.0) (sym h.stored) ∙ at.1) in
      let written : is_written_by q.state.stored.vote.leader_id x ≡ true = ap (λ v. is_written_by v.leader_id x) (sym on.vote) ∙ mine in
      let quorum : is_quorum (configs_in_force q.state.stored) (has_accepted own q.state.stored a.0 x.log_id.index) ≡ true =
      wider_quorum (λ n. n == own || reaches (peer_of lead n).matched x.log_id.index) (has_accepted own q.state.stored a.0 x.log_id.index)
      (counts own q a.0 placed x old.0 old.1 lead same)
      (configs_in_force q.state.stored)
      (ap (λ cs. is_quorum cs (λ n. n == own || reaches (peer_of lead n).matched x.log_id.index)) (sym voters) ∙ many)
      in
      let may = and_from (is_written_by q.state.stored.vote.leader_id x) (is_quorum (configs_in_force q.state.stored) (has_accepted own q.state.stored a.0 x.log_id.index)) written quorum in
      ap (is_within x.log_id.index) (finished_committed own s.committed q)
      ∙ ap (λ role. is_within x.log_id.index (commit_as_leader own role q).state.committed) a.1
      ∙ committed_then own q a.0 placed x old.0 old.1 may

pub commits_at_once : CommitsAtOnce
commits_at_once own s e fits c f passed voters lead =
    subst
    (λ o. configs_in_force (step_unless o own s e).state.stored ≡ configs_in_force (event_step own s e).state.stored → (step_unless o own s e).state.role ≡ Leader lead → CommitsAll own (step_unless o own s e).state lead)
    (sym passed)
    (λ v. commits own s e (event_fits own s e fits c f passed).placed v lead)
    voters

pub told_at_once : TokensAreToldAtOnce
told_at_once own s e fits c f mine waits none above passed voters lead is t there x at written =
    go (has_quorum_at own (group_step own s e).state.stored lead t.place) refl
  where
    go : (b : Bool) → has_quorum_at own (group_step own s e).state.stored lead t.place ≡ b → has_quorum_at own (group_step own s e).state.stored lead t.place ≡ false
    go false q = q
    go true q =
        let st = (group_step own s e).state.stored in
        let stored = (steps_fit own s e fits c f).stored in
        let place = entry_place st stored t.place x at in
        let inside = at_contains st.log x (t.place - first_place st) (entry_within st t.place x at).2 in
        let committed =
        commits_at_once own s e fits c f passed voters lead is x inside written (ap (has_quorum_at own st lead) place ∙ q)
        in
        let waiting = All-contains (λ y. is_due (group_step own s e).state y ≡ false) (group_step own s e).state.untold t (untold_above own s e mine waits none above) there in
        absurd
        (let no : true ≡ false = sym committed ∙ ap (λ k. is_within k (group_step own s e).state.committed) place ∙ waiting in cc)
