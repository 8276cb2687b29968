-- What a node has under its own vote goes on from what it was noted with under it last; and each entry of it is known, or new.
use Rattle.std.specs.Prelude.{◌≡◌, ◌⊎◌, ℕ, ◌<◌, ◌≤◌, true, List, [], length, slice_get, Option, Some, None, Contains}
use Rattle.std.proofs.Common.{inl, inr, sym, ap, ◌∙◌, subst, arith, ⊎_elim}
use Rattle.raft_values.specs.declared.vote.Vote.{Vote}
use Rattle.raft_group_step.specs.Values.{Entry}
use Rattle.raft_group_step.specs.StoredGroup.{StoredGroup, held, prefix_of}
use Rattle.raft_group_step.specs.GroupState.{GroupState}
use Rattle.raft_group_step.specs.GroupEvent.{GroupEvent}
use Rattle.raft_group_step.specs.GroupStep.{group_step}
use Rattle.raft_laws.specs.BallotLists.{AgreeBelow}
use Rattle.raft_laws.specs.GroupWorld.{GroupWorld, Led, Recorded, new_world}
use Rattle.raft_laws.specs.GroupRun.{Replays}
use Rattle.raft_laws.specs.NodeEvent.{Comes, after_step}
use Rattle.raft_laws.specs.OneList.{AreNodeIds}
use Rattle.raft_laws.specs.VotesRise.{stored_of}
use Rattle.raft_laws.proofs.BallotAgreement.{same_some}
use Rattle.raft_laws.proofs.BallotSafe.{Among}
use Rattle.raft_laws.proofs.Counts.{among_contains, contains_among}
use Rattle.raft_laws.proofs.HeldLists.{HoldsLog, machine, node_holds}
use Rattle.raft_laws.proofs.Standing.{OwnVote}
use Rattle.raft_laws.proofs.StepEntries.{Each, StoredEach, each_append, each_drop}
use Rattle.raft_laws.proofs.WorldStart.{Founded, founded}
use Rattle.raft_history_laws.proofs.LeaderLists.{lists_are_stored, notes_are_own}
use Rattle.raft_list_laws.specs.Accounts.{Accounts, AreTrue, WasNoted}
use Rattle.raft_list_laws.proofs.BasesStay.{OwnBehind, all_own, same_votes}
use Rattle.raft_list_laws.proofs.OwnNotes.{EventKnown, Known, each_among}
use Rattle.raft_list_laws.proofs.StepWrites.{AsLed, AsStored}
use Rattle.raft_list_reports.proofs.AskedEntries.{AskedOrBlank, asked_done}
use Rattle.raft_list_reports.proofs.Gains.{Continues}

-- of each entry that a node holds, where it is so of each that it has stored
pub held_each : (P : Entry → Type 0) (st : StoredGroup) → StoredEach P st → Each P (held st)
held_each P st h = each_append P (prefix_of st.snapshot) _ h.1 (each_drop P _ st.log h.0)

-- ---- it goes on from the last list

module _ (ids : List ℕ) (small : AreNodeIds ids) (rs : List Recorded) (w' : GroupWorld) (run : Replays (new_world ids) rs w') (led : List Led) (within : (x : Led) → Among x led → Among x w'.led) (n : ℕ) (st : StoredGroup) (has : stored_of (w'.nodes n) ≡ Some st) (mine : st.vote.leader_id.node_id ≡ n) (a : Accounts) (v : GroupWorld) (t : AreTrue a v) (same : v.led ≡ led) where
  f : Founded w'
  f = founded ids small rs w' run

  own_in : (x : Led) → Among x led → OwnVote x.node x.vote true
  own_in x among = notes_are_own ids small rs w' run x (within x among)

  module _ (last : Led) (c : Contains v.led last) (vote : last.vote ≡ st.vote) (list : last.list ≡ a.latest st.vote) where
    among_last : Among last led
    among_last = subst (Among last) same (contains_among v.led last c)

    own : OwnVote last.node last.vote true
    own = own_in last among_last

    its_node : last.node ≡ n
    its_node = sym own.node ∙ ap (λ (u : Vote ℕ). u.leader_id.node_id) vote ∙ mine

    has_there : stored_of (w'.nodes last.node) ≡ Some st
    has_there = ap (λ (i : ℕ). stored_of (w'.nodes i)) its_node ∙ has

    front : AgreeBelow (length (a.latest st.vote)) (a.latest st.vote) (held st)
    front =
        subst (λ (xs : List Entry). AgreeBelow (length xs) xs (held st)) list
        (lists_are_stored ids rs w' (record { node_ids = small; replays = run }) last (among_contains w'.led last (within last among_last)) st has_there (sym vote))

    past : OwnBehind last (held st)
    past = all_own ids small rs w' run n last (within last among_last) its_node st has (sym vote)

    past_last : (i : ℕ) (e : Entry) → length (a.latest st.vote) ≤ i → slice_get (held st) i ≡ Some e → e.log_id.leader_id ≡ st.vote.leader_id
    past_last i e le at = let size = ap length list in past i e (omega arith) at ∙ ap (λ (u : Vote ℕ). u.leader_id) vote

    holds : HoldsLog f.membership ((machine f.membership f.some w' f.is).node n).log st
    holds = node_holds f.membership (machine f.membership f.some w' f.is) n (w'.nodes n) st (f.is.matches.fits.nodes n) has

    within_latest : (x : Led) → Among x led → x.vote.leader_id ≡ st.vote.leader_id → length x.list ≤ length (a.latest st.vote)
    within_latest x among leader =
        let its = own_in x among in
        let is : x.vote ≡ st.vote = same_votes x.vote st.vote leader (its.flag ∙ sym own.flag ∙ ap (λ (u : Vote ℕ). u.committed) vote) in
        subst (λ (u : Vote ℕ). length x.list ≤ length (a.latest u)) is
        (t.notes.latest x (among_contains v.led x (subst (Among x) (sym same) among))).right

    continues_so : Continues led st.vote (a.latest st.vote) (held st)
    continues_so =
        record {
          goes_on = front;
          own = past_last;
          placed = λ i e at. let p = holds.good.placed i e at in omega arith;
          term = subst (λ (u : Vote ℕ). 0 < u.leader_id.term) vote own.term;
          last = last;
          among = among_last;
          of_vote = vote;
          longest = within_latest;
        }

  module _ (some : a.latest st.vote ≡ [] → ⊥) where
    noted : WasNoted v st.vote (a.latest st.vote)
    noted = ⊎_elim (λ none. absurd (some none)) (λ x. x) (t.notes.noted st.vote)

    pub continues : Continues led st.vote (a.latest st.vote) (held st)
    continues = let x = noted in continues_so x.0 x.1 x.2 x.3

    pub is_committed : st.vote.committed ≡ true
    is_committed =
        let x = noted in
        let own = own_in x.0 (subst (Among x.0) same (contains_among v.led x.0 x.1)) in
        ap (λ (u : Vote ℕ). u.committed) (sym x.2) ∙ own.flag

-- ---- a step's entries are known, or its event asked for them, or they are blank

module _ (led : List Led) (n : ℕ) (s : GroupState) (known : StoredEach (Known led) s.stored) (e : GroupEvent) (sent : EventKnown led n (Comes e)) where
  at_stop : (k : ℕ) (st : StoredGroup) → stored_of (after_step (Some k) s (group_step n s e)) ≡ Some st → (x : Entry) → Among x (held st) → Known led x ⊎ AskedOrBlank n s e st.vote x
  at_stop k st is x among =
      let P : StoredGroup → Type 0 = λ y. StoredEach (AsStored (Known led) (AskedOrBlank n s e) y.vote) y in
      each_among (AsStored (Known led) (AskedOrBlank n s e) st.vote) (held st)
      (held_each (AsStored (Known led) (AskedOrBlank n s e) st.vote) st (subst P (same_some is) ((asked_done led n s known e sent).stops k)))
      x among

  at_end : (st : StoredGroup) → stored_of (after_step None s (group_step n s e)) ≡ Some st → (x : Entry) → Among x (held st) → Known led x ⊎ AskedOrBlank n s e st.vote x
  at_end st is x among =
      let P : Entry → Type 0 = AsLed (Known led) (AskedOrBlank n s e) (group_step n s e) in
      let each = each_among P (held st) (held_each P st (subst (StoredEach P) (same_some is) (asked_done led n s known e sent).now)) x among in
      ⊎_elim (λ old. inl old) (λ new. inr (subst (λ (y : StoredGroup). AskedOrBlank n s e y.vote x) (same_some is) new.0)) each

  pub step_asked : (stop : Option ℕ) (st : StoredGroup) → stored_of (after_step stop s (group_step n s e)) ≡ Some st → (x : Entry) → Among x (held st) → Known led x ⊎ AskedOrBlank n s e st.vote x
  step_asked None st is x among = at_end st is x among
  step_asked (Some k) st is x among = at_stop k st is x among
