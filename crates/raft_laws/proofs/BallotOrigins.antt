-- Each entry of a leader's own ballot was written by one event.
use Rattle.std.proofs.Common.{suc, subst, ◌≡◌, ℕ, ◌<◌, List, [], ◌∷◌, ◌++◌, length, Option, Some, None, Bool, true, false, not, cond, eqb, refl, sym, ap, ◌∙◌, arith, inl, inr, ⊎_elim, eqb-true, eq-eqb, lt-ltb}
use Rattle.std.specs.Prelude.{slice_get, ◌⊎◌}
use Rattle.std.proofs.lemmas.Bool.{or_left, and_from, cond-true, cond_both, and_parts, not-true}
use Rattle.raft_laws.specs.BallotLogs.{Payload, BallotEntry, holds_before}
use Rattle.raft_laws.specs.BallotQuorum.{is_quorum}
use Rattle.raft_laws.specs.BallotWorld.{BallotGroup, BallotRequest, BallotAppend, BallotWorld, BallotEvent, FoundGroup, StandForElection, TakeRequest, RaiseVote, WinElection, WriteEntry, CommitPlace, SendEntries, TakeEntries, CutForEntries, CutForSnapshot, CutForConflict, ForgetCommitted, ballot_start, has_granted, ballot_accepted, is_ballot_leader, is_ballot_candidate, can_raise, founded, elected, granted, won, written, committed_to, sent, taken, cut, dropped, cut_before, raised, request_comes, append_comes, cut_comes, drop_comes, conflict_comes, ballot_step, ballot_run}
use Rattle.raft_laws.specs.BallotOrigin.{IsBallotWritten}
use Rattle.raft_laws.proofs.BallotAgreement.{with_value_cases}
use Rattle.raft_laws.proofs.BallotSafe.{Safe}
use Rattle.raft_laws.proofs.BallotPut.{at_more}
use Rattle.raft_laws.specs.BallotSettled.{ballot_list}
use Rattle.raft_laws.proofs.BallotSettling.{run_append, only_settled, settled_on_list}
use Rattle.std.proofs.lemmas.Option.{slice_get_within}
use Rattle.raft_laws.proofs.BallotRuns.{start_safe, run_next, happens_next, leader_parts}

module _ (g : BallotGroup) (some : 0 < length g.voters) where
  -- the entry was there, or the event wrote it
  record Wrote (e : BallotEvent) (w : BallotWorld) (place : ℕ) (x : BallotEntry) : Type 0 where
    node : ℕ
    is : e ≡ WriteEntry node x.payload
    leads : is_ballot_leader g node (w.node node) ≡ true
    ballot : (w.node node).ballot ≡ x.ballot
    next : length (w.node node).log ≡ place

  module _ (w : BallotWorld) (ok : Safe g w) (i : ℕ) (x : BallotEntry) (pos : 0 < x.ballot) where
    record From (e : BallotEvent) (w' : BallotWorld) : Type 0 where
      by : slice_get (w'.lead x.ballot) i ≡ Some x → (slice_get (w.lead x.ballot) i ≡ Some x) ⊎ Wrote e w i x

    if_from : (e : BallotEvent) (t : Bool) (w' : BallotWorld) → (t ≡ true → From e w') → From e (cond t w' w)
    if_from e t w' h = cond_both t w' w (From e) h (λ f. record { by = λ h'. inl h' })

    from_request : (e : BallotEvent) (o : Option BallotRequest) (n : ℕ) → From e (request_comes g w o n)
    from_request e None n = record { by = λ h. inl h }
    from_request e (Some r) n = if_from e _ (granted w n r) (λ t. record { by = λ h. inl h })

    from_append : (e : BallotEvent) (o : Option BallotAppend) (n : ℕ) → From e (append_comes g w o n)
    from_append e None n = record { by = λ h. inl h }
    from_append e (Some a) n =
        if_from e (can_raise g n (w.node n) a.ballot) (cond (holds_before (w.node n).log a.start a.previous) (taken w n a) (raised w n a.ballot true))
        (λ t. cond_both (holds_before (w.node n).log a.start a.previous) (taken w n a) (raised w n a.ballot true) (From e) (λ u. record { by = λ h. inl h }) (λ u. record { by = λ h. inl h }))

    from_cut : (e : BallotEvent) (o : Option BallotAppend) (n : ℕ) → From e (cut_comes g w o n)
    from_cut e None n = record { by = λ h. inl h }
    from_cut e (Some a) n = if_from e _ (cut w n a) (λ t. record { by = λ h. inl h })

    from_drop : (e : BallotEvent) (o : Option BallotAppend) (n : ℕ) → From e (drop_comes g w o n)
    from_drop e None n = record { by = λ h. inl h }
    from_drop e (Some a) n = if_from e _ (dropped w n a) (λ t. record { by = λ h. inl h })

    from_conflict : (e : BallotEvent) (o : Option BallotAppend) (n : ℕ) → From e (conflict_comes g w o n)
    from_conflict e None n = record { by = λ h. inl h }
    from_conflict e (Some a) n = if_from e _ (cut_before w n a) (λ t. record { by = λ h. inl h })

    from_won : (n : ℕ) → is_ballot_candidate g n (w.node n) ≡ true → From (WinElection n) (won w n)
    from_won n t =
        let mine = and_parts (not (w.node n).committed) (eqb (g.owner (w.node n).ballot) n) t in
        record {
          by = with_value_cases w.lead (w.node n).ballot (w.node n).log x.ballot (λ xs. slice_get xs i ≡ Some x → (slice_get (w.lead x.ballot) i ≡ Some x) ⊎ Wrote (WinElection n) w i x)
              (λ e h.
              let led = (ok.node n).log.known i x h pos in
              let own = (ok.node n).own x.ballot led (ap g.owner e ∙ eqb-true (g.owner (w.node n).ballot) n mine.1) in
              absurd (let c : true ≡ false = sym (own.1 e) ∙ not-true _ mine.0 in cc))
              (λ ne h. inl h);
        }

    from_written : (n : ℕ) (payload : Payload) → is_ballot_leader g n (w.node n) ≡ true → From (WriteEntry n payload) (written w n payload)
    from_written n payload t =
        let mine = leader_parts g some (w.node n) n t in
        let lead = ((ok.node n).leads mine.0 mine.1 mine.2).0 in
        record {
          by = with_value_cases w.lead (w.node n).ballot ((w.node n).log ++ record { ballot = (w.node n).ballot; payload = payload } ∷ []) x.ballot (λ xs. slice_get xs i ≡ Some x → (slice_get (w.lead x.ballot) i ≡ Some x) ⊎ Wrote (WriteEntry n payload) w i x)
              (λ e h.
              ⊎_elim
              (λ old. inl (ap (λ xs. slice_get xs i) (ap w.lead e ∙ sym lead) ∙ old))
              (λ new. inr (record { node = n; is = ap (λ y. WriteEntry n y.payload) (sym new.1); leads = t; ballot = sym e; next = sym new.0 }))
              (at_more (w.node n).log (record { ballot = (w.node n).ballot; payload = payload }) i x h))
              (λ ne h. inl h);
        }

    step_from : (e : BallotEvent) → From e (ballot_step g w e)
    step_from (FoundGroup n) = if_from (FoundGroup n) _ (founded g w n) (λ t. record { by = λ h. inl h })
    step_from (StandForElection n b) = if_from (StandForElection n b) _ (elected w n b) (λ t. record { by = λ h. inl h })
    step_from (TakeRequest k n) = from_request _ (slice_get w.requests k) n
    step_from (RaiseVote n b c) = if_from (RaiseVote n b c) _ (raised w n b c) (λ t. record { by = λ h. inl h })
    step_from (WinElection n) = if_from (WinElection n) _ (won w n) (λ t. from_won n (and_parts (is_ballot_candidate g n (w.node n)) (is_quorum g.voters (has_granted w.grants (w.node n).ballot)) t).0)
    step_from (WriteEntry n payload) = if_from (WriteEntry n payload) _ (written w n payload) (λ t. from_written n payload t)
    step_from (CommitPlace n place) = if_from (CommitPlace n place) _ (committed_to w n place) (λ t. record { by = λ h. inl h })
    step_from (SendEntries n start count commit) = if_from (SendEntries n start count commit) _ (sent w n start count commit) (λ t. record { by = λ h. inl h })
    step_from (TakeEntries k n) = from_append _ (slice_get w.appends k) n
    step_from (CutForEntries k n) = from_cut _ (slice_get w.appends k) n
    step_from (CutForSnapshot k n) = from_drop _ (slice_get w.appends k) n
    step_from (CutForConflict k n) = from_conflict _ (slice_get w.appends k) n
    step_from (ForgetCommitted n commit) = record { by = λ h. inl h }

  run_from : (es : List BallotEvent) (w : BallotWorld) → Safe g w → (i : ℕ) (x : BallotEntry) → 0 < x.ballot → slice_get ((ballot_run g es w).lead x.ballot) i ≡ Some x → (slice_get (w.lead x.ballot) i ≡ Some x) ⊎ IsBallotWritten g es w i x
  run_from [] w ok i x pos h = inl h
  run_from (e ∷ es) w ok i x pos h =
      ⊎_elim
      (λ here.
      ⊎_elim
      (λ old. inl old)
      (λ now. inr (record { early = []; late = es; node = now.node; split = ap (λ f. f ∷ es) now.is; leads = now.leads; ballot = now.ballot; next = now.next }))
      ((step_from w ok i x pos e).by here))
      (λ later. inr (record { early = e ∷ later.early; late = later.late; node = later.node; split = ap (λ fs. e ∷ fs) later.split; leads = later.leads; ballot = later.ballot; next = later.next }))
      (run_from es (ballot_step g w e) (happens_next g some w e ok).safe i x pos h)

  pub led_written : (es : List BallotEvent) (i : ℕ) (x : BallotEntry) → 0 < x.ballot → slice_get ((ballot_run g es (ballot_start g)).lead x.ballot) i ≡ Some x → IsBallotWritten g es (ballot_start g) i x
  led_written es i x pos h =
      ⊎_elim
      (λ old. absurd (let none = (start_safe g).unled x.ballot pos refl in let f : None ≡ Some x = sym (ap (λ xs. slice_get xs i) none) ∙ old in cc))
      (λ w. w)
      (run_from es (ballot_start g) (start_safe g) i x pos h)

  -- any entry of the list
  pub listed_written : (es : List BallotEvent) (i : ℕ) (x : BallotEntry) → 0 < x.ballot → slice_get (ballot_list g (ballot_run g es (ballot_start g))) i ≡ Some x → IsBallotWritten g es (ballot_start g) i x
  listed_written es i x pos h =
      let ok = (run_next g some (ballot_start g) es (start_safe g)).safe in
      let s = only_settled g some es i (slice_get_within _ i x h) in
      let on = settled_on_list g some es s.0 s.1 s.3 in
      let there = sym (on.same i (omega (arith, s.2))) ∙ h in
      let own = ((ok.leads s.0).matches i x there).same i (omega arith) in
      led_written es i x pos (sym own ∙ there)

  -- any entry that a node holds
  pub held_written : (es : List BallotEvent) (n i : ℕ) (x : BallotEntry) → 0 < x.ballot → slice_get ((ballot_run g es (ballot_start g)).node n).log i ≡ Some x → IsBallotWritten g es (ballot_start g) i x
  held_written es n i x pos h =
      let ok = (run_next g some (ballot_start g) es (start_safe g)).safe in
      let there = ((ok.node n).log.matches i x h).same i (omega arith) in
      led_written es i x pos (sym there ∙ h)

  -- a leader accepts what it wrote
  pub own_accepted : (es : List BallotEvent) (i : ℕ) (x : BallotEntry) → 0 < x.ballot → slice_get ((ballot_run g es (ballot_start g)).lead x.ballot) i ≡ Some x → ballot_accepted (ballot_run g es (ballot_start g)).replies x.ballot i (g.owner x.ballot) ≡ true
  own_accepted es i x pos h =
      let o = led_written es i x pos h in
      let w = ballot_run g o.early (ballot_start g) in
      let ok = (run_next g some (ballot_start g) o.early (start_safe g)).safe in
      let next = happens_next g some w (WriteEntry o.node x.payload) ok in
      let late = run_next g some (ballot_step g w (WriteEntry o.node x.payload)) o.late next.safe in
      let mine = leader_parts g some (w.node o.node) o.node o.leads in
      let is : ballot_step g w (WriteEntry o.node x.payload) ≡ written w o.node x.payload = cond-true _ _ _ o.leads in
      let here : ballot_accepted (written w o.node x.payload).replies x.ballot i (g.owner x.ballot) ≡ true =
      or_left _ (ballot_accepted w.replies x.ballot i (g.owner x.ballot))
      (and_from (eqb (w.node o.node).ballot x.ballot) _ (eq-eqb (w.node o.node).ballot x.ballot o.ballot)
      (and_from (eqb o.node (g.owner x.ballot)) _ (eq-eqb o.node (g.owner x.ballot) (sym mine.2 ∙ ap g.owner o.ballot))
      (lt-ltb i (suc (length (w.node o.node).log)) (let n = o.next in omega arith))))
      in
      let after = late.later.accepted x.ballot i (g.owner x.ballot) (subst (λ v. ballot_accepted v.replies x.ballot i (g.owner x.ballot) ≡ true) (sym is) here) in
      subst (λ fs. ballot_accepted (ballot_run g fs (ballot_start g)).replies x.ballot i (g.owner x.ballot) ≡ true) (sym o.split)
      (subst (λ v. ballot_accepted v.replies x.ballot i (g.owner x.ballot) ≡ true) (sym (run_append g some o.early (WriteEntry o.node x.payload ∷ o.late) (ballot_start g))) after)
