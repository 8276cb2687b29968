-- What is new in what a ballot's leader has, once the ballot is won, is of that ballot: of the ballot machine, event by event.
use Rattle.std.specs.Prelude.{◌≡◌, ℕ, ◌<◌, ◌≤◌, ◌==◌, ◌&&◌, not, cond, nat_le, nat_lt, Bool, true, false, List, [], ◌∷◌, ◌++◌, length, slice_get, Option, Some, None, refl}
use Rattle.std.proofs.Common.{sym, ap, ◌∙◌, arith, ⊎_elim, eqb-true, length-append}
use Rattle.std.proofs.lemmas.Bool.{and_parts, cases_lt, cond_both, not-true}
use Rattle.std.proofs.lemmas.Option.{slice_get_within}
use Rattle.raft_laws.specs.BallotLogs.{BallotEntry, Payload, holds_before}
use Rattle.raft_laws.specs.BallotQuorum.{is_quorum}
use Rattle.raft_laws.specs.BallotWorld.{BallotAppend, BallotEvent, BallotGroup, BallotRequest, BallotWorld, CommitPlace, CutForConflict, CutForEntries, CutForSnapshot, ForgetCommitted, FoundGroup, RaiseVote, SendEntries, StandForElection, TakeEntries, TakeRequest, WinElection, WriteEntry, append_comes, ballot_run, ballot_step, can_grant, can_raise, committed_to, conflict_comes, conflicts, cut, cut_before, cut_comes, drop_comes, dropped, drops, elected, founded, granted, has_granted, is_ballot_candidate, is_ballot_leader, is_ballot_settled, is_empty, raised, request_comes, sent, taken, won, written}
use Rattle.raft_laws.proofs.BallotAgreement.{same_some, slice_get_end, with_value_cases}
use Rattle.raft_laws.proofs.BallotRuns.{happens_next, leader_parts, run_next}
use Rattle.raft_laws.proofs.BallotSafe.{Safe}

-- what the leader has past what it had is of its ballot, which stays won
pub record GrowsByOwn (c : ℕ) (w w' : BallotWorld) : Type 0 where
  pub own : (i : ℕ) (x : BallotEntry) → length (w.lead c) ≤ i → slice_get (w'.lead c) i ≡ Some x → x.ballot ≡ c
  pub led : w'.led c ≡ true

module _ (g : BallotGroup) (some : 0 < length g.voters) (c : ℕ) where
  module _ (w : BallotWorld) (safe : Safe g w) (led : w.led c ≡ true) where
    same_lead : (w' : BallotWorld) → w'.lead c ≡ w.lead c → w'.led c ≡ w.led c → GrowsByOwn c w w'
    same_lead w' lead won_still =
        record {
          own = λ i x le at. let within = slice_get_within (w'.lead c) i x at in let size = ap length lead in absurd (omega arith);
          led = won_still ∙ led;
        }

    stays : GrowsByOwn c w w
    stays = same_lead w refl refl

    -- an event that may come, and leaves what leaders have
    may_stay : (b : Bool) (w' : BallotWorld) → w'.lead c ≡ w.lead c → w'.led c ≡ w.led c → GrowsByOwn c w (cond b w' w)
    may_stay b w' lead won_still = cond_both b w' w (λ (q : BallotWorld). GrowsByOwn c w q) (λ e. same_lead w' lead won_still) (λ e. stays)

    request_own : (o : Option BallotRequest) (n : ℕ) → GrowsByOwn c w (request_comes g w o n)
    request_own None n = stays
    request_own (Some r) n = may_stay (can_grant g n (w.node n) r) (granted w n r) refl refl

    append_own : (o : Option BallotAppend) (n : ℕ) → GrowsByOwn c w (append_comes g w o n)
    append_own None n = stays
    append_own (Some a) n =
        let takes = holds_before (w.node n).log a.start a.previous in
        cond_both (can_raise g n (w.node n) a.ballot) (cond takes (taken w n a) (raised w n a.ballot true)) w (λ (q : BallotWorld). GrowsByOwn c w q)
        (λ e. cond_both takes (taken w n a) (raised w n a.ballot true) (λ (q : BallotWorld). GrowsByOwn c w q) (λ t. same_lead (taken w n a) refl refl) (λ t. same_lead (raised w n a.ballot true) refl refl))
        (λ e. stays)

    cut_own : (o : Option BallotAppend) (n : ℕ) → GrowsByOwn c w (cut_comes g w o n)
    cut_own None n = stays
    cut_own (Some a) n = may_stay (can_raise g n (w.node n) a.ballot && holds_before (w.node n).log a.start a.previous) (cut w n a) refl refl

    drop_own : (o : Option BallotAppend) (n : ℕ) → GrowsByOwn c w (drop_comes g w o n)
    drop_own None n = stays
    drop_own (Some a) n = may_stay (can_raise g n (w.node n) a.ballot && drops (w.node n).log a) (dropped w n a) refl refl

    conflict_own : (o : Option BallotAppend) (n : ℕ) → GrowsByOwn c w (conflict_comes g w o n)
    conflict_own None n = stays
    conflict_own (Some a) n = may_stay (can_raise g n (w.node n) a.ballot && conflicts (w.node n) a) (cut_before w n a) refl refl

    -- a ballot that is won isn't a candidate's
    win_own : (n : ℕ) → GrowsByOwn c w (ballot_step g w (WinElection n))
    win_own n =
        let enough = is_quorum g.voters (has_granted w.grants (w.node n).ballot) in
        let ballot = (w.node n).ballot in
        cond_both (is_ballot_candidate g n (w.node n) && enough) (won w n) w (λ (q : BallotWorld). GrowsByOwn c w q)
        (λ t.
        let p = and_parts (is_ballot_candidate g n (w.node n)) enough t in
        let q = and_parts (not (w.node n).committed) (g.owner ballot == n) p.0 in
        let other : c ≡ ballot → ⊥ =
        λ same.
        let flag = ((safe.node n).own c led (ap g.owner same ∙ eqb-true (g.owner ballot) n q.1)).1 same in
        let no : true ≡ false = sym flag ∙ not-true (w.node n).committed q.0 in
        cc
        in
        same_lead (won w n)
        (with_value_cases w.lead ballot (w.node n).log c (λ (xs : List BallotEntry). xs ≡ w.lead c) (λ same. absurd (other same)) (λ differs. refl))
        (with_value_cases w.led ballot true c (λ (b : Bool). b ≡ w.led c) (λ same. absurd (other same)) (λ differs. refl)))
        (λ t. stays)

    write_own : (n : ℕ) (payload : Payload) → GrowsByOwn c w (ballot_step g w (WriteEntry n payload))
    write_own n payload =
        let s = w.node n in
        let x : BallotEntry = record { ballot = s.ballot; payload = payload } in
        cond_both (is_ballot_leader g n s) (written w n payload) w (λ (q : BallotWorld). GrowsByOwn c w q)
        (λ t.
        let mine = leader_parts g some s n t in
        let leads = (safe.node n).leads mine.0 mine.1 mine.2 in
        record {
          own =
              with_value_cases w.lead s.ballot (s.log ++ x ∷ []) c (λ (xs : List BallotEntry). (i : ℕ) (y : BallotEntry) → length (w.lead c) ≤ i → slice_get xs i ≡ Some y → y.ballot ≡ c)
              (λ same i y le at.
              let size = ap length leads.0 in
              let lead = ap (λ (b : ℕ). length (w.lead b)) same in
              let within = slice_get_within (s.log ++ x ∷ []) i y at in
              let more = length-append s.log (x ∷ []) in
              let here : i ≡ length s.log = omega arith in
              let is : x ≡ y = same_some (sym (slice_get_end s.log x) ∙ ap (slice_get (s.log ++ x ∷ [])) (sym here) ∙ at) in
              ap (λ (z : BallotEntry). z.ballot) (sym is) ∙ sym same)
              (λ differs i y le at. let within = slice_get_within (w.lead c) i y at in absurd (omega arith));
          led = led;
        })
        (λ t. stays)

    event_own : (e : BallotEvent) → GrowsByOwn c w (ballot_step g w e)
    event_own (FoundGroup n) = may_stay (((w.node n).ballot == 0) && is_empty (w.node n).log) (founded g w n) refl refl
    event_own (StandForElection n b) = may_stay ((g.owner b == n) && nat_lt (w.node n).ballot b) (elected w n b) refl refl
    event_own (TakeRequest k n) = request_own (slice_get w.requests k) n
    event_own (RaiseVote n b committed) = may_stay (can_raise g n (w.node n) b) (raised w n b committed) refl refl
    event_own (WinElection n) = win_own n
    event_own (WriteEntry n payload) = write_own n payload
    event_own (CommitPlace n place) =
        may_stay (is_ballot_leader g n (w.node n) && is_ballot_settled g w (w.node n).ballot place) (committed_to w n place) refl refl
    event_own (SendEntries n start count commit) =
        may_stay (is_ballot_leader g n (w.node n) && (nat_le start (length (w.node n).log) && nat_le commit (w.node n).commit)) (sent w n start count commit) refl refl
    event_own (TakeEntries k n) = append_own (slice_get w.appends k) n
    event_own (CutForEntries k n) = cut_own (slice_get w.appends k) n
    event_own (CutForSnapshot k n) = drop_own (slice_get w.appends k) n
    event_own (CutForConflict k n) = conflict_own (slice_get w.appends k) n
    event_own (ForgetCommitted n commit) = same_lead (ballot_step g w (ForgetCommitted n commit)) refl refl

  pub run_own : (es : List BallotEvent) (w : BallotWorld) → Safe g w → w.led c ≡ true → GrowsByOwn c w (ballot_run g es w)
  run_own [] w safe led = stays w safe led
  run_own (e ∷ es) w safe led =
      let one = event_own w safe led e in
      let after = ballot_step g w e in
      let next = happens_next g some w e safe in
      let rest = run_own es after next.safe one.led in
      let later = (run_next g some after es next.safe).later in
      record {
        own = λ i x le at.
            ⊎_elim
            (λ l. one.own i x le ((later.lead c).same i l ∙ at))
            (λ l. rest.own i x l at)
            (cases_lt i (length (after.lead c)));
        led = rest.led;
      }
