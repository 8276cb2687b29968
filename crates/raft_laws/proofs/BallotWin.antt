-- A candidate that a quorum granted leads.
use Rattle.std.proofs.Common.{◌≡◌, ℕ, zero, suc, ◌+◌, ◌<◌, ◌≤◌, [], length, true, false, refl, sym, ap, ◌∙◌, subst, arith, inl, inr, ⊎_elim, leb-true}
use Rattle.std.specs.Prelude.{◌⊎◌, nat_le}
use Rattle.std.proofs.lemmas.Bool.{or_cases, cases_eq, cases_lt, false_from_ne_true}
use Rattle.raft_laws.specs.BallotLists.{AgreeBelow}
use Rattle.raft_laws.specs.BallotQuorum.{is_quorum}
use Rattle.raft_laws.specs.BallotWorld.{BallotGroup, BallotWorld, has_granted, ballot_accepted, won}
use Rattle.raft_laws.proofs.BallotAgreement.{agree_refl, agree_sym, agree_trans, agree_less, agree_none, with_value_cases, with_value_same, with_value_other}
use Rattle.raft_laws.proofs.BallotQuorums.{quorums_meet}
use Rattle.raft_laws.proofs.BallotSafe.{GoodLog, may_accept, IsOpen, Covered, NodeOk, Safe}
use Rattle.raft_laws.proofs.BallotStep.{Grows, Shows, keeps_grown, open_before, agree_on, good_on, sure_on}
use Rattle.raft_laws.proofs.BallotFacts.{highest, accepted_below, accepted_led, accepted_within, fixed_open, on_one, granted_among, ballots_with, logs_with}

module _ (g : BallotGroup) (some : 0 < length g.voters) (w : BallotWorld) (n : ℕ) (waits : (w.node n).committed ≡ false) (o : g.owner (w.node n).ballot ≡ n) (quorum : is_quorum g.voters (has_granted w.grants (w.node n).ballot) ≡ true) (ok : Safe g w) where
  positive : 0 < (w.node n).ballot
  positive =
      let b = (w.node n).ballot in
      let meet = quorums_meet g.voters (has_granted w.grants b) (has_granted w.grants b) some quorum quorum in
      (ok.grants _ (granted_among w.grants b meet.0 meet.1)).positive

  not_led : w.led (w.node n).ballot ≡ false
  not_led = false_from_ne_true _ (λ l. let t = ((ok.node n).own (w.node n).ballot l o).1 refl in let e : true ≡ false = sym t ∙ waits in cc)

  empty : w.lead (w.node n).ballot ≡ []
  empty = ok.unled (w.node n).ballot positive not_led

  grows : Grows g n w (won w n)
  grows =
      record {
        lead = λ c.
            with_value_cases w.lead (w.node n).ballot (w.node n).log c (λ xs. AgreeBelow (length (w.lead c)) (w.lead c) xs)
            (λ e. subst (λ xs. AgreeBelow (length xs) xs (w.node n).log) (sym (ap w.lead e ∙ empty)) (agree_none (w.node n).log))
            (λ ne. agree_refl _ _ (omega arith));
        led = λ c l. with_value_cases w.led (w.node n).ballot true c (λ t. t ≡ true) (λ e. refl) (λ ne. l);
        others = λ c ne.
            let other = λ (e : c ≡ (w.node n).ballot). ne (ap g.owner e ∙ o) in
            (with_value_other w.lead _ _ c other, with_value_other w.led _ _ c other);
        ballots = ballots_with w n _ (omega arith);
        stood = λ c le. refl;
        replies = λ v i m a. inl a;
        accepted = λ v i m a. a;
      }

  node_ok : NodeOk g (won w n) n (record (w.node n) { committed = true })
  node_ok =
      record {
        log = good_on grows (w.node n).ballot (omega arith) (ok.node n).log;
        leads = λ c pos p. (sym (with_value_same w.lead _ _), with_value_same w.led _ _);
        stands = λ c pos p. absurd (let e : true ≡ false = c in cc);
        own = λ c l p. (
          with_value_cases w.led (w.node n).ballot true c (λ t. t ≡ true → c ≤ (w.node n).ballot)
              (λ e t. omega arith)
              (λ ne t. ((ok.node n).own c t p).0)
              l,
          λ e. refl,
        );
        sure = sure_on grows (w.node n).ballot (omega arith) (ok.node n).sure;
      }

  record Later (v i : ℕ) : Type 0 where
    covered : Covered g w (w.node n).ballot i
    led : w.led v ≡ true
    within : i < length (w.lead v)

  -- by a node that granted and accepted, unless a later place is settled
  by_grant : (v i : ℕ) → v < (w.node n).ballot → IsOpen g w v i → (i < highest w.replies → Later v i → AgreeBelow (suc i) (w.node n).log (w.lead v)) → AgreeBelow (suc i) (w.node n).log (w.lead v)
  by_grant v i l open' otherwise =
      let b = (w.node n).ballot in
      let meet = quorums_meet g.voters (has_granted w.grants b) (may_accept w v i) some quorum open'.quorum in
      let q = ok.grants _ (granted_among w.grants b meet.0 meet.1) in
      ⊎_elim
      (λ a.
      ⊎_elim
      (λ h. subst (λ xs. AgreeBelow (suc i) xs (w.lead v)) (sym ((ok.node n).stands waits positive o)) h)
      (λ c. otherwise (accepted_below w.replies v i meet.0 a) (record { covered = c; led = accepted_led ok v i meet.0 a; within = accepted_within ok v i meet.0 a }))
      (q.holds v i l a open'))
      (λ le. absurd (omega (arith, q.voted, leb-true (w.node meet.0).ballot v le)))
      (or_cases (ballot_accepted w.replies v i meet.0) (nat_le (w.node meet.0).ballot v) meet.2)

  -- by the later place
  covered : (v i : ℕ) → IsOpen g w v i → Later v i → ((v' i' : ℕ) → i < i' → v' < (w.node n).ballot → IsOpen g w v' i' → AgreeBelow (suc i') (w.node n).log (w.lead v')) → AgreeBelow (suc i) (w.node n).log (w.lead v)
  covered v i open' c rest =
      let f = c.covered.fixed in
      let below : c.covered.ballot < (w.node n).ballot =
      ⊎_elim (λ l. l)
      (λ l. let e : c.covered.ballot ≡ (w.node n).ballot = omega (arith, c.covered.below) in absurd (let t : true ≡ false = sym f.led ∙ ap w.led e ∙ not_led in cc))
      (cases_lt c.covered.ballot (w.node n).ballot)
      in
      let there = rest c.covered.ballot c.covered.place c.covered.past below (fixed_open f) in
      let on = on_one ok v c.covered.ballot i c.covered.place c.led f.led c.within open' (fixed_open f) (omega (arith, c.covered.past)) in
      agree_trans (agree_less (suc i) (omega (arith, c.covered.past)) there) (agree_sym on)

  -- what may still be settled below stands in the new leader's log: by the place, from the last that was accepted down
  above_by : (fuel v i : ℕ) → highest w.replies ≤ i + fuel → v < (w.node n).ballot → IsOpen g w v i → AgreeBelow (suc i) (w.node n).log (w.lead v)
  above_by zero v i bound l open' = by_grant v i l open' (λ low c. absurd (omega arith))
  above_by (suc fuel) v i bound l open' = by_grant v i l open' (λ low c. covered v i open' c (λ v' i' past l' o'. above_by fuel v' i' (omega arith) l' o'))

  pub shows : Shows g n w (won w n)
  shows =
      record {
        grows = grows;
        keeps = keeps_grown (logs_with w n _ (agree_refl _ _ (omega arith)));
        same = λ m ne. with_value_other w.node n _ m ne;
        node = subst (NodeOk g (won w n) n) (sym (with_value_same w.node n _)) node_ok;
        leads = λ c.
            with_value_cases w.lead (w.node n).ballot (w.node n).log c (λ xs. (xs ≡ w.lead c) ⊎ GoodLog (won w n).lead (won w n).led xs c)
            (λ e. inr (good_on grows c (omega arith) (ok.node n).log))
            (λ ne. inl refl);
        unled = λ c pos f.
            ⊎_elim
            (λ e. absurd (let t = with_value_cases w.led (w.node n).ballot true c (λ t. t ≡ true) (λ e. refl) (λ ne. absurd (ne e)) in let u : true ≡ false = sym t ∙ f in cc))
            (λ ne. with_value_other w.lead _ _ c ne ∙ ok.unled c pos (sym (with_value_other w.led _ _ c ne) ∙ f))
            (cases_eq c (w.node n).ballot);
        stood = λ c. inl refl;
        requests = λ r a. inl a;
        grants = λ q a. inl a;
        appends = λ p a. inl a;
        replies = λ r a. inl a;
        above = λ u l.
            ⊎_elim
            (λ e. inr (λ v i lt open'.
            let here = above_by (highest w.replies) v i (omega arith) (omega arith) (open_before grows open') in
            let lead' = with_value_cases w.lead (w.node n).ballot (w.node n).log u (λ xs. xs ≡ (w.node n).log) (λ e. refl) (λ ne. absurd (ne e)) in
            subst (λ xs. AgreeBelow (suc i) xs ((won w n).lead v)) (sym lead') (agree_on grows v here)))
            (λ ne. inl (sym (with_value_other w.led _ _ u ne) ∙ l))
            (cases_eq u (w.node n).ballot);
      }
