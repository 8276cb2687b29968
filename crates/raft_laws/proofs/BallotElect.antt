-- A node stands under a new ballot of its own.
use Rattle.std.proofs.Common.{◌≡◌, ℕ, suc, ◌<◌, ◌≤◌, true, false, refl, sym, ap, ◌∙◌, subst, arith, inl, inr, ⊎_elim}
use Rattle.std.specs.Prelude.{◌⊎◌}
use Rattle.raft_laws.specs.BallotLists.{AgreeBelow}
use Rattle.raft_laws.specs.BallotLogs.{log_end}
use Rattle.raft_laws.specs.BallotWorld.{BallotGroup, BallotWorld, elected}
use Rattle.raft_laws.proofs.BallotAgreement.{agree_refl, with_value_cases, with_value_same, with_value_other}
use Rattle.raft_laws.proofs.BallotSafe.{among_new, GoodLog, NodeOk, RequestOk, GrantOk, Safe}
use Rattle.raft_laws.proofs.BallotStep.{Grows, Shows, keeps_grown, open_before, good_on, covered_on, sure_on}
use Rattle.raft_laws.proofs.BallotFacts.{kept_at, ballots_with, logs_with}

module _ (g : BallotGroup) (w : BallotWorld) (n b : ℕ) (o : g.owner b ≡ n) (new : (w.node n).ballot < b) (ok : Safe g w) where
  grows : Grows g n w (elected w n b)
  grows =
      record {
        lead = λ c. agree_refl _ _ (omega arith);
        led = λ c l. l;
        others = λ c ne. (refl, refl);
        ballots = ballots_with w n _ (omega arith);
        stood = λ c le.
            with_value_cases w.stood b (w.node n).log c (λ xs. xs ≡ w.stood c)
            (λ e. absurd (let l = subst (λ k. c ≤ (w.node k).ballot) (ap g.owner e ∙ o) le in omega arith))
            (λ ne. refl);
        replies = λ v i m a. inl a;
        accepted = λ v i m a. a;
      }

  own_ballot : b ≤ ((elected w n b).node (g.owner b)).ballot
  own_ballot = with_value_cases w.node n _ (g.owner b) (λ x. b ≤ x.ballot) (λ e. omega arith) (λ ne. absurd (ne o))

  request_ok : RequestOk g (elected w n b) (record { ballot = b; last = log_end (w.node n).log })
  request_ok = record { positive = omega arith; last = ap log_end (sym (with_value_same w.stood b (w.node n).log)); known = own_ballot }

  grant_ok : GrantOk g (elected w n b) (record { ballot = b; node = n })
  grant_ok =
      record {
        positive = omega arith;
        voted = subst (λ k. b ≤ ((elected w n b).node k).ballot) o own_ballot;
        known = own_ballot;
        holds = λ v i l a open'.
            ⊎_elim
            (λ h. inl (subst (λ xs. AgreeBelow (suc i) xs (w.lead v)) (sym (with_value_same w.stood b (w.node n).log)) h))
            (λ c. inr (covered_on grows b (omega arith) c))
            (kept_at ok v i n a (open_before grows open'));
      }

  node_ok : NodeOk g (elected w n b) n (record (w.node n) { ballot = b; committed = false })
  node_ok =
      record {
        log = good_on grows b (omega arith) (ok.node n).log;
        leads = λ c pos p. absurd (let e : false ≡ true = c in cc);
        stands = λ c pos p. sym (with_value_same w.stood b (w.node n).log);
        own = λ c l p. let le = ((ok.node n).own c l p).0 in (omega arith, λ e. absurd (omega arith));
        sure = sure_on grows b (omega arith) (ok.node n).sure;
      }

  pub shows : Shows g n w (elected w n b)
  shows =
      record {
        grows = grows;
        keeps = keeps_grown (logs_with w n _ (agree_refl _ _ (omega arith)));
        same = λ m ne. with_value_other w.node n _ m ne;
        node = subst (NodeOk g (elected w n b) n) (sym (with_value_same w.node n _)) node_ok;
        leads = λ c. inl refl;
        unled = ok.unled;
        stood = λ c.
            with_value_cases w.stood b (w.node n).log c (λ xs. (xs ≡ w.stood c) ⊎ GoodLog w.lead w.led xs c)
            (λ e. inr (good_on grows c (omega arith) (ok.node n).log))
            (λ ne. inl refl);
        requests = λ r a. among_new (RequestOk g (elected w n b)) r _ w.requests request_ok a;
        grants = λ q a. among_new (GrantOk g (elected w n b)) q _ w.grants grant_ok a;
        appends = λ p a. inl a;
        replies = λ r a. inl a;
        above = λ u l. inl l;
      }
