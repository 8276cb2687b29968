-- A node grants a vote.
use Rattle.std.proofs.Common.{◌≡◌, ℕ, ◌≤◌, true, false, refl, sym, subst, arith, inl, inr, ⊎_elim}
use Rattle.raft_laws.specs.BallotLogs.{log_end, is_at_least}
use Rattle.raft_laws.specs.BallotWorld.{BallotGroup, BallotRequest, BallotWorld, granted}
use Rattle.raft_laws.proofs.BallotAgreement.{agree_refl, with_value_cases, with_value_same, with_value_other}
use Rattle.raft_laws.proofs.BallotSafe.{among_new, Among, NodeOk, GrantOk, Safe}
use Rattle.raft_laws.proofs.BallotStep.{Grows, Shows, keeps_grown, open_before, good_on, covered_on, sure_on}
use Rattle.raft_laws.proofs.BallotFacts.{kept_at, ballots_with, logs_with}
use Rattle.raft_laws.proofs.BallotQuiet.{stranger}
use Rattle.raft_laws.proofs.BallotCompare.{holds_too}

module _ (g : BallotGroup) (w : BallotWorld) (n : ℕ) (r : BallotRequest) (asked : Among r w.requests) (o : g.owner r.ballot ≡ n → ⊥) (le : (w.node n).ballot ≤ r.ballot) (ends : is_at_least r.last (log_end (w.node n).log) ≡ true) (ok : Safe g w) where
  grows : Grows g n w (granted w n r)
  grows =
      record {
        lead = λ c. agree_refl _ _ (omega arith);
        led = λ c l. l;
        others = λ c ne. (refl, refl);
        ballots = ballots_with w n _ le;
        stood = λ c l. refl;
        replies = λ v i m a. inl a;
        accepted = λ v i m a. a;
      }

  grant_ok : GrantOk g (granted w n r) (record { ballot = r.ballot; node = n })
  grant_ok =
      let request = ok.requests r asked in
      let ends' = subst (λ e. is_at_least e (log_end (w.node n).log) ≡ true) request.last ends in
      record {
        positive = request.positive;
        voted = with_value_cases w.node n _ n (λ x. r.ballot ≤ x.ballot) (λ e. omega arith) (λ ne. absurd (ne refl));
        known = omega (arith, request.known, grows.ballots (g.owner r.ballot));
        holds = λ v i l a open'.
            let before = open_before grows open' in
            ⊎_elim
            (λ h. inl (holds_too ok (w.stood r.ballot) (w.node n).log (ok.stood r.ballot) (ok.node n).log v i before h ends'))
            (λ c. inr (covered_on grows r.ballot le c))
            (kept_at ok v i n a before);
      }

  node_ok : NodeOk g (granted w n r) n (record (w.node n) { ballot = r.ballot; committed = false })
  node_ok = stranger ok refl o le (good_on grows r.ballot le (ok.node n).log) (sure_on grows r.ballot le (ok.node n).sure)

  pub shows : Shows g n w (granted w n r)
  shows =
      record {
        grows = grows;
        keeps = keeps_grown (logs_with w n _ (agree_refl _ _ (omega arith)));
        same = λ m ne. with_value_other w.node n _ m ne;
        node = subst (NodeOk g (granted w n r) n) (sym (with_value_same w.node n _)) node_ok;
        leads = λ c. inl refl;
        unled = ok.unled;
        stood = λ c. inl refl;
        requests = λ q a. inl a;
        grants = λ q a. among_new (GrantOk g (granted w n r)) q _ w.grants grant_ok a;
        appends = λ p a. inl a;
        replies = λ q a. inl a;
        above = λ u l. inl l;
      }
