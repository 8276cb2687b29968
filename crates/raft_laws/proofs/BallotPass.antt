-- A leader sends entries.
use Rattle.std.proofs.Common.{◌≡◌, ℕ, ◌<◌, ◌≤◌, length, take, drop, true, refl, ap, subst, arith, inl}
use Rattle.raft_laws.specs.BallotLists.{AgreeBelow}
use Rattle.raft_laws.specs.BallotLogs.{ballot_before}
use Rattle.raft_laws.specs.BallotWorld.{BallotGroup, BallotWorld, sent}
use Rattle.raft_laws.proofs.BallotAgreement.{agree_refl, agree_take}
use Rattle.raft_laws.proofs.BallotSafe.{among_new, Sure, AppendOk, Safe}
use Rattle.raft_laws.proofs.BallotQuiet.{sure_less}
use Rattle.raft_laws.proofs.BallotStep.{Grows, Shows, keeps_grown, sure_on}

module _ (g : BallotGroup) (w : BallotWorld) (n start count commit : ℕ) (leads : (w.node n).committed ≡ true) (pos : 0 < (w.node n).ballot) (o : g.owner (w.node n).ballot ≡ n) (within : start ≤ length (w.node n).log) (known : commit ≤ (w.node n).commit) (ok : Safe g w) where
  lead_is : (w.node n).log ≡ w.lead (w.node n).ballot
  lead_is = ((ok.node n).leads leads pos o).0

  grows : Grows g n w (sent w n start count commit)
  grows =
      record {
        lead = λ c. agree_refl _ _ (omega arith);
        led = λ c l. l;
        others = λ c ne. (refl, refl);
        ballots = λ m. omega arith;
        stood = λ c l. refl;
        replies = λ v i m a. inl a;
        accepted = λ v i m a. a;
      }

  append_ok : AppendOk g (sent w n start count commit) (record { ballot = (w.node n).ballot; start = start; previous = ballot_before (w.node n).log start; entries = take count (drop start (w.node n).log); commit = commit })
  append_ok =
      record {
        led = ((ok.node n).leads leads pos o).1;
        within = subst (λ xs. start ≤ length xs) lead_is within;
        previous = ap (λ xs. ballot_before xs start) lead_is;
        entries =
            subst (λ xs. AgreeBelow (length (take count (drop start (w.node n).log))) (take count (drop start (w.node n).log)) (drop start xs)) lead_is
            (agree_take count (drop start (w.node n).log));
        sure =
            subst (Sure g (sent w n start count commit) (w.node n).ballot commit) lead_is
            (sure_less commit known (sure_on grows (w.node n).ballot (omega arith) (ok.node n).sure));
      }

  pub shows : Shows g n w (sent w n start count commit)
  shows =
      record {
        grows = grows;
        keeps = keeps_grown (λ m. agree_refl _ _ (omega arith));
        same = λ m ne. refl;
        node = record { log = (ok.node n).log; leads = (ok.node n).leads; stands = (ok.node n).stands; own = (ok.node n).own; sure = sure_on grows (w.node n).ballot (omega arith) (ok.node n).sure };
        leads = λ c. inl refl;
        unled = ok.unled;
        stood = λ c. inl refl;
        requests = λ r a. inl a;
        grants = λ q a. inl a;
        appends = λ p a. among_new (AppendOk g (sent w n start count commit)) p _ w.appends append_ok a;
        replies = λ r a. inl a;
        above = λ u l. inl l;
      }
