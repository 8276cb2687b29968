-- Events that change one node and send nothing, and a node whose ballot is another's.
use Rattle.std.proofs.Common.{◌≡◌, ℕ, ◌≤◌, List, max, refl, sym, ap, ◌∙◌, subst, arith, inl, inr, ⊎_elim}
use Rattle.std.proofs.lemmas.Bool.{cases_lt}
use Rattle.raft_laws.specs.BallotLists.{AgreeBelow}
use Rattle.raft_laws.specs.BallotLogs.{BallotEntry}
use Rattle.raft_laws.specs.BallotWorld.{BallotGroup, BallotNode, BallotWorld, moved}
use Rattle.raft_laws.proofs.BallotAgreement.{agree_refl, agree_trans, agree_less, with_value_same, with_value_other}
use Rattle.raft_laws.proofs.BallotSafe.{GoodLog, Sure, NodeOk, Safe}
use Rattle.raft_laws.proofs.BallotStep.{Grows, Shows, Keeps}
use Rattle.raft_laws.proofs.BallotFacts.{ballots_with}

-- a node under a ballot of another owner
pub stranger : {g : BallotGroup} {w w' : BallotWorld} {n : ℕ} {s : BallotNode} → Safe g w → w'.led ≡ w.led → (g.owner s.ballot ≡ n → ⊥) → (w.node n).ballot ≤ s.ballot → GoodLog w'.lead w'.led s.log s.ballot → Sure g w' s.ballot s.commit s.log → NodeOk g w' n s
stranger {g} {w} {w'} {n} {s} ok same o le good sure =
    record {
      log = good;
      leads = λ c pos p. absurd (o p);
      stands = λ c pos p. absurd (o p);
      own = λ c l p. let before = ((ok.node n).own c (ap (λ f. f c) (sym same) ∙ l) p).0 in (omega arith, λ e. absurd (o (sym (ap g.owner e) ∙ p)));
      sure = sure;
    }

pub sure_less : {g : BallotGroup} {w : BallotWorld} {top count : ℕ} {xs : List BallotEntry} (count' : ℕ) → count' ≤ count → Sure g w top count xs → Sure g w top count' xs
sure_less count' le h =
    ⊎_elim
    (λ none. inl (omega arith))
    (λ c. inr (record { ballot = c.ballot; place = c.place; below = c.below; upto = omega (arith, c.upto); fixed = c.fixed; agrees = agree_less count' le c.agrees }))
    h

pub sure_max : {g : BallotGroup} {w : BallotWorld} {top : ℕ} {xs : List BallotEntry} (a b : ℕ) → Sure g w top a xs → Sure g w top b xs → Sure g w top (max a b) xs
sure_max {g} {w} {top} {xs} a b p q =
    ⊎_elim
    (λ l. let e : b ≡ max a b = omega arith in subst (λ n. Sure g w top n xs) e q)
    (λ l. let e : a ≡ max a b = omega arith in subst (λ n. Sure g w top n xs) e p)
    (cases_lt a b)

-- another list with the same front
pub sure_other : {g : BallotGroup} {w : BallotWorld} {top count : ℕ} {xs ys : List BallotEntry} → AgreeBelow count ys xs → Sure g w top count xs → Sure g w top count ys
sure_other a h =
    ⊎_elim
    (λ none. inl none)
    (λ c. inr (record { ballot = c.ballot; place = c.place; below = c.below; upto = c.upto; fixed = c.fixed; agrees = agree_trans a c.agrees }))
    h

module _ (g : BallotGroup) (w : BallotWorld) (n : ℕ) (s : BallotNode) (le : (w.node n).ballot ≤ s.ballot) (ok : Safe g w) where
  pub grows : Grows g n w (moved w n s)
  grows =
      record {
        lead = λ c. agree_refl _ _ (omega arith);
        led = λ c l. l;
        others = λ c ne. (refl, refl);
        ballots = ballots_with w n s le;
        stood = λ c l. refl;
        replies = λ v i m a. inl a;
        accepted = λ v i m a. a;
      }

  pub shows : Keeps g w (moved w n s) → NodeOk g (moved w n s) n s → Shows g n w (moved w n s)
  shows keeps node =
      record {
        grows = grows;
        keeps = keeps;
        same = λ m ne. with_value_other w.node n s m ne;
        node = subst (NodeOk g (moved w n s) n) (sym (with_value_same w.node n s)) node;
        leads = λ c. inl refl;
        unled = ok.unled;
        stood = λ c. inl refl;
        requests = λ r a. inl a;
        grants = λ q a. inl a;
        appends = λ p a. inl a;
        replies = λ r a. inl a;
        above = λ u l. inl l;
      }
