-- A node follows a leader, and takes its entries.
use Rattle.std.proofs.Common.{◌≡◌, ℕ, suc, ◌+◌, ◌<◌, ◌≤◌, List, length, min, max, Some, Bool, true, refl, sym, ◌∙◌, subst, arith, inl, inr, ⊎_elim}
use Rattle.std.specs.Prelude.{slice_get, ◌⊎◌}
use Rattle.std.proofs.lemmas.Bool.{cases_eq, or_right}
use Rattle.std.proofs.lemmas.Option.{slice_get_within}
use Rattle.raft_laws.specs.BallotLists.{AgreeBelow}
use Rattle.raft_laws.specs.BallotLogs.{BallotEntry, holds_before, put_from}
use Rattle.raft_laws.specs.BallotWorld.{BallotGroup, BallotAppend, BallotWorld, taken}
use Rattle.raft_laws.proofs.BallotAgreement.{agree_refl, agree_sym, agree_trans, agree_less, with_value_cases, with_value_same, with_value_other}
use Rattle.raft_laws.proofs.BallotMerging.{Matching, Merged, merged_from, held_before}
use Rattle.raft_laws.proofs.BallotSafe.{among_new, Among, GoodLog, IsOpen, Covered, Sure, NodeOk, ReplyOk, Safe}
use Rattle.raft_laws.proofs.BallotStep.{Grows, Shows, Keeps, good_on, fixed_on, sure_on}
use Rattle.raft_laws.proofs.BallotFacts.{matching, fixed_open, ballots_with, replies_with}
use Rattle.raft_laws.proofs.BallotQuiet.{stranger, sure_less, sure_max, sure_other}

-- the front of a leader's log
pub good_front : {lead : ℕ → List BallotEntry} {led : ℕ → Bool} {top : ℕ} (xs ys : List BallotEntry) → AgreeBelow (length xs) xs ys → GoodLog lead led ys top → GoodLog lead led xs top
good_front xs ys a good =
    record {
      matches = λ j x e. agree_trans (agree_less (suc j) (slice_get_within xs j x e) a) (good.matches j x (there j x e));
      known = λ j x e pos. good.known j x (there j x e) pos;
      rising = λ j k x y l e f. good.rising j k x y l (there j x e) (there k y f);
      capped = λ j x e. good.capped j x (there j x e);
    }
  where
    there : (j : ℕ) (x : BallotEntry) → slice_get xs j ≡ Some x → slice_get ys j ≡ Some x
    there j x e = sym (a.same j (slice_get_within xs j x e)) ∙ e

module _ (g : BallotGroup) (w : BallotWorld) (n : ℕ) (a : BallotAppend) (was : Among a w.appends) (o : g.owner a.ballot ≡ n → ⊥) (le : (w.node n).ballot ≤ a.ballot) (ok : Safe g w) where
  pub matches : Matching (w.node n).log (w.lead a.ballot)
  matches = matching (ok.node n).log (ok.leads a.ballot)

  pub holds_start : holds_before (w.node n).log a.start a.previous ≡ true → AgreeBelow a.start (w.node n).log (w.lead a.ballot)
  holds_start holds =
      let p = ok.appends a was in
      held_before a.start (w.node n).log (w.lead a.ballot) a.previous matches p.within p.previous holds

  -- the leader holds what may still be settled up to its ballot
  pub leader_holds : (v i : ℕ) → v ≤ a.ballot → IsOpen g w v i → suc i ≤ length (w.lead v) → AgreeBelow (suc i) (w.lead a.ballot) (w.lead v)
  leader_holds v i l open' within =
      ⊎_elim
      (λ e. subst (λ b. AgreeBelow (suc i) (w.lead b) (w.lead v)) e (agree_refl (suc i) (w.lead v) within))
      (λ ne. ok.above v a.ballot i (omega arith) (ok.appends a was).led open')
      (cases_eq v a.ballot)

  module _ (holds : holds_before (w.node n).log a.start a.previous ≡ true) where
    merged : Merged (a.start + length a.entries) (w.node n).log (w.lead a.ballot) (put_from (w.node n).log a.start a.entries)
    merged = merged_from a.start (w.node n).log (w.lead a.ballot) a.entries matches (holds_start holds) (ok.appends a was).entries

    grows : Grows g n w (taken w n a)
    grows =
        record {
          lead = λ c. agree_refl _ _ (omega arith);
          led = λ c l. l;
          others = λ c ne. (refl, refl);
          ballots = ballots_with w n _ le;
          stood = λ c l. refl;
          replies = replies_with w _ le;
          accepted = λ v i m t. or_right _ _ t;
        }

    good : GoodLog w.lead w.led (put_from (w.node n).log a.start a.entries) a.ballot
    good =
        ⊎_elim
        (λ e. subst (λ xs. GoodLog w.lead w.led xs a.ballot) (sym e) (good_on grows a.ballot le (ok.node n).log))
        (λ d. good_front _ (w.lead a.ballot) (subst (λ k. AgreeBelow k (put_from (w.node n).log a.start a.entries) (w.lead a.ballot)) (sym d.0) merged.holds) (ok.leads a.ballot))
        merged.kept

    -- what is held of a lesser leader stays
    log_kept : (v i count : ℕ) → count ≤ suc i → i < length (w.lead v) → v ≤ (w.node n).ballot → IsOpen g w v i → AgreeBelow count (w.node n).log (w.lead v) → AgreeBelow count (put_from (w.node n).log a.start a.entries) (w.lead v)
    log_kept v i count upto within l open' h =
        ⊎_elim
        (λ e. subst (λ xs. AgreeBelow count xs (w.lead v)) (sym e) h)
        (λ d.
        let above = agree_less count upto (leader_holds v i (omega arith) open' within) in
        let short = d.1 count (agree_trans h (agree_sym above)) in
        agree_trans (agree_less count (omega arith) merged.holds) above)
        merged.kept

    keeps : Keeps g w (taken w n a)
    keeps =
        record {
          keeps = λ m v i l led open' h.
              with_value_cases w.node n _ m (λ x. AgreeBelow (suc i) x.log (w.lead v) ⊎ Covered g w x.ballot i)
              (λ e. inl (log_kept v i (suc i) (omega arith) h.right (subst (λ k. v ≤ (w.node k).ballot) e l) open' (subst (λ k. AgreeBelow (suc i) (w.node k).log (w.lead v)) e h)))
              (λ ne. inl h);
        }

    sure_before : Sure g (taken w n a) a.ballot (w.node n).commit (put_from (w.node n).log a.start a.entries)
    sure_before =
        ⊎_elim
        (λ none. inl none)
        (λ c. inr (record {
          ballot = c.ballot;
          place = c.place;
          below = omega (arith, c.below);
          upto = c.upto;
          fixed = fixed_on grows c.fixed;
          agrees = log_kept c.ballot c.place (w.node n).commit c.upto c.fixed.within c.below (fixed_open c.fixed) c.agrees;
        }))
        (ok.node n).sure

    sure_now : Sure g (taken w n a) a.ballot (min a.commit (a.start + length a.entries)) (put_from (w.node n).log a.start a.entries)
    sure_now =
        sure_other (agree_less _ (omega arith) merged.holds)
        (sure_less (min a.commit (a.start + length a.entries)) (omega arith) (sure_on grows a.ballot (omega arith) (ok.appends a was).sure))

    node_ok : NodeOk g (taken w n a) n (record { ballot = a.ballot; committed = true; log = put_from (w.node n).log a.start a.entries; commit = max (w.node n).commit (min a.commit (a.start + length a.entries)) })
    node_ok = stranger ok refl o le good (sure_max _ _ sure_before sure_now)

    reply_ok : ReplyOk g (taken w n a) (record { ballot = a.ballot; node = n; upto = a.start + length a.entries })
    reply_ok =
        record {
          led = (ok.appends a was).led;
          voted = with_value_cases w.node n _ n (λ x. a.ballot ≤ x.ballot) (λ e. omega arith) (λ ne. absurd (ne refl));
          within = merged.holds.right;
          kept = λ i l open'.
              inl (with_value_cases w.node n _ n (λ x. AgreeBelow (suc i) x.log (w.lead a.ballot))
              (λ e. agree_less (suc i) l merged.holds)
              (λ ne. absurd (ne refl)));
        }

    pub shows : Shows g n w (taken w n a)
    shows =
        record {
          grows = grows;
          keeps = keeps;
          same = λ m ne. with_value_other w.node n _ m ne;
          node = subst (NodeOk g (taken w n a) n) (sym (with_value_same w.node n _)) node_ok;
          leads = λ c. inl refl;
          unled = ok.unled;
          stood = λ c. inl refl;
          requests = λ r t. inl t;
          grants = λ q t. inl t;
          appends = λ p t. inl t;
          replies = λ r t. among_new (ReplyOk g (taken w n a)) r _ w.replies reply_ok t;
          above = λ u l. inl l;
        }
