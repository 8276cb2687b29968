-- A node cuts its log, and stops there.
use Rattle.std.proofs.Common.{◌≡◌, ℕ, suc, ◌-◌, ◌<◌, ◌≤◌, length, take, drop, true, false, refl, sym, ◌∙◌, subst, arith, inl, inr, ⊎_elim}
use Rattle.std.specs.Prelude.{◌⊎◌}
use Rattle.std.proofs.lemmas.Bool.{cases_lt}
use Rattle.std.proofs.lemmas.List.{length-take-le}
use Rattle.raft_laws.specs.BallotLists.{AgreeBelow}
use Rattle.raft_laws.specs.BallotLogs.{holds_before, ballot_before, cut_from}
use Rattle.raft_laws.specs.BallotWorld.{BallotGroup, BallotAppend, BallotWorld, cut, dropped, cut_before}
use Rattle.raft_laws.proofs.BallotAgreement.{agree_sym, agree_trans, agree_less, agree_take, with_value_cases}
use Rattle.raft_laws.proofs.BallotMerging.{CutAt, cut_from_at, holds_front}
use Rattle.raft_laws.proofs.BallotSafe.{Among, IsOpen, Covered, SureBy, Sure, Safe}
use Rattle.raft_laws.proofs.BallotStep.{Grows, Shows, Keeps, good_on, fixed_on}
use Rattle.raft_laws.proofs.BallotFacts.{fixed_open, on_one}
use Rattle.raft_laws.proofs.BallotQuiet
use Rattle.raft_laws.proofs.BallotTake.{good_front, holds_start, leader_holds}

module _ (g : BallotGroup) (w : BallotWorld) (n : ℕ) (a : BallotAppend) (was : Among a w.appends) (o : g.owner a.ballot ≡ n → ⊥) (le : (w.node n).ballot ≤ a.ballot) (ok : Safe g w) where
  -- the cut of an append
  module _ (holds : holds_before (w.node n).log a.start a.previous ≡ true) where
    at : CutAt (w.node n).log (w.lead a.ballot) (cut_from (w.node n).log a.start a.entries)
    at = cut_from_at a.start (w.node n).log (w.lead a.ballot) a.entries (holds_start g w n a was o le ok holds) (ok.appends a was).entries

    log_kept : (v i count : ℕ) → count ≤ suc i → i < length (w.lead v) → v ≤ (w.node n).ballot → IsOpen g w v i → AgreeBelow count (w.node n).log (w.lead v) → AgreeBelow count (cut_from (w.node n).log a.start a.entries) (w.lead v)
    log_kept v i count upto within l open' h =
        ⊎_elim
        (λ e. subst (λ xs. AgreeBelow count xs (w.lead v)) (sym e) h)
        (λ d.
        let above = agree_less count upto (leader_holds g w n a was o le ok v i (omega arith) open' within) in
        let short = d count (agree_trans h (agree_sym above)) in
        agree_trans (agree_less count short at.front) h)
        at.kept

    grows : Grows g n w (cut w n a)
    grows = BallotQuiet.grows g w n _ le ok

    keeps : Keeps g w (cut w n a)
    keeps =
        record {
          keeps = λ m v i l led open' h.
              with_value_cases w.node n _ m (λ x. AgreeBelow (suc i) x.log (w.lead v) ⊎ Covered g w x.ballot i)
              (λ e. inl (log_kept v i (suc i) (omega arith) h.right (subst (λ k. v ≤ (w.node k).ballot) e l) open' (subst (λ k. AgreeBelow (suc i) (w.node k).log (w.lead v)) e h)))
              (λ ne. inl h);
        }

    sure : Sure g (cut w n a) a.ballot (w.node n).commit (cut_from (w.node n).log a.start a.entries)
    sure =
        ⊎_elim
        (λ none. inl none)
        (λ c. inr (record {
          ballot = c.ballot;
          place = c.place;
          below = omega (arith, c.below);
          upto = c.upto;
          fixed = fixed_on grows c.fixed;
          agrees = log_kept c.ballot c.place (w.node n).commit c.upto c.fixed.within c.below (fixed_open c.fixed) c.agrees;
        }))
        (ok.node n).sure

    pub shows_cut : Shows g n w (cut w n a)
    shows_cut =
        BallotQuiet.shows g w n _ le ok keeps
        (BallotQuiet.stranger ok refl o le (good_front _ (w.node n).log at.front (good_on grows a.ballot le (ok.node n).log)) sure)

  -- a snapshot with another last entry
  module _ (from : a.start ≡ 0) (all : length a.entries ≤ a.commit) (other : holds_before (w.node n).log (length a.entries) (ballot_before a.entries (length a.entries)) ≡ false) where
    front : AgreeBelow (length (take (w.node n).commit (w.node n).log)) (take (w.node n).commit (w.node n).log) (w.node n).log
    front = agree_take (w.node n).commit (w.node n).log

    grows' : Grows g n w (dropped w n a)
    grows' = BallotQuiet.grows g w n _ le ok

    -- the log doesn't hold what the snapshot settles
    differs : AgreeBelow (length a.entries) (w.node n).log (w.lead a.ballot) → ⊥
    differs h =
        let es = subst (λ k. AgreeBelow (length a.entries) a.entries (drop k (w.lead a.ballot))) from (ok.appends a was).entries in
        let t = holds_front (length a.entries) (w.node n).log a.entries (agree_trans h (agree_sym es)) in
        let e : true ≡ false = sym t ∙ other in
        cc

    -- so what it held and what may be settled lies before a place that is settled
    past : (v i : ℕ) → w.led v ≡ true → IsOpen g w v i → AgreeBelow (suc i) (w.node n).log (w.lead v) → (c : SureBy g w a.ballot a.commit (w.lead a.ballot)) → i < c.place
    past v i led open' h c =
        ⊎_elim
        (λ l. l)
        (λ l.
        let on = on_one ok c.ballot v c.place i c.fixed.led led c.fixed.within (fixed_open c.fixed) open' l in
        let here = agree_trans (agree_less (suc c.place) (omega arith) h) (agree_sym on) in
        let both = agree_trans (agree_less (length a.entries) (omega (arith, c.upto)) here) (agree_sym (agree_less (length a.entries) all c.agrees)) in
        absurd (differs both))
        (cases_lt i c.place)

    covers : (v i : ℕ) → w.led v ≡ true → IsOpen g w v i → AgreeBelow (suc i) (w.node n).log (w.lead v) → Covered g w a.ballot i
    covers v i led open' h =
        ⊎_elim
        (λ none. absurd (differs (subst (λ k. AgreeBelow k (w.node n).log (w.lead a.ballot)) (let e : 0 ≡ length a.entries = omega arith in e) (record { left = omega arith; right = omega arith; same = λ j k. absurd (omega arith) }))))
        (λ c. record { ballot = c.ballot; place = c.place; below = c.below; past = past v i led open' h c; fixed = c.fixed })
        (ok.appends a was).sure

    keeps' : Keeps g w (dropped w n a)
    keeps' =
        record {
          keeps = λ m v i l led open' h.
              with_value_cases w.node n _ m (λ x. AgreeBelow (suc i) x.log (w.lead v) ⊎ Covered g w x.ballot i)
              (λ e. inr (covers v i led open' (subst (λ k. AgreeBelow (suc i) (w.node k).log (w.lead v)) e h)))
              (λ ne. inl h);
        }

    sure' : Sure g (dropped w n a) a.ballot (w.node n).commit (take (w.node n).commit (w.node n).log)
    sure' =
        ⊎_elim
        (λ none. inl none)
        (λ c.
        let size = length-take-le (w.node n).commit (w.node n).log c.agrees.left in
        let short = subst (λ k. AgreeBelow k (take (w.node n).commit (w.node n).log) (w.node n).log) size front in
        inr (record {
          ballot = c.ballot;
          place = c.place;
          below = omega (arith, c.below);
          upto = c.upto;
          fixed = fixed_on grows' c.fixed;
          agrees = agree_trans short c.agrees;
        }))
        (ok.node n).sure

    pub shows_dropped : Shows g n w (dropped w n a)
    shows_dropped =
        BallotQuiet.shows g w n _ le ok keeps'
        (BallotQuiet.stranger ok refl o le (good_front _ (w.node n).log front (good_on grows' a.ballot le (ok.node n).log)) sure')

  -- another entry stands before the append's place
  module _ (above : (w.node n).commit < a.start) (within : a.start ≤ length (w.node n).log) (other : holds_before (w.node n).log a.start a.previous ≡ false) where
    short : (k : ℕ) → k ≤ a.start - 1 → AgreeBelow k (take (a.start - 1) (w.node n).log) (w.node n).log
    short k l =
        let size = length-take-le (a.start - 1) (w.node n).log (omega arith) in
        agree_less k (omega arith) (agree_take (a.start - 1) (w.node n).log)

    grows'' : Grows g n w (cut_before w n a)
    grows'' = BallotQuiet.grows g w n _ le ok

    -- what may be settled and is held lies below that entry, since the leader holds it too
    before : (v i : ℕ) → i < length (w.lead v) → v ≤ (w.node n).ballot → IsOpen g w v i → AgreeBelow (suc i) (w.node n).log (w.lead v) → suc i ≤ a.start - 1
    before v i l low open' h =
        ⊎_elim
        (λ e. omega arith)
        (λ e.
        let both = agree_trans h (agree_sym (leader_holds g w n a was o le ok v i (omega arith) open' l)) in
        let front = holds_front a.start (w.node n).log (w.lead a.ballot) (agree_less a.start (omega arith) both) in
        let holds = subst (λ p. holds_before (w.node n).log a.start p ≡ true) (sym (ok.appends a was).previous) front in
        absurd (let e : true ≡ false = sym holds ∙ other in cc))
        (cases_lt (suc i) a.start)

    keeps'' : Keeps g w (cut_before w n a)
    keeps'' =
        record {
          keeps = λ m v i l led open' h.
              with_value_cases w.node n _ m (λ x. AgreeBelow (suc i) x.log (w.lead v) ⊎ Covered g w x.ballot i)
              (λ e.
              let here = subst (λ k. AgreeBelow (suc i) (w.node k).log (w.lead v)) e h in
              let low = before v i h.right (subst (λ k. v ≤ (w.node k).ballot) e l) open' here in
              inl (agree_trans (short (suc i) low) here))
              (λ ne. inl h);
        }

    sure'' : Sure g (cut_before w n a) a.ballot (w.node n).commit (take (a.start - 1) (w.node n).log)
    sure'' =
        ⊎_elim
        (λ none. inl none)
        (λ c. inr (record {
          ballot = c.ballot;
          place = c.place;
          below = omega (arith, c.below);
          upto = c.upto;
          fixed = fixed_on grows'' c.fixed;
          agrees = agree_trans (short (w.node n).commit (omega arith)) c.agrees;
        }))
        (ok.node n).sure

    pub shows_cut_before : Shows g n w (cut_before w n a)
    shows_cut_before =
        BallotQuiet.shows g w n _ le ok keeps''
        (BallotQuiet.stranger ok refl o le (good_front _ (w.node n).log (agree_take (a.start - 1) (w.node n).log) (good_on grows'' a.ballot le (ok.node n).log)) sure'')
