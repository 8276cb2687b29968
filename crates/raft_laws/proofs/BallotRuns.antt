-- Every event keeps a world safe, and what follows for what is settled.
use Rattle.std.proofs.Common.{◌≡◌, ℕ, zero, suc, ◌<◌, ◌≤◌, List, [], ◌∷◌, length, Option, Some, None, Bool, true, false, ◌&&◌, ◌||◌, not, cond, eqb, refl, sym, ap, ◌∙◌, subst, arith, inl, ⊎_elim, eqb-true, ltb-true, leb-true}
use Rattle.std.specs.Prelude.{slice_get, nat_lt, nat_le}
use Rattle.std.proofs.lemmas.Bool.{or_cases, and_parts, cond_both, eqb-false, not-true}
use Rattle.raft_laws.specs.BallotLists.{AgreeBelow}
use Rattle.raft_laws.specs.BallotLogs.{BallotEntry, log_end, is_at_least, holds_before, ballot_before}
use Rattle.raft_laws.specs.BallotQuorum.{is_quorum}
use Rattle.raft_laws.specs.BallotWorld.{BallotGroup, BallotNode, BallotRequest, BallotAppend, BallotWorld, BallotEvent, FoundGroup, StandForElection, TakeRequest, RaiseVote, WinElection, WriteEntry, CommitPlace, SendEntries, TakeEntries, CutForEntries, CutForSnapshot, CutForConflict, ForgetCommitted, ballot_start, first_entry, has_granted, is_ballot_settled, is_ballot_leader, is_ballot_candidate, is_empty, can_grant, can_raise, drops, conflicts, founded, raised, elected, granted, won, written, committed_to, sent, taken, cut, dropped, cut_before, request_comes, append_comes, cut_comes, drop_comes, conflict_comes, ballot_step, ballot_run}
use Rattle.raft_laws.proofs.BallotAgreement.{agree_refl, same_some, with_value_cases, with_value_other}
use Rattle.raft_laws.proofs.BallotSafe.{Among, among_at, GoodLog, Safe}
use Rattle.raft_laws.proofs.BallotStep.{Next, next, later_refl, later_trans}
use Rattle.raft_laws.proofs.BallotElect
use Rattle.raft_laws.proofs.BallotWin
use Rattle.raft_laws.proofs.BallotGive
use Rattle.raft_laws.proofs.BallotPut
use Rattle.raft_laws.proofs.BallotPass
use Rattle.raft_laws.proofs.BallotTake
use Rattle.raft_laws.proofs.BallotShorten
use Rattle.raft_laws.proofs.BallotSmall

good_none : (lead : ℕ → List BallotEntry) (led : ℕ → Bool) (top : ℕ) → GoodLog lead led [] top
good_none lead led top =
    record {
      matches = λ j x e. absurd (no x e);
      known = λ j x e. absurd (no x e);
      rising = λ j k x y l e f. absurd (no x e);
      capped = λ j x e. absurd (no x e);
    }
  where
    no : (x : BallotEntry) → None ≡ Some x → ⊥
    no x e = cc

good_one : {lead : ℕ → List BallotEntry} {led : ℕ → Bool} (x : BallotEntry) → x.ballot ≡ 0 → lead 0 ≡ x ∷ [] → GoodLog lead led (x ∷ []) 0
good_one {lead} {led} x b is = record { matches = matches; known = known; rising = λ j k y z l e f. let c = capped j y e in omega arith; capped = capped }
  where
    matches : (j : ℕ) (y : BallotEntry) → slice_get (x ∷ []) j ≡ Some y → AgreeBelow (suc j) (x ∷ []) (lead y.ballot)
    matches zero y e =
        let zero' : y.ballot ≡ 0 = ap (λ z. z.ballot) (sym (same_some e)) ∙ b in
        subst (λ l. AgreeBelow 1 (x ∷ []) l) (sym (ap lead zero' ∙ is)) (agree_refl 1 (x ∷ []) (omega arith))
    matches (suc j) y e = absurd (let f : None ≡ Some y = e in cc)

    capped : (j : ℕ) (y : BallotEntry) → slice_get (x ∷ []) j ≡ Some y → y.ballot ≤ 0
    capped zero y e = let c = ap (λ z. z.ballot) (same_some e) in omega arith
    capped (suc j) y e = absurd (let f : None ≡ Some y = e in cc)

    known : (j : ℕ) (y : BallotEntry) → slice_get (x ∷ []) j ≡ Some y → 0 < y.ballot → led y.ballot ≡ true
    known j y e pos = absurd (let c = capped j y e in omega arith)

pub start_safe : (g : BallotGroup) → Safe g (ballot_start g)
start_safe g =
    record {
      node = λ n. record {
        log = good_none _ _ _;
        leads = λ c pos o. absurd (let e : false ≡ true = c in cc);
        stands = λ c pos o. refl;
        own = λ b l o. absurd (let e : false ≡ true = l in cc);
        sure = inl refl;
      };
      first = agree_refl 1 (first_entry g ∷ []) (omega arith);
      leads = λ b.
          with_value_cases (λ b. []) 0 (first_entry g ∷ []) b (λ xs. GoodLog (ballot_start g).lead (ballot_start g).led xs b)
          (λ e. subst (GoodLog (ballot_start g).lead (ballot_start g).led (first_entry g ∷ [])) (sym e) (good_one (first_entry g) refl refl))
          (λ ne. good_none _ _ _);
      unled = λ b pos f. with_value_other (λ b. []) 0 (first_entry g ∷ []) b (λ e. omega arith);
      stood = λ b. good_none _ _ _;
      requests = λ r a. absurd a;
      grants = λ q a. absurd a;
      appends = λ p a. absurd a;
      replies = λ r a. absurd a;
      above = λ v u i l led o. absurd (let e : false ≡ true = led in cc);
    }

stay : {g : BallotGroup} (w : BallotWorld) → Safe g w → Next g w w
stay w ok = record { safe = ok; later = later_refl w }

module _ (g : BallotGroup) (some : 0 < length g.voters) where
  may_stay : (t : Bool) (w w' : BallotWorld) → Safe g w → (t ≡ true → Next g w w') → Next g w (cond t w' w)
  may_stay t w w' ok then' = cond_both t w' w (Next g w) then' (λ e. stay w ok)

  request_next : (w : BallotWorld) (o : Option BallotRequest) (n : ℕ) → ((r : BallotRequest) → o ≡ Some r → Among r w.requests) → Safe g w → Next g w (request_comes g w o n)
  request_next w None n among ok = stay w ok
  request_next w (Some r) n among ok =
      may_stay (can_grant g n (w.node n) r) w (granted w n r) ok
      (λ t.
      let s = w.node n in
      let parts = and_parts (not (eqb (g.owner r.ballot) n)) ((nat_lt s.ballot r.ballot || (eqb s.ballot r.ballot && not s.committed)) && is_at_least r.last (log_end s.log)) t in
      let more = and_parts (nat_lt s.ballot r.ballot || (eqb s.ballot r.ballot && not s.committed)) (is_at_least r.last (log_end s.log)) parts.1 in
      let le : s.ballot ≤ r.ballot =
      ⊎_elim
      (λ l. let h = ltb-true s.ballot r.ballot l in omega arith)
      (λ l. let h = eqb-true s.ballot r.ballot (and_parts (eqb s.ballot r.ballot) (not s.committed) l).0 in omega arith)
      (or_cases (nat_lt s.ballot r.ballot) (eqb s.ballot r.ballot && not s.committed) more.0)
      in
      next ok (BallotGive.shows g w n r (among r refl) (eqb-false (g.owner r.ballot) n (not-true _ parts.0)) le more.1 ok))

  raise_parts : (s : BallotNode) (n b : ℕ) → can_raise g n s b ≡ true → (g.owner b ≡ n → ⊥) × (s.ballot ≤ b)
  raise_parts s n b t =
      let parts = and_parts (not (eqb (g.owner b) n)) (nat_le s.ballot b) t in
      (eqb-false (g.owner b) n (not-true _ parts.0), leb-true s.ballot b parts.1)

  append_next : (w : BallotWorld) (o : Option BallotAppend) (n : ℕ) → ((a : BallotAppend) → o ≡ Some a → Among a w.appends) → Safe g w → Next g w (append_comes g w o n)
  append_next w None n among ok = stay w ok
  append_next w (Some a) n among ok =
      may_stay (can_raise g n (w.node n) a.ballot) w (cond (holds_before (w.node n).log a.start a.previous) (taken w n a) (raised w n a.ballot true)) ok
      (λ t.
      let other = raise_parts (w.node n) n a.ballot t in
      cond_both (holds_before (w.node n).log a.start a.previous) (taken w n a) (raised w n a.ballot true) (Next g w)
      (λ h. next ok (BallotTake.shows g w n a (among a refl) other.0 other.1 ok h))
      (λ h. next ok (BallotSmall.shows_raised g w n ok a.ballot true other.0 other.1)))

  cut_next : (w : BallotWorld) (o : Option BallotAppend) (n : ℕ) → ((a : BallotAppend) → o ≡ Some a → Among a w.appends) → Safe g w → Next g w (cut_comes g w o n)
  cut_next w None n among ok = stay w ok
  cut_next w (Some a) n among ok =
      may_stay _ w (cut w n a) ok
      (λ t.
      let parts = and_parts (can_raise g n (w.node n) a.ballot) (holds_before (w.node n).log a.start a.previous) t in
      let other = raise_parts (w.node n) n a.ballot parts.0 in
      next ok (BallotShorten.shows_cut g w n a (among a refl) other.0 other.1 ok parts.1))

  drop_next : (w : BallotWorld) (o : Option BallotAppend) (n : ℕ) → ((a : BallotAppend) → o ≡ Some a → Among a w.appends) → Safe g w → Next g w (drop_comes g w o n)
  drop_next w None n among ok = stay w ok
  drop_next w (Some a) n among ok =
      may_stay _ w (dropped w n a) ok
      (λ t.
      let parts = and_parts (can_raise g n (w.node n) a.ballot) (drops (w.node n).log a) t in
      let other = raise_parts (w.node n) n a.ballot parts.0 in
      let held = holds_before (w.node n).log (length a.entries) (ballot_before a.entries (length a.entries)) in
      let more = and_parts (eqb a.start 0) (nat_le (length a.entries) a.commit && not held) parts.1 in
      let last = and_parts (nat_le (length a.entries) a.commit) (not held) more.1 in
      next ok (BallotShorten.shows_dropped g w n a (among a refl) other.0 other.1 ok (eqb-true a.start 0 more.0) (leb-true (length a.entries) a.commit last.0) (not-true held last.1)))

  conflict_next : (w : BallotWorld) (o : Option BallotAppend) (n : ℕ) → ((a : BallotAppend) → o ≡ Some a → Among a w.appends) → Safe g w → Next g w (conflict_comes g w o n)
  conflict_next w None n among ok = stay w ok
  conflict_next w (Some a) n among ok =
      may_stay _ w (cut_before w n a) ok
      (λ t.
      let parts = and_parts (can_raise g n (w.node n) a.ballot) (conflicts (w.node n) a) t in
      let other = raise_parts (w.node n) n a.ballot parts.0 in
      let held = holds_before (w.node n).log a.start a.previous in
      let more = and_parts (nat_lt (w.node n).commit a.start) (nat_le a.start (length (w.node n).log) && not held) parts.1 in
      let last = and_parts (nat_le a.start (length (w.node n).log)) (not held) more.1 in
      next ok (BallotShorten.shows_cut_before g w n a (among a refl) other.0 other.1 ok (ltb-true (w.node n).commit a.start more.0) (leb-true a.start (length (w.node n).log) last.0) (not-true held last.1)))

  pub leader_parts : (s : BallotNode) (n : ℕ) → is_ballot_leader g n s ≡ true → (s.committed ≡ true) × (0 < s.ballot) × (g.owner s.ballot ≡ n)
  leader_parts s n t =
      let parts = and_parts s.committed (nat_lt 0 s.ballot && eqb (g.owner s.ballot) n) t in
      let more = and_parts (nat_lt 0 s.ballot) (eqb (g.owner s.ballot) n) parts.1 in
      (parts.0, ltb-true 0 s.ballot more.0, eqb-true (g.owner s.ballot) n more.1)

  no_log : (xs : List BallotEntry) → is_empty xs ≡ true → xs ≡ []
  no_log [] t = refl
  no_log (x ∷ xs) t = absurd (let e : false ≡ true = t in cc)

  pub happens_next : (w : BallotWorld) (e : BallotEvent) → Safe g w → Next g w (ballot_step g w e)
  happens_next w (FoundGroup n) ok =
      may_stay _ w (founded g w n) ok
      (λ t.
      let parts = and_parts (eqb (w.node n).ballot 0) (is_empty (w.node n).log) t in
      next ok (BallotSmall.shows_founded g w n ok (eqb-true (w.node n).ballot 0 parts.0) (no_log (w.node n).log parts.1)))
  happens_next w (StandForElection n b) ok =
      may_stay _ w (elected w n b) ok
      (λ t.
      let parts = and_parts (eqb (g.owner b) n) (nat_lt (w.node n).ballot b) t in
      next ok (BallotElect.shows g w n b (eqb-true (g.owner b) n parts.0) (ltb-true (w.node n).ballot b parts.1) ok))
  happens_next w (TakeRequest k n) ok = request_next w (slice_get w.requests k) n (λ r e. among_at w.requests k r e) ok
  happens_next w (RaiseVote n b committed) ok =
      may_stay _ w (raised w n b committed) ok
      (λ t. let other = raise_parts (w.node n) n b t in next ok (BallotSmall.shows_raised g w n ok b committed other.0 other.1))
  happens_next w (WinElection n) ok =
      may_stay _ w (won w n) ok
      (λ t.
      let parts = and_parts (is_ballot_candidate g n (w.node n)) (is_quorum g.voters (has_granted w.grants (w.node n).ballot)) t in
      let mine = and_parts (not (w.node n).committed) (eqb (g.owner (w.node n).ballot) n) parts.0 in
      next ok (BallotWin.shows g some w n (not-true _ mine.0) (eqb-true (g.owner (w.node n).ballot) n mine.1) parts.1 ok))
  happens_next w (WriteEntry n payload) ok =
      may_stay _ w (written w n payload) ok
      (λ t. let mine = leader_parts (w.node n) n t in next ok (BallotPut.shows g w n payload mine.0 mine.1 mine.2 ok))
  happens_next w (CommitPlace n place) ok =
      may_stay _ w (committed_to w n place) ok
      (λ t.
      let parts = and_parts (is_ballot_leader g n (w.node n)) (is_ballot_settled g w (w.node n).ballot place) t in
      let mine = leader_parts (w.node n) n parts.0 in
      next ok (BallotSmall.shows_committed g w n ok some mine.0 mine.1 mine.2 place parts.1))
  happens_next w (SendEntries n start count commit) ok =
      may_stay _ w (sent w n start count commit) ok
      (λ t.
      let parts = and_parts (is_ballot_leader g n (w.node n)) (nat_le start (length (w.node n).log) && nat_le commit (w.node n).commit) t in
      let more = and_parts (nat_le start (length (w.node n).log)) (nat_le commit (w.node n).commit) parts.1 in
      let mine = leader_parts (w.node n) n parts.0 in
      next ok (BallotPass.shows g w n start count commit mine.0 mine.1 mine.2 (leb-true start (length (w.node n).log) more.0) (leb-true commit (w.node n).commit more.1) ok))
  happens_next w (TakeEntries k n) ok = append_next w (slice_get w.appends k) n (λ a e. among_at w.appends k a e) ok
  happens_next w (CutForEntries k n) ok = cut_next w (slice_get w.appends k) n (λ a e. among_at w.appends k a e) ok
  happens_next w (CutForSnapshot k n) ok = drop_next w (slice_get w.appends k) n (λ a e. among_at w.appends k a e) ok
  happens_next w (CutForConflict k n) ok = conflict_next w (slice_get w.appends k) n (λ a e. among_at w.appends k a e) ok
  happens_next w (ForgetCommitted n commit) ok = next ok (BallotSmall.shows_forgotten g w n ok commit)

  pub run_next : (w : BallotWorld) (es : List BallotEvent) → Safe g w → Next g w (ballot_run g es w)
  run_next w [] ok = stay w ok
  run_next w (e ∷ es) ok =
      let a = happens_next w e ok in
      let b = run_next (ballot_step g w e) es a.safe in
      record { safe = b.safe; later = later_trans a.later b.later }
