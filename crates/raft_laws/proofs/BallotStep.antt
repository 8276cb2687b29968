-- What each event has to show, and what stays by itself.
use Rattle.std.proofs.Common.{◌≡◌, ℕ, zero, suc, ◌+◌, ◌<◌, ◌≤◌, List, [], length, drop, true, false, refl, sym, ap, ◌∙◌, subst, arith, inl, inr, leb-true, le-leb, ⊎_elim, length-drop}
use Rattle.std.specs.Prelude.{◌⊎◌, nat_le}
use Rattle.std.proofs.lemmas.Option.{slice_get_within}
use Rattle.std.proofs.lemmas.Bool.{or_cases, or_left, or_right, cases_eq}
use Rattle.raft_laws.specs.BallotLists.{AgreeBelow}
use Rattle.raft_laws.specs.BallotLogs.{BallotEntry, ballot_of, ballot_before, log_end}
use Rattle.raft_laws.specs.BallotWorld.{BallotGroup, BallotRequest, BallotGrant, BallotAppend, BallotReply, BallotWorld, ballot_accepted}
use Rattle.raft_laws.proofs.BallotAgreement.{agree_refl, agree_more, agree_sym, agree_less, agree_drop}
use Rattle.raft_laws.proofs.BallotQuorums.{quorum_more}
use Rattle.raft_laws.proofs.BallotSafe.{Among, GoodLog, may_accept, IsOpen, IsFixed, Covered, Sure, NodeOk, RequestOk, GrantOk, AppendOk, ReplyOk, Safe}

-- from one world to the next, by an act of the node n
pub record Grows (g : BallotGroup) (n : ℕ) (w w' : BallotWorld) : Type 0 where
  pub lead : (b : ℕ) → AgreeBelow (length (w.lead b)) (w.lead b) (w'.lead b)
  pub led : (b : ℕ) → w.led b ≡ true → w'.led b ≡ true
  pub others : (b : ℕ) → (g.owner b ≡ n → ⊥) → (w'.lead b ≡ w.lead b) × (w'.led b ≡ w.led b)
  pub ballots : (m : ℕ) → (w.node m).ballot ≤ (w'.node m).ballot
  pub stood : (b : ℕ) → b ≤ (w.node (g.owner b)).ballot → w'.stood b ≡ w.stood b
  pub replies : (v i m : ℕ) → ballot_accepted w'.replies v i m ≡ true → (ballot_accepted w.replies v i m ≡ true) ⊎ ((w.node m).ballot ≤ v)
  pub accepted : (v i m : ℕ) → ballot_accepted w.replies v i m ≡ true → ballot_accepted w'.replies v i m ≡ true

-- what a node holds of the leaders' logs stays, or a later place is settled
pub record Keeps (g : BallotGroup) (w w' : BallotWorld) : Type 0 where
  pub keeps : (m v i : ℕ) → v ≤ (w.node m).ballot → w.led v ≡ true → IsOpen g w v i → AgreeBelow (suc i) (w.node m).log (w.lead v) → AgreeBelow (suc i) (w'.node m).log (w.lead v) ⊎ Covered g w (w'.node m).ballot i

before_on : (start : ℕ) (xs ys : List BallotEntry) → start ≤ length xs → AgreeBelow (length xs) xs ys → ballot_before xs start ≡ ballot_before ys start
before_on zero xs ys l a = refl
before_on (suc i) xs ys l a = ap ballot_of (a.same i (omega arith))

-- of a longer list
pub sure_more : {g : BallotGroup} {w : BallotWorld} {top count : ℕ} {xs ys : List BallotEntry} → AgreeBelow (length xs) xs ys → Sure g w top count xs → Sure g w top count ys
sure_more a h =
    ⊎_elim
    (λ none. inl none)
    (λ c. inr (record { ballot = c.ballot; place = c.place; below = c.below; upto = c.upto; fixed = c.fixed; agrees = agree_sym (agree_more (agree_sym c.agrees) a) }))
    h

module _ {g : BallotGroup} {n : ℕ} {w w' : BallotWorld} where
  pub agree_on : Grows g n w w' → {k : ℕ} {xs : List BallotEntry} (b : ℕ) → AgreeBelow k xs (w.lead b) → AgreeBelow k xs (w'.lead b)
  agree_on s b a = agree_more a (s.lead b)

  pub good_on : Grows g n w w' → {xs : List BallotEntry} {top : ℕ} (top' : ℕ) → top ≤ top' → GoodLog w.lead w.led xs top → GoodLog w'.lead w'.led xs top'
  good_on s top' le good =
      record {
        matches = λ j x e. agree_on s x.ballot (good.matches j x e);
        known = λ j x e pos. s.led x.ballot (good.known j x e pos);
        rising = good.rising;
        capped = λ j x e. omega (arith, good.capped j x e);
      }

  -- what is open was open before
  pub open_before : Grows g n w w' → {v i : ℕ} → IsOpen g w' v i → IsOpen g w v i
  open_before s {v} {i} o =
      record {
        quorum = quorum_more g.voters (may_accept w' v i) (may_accept w v i) was o.quorum;
        own = λ x e. o.own x (sym ((s.lead v).same i (slice_get_within (w.lead v) i x e)) ∙ e);
      }
    where
      was : (m : ℕ) → may_accept w' v i m ≡ true → may_accept w v i m ≡ true
      was m t =
          ⊎_elim
          (λ a. ⊎_elim
          (λ b. or_left (ballot_accepted w.replies v i m) (nat_le (w.node m).ballot v) b)
          (λ b. or_right (ballot_accepted w.replies v i m) (nat_le (w.node m).ballot v) (le-leb (w.node m).ballot v b))
          (s.replies v i m a))
          (λ a. or_right (ballot_accepted w.replies v i m) (nat_le (w.node m).ballot v)
          (le-leb (w.node m).ballot v (omega (arith, s.ballots m, leb-true (w'.node m).ballot v a))))
          (or_cases (ballot_accepted w'.replies v i m) (nat_le (w'.node m).ballot v) t)

  pub fixed_on : Grows g n w w' → {v i : ℕ} → IsFixed g w v i → IsFixed g w' v i
  fixed_on s {v} {i} f =
      record {
        quorum = quorum_more g.voters (ballot_accepted w.replies v i) (ballot_accepted w'.replies v i) (λ m a. s.accepted v i m a) f.quorum;
        own = λ x e. f.own x ((s.lead v).same i f.within ∙ e);
        led = s.led v f.led;
        within = omega (arith, f.within, (s.lead v).right);
      }

  pub covered_on : Grows g n w w' → {top i : ℕ} (top' : ℕ) → top ≤ top' → Covered g w top i → Covered g w' top' i
  covered_on s top' le c =
      record { ballot = c.ballot; place = c.place; below = omega (arith, c.below); past = c.past; fixed = fixed_on s c.fixed }

  pub sure_on : Grows g n w w' → {top count : ℕ} {xs : List BallotEntry} (top' : ℕ) → top ≤ top' → Sure g w top count xs → Sure g w' top' count xs
  sure_on s top' le h =
      ⊎_elim
      (λ none. inl none)
      (λ c. inr (record { ballot = c.ballot; place = c.place; below = omega (arith, c.below); upto = c.upto; fixed = fixed_on s c.fixed; agrees = agree_on s c.ballot c.agrees }))
      h

  -- a node that didn't act
  pub node_on : Grows g n w w' → (m : ℕ) → (m ≡ n → ⊥) → NodeOk g w m (w.node m) → NodeOk g w' m (w.node m)
  node_on s m ne ok =
      record {
        log = good_on s (w.node m).ballot (omega arith) ok.log;
        leads = λ c pos o.
            let same = s.others (w.node m).ballot (λ e. ne (sym o ∙ e)) in
            let was = ok.leads c pos o in
            (was.0 ∙ sym same.0, same.1 ∙ was.1);
        stands = λ c pos o.
            let le : (w.node m).ballot ≤ (w.node (g.owner (w.node m).ballot)).ballot = rw o (omega arith) in
            ok.stands c pos o ∙ sym (s.stood (w.node m).ballot le);
        own = λ b l o. let same = s.others b (λ e. ne (sym o ∙ e)) in ok.own b (sym same.1 ∙ l) o;
        sure = sure_on s (w.node m).ballot (omega arith) ok.sure;
      }

  pub request_on : Grows g n w w' → {r : BallotRequest} → RequestOk g w r → RequestOk g w' r
  request_on s {r} ok =
      record {
        positive = ok.positive;
        last = ok.last ∙ ap log_end (sym (s.stood r.ballot ok.known));
        known = omega (arith, ok.known, s.ballots (g.owner r.ballot));
      }

  pub grant_on : Grows g n w w' → {q : BallotGrant} → GrantOk g w q → GrantOk g w' q
  grant_on s {q} ok =
      record {
        positive = ok.positive;
        voted = omega (arith, ok.voted, s.ballots q.node);
        known = omega (arith, ok.known, s.ballots (g.owner q.ballot));
        holds = λ v i l a o.
            ⊎_elim
            (λ old.
            ⊎_elim
            (λ h. inl (subst (λ xs. AgreeBelow (suc i) xs (w'.lead v)) (sym (s.stood q.ballot ok.known)) (agree_on s v h)))
            (λ c. inr (covered_on s q.ballot (omega arith) c))
            (ok.holds v i l old (open_before s o)))
            (λ le. absurd (omega (arith, le, ok.voted)))
            (s.replies v i q.node a);
      }

  pub append_on : Grows g n w w' → {a : BallotAppend} → AppendOk g w a → AppendOk g w' a
  append_on s {a} ok =
      let more = s.lead a.ballot in
      let rest : AgreeBelow (length (drop a.start (w.lead a.ballot))) (drop a.start (w.lead a.ballot)) (drop a.start (w'.lead a.ballot)) =
      agree_drop a.start (length (drop a.start (w.lead a.ballot))) (w.lead a.ballot) (w'.lead a.ballot)
      (agree_less (a.start + length (drop a.start (w.lead a.ballot))) (omega (arith, length-drop a.start (w.lead a.ballot), ok.within)) more)
      in
      record {
        led = s.led a.ballot ok.led;
        within = omega (arith, ok.within, more.right);
        previous = ok.previous ∙ before_on a.start (w.lead a.ballot) (w'.lead a.ballot) ok.within more;
        entries = agree_more ok.entries rest;
        sure = sure_more more (sure_on s a.ballot (omega arith) ok.sure);
      }

  pub reply_on : Grows g n w w' → Keeps g w w' → {r : BallotReply} → ReplyOk g w r → ReplyOk g w' r
  reply_on s k {r} ok =
      record {
        led = s.led r.ballot ok.led;
        voted = omega (arith, ok.voted, s.ballots r.node);
        within = omega (arith, ok.within, (s.lead r.ballot).right);
        kept = λ i l o.
            ⊎_elim
            (λ h. ⊎_elim
            (λ h'. inl (agree_on s r.ballot h'))
            (λ c. inr (covered_on s (w'.node r.node).ballot (omega arith) c))
            (k.keeps r.node r.ballot i ok.voted ok.led (open_before s o) h))
            (λ c. inr (covered_on s (w'.node r.node).ballot (s.ballots r.node) c))
            (ok.kept i l (open_before s o));
      }

-- what each event has to show beside
pub record Shows (g : BallotGroup) (n : ℕ) (w w' : BallotWorld) : Type 0 where
  pub grows : Grows g n w w'
  pub keeps : Keeps g w w'
  pub same : (m : ℕ) → (m ≡ n → ⊥) → w'.node m ≡ w.node m
  pub node : NodeOk g w' n (w'.node n)
  pub leads : (b : ℕ) → (w'.lead b ≡ w.lead b) ⊎ GoodLog w'.lead w'.led (w'.lead b) b
  pub unled : (b : ℕ) → 0 < b → w'.led b ≡ false → w'.lead b ≡ []
  pub stood : (b : ℕ) → (w'.stood b ≡ w.stood b) ⊎ GoodLog w'.lead w'.led (w'.stood b) b
  pub requests : (r : BallotRequest) → Among r w'.requests → Among r w.requests ⊎ RequestOk g w' r
  pub grants : (q : BallotGrant) → Among q w'.grants → Among q w.grants ⊎ GrantOk g w' q
  pub appends : (a : BallotAppend) → Among a w'.appends → Among a w.appends ⊎ AppendOk g w' a
  pub replies : (r : BallotReply) → Among r w'.replies → Among r w.replies ⊎ ReplyOk g w' r
  pub above : (u : ℕ) → w'.led u ≡ true → (w.led u ≡ true) ⊎ ((v i : ℕ) → v < u → IsOpen g w' v i → AgreeBelow (suc i) (w'.lead u) (w'.lead v))

either : {A B C : Type 0} → A ⊎ B → (A → C) → (B → C) → C
either x f g = ⊎_elim f g x

pub step_safe : {g : BallotGroup} {n : ℕ} {w w' : BallotWorld} → Shows g n w w' → Safe g w → Safe g w'
step_safe {g} {n} {w} {w'} s ok =
    record {
      node = λ m. either (cases_eq m n)
          (λ e. subst (λ k. NodeOk g w' k (w'.node k)) (sym e) s.node)
          (λ ne. subst (NodeOk g w' m) (sym (s.same m ne)) (node_on s.grows m ne (ok.node m)));
      first = agree_more ok.first (s.grows.lead 0);
      leads = λ b. either (s.leads b)
          (λ e. subst (λ xs. GoodLog w'.lead w'.led xs b) (sym e) (good_on s.grows b (omega arith) (ok.leads b)))
          (λ good. good);
      unled = s.unled;
      stood = λ b. either (s.stood b)
          (λ e. subst (λ xs. GoodLog w'.lead w'.led xs b) (sym e) (good_on s.grows b (omega arith) (ok.stood b)))
          (λ good. good);
      requests = λ r a. either (s.requests r a) (λ old. request_on s.grows (ok.requests r old)) (λ new. new);
      grants = λ q a. either (s.grants q a) (λ old. grant_on s.grows (ok.grants q old)) (λ new. new);
      appends = λ p a. either (s.appends p a) (λ old. append_on s.grows (ok.appends p old)) (λ new. new);
      replies = λ r a. either (s.replies r a) (λ old. reply_on s.grows s.keeps (ok.replies r old)) (λ new. new);
      above = λ v u i l led o. either (s.above u led)
          (λ old. agree_on s.grows v (agree_sym (agree_on s.grows u (agree_sym (ok.above v u i l old (open_before s.grows o))))))
          (λ new. new v i l o);
    }

-- what stays from one world to a later one
pub record Later (w w' : BallotWorld) : Type 0 where
  pub ballots : (m : ℕ) → (w.node m).ballot ≤ (w'.node m).ballot
  pub lead : (b : ℕ) → AgreeBelow (length (w.lead b)) (w.lead b) (w'.lead b)
  pub accepted : (v i m : ℕ) → ballot_accepted w.replies v i m ≡ true → ballot_accepted w'.replies v i m ≡ true

pub later_refl : (w : BallotWorld) → Later w w
later_refl w = record { ballots = λ m. omega arith; lead = λ b. agree_refl _ _ (omega arith); accepted = λ v i m a. a }

pub later_trans : {w w' w'' : BallotWorld} → Later w w' → Later w' w'' → Later w w''
later_trans p q = record { ballots = λ m. omega (arith, p.ballots m, q.ballots m); lead = λ b. agree_more (p.lead b) (q.lead b); accepted = λ v i m a. q.accepted v i m (p.accepted v i m a) }

-- a safe world that is later
pub record Next (g : BallotGroup) (w w' : BallotWorld) : Type 0 where
  pub safe : Safe g w'
  pub later : Later w w'

pub next : {g : BallotGroup} {n : ℕ} {w w' : BallotWorld} → Safe g w → Shows g n w w' → Next g w w'
next ok s = record { safe = step_safe s ok; later = record { ballots = s.grows.ballots; lead = s.grows.lead; accepted = s.grows.accepted } }

-- a log that only grows keeps what it holds
pub keeps_grown : {g : BallotGroup} {w w' : BallotWorld} → ((m : ℕ) → AgreeBelow (length (w.node m).log) (w.node m).log (w'.node m).log) → Keeps g w w'
keeps_grown h = record { keeps = λ m v i l led o a. inl (agree_sym (agree_more (agree_sym a) (h m))) }
