-- What follows in a safe world.
use Rattle.std.proofs.Common.{◌≡◌, ℕ, suc, ◌<◌, ◌≤◌, List, [], ◌∷◌, length, max, Bool, true, false, ◌&&◌, eqb, refl, sym, ap, ap₂, subst, arith, inl, inr, ⊎_elim, eqb-true, ltb-true}
use Rattle.std.specs.Prelude.{◌⊎◌, nat_lt}
use Rattle.std.proofs.lemmas.Bool.{or_cases, or_left, and_parts, cases_order}
use Rattle.raft_laws.specs.BallotLists.{with_value, AgreeBelow}
use Rattle.raft_laws.specs.BallotLogs.{BallotEntry}
use Rattle.raft_laws.specs.BallotWorld.{BallotGroup, BallotNode, BallotGrant, BallotReply, BallotWorld, has_granted, ballot_accepted}
use Rattle.raft_laws.proofs.BallotAgreement.{agree_sym, agree_trans, agree_less, agree_refl, with_value_cases}
use Rattle.raft_laws.proofs.BallotMerging.{Matching}
use Rattle.raft_laws.proofs.BallotQuorums.{quorum_more}
use Rattle.raft_laws.proofs.BallotSafe.{Among, GoodLog, may_accept, IsOpen, IsFixed, Covered, Safe}

pub record Accepts (replies : List BallotReply) (v i n : ℕ) : Type 0 where
  pub reply : BallotReply
  pub among : Among reply replies
  pub ballot : reply.ballot ≡ v
  pub node : reply.node ≡ n
  pub upto : i < reply.upto

pub accepts : (replies : List BallotReply) (v i n : ℕ) → ballot_accepted replies v i n ≡ true → Accepts replies v i n
accepts [] v i n h = absurd (let e : false ≡ true = h in cc)
accepts (r ∷ rs) v i n h =
    ⊎_elim
    (λ t.
    let parts = and_parts (eqb r.ballot v) (eqb r.node n && nat_lt i r.upto) t in
    let more = and_parts (eqb r.node n) (nat_lt i r.upto) parts.1 in
    record { reply = r; among = inl refl; ballot = eqb-true r.ballot v parts.0; node = eqb-true r.node n more.0; upto = ltb-true i r.upto more.1 })
    (λ t.
    let a = accepts rs v i n t in
    record { reply = a.reply; among = inr a.among; ballot = a.ballot; node = a.node; upto = a.upto })
    (or_cases (eqb r.ballot v && (eqb r.node n && nat_lt i r.upto)) (ballot_accepted rs v i n) h)

-- all that was accepted lies below
abbrev pub highest : List BallotReply → ℕ
highest [] = 0
highest (r ∷ rs) = max r.upto (highest rs)

highest_all : (rs : List BallotReply) (r : BallotReply) → Among r rs → r.upto ≤ highest rs
highest_all [] r a = absurd a
highest_all (q ∷ rs) r a =
    ⊎_elim
    (λ e. let same = ap (λ x. x.upto) e in omega arith)
    (λ b. let l = highest_all rs r b in omega arith)
    a

pub accepted_below : (replies : List BallotReply) (v i n : ℕ) → ballot_accepted replies v i n ≡ true → i < highest replies
accepted_below replies v i n h =
    let a = accepts replies v i n h in
    let l = highest_all replies a.reply a.among in
    omega (arith, a.upto)

abbrev grant : ℕ → ℕ → BallotGrant
grant b n = record { ballot = b; node = n }

pub granted_among : (grants : List BallotGrant) (b n : ℕ) → has_granted grants b n ≡ true → Among (grant b n) grants
granted_among [] b n h = absurd (let e : false ≡ true = h in cc)
granted_among (q ∷ qs) b n h =
    ⊎_elim
    (λ t.
    let parts = and_parts (eqb q.ballot b) (eqb q.node n) t in
    inl (ap₂ grant (sym (eqb-true q.ballot b parts.0)) (sym (eqb-true q.node n parts.1))))
    (λ t. inr (granted_among qs b n t))
    (or_cases (eqb q.ballot b && eqb q.node n) (has_granted qs b n) h)

-- a reply that was sent just now
pub replies_with : (w : BallotWorld) (r : BallotReply) → (w.node r.node).ballot ≤ r.ballot → (v i m : ℕ) → ballot_accepted (r ∷ w.replies) v i m ≡ true → (ballot_accepted w.replies v i m ≡ true) ⊎ ((w.node m).ballot ≤ v)
replies_with w r le v i m h =
    ⊎_elim
    (λ t.
    let parts = and_parts (eqb r.ballot v) (eqb r.node m && nat_lt i r.upto) t in
    let more = and_parts (eqb r.node m) (nat_lt i r.upto) parts.1 in
    let at_node : (w.node m).ballot ≤ r.ballot = subst (λ k. (w.node k).ballot ≤ r.ballot) (eqb-true r.node m more.0) le in
    let at_ballot : r.ballot ≡ v = eqb-true r.ballot v parts.0 in
    inr (omega arith))
    (λ t. inl t)
    (or_cases (eqb r.ballot v && (eqb r.node m && nat_lt i r.upto)) (ballot_accepted w.replies v i m) h)

module _ {g : BallotGroup} {w : BallotWorld} where
  -- a node holds what it accepted, as long as that may be settled, or a later place is settled
  pub kept_at : Safe g w → (v i n : ℕ) → ballot_accepted w.replies v i n ≡ true → IsOpen g w v i → AgreeBelow (suc i) (w.node n).log (w.lead v) ⊎ Covered g w (w.node n).ballot i
  kept_at ok v i n h o =
      let a = accepts w.replies v i n h in
      let kept = (ok.replies a.reply a.among).kept i a.upto (subst (λ b. IsOpen g w b i) (sym a.ballot) o) in
      let at_ballot = subst (λ b. AgreeBelow (suc i) (w.node a.reply.node).log (w.lead b) ⊎ Covered g w (w.node a.reply.node).ballot i) a.ballot kept in
      subst (λ m. AgreeBelow (suc i) (w.node m).log (w.lead v) ⊎ Covered g w (w.node m).ballot i) a.node at_ballot

  pub accepted_within : Safe g w → (v i n : ℕ) → ballot_accepted w.replies v i n ≡ true → i < length (w.lead v)
  accepted_within ok v i n h =
      let a = accepts w.replies v i n h in
      let l : i < length (w.lead a.reply.ballot) = omega (arith, a.upto, (ok.replies a.reply a.among).within) in
      subst (λ b. i < length (w.lead b)) a.ballot l

  pub accepted_led : Safe g w → (v i n : ℕ) → ballot_accepted w.replies v i n ≡ true → w.led v ≡ true
  accepted_led ok v i n h =
      let a = accepts w.replies v i n h in
      subst (λ b. w.led b ≡ true) a.ballot (ok.replies a.reply a.among).led

  -- what is settled is open
  pub fixed_open : {v i : ℕ} → IsFixed g w v i → IsOpen g w v i
  fixed_open {v} {i} f =
      record {
        quorum = quorum_more g.voters (ballot_accepted w.replies v i) (may_accept w v i) (λ n t. or_left (ballot_accepted w.replies v i n) _ t) f.quorum;
        own = f.own;
      }

  -- of a place that may be settled and a later one, under leaders: the first lies on both lists
  pub on_one : Safe g w → (v u i j : ℕ) → w.led v ≡ true → w.led u ≡ true → i < length (w.lead v) → IsOpen g w v i → IsOpen g w u j → i ≤ j → AgreeBelow (suc i) (w.lead v) (w.lead u)
  on_one ok v u i j led-v led-u within p q le =
      ⊎_elim
      (λ e. subst (λ b. AgreeBelow (suc i) (w.lead v) (w.lead b)) e (agree_refl (suc i) (w.lead v) within))
      (⊎_elim
      (λ l. agree_sym (ok.above v u i l led-u p))
      (λ l. agree_less (suc i) (omega arith) (ok.above u v j l led-v q)))
      (cases_order v u)

pub matching : {lead : ℕ → List BallotEntry} {led : ℕ → Bool} {xs ys : List BallotEntry} {a b : ℕ} → GoodLog lead led xs a → GoodLog lead led ys b → Matching xs ys
matching {lead} {led} {xs} {ys} p q =
    record {
      at = λ j x y e f same.
          agree_trans (subst (λ c. AgreeBelow (suc j) xs (lead c)) same (p.matches j x e)) (agree_sym (q.matches j y f));
    }

pub ballots_with : (w : BallotWorld) (n : ℕ) (s : BallotNode) → (w.node n).ballot ≤ s.ballot → (m : ℕ) → (w.node m).ballot ≤ (with_value w.node n s m).ballot
ballots_with w n s le m =
    with_value_cases w.node n s m (λ x. (w.node m).ballot ≤ x.ballot)
    (λ e. subst (λ k. (w.node k).ballot ≤ s.ballot) (sym e) le)
    (λ ne. omega arith)

pub logs_with : (w : BallotWorld) (n : ℕ) (s : BallotNode) → AgreeBelow (length (w.node n).log) (w.node n).log s.log → (m : ℕ) → AgreeBelow (length (w.node m).log) (w.node m).log (with_value w.node n s m).log
logs_with w n s a m =
    with_value_cases w.node n s m (λ x. AgreeBelow (length (w.node m).log) (w.node m).log x.log)
    (λ e. subst (λ k. AgreeBelow (length (w.node k).log) (w.node k).log s.log) (sym e) a)
    (λ ne. agree_refl _ _ (omega arith))
