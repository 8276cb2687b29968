-- All that is settled lies on one list.
use Rattle.std.proofs.Common.{◌≡◌, ℕ, zero, suc, ◌<◌, ◌≤◌, List, [], ◌∷◌, ◌++◌, length, take, Some, true, false, refl, sym, ap, ◌∙◌, subst, arith, inl, inr, ⊎_elim, ltb-true, ltb-false, length-take-le, eq-eqb}
use Rattle.std.specs.Prelude.{slice_get, ◌⊎◌, nat_lt}
use Rattle.std.proofs.lemmas.Bool.{and_parts, and_from, cond_both, cases_order, cases_lt}
use Rattle.raft_laws.specs.BallotLists.{AgreeBelow}
use Rattle.raft_laws.specs.BallotLogs.{BallotEntry}
use Rattle.raft_laws.specs.BallotQuorum.{is_quorum}
use Rattle.raft_laws.specs.BallotWorld.{BallotGroup, BallotReply, BallotWorld, BallotEvent, ballot_start, ballot_accepted, is_of, is_ballot_settled, is_ballot_leader, ballot_run, ballot_step}
use Rattle.raft_laws.specs.BallotSettled.{settled_count, longest_settled, ballot_list}
use Rattle.raft_laws.proofs.BallotAgreement.{agree_refl, agree_sym, agree_trans, agree_less, agree_more, agree_none, agree_take, some_at}
use Rattle.raft_laws.proofs.BallotQuorums.{quorum_more, quorums_meet}
use Rattle.raft_laws.proofs.BallotSafe.{Among, IsFixed, Safe}
use Rattle.raft_laws.proofs.BallotStep.{Later}
use Rattle.raft_laws.proofs.BallotFacts.{accepts, matching, fixed_open, on_one}
use Rattle.raft_laws.proofs.BallotSmall.{settled_fixed}
use Rattle.raft_laws.proofs.BallotRuns.{start_safe, run_next, leader_parts}

module _ (g : BallotGroup) (some : 0 < length g.voters) where
  -- a settled place, and a reply that is for it or more
  record Fixed (w : BallotWorld) (b i : ℕ) : Type 0 where
    fixed : IsFixed g w b i
    reply : BallotReply
    among : Among reply w.replies
    ballot : reply.ballot ≡ b
    upto : i < reply.upto

  fixed' : {w : BallotWorld} → Safe g w → (b i : ℕ) → is_ballot_settled g w b i ≡ true → Fixed w b i
  fixed' {w} ok b i h =
      let f = settled_fixed some ok b i h in
      let member = quorums_meet g.voters (ballot_accepted w.replies b i) (ballot_accepted w.replies b i) some f.quorum f.quorum in
      let a = accepts w.replies b i member.0 member.1 in
      record { fixed = f; reply = a.reply; among = a.among; ballot = a.ballot; upto = a.upto }

  -- of two settled places the lesser lies on the list of the other
  both_on : {w : BallotWorld} → Safe g w → (v u i j : ℕ) → IsFixed g w v i → IsFixed g w u j → i ≤ j → AgreeBelow (suc i) (w.lead v) (w.lead u)
  both_on ok v u i j p q le = on_one ok v u i j p.led q.led p.within (fixed_open p) (fixed_open q) le

  count_le : (w : BallotWorld) (b n : ℕ) → settled_count g w b n ≤ n
  count_le w b zero = omega arith
  count_le w b (suc n) =
      let before = count_le w b n in
      cond_both (is_ballot_settled g w b n) (suc n) (settled_count g w b n) (λ k. k ≤ suc n) (λ t. omega arith) (λ t. omega arith)

  -- the count ends at a settled place
  count_ends : (w : BallotWorld) (b n k : ℕ) → settled_count g w b n ≡ suc k → is_ballot_settled g w b k ≡ true
  count_ends w b zero k e = absurd (omega arith)
  count_ends w b (suc n) k e =
      cond_both (is_ballot_settled g w b n) (suc n) (settled_count g w b n) (λ m. m ≡ suc k → is_ballot_settled g w b k ≡ true)
      (λ t e. let same : n ≡ k = omega arith in subst (λ m. is_ballot_settled g w b m ≡ true) same t)
      (λ t e. count_ends w b n k e)
      e

  -- and no settled place is past it
  count_all : (w : BallotWorld) (b n i : ℕ) → i < n → is_ballot_settled g w b i ≡ true → i < settled_count g w b n
  count_all w b zero i l h = absurd (omega arith)
  count_all w b (suc n) i l h =
      cond_both (is_ballot_settled g w b n) (suc n) (settled_count g w b n) (λ m. i < m)
      (λ t. omega arith)
      (λ t. ⊎_elim (λ l'. count_all w b n i l' h)
      (λ l'. let same : i ≡ n = omega arith in absurd (let no : true ≡ false = sym h ∙ ap (is_ballot_settled g w b) same ∙ t in cc))
      (cases_lt i n))

  -- the list is empty, or ends at a settled place of its leader
  record Ends (w : BallotWorld) (xs : List BallotEntry) : Type 0 where
    by : (xs ≡ []) ⊎ ((b : ℕ) × (k : ℕ) × (is_ballot_settled g w b k ≡ true) × (xs ≡ take (suc k) (w.lead b)))

  front_ends : (w : BallotWorld) (b n : ℕ) → Ends w (take (settled_count g w b n) (w.lead b))
  front_ends w b n = go (settled_count g w b n) refl
    where
      go : (m : ℕ) → settled_count g w b n ≡ m → Ends w (take m (w.lead b))
      go zero e = record { by = inl refl }
      go (suc k) e = record { by = inr (b, k, count_ends w b n k e, refl) }

  longest_ends : (w : BallotWorld) (rs : List BallotReply) → Ends w (longest_settled g w rs)
  longest_ends w [] = record { by = inl refl }
  longest_ends w (r ∷ rs) =
      cond_both (nat_lt (length (longest_settled g w rs)) (length (take (settled_count g w r.ballot r.upto) (w.lead r.ballot)))) _ _ (Ends w)
      (λ t. front_ends w r.ballot r.upto)
      (λ t. longest_ends w rs)

  longest_all : (w : BallotWorld) (rs : List BallotReply) (r : BallotReply) → Among r rs → length (take (settled_count g w r.ballot r.upto) (w.lead r.ballot)) ≤ length (longest_settled g w rs)
  longest_all w [] r a = absurd a
  longest_all w (q ∷ rs) r a =
      let front = take (settled_count g w q.ballot q.upto) (w.lead q.ballot) in
      cond_both (nat_lt (length (longest_settled g w rs)) (length front)) front (longest_settled g w rs) (λ xs. length (take (settled_count g w r.ballot r.upto) (w.lead r.ballot)) ≤ length xs)
      (λ t. let l = ltb-true (length (longest_settled g w rs)) (length front) t in
      ⊎_elim
      (λ e. subst (λ x. length (take (settled_count g w x.ballot x.upto) (w.lead x.ballot)) ≤ length front) (sym e) (omega arith))
      (λ b. let m = longest_all w rs r b in omega arith)
      a)
      (λ t. let l = ltb-false (length (longest_settled g w rs)) (length front) t in
      ⊎_elim
      (λ e. subst (λ x. length (take (settled_count g w x.ballot x.upto) (w.lead x.ballot)) ≤ length (longest_settled g w rs)) (sym e) l)
      (λ b. longest_all w rs r b)
      a)

  front_of : (w : BallotWorld) (c k : ℕ) → k < length (w.lead c) → AgreeBelow (suc k) (take (suc k) (w.lead c)) (w.lead c)
  front_of w c k l = let e = length-take-le (suc k) (w.lead c) l in subst (λ n. AgreeBelow n (take (suc k) (w.lead c)) (w.lead c)) e (agree_take (suc k) (w.lead c))

  -- a settled place within a list that ends at another one
  on_end : {w : BallotWorld} → Safe g w → (b i : ℕ) → IsFixed g w b i → (c k : ℕ) → IsFixed g w c k → i ≤ k → AgreeBelow (suc i) (take (suc k) (w.lead c)) (w.lead b)
  on_end {w} ok b i f c k q le =
      agree_trans (agree_less (suc i) (omega arith) (front_of w c k q.within)) (agree_sym (both_on ok b c i k f q le))

  -- each settled place is on the list, with all before it
  on_list : {w : BallotWorld} → Safe g w → (b i : ℕ) → is_ballot_settled g w b i ≡ true → AgreeBelow (suc i) (ballot_list g w) (w.lead b)
  on_list {w} ok b i h =
      let f = fixed' ok b i h in
      let in-count : i < settled_count g w f.reply.ballot f.reply.upto =
      count_all w f.reply.ballot f.reply.upto i f.upto (subst (λ c. is_ballot_settled g w c i ≡ true) (sym f.ballot) h)
      in
      let upto = count_le w f.reply.ballot f.reply.upto in
      let front = longest_all w w.replies f.reply f.among in
      let r-within = (ok.replies f.reply f.among).within in
      let size = length-take-le (settled_count g w f.reply.ballot f.reply.upto) (w.lead f.reply.ballot) (omega arith) in
      let long : i < length (ballot_list g w) = omega arith in
      ⊎_elim
      (λ e. absurd (let none = ap length e in omega arith))
      (λ d.
      let q = settled_fixed some ok d.0 d.1 d.2 in
      let cut = length-take-le (suc d.1) (w.lead d.0) q.within in
      let same = ap length d.3 in
      let le : i ≤ d.1 = omega arith in
      subst (λ xs. AgreeBelow (suc i) xs (w.lead b)) (sym d.3) (on_end ok b i f.fixed d.0 d.1 q le))
      (longest_ends w w.replies).by

  -- the list is of settled entries and those before them
  pub list_settled : {w : BallotWorld} → Safe g w → (i : ℕ) → i < length (ballot_list g w) → (b : ℕ) × (k : ℕ) × (i ≤ k) × (is_ballot_settled g w b k ≡ true)
  list_settled {w} ok i l =
      ⊎_elim
      (λ e. absurd (let none = ap length e in omega arith))
      (λ d.
      let q = settled_fixed some ok d.0 d.1 d.2 in
      let cut = length-take-le (suc d.1) (w.lead d.0) q.within in
      let same = ap length d.3 in
      (d.0, d.1, omega arith, d.2))
      (longest_ends w w.replies).by

  -- what is settled stays so
  settled_later : {w w' : BallotWorld} → Safe g w → Later w w' → (b i : ℕ) → is_ballot_settled g w b i ≡ true → is_ballot_settled g w' b i ≡ true
  settled_later {w} {w'} ok later b i h =
      let parts = and_parts (is_of (slice_get (w.lead b) i) b) (is_quorum g.voters (ballot_accepted w.replies b i)) h in
      let f = settled_fixed some ok b i h in
      let same = (later.lead b).same i f.within in
      and_from (is_of (slice_get (w'.lead b) i) b) (is_quorum g.voters (ballot_accepted w'.replies b i))
      (subst (λ o. is_of o b ≡ true) same parts.0)
      (quorum_more g.voters (ballot_accepted w.replies b i) (ballot_accepted w'.replies b i) (λ n a. later.accepted b i n a) parts.1)

  -- the list only grows
  list_grows : {w w' : BallotWorld} → Safe g w → Safe g w' → Later w w' → AgreeBelow (length (ballot_list g w)) (ballot_list g w) (ballot_list g w')
  list_grows {w} {w'} ok ok' later =
      ⊎_elim
      (λ e. subst (λ xs. AgreeBelow (length xs) xs (ballot_list g w')) (sym e) (agree_none (ballot_list g w')))
      (λ d.
      let q = settled_fixed some ok d.0 d.1 d.2 in
      let front = front_of w d.0 d.1 q.within in
      let size : length (take (suc d.1) (w.lead d.0)) ≡ suc d.1 = length-take-le (suc d.1) (w.lead d.0) q.within in
      let there = on_list ok' d.0 d.1 (settled_later ok later d.0 d.1 d.2) in
      let both : AgreeBelow (suc d.1) (take (suc d.1) (w.lead d.0)) (ballot_list g w') = agree_trans (agree_more front (later.lead d.0)) (agree_sym there) in
      subst (λ xs. AgreeBelow (length xs) xs (ballot_list g w')) (sym d.3)
      (subst (λ n. AgreeBelow n (take (suc d.1) (w.lead d.0)) (ballot_list g w')) (sym size) both))
      (longest_ends w w.replies).by

  -- a leader whose ballot isn't below one under which a place was settled has all up to there
  leader_has : {w w' : BallotWorld} → Safe g w → Safe g w' → Later w w' → (b i n : ℕ) → is_ballot_settled g w b i ≡ true → is_ballot_leader g n (w'.node n) ≡ true → b ≤ (w'.node n).ballot → AgreeBelow (suc i) (w'.node n).log (ballot_list g w)
  leader_has {w} {w'} ok ok' later b i n h leads le =
      let mine = leader_parts g some (w'.node n) n leads in
      let lead = (ok'.node n).leads mine.0 mine.1 mine.2 in
      let f' = settled_fixed some ok' b i (settled_later ok later b i h) in
      let f = settled_fixed some ok b i h in
      let here : AgreeBelow (suc i) (w'.lead (w'.node n).ballot) (w'.lead b) =
      ⊎_elim
      (λ e. subst (λ c. AgreeBelow (suc i) (w'.lead c) (w'.lead b)) e (agree_refl (suc i) (w'.lead b) f'.within))
      (⊎_elim (λ l. ok'.above b (w'.node n).ballot i l lead.1 (fixed_open f')) (λ l. absurd (omega arith)))
      (cases_order b (w'.node n).ballot)
      in
      let there = agree_less (suc i) f.within (later.lead b) in
      let all = agree_trans here (agree_trans (agree_sym there) (agree_sym (on_list ok b i h))) in
      subst (λ xs. AgreeBelow (suc i) xs (ballot_list g w)) (sym lead.0) all

  pub run_append : (es fs : List BallotEvent) (w : BallotWorld) → ballot_run g (es ++ fs) w ≡ ballot_run g fs (ballot_run g es w)
  run_append [] fs w = refl
  run_append (e ∷ es) fs w = run_append es fs (ballot_step g w e)

  pub settled_on_list : (es : List BallotEvent) (b i : ℕ) → is_ballot_settled g (ballot_run g es (ballot_start g)) b i ≡ true → AgreeBelow (suc i) (ballot_list g (ballot_run g es (ballot_start g))) ((ballot_run g es (ballot_start g)).lead b)
  settled_on_list es b i h = on_list (run_next g some (ballot_start g) es (start_safe g)).safe b i h

  pub only_settled : (es : List BallotEvent) (i : ℕ) → i < length (ballot_list g (ballot_run g es (ballot_start g))) → (b : ℕ) × (k : ℕ) × (i ≤ k) × (is_ballot_settled g (ballot_run g es (ballot_start g)) b k ≡ true)
  only_settled es i l = list_settled (run_next g some (ballot_start g) es (start_safe g)).safe i l

  pub only_grows : (es fs : List BallotEvent) → AgreeBelow (length (ballot_list g (ballot_run g es (ballot_start g)))) (ballot_list g (ballot_run g es (ballot_start g))) (ballot_list g (ballot_run g (es ++ fs) (ballot_start g)))
  only_grows es fs =
      let a = run_next g some (ballot_start g) es (start_safe g) in
      let b = run_next g some (ballot_run g es (ballot_start g)) fs a.safe in
      subst (λ w. AgreeBelow (length (ballot_list g (ballot_run g es (ballot_start g)))) (ballot_list g (ballot_run g es (ballot_start g))) (ballot_list g w)) (sym (run_append es fs (ballot_start g)))
      (list_grows a.safe b.safe b.later)

  pub leaders_have : (es fs : List BallotEvent) (b i n : ℕ) → is_ballot_settled g (ballot_run g es (ballot_start g)) b i ≡ true → is_ballot_leader g n ((ballot_run g (es ++ fs) (ballot_start g)).node n) ≡ true → b ≤ ((ballot_run g (es ++ fs) (ballot_start g)).node n).ballot → AgreeBelow (suc i) ((ballot_run g (es ++ fs) (ballot_start g)).node n).log (ballot_list g (ballot_run g es (ballot_start g)))
  leaders_have es fs b i n h =
      let a = run_next g some (ballot_start g) es (start_safe g) in
      let c = run_next g some (ballot_run g es (ballot_start g)) fs a.safe in
      subst (λ w. is_ballot_leader g n (w.node n) ≡ true → b ≤ (w.node n).ballot → AgreeBelow (suc i) (w.node n).log (ballot_list g (ballot_run g es (ballot_start g)))) (sym (run_append es fs (ballot_start g)))
      (leader_has a.safe c.safe c.later b i n h)

  -- what a node knows to be committed is the front of the list
  commits_on_list : {w : BallotWorld} → Safe g w → (n : ℕ) → AgreeBelow (w.node n).commit (w.node n).log (ballot_list g w)
  commits_on_list {w} ok n =
      ⊎_elim
      (λ none. subst (λ k. AgreeBelow k (w.node n).log (ballot_list g w)) (sym none) (record { left = omega arith; right = omega arith; same = λ j l. absurd (omega arith) }))
      (λ c.
      let settled = and_from (is_of (slice_get (w.lead c.ballot) c.place) c.ballot) (is_quorum g.voters (ballot_accepted w.replies c.ballot c.place)) (own c.ballot c.place c.fixed) c.fixed.quorum in
      agree_trans c.agrees (agree_sym (agree_less (w.node n).commit c.upto (on_list ok c.ballot c.place settled))))
      (ok.node n).sure
    where
      own : (b i : ℕ) → IsFixed g w b i → is_of (slice_get (w.lead b) i) b ≡ true
      own b i f =
          let x = some_at (w.lead b) i f.within in
          subst (λ o. is_of o b ≡ true) (sym x.1) (eq-eqb x.0.ballot b (f.own x.0 x.1))

  pub all_commits : (es : List BallotEvent) (n : ℕ) → AgreeBelow ((ballot_run g es (ballot_start g)).node n).commit ((ballot_run g es (ballot_start g)).node n).log (ballot_list g (ballot_run g es (ballot_start g)))
  all_commits es n = commits_on_list (run_next g some (ballot_start g) es (start_safe g)).safe n

  pub one_entry : (es : List BallotEvent) (n m i : ℕ) (x y : BallotEntry) → slice_get ((ballot_run g es (ballot_start g)).node n).log i ≡ Some x → slice_get ((ballot_run g es (ballot_start g)).node m).log i ≡ Some y → x.ballot ≡ y.ballot → AgreeBelow (suc i) ((ballot_run g es (ballot_start g)).node n).log ((ballot_run g es (ballot_start g)).node m).log
  one_entry es n m i x y =
      let ok = (run_next g some (ballot_start g) es (start_safe g)).safe in
      (matching (ok.node n).log (ok.node m).log).at i x y

  pub ballots_rise : (es fs : List BallotEvent) (n : ℕ) → ((ballot_run g es (ballot_start g)).node n).ballot ≤ ((ballot_run g (es ++ fs) (ballot_start g)).node n).ballot
  ballots_rise es fs n =
      let a = run_next g some (ballot_start g) es (start_safe g) in
      subst (λ w. ((ballot_run g es (ballot_start g)).node n).ballot ≤ (w.node n).ballot) (sym (run_append es fs (ballot_start g)))
      ((run_next g some (ballot_run g es (ballot_start g)) fs a.safe).later.ballots n)
