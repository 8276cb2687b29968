-- The first set-up, a vote that is taken over, a commit and its loss.
use Rattle.std.proofs.Common.{◌≡◌, ℕ, zero, suc, ◌<◌, ◌≤◌, [], ◌∷◌, length, min, max, Option, Some, None, Bool, true, false, refl, sym, ap, ◌∙◌, subst, arith, inr, eqb-true}
use Rattle.std.specs.Prelude.{slice_get}
use Rattle.std.proofs.lemmas.Bool.{and_parts}
use Rattle.raft_laws.specs.BallotLists.{AgreeBelow}
use Rattle.raft_laws.specs.BallotLogs.{BallotEntry}
use Rattle.raft_laws.specs.BallotQuorum.{is_quorum}
use Rattle.raft_laws.specs.BallotWorld.{BallotGroup, BallotNode, BallotWorld, first_entry, ballot_accepted, is_of, is_ballot_settled, moved, founded, raised, committed_to, forgotten}
use Rattle.raft_laws.proofs.BallotAgreement.{agree_refl, agree_none, same_some}
use Rattle.raft_laws.proofs.BallotQuorums.{quorums_meet}
use Rattle.raft_laws.proofs.BallotSafe.{GoodLog, IsFixed, Sure, Safe}
use Rattle.raft_laws.proofs.BallotStep.{Shows, keeps_grown, good_on, fixed_on, sure_on, sure_more}
use Rattle.raft_laws.proofs.BallotFacts.{accepted_within, accepted_led, logs_with}
use Rattle.raft_laws.proofs.BallotQuiet

is_of-some : (o : Option BallotEntry) (b : ℕ) → is_of o b ≡ true → (x : BallotEntry) × (o ≡ Some x) × (x.ballot ≡ b)
is_of-some None b h = absurd (let e : false ≡ true = h in cc)
is_of-some (Some x) b h = (x, refl, eqb-true x.ballot b h)

pub settled_fixed : {g : BallotGroup} {w : BallotWorld} → 0 < length g.voters → Safe g w → (b i : ℕ) → is_ballot_settled g w b i ≡ true → IsFixed g w b i
settled_fixed {g} {w} some ok b i h =
    let parts = and_parts (is_of (slice_get (w.lead b) i) b) (is_quorum g.voters (ballot_accepted w.replies b i)) h in
    let x = is_of-some (slice_get (w.lead b) i) b parts.0 in
    let member = quorums_meet g.voters (ballot_accepted w.replies b i) (ballot_accepted w.replies b i) some parts.1 parts.1 in
    record {
      quorum = parts.1;
      own = λ y e. ap (λ z. z.ballot) (same_some (sym e ∙ x.1)) ∙ x.2;
      led = accepted_led ok b i member.0 member.1;
      within = accepted_within ok b i member.0 member.1;
    }

module _ (g : BallotGroup) (w : BallotWorld) (n : ℕ) (ok : Safe g w) where
  -- the first set-up
  module _ (at : (w.node n).ballot ≡ 0) (none : (w.node n).log ≡ []) where
    good_first : GoodLog w.lead w.led (first_entry g ∷ []) (w.node n).ballot
    good_first = record { matches = matches; known = known; rising = rising; capped = capped }
      where
        matches : (j : ℕ) (x : BallotEntry) → slice_get (first_entry g ∷ []) j ≡ Some x → AgreeBelow (suc j) (first_entry g ∷ []) (w.lead x.ballot)
        matches zero x e = subst (λ y. AgreeBelow 1 (first_entry g ∷ []) (w.lead y.ballot)) (same_some e) ok.first
        matches (suc j) x e = absurd (let f : None ≡ Some x = e in cc)

        known : (j : ℕ) (x : BallotEntry) → slice_get (first_entry g ∷ []) j ≡ Some x → 0 < x.ballot → w.led x.ballot ≡ true
        known zero x e pos = absurd (let b = ap (λ y. y.ballot) (same_some e) in omega arith)
        known (suc j) x e pos = absurd (let f : None ≡ Some x = e in cc)

        capped : (j : ℕ) (x : BallotEntry) → slice_get (first_entry g ∷ []) j ≡ Some x → x.ballot ≤ (w.node n).ballot
        capped zero x e = let b = ap (λ y. y.ballot) (same_some e) in omega arith
        capped (suc j) x e = absurd (let f : None ≡ Some x = e in cc)

        rising : (j k : ℕ) (x y : BallotEntry) → j ≤ k → slice_get (first_entry g ∷ []) j ≡ Some x → slice_get (first_entry g ∷ []) k ≡ Some y → x.ballot ≤ y.ballot
        rising j k x y l e f = let b = capped j x e in omega arith

    pub shows_founded : Shows g n w (founded g w n)
    shows_founded =
        let more : AgreeBelow (length (w.node n).log) (w.node n).log (first_entry g ∷ []) =
        subst (λ xs. AgreeBelow (length xs) xs (first_entry g ∷ [])) (sym none) (agree_none (first_entry g ∷ []))
        in
        BallotQuiet.shows g w n _ (omega arith) ok (keeps_grown (logs_with w n _ more))
        (record {
          log = good_first;
          leads = λ c pos p. absurd (omega arith);
          stands = λ c pos p. absurd (omega arith);
          own = (ok.node n).own;
          sure = sure_more more (sure_on (BallotQuiet.grows g w n (record (w.node n) { log = first_entry g ∷ [] }) (omega arith) ok) (w.node n).ballot (omega arith) (ok.node n).sure);
        })

  -- a vote of another node
  pub shows_raised : (b : ℕ) (committed : Bool) → (g.owner b ≡ n → ⊥) → (w.node n).ballot ≤ b → Shows g n w (raised w n b committed)
  shows_raised b committed o le =
      let s : BallotNode = record (w.node n) { ballot = b; committed = committed } in
      let grows = BallotQuiet.grows g w n s le ok in
      BallotQuiet.shows g w n s le ok (keeps_grown (logs_with w n s (agree_refl _ _ (omega arith))))
      (BallotQuiet.stranger ok refl o le (good_on grows b le (ok.node n).log) (sure_on grows b le (ok.node n).sure))

  -- another count of committed entries
  counted : (commit : ℕ) → Sure g (moved w n (record (w.node n) { commit = commit })) (w.node n).ballot commit (w.node n).log → Shows g n w (moved w n (record (w.node n) { commit = commit }))
  counted commit sure =
      let s : BallotNode = record (w.node n) { commit = commit } in
      let same : (w.node n).ballot ≤ (w.node n).ballot = omega arith in
      let grows = BallotQuiet.grows g w n s same ok in
      BallotQuiet.shows g w n s same ok (keeps_grown (logs_with w n s (agree_refl _ _ (omega arith))))
      (record {
        log = good_on grows (w.node n).ballot (omega arith) (ok.node n).log;
        leads = (ok.node n).leads;
        stands = (ok.node n).stands;
        own = (ok.node n).own;
        sure = sure;
      })

  pub shows_forgotten : (commit : ℕ) → Shows g n w (forgotten w n commit)
  shows_forgotten commit =
      counted (min commit (w.node n).commit)
      (BallotQuiet.sure_less (min commit (w.node n).commit) (omega arith) (sure_on (BallotQuiet.grows g w n (record (w.node n) { commit = min commit (w.node n).commit }) (omega arith) ok) (w.node n).ballot (omega arith) (ok.node n).sure))

  pub shows_committed : (some : 0 < length g.voters) (leads : (w.node n).committed ≡ true) (pos : 0 < (w.node n).ballot) (o : g.owner (w.node n).ballot ≡ n) (place : ℕ) → is_ballot_settled g w (w.node n).ballot place ≡ true → Shows g n w (committed_to w n place)
  shows_committed some leads pos o place h =
      let f = settled_fixed some ok (w.node n).ballot place h in
      let grows = BallotQuiet.grows g w n (record (w.node n) { commit = max (w.node n).commit (suc place) }) (omega arith) ok in
      let lead = ((ok.node n).leads leads pos o).0 in
      counted (max (w.node n).commit (suc place))
      (BallotQuiet.sure_max (w.node n).commit (suc place)
      (sure_on grows (w.node n).ballot (omega arith) (ok.node n).sure)
      (inr (record {
        ballot = (w.node n).ballot;
        place = place;
        below = omega arith;
        upto = omega arith;
        fixed = fixed_on grows f;
        agrees = subst (λ xs. AgreeBelow (suc place) xs (w.lead (w.node n).ballot)) (sym lead) (agree_refl (suc place) (w.lead (w.node n).ballot) f.within);
      })))
