-- What a leader may commit is the greatest of its own entries up to which a quorum has accepted its log.
use Rattle.std.specs.Prelude.{◌≡◌, ℕ, suc, ◌+◌, ◌-◌, ◌*◌, ◌^◌, ◌<◌, ◌≤◌, ◌==◌, ◌&&◌, min, nat_eq, nat_le, nat_lt, Bool, true, false, not, cond, if◌then◌else◌, count_by, filter, List, [], ◌∷◌, ◌++◌, length, Option, Some, None, option_map, refl}
use Rattle.std.specs.List.{fold, last_or, list_all}
use Rattle.std.proofs.Common.{sym, ap, ◌∙◌, subst, arith}
use Rattle.std.proofs.lemmas.Bool.{leb-true, leb-false, le-leb}
use Rattle.raft_values.specs.declared.vote.Vote.{Vote}
use Rattle.raft_values.specs.declared.log_id.LogId.{LogId}
use Rattle.raft_values.specs.LogId.{next_place, place_of, reaches}
use Rattle.raft_log_ids.specs.LogIdList.{last_id}
use Rattle.raft_quorums.specs.Quorum.{is_majority, is_quorum}
use Rattle.raft_group_step.specs.Values.{Entry, leader_eq}
use Rattle.raft_group_step.specs.StoredGroup.{StoredGroup, end_place, first_place, membership_in_force}
use Rattle.raft_group_step.specs.Peer.{PeerState}
use Rattle.raft_group_step.specs.GroupState.{GroupState, Role, Follower, Candidate, Leader, Lead, Untold}
use Rattle.raft_group_step.specs.StepResult.{StepResult, apply_up_to, is_within, later_place}
use Rattle.raft_group_step.specs.Lead.{commit_as_leader, configs_in_force, has_accepted, last_place, may_be_committed}
use Rattle.raft_group_step.specs.Frames.{committed_id}
use Rattle.raft_known_state.specs.KnownState.{ArePlaced, IsPlaced, effective_of, entry_ids, purged_ids, stored_ids}
use Rattle.raft_known_state.proofs.PlacedIds.{Placed}
use Rattle.raft_known_state.proofs.KnownStateLemmas.{end-known, start_of, stored_end, stored_placed}
use Rattle.raft_leaders.specs.Accepted.{WroteNoneWithin, greatest_accepted, has_accepted as has_accepted_by, may_be_committed as may_be_committed_by}
use Rattle.raft_engine.proofs.WrittenLemmas.{wrote_within}
use Rattle.raft_leaders.specs.Candidate.{CandidateValue}
use Rattle.raft_leaders.specs.Leader.{LeaderValue, end_of, peer_at}
use Rattle.raft_engine.specs.Following.{EndsWithin}
use Rattle.raft_engine.specs.Standing.{EffectiveMembership, Engine, Given, IsInOrder, IsStepOf, Leads, PlaysRole}
use Rattle.raft_engine.proofs.FollowingLemmas.{later_same, past_committed}
use Rattle.raft_engine.proofs.CandidateLemmas.{configs_are}

-- ---- the same quorums

module _ (p q : ℕ → Bool) (same : (n : ℕ) → p n ≡ q n) where
  count_from : (n : ℕ) (xs : List ℕ) → fold (λ a x. a + cond (p x) 1 0) n xs ≡ fold (λ a x. a + cond (q x) 1 0) n xs
  count_from n [] = refl
  count_from n (x ∷ xs) = ap (λ b. fold (λ a y. a + cond (p y) 1 0) (n + cond b 1 0) xs) (same x) ∙ count_from (n + cond (q x) 1 0) xs

  count_same : (xs : List ℕ) → count_by p xs ≡ count_by q xs
  count_same xs = count_from 0 xs

  quorum_same : (configs : List (List ℕ)) → is_quorum configs p ≡ is_quorum configs q
  quorum_same [] = refl
  quorum_same (group ∷ configs) =
      ap (λ n. nat_lt (length group) (2 * n) && list_all (is_majority p) configs) (count_same group)
      ∙ ap (λ b. nat_lt (length group) (2 * count_by q group) && b) (quorum_same configs)

filter_same : {X : Type 0} (p q : X → Bool) → ((x : X) → p x ≡ q x) → (xs : List X) → filter p xs ≡ filter q xs
filter_same p q same [] = refl
filter_same p q same (x ∷ xs) = ap (λ b. cond b (x ∷ filter p xs) (filter p xs)) (same x) ∙ ap (λ ys. cond (q x) (x ∷ ys) ys) (filter_same p q same xs)

reaches_within : (found : Option (LogId ℕ)) (place : ℕ) → reaches found place ≡ is_within place (place_of found)
reaches_within None place = refl
reaches_within (Some id) place = refl

-- ---- the last log id that may be committed

module _ (test : LogId ℕ → Bool) where
  abbrev entrys_place : Option Entry → Option ℕ
  entrys_place found = option_map (λ (e : Entry). e.log_id.index) found

  same_last : (log : List Entry) (e : Entry) → place_of (last_or (Some e.log_id) (filter test (entry_ids log))) ≡ entrys_place (last_or (Some e) (filter (λ (y : Entry). test y.log_id) log))
  same_last [] e = refl
  same_last (x ∷ log) e =
      elim (test x.log_id) as (λ b. place_of (last_or (Some e.log_id) (cond b (x.log_id ∷ filter test (entry_ids log)) (filter test (entry_ids log))))
      ≡ entrys_place (last_or (Some e) (cond b (x ∷ filter (λ (y : Entry). test y.log_id) log) (filter (λ (y : Entry). test y.log_id) log)))) [
        | true ↦ same_last log x
        | false ↦ same_last log e
      ]

  module _ (c : Option ℕ) where
    -- where the log has none, what stands before it counts for nothing
    later_last : (log : List Entry) (d : Option (LogId ℕ)) → later_place c (place_of d) ≡ later_place c None
        → later_place c (place_of (last_or d (filter test (entry_ids log)))) ≡ later_place c (entrys_place (last_or None (filter (λ (y : Entry). test y.log_id) log)))
    later_last [] d h = h
    later_last (x ∷ log) d h =
        elim (test x.log_id) as (λ b. later_place c (place_of (last_or d (cond b (x.log_id ∷ filter test (entry_ids log)) (filter test (entry_ids log)))))
        ≡ later_place c (entrys_place (last_or None (cond b (x ∷ filter (λ (y : Entry). test y.log_id) log) (filter (λ (y : Entry). test y.log_id) log))))) [
          | true ↦ ap (later_place c) (same_last log x)
          | false ↦ later_last log d h
        ]

    later_stored : (gone : Option (LogId ℕ)) (log : List Entry) → ((id : LogId ℕ) → gone ≡ Some id → is_within id.index c ≡ true)
        → later_place c (place_of (last_or None (filter test (purged_ids gone ++ entry_ids log)))) ≡ later_place c (entrys_place (last_or None (filter (λ (y : Entry). test y.log_id) log)))
    later_stored None log h = later_last log None refl
    later_stored (Some id) log h =
        let covered : later_place c (Some id.index) ≡ later_place c None =
        later_same c (Some id.index) (λ p e. let same : id.index ≡ p = cc e in subst (λ n. is_within n c ≡ true) same (h id refl)) ∙ sym (later_same c None (λ p e. cc e)) in
        elim (test id) as (λ b. later_place c (place_of (last_or None (cond b (id ∷ filter test (entry_ids log)) (filter test (entry_ids log)))))
        ≡ later_place c (entrys_place (last_or None (filter (λ (y : Entry). test y.log_id) log)))) [
          | true ↦ later_last log (Some id) covered
          | false ↦ later_last log None refl
        ]

  module _ (c : Option ℕ) (from : ℕ) (within : (n : ℕ) → n < from → is_within n c ≡ true) where
    abbrev passes : Entry → Bool
    passes y = test y.log_id

    abbrev passes_from : Entry → Bool
    passes_from y = nat_le from y.log_id.index && test y.log_id

    -- entries that stand from the place on all count
    all_from : (log : List Entry) (place : ℕ) → ArePlaced place log → from ≤ place → filter passes_from log ≡ filter passes log
    all_from [] place p l = refl
    all_from (x ∷ log) place p l =
        ap (λ b. cond (b && test x.log_id) (x ∷ filter passes_from log) (filter passes_from log)) (le-leb from x.log_id.index (let at : x.log_id.index ≡ place = p.0 in omega arith))
        ∙ ap (λ ys. cond (test x.log_id) (x ∷ ys) ys) (all_from log (suc place) p.1 (omega arith))

    covers : (x : Entry) → nat_le from x.log_id.index ≡ false → later_place c (Some x.log_id.index) ≡ later_place c None
    covers x f =
        let low : x.log_id.index < from = leb-false from x.log_id.index f in
        later_same c (Some x.log_id.index) (λ p e. let same : x.log_id.index ≡ p = cc e in subst (λ n. is_within n c ≡ true) same (within x.log_id.index low))
        ∙ sym (later_same c None (λ p e. cc e))

    -- where all below the place is committed, those before it count for nothing
    later_from : (log : List Entry) (place : ℕ) → ArePlaced place log → (d : Option Entry) → later_place c (entrys_place d) ≡ later_place c None
        → later_place c (entrys_place (last_or d (filter passes log))) ≡ later_place c (entrys_place (last_or None (filter passes_from log)))
    later_from [] place p d h = h
    later_from (x ∷ log) place p d h =
        elim (nat_le from x.log_id.index) as (λ b. nat_le from x.log_id.index ≡ b → later_place c (entrys_place (last_or d (cond (test x.log_id) (x ∷ filter passes log) (filter passes log))))
        ≡ later_place c (entrys_place (last_or None (cond (b && test x.log_id) (x ∷ filter passes_from log) (filter passes_from log))))) [
          | true ↦ λ t.
              let up : from ≤ x.log_id.index = leb-true from x.log_id.index t in
              let at : x.log_id.index ≡ place = p.0 in
              elim (test x.log_id) as (λ b. later_place c (entrys_place (last_or d (cond b (x ∷ filter passes log) (filter passes log))))
              ≡ later_place c (entrys_place (last_or None (cond b (x ∷ filter passes_from log) (filter passes_from log))))) [
                | true ↦ ap (λ ys. later_place c (entrys_place (last_or (Some x) ys))) (sym (all_from log (suc place) p.1 (omega arith)))
                | false ↦ later_from log (suc place) p.1 d h
              ]
          | false ↦ λ f.
              elim (test x.log_id) as (λ b. later_place c (entrys_place (last_or d (cond b (x ∷ filter passes log) (filter passes log))))
              ≡ later_place c (entrys_place (last_or None (filter passes_from log)))) [
                | true ↦ later_from log (suc place) p.1 (Some x) (covers x f)
                | false ↦ later_from log (suc place) p.1 d h
              ]
        ] refl

  abbrev IsBelow : ℕ → Option (LogId ℕ) → Type 0
  IsBelow end None = Unit {0}
  IsBelow end (Some id) = id.index < end

  last_below : (ids : List (LogId ℕ)) (place end : ℕ) → Placed place ids → place + length ids ≤ end → (d : Option (LogId ℕ)) → IsBelow end d → IsBelow end (last_or d (filter test ids))
  last_below [] place end p l d h = h
  last_below (x ∷ ids) place end p l d h =
      elim (test x) as (λ b. IsBelow end (last_or d (cond b (x ∷ filter test ids) (filter test ids)))) [
        | true ↦ last_below ids (suc place) end p.1 (omega arith) (Some x) (let at : x.index ≡ place = p.0 in omega arith)
        | false ↦ last_below ids (suc place) end p.1 (omega arith) d h
      ]

  ends_below : (end : ℕ) (found : Option (LogId ℕ)) → IsBelow end found → (p : ℕ) → place_of found ≡ Some p → p < end
  ends_below end None h p e = cc e
  ends_below end (Some id) h p e = let same : id.index ≡ p = cc e in subst (λ n. n < end) same h

  stored_below : (s : StoredGroup) → IsPlaced s → (p : ℕ) → place_of (last_or None (filter test (stored_ids s))) ≡ Some p → p < end_place s
  stored_below s placed p e =
      let ends : start_of s.purged + length (stored_ids s) ≡ end_place s = stored_end s.purged s.log in
      ends_below (end_place s) (last_or None (filter test (stored_ids s)))
      (last_below (stored_ids s) (start_of s.purged) (end_place s) (stored_placed s.purged s.log placed) (omega arith) None tt) p e

-- ---- what a leader commits

applied_alike : (a b : Option ℕ) (r : StepResult) → later_place r.state.committed a ≡ later_place r.state.committed b → apply_up_to a r ≡ apply_up_to b r
applied_alike a b r e =
    ap (λ upto.
    record r {
      state = record r.state { committed = upto; applied = upto; untold = filter (λ (y : Untold). not (is_within y.place upto)) r.state.untold };
      told = r.told ++ filter (λ (y : Untold). is_within y.place upto) r.state.untold;
    }) e

lead_of : (own : ℕ) (l : LeaderValue ℕ EffectiveMembership) (c : Option (CandidateValue ℕ EffectiveMembership)) (s : StoredGroup) (role : Role)
    → PlaysRole own (Some l) c s role → (lead : Lead) × (role ≡ Leader lead) × Leads own l s lead
lead_of own l c s Follower h = absurd h
lead_of own l c s (Candidate granters) h = absurd h
lead_of own l None s (Leader lead) h = (lead, refl, h)
lead_of own l (Some c) s (Leader lead) h = absurd h

purged_within : (s : GroupState) → IsInOrder s → (id : LogId ℕ) → s.stored.purged ≡ Some id → is_within id.index s.committed ≡ true
purged_within s o id e = by_test (is_within id.index s.committed) refl
  where
    by_test : (b : Bool) → is_within id.index s.committed ≡ b → b ≡ true
    by_test true f = refl
    by_test false f =
        let past : next_place (committed_id s) ≤ id.index = past_committed (committed_id s) s.committed id.index o.committed f in
        let first : next_place s.stored.purged ≡ id.index + 1 = ap next_place e in
        let a = o.purged in
        let b = o.snapshot in absurd (omega arith)

module _ {C R : Type 0} (x : Given) (own : ℕ) (e : Engine C R) (r : StepResult) (step : IsStepOf x own e r) where
  -- behind what is committed, the leader wrote nothing below its first entry
  pub wrote_known : (l : LeaderValue ℕ EffectiveMembership) → e.leader ≡ Some l → (from : ℕ) → from ≡ next_place (committed_id r.state)
      → WroteNoneWithin l.vote.leader_id from l.noop_log_id.index e.state.state.log_ids
  wrote_known l led from behind =
      let s = r.state.stored in
      let leads = lead_of own l e.candidate s r.state.role (subst (λ o. PlaysRole own o e.candidate s r.state.role) led step.state.role) in
      let a = step.state.order.purged in
      let b = step.state.order.snapshot in
      let gone : next_place s.purged ≤ from = omega (arith, a, b, behind) in
      subst (WroteNoneWithin l.vote.leader_id from l.noop_log_id.index) (sym step.state.knows.ids)
      (wrote_within l.vote.leader_id from l.noop_log_id.index s.purged (entry_ids s.log) gone leads.2.wrote)

  -- what is looked at begins behind what is committed
  pub from_is : (from : ℕ) → from ≡ min (next_place e.state.state.committed) (2 ^ 64 - 1) → next_place (last_id e.state.state.log_ids) < 2 ^ 63 → from ≡ next_place (committed_id r.state)
  from_is from is low =
      let same : next_place e.state.state.committed ≡ next_place (committed_id r.state) = ap next_place step.state.committed in
      let end : next_place (last_id e.state.state.log_ids) ≡ end_place r.state.stored =
      ap (λ ids. next_place (last_id ids)) step.state.knows.ids ∙ end-known r.state.stored step.state.order.placed in
      let within : next_place (committed_id r.state) ≤ end_place r.state.stored = step.state.order.within in
      omega (arith, is, same, end, within, low)

  module _ (l : LeaderValue ℕ EffectiveMembership) (led : e.leader ≡ Some l) (voters : EffectiveMembership) (in_force : voters ≡ effective_of (membership_in_force r.state.stored))
      (from : ℕ) (behind : from ≡ next_place (committed_id r.state))
      (found : Option (LogId ℕ)) (greatest : found ≡ greatest_accepted own l (is_quorum voters.membership.configs) from e.state.state.log_ids) where
    leads : (lead : Lead) × (r.state.role ≡ Leader lead) × Leads own l r.state.stored lead
    leads = lead_of own l e.candidate r.state.stored r.state.role (subst (λ o. PlaysRole own o e.candidate r.state.stored r.state.role) led step.state.role)

    abbrev may_commit : LogId ℕ → Bool
    may_commit id =
        leader_eq id.leader_id r.state.stored.vote.leader_id && is_quorum (configs_in_force r.state.stored) (has_accepted own r.state.stored leads.0 id.index)

    accepted_same : (place n : ℕ) → has_accepted_by own l (end_of (stored_ids r.state.stored)) place n ≡ has_accepted own r.state.stored leads.0 place n
    accepted_same place n =
        ap (λ end. if n == own then nat_lt place end else reaches (peer_at nat_eq l n).matching place) (end-known r.state.stored step.state.order.placed)
        ∙ ap (λ b. if n == own then nat_lt place (end_place r.state.stored) else b)
        (reaches_within (peer_at nat_eq l n).matching place ∙ ap (λ (p : PeerState). is_within place (place_of p.matched)) (sym (leads.2.peers n)))

    test_same : (id : LogId ℕ) → may_be_committed_by own l (is_quorum voters.membership.configs) (end_of (stored_ids r.state.stored)) id ≡ may_commit id
    test_same id =
        ap (λ (v : Vote ℕ). leader_eq id.leader_id v.leader_id && is_quorum voters.membership.configs (has_accepted_by own l (end_of (stored_ids r.state.stored)) id.index)) leads.2.vote
        ∙ ap (λ b. leader_eq id.leader_id r.state.stored.vote.leader_id && b)
        (ap (λ configs. is_quorum configs (has_accepted_by own l (end_of (stored_ids r.state.stored)) id.index))
        (ap (λ (m : EffectiveMembership). m.membership.configs) in_force ∙ configs_are (membership_in_force r.state.stored))
        ∙ quorum_same (has_accepted_by own l (end_of (stored_ids r.state.stored)) id.index) (has_accepted own r.state.stored leads.0 id.index) (accepted_same id.index) (configs_in_force r.state.stored))

    abbrev may_commit_from : LogId ℕ → Bool
    may_commit_from id = nat_le from id.index && may_commit id

    found_is : found ≡ last_or None (filter may_commit_from (stored_ids r.state.stored))
    found_is =
        greatest ∙ ap (greatest_accepted own l (is_quorum voters.membership.configs) from) step.state.knows.ids
        ∙ ap (last_or None)
        (filter_same (λ id. nat_le from id.index && may_be_committed_by own l (is_quorum voters.membership.configs) (end_of (stored_ids r.state.stored)) id) may_commit_from
        (λ id. ap (λ b. nat_le from id.index && b) (test_same id)) (stored_ids r.state.stored))

    -- the place is in the log
    pub found_within : EndsWithin (place_of found) r.state.stored
    found_within = λ p at. stored_below may_commit_from r.state.stored step.state.order.placed p (ap place_of (sym found_is) ∙ at)

    within_committed : (n : ℕ) → n < from → is_within n r.state.committed ≡ true
    within_committed n low =
        elim (is_within n r.state.committed) as (λ b. is_within n r.state.committed ≡ b → b ≡ true) [
          | true ↦ λ t. refl
          | false ↦ λ f.
              let past : next_place (committed_id r.state) ≤ n = past_committed (committed_id r.state) r.state.committed n step.state.order.committed f in
              absurd (omega (arith, behind))
        ] refl

    -- and all up to it is what the leader may commit
    pub commits : apply_up_to (place_of found) r ≡ commit_as_leader own r.state.role r
    commits =
        applied_alike (place_of found) (last_place (filter (may_be_committed own r.state.stored leads.0) r.state.stored.log)) r
        (ap (λ o. later_place r.state.committed (place_of o)) found_is
        ∙ later_stored may_commit_from r.state.committed r.state.stored.purged r.state.stored.log (purged_within r.state step.state.order)
        ∙ sym (later_from may_commit r.state.committed from within_committed r.state.stored.log (first_place r.state.stored) step.state.order.placed None refl))
        ∙ sym (ap (λ role. commit_as_leader own role r) leads.1)
