-- The leader's own that a quorum has accepted are those below what is accepted.
use Rattle.std.proofs.Common.{◌≡◌, ◌∙◌, ◌&&◌, ◌<◌, ◌≤◌, ℕ, List, ap, sym, refl, arith, inl, inr}
use Rattle.std.specs.Prelude.{Bool, true, false, Option, None, max, nat_eq, nat_le, nat_lt, filter}
use Rattle.std.specs.List.{AllByRecursion, last_or}
use Rattle.std.proofs.lemmas.Bool.{and_right, le-leb, leb-true}
use Rattle.std.proofs.lemmas.Bool.Decides.{leb_tells}
use Rattle.raft_values.specs.declared.vote.Vote.{Vote}
use Rattle.raft_values.specs.declared.log_id.LogId.{LogId}
use Rattle.raft_leaders.specs.Leader.{LeaderValue, end_of, is_of_leader}
use Rattle.raft_leaders.specs.Accepted.{IsAcceptedEnd, WroteNoneWithin, greatest_accepted, has_accepted, last_own_within, may_be_committed}
use Rattle.raft_leaders.proofs.OwnLemmas.{filter-agrees, is_own_within, none_between}
use Rattle.raft_leaders.proofs.accepted.greatest_accepted.Goals as goal

-- below the end the two tests agree
module _ {Q : Type 0} (own : ℕ) (leader : LeaderValue ℕ Q) (accepts : (ℕ → Bool) → Bool) (from end reached : ℕ) (just : IsAcceptedEnd own leader accepts from end reached) where
  abbrev may : LogId ℕ → Bool
  may x = nat_le from x.index && may_be_committed own leader accepts end x

  agree : (x : LogId ℕ) → x.index < end → is_own_within leader.vote.leader_id from reached x ≡ may x
  agree x h =
      elim (nat_le from x.index) as (λ b. nat_le from x.index ≡ b
      → (is_of_leader nat_eq leader.vote.leader_id x && (b && nat_lt x.index reached)) ≡ (b && may_be_committed own leader accepts end x)) [
        | true ↦ λ t. ap (λ b. is_of_leader nat_eq leader.vote.leader_id x && b) (sym (just x.index (leb-true from x.index t) h))
        | false ↦ λ f. and_right (is_of_leader nat_eq leader.vote.leader_id x) false refl
      ] refl

  found : (ids : List (LogId ℕ)) → end ≡ end_of ids → AllByRecursion (λ x. x.index < end) ids
      → last_own_within leader.vote.leader_id from reached ids ≡ greatest_accepted own leader accepts from ids
  found ids ends below =
      ap (last_or None) (filter-agrees (is_own_within leader.vote.leader_id from reached) may (λ x. x.index < end) agree ids below)
      ∙ ap (λ n. last_or None (filter (λ x. nat_le from x.index && may_be_committed own leader accepts n x) ids)) ends

-- where the leader wrote none below its first entry, it matters not from which of the lower places on
module _ {Q : Type 0} (own : ℕ) (leader : LeaderValue ℕ Q) (accepts : (ℕ → Bool) → Bool) (from lowest : ℕ) (above : from ≤ lowest)
    (least : (place : ℕ) → from ≤ place → leader.noop_log_id.index ≤ place → lowest ≤ place) where
  same_test : (place : ℕ) → (from ≤ place → leader.noop_log_id.index ≤ place) → nat_le lowest place ≡ nat_le from place
  same_test place first =
      elim (leb_tells from place) [
        | inl w ↦ le-leb lowest place (least place w.1 (first w.1)) ∙ sym w.0
        | inr w ↦ elim (leb_tells lowest place) [
          | inl v ↦ absurd (omega (arith, v.1, w.1, above))
          | inr v ↦ v.0 ∙ sym w.0
        ]
      ]

  same_may : (end : ℕ) (x : LogId ℕ) → (is_of_leader nat_eq leader.vote.leader_id x ≡ true → from ≤ x.index → leader.noop_log_id.index ≤ x.index)
      → (nat_le lowest x.index && may_be_committed own leader accepts end x) ≡ (nat_le from x.index && may_be_committed own leader accepts end x)
  same_may end x first =
      elim (is_of_leader nat_eq leader.vote.leader_id x) as (λ b. is_of_leader nat_eq leader.vote.leader_id x ≡ b
      → (nat_le lowest x.index && (b && accepts (has_accepted own leader end x.index))) ≡ (nat_le from x.index && (b && accepts (has_accepted own leader end x.index)))) [
        | true ↦ λ t. ap (λ b. b && accepts (has_accepted own leader end x.index)) (same_test x.index (first t))
        | false ↦ λ f. and_right (nat_le lowest x.index) false refl ∙ sym (and_right (nat_le from x.index) false refl)
      ] refl

  from_first : (ids : List (LogId ℕ)) → WroteNoneWithin leader.vote.leader_id from leader.noop_log_id.index ids
      → greatest_accepted own leader accepts lowest ids ≡ greatest_accepted own leader accepts from ids
  from_first ids wrote =
      ap (last_or None)
      (filter-agrees (λ x. nat_le lowest x.index && may_be_committed own leader accepts (end_of ids) x) (λ x. nat_le from x.index && may_be_committed own leader accepts (end_of ids) x)
      (λ x. is_of_leader nat_eq leader.vote.leader_id x ≡ true → from ≤ x.index → leader.noop_log_id.index ≤ x.index) (same_may (end_of ids)) ids wrote)

-- what is asked for from the first entry on, and so from any lower place
module _ {Q : Type 0} (own : ℕ) (leader : LeaderValue ℕ Q) (accepts : (ℕ → Bool) → Bool) (from lowest : ℕ) (lowest_is : lowest ≡ max from leader.noop_log_id.index)
    (ids : List (LogId ℕ)) (result : Option (LogId ℕ)) (is : result ≡ greatest_accepted own leader accepts lowest ids) where
  of_any : result ≡ greatest_accepted own leader accepts (max from leader.noop_log_id.index) ids
  of_any = is ∙ ap (λ place. greatest_accepted own leader accepts place ids) lowest_is

  of_log : WroteNoneWithin leader.vote.leader_id from leader.noop_log_id.index ids → result ≡ greatest_accepted own leader accepts from ids
  of_log wrote = is ∙ from_first own leader accepts from lowest (omega (arith, lowest_is)) (λ place a b. omega (arith, lowest_is)) ids wrote

pub returns-then-reached-lowest : goal.returns-then-reached-lowest
returns-then-reached-lowest g c =
    let leader = c.args.leader.now in
    let accepts = g.VS.QuorumSet.accepts c.args.voters.now in
    let ids = c.args.log_ids.now in
    let lowest = c.max-lowest.result in
    let reached = c.accepted_end-reached.result in
    let lowest_is = c.max-lowest.ensures ∙ ap (λ (id : LogId ℕ). max c.args.from id.index) c.noop_log_id.ensures in
    let is : None ≡ greatest_accepted c.args.own leader accepts lowest ids =
    sym (ap (last_or None) (none_between leader.vote.leader_id lowest reached c.if-reached-lowest.true ids))
    ∙ found c.args.own leader accepts lowest c.end_of_log-end.result reached c.accepted_end-reached.ensures ids c.end_of_log-end.ensures.end c.end_of_log-end.ensures.below in
    record {
      of_log = of_log c.args.own leader accepts c.args.from lowest lowest_is ids None is;
      of_any = of_any c.args.own leader accepts c.args.from lowest lowest_is ids None is;
    }

pub returns : goal.returns
returns g c =
    let leader = c.args.leader.now in
    let accepts = g.VS.QuorumSet.accepts c.args.voters.now in
    let ids = c.args.log_ids.now in
    let lowest = c.max-lowest.result in
    let reached = c.accepted_end-reached.result in
    let lowest_is = c.max-lowest.ensures ∙ ap (λ (id : LogId ℕ). max c.args.from id.index) c.noop_log_id.ensures in
    let is =
    c.last_own_within.ensures ∙ ap (λ (v : Vote ℕ). last_own_within v.leader_id lowest reached ids) c.vote_ref.ensures
    ∙ found c.args.own leader accepts lowest c.end_of_log-end.result reached c.accepted_end-reached.ensures ids c.end_of_log-end.ensures.end c.end_of_log-end.ensures.below in
    record {
      of_log = of_log c.args.own leader accepts c.args.from lowest lowest_is ids c.last_own_within.result is;
      of_any = of_any c.args.own leader accepts c.args.from lowest lowest_is ids c.last_own_within.result is;
    }
