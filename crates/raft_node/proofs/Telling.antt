-- What a node tells of its groups, when a lease is over, and when a node leads.
use Rattle.std.proofs.Common.{◌≡◌, ◌∙◌, ℕ, ap, sym, subst, arith, refl}
use Rattle.std.specs.Prelude.{◌+◌, Bool, true, false, nat_lt, if◌then◌else◌, is_some, Option, Some, None, List, IfOk, Result, Ok, Err}
use Rattle.std.specs.Ordering.{eq_by_cmp, nat_cmp}
use Rattle.std.specs.List.Sorted.{IsStrictlySortedBy}
use Rattle.std.specs.Set.{is_member}
use Rattle.std.proofs.lemmas.Bool.Decides.{nat_tests}
use Rattle.raft_values.specs.declared.log_id.LogId.{LogId}
use Rattle.raft_values.specs.declared.vote.Vote.{Vote}
use Rattle.raft_engine.proofs.TurnLemmas.{led_role, unled_role}
use Rattle.raft_engine.specs.Standing.{IsStateOf, PlaysRole}
use Rattle.raft_group_step.specs.GroupState.{GroupState, is_leader}
use Rattle.raft_group_step.specs.StoredGroup.{last_id}
use Rattle.raft_group_step.specs.VoteRequest.{is_recent, is_under_lease, lease}
use Rattle.raft_list_facts.specs.Leads.{base_of, leading_of}
use Rattle.raft_list_facts.specs.declared.leading.Base.{Base}
use Rattle.raft_list_facts.specs.declared.leading.Leading.{Leading}
use Rattle.raft_member.specs.Member.{Engine}
use Rattle.raft_node.specs.Reading.{behind_lease, free_from}

-- ids that are answered are these
module _ {V E : Type 0} (items : V → List ℕ) (ids : List ℕ) where
  pub rises_so : (r : Result V E) → IsStrictlySortedBy nat_cmp ids → IfOk r (λ v. items v ≡ ids) → IfOk r (λ v. IsStrictlySortedBy nat_cmp (items v))
  rises_so (Ok v) rising same = subst (IsStrictlySortedBy nat_cmp) (sym same) rising
  rises_so (Err why) rising same = tt

  pub names_so : (r : Result V E) (id : ℕ) (there : Bool) → there ≡ is_member (eq_by_cmp nat_cmp) ids id → IfOk r (λ v. items v ≡ ids)
      → IfOk r (λ v. is_member (eq_by_cmp nat_cmp) (items v) id ≡ there)
  names_so (Ok v) id there is same = ap (λ (l : List ℕ). is_member (eq_by_cmp nat_cmp) l id) same ∙ sym is
  names_so (Err why) id there is same = tt

recent_before : (now : ℕ) (renewed : Option ℕ) → is_recent now renewed ≡ nat_lt now (behind_lease renewed)
recent_before now None = grind (arith, nat_tests)
recent_before now (Some renewed) = grind (arith, nat_tests)

-- the lease keeps the node just before that moment
pub lease_ends : (s : GroupState) (now : ℕ) → is_under_lease (record s { now = now }) ≡ nat_lt now (free_from s)
lease_ends s now = go s.stored.vote.committed refl
  where
    go : (committed : Bool) → s.stored.vote.committed ≡ committed → is_under_lease (record s { now = now }) ≡ nat_lt now (free_from s)
    go true is = rw is (recent_before now s.renewed)
    go false is = rw is (grind (arith, nat_tests))

-- ---- leads

-- a node leads just where its engine does
module _ (own : ℕ) (e : Engine) (s : GroupState) (at : IsStateOf own e s) where
  leads_so : is_leader s.role ≡ is_some e.leader
  leads_so =
      (elim e.leader as (λ l. PlaysRole own l e.candidate s.stored s.role → is_leader s.role ≡ is_some l) [
        | None ↦ unled_role own e.candidate s.stored s.role
        | Some l ↦ led_role own l e.candidate s.stored s.role
      ])
      at.role

  abbrev telling : Vote ℕ → Option (LogId ℕ) → Base → Leading
  telling vote last base = record { vote = vote; last = last; base = base }

  abbrev if_led : Bool → Option Leading
  if_led b = if b then Some (telling s.stored.vote (last_id s.stored) (base_of s.stored)) else None

  pub leads_nothing : is_some e.leader ≡ false → None ≡ leading_of s
  leads_nothing none = sym (ap if_led (leads_so ∙ none))

  pub leads_with : (vote : Vote ℕ) (last : Option (LogId ℕ)) (base : Base) → is_some e.leader ≡ true → vote ≡ s.stored.vote → last ≡ last_id s.stored
      → base ≡ base_of s.stored → Some (record { vote = vote; last = last; base = base }) ≡ leading_of s
  leads_with vote last base some same_vote same_last same_base =
      ap (λ v. Some (telling v last base)) same_vote
      ∙ ap (λ l. Some (telling s.stored.vote l base)) same_last
      ∙ ap (λ b. Some (telling s.stored.vote (last_id s.stored) b)) same_base
      ∙ sym (ap if_led (leads_so ∙ some))
