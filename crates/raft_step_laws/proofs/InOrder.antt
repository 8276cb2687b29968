-- Tokens are told by rising place.
use Rattle.std.specs.Prelude.{◌≡◌, ℕ, ◌+◌, ◌<◌, ◌≤◌, cond, not, Bool, true, false, List, [], ◌∷◌, ◌++◌, filter, All, refl}
use Rattle.std.proofs.Common.{sym, subst, arith}
use Rattle.std.proofs.lemmas.List.Elements.{All-head, All-tail}
use Rattle.raft_group_step.specs.GroupState.{GroupState, Untold}
use Rattle.raft_group_step.specs.declared.group_call.GroupCall.TheVariants.{Initialize, Elect, Propose, ChangeMembership, Heartbeat, Lost, TriggerSnapshot, TriggerPurge}
use Rattle.raft_group_step.specs.GroupEvent.{GroupCall, GroupEvent, AddGroup, Call, Receive, Open}
use Rattle.raft_group_step.specs.StoredGroup.{end_place}
use Rattle.raft_group_step.specs.GroupStep.{group_step}
use Rattle.raft_laws.specs.Stop.{token_of_call}
use Rattle.raft_step_laws.specs.Tokens.{RiseFrom, TokensGo, TokensGoInOrder, brought, is_due, leads_on, tokens_at}
use Rattle.raft_step_laws.proofs.Telling.{tokens_go}
use Rattle.raft_step_laws.proofs.TokenLists.{rise_lower}

-- what is kept of them rises too
rise_filter : (p : Untold → Bool) (k : ℕ) (xs : List Untold) → RiseFrom k xs → RiseFrom k (filter p xs)
rise_filter p k [] h = tt
rise_filter p k (x ∷ xs) h = go (p x) (rise_filter p (x.place + 1) xs h.1)
  where
    go : (b : Bool) → RiseFrom (x.place + 1) (filter p xs) → RiseFrom k (cond b (x ∷ filter p xs) (filter p xs))
    go true rest = (h.0, rest)
    go false rest = rise_lower k (x.place + 1) (filter p xs) (omega (arith, h.0)) rest

-- so do more, from a place on that is above all
rise_append : (k top : ℕ) (xs ys : List Untold) → k ≤ top → RiseFrom k xs → All (λ (x : Untold). x.place < top) xs → RiseFrom top ys → RiseFrom k (xs ++ ys)
rise_append k top [] ys l h below more = rise_lower k top ys l more
rise_append k top (x ∷ xs) ys l h below more =
    let under = All-head (λ (y : Untold). y.place < top) x xs below in
    (h.0, rise_append (x.place + 1) top xs ys (omega arith) h.1 (All-tail (λ (y : Untold). y.place < top) x xs below) more)

-- the token that a call or another event brings does, from its place on
pub call_rises : (place : ℕ) (call : GroupCall) → RiseFrom place (tokens_at place (token_of_call call))
call_rises place (Initialize m) = tt
call_rises place Elect = tt
call_rises place (Propose command token) = (omega arith, tt)
call_rises place (ChangeMembership change token) = (omega arith, tt)
call_rises place Heartbeat = tt
call_rises place (Lost peer) = tt
call_rises place TriggerSnapshot = tt
call_rises place (TriggerPurge p) = tt

pub brought_rises : (s : GroupState) (e : GroupEvent) → RiseFrom (end_place s.stored) (brought s e)
brought_rises s AddGroup = tt
brought_rises s (Call call now) = call_rises (end_place s.stored) call
brought_rises s (Receive peer m now) = tt
brought_rises s Open = tt

pub tokens_go_in_order : TokensGoInOrder
tokens_go_in_order own s e mine waits none order passed =
    go (leads_on s (group_step own s e).state) refl (tokens_go own s e mine waits none passed)
    (rise_append 0 (end_place s.stored) s.untold (brought s e) (omega arith) order.rising order.below (brought_rises s e))
  where
    go : (b : Bool) → leads_on s (group_step own s e).state ≡ b → TokensGo s e (group_step own s e) → RiseFrom 0 (s.untold ++ brought s e) → RiseFrom 0 (group_step own s e).told × RiseFrom 0 (group_step own s e).state.untold
    go true t h rises =
        let due : Untold → Bool = is_due (group_step own s e).state in (
          subst (RiseFrom 0) (sym (h.told t)) (rise_filter due 0 (s.untold ++ brought s e) rises),
          subst (RiseFrom 0) (sym (h.waits t)) (rise_filter (λ x. not (due x)) 0 (s.untold ++ brought s e) rises),
        )
    go false t h rises =
        (subst (RiseFrom 0) (sym (h.none_told t)) tt, subst (RiseFrom 0) (sym (h.none_waits t)) tt)
