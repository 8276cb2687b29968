use Rattle.std.specs.Prelude.{◌≡◌, ◌++◌, ◌∷◌, ◌≤◌, ℕ, suc, [], List, None, length, slice_get, vec_capacity, refl}
use Rattle.std.proofs.Common.{sym, ap, ◌∙◌, subst, arith}
use Rattle.raft_group_lists.specs.declared.notes.Lead.{Lead}
use Rattle.raft_group_lists.specs.Notes.{IsLeadAt, SameLeads, lead_in}
use Rattle.raft_group_lists.proofs.LeadLemmas.{end_changes_nothing, end_is_lead, lasts_of_end}
use Rattle.raft_group_lists.specs.Room.{HasPlace}
use Rattle.raft_group_lists.proofs.RoomLemmas.{place_of_new}
use Rattle.raft_group_lists.proofs.leads.lead_at.Goals as goal

pub returns-in_ok-reserve-in-None-clause-found : goal.returns-in_ok-reserve-in-None-clause-found
returns-in_ok-reserve-in-None-clause-found c =
    let items = c.args.leads.now.items in
    let y : Lead = record { vote = c.args.vote.now; last = None; reached = c.spare_or_new-reached.result } in
    let new : lead_in items y.vote ≡ None = ap (λ (ls : List Lead). lead_in ls y.vote) (sym c.as_slice.ensures.value) ∙ c.in-None.ensures in
    let at : length items ≡ c.len-at.result = sym (c.len-at.ensures ∙ c.reserve.ensures.len ∙ sym c.as_slice.ensures.len ∙ ap length c.as_slice.ensures.value) in
    subst (λ (ls : List Lead). IsLeadAt ls y.vote c.len-at.result) (sym (c.push_reserved.ensures.items ∙ ap (λ ls. ls ++ y ∷ []) c.reserve.ensures.items))
    (subst (λ (n : ℕ). IsLeadAt (items ++ y ∷ []) y.vote n) at (end_is_lead items y new))

pub returns-in_ok-reserve-in-None-clause-same : goal.returns-in_ok-reserve-in-None-clause-same
returns-in_ok-reserve-in-None-clause-same c =
    let items = c.args.leads.now.items in
    let y : Lead = record { vote = c.args.vote.now; last = None; reached = c.spare_or_new-reached.result } in
    let new : lead_in items y.vote ≡ None = ap (λ (ls : List Lead). lead_in ls y.vote) (sym c.as_slice.ensures.value) ∙ c.in-None.ensures in
    subst (λ (ls : List Lead). SameLeads items ls) (sym (c.push_reserved.ensures.items ∙ ap (λ ls. ls ++ y ∷ []) c.reserve.ensures.items))
    (end_changes_nothing items y new refl c.spare_or_new-reached.ensures.empty)

pub returns-in_ok-reserve-in-None-clause-lasts : goal.returns-in_ok-reserve-in-None-clause-lasts
returns-in_ok-reserve-in-None-clause-lasts c =
    let y : Lead = record { vote = c.args.vote.now; last = None; reached = c.spare_or_new-reached.result } in
    let items = c.push_reserved.ensures.items ∙ ap (λ ls. ls ++ y ∷ []) c.reserve.ensures.items in
    λ i lead e. lasts_of_end c.args.leads.now.items y refl i lead (ap (λ (ls : List Lead). slice_get ls i) (sym items) ∙ e)

pub returns-in_ok-reserve-in-None-clause-room : goal.returns-in_ok-reserve-in-None-clause-room
returns-in_ok-reserve-in-None-clause-room c =
    let y : Lead = record { vote = c.args.vote.now; last = None; reached = c.spare_or_new-reached.result } in
    let items = c.push_reserved.ensures.items ∙ ap (λ ls. ls ++ y ∷ []) c.reserve.ensures.items in
    let capacity = c.push_reserved.ensures.capacity in
    let grown = c.reserve.ensures.capacity in
    let more : vec_capacity c.args.leads.now ≤ vec_capacity c.push_reserved.new.self = omega arith in
    λ n can.
    let spare = c.spare_or_new-reached.ensures.left n (suc n) can.spares_left can.spare_nodes in (
      refl,
      subst (λ (ls : List Lead). HasPlace ls (vec_capacity c.push_reserved.new.self) c.spare_or_new-reached.new.spares.items n) (sym items)
          (place_of_new c.args.leads.now.items (vec_capacity c.args.leads.now) c.args.spares.now.items n y (vec_capacity c.push_reserved.new.self) c.spare_or_new-reached.new.spares.items can c.spare_or_new-reached.ensures.empty spare.0 more spare.1 spare.2),
    )
