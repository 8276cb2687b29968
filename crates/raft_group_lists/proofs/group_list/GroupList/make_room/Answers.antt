use Rattle.std.specs.Prelude.{ℕ}
use Rattle.std.specs.Vec.{with_items}
use Rattle.std.proofs.Common.{subst, sym}
use Rattle.raft_group_lists.specs.Room.{AreWider, HasRoom, Kept, kept_of}
use Rattle.raft_group_lists.proofs.RoomLemmas.{room_kept, whole_wider, wider_none, wider_through}
use Rattle.raft_group_lists.proofs.group_list.GroupList.make_room.Goals as goal

pub invariant_of-self-in_err-widen : goal.invariant_of-self-in_err-widen
invariant_of-self-in_err-widen c =
    let i = c.self.inside in
    let wide = wider_through c.reserve-3.new.self.len i.leads.items c.reserve-3.new.self.items c.as_mut_slice.result.now c.widen.new.leads c.reserve-3.ensures.items c.as_mut_slice.ensures.value c.reserve-3.new.self.ok.0 c.widen.ensures.wider in
    let leads = with_items c.reserve-3.new.self c.widen.new.leads in
    let whole = whole_wider i.voters i.noted.items c.reserve.new.self.items i.leads.items leads.items i.listed.items c.reserve-2.new.self.items c.self.invariant.0 c.reserve.ensures.items c.reserve-2.ensures.items wide in
    (whole, c.make_spares.ensures.spares)

pub returns-in_err-widen-clause-keeps : goal.returns-in_err-widen-clause-keeps
returns-in_err-widen-clause-keeps c =
    let i = c.self.inside in
    let wide = wider_through c.reserve-3.new.self.len i.leads.items c.reserve-3.new.self.items c.as_mut_slice.result.now c.widen.new.leads c.reserve-3.ensures.items c.as_mut_slice.ensures.value c.reserve-3.new.self.ok.0 c.widen.ensures.wider in
    let new = kept_of i.voters c.reserve.new.self (with_items c.reserve-3.new.self c.widen.new.leads) c.reserve-2.new.self c.make_spares.new.spares in
    subst (λ (k : Kept). (writes learns : ℕ) → HasRoom k writes learns → HasRoom new writes learns) c.self.view_is
    (room_kept (kept_of i.voters i.noted i.leads i.listed i.spares) new c.reserve.ensures.items wide c.reserve.ensures.capacity c.reserve-2.ensures.capacity c.reserve-3.ensures.capacity c.make_spares.ensures.keeps c.make_spares.ensures.holds)

pub invariant_of-self-2 : goal.invariant_of-self-2
invariant_of-self-2 c =
    let i = c.self.inside in
    let wide = wider_through c.reserve-3.new.self.len i.leads.items c.reserve-3.new.self.items c.as_mut_slice.result.now c.widen.new.leads c.reserve-3.ensures.items c.as_mut_slice.ensures.value c.reserve-3.new.self.ok.0 c.widen.ensures.wider in
    let leads = with_items c.reserve-3.new.self c.widen.new.leads in
    let whole = whole_wider i.voters i.noted.items c.reserve.new.self.items i.leads.items leads.items i.listed.items c.reserve-2.new.self.items c.self.invariant.0 c.reserve.ensures.items c.reserve-2.ensures.items wide in
    (whole, c.make_spares.ensures.spares)

pub returns-clause-keeps : goal.returns-clause-keeps
returns-clause-keeps c =
    let i = c.self.inside in
    let wide = wider_through c.reserve-3.new.self.len i.leads.items c.reserve-3.new.self.items c.as_mut_slice.result.now c.widen.new.leads c.reserve-3.ensures.items c.as_mut_slice.ensures.value c.reserve-3.new.self.ok.0 c.widen.ensures.wider in
    let new = kept_of i.voters c.reserve.new.self (with_items c.reserve-3.new.self c.widen.new.leads) c.reserve-2.new.self c.make_spares.new.spares in
    subst (λ (k : Kept). (writes learns : ℕ) → HasRoom k writes learns → HasRoom new writes learns) c.self.view_is
    (room_kept (kept_of i.voters i.noted i.leads i.listed i.spares) new c.reserve.ensures.items wide c.reserve.ensures.capacity c.reserve-2.ensures.capacity c.reserve-3.ensures.capacity c.make_spares.ensures.keeps c.make_spares.ensures.holds)

pub returns-in_err-make_spares-clause-keeps : goal.returns-in_err-make_spares-clause-keeps
returns-in_err-make_spares-clause-keeps c =
    let i = c.self.inside in
    let wide = subst (AreWider i.leads.items) (sym c.reserve-3.ensures.items) (wider_none i.leads.items) in
    let new = kept_of i.voters c.reserve.new.self c.reserve-3.new.self c.reserve-2.new.self c.make_spares.new.spares in
    subst (λ (k : Kept). (writes learns : ℕ) → HasRoom k writes learns → HasRoom new writes learns) c.self.view_is
    (room_kept (kept_of i.voters i.noted i.leads i.listed i.spares) new c.reserve.ensures.items wide c.reserve.ensures.capacity c.reserve-2.ensures.capacity c.reserve-3.ensures.capacity c.make_spares.ensures.keeps c.make_spares.ensures.holds)
