use Rattle.std.specs.Prelude.{◌≤◌, ℕ, suc, List, Option, None, length, vec_capacity, refl}
use Rattle.std.proofs.Common.{rules, ap, sym, subst, arith}
use Rattle.raft_laws.specs.GroupWorld.{GroupWorld}
use Rattle.raft_list_laws.specs.Accounts.{AreTrue}
use Rattle.raft_group_lists.specs.declared.notes.Noted.{Noted}
use Rattle.raft_group_lists.specs.Notes.{Learns, Notes, accounts_of, notes_of}
use Rattle.raft_group_lists.specs.Room.{HasRoom, Kept, kept_of}
use Rattle.raft_group_lists.proofs.TruthLemmas.{message_is_true, same_is_true}
use Rattle.raft_group_lists.proofs.group_list.GroupList.accept.Goals as goal

pub returns-in_err-learn_under-clause-err : goal.returns-in_err-learn_under-clause-err
returns-in_err-learn_under-clause-err c =
    let i = c.self.inside in
    let s = notes_of i.voters i.noted.items i.leads.items i.listed.items in
    let next = notes_of i.voters i.noted.items c.learn_under.new.leads.items c.learn_under.new.listed.items in
    let each : (w : GroupWorld) → AreTrue (accounts_of c.args.self.now.notes) w → AreTrue (accounts_of next) w =
    λ w t.
    same_is_true s c.learn_under.new.leads.items c.learn_under.new.listed.items c.in_err-learn_under.ensures.err.0 c.in_err-learn_under.ensures.err.1 w
    (subst (λ (n : Notes). AreTrue (accounts_of n) w) (sym (ap (λ (k : Kept). k.notes) c.self.view_is)) t)
    in
    search (rules, each)

pub returns-clause-truth : goal.returns-clause-truth
returns-clause-truth c =
    let i = c.self.inside in
    let s = notes_of i.voters i.noted.items i.leads.items i.listed.items in
    let leads = c.learn_under.new.leads.items in
    let listed = c.learn_under.new.listed.items in
    let read = subst (λ (ns : List Noted). Learns (notes_of i.voters ns i.leads.items i.listed.items) c.args.node c.args.vote None c.own_place-place.result (notes_of i.voters ns leads listed)) c.as_slice.ensures.value c.in_ok-learn_under.ensures.ok in
    let learns = subst (λ (place : Option ℕ). Learns s c.args.node c.args.vote None place (notes_of i.voters i.noted.items leads listed)) c.own_place-place.ensures read in
    λ w m list t is fronts.
    message_is_true s leads listed c.args.node c.args.vote c.args.last learns m is w list (subst (λ (n : Notes). AreTrue (accounts_of n) w) (sym (ap (λ (k : Kept). k.notes) c.self.view_is)) t) fronts

pub returns-in_err-learn_under-clause-room : goal.returns-in_err-learn_under-clause-room
returns-in_err-learn_under-clause-room c =
    let i = c.self.inside in
    λ writes learns has.
    let h = subst (λ (k : Kept). HasRoom k writes (suc learns)) (sym c.self.view_is) has in
    let places = h.listed in
    let size = ap length c.as_slice.ensures.value in
    let fits : length c.as_slice.result.now ≤ vec_capacity i.listed = omega arith in
    let no = (c.in_err-learn_under.ensures.room learns fits h.learned).0 in
    absurd (cc)

pub returns-clause-room : goal.returns-clause-room
returns-clause-room c =
    let i = c.self.inside in
    λ writes learns has.
    let h = subst (λ (k : Kept). HasRoom k writes (suc learns)) (sym c.self.view_is) has in
    let places = h.listed in
    let size = ap length c.as_slice.ensures.value in
    let fits : length c.as_slice.result.now ≤ vec_capacity i.listed = omega arith in
    let learned = (c.learn_under.ensures.room learns fits h.learned).1 in
    let grown = c.learn_under.ensures.capacity in
    let room : HasRoom (kept_of i.voters i.noted c.learn_under.new.leads c.learn_under.new.listed c.learn_under.new.spares) writes learns = record { noted = h.noted; listed = omega arith; learned = learned } in
    (refl, room)
