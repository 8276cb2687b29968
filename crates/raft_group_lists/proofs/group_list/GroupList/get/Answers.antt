use Rattle.std.specs.Prelude.{◌≡◌, Some, None, length, slice_get, refl}
use Rattle.std.proofs.Common.{sym, ap, ◌∙◌, subst}
use Rattle.std.proofs.lemmas.Option.{slice_get_past, slice_get_read}
use Rattle.raft_group_lists.specs.Notes.{Notes, entries_at}
use Rattle.raft_group_lists.specs.Room.{Kept}
use Rattle.raft_group_lists.proofs.ListLemmas.{entry_nowhere, entry_there}
use Rattle.raft_group_lists.proofs.group_list.GroupList.get.Goals as goal

pub returns-in-Some : goal.returns-in-Some
returns-in-Some c =
    let s = c.self.inside in
    let list = c.deref.result.now in
    let at = c.in-Some.at.now in
    let x = c.index.result.now in
    let here = ap (λ ks. slice_get ks c.args.place) (sym c.deref.ensures.value) ∙ slice_get_read list (length list) c.args.place at refl c.in-Some.ensures.lookup.3.0 c.in-Some.ensures.lookup.1 in
    let there = slice_get_read s.noted.items (length s.noted.items) at x refl (c.self.invariant.0.listed c.args.place at here) c.index.ensures in
    subst (λ (n : Notes). Some x.entry ≡ slice_get (entries_at n.noted n.listed) c.args.place) (ap (λ (k : Kept). k.notes) c.self.view_is)
    (sym (entry_there s.noted.items s.listed.items c.self.invariant.0.listed c.args.place at x here there))

pub returns-in-None : goal.returns-in-None
returns-in-None c =
    let s = c.self.inside in
    let list = c.deref.result.now in
    let here = ap (λ ks. slice_get ks c.args.place) (sym c.deref.ensures.value) ∙ slice_get_past list c.args.place c.in-None.ensures.lookup.3 in
    subst (λ (n : Notes). None ≡ slice_get (entries_at n.noted n.listed) c.args.place) (ap (λ (k : Kept). k.notes) c.self.view_is)
    (sym (entry_nowhere s.noted.items s.listed.items c.self.invariant.0.listed c.args.place here))
