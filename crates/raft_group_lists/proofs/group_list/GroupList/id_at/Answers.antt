use Rattle.std.specs.Prelude.{◌≡◌, ◌<◌, List, Some, length, slice_get, refl}
use Rattle.std.proofs.Common.{sym, ap, subst}
use Rattle.std.proofs.lemmas.Option.{slice_get_read}
use Rattle.raft_group_lists.specs.declared.notes.Noted.{Noted}
use Rattle.raft_group_lists.specs.Notes.{EndsWith, IsNotedAt, Notes, list_to}
use Rattle.raft_group_lists.specs.Room.{Kept}
use Rattle.raft_group_lists.proofs.WalkLemmas.{list_step}
use Rattle.raft_group_lists.proofs.group_list.GroupList.id_at.Goals as goal

pub returns-clause-noted : goal.returns-clause-noted
returns-clause-noted c =
    let noted = c.self.inside.noted.items in
    let x = c.index.result.now in
    let same : noted ≡ c.args.self.now.notes.noted = ap (λ (k : Kept). k.notes.noted) c.self.view_is in
    let inside = subst (λ (ns : List Noted). c.args.at < length ns) (sym same) c.requires in
    let there = slice_get_read noted (length noted) c.args.at x refl inside c.index.ensures in
    subst (λ (ns : List Noted). IsNotedAt ns x.entry.log_id c.args.at) same (record { one = x; there = there; of_id = refl })

pub returns-clause-ends : goal.returns-clause-ends
returns-clause-ends c =
    let noted = c.self.inside.noted.items in
    let x = c.index.result.now in
    let same : noted ≡ c.args.self.now.notes.noted = ap (λ (k : Kept). k.notes.noted) c.self.view_is in
    let inside = subst (λ (ns : List Noted). c.args.at < length ns) (sym same) c.requires in
    let there = slice_get_read noted (length noted) c.args.at x refl inside c.index.ensures in
    subst (λ (ns : List Noted). EndsWith (list_to ns (Some c.args.at)) x.entry.log_id) same
    (record { before = list_to noted x.before; last = x.entry; is = list_step noted c.self.invariant.0.joined c.args.at x there; of_id = refl })
