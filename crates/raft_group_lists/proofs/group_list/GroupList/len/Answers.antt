use Rattle.std.specs.Prelude.{◌≡◌, length}
use Rattle.std.proofs.Common.{ap, arith, subst}
use Rattle.raft_group_lists.specs.Notes.{Notes, entries_at}
use Rattle.raft_group_lists.specs.Room.{Kept}
use Rattle.raft_group_lists.proofs.ListLemmas.{entries_size}
use Rattle.raft_group_lists.proofs.group_list.GroupList.len.Goals as goal

pub returns : goal.returns
returns c =
    let s = c.self.inside in
    let size = entries_size s.noted.items s.listed.items c.self.invariant.0.listed in
    let count : c.len.result ≡ length (entries_at s.noted.items s.listed.items) = omega (arith, c.len.ensures, s.listed.ok.0) in
    subst (λ (n : Notes). c.len.result ≡ length (entries_at n.noted n.listed)) (ap (λ (k : Kept). k.notes) c.self.view_is) count
