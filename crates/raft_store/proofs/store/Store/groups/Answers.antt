-- The ids rise, and they are those of the groups that the node has.
use Rattle.std.proofs.Common.{◌∙◌}
use Rattle.raft_group_storage.proofs.Naming.{names-passing, rises-passing}
use Rattle.raft_store.proofs.Named.{made_as_held, unmade}
use Rattle.raft_store.proofs.Storing.{only_one}
use Rattle.raft_store.proofs.store.Store.groups.Goals as goal

pub returns-clause-rising : goal.returns-clause-rising
returns-clause-rising g c = λ sound. rises-passing (λ v. v.items) _ _ c.made_among.result c.in_ok-logged.ensures.rising (c.made_among.ensures.ids (c.in_ok-logged.ensures.well sound))

pub returns-clause-ok : goal.returns-clause-ok
returns-clause-ok g c = λ rules group s sound shown.
    let after = c.in_ok-logged.ensures.well sound in
    let same = (c.in_ok-logged.ensures.steady after).1 in
    let old = g.L.ContentLog.answers c.args.self.now.log in
    let new = g.L.ContentLog.answers c.logged_groups.new.self.log in
    names-passing (λ v. v.items) _ _ c.made_among.result group s.present
    (λ absent. unmade old new group same (c.in_ok-logged.ensures.none sound group (c.in_ok-logged.ensures.there sound group ∙ absent)))
    (made_as_held rules old new group s same (only_one rules (old group) s (shown.answered sound)))
    (c.made_among.ensures.ids after)
