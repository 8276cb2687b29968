-- The ids rise, and they are those of the groups that are present.
use Rattle.std.proofs.Common.{◌∙◌}
use Rattle.raft_group_storage.proofs.Naming.{names-passing, rises-passing}
use Rattle.raft_group_storage.proofs.Present.{not_present, present_as_shown}
use Rattle.raft_group_storage.proofs.plain_groups.PlainGroupsGroupStorage.groups.Goals as goal

pub returns-clause-rising : goal.returns-clause-rising
returns-clause-rising c = λ well. rises-passing (λ v. v.items) _ _ c.present_ids.result c.present_ids.ensures.rising c.present_ids.ensures.ids

pub returns-clause-ok : goal.returns-clause-ok
returns-clause-ok c = λ group s well shown.
    names-passing (λ v. v.items) _ _ c.present_ids.result group s.present
    (λ none. not_present c.self.inside.groups group (c.present_ids.ensures.exactly group ∙ none))
    (present_as_shown c.self.inside.groups.entries c.args.self.now group s c.self.view_is shown)
    c.present_ids.ensures.ids
