-- The others stay; where the storage has the group, all do.
use Rattle.std.proofs.Common.{refl}
use Rattle.std.specs.Ordering.{nat_cmp}
use Rattle.std.specs.BTreeMap.{get}
use Rattle.raft_groups.proofs.StandingLemmas.{stays, stays_at}
use Rattle.raft_groups.proofs.groups.Groups.add_group.Goals as goal

pub returns-in-Ok-true-clause-others : goal.returns-in-Ok-true-clause-others
returns-in-Ok-true-clause-others g c = λ other x apart stands.
    stays c.args.self.now.id (get nat_cmp c.args.self.now.members) (get nat_cmp c.make_if_new.new.self.members) _ _ _ _ c.args.group other x
    (c.make_if_new.ensures.others other apart) c.in-Ok-true.ensures.well c.make_if_new.ensures.kept apart stands

pub returns-in-Ok-false-clause-refused : goal.returns-in-Ok-false-clause-refused
returns-in-Ok-false-clause-refused g c = λ other x is stands.
    stays_at c.args.self.now.id c.args.self.now.id (get nat_cmp c.args.self.now.members) (get nat_cmp c.make_if_new.new.self.members)
    (g.S.GroupStorage.is_well c.args.self.now.storage) (g.S.GroupStorage.is_well c.make_if_new.new.self.storage)
    (g.S.GroupStorage.shows c.args.self.now.storage) (g.S.GroupStorage.shows c.make_if_new.new.self.storage) other x refl
    (c.in-Ok-false.ensures.same other c.in-Ok-false.field-0-test) c.in-Ok-false.ensures.well (λ parts. c.in-Ok-false.ensures.kept_all c.in-Ok-false.field-0-test other parts) stands
