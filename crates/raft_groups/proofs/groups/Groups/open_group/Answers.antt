-- The others stay.
use Rattle.std.specs.Ordering.{nat_cmp}
use Rattle.std.specs.BTreeMap.{get}
use Rattle.raft_groups.proofs.StandingLemmas.{stays}
use Rattle.raft_groups.proofs.groups.Groups.open_group.Goals as goal

pub returns-in-Ok-Some-clause-others : goal.returns-in-Ok-Some-clause-others
returns-in-Ok-Some-clause-others g c = λ other x apart stands.
    stays c.args.self.now.id (get nat_cmp c.args.self.now.members) (get nat_cmp c.open_member.new.self.members) _ _ _ _ c.args.group other x
    (c.open_member.ensures.others other apart) c.in-Ok-Some.ensures.well c.open_member.ensures.kept apart stands
