-- The group does what it is asked for, and what it sends is framed.
use Rattle.std.proofs.Common.{◌≡◌, Ok, Err}
use Rattle.std.specs.Ordering.{nat_cmp}
use Rattle.std.specs.BTreeMap.{get}
use Rattle.raft_group_step.specs.GroupEvent.{Call}
use Rattle.raft_member.specs.Member.{HasBrokenOff}
use Rattle.raft_groups.specs.declared.fault.GroupsFault.TheVariants as groups_fault
use Rattle.raft_framed_groups.proofs.FramedLemmas.{ended_came, ended_goes_on, groups_goes_on, groups_turned_away, taken_as}
use Rattle.raft_framed_groups.proofs.answering.ask_group.Goals as goal

pub returns-in-Ok-clause-asked : goal.returns-in-Ok-clause-asked
returns-in-Ok-clause-asked g c = record {
  taken = λ s going built up lawful.
      taken_as (λ met member. HasBrokenOff (g.S.GroupStorage.is_well c.ask.new.self.storage) (g.S.GroupStorage.shows c.ask.new.self.storage c.args.group) (g.S.GroupStorage.fails c.ask.new.self.storage) c.args.groups.now.id s (Call c.args.call.now c.args.now) member met) g.S.GroupStorage.stands (record { own = c.args.groups.now.id; has_failed = c.ask.new.self.has_failed; members = get nat_cmp c.ask.new.self.members; is_well = g.S.GroupStorage.is_well c.ask.new.self.storage; shows = g.S.GroupStorage.shows c.ask.new.self.storage; fails = g.S.GroupStorage.fails c.ask.new.self.storage })
      c.args.group s (Call c.args.call.now c.args.now) c.in-Ok.ended c.outcome_of.result
      (c.in-Ok.ensures.ok s going built up lawful) c.outcome_of.ensures.ended;
  of_group = record {
    others = λ other x apart stands none. c.in-Ok.ensures.others other x apart stands;
    kept = c.in-Ok.ensures.kept;
    failed = λ has. absurd (let no : Ok c.in-Ok.ended ≡ Err groups_fault.Failed = (c.in-Ok.ensures.failed has).0 in cc);
    unknown = λ going none. absurd (let no : Ok c.in-Ok.ended ≡ Err groups_fault.UnknownGroup = (c.in-Ok.ensures.unknown going none).0 in cc);
    goes_on = ended_goes_on c.args.group c.args.groups.now.has_failed c.ask.new.self.has_failed c.in-Ok.ended c.outcome_of.result c.outcome_of.ensures.ended c.in-Ok.ensures.goes_on;
  };
}

pub returns-in-Err-clause-asked : goal.returns-in-Err-clause-asked
returns-in-Err-clause-asked g c = record {
  taken = λ s going built up lawful. c.in-Err.ensures.err s going built up lawful;
  of_group = record {
    others = λ other x apart stands none. absurd none;
    kept = c.in-Err.ensures.kept;
    failed = λ has. let is : Err c.in-Err.fault ≡ Err groups_fault.Failed = (c.in-Err.ensures.failed has).0 in cc;
    unknown = λ going none. let is : Err c.in-Err.fault ≡ Err groups_fault.UnknownGroup = (c.in-Err.ensures.unknown going none).0 in cc;
    goes_on = groups_goes_on c.args.groups.now.has_failed c.ask.new.self.has_failed c.in-Err.fault c.in-Err.ensures.goes_on;
  };
}

pub returns-in-Ok-clause-same : goal.returns-in-Ok-clause-same
returns-in-Ok-clause-same g c = λ away. absurd (ended_came c.args.group c.in-Ok.ended c.outcome_of.result c.outcome_of.ensures.ended away)

pub returns-in-Err-clause-same : goal.returns-in-Err-clause-same
returns-in-Err-clause-same g c = λ away. c.in-Err.ensures.same (groups_turned_away c.in-Err.fault away)
