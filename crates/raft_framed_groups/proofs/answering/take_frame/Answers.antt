-- The frame's group takes its message, and what it sends is framed.
use Rattle.std.proofs.Common.{◌≡◌, Ok, Err}
use Rattle.std.specs.Ordering.{nat_cmp}
use Rattle.std.specs.BTreeMap.{get}
use Rattle.raft_group_step.specs.GroupEvent.{Receive}
use Rattle.raft_member.specs.Member.{HasStopped}
use Rattle.raft_groups.specs.Faults.{HasBegun}
use Rattle.raft_groups.specs.declared.fault.GroupsFault.TheVariants as groups_fault
use Rattle.raft_framed_groups.proofs.FramedLemmas.{ended_came, ended_goes_on, groups_goes_on, groups_turned_away, taken_as}
use Rattle.raft_framed_groups.proofs.answering.take_frame.Goals as goal

pub returns-in-Ok-clause-takes : goal.returns-in-Ok-clause-takes
returns-in-Ok-clause-takes g c = record {
  taken = λ m s going says up lawful.
      taken_as (λ met member. HasBegun (HasStopped (g.S.GroupStorage.shows c.receive.new.self.storage c.args.frame.now.group) (g.S.GroupStorage.fails c.receive.new.self.storage) c.args.groups.now.id s (Receive c.args.frame.now.message.sender m c.args.now) member) met) g.S.GroupStorage.stands (record { own = c.args.groups.now.id; has_failed = c.receive.new.self.has_failed; members = get nat_cmp c.receive.new.self.members; is_well = g.S.GroupStorage.is_well c.receive.new.self.storage; shows = g.S.GroupStorage.shows c.receive.new.self.storage; fails = g.S.GroupStorage.fails c.receive.new.self.storage })
      c.args.frame.now.group s (Receive c.args.frame.now.message.sender m c.args.now) c.in-Ok.ended c.outcome_of.result
      (c.in-Ok.ensures.ok m s going says up lawful) c.outcome_of.ensures.ended;
  of_group = record {
    others = λ other x apart stands none. c.in-Ok.ensures.others other x apart stands;
    kept = c.in-Ok.ensures.kept;
    failed = λ has. absurd (let no : Ok c.in-Ok.ended ≡ Err groups_fault.Failed = (c.in-Ok.ensures.failed has).0 in cc);
    unknown = λ going none. absurd (let no : Ok c.in-Ok.ended ≡ Err groups_fault.UnknownGroup = (c.in-Ok.ensures.unknown going none).0 in cc);
    goes_on = ended_goes_on c.args.frame.now.group c.args.groups.now.has_failed c.receive.new.self.has_failed c.in-Ok.ended c.outcome_of.result c.outcome_of.ensures.ended c.in-Ok.ensures.goes_on;
  };
}

pub returns-in-Err-clause-takes : goal.returns-in-Err-clause-takes
returns-in-Err-clause-takes g c = record {
  taken = λ m s going says up lawful. c.in-Err.ensures.err m s going says up lawful;
  of_group = record {
    others = λ other x apart stands none. absurd none;
    kept = c.in-Err.ensures.kept;
    failed = λ has. let is : Err c.in-Err.fault ≡ Err groups_fault.Failed = (c.in-Err.ensures.failed has).0 in cc;
    unknown = λ going none. let is : Err c.in-Err.fault ≡ Err groups_fault.UnknownGroup = (c.in-Err.ensures.unknown going none).0 in cc;
    goes_on = groups_goes_on c.args.groups.now.has_failed c.receive.new.self.has_failed c.in-Err.fault c.in-Err.ensures.goes_on;
  };
}

pub returns-in-Ok-clause-same : goal.returns-in-Ok-clause-same
returns-in-Ok-clause-same g c = λ away. absurd (ended_came c.args.frame.now.group c.in-Ok.ended c.outcome_of.result c.outcome_of.ensures.ended away)

pub returns-in-Err-clause-same : goal.returns-in-Err-clause-same
returns-in-Err-clause-same g c = λ away. c.in-Err.ensures.same (groups_turned_away c.in-Err.fault away)
