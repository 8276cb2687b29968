use Rattle.std.specs.Prelude.{◌≡◌, ◌++◌, map}
use Rattle.std.proofs.Common.{sym, ap, ◌∙◌, subst}
use Rattle.std.specs.declared.alloc.Global.{Global}
use Rattle.std.specs.Prelude.{Vec}
use Rattle.raft_conditions.specs.Reason.{reason_of}
use Rattle.raft_group_step.specs.StoredGroup.{Snapshot}
use Rattle.raft_messages.specs.declared.message.Message.{Message}
use Rattle.raft_laws.specs.GroupWorld.{NodeState, Refused, with_node_state}
use Rattle.raft_laws.specs.GroupRun.{led_by}
use Rattle.raft_laws.proofs.Numbers.{state_here}
use Rattle.raft_world.specs.Settled.{led_of}
use Rattle.raft_world.specs.Ending.{IsEndOf, IsSent}
use Rattle.raft_world.specs.World.{IsPlace}
use Rattle.raft_world.specs.Member.{Ended}
use Rattle.raft_member.specs.declared.member.Ended.TheVariants as end_of
use Rattle.raft_world.specs.declared.member.Member.{Member}
use Rattle.raft_world.specs.declared.world.World.{World}
use Rattle.raft_world.proofs.WorldLemmas.{but_kept, but_set_up, concluded_done, concluded_refused, cut_done, cut_refused}
use Rattle.raft_world.proofs.world.World.conclude.Goals as goal

pub returns-in-Err : goal.returns-in-Err
returns-in-Err c = λ g e n o state there h first is.
    let w = c.args.self.now in
    let noted = c.note_lead.new.self in
    let refused : o ≡ Refused (reason_of c.in-Refused.refusal) = subst (λ (x : Ended). IsEndOf x o) c.in-Refused.is is in
    let there' : IsPlace noted.members.items n c.args.place = subst (λ (v : Vec Member Global). IsPlace v.items n c.args.place) (sym c.note_lead.ensures.members) there in
    cut_refused w g e n o state h c.crash_at.new.self (reason_of c.in-Refused.refusal) refused
    (c.crash_at.ensures g n state there'
    (but_kept w g e n o state h noted c.note_lead.ensures.members (ap (λ (v : Vec (Message Snapshot) Global). v.items) c.note_lead.ensures.messages) c.note_lead.ensures.setup c.in-Err.ensures.err))

pub returns-in_default : goal.returns-in_default
returns-in_default c = λ g e n o state there h first is.
    let w = c.args.self.now in
    let noted = c.note_lead.new.self in
    let refused : o ≡ Refused (reason_of c.in-Refused.refusal) = subst (λ (x : Ended). IsEndOf x o) c.in-Refused.is is in
    let led : map led_of noted.led.items ≡ map led_of w.led.items ++ led_by n (with_node_state n state g.nodes n) = c.in_default.ensures.ok n (with_node_state n state g.nodes) there h.nodes in
    concluded_refused w g e n o state h noted c.in-Refused.refusal refused c.note_lead.ensures.members c.note_lead.ensures.messages c.note_lead.ensures.setup
    (led ∙ ap (λ (x : NodeState). map led_of w.led.items ++ led_by n x) (state_here n state g.nodes))

pub returns-in-Err-send : goal.returns-in-Err-send
returns-in-Err-send c = λ g e n o state there h first is.
    let w = c.args.self.now in
    let set = c.set_up-in-Done.new.self in
    let done : IsEndOf (end_of.Done c.in-Done.sent) o = subst (λ (x : Ended). IsEndOf x o) c.in-Done.is is in
    let here = but_set_up w g e n o state h set c.args.setup c.set_up-in-Done.ensures in
    let there' : IsPlace set.members.items n c.args.place = subst (λ (x : World). IsPlace x.members.items n c.args.place) (sym c.set_up-in-Done.ensures) there in
    let there'' : IsPlace c.send.new.self.members.items n c.args.place = subst (λ (v : Vec Member Global). IsPlace v.items n c.args.place) (sym c.send.ensures.members) there' in
    cut_done w g e n o state h c.crash_at-in-Err-send.new.self c.args.setup c.in-Done.sent done first
    (c.crash_at-in-Err-send.ensures _ n state there''
    (but_kept set _ e n o state here c.send.new.self c.send.ensures.members c.in-Err-send.ensures.err.1 c.send.ensures.setup c.in-Err-send.ensures.err.0))

pub returns-in_default-send : goal.returns-in_default-send
returns-in_default-send c = λ g e n o state there h first is.
    let w = c.args.self.now in
    let set = c.set_up-in-Done.new.self in
    let made = c.set_up-in-Done.ensures in
    let done : IsEndOf (end_of.Done c.in-Done.sent) o = subst (λ (x : Ended). IsEndOf x o) c.in-Done.is is in
    let here = but_set_up w g e n o state h set c.args.setup made in
    let there' : IsPlace set.members.items n c.args.place = subst (λ (x : World). IsPlace x.members.items n c.args.place) (sym made) there in
    let sent : IsSent set c.send.new.self n (with_node_state n state g.nodes n) c.in-Done.sent.items = c.in_default-send.ensures.ok n (with_node_state n state g.nodes) there' here.nodes in
    concluded_done w g e n o state h c.send.new.self c.args.setup c.in-Done.sent done first
    (c.send.ensures.members ∙ ap (λ (x : World). x.members) made)
    (c.send.ensures.setup ∙ ap (λ (x : World). x.setup) made)
    (sent.messages ∙ ap (λ (x : World). x.messages.items ++ c.in-Done.sent.items) made)
    (sent.led
    ∙ ap (λ (x : World). map led_of x.led.items ++ led_by n (with_node_state n state g.nodes n)) made
    ∙ ap (λ (x : NodeState). map led_of w.led.items ++ led_by n x) (state_here n state g.nodes))
