-- An event's end leaves the engine with nothing to do.
use Rattle.std.proofs.Common.{ap}
use Rattle.raft_member.specs.Member.{Engine}
use Rattle.raft_member.proofs.ending.come_to_rest.Goals as goal

pub returns-clause-leader : goal.returns-clause-leader
returns-clause-leader c = ap (λ (e : Engine). e.leader) c.end_event.ensures.ends

pub returns-clause-idle : goal.returns-clause-idle
returns-clause-idle c = λ own s stands.
    record {
      stands = c.end_event.ensures.stands own s stands;
      empty = ap (λ (e : Engine). e.output.queue) c.end_event.ensures.ends;
      not_building = ap (λ (e : Engine). e.state.state.io_state.building_snapshot) c.end_event.ensures.ends;
    }
