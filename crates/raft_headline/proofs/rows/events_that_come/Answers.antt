use Rattle.std.specs.Prelude.{refl}
use Rattle.raft_group_step.specs.declared.group_call.GroupCall.TheVariants.{Propose}
use Rattle.raft_laws.specs.Example.{add}
use Rattle.raft_laws.specs.declared.world_event.WorldEvent.TheVariants as event
use Rattle.raft_headline.proofs.rows.events_that_come.Goals as goal

pub returns-clause-call : goal.returns-clause-call
returns-clause-call c = record { event = event.Ask 1 (Propose (add 5) 1) 0; seen = refl; here = refl; is_up = refl }
