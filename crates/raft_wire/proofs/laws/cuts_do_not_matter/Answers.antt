use Rattle.raft_wire.proofs.AnyCutting.{calls_say_the_stream, streams_say_one_thing, cuts_dont_matter}
use Rattle.raft_wire.proofs.laws.cuts_do_not_matter.Goals as goal

pub returns-clause-calls : goal.returns-clause-calls
returns-clause-calls c = calls_say_the_stream

pub returns-clause-one_thing : goal.returns-clause-one_thing
returns-clause-one_thing c = streams_say_one_thing

pub returns-clause-cuts : goal.returns-clause-cuts
returns-clause-cuts c = cuts_dont_matter
