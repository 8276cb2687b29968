use Rattle.std.proofs.Common.{refl}
use Rattle.raft_cluster.proofs.round.work.Goals as goal

pub returns-in-Some : goal.returns-in-Some
returns-in-Some g c =
    record {
      id = c.ask_ahead.ensures.id;
      part = λ before. c.ask_ahead.ensures.part c.args.ids.now c.args.events.now c.args.place before c.in-Some.ensures.among c.in-Some.ensures.here;
      kept = c.ask_ahead.ensures.kept;
    }

pub returns-in_default : goal.returns-in_default
returns-in_default g c = record { id = refl; part = λ before part. part; kept = λ none. none }
