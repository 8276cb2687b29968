use Rattle.std.specs.Prelude.{refl}
use Rattle.raft_group_step.specs.declared.group_call.GroupCall.TheVariants.{Propose}
use Rattle.raft_laws.specs.Example.{add}
use Rattle.raft_laws.specs.OriginRun.{command_at}
use Rattle.raft_headline.specs.Rows.{told_event}
use Rattle.raft_headline.proofs.RowOrigins.{told_last}
use Rattle.raft_headline.proofs.rows.told_answers.Goals as goal

pub returns-clause-right : goal.returns-clause-right
returns-clause-right c = record {
  entry = command_at 2 (add 5);
  number = 4;
  stands = refl;
  origin = record {
    asked = Propose (add 5) 1;
    node = 1;
    now = 0;
    recorded = told_event;
    stands = refl;
    event = refl;
    taken = refl;
    holds = refl;
    last = λ noted. told_last;
  };
  token = refl;
  answer = refl;
}
