use Rattle.std.specs.Prelude.{◌∷◌, refl}
use Rattle.raft_laws.specs.Example.{add}
use Rattle.raft_headline.specs.Rows.{has_told, state_there, tells, told_at}
use Rattle.raft_headline.proofs.rows.commands_taken.Goals as goal

pub returns-clause-taken : goal.returns-clause-taken
returns-clause-taken c = record {
  said = tells (told_at 1 2 (2 ∷ add 5));
  done = refl;
  state = state_there has_told;
  is_up = refl;
  has = record { leads = refl; vote = refl; stands = refl };
}
