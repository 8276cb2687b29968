-- What is told of keys.
use Rattle.std.proofs.Common.{◌≡◌, ℕ, List, Some, sym, subst}
use Rattle.raft_group_step.specs.GroupEvent.{GroupCall}
use Rattle.raft_laws.specs.OneList.{AreNodeIds}
use Rattle.raft_laws.specs.Settled.{group_list}
use Rattle.raft_machines.specs.declared.telling.Told.{Told}
use Rattle.raft_headline.specs.ClusterEvent.{Recorded}
use Rattle.raft_headline.specs.Machines.{Replicas, new_replicas}
use Rattle.raft_headline.specs.Replaying.{ReplaysFor}
use Rattle.raft_headline.specs.Told.{IsAskedFor, IsToldRightly}
use Rattle.raft_headline.proofs.Tells.{told_stand}
use Rattle.raft_wire.specs.declared.kv.KvCommand.{KvCommand}
use Rattle.raft_wire.specs.declared.kv.KvCommand.TheVariants.{Get}
use Rattle.raft_wire.specs.Kv.{FitsCommand}
use Rattle.raft_kv.specs.Machine.{kv}
use Rattle.raft_kv_reading.specs.Values.{command_on}
use Rattle.raft_kv_reading.specs.Answers.{TellsValue}
use Rattle.raft_kv_reading.specs.Told.{IsTold, IsTokenOf, ToldAnswersTellValues, ToldCommandsStand, ToldGetsTellValues}
use Rattle.raft_kv_reading.proofs.Telling.{answers_tell, spelled_stands}

module _ (ids : List ℕ) (fit : AreNodeIds ids) (h : ℕ) (history : List Recorded) (end : Replicas) (run : ReplaysFor kv h (new_replicas kv ids) history end) (told : Told) (is : IsTold h history told) where
  rightly : IsToldRightly kv ids h history run.0 (group_list end.world) told
  rightly = told_stand kv ids fit h history end run.0 run.1 is.number is.event told is.stands is.has

  pub tells : TellsValue (group_list end.world) told.place told.answer
  tells = subst (TellsValue (group_list end.world) told.place) (sym rightly.answer) (answers_tell (group_list end.world) told.place)

  pub stands : (command : KvCommand) → FitsCommand command → IsTokenOf h history told.token command → command_on (group_list end.world) told.place ≡ Some command
  stands command fits asks =
      let origin = rightly.origin in
      let asked = asks rightly.number origin.node origin.now origin.recorded origin.asked origin.stands origin.event rightly.token in
      spelled_stands (group_list end.world) told.place rightly.entry command fits rightly.stands
      (subst (λ (call : GroupCall). IsAskedFor call rightly.entry.payload) asked origin.holds)

pub told_answers_tell : ToldAnswersTellValues
told_answers_tell ids fit h history end run told is = tells ids fit h history end run told is

pub told_commands_stand : ToldCommandsStand
told_commands_stand ids fit h history end run told is command fits asks = stands ids fit h history end run told is command fits asks

pub told_gets_tell : ToldGetsTellValues
told_gets_tell ids fit h history end run told is key fits asks =
    (tells ids fit h history end run told is).of_get key (stands ids fit h history end run told is (Get key) fits asks)
