use Rattle.raft_kv.specs.Restoring.{state_again}
use Rattle.raft_kv.proofs.WithinMaps.{answer_given, command_within, empty_within, restored_again, step_of}
use Rattle.raft_kv.proofs.laws.states_spell_maps.Goals as goal

pub returns-clause-empty : goal.returns-clause-empty
returns-clause-empty c = empty_within

pub returns-clause-within : goal.returns-clause-within
returns-clause-within c = λ m command h fits. command_within m command h fits

pub returns-clause-step : goal.returns-clause-step
returns-clause-step c = λ m place command h fits. step_of m command h fits

pub returns-clause-answer : goal.returns-clause-answer
returns-clause-answer c = λ m place command h fits. answer_given m command h fits

pub returns-clause-state : goal.returns-clause-state
returns-clause-state c = λ m h. restored_again m h

pub returns-clause-restored : goal.returns-clause-restored
returns-clause-restored c = λ m h. state_again m
