-- What the cleaning left.
use Rattle.std.proofs.Common.{refl}
use Rattle.raft_log_engine.proofs.engine.Engine.clean_append_queue.Goals as goal

pub returns-in-Ok-clause-answers : goal.returns-in-Ok-clause-answers
returns-in-Ok-clause-answers g c = c.in-Ok.ensures.answers

pub returns-in-Ok-clause-goes_on : goal.returns-in-Ok-clause-goes_on
returns-in-Ok-clause-goes_on g c = c.in-Ok.ensures.goes_on

pub returns-in-Ok-clause-sound : goal.returns-in-Ok-clause-sound
returns-in-Ok-clause-sound g c = c.in-Ok.ensures.sound

pub returns-in-Ok-clause-left : goal.returns-in-Ok-clause-left
returns-in-Ok-clause-left g c = c.in-Ok.ensures.left

pub returns-in-Ok-clause-paths : goal.returns-in-Ok-clause-paths
returns-in-Ok-clause-paths g c = c.in-Ok.ensures.paths

pub returns-in-Ok-clause-set : goal.returns-in-Ok-clause-set
returns-in-Ok-clause-set g c = c.in-Ok.ensures.set

pub returns-in-Ok-clause-alone : goal.returns-in-Ok-clause-alone
returns-in-Ok-clause-alone g c = c.in-Ok.ensures.alone

pub returns-in-Ok-clause-opens : goal.returns-in-Ok-clause-opens
returns-in-Ok-clause-opens g c = c.in-Ok.ensures.opens

pub returns-in-Ok-clause-opens_still : goal.returns-in-Ok-clause-opens_still
returns-in-Ok-clause-opens_still g c = c.in-Ok.ensures.opens_still

pub returns-in-Ok-clause-opens_in_tail : goal.returns-in-Ok-clause-opens_in_tail
returns-in-Ok-clause-opens_in_tail g c = c.in-Ok.ensures.opens_in_tail

pub returns-in-Ok-clause-goes_on_in_tail : goal.returns-in-Ok-clause-goes_on_in_tail
returns-in-Ok-clause-goes_on_in_tail g c = c.in-Ok.ensures.goes_on_in_tail

pub returns-in-Ok-clause-barrier : goal.returns-in-Ok-clause-barrier
returns-in-Ok-clause-barrier g c = c.in-Ok.ensures.barrier

pub returns-in-Ok-clause-all_written : goal.returns-in-Ok-clause-all_written
returns-in-Ok-clause-all_written g c = c.in-Ok.ensures.all_written

pub returns-in-Ok-clause-threshold : goal.returns-in-Ok-clause-threshold
returns-in-Ok-clause-threshold g c = c.in-Ok.ensures.threshold

pub returns-in-Ok-clause-reads : goal.returns-in-Ok-clause-reads
returns-in-Ok-clause-reads g c = c.in-Ok.ensures.reads

pub returns-in-Ok-clause-later : goal.returns-in-Ok-clause-later
returns-in-Ok-clause-later g c = c.in-Ok.ensures.later

pub returns-in-Ok-clause-gone : goal.returns-in-Ok-clause-gone
returns-in-Ok-clause-gone g c = c.in-Ok.ensures.gone refl

pub returns-in-Ok-clause-held : goal.returns-in-Ok-clause-held
returns-in-Ok-clause-held g c = c.in-Ok.ensures.held refl

pub returns-in-Ok-clause-count : goal.returns-in-Ok-clause-count
returns-in-Ok-clause-count g c = c.in-Ok.ensures.count refl

pub returns-in-Ok-clause-stops : goal.returns-in-Ok-clause-stops
returns-in-Ok-clause-stops g c = tt

pub returns-in-Ok-clause-cause : goal.returns-in-Ok-clause-cause
returns-in-Ok-clause-cause g c = tt

pub returns-in-Err-clause-cause : goal.returns-in-Err-clause-cause
returns-in-Err-clause-cause g c = c.in-Err.ensures.cause

pub returns-in-Err-clause-goes_on : goal.returns-in-Err-clause-goes_on
returns-in-Err-clause-goes_on g c = c.in-Err.ensures.goes_on

pub returns-in-Err-clause-paths : goal.returns-in-Err-clause-paths
returns-in-Err-clause-paths g c = c.in-Err.ensures.paths

pub returns-in-Err-clause-set : goal.returns-in-Err-clause-set
returns-in-Err-clause-set g c = c.in-Err.ensures.set

pub returns-in-Err-clause-opens_still : goal.returns-in-Err-clause-opens_still
returns-in-Err-clause-opens_still g c = c.in-Err.ensures.opens_still

pub returns-in-Err-clause-opens_in_tail : goal.returns-in-Err-clause-opens_in_tail
returns-in-Err-clause-opens_in_tail g c = c.in-Err.ensures.opens_in_tail

pub returns-in-Err-clause-goes_on_in_tail : goal.returns-in-Err-clause-goes_on_in_tail
returns-in-Err-clause-goes_on_in_tail g c = c.in-Err.ensures.goes_on_in_tail

pub returns-in-Err-clause-threshold : goal.returns-in-Err-clause-threshold
returns-in-Err-clause-threshold g c = c.in-Err.ensures.threshold

pub returns-in-Err-clause-reads : goal.returns-in-Err-clause-reads
returns-in-Err-clause-reads g c = c.in-Err.ensures.reads

pub returns-in-Err-clause-later : goal.returns-in-Err-clause-later
returns-in-Err-clause-later g c = c.in-Err.ensures.later

pub returns-in-Err-clause-stops : goal.returns-in-Err-clause-stops
returns-in-Err-clause-stops g c = c.in-Err.ensures.stops

pub returns-in-Err-clause-answers : goal.returns-in-Err-clause-answers
returns-in-Err-clause-answers g c = tt

pub returns-in-Err-clause-sound : goal.returns-in-Err-clause-sound
returns-in-Err-clause-sound g c = tt

pub returns-in-Err-clause-left : goal.returns-in-Err-clause-left
returns-in-Err-clause-left g c = tt

pub returns-in-Err-clause-barrier : goal.returns-in-Err-clause-barrier
returns-in-Err-clause-barrier g c = tt

pub returns-in-Err-clause-all_written : goal.returns-in-Err-clause-all_written
returns-in-Err-clause-all_written g c = tt

pub returns-in-Err-clause-gone : goal.returns-in-Err-clause-gone
returns-in-Err-clause-gone g c = tt

pub returns-in-Err-clause-held : goal.returns-in-Err-clause-held
returns-in-Err-clause-held g c = tt

pub returns-in-Err-clause-count : goal.returns-in-Err-clause-count
returns-in-Err-clause-count g c = tt

pub returns-in-Err-clause-alone : goal.returns-in-Err-clause-alone
returns-in-Err-clause-alone g c = λ alone. tt

pub returns-in-Err-clause-opens : goal.returns-in-Err-clause-opens
returns-in-Err-clause-opens g c = λ alone. tt
