-- No file that a listener keeps went.
use Rattle.raft_log_cleaner.proofs.Going.{when_err, when_ok}
use Rattle.raft_log_engine.proofs.HearingLemmas.{cleaning_heard, no_err}
use Rattle.raft_log_engine.proofs.KeptFiles.{none_kept_went, none_of_err}
use Rattle.raft_log_engine.proofs.engine.Engine.clean_append_queue_with.Goals as goal
use Rattle.raft_log_engine.proofs.engine.Engine.clean_append_queue_with.Goals.{in-Ok, in-Err}

pub returns-clause-kept : goal.returns-clause-kept
returns-clause-kept g c = elim c.match-clean_append_queue.branch [
  | in-Ok w ↦ when_ok c.match-clean_append_queue.result (none_kept_went g.L.EventListener.kept c.args.listeners.now c.least_kept-barrier.result c.args.self.now.pipes c.clean_append_queue.new.self.pipes c.least_kept-barrier.ensures w.in-Ok.ensures.barrier)
  | in-Err w ↦ none_of_err _ c.match-clean_append_queue.result w.in-Err.fault w.result-is
]

-- ---- what listeners hear

pub returns-clause-heard : goal.returns-clause-heard
returns-clause-heard g c = elim c.match-clean_append_queue.branch [
  | in-Ok w ↦ rw (w.listeners-is, ← c.self.view_is, ← c.self-2.view_is) (when_ok c.match-clean_append_queue.result
      (cleaning_heard g.L.EventListener.hears c.self.inside.pipes c.self-2.inside.pipes c.file_span-appends.result c.file_span-rewrites.result c.args.listeners.now w.tell_changes.new.listeners
      c.file_span-appends.ensures.first c.file_span-appends.ensures.last c.file_span-rewrites.ensures.first c.file_span-rewrites.ensures.last w.tell_changes.ensures.told))
  | in-Err w ↦ none_of_err _ c.match-clean_append_queue.result w.in-Err.fault w.result-is
]

pub returns-clause-unheard : goal.returns-clause-unheard
returns-clause-unheard g c = elim c.match-clean_append_queue.branch [
  | in-Ok w ↦ no_err _ c.match-clean_append_queue.result w.in-Ok.went w.result-is
  | in-Err w ↦ when_err c.match-clean_append_queue.result w.listeners-is
]

-- ---- as without listeners

pub returns-clause-goes_on : goal.returns-clause-goes_on
returns-clause-goes_on g c = c.clean_append_queue.ensures.goes_on

pub returns-clause-paths : goal.returns-clause-paths
returns-clause-paths g c = c.clean_append_queue.ensures.paths

pub returns-clause-set : goal.returns-clause-set
returns-clause-set g c = c.clean_append_queue.ensures.set

pub returns-clause-opens_still : goal.returns-clause-opens_still
returns-clause-opens_still g c = c.clean_append_queue.ensures.opens_still

pub returns-clause-opens_in_tail : goal.returns-clause-opens_in_tail
returns-clause-opens_in_tail g c = c.clean_append_queue.ensures.opens_in_tail

pub returns-clause-goes_on_in_tail : goal.returns-clause-goes_on_in_tail
returns-clause-goes_on_in_tail g c = c.clean_append_queue.ensures.goes_on_in_tail

pub returns-clause-threshold : goal.returns-clause-threshold
returns-clause-threshold g c = c.clean_append_queue.ensures.threshold

pub returns-clause-reads : goal.returns-clause-reads
returns-clause-reads g c = c.clean_append_queue.ensures.reads

pub returns-clause-later : goal.returns-clause-later
returns-clause-later g c = c.clean_append_queue.ensures.later

pub returns-clause-answers : goal.returns-clause-answers
returns-clause-answers g c = elim c.match-clean_append_queue.branch [
  | in-Ok w ↦ when_ok c.match-clean_append_queue.result w.in-Ok.ensures.answers
  | in-Err w ↦ none_of_err _ c.match-clean_append_queue.result w.in-Err.fault w.result-is
]

pub returns-clause-sound : goal.returns-clause-sound
returns-clause-sound g c = elim c.match-clean_append_queue.branch [
  | in-Ok w ↦ when_ok c.match-clean_append_queue.result w.in-Ok.ensures.sound
  | in-Err w ↦ none_of_err _ c.match-clean_append_queue.result w.in-Err.fault w.result-is
]

pub returns-clause-left : goal.returns-clause-left
returns-clause-left g c = elim c.match-clean_append_queue.branch [
  | in-Ok w ↦ when_ok c.match-clean_append_queue.result w.in-Ok.ensures.left
  | in-Err w ↦ none_of_err _ c.match-clean_append_queue.result w.in-Err.fault w.result-is
]

pub returns-clause-held : goal.returns-clause-held
returns-clause-held g c = elim c.match-clean_append_queue.branch [
  | in-Ok w ↦ when_ok c.match-clean_append_queue.result w.in-Ok.ensures.held
  | in-Err w ↦ none_of_err _ c.match-clean_append_queue.result w.in-Err.fault w.result-is
]

pub returns-clause-all_written : goal.returns-clause-all_written
returns-clause-all_written g c = elim c.match-clean_append_queue.branch [
  | in-Ok w ↦ when_ok c.match-clean_append_queue.result w.in-Ok.ensures.all_written
  | in-Err w ↦ none_of_err _ c.match-clean_append_queue.result w.in-Err.fault w.result-is
]

pub returns-clause-alone : goal.returns-clause-alone
returns-clause-alone g c = λ alone. elim c.match-clean_append_queue.branch [
  | in-Ok w ↦ when_ok c.match-clean_append_queue.result (w.in-Ok.ensures.alone alone)
  | in-Err w ↦ none_of_err _ c.match-clean_append_queue.result w.in-Err.fault w.result-is
]

pub returns-clause-opens : goal.returns-clause-opens
returns-clause-opens g c = λ alone. elim c.match-clean_append_queue.branch [
  | in-Ok w ↦ when_ok c.match-clean_append_queue.result (w.in-Ok.ensures.opens alone)
  | in-Err w ↦ none_of_err _ c.match-clean_append_queue.result w.in-Err.fault w.result-is
]

pub returns-clause-count : goal.returns-clause-count
returns-clause-count g c = elim c.match-clean_append_queue.branch [
  | in-Ok w ↦ rw w.result-is w.in-Ok.ensures.count
  | in-Err w ↦ rw w.result-is tt
]

pub returns-clause-stops : goal.returns-clause-stops
returns-clause-stops g c = elim c.match-clean_append_queue.branch [
  | in-Ok w ↦ rw w.result-is tt
  | in-Err w ↦ rw w.result-is w.in-Err.ensures.stops
]

pub returns-clause-stopped : goal.returns-clause-stopped
returns-clause-stopped g c = λ stopped. elim c.match-clean_append_queue.branch [
  | in-Ok w ↦ rw w.result-is (w.in-Ok.ensures.stopped stopped)
  | in-Err w ↦ rw w.result-is (w.in-Err.ensures.stopped stopped)
]

pub returns-clause-cause : goal.returns-clause-cause
returns-clause-cause g c = elim c.match-clean_append_queue.branch [
  | in-Ok w ↦ rw w.result-is tt
  | in-Err w ↦ rw w.result-is w.in-Err.ensures.cause
]
