-- When want of a quorum is told.
use Rattle.std.proofs.Common.{◌≡◌, ℕ, ◌+◌, ◌≤◌, true, Option, Some, None, ap, arith}
use Rattle.std.specs.Prelude.{unwrap_or}
use Rattle.std.proofs.lemmas.Bool.{and_parts, and_from}
use Rattle.raft_timers.specs.declared.config.TimerConfig.{TimerConfig}
use Rattle.raft_timers.specs.declared.lead.Lead.{Lead}
use Rattle.raft_timers.specs.declared.view.GroupView.{GroupView}
use Rattle.raft_timers.specs.Election.{leads}
use Rattle.raft_timers.specs.Interval.{have_passed}
use Rattle.raft_timers.specs.Lead.{lacks_quorum, unheard_since}
use Rattle.raft_timers.proofs.Passing.{passed, passed_from}

-- not within the least silence behind the moment at which one was heard of
pub lacks_late : (config : TimerConfig) (lead : Option Lead) (view : GroupView) (now heard : ℕ) → view.quorum_heard ≡ Some heard
    → lacks_quorum config.settings lead view now ≡ true → heard + config.settings.election_min ≤ now
lacks_late config None view now heard is lacks = absurd (cc)
lacks_late config (Some l) view now heard is lacks =
    let silence = config.silence in
    let over =
    passed config.settings.election_min (unheard_since l view) now (omega arith)
    (and_parts (leads view.role) (have_passed config.settings.election_min (unheard_since l view) now) lacks).1 in
    let known = ap (λ (o : Option ℕ). unwrap_or o 0) is in
    omega arith

pub lacks_then : (config : TimerConfig) (l : Lead) (view : GroupView) (now : ℕ) → leads view.role ≡ true
    → unheard_since l view + config.settings.election_min ≤ now → lacks_quorum config.settings (Some l) view now ≡ true
lacks_then config l view now leading over =
    and_from (leads view.role) (have_passed config.settings.election_min (unheard_since l view) now) leading
    (passed_from config.settings.election_min (unheard_since l view) now over)
