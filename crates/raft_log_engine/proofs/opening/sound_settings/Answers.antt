use Rattle.std.proofs.Common.{ap}
use Rattle.raft_log_files.specs.declared.config.Config.{Config}
use Rattle.raft_log_files.specs.Settings.{Settings, settings_fault, settings_of}
use Rattle.raft_log_recovery.specs.Scan.{directories_of}
use Rattle.raft_log_engine.proofs.Corrupt.{sound_err, sound_ok}
use Rattle.raft_log_engine.proofs.opening.sound_settings.Goals as goal

pub returns-clause-directories : goal.returns-clause-directories
returns-clause-directories c = ap directories_of c.in_ok-sanitize.ensures.ok

pub returns-clause-mode : goal.returns-clause-mode
returns-clause-mode c = ap (λ (s : Settings). s.recovery_mode) c.in_ok-sanitize.ensures.ok

pub returns-clause-refused : goal.returns-clause-refused
returns-clause-refused c = sound_ok Config (settings_fault (settings_of c.args.config)) c.sanitize.new.self _ c.in_ok-sanitize.ensures.refused

pub returns-in_err-sanitize-clause-refused : goal.returns-in_err-sanitize-clause-refused
returns-in_err-sanitize-clause-refused c =
    sound_err Config (settings_fault (settings_of c.args.config)) c.in_err-sanitize.field-0.0 c.from_residual.result c.from_residual.ensures.1 c.in_err-sanitize.ensures.refused
