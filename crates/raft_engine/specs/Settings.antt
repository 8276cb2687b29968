-- The numbers that the rules of a group have for an engine's settings.
use Rattle.std.specs.Prelude.{Bool, ◌==◌, ◌&&◌}
use Rattle.raft_commands.specs.declared.engine_config.EngineConfig.{EngineConfig}
use Rattle.raft_commands.specs.Config.{config_of}

module _ {K : Type 0} where
  -- the config asks for each number that the rules have
  abbrev pub has_rules_numbers : EngineConfig K → Bool
  has_rules_numbers config =
      let rules = config_of config.id
      in config.max_in_snapshot_log_to_keep == rules.max_in_snapshot_log_to_keep && config.purge_batch_size == rules.purge_batch_size
      && config.max_payload_entries == rules.max_payload_entries && config.timer_config.election_timeout == rules.timer_config.election_timeout
      && config.timer_config.smaller_log_timeout == rules.timer_config.smaller_log_timeout && config.timer_config.leader_lease == rules.timer_config.leader_lease
