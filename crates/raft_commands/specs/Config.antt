-- What an engine is set up with where nothing else is asked for.
use Rattle.raft_group_step.specs.Limits.{entries_in_request}
use Rattle.raft_commands.specs.declared.engine_config.EngineConfig.{EngineConfig}

-- a lease of 150 ticks, and as many entries a request as the rules have
abbrev pub config_of : {K : Type 0} → K → EngineConfig K
config_of id = record {
  id = id;
  max_in_snapshot_log_to_keep = 1000;
  purge_batch_size = 256;
  max_payload_entries = entries_in_request;
  timer_config = record { election_timeout = 150; smaller_log_timeout = 200; leader_lease = 150 };
}
