-- What a clock is set up with where nothing else is asked for.
use Rattle.raft_timers.specs.declared.config.TimerSettings.{TimerSettings}

abbrev pub usual : TimerSettings
usual =
    record {
      heartbeat_interval = 50;
      election_min = 200;
      election_max = 400;
      request_timeout = 100;
      request_timeout_max = 1600;
      snapshot_entries = 5000;
      keep_entries = 1000;
      clean_interval = 10000;
    }
