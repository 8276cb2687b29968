-- Settings of the log engine as plain values, and what the engine computes from them.
use Rattle.std.specs.Prelude.{ℕ, ◌*◌, ◌/◌, ◌-◌, ◌^◌, max, min, Bool, true, false, ◌&&◌, not, nat_lt, [], Option, Some, None, option_map, unwrap_or, string_bytes}
use Rattle.std.specs.Prelude.{◌==◌, if◌then◌else◌}
use Rattle.raft_log_records.specs.declared.size.ReadableSize.{ReadableSize}
use Rattle.raft_log_records.specs.declared.version.Version.{Version}
use Rattle.raft_log_records.specs.declared.version.Version.TheVariants.{V1, V2}
use Rattle.raft_log_disk.specs.Text.{Text}
use Rattle.raft_log_files.specs.Size.{size_of}
use Rattle.raft_log_files.specs.declared.recovery.RecoveryMode.{RecoveryMode}
use Rattle.raft_log_files.specs.declared.recovery.RecoveryMode.TheVariants.{TolerateTailCorruption}
use Rattle.raft_log_files.specs.declared.error.OtherFault.{OtherFault}
use Rattle.raft_log_files.specs.declared.error.OtherFault.TheVariants.{PurgeBelowTarget, RecycleUnderVersion1, PrefillWithoutRecycle, NoTargetSize}
use Rattle.raft_log_files.specs.declared.config.Config.{Config}

-- the settings that a `Config` holds
pub record Settings : Type 0 where
  pub dir : Text
  pub spill_dir : Option Text
  pub recovery_mode : RecoveryMode
  pub recovery_read_block_size : ReadableSize
  pub recovery_threads : ℕ
  pub bytes_per_sync : Option ReadableSize
  pub format_version : Version
  pub target_file_size : ReadableSize
  pub purge_threshold : ReadableSize
  pub purge_rewrite_threshold : Option ReadableSize
  pub purge_rewrite_garbage_percent : ℕ
  pub enable_log_recycle : Bool
  pub prefill_for_recycle : Bool
  pub prefill_limit : Option ReadableSize

abbrev pub settings_of : Config → Settings
settings_of c = record {
  dir = string_bytes c.dir;
  spill_dir = option_map string_bytes c.spill_dir;
  recovery_mode = c.recovery_mode;
  recovery_read_block_size = c.recovery_read_block_size;
  recovery_threads = c.recovery_threads;
  bytes_per_sync = c.bytes_per_sync;
  format_version = c.format_version;
  target_file_size = c.target_file_size;
  purge_threshold = c.purge_threshold;
  purge_rewrite_threshold = c.purge_rewrite_threshold;
  purge_rewrite_garbage_percent = c.purge_rewrite_garbage_percent;
  enable_log_recycle = c.enable_log_recycle;
  prefill_for_recycle = c.prefill_for_recycle;
  prefill_limit = c.prefill_limit;
}

-- what holds where nothing is set
abbrev pub default_settings : Settings
default_settings = record {
  dir = [];
  spill_dir = None;
  recovery_mode = TolerateTailCorruption;
  recovery_read_block_size = size_of (16 * 1024);
  recovery_threads = 4;
  bytes_per_sync = None;
  format_version = V2;
  target_file_size = size_of (128 * 1024 ^ 2);
  purge_threshold = size_of (10 * 1024 ^ 3);
  purge_rewrite_threshold = None;
  purge_rewrite_garbage_percent = 60;
  enable_log_recycle = true;
  prefill_for_recycle = false;
  prefill_limit = None;
}

-- ---- sanitizing

-- a test: the format signs its records, so that files may be used again
abbrev pub has_log_signing : Version → Bool
has_log_signing V1 = false
has_log_signing V2 = true

-- why no log can be kept under the settings: the first reason
abbrev pub settings_fault : Settings → Option OtherFault
settings_fault s =
    if nat_lt s.purge_threshold.0 s.target_file_size.0 then Some PurgeBelowTarget
    else if s.enable_log_recycle && not (has_log_signing s.format_version) then Some RecycleUnderVersion1
    else if s.prefill_for_recycle && not s.enable_log_recycle then Some PrefillWithoutRecycle
    else if s.target_file_size.0 == 0 then Some NoTargetSize
    else None

-- the settings with small ones raised and what is left open filled in
abbrev pub sanitized : Settings → Settings
sanitized s = record s {
  recovery_read_block_size = size_of (max s.recovery_read_block_size.0 512);
  recovery_threads = max s.recovery_threads 1;
  purge_rewrite_threshold =
      Some (unwrap_or s.purge_rewrite_threshold (size_of (max (s.purge_threshold.0 / 10) s.target_file_size.0)));
  prefill_limit =
      if s.prefill_for_recycle then Some (unwrap_or s.prefill_limit s.purge_threshold) else None;
}

-- ---- files that are kept for reuse

-- half as many files again as have room in so many bytes, at most 2^32 - 1
abbrev pub file_capacity : ℕ → ℕ → ℕ
file_capacity limit target = if target == 0 then 0 else min (limit / target * 3 / 2) (2 ^ 32 - 1)

abbrev pub recycles : Settings → Bool
recycles s = s.enable_log_recycle && has_log_signing s.format_version

abbrev pub recycle_capacity_of : Settings → ℕ
recycle_capacity_of s = if recycles s then file_capacity s.purge_threshold.0 s.target_file_size.0 else 0

abbrev pub prefill_capacity_of : Settings → ℕ
prefill_capacity_of s =
    if recycles s && s.prefill_for_recycle
    then file_capacity (unwrap_or s.prefill_limit (size_of 0)).0 s.target_file_size.0
    else 0
