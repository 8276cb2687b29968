-- Settings as TOML: what each key of a table says.
use Rattle.std.specs.Prelude.{◌≡◌, ◌⊎◌, ℕ, ◌^◌, ◌<◌, ℤ, pos, negsuc, [], Option, Some, None, option_map, option_and_then, codes}
use Rattle.std.specs.Prelude.{◌==◌, if◌then◌else◌}
use Rattle.std.specs.Option.{option_or, option_map_or}
use Rattle.toml.specs.Data.{Data, string, integer, Members, get_member, same_key, as_str, as_integer, as_bool, depth, members_depth}
use Rattle.toml.specs.Parse.{parse_document}
use Rattle.raft_log_records.specs.declared.size.ReadableSize.{ReadableSize}
use Rattle.raft_log_records.specs.declared.version.Version.{Version}
use Rattle.raft_log_records.specs.declared.version.Version.TheVariants.{V1, V2}
use Rattle.raft_log_disk.specs.Text.{Text, same_text}
use Rattle.raft_log_files.specs.declared.recovery.RecoveryMode.{RecoveryMode}
use Rattle.raft_log_files.specs.declared.recovery.RecoveryMode.TheVariants.{AbsoluteConsistency, TolerateTailCorruption, TolerateAnyCorruption}
use Rattle.raft_log_files.specs.declared.error.Error.{Error}
use Rattle.raft_log_files.specs.declared.error.Error.TheVariants.{InvalidArgument, Memory}
use Rattle.raft_log_files.specs.declared.error.ArgumentFault.TheVariants.{BadSetting, NotToml}
use Rattle.raft_log_files.specs.Size.{size_of, size_said, size_text}
use Rattle.raft_log_files.specs.Settings.{Settings, default_settings}

-- ---- what a value says

abbrev pub natural : ℤ → Option ℕ
natural (pos n) = Some n
natural (negsuc n) = None

abbrev pub number_in : Data → Option ℕ
number_in d = option_and_then natural (as_integer d)

abbrev pub size_in : Data → Option ReadableSize
size_in (integer z) = option_map size_of (natural z)
size_in (string text) = size_said text
size_in _ = None

abbrev pub mode_named : Text → Option RecoveryMode
mode_named text =
    if same_text text (codes "absolute-consistency") then Some AbsoluteConsistency
    else if same_text text (codes "tolerate-tail-corruption") then Some TolerateTailCorruption
    else if same_text text (codes "tolerate-corrupted-tail-records") then Some TolerateTailCorruption
    else if same_text text (codes "tolerate-any-corruption") then Some TolerateAnyCorruption
    else None

abbrev pub mode_in : Data → Option RecoveryMode
mode_in d = option_and_then mode_named (as_str d)

abbrev pub version_numbered : ℕ → Option Version
version_numbered n = if n == 1 then Some V1 else if n == 2 then Some V2 else None

abbrev pub version_in : Data → Option Version
version_in d = option_and_then version_numbered (number_in d)

-- ---- what a table says

-- what a key says: without it the default, and none where its value is of no use
abbrev pub said : {A : Type 0} → (Data → Option A) → A → Option Data → Option A
said read default None = Some default
said read default (Some d) = read d

-- the same of a setting that may be none
abbrev pub said_if_any : {A : Type 0} → (Data → Option A) → Option Data → Option (Option A)
said_if_any read at = said (λ d. option_map Some (read d)) None at

-- the settings that a table gives; other keys count for nothing
pub record AreSettings (ms : Members) (s : Settings) : Type 0 where
  pub dir : said as_str [] (get_member (codes "dir") ms) ≡ Some s.dir
  pub spill_dir : said_if_any as_str (get_member (codes "spill-dir") ms) ≡ Some s.spill_dir
  pub recovery_mode : said mode_in default_settings.recovery_mode (get_member (codes "recovery-mode") ms) ≡ Some s.recovery_mode
  pub recovery_read_block_size : said size_in default_settings.recovery_read_block_size
      (get_member (codes "recovery-read-block-size") ms) ≡ Some s.recovery_read_block_size
  pub recovery_threads : said number_in default_settings.recovery_threads (get_member (codes "recovery-threads") ms) ≡ Some s.recovery_threads
  pub bytes_per_sync : said_if_any size_in (get_member (codes "bytes-per-sync") ms) ≡ Some s.bytes_per_sync
  pub format_version : said version_in default_settings.format_version (get_member (codes "format-version") ms) ≡ Some s.format_version
  pub target_file_size : said size_in default_settings.target_file_size (get_member (codes "target-file-size") ms) ≡ Some s.target_file_size
  pub purge_threshold : said size_in default_settings.purge_threshold (get_member (codes "purge-threshold") ms) ≡ Some s.purge_threshold
  pub purge_rewrite_threshold : said_if_any size_in (get_member (codes "purge-rewrite-threshold") ms) ≡ Some s.purge_rewrite_threshold
  pub purge_rewrite_garbage_percent : said number_in default_settings.purge_rewrite_garbage_percent
      (get_member (codes "purge-rewrite-garbage-percent") ms) ≡ Some s.purge_rewrite_garbage_percent
  pub enable_log_recycle : said as_bool default_settings.enable_log_recycle (get_member (codes "enable-log-recycle") ms) ≡ Some s.enable_log_recycle
  pub prefill_for_recycle : said as_bool default_settings.prefill_for_recycle
      (get_member (codes "prefill-for-recycle") ms) ≡ Some s.prefill_for_recycle
  pub prefill_limit : said_if_any size_in (get_member (codes "prefill-limit") ms) ≡ Some s.prefill_limit

-- no settings: some key has a value of no use
abbrev pub GivesNone : Members → Type 0
GivesNone ms = (s : Settings) → ¬ (AreSettings ms s)

-- the settings that a text gives
abbrev pub GivesSettings : Text → Settings → Type 0
GivesSettings text s = (ms : Members) × (parse_document text ≡ Some ms) × AreSettings ms s

-- the refusal of a value of no use
abbrev pub bad_setting : Error
bad_setting = InvalidArgument BadSetting

-- why a text is refused: it is no TOML, or some key has a value of no use; or memory was refused
abbrev pub IsRefusal : Text → Error → Type 0
IsRefusal text e =
    (e ≡ Memory)
    ⊎ (((e ≡ InvalidArgument NotToml) × (parse_document text ≡ None))
    ⊎ ((e ≡ bad_setting) × (ms : Members) × (parse_document text ≡ Some ms) × GivesNone ms))

-- ---- what is written

abbrev pub mode_name : RecoveryMode → Text
mode_name AbsoluteConsistency = codes "absolute-consistency"
mode_name TolerateTailCorruption = codes "tolerate-corrupted-tail-records"
mode_name TolerateAnyCorruption = codes "tolerate-any-corruption"

abbrev pub version_number : Version → ℕ
version_number V1 = 1
version_number V2 = 2

abbrev pub number_data : ℕ → Data
number_data n = integer (pos n)

abbrev pub size_data : ReadableSize → Data
size_data size = string (size_text size)

-- what a key has after a value, if there is one, was put under a key
abbrev pub after_put : Text → Option Data → Text → Option Data → Option Data
after_put key value k before = if same_key k key then option_or value before else before

-- a value, if there is one, was put under a key
pub record PutsOne (old new : Members) (key : Text) (value : Option Data) : Type 0 where
  pub found : (k : Text) → get_member k new ≡ after_put key value k (get_member k old)
  pub flat : option_map_or depth value 0 ≡ 0 → members_depth old ≡ 0 → members_depth new ≡ 0

-- numbers that TOML can say
abbrev pub FitToml : Settings → Type 0
FitToml s = (s.recovery_threads < 2 ^ 63) × (s.purge_rewrite_garbage_percent < 2 ^ 63)
