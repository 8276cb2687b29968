-- Settings that were written are given.
use Rattle.std.proofs.Common.{◌≡◌, List, [], ◌∷◌, Option, Some, None, option_map, codes, refl, sym, ap, ◌∙◌, subst}
use Rattle.std.specs.Option.{option_or, option_map_or}
use Rattle.toml.specs.Data.{Data, Members, string, boolean, get_member, as_str, as_bool, depth, members_depth}
use Rattle.raft_log_records.specs.declared.size.ReadableSize.{ReadableSize}
use Rattle.raft_log_records.specs.declared.version.Version.{Version}
use Rattle.raft_log_records.specs.declared.version.Version.TheVariants.{V1, V2}
use Rattle.raft_log_disk.specs.Text.{Text}
use Rattle.raft_log_files.specs.declared.recovery.RecoveryMode.{RecoveryMode}
use Rattle.raft_log_files.specs.declared.recovery.RecoveryMode.TheVariants.{AbsoluteConsistency, TolerateTailCorruption, TolerateAnyCorruption}
use Rattle.raft_log_files.specs.Settings.{Settings, default_settings}
use Rattle.raft_log_files.specs.Toml.{AreSettings, PutsOne, after_put, number_in, size_in, mode_in, version_in, said, said_if_any, size_data, number_data, mode_name, version_number}

-- each key with its value, if it has one
abbrev pub written : Settings → List (Text × Option Data)
written s =
    (codes "dir", Some (string s.dir))
    ∷ (codes "spill-dir", option_map string s.spill_dir)
    ∷ (codes "recovery-mode", Some (string (mode_name s.recovery_mode)))
    ∷ (codes "recovery-read-block-size", Some (size_data s.recovery_read_block_size))
    ∷ (codes "recovery-threads", Some (number_data s.recovery_threads))
    ∷ (codes "bytes-per-sync", option_map size_data s.bytes_per_sync)
    ∷ (codes "format-version", Some (number_data (version_number s.format_version)))
    ∷ (codes "target-file-size", Some (size_data s.target_file_size))
    ∷ (codes "purge-threshold", Some (size_data s.purge_threshold))
    ∷ (codes "purge-rewrite-threshold", option_map size_data s.purge_rewrite_threshold)
    ∷ (codes "purge-rewrite-garbage-percent", Some (number_data s.purge_rewrite_garbage_percent))
    ∷ (codes "enable-log-recycle", Some (boolean s.enable_log_recycle))
    ∷ (codes "prefill-for-recycle", Some (boolean s.prefill_for_recycle))
    ∷ (codes "prefill-limit", option_map size_data s.prefill_limit)
    ∷ []

-- what a key has after values were put under keys in turn
abbrev pub after_puts : List (Text × Option Data) → Text → Option Data → Option Data
after_puts [] k before = before
after_puts (e ∷ es) k before = after_puts es k (after_put e.0 e.1 k before)

-- values were put under keys in turn
abbrev pub Puts : Members → List (Text × Option Data) → Members → Type 0
Puts old [] new = old ≡ new
Puts old (e ∷ es) new = (mid : Members) × PutsOne old mid e.0 e.1 × Puts mid es new

pub found_in_turn : (es : List (Text × Option Data)) (old new : Members) (k : Text) → Puts old es new → get_member k new ≡ after_puts es k (get_member k old)
found_in_turn [] old new k run = ap (get_member k) (sym run)
found_in_turn (e ∷ es) old new k run = found_in_turn es run.0 new k run.2 ∙ ap (after_puts es k) (run.1.found k)

pub same_value : (old new : Members) (key : Text) (v w : Option Data) → v ≡ w → PutsOne old new key v → PutsOne old new key w
same_value old new key v w same puts = subst (λ (x : Option Data). PutsOne old new key x) same puts

-- the texts of the sizes say the sizes
pub record SizesAreSaid (s : Settings) : Type 0 where
  pub block : said_if_any size_in (Some (size_data s.recovery_read_block_size)) ≡ Some (Some s.recovery_read_block_size)
  pub sync : said_if_any size_in (option_map size_data s.bytes_per_sync) ≡ Some s.bytes_per_sync
  pub target : said_if_any size_in (Some (size_data s.target_file_size)) ≡ Some (Some s.target_file_size)
  pub purge : said_if_any size_in (Some (size_data s.purge_threshold)) ≡ Some (Some s.purge_threshold)
  pub rewrite : said_if_any size_in (option_map size_data s.purge_rewrite_threshold) ≡ Some s.purge_rewrite_threshold
  pub prefill : said_if_any size_in (option_map size_data s.prefill_limit) ≡ Some s.prefill_limit

unwrapped : {A : Type 0} (o : Option A) (x : A) → option_map Some o ≡ Some (Some x) → o ≡ Some x
unwrapped None x h = absurd cc
unwrapped (Some y) x h = cc

or_none : {A : Type 0} (o : Option A) → option_or o None ≡ o
or_none None = refl
or_none (Some x) = refl

text_said : (o : Option Text) → said_if_any as_str (option_map string o) ≡ Some o
text_said None = refl
text_said (Some t) = refl

mode_said : (m : RecoveryMode) → mode_in (string (mode_name m)) ≡ Some m
mode_said AbsoluteConsistency = refl
mode_said TolerateTailCorruption = refl
mode_said TolerateAnyCorruption = refl

version_said : (v : Version) → version_in (number_data (version_number v)) ≡ Some v
version_said V1 = refl
version_said V2 = refl

-- a table that has what was written gives the settings
pub given : (ms : Members) (s : Settings) → ((k : Text) → get_member k ms ≡ after_puts (written s) k None) → SizesAreSaid s → AreSettings ms s
given ms s keys sizes = record {
  dir = ap (said as_str []) (keys (codes "dir"));
  spill_dir = ap (said_if_any as_str) (keys (codes "spill-dir") ∙ or_none (option_map string s.spill_dir)) ∙ text_said s.spill_dir;
  recovery_mode = ap (said mode_in default_settings.recovery_mode) (keys (codes "recovery-mode")) ∙ mode_said s.recovery_mode;
  recovery_read_block_size = ap (said size_in default_settings.recovery_read_block_size) (keys (codes "recovery-read-block-size")) ∙ unwrapped _ _ sizes.block;
  recovery_threads = ap (said number_in default_settings.recovery_threads) (keys (codes "recovery-threads"));
  bytes_per_sync = ap (said_if_any size_in) (keys (codes "bytes-per-sync") ∙ or_none (option_map size_data s.bytes_per_sync)) ∙ sizes.sync;
  format_version = ap (said version_in default_settings.format_version) (keys (codes "format-version")) ∙ version_said s.format_version;
  target_file_size = ap (said size_in default_settings.target_file_size) (keys (codes "target-file-size")) ∙ unwrapped _ _ sizes.target;
  purge_threshold = ap (said size_in default_settings.purge_threshold) (keys (codes "purge-threshold")) ∙ unwrapped _ _ sizes.purge;
  purge_rewrite_threshold = ap (said_if_any size_in) (keys (codes "purge-rewrite-threshold") ∙ or_none (option_map size_data s.purge_rewrite_threshold)) ∙ sizes.rewrite;
  purge_rewrite_garbage_percent = ap (said number_in default_settings.purge_rewrite_garbage_percent) (keys (codes "purge-rewrite-garbage-percent"));
  enable_log_recycle = ap (said as_bool default_settings.enable_log_recycle) (keys (codes "enable-log-recycle"));
  prefill_for_recycle = ap (said as_bool default_settings.prefill_for_recycle) (keys (codes "prefill-for-recycle"));
  prefill_limit = ap (said_if_any size_in) (keys (codes "prefill-limit") ∙ or_none (option_map size_data s.prefill_limit)) ∙ sizes.prefill;
}

-- no value is an array or a table
abbrev pub AllFlat : List (Text × Option Data) → Type 0
AllFlat [] = Unit {0}
AllFlat (e ∷ es) = (option_map_or depth e.1 0 ≡ 0) × AllFlat es

pub flat_in_turn : (es : List (Text × Option Data)) (old new : Members) → Puts old es new → AllFlat es → members_depth old ≡ 0 → members_depth new ≡ 0
flat_in_turn [] old new run flat none = ap members_depth (sym run) ∙ none
flat_in_turn (e ∷ es) old new run flat none = flat_in_turn es run.0 new run.2 flat.1 (run.1.flat flat.0 none)

flat_text : (o : Option Text) → option_map_or depth (option_map string o) 0 ≡ 0
flat_text None = refl
flat_text (Some t) = refl

flat_size : (o : Option ReadableSize) → option_map_or depth (option_map size_data o) 0 ≡ 0
flat_size None = refl
flat_size (Some n) = refl

pub written_flat : (s : Settings) → AllFlat (written s)
written_flat s = (
  refl,
  (
    flat_text s.spill_dir,
    (
      refl,
      (
        refl,
        (
          refl,
          (
            flat_size s.bytes_per_sync,
            (
              refl,
              (
                refl,
                (
                  refl,
                  (flat_size s.purge_rewrite_threshold, (refl, (refl, (refl, (flat_size s.prefill_limit, tt))))),
                ),
              ),
            ),
          ),
        ),
      ),
    ),
  ),
)
