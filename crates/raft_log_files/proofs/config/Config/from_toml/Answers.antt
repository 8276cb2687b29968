use Rattle.std.proofs.Common.{◌≡◌, ◌⊎◌, inl, inr, Some, Result, Ok, Err, IfErr}
use Rattle.toml.specs.Data.{Members}
use Rattle.toml.specs.Parse.{parse_document}
use Rattle.toml.specs.View.{table_view}
use Rattle.raft_log_disk.specs.Text.{Text}
use Rattle.raft_log_files.specs.declared.error.Error.{Error}
use Rattle.raft_log_files.specs.declared.error.Error.TheVariants.{Memory}
use Rattle.raft_log_files.specs.Toml.{GivesNone, IsRefusal, bad_setting}
use Rattle.raft_log_files.proofs.config.Config.from_toml.Goals as goal

err_more : {A E : Type 0} (r : Result A E) (P Q : E → Type 0) → ((e : E) → P e → Q e) → IfErr r P → IfErr r Q
err_more (Ok v) P Q more h = tt
err_more (Err e) P Q more h = more e h

refusal : (text : Text) (ms : Members) → parse_document text ≡ Some ms → (e : Error) → (e ≡ Memory) ⊎ ((e ≡ bad_setting) × GivesNone ms) → IsRefusal text e
refusal text ms read e (inl memory) = inl memory
refusal text ms read e (inr h) = inr (inr (h.0, ms, read, h.1))

pub returns-in-Ok-clause-refused : goal.returns-in-Ok-clause-refused
returns-in-Ok-clause-refused c =
    err_more c.config_in.result _ _ (refusal c.args.text.now (table_view c.in-Ok.table) c.in-Ok.ensures.ok) c.config_in.ensures.err
