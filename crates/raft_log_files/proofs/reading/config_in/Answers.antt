-- Each setting is what its key says; one of no use is told.
use Rattle.std.proofs.Common.{◌≡◌, ◌⊎◌, ◌∙◌, Option, Some, None, Result, Ok, Err, IfOk, IfErr, IsErrAnd, ok_or, inr, refl, sym}
use Rattle.std.proofs.lemmas.Result.{err_from_is_err_and}
use Rattle.toml.specs.Data.{Members}
use Rattle.toml.specs.View.{table_view}
use Rattle.raft_log_files.specs.declared.error.Error.{Error}
use Rattle.raft_log_files.specs.declared.error.Error.TheVariants.{Memory}
use Rattle.raft_log_files.specs.Toml.{GivesNone, bad_setting}
use Rattle.raft_log_files.proofs.reading.config_in.Goals as goal

said_ok : {A : Type 0} (o : Option A) (e : Error) (v : A) → Ok v ≡ ok_or o e → o ≡ Some v
said_ok None e v h = absurd cc
said_ok (Some x) e v h = cc

pub returns-clause-ok : goal.returns-clause-ok
returns-clause-ok c = record {
  dir = c.in_ok-text_or_empty.ensures.ok;
  spill_dir = c.in_ok-text_if_any.ensures.ok;
  recovery_mode = said_ok _ _ _ c.in_ok-mode.ensures;
  recovery_read_block_size = said_ok _ _ _ c.in_ok-block.ensures;
  recovery_threads = said_ok _ _ _ c.in_ok-threads.ensures;
  bytes_per_sync = said_ok _ _ _ c.in_ok-size_if_any.ensures;
  format_version = said_ok _ _ _ c.in_ok-version_or.ensures;
  target_file_size = said_ok _ _ _ c.in_ok-size_or.ensures;
  purge_threshold = said_ok _ _ _ c.in_ok-size_or-2.ensures;
  purge_rewrite_threshold = said_ok _ _ _ c.in_ok-size_if_any-2.ensures;
  purge_rewrite_garbage_percent = said_ok _ _ _ c.in_ok-percent.ensures;
  enable_log_recycle = said_ok _ _ _ c.in_ok-flag_or.ensures;
  prefill_for_recycle = said_ok _ _ _ c.in_ok-flag_or-2.ensures;
  prefill_limit = said_ok _ _ _ c.in_ok-size_if_any-3.ensures;
}

refused : {A : Type 0} (o : Option A) (e : Error) → Err e ≡ ok_or o bad_setting → (e ≡ bad_setting) × (o ≡ None)
refused None e h = (cc, refl)
refused (Some x) e h = absurd cc

-- a setting of no use is told, and leaves no settings
none_left : {T : Type 0} (ms : Members) (r : Result T Error) (e : Error) → IsErrAnd r (λ y. y ≡ e) → e ≡ bad_setting → GivesNone ms
    → IfErr r (λ y. (y ≡ Memory) ⊎ ((y ≡ bad_setting) × GivesNone ms))
none_left ms r e is bad none = let p = err_from_is_err_and r is in rw p.1 (inr (p.2 ∙ bad, none))

pub returns-in_err-size_or-clause-err : goal.returns-in_err-size_or-clause-err
returns-in_err-size_or-clause-err c =
    let why = refused _ c.in_err-size_or.field-0.0 c.in_err-size_or.ensures in
    none_left (table_view c.args.table.now) c.from_residual-in_err-size_or.result c.in_err-size_or.field-0.0 c.from_residual-in_err-size_or.ensures.1 why.0
    (λ s has. let no = sym has.target_file_size ∙ why.1 in absurd cc)

pub returns-in_err-size_or-2-clause-err : goal.returns-in_err-size_or-2-clause-err
returns-in_err-size_or-2-clause-err c =
    let why = refused _ c.in_err-size_or-2.field-0.0 c.in_err-size_or-2.ensures in
    none_left (table_view c.args.table.now) c.from_residual-in_err-size_or-2.result c.in_err-size_or-2.field-0.0 c.from_residual-in_err-size_or-2.ensures.1 why.0
    (λ s has. let no = sym has.purge_threshold ∙ why.1 in absurd cc)

-- and there are none
not_given : {T : Type 0} (P : T → Type 0) (r : Result T Error) (e : Error) → IsErrAnd r (λ y. y ≡ e) → IfOk r P
not_given P r e is = let p = err_from_is_err_and r is in rw p.1 tt

pub returns-in_err-size_or-clause-ok : goal.returns-in_err-size_or-clause-ok
returns-in_err-size_or-clause-ok c = not_given _ c.from_residual-in_err-size_or.result _ c.from_residual-in_err-size_or.ensures.1

pub returns-in_err-size_or-2-clause-ok : goal.returns-in_err-size_or-2-clause-ok
returns-in_err-size_or-2-clause-ok c = not_given _ c.from_residual-in_err-size_or-2.result _ c.from_residual-in_err-size_or-2.ensures.1
