-- What calls answer is the content of the batches that the files read as.
use Rattle.std.proofs.Common.{false, [], refl, sym, subst}
use Rattle.std.proofs.lemmas.List.{append-nil}
use Rattle.raft_log_engine.specs.Traced.{IsTraced}
use Rattle.raft_log_engine.specs.Left.{answers_on}
use Rattle.raft_log_files.specs.Settings.{settings_of}
use Rattle.raft_log_recovery.specs.Scan.{directories_of}
use Rattle.raft_log_engine.proofs.Clauses.{parts}
use Rattle.raft_log_engine.proofs.Fresh.{found_nothing}
use Rattle.raft_log_engine.proofs.Reopened.{kept_opens}
use Rattle.raft_log_engine.proofs.Since.{nothing_since}
use Rattle.raft_log_blocks.proofs.HeldLemmas.{answered, kept_held}
use Rattle.raft_log_engine.proofs.Tails.{held_in_tail}
use Rattle.raft_log_engine.proofs.engine.Engine.open_by.Goals as goal

pub returns-in-Ok-clause-answers : goal.returns-in-Ok-clause-answers
returns-in-Ok-clause-answers g c =
    let is = c.in-Ok.ensures.ok in
    record {
      rewrites = is.rewrites;
      appends = is.appends;
      rewrite = is.rewrite;
      append = is.append;
      is = answered (g.F.FileSystem.disk c.found_soundly.new.files) c.in-Ok.pipes c.in-Ok.traced.tables is.rewrites is.appends is.kept;
    }

pub returns-in-Ok-clause-fresh : goal.returns-in-Ok-clause-fresh
returns-in-Ok-clause-fresh g c =
    let is = c.in-Ok.ensures.ok in
    let d = g.F.FileSystem.disk c.found_soundly.new.files in
    λ none. found_nothing (directories_of (settings_of c.args.config)) c.args.config.recovery_mode (g.F.FileSystem.disk c.args.files) _ none (record {
      rewrites = is.rewrites;
      appends = is.appends;
      rewrite = is.rewrite;
      append = is.append;
      is = answered d c.in-Ok.pipes c.in-Ok.traced.tables is.rewrites is.appends is.kept;
    })

pub returns-in-Ok-clause-opens : goal.returns-in-Ok-clause-opens
returns-in-Ok-clause-opens g c =
    let met = g.met.F.FileSystem g.world.𝓛 g.world.𝓜 g.world.𝓡 ((λ s x. x), (λ x. x), (λ x. x), λ x. x) in
    let is = c.in-Ok.ensures.ok in
    λ alone. kept_opens (g.F.FileSystem.disk c.found_soundly.new.files) c.in-Ok.pipes c.in-Ok.traced.tables is.rewrites is.appends (met.is_named c.found_soundly.new.files) alone is.kept

pub invariant_of-result : goal.invariant_of-result
invariant_of-result g c =
    let is = c.in-Ok.ensures.ok in
    λ goes_on. record {
      batches = record {
        rewrites = is.rewrites;
        synced = is.appends;
        unsynced = [];
        held = kept_held (g.F.FileSystem.disk c.found_soundly.new.files) c.in-Ok.pipes c.in-Ok.traced.tables is.rewrites is.appends is.kept;
        none = λ all. refl;
      };
      blocks = λ handle entries kept. absurd (c.new.ensures.none handle entries kept);
      traces = subst (λ l. IsTraced c.in-Ok.pipes c.in-Ok.traced is.rewrites l) (sym (append-nil is.appends)) is.traces;
    }

pub returns-in-Ok-clause-written : goal.returns-in-Ok-clause-written
returns-in-Ok-clause-written g c =
    let is = c.in-Ok.ensures.ok in
    let e = parts c.found_soundly.new.files c.in-Ok.pipes c.in-Ok.traced.tables false false c.new.result.reads c.in-Ok.traced c.new-manager.result.purge_threshold in
    nothing_since (g.F.FileSystem.disk) e is.rewrites is.appends is.kept.rewrite is.kept.append (answers_on (g.F.FileSystem.disk) e)
    (answered (g.F.FileSystem.disk c.found_soundly.new.files) c.in-Ok.pipes c.in-Ok.traced.tables is.rewrites is.appends is.kept)

pub returns-in-Ok-clause-refused : goal.returns-in-Ok-clause-refused
returns-in-Ok-clause-refused g c = λ f unsound. let refused = (c.in-Ok.ensures.refused f unsound).0 in absurd cc

pub returns-in-Ok-clause-opens_in_tail : goal.returns-in-Ok-clause-opens_in_tail
returns-in-Ok-clause-opens_in_tail g c =
    let met = g.met.F.FileSystem g.world.𝓛 g.world.𝓜 g.world.𝓡 ((λ s x. x), (λ x. x), (λ x. x), λ x. x) in
    let is = c.in-Ok.ensures.ok in
    λ alone. held_in_tail (g.F.FileSystem.disk c.found_soundly.new.files) c.in-Ok.pipes is.rewrites is.appends [] (met.is_named c.found_soundly.new.files) alone is.kept.rewrite is.kept.append
