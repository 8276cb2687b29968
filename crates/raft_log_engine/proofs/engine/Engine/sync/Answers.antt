-- After a sync all batches are on the disk; a refused one leaves them.
use Rattle.std.proofs.Common.{true, [], ◌++◌, refl, sym, ◌∙◌}
use Rattle.std.proofs.lemmas.Bool.{false≢true}
use Rattle.raft_log_engine.proofs.Traced.{still_traced}
use Rattle.raft_log_engine.specs.Still.{IsStill}
use Rattle.raft_log_engine.proofs.Synced.{all_synced, still_left, still_opened}
use Rattle.std.proofs.lemmas.List.{append-nil}
use Rattle.raft_log_pipe.proofs.BlockLemmas.{same_files}
use Rattle.raft_log_engine.specs.Left.{answers_on}
use Rattle.raft_log_engine.proofs.Clauses.{parts}
use Rattle.raft_log_engine.proofs.Reopened.{kept_opens, synced_stands}
use Rattle.raft_log_engine.proofs.Settled.{settled_still}
use Rattle.raft_log_engine.proofs.Since.{nothing_since, synced_written, unsynced_written, written_opens}
use Rattle.raft_log_blocks.proofs.HeldLemmas.{answered, held_answered, kept_held, synced_kept}
use Rattle.raft_log_engine.proofs.Tails.{held_in_tail, written_in_tail}
use Rattle.raft_log_engine.proofs.Taken.{failed_sync}
use Rattle.raft_log_engine.proofs.engine.Engine.sync.Goals as goal

pub returns-then-self-clause-opens_front : goal.returns-then-self-clause-opens_front
returns-then-self-clause-opens_front g c =
    let met = g.met.F.FileSystem g.world.𝓛 g.world.𝓜 g.world.𝓡 ((λ s x. x), (λ x. x), (λ x. x), λ x. x) in
    rw (← c.self.view_is) (λ before batches alone w. written_opens (g.F.FileSystem.disk) (parts c.self.inside.files c.self.inside.pipes c.self.inside.traced.tables c.self.inside.is_stopped c.self.inside.wrote_unsynced c.self.inside.blocks.reads c.self.inside.traced c.self.inside.manager.purge_threshold) before batches (met.is_named c.self.inside.files) alone w)

pub returns-in-Err-clause-written : goal.returns-in-Err-clause-written
returns-in-Err-clause-written g c =
    let old = (parts c.self.inside.files c.self.inside.pipes c.self.inside.traced.tables c.self.inside.is_stopped c.self.inside.wrote_unsynced c.self.inside.blocks.reads c.self.inside.traced c.self.inside.manager.purge_threshold) in
    let new = parts c.sync.new.files c.sync.new.self c.self.inside.traced.tables true c.self.inside.wrote_unsynced c.self.inside.blocks.reads c.self.inside.traced c.self.inside.manager.purge_threshold in
    rw (← c.self.view_is) (λ before batches w. unsynced_written (g.F.FileSystem.disk) old new before batches c.in-Err.ensures.other c.in-Err.ensures.call.err w)

pub returns-in-Err-clause-opens_front : goal.returns-in-Err-clause-opens_front
returns-in-Err-clause-opens_front g c =
    let met = g.met.F.FileSystem g.world.𝓛 g.world.𝓜 g.world.𝓡 ((λ s x. x), (λ x. x), (λ x. x), λ x. x) in
    let old = (parts c.self.inside.files c.self.inside.pipes c.self.inside.traced.tables c.self.inside.is_stopped c.self.inside.wrote_unsynced c.self.inside.blocks.reads c.self.inside.traced c.self.inside.manager.purge_threshold) in
    let new = parts c.sync.new.files c.sync.new.self c.self.inside.traced.tables true c.self.inside.wrote_unsynced c.self.inside.blocks.reads c.self.inside.traced c.self.inside.manager.purge_threshold in
    rw (← c.self.view_is) (λ before batches alone w. written_opens (g.F.FileSystem.disk) new before batches (met.is_named c.sync.new.files)
    (synced_stands c.self.inside.pipes c.sync.new.self (g.F.FileSystem.disk c.self.inside.files) (g.F.FileSystem.disk c.sync.new.files) c.in-Err.ensures.call.same c.in-Err.ensures.call.paths c.in-Err.ensures.call.names c.in-Err.ensures.other alone)
    (unsynced_written (g.F.FileSystem.disk) old new before batches c.in-Err.ensures.other c.in-Err.ensures.call.err w))

pub invariant_of-self-in_default : goal.invariant_of-self-in_default
invariant_of-self-in_default g c =
    let held = (c.self.invariant c.if-self.false).batches in
    let d = g.F.FileSystem.disk c.self.inside.files in
    let e = g.F.FileSystem.disk c.sync.new.files in
    let kept = synced_kept d e c.self.inside.pipes c.sync.new.self c.self.inside.traced.tables held.rewrites held.synced held.unsynced held.held (c.in_default.ensures.both held.held.pipes) c.in_default.ensures.call.same c.in_default.ensures.other c.in_default.ensures.call.ok in
    λ goes_on. record {
      batches = record {
        rewrites = held.rewrites;
        synced = held.synced ++ held.unsynced;
        unsynced = [];
        held = kept_held e c.sync.new.self c.self.inside.traced.tables held.rewrites (held.synced ++ held.unsynced) kept;
        none = λ all. refl;
      };
      blocks = λ at bytes is_kept. settled_still c.self.inside.pipes c.sync.new.self held.rewrites (held.synced ++ held.unsynced) ((held.synced ++ held.unsynced) ++ []) c.in_default.ensures.other.same
          (same_files c.self.inside.pipes.append c.sync.new.self.append c.in_default.ensures.call.same.0 c.in_default.ensures.call.same.1) (sym (append-nil (held.synced ++ held.unsynced))) at bytes ((c.self.invariant c.if-self.false).blocks at bytes is_kept);
      traces = still_traced c.self.inside.pipes c.sync.new.self c.self.inside.traced held.rewrites (held.synced ++ held.unsynced) ((held.synced ++ held.unsynced) ++ []) c.in_default.ensures.call.same
          (sym (append-nil (held.synced ++ held.unsynced))) (c.self.invariant c.if-self.false).traces;
    }

pub returns-clause-answers : goal.returns-clause-answers
returns-clause-answers g c =
    let held = (c.self.invariant c.if-self.false).batches in
    let d = g.F.FileSystem.disk c.self.inside.files in
    let e = g.F.FileSystem.disk c.sync.new.files in
    let kept = synced_kept d e c.self.inside.pipes c.sync.new.self c.self.inside.traced.tables held.rewrites held.synced held.unsynced held.held (c.in_default.ensures.both held.held.pipes) c.in_default.ensures.call.same c.in_default.ensures.other c.in_default.ensures.call.ok in
    rw (← c.self.view_is) (answered e c.sync.new.self c.self.inside.traced.tables held.rewrites (held.synced ++ held.unsynced) kept ∙ sym (held_answered d c.self.inside.pipes c.self.inside.traced.tables held.rewrites held.synced held.unsynced held.held))

pub returns-clause-kept : goal.returns-clause-kept
returns-clause-kept g c =
    let held = (c.self.invariant c.if-self.false).batches in
    let d = g.F.FileSystem.disk c.self.inside.files in
    let e = g.F.FileSystem.disk c.sync.new.files in
    let kept = synced_kept d e c.self.inside.pipes c.sync.new.self c.self.inside.traced.tables held.rewrites held.synced held.unsynced held.held (c.in_default.ensures.both held.held.pipes) c.in_default.ensures.call.same c.in_default.ensures.other c.in_default.ensures.call.ok in
    rw (← c.self.view_is) (λ sound. (
      record { goes_on = c.if-self.false; synced = sound.synced },
      answered e c.sync.new.self c.self.inside.traced.tables held.rewrites (held.synced ++ held.unsynced) kept ∙ sym (held_answered d c.self.inside.pipes c.self.inside.traced.tables held.rewrites held.synced held.unsynced held.held),
    ))

pub returns-clause-opens : goal.returns-clause-opens
returns-clause-opens g c =
    let met = g.met.F.FileSystem g.world.𝓛 g.world.𝓜 g.world.𝓡 ((λ s x. x), (λ x. x), (λ x. x), λ x. x) in
    let held = (c.self.invariant c.if-self.false).batches in
    let d = g.F.FileSystem.disk c.self.inside.files in
    let e = g.F.FileSystem.disk c.sync.new.files in
    let kept = synced_kept d e c.self.inside.pipes c.sync.new.self c.self.inside.traced.tables held.rewrites held.synced held.unsynced held.held (c.in_default.ensures.both held.held.pipes) c.in_default.ensures.call.same c.in_default.ensures.other c.in_default.ensures.call.ok in
    rw (← c.self.view_is) (λ alone. kept_opens e c.sync.new.self c.self.inside.traced.tables held.rewrites (held.synced ++ held.unsynced) (met.is_named c.sync.new.files)
    (synced_stands c.self.inside.pipes c.sync.new.self d e c.in_default.ensures.call.same c.in_default.ensures.call.paths c.in_default.ensures.call.names c.in_default.ensures.other alone) kept)

pub returns-clause-written : goal.returns-clause-written
returns-clause-written g c =
    let old = (parts c.self.inside.files c.self.inside.pipes c.self.inside.traced.tables c.self.inside.is_stopped c.self.inside.wrote_unsynced c.self.inside.blocks.reads c.self.inside.traced c.self.inside.manager.purge_threshold) in
    let new = parts c.sync.new.files c.sync.new.self c.self.inside.traced.tables c.self.inside.is_stopped c.self.inside.wrote_unsynced c.self.inside.blocks.reads c.self.inside.traced c.self.inside.manager.purge_threshold in
    rw (← c.self.view_is) (λ before batches w. synced_written (g.F.FileSystem.disk) old new before batches c.in_default.ensures.other c.in_default.ensures.call.ok w)

pub returns-clause-opens_front : goal.returns-clause-opens_front
returns-clause-opens_front g c =
    let met = g.met.F.FileSystem g.world.𝓛 g.world.𝓜 g.world.𝓡 ((λ s x. x), (λ x. x), (λ x. x), λ x. x) in
    let old = (parts c.self.inside.files c.self.inside.pipes c.self.inside.traced.tables c.self.inside.is_stopped c.self.inside.wrote_unsynced c.self.inside.blocks.reads c.self.inside.traced c.self.inside.manager.purge_threshold) in
    let new = parts c.sync.new.files c.sync.new.self c.self.inside.traced.tables c.self.inside.is_stopped c.self.inside.wrote_unsynced c.self.inside.blocks.reads c.self.inside.traced c.self.inside.manager.purge_threshold in
    rw (← c.self.view_is) (λ before batches alone w. written_opens (g.F.FileSystem.disk) new before batches (met.is_named c.sync.new.files)
    (synced_stands c.self.inside.pipes c.sync.new.self (g.F.FileSystem.disk c.self.inside.files) (g.F.FileSystem.disk c.sync.new.files) c.in_default.ensures.call.same c.in_default.ensures.call.paths c.in_default.ensures.call.names c.in_default.ensures.other alone)
    (synced_written (g.F.FileSystem.disk) old new before batches c.in_default.ensures.other c.in_default.ensures.call.ok w))

pub returns-clause-all_written : goal.returns-clause-all_written
returns-clause-all_written g c =
    let held = (c.self.invariant c.if-self.false).batches in
    let d = g.F.FileSystem.disk c.self.inside.files in
    let e = g.F.FileSystem.disk c.sync.new.files in
    let new = parts c.sync.new.files c.sync.new.self c.self.inside.traced.tables c.self.inside.is_stopped c.self.inside.wrote_unsynced c.self.inside.blocks.reads c.self.inside.traced c.self.inside.manager.purge_threshold in
    let kept = synced_kept d e c.self.inside.pipes c.sync.new.self c.self.inside.traced.tables held.rewrites held.synced held.unsynced held.held (c.in_default.ensures.both held.held.pipes) c.in_default.ensures.call.same c.in_default.ensures.other c.in_default.ensures.call.ok in
    nothing_since (g.F.FileSystem.disk) new held.rewrites (held.synced ++ held.unsynced) kept.rewrite kept.append (answers_on (g.F.FileSystem.disk) new) (answered e c.sync.new.self c.self.inside.traced.tables held.rewrites (held.synced ++ held.unsynced) kept)

pub returns-in-Err-clause-taken : goal.returns-in-Err-clause-taken
returns-in-Err-clause-taken g c =
    rw (← c.self.view_is) (λ free. failed_sync (parts c.self.inside.files c.self.inside.pipes c.self.inside.traced.tables c.self.inside.is_stopped c.self.inside.wrote_unsynced c.self.inside.blocks.reads c.self.inside.traced c.self.inside.manager.purge_threshold) c.in-Err.error (c.in-Err.ensures.taken free))

-- ---- where the files lie

pub returns-in-Err-clause-paths : goal.returns-in-Err-clause-paths
returns-in-Err-clause-paths g c = rw (← c.self.view_is) c.in-Err.ensures.call.paths

pub returns-in-Err-clause-alone : goal.returns-in-Err-clause-alone
returns-in-Err-clause-alone g c =
    rw (← c.self.view_is) (λ alone. synced_stands c.self.inside.pipes c.sync.new.self (g.F.FileSystem.disk c.self.inside.files) (g.F.FileSystem.disk c.sync.new.files) c.in-Err.ensures.call.same c.in-Err.ensures.call.paths c.in-Err.ensures.call.names c.in-Err.ensures.other alone)

pub returns-in-Err-clause-set : goal.returns-in-Err-clause-set
returns-in-Err-clause-set g c = rw (← c.self.view_is) c.in-Err.ensures.set

pub returns-clause-set : goal.returns-clause-set
returns-clause-set g c = rw (← c.self.view_is) c.in_default.ensures.set

pub returns-clause-paths : goal.returns-clause-paths
returns-clause-paths g c = rw (← c.self.view_is) c.in_default.ensures.call.paths

pub returns-clause-alone : goal.returns-clause-alone
returns-clause-alone g c =
    rw (← c.self.view_is) (λ alone. synced_stands c.self.inside.pipes c.sync.new.self (g.F.FileSystem.disk c.self.inside.files) (g.F.FileSystem.disk c.sync.new.files) c.in_default.ensures.call.same c.in_default.ensures.call.paths c.in_default.ensures.call.names c.in_default.ensures.other alone)

-- ---- what an opening that tolerates a torn tail refuses

pub returns-then-self-clause-opens_in_tail : goal.returns-then-self-clause-opens_in_tail
returns-then-self-clause-opens_in_tail g c =
    rw (← c.self.view_is) (λ going alone. absurd (false≢true (sym going ∙ c.if-self.true)))

pub returns-in-Err-clause-opens_in_tail : goal.returns-in-Err-clause-opens_in_tail
returns-in-Err-clause-opens_in_tail g c =
    let met = g.met.F.FileSystem g.world.𝓛 g.world.𝓜 g.world.𝓡 ((λ s x. x), (λ x. x), (λ x. x), λ x. x) in
    let held = (c.self.invariant c.if-self.false).batches in
    rw (← c.self.view_is) (λ going alone.
    held_in_tail (g.F.FileSystem.disk c.sync.new.files) c.sync.new.self held.rewrites held.synced held.unsynced (met.is_named c.sync.new.files)
    (synced_stands c.self.inside.pipes c.sync.new.self (g.F.FileSystem.disk c.self.inside.files) (g.F.FileSystem.disk c.sync.new.files) c.in-Err.ensures.call.same c.in-Err.ensures.call.paths c.in-Err.ensures.call.names c.in-Err.ensures.other alone)
    (c.in-Err.ensures.other.holds held.rewrites [] held.held.rewrite) (c.in-Err.ensures.call.err held.synced held.unsynced held.held.append))

pub returns-clause-opens_in_tail : goal.returns-clause-opens_in_tail
returns-clause-opens_in_tail g c =
    let met = g.met.F.FileSystem g.world.𝓛 g.world.𝓜 g.world.𝓡 ((λ s x. x), (λ x. x), (λ x. x), λ x. x) in
    let held = (c.self.invariant c.if-self.false).batches in
    let d = g.F.FileSystem.disk c.self.inside.files in
    let e = g.F.FileSystem.disk c.sync.new.files in
    let kept = synced_kept d e c.self.inside.pipes c.sync.new.self c.self.inside.traced.tables held.rewrites held.synced held.unsynced held.held (c.in_default.ensures.both held.held.pipes) c.in_default.ensures.call.same c.in_default.ensures.other c.in_default.ensures.call.ok in
    rw (← c.self.view_is) (λ going alone. held_in_tail e c.sync.new.self held.rewrites (held.synced ++ held.unsynced) [] (met.is_named c.sync.new.files)
    (synced_stands c.self.inside.pipes c.sync.new.self d e c.in_default.ensures.call.same c.in_default.ensures.call.paths c.in_default.ensures.call.names c.in_default.ensures.other alone) kept.rewrite kept.append)

-- ---- why it is refused

pub returns-in-Err-clause-cause : goal.returns-in-Err-clause-cause
returns-in-Err-clause-cause g c = rw (← c.self.view_is) c.in-Err.ensures.cause

-- ---- what is on the disk stays there

pub returns-in-Err-clause-left : goal.returns-in-Err-clause-left
returns-in-Err-clause-left g c =
    let old = (parts c.self.inside.files c.self.inside.pipes c.self.inside.traced.tables c.self.inside.is_stopped c.self.inside.wrote_unsynced c.self.inside.blocks.reads c.self.inside.traced c.self.inside.manager.purge_threshold) in
    let still : IsStill (g.F.FileSystem.disk c.self.inside.files) c.self.inside.pipes (g.F.FileSystem.disk c.sync.new.files) c.sync.new.self = record {
      pipes = c.in-Err.ensures.both;
      same = c.in-Err.ensures.call.same;
      paths = c.in-Err.ensures.call.paths;
      names = c.in-Err.ensures.call.names;
      other = c.in-Err.ensures.other;
      holds = λ bs holds. c.in-Err.ensures.call.err bs [] holds;
    } in
    rw (← c.self.view_is) (still_left (g.F.FileSystem.disk) old (c.self.invariant c.if-self.false).batches c.sync.new.files c.sync.new.self still c.if-self.false true)

pub returns-in-Err-clause-opens_still : goal.returns-in-Err-clause-opens_still
returns-in-Err-clause-opens_still g c =
    let met = g.met.F.FileSystem g.world.𝓛 g.world.𝓜 g.world.𝓡 ((λ s x. x), (λ x. x), (λ x. x), λ x. x) in
    let old = (parts c.self.inside.files c.self.inside.pipes c.self.inside.traced.tables c.self.inside.is_stopped c.self.inside.wrote_unsynced c.self.inside.blocks.reads c.self.inside.traced c.self.inside.manager.purge_threshold) in
    let still : IsStill (g.F.FileSystem.disk c.self.inside.files) c.self.inside.pipes (g.F.FileSystem.disk c.sync.new.files) c.sync.new.self = record {
      pipes = c.in-Err.ensures.both;
      same = c.in-Err.ensures.call.same;
      paths = c.in-Err.ensures.call.paths;
      names = c.in-Err.ensures.call.names;
      other = c.in-Err.ensures.other;
      holds = λ bs holds. c.in-Err.ensures.call.err bs [] holds;
    } in
    rw (← c.self.view_is) (λ sound alone. still_opened (g.F.FileSystem.disk) old (c.self.invariant c.if-self.false).batches c.sync.new.files c.sync.new.self still sound alone (met.is_named c.sync.new.files))

pub returns-clause-left : goal.returns-clause-left
returns-clause-left g c =
    let old = (parts c.self.inside.files c.self.inside.pipes c.self.inside.traced.tables c.self.inside.is_stopped c.self.inside.wrote_unsynced c.self.inside.blocks.reads c.self.inside.traced c.self.inside.manager.purge_threshold) in
    let still : IsStill (g.F.FileSystem.disk c.self.inside.files) c.self.inside.pipes (g.F.FileSystem.disk c.sync.new.files) c.sync.new.self = record {
      pipes = c.in_default.ensures.both;
      same = c.in_default.ensures.call.same;
      paths = c.in_default.ensures.call.paths;
      names = c.in_default.ensures.call.names;
      other = c.in_default.ensures.other;
      holds = all_synced c.self.inside.pipes.append c.sync.new.self.append (g.F.FileSystem.disk c.self.inside.files) (g.F.FileSystem.disk c.sync.new.files) c.in_default.ensures.call.ok;
    } in
    rw (← c.self.view_is) (still_left (g.F.FileSystem.disk) old (c.self.invariant c.if-self.false).batches c.sync.new.files c.sync.new.self still c.if-self.false c.self.inside.is_stopped)

pub returns-clause-opens_still : goal.returns-clause-opens_still
returns-clause-opens_still g c =
    let met = g.met.F.FileSystem g.world.𝓛 g.world.𝓜 g.world.𝓡 ((λ s x. x), (λ x. x), (λ x. x), λ x. x) in
    let old = (parts c.self.inside.files c.self.inside.pipes c.self.inside.traced.tables c.self.inside.is_stopped c.self.inside.wrote_unsynced c.self.inside.blocks.reads c.self.inside.traced c.self.inside.manager.purge_threshold) in
    let still : IsStill (g.F.FileSystem.disk c.self.inside.files) c.self.inside.pipes (g.F.FileSystem.disk c.sync.new.files) c.sync.new.self = record {
      pipes = c.in_default.ensures.both;
      same = c.in_default.ensures.call.same;
      paths = c.in_default.ensures.call.paths;
      names = c.in_default.ensures.call.names;
      other = c.in_default.ensures.other;
      holds = all_synced c.self.inside.pipes.append c.sync.new.self.append (g.F.FileSystem.disk c.self.inside.files) (g.F.FileSystem.disk c.sync.new.files) c.in_default.ensures.call.ok;
    } in
    rw (← c.self.view_is) (λ sound alone. still_opened (g.F.FileSystem.disk) old (c.self.invariant c.if-self.false).batches c.sync.new.files c.sync.new.self still sound alone (met.is_named c.sync.new.files))

-- ---- where it goes on, or its batches stand there

pub returns-then-self-clause-goes_on_in_tail : goal.returns-then-self-clause-goes_on_in_tail
returns-then-self-clause-goes_on_in_tail g c = rw (← c.self.view_is) (λ alone going. absurd (false≢true (sym going ∙ c.if-self.true)))

pub returns-in-Err-clause-goes_on_in_tail : goal.returns-in-Err-clause-goes_on_in_tail
returns-in-Err-clause-goes_on_in_tail g c = λ alone going. absurd (false≢true (sym going))

pub returns-clause-goes_on_in_tail : goal.returns-clause-goes_on_in_tail
returns-clause-goes_on_in_tail g c =
    let met = g.met.F.FileSystem g.world.𝓛 g.world.𝓜 g.world.𝓡 ((λ s x. x), (λ x. x), (λ x. x), λ x. x) in
    let held = (c.self.invariant c.if-self.false).batches in
    rw (← c.self.view_is) (λ alone going.
    let stand = synced_stands c.self.inside.pipes c.sync.new.self (g.F.FileSystem.disk c.self.inside.files) (g.F.FileSystem.disk c.sync.new.files) c.in_default.ensures.call.same c.in_default.ensures.call.paths c.in_default.ensures.call.names c.in_default.ensures.other alone in
    record {
      alone = stand;
      opens = held_in_tail (g.F.FileSystem.disk c.sync.new.files) c.sync.new.self held.rewrites (held.synced ++ held.unsynced) [] (met.is_named c.sync.new.files) stand (c.in_default.ensures.other.holds held.rewrites [] held.held.rewrite)
          (c.in_default.ensures.call.ok held.synced held.unsynced held.held.append);
    })

pub returns-then-self-clause-tail_still : goal.returns-then-self-clause-tail_still
returns-then-self-clause-tail_still g c =
    let met = g.met.F.FileSystem g.world.𝓛 g.world.𝓜 g.world.𝓡 ((λ s x. x), (λ x. x), (λ x. x), λ x. x) in
    rw (← c.self.view_is) (λ before batches alone w. written_in_tail (g.F.FileSystem.disk) (parts c.self.inside.files c.self.inside.pipes c.self.inside.traced.tables c.self.inside.is_stopped c.self.inside.wrote_unsynced c.self.inside.blocks.reads c.self.inside.traced c.self.inside.manager.purge_threshold) (met.is_named c.self.inside.files) alone before batches w)

pub returns-in-Err-clause-tail_still : goal.returns-in-Err-clause-tail_still
returns-in-Err-clause-tail_still g c =
    let met = g.met.F.FileSystem g.world.𝓛 g.world.𝓜 g.world.𝓡 ((λ s x. x), (λ x. x), (λ x. x), λ x. x) in
    rw (← c.self.view_is) (λ before batches alone w.
    held_in_tail (g.F.FileSystem.disk c.sync.new.files) c.sync.new.self w.rewrites w.synced w.unsynced (met.is_named c.sync.new.files)
    (synced_stands c.self.inside.pipes c.sync.new.self (g.F.FileSystem.disk c.self.inside.files) (g.F.FileSystem.disk c.sync.new.files) c.in-Err.ensures.call.same c.in-Err.ensures.call.paths c.in-Err.ensures.call.names c.in-Err.ensures.other alone)
    (c.in-Err.ensures.other.holds w.rewrites [] w.rewrite) (c.in-Err.ensures.call.err w.synced w.unsynced w.append))

pub returns-clause-tail_still : goal.returns-clause-tail_still
returns-clause-tail_still g c =
    let met = g.met.F.FileSystem g.world.𝓛 g.world.𝓜 g.world.𝓡 ((λ s x. x), (λ x. x), (λ x. x), λ x. x) in
    rw (← c.self.view_is) (λ before batches alone w.
    held_in_tail (g.F.FileSystem.disk c.sync.new.files) c.sync.new.self w.rewrites (w.synced ++ w.unsynced) [] (met.is_named c.sync.new.files)
    (synced_stands c.self.inside.pipes c.sync.new.self (g.F.FileSystem.disk c.self.inside.files) (g.F.FileSystem.disk c.sync.new.files) c.in_default.ensures.call.same c.in_default.ensures.call.paths c.in_default.ensures.call.names c.in_default.ensures.other alone)
    (c.in_default.ensures.other.holds w.rewrites [] w.rewrite) (c.in_default.ensures.call.ok w.synced w.unsynced w.append))

pub returns-clause-spends : goal.returns-clause-spends
returns-clause-spends g c = rw (← c.self.view_is) c.in_default.ensures.spends
