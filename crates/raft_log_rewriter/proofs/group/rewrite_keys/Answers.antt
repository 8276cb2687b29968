-- It goes on with each key.
use Rattle.std.proofs.Common.{◌≡◌, ℕ, ◌+◌, ◌++◌, ◌∷◌, [], List, take, refl, sym, ap, subst, ◌∙◌, arith}
use Rattle.std.specs.Prelude.{Vec}
use Rattle.std.specs.declared.alloc.Global.{Global}
use Rattle.std.proofs.lemmas.List.{map_more, take_all}
use Rattle.raft_log_disk.proofs.RefusalLemmas.{no_more_same, no_more_then}
use Rattle.raft_log_records.specs.Batch.{payloads}
use Rattle.raft_log_cleaner.proofs.Caused.{refused_then}
use Rattle.raft_log_rewriter.specs.Parts.Stage.{keys_to}
use Rattle.raft_log_rewriter.specs.Rewriting.{IsRewriting, at}
use Rattle.raft_log_rewriter.proofs.Steps.{come_done, come_more, come_refused, come_seen, not_yet}
use Rattle.raft_log_rewriter.proofs.group.rewrite_keys.Goals as goal

pub loop-name-init : goal.loop-name-init
loop-name-init g c = record {
  come = λ first stop. not_yet (g.F.FileSystem.disk c.args.files.now) c.args.pipes.now c.args.log.now c.args.writer.now (at (keys_to c.args.group first stop []));
  traces = refl;
  later = no_more_same _ _;
}

pub returns-in_err-add_key : goal.returns-in_err-add_key
returns-in_err-add_key g c = record {
  goes_on = λ first stop. come_refused c.from_residual.result c.in_err-add_key.field-0.0 c.from_residual.ensures.1 (c.loop-name.invariant.come first stop) (c.in_err-add_key.ensures.goes_on (g.F.FileSystem.disk c.loop-name.files) c.loop-name.pipes first stop _);
  traces = c.loop-name.invariant.traces;
  later = c.loop-name.invariant.later;
  cause = refused_then c.loop-name.invariant.later (g.F.FileSystem.meter c.loop-name.files) c.from_residual.result c.in_err-add_key.field-0.0 c.from_residual.ensures.1 (c.in_err-add_key.ensures.cause (g.F.FileSystem.meter c.loop-name.files));
}

pub write_part-requires-after_bounds : goal.write_part-requires-after_bounds
write_part-requires-after_bounds g c κs within =
    let r = c.requires.2 in
    ((c.loop-name.invariant.come c.requires.0 c.requires.1).on r.next r.done r.content r.state).stands.pipes

pub returns-in_err-write_part : goal.returns-in_err-write_part
returns-in_err-write_part g c = record {
  goes_on = λ first stop. come_refused c.from_residual-in_err-write_part.result c.in_err-write_part.field-0.0 c.from_residual-in_err-write_part.ensures.1
      (come_more tt (c.loop-name.invariant.come first stop) (c.in_ok-add_key.ensures.goes_on (g.F.FileSystem.disk c.loop-name.files) c.loop-name.pipes first stop _)) (c.in_err-write_part.ensures.goes_on _);
  traces = c.in_err-write_part.ensures.traces ∙ c.loop-name.invariant.traces;
  later = no_more_then c.loop-name.invariant.later c.in_err-write_part.ensures.later;
  cause = refused_then c.loop-name.invariant.later (g.F.FileSystem.meter c.write_part.new.files) c.from_residual-in_err-write_part.result c.in_err-write_part.field-0.0 c.from_residual-in_err-write_part.ensures.1 c.in_err-write_part.ensures.cause;
}

pub returns : goal.returns
returns g c =
    let f = g.F.FileSystem.disk c.loop-name.files in
    let all : payloads (take c.loop-name.name-index c.args.names.now) ≡ payloads c.args.names.now = ap payloads (take_all c.loop-name.name-index c.args.names.now (omega arith)) in
    record {
      goes_on = λ first stop. come_done tt (come_seen (c.loop-name.invariant.come first stop)
          (λ next groups content s t. subst (λ (l : List (List ℕ)). IsRewriting f c.loop-name.pipes c.loop-name.log c.loop-name.writer next (at (keys_to c.args.group first stop l) groups) content) all t));
      traces = c.loop-name.invariant.traces;
      later = c.loop-name.invariant.later;
      cause = tt;
    }

pub loop-name-preserved : goal.loop-name-preserved
loop-name-preserved g c =
    let d = g.F.FileSystem.disk c.loop-name.files in
    let f = g.F.FileSystem.disk c.write_part.new.files in
    let i = c.loop-name.name-index in
    let names = c.args.names.now in
    let before = payloads (take i names) in
    let name = c.name-item.result in
    let next : payloads (take (i + 1) names) ≡ before ++ c.deref.result.now ∷ [] =
    map_more (λ (v : Vec ℕ Global). v.items) names i name (omega arith)
    ∙ ap (λ (v : Vec ℕ Global). before ++ v.items ∷ []) (sym c.name-item.is)
    ∙ ap (λ (l : List ℕ). before ++ l ∷ []) (sym c.deref.ensures.value) in
    record {
      come = λ first stop.
          come_seen (come_more tt (come_more tt (c.loop-name.invariant.come first stop) (c.in_ok-add_key.ensures.goes_on d c.loop-name.pipes first stop before)) (c.in_ok-write_part.ensures.goes_on (keys_to c.args.group first stop (before ++ c.deref.result.now ∷ []))))
          (λ n groups content s t. subst (λ (l : List (List ℕ)). IsRewriting f c.write_part.new.pipes c.write_part.new.log c.write_part.new.self n (at (keys_to c.args.group first stop l) groups) content) (sym next) t);
      traces = c.in_ok-write_part.ensures.traces ∙ c.loop-name.invariant.traces;
      later = no_more_then c.loop-name.invariant.later c.in_ok-write_part.ensures.later;
    }
