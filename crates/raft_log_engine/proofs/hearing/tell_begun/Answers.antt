use Rattle.std.proofs.Common.{◌≡◌, ◌+◌, ◌-◌, arith, subst, ℕ, ⊎_elim}
use Rattle.std.proofs.lemmas.Bool.{cases_lt}
use Rattle.raft_log_purge.specs.Heard.{HearAll, files_from}
use Rattle.raft_log_purge.proofs.HeardLemmas.{begun_more}
use Rattle.raft_log_engine.proofs.hearing.tell_begun.Goals as goal

pub loop-seq-preserved : goal.loop-seq-preserved
loop-seq-preserved g c = (
  begun_more g.L.EventListener.hears c.args.queue c.args.before c.loop-seq.seq c.new.result c.args.listeners.now c.loop-seq.listeners c.tell_new_file.new.listeners
      (omega (arith, c.loop-seq.auto.seq)) c.new.ensures.queue c.new.ensures.seq c.loop-seq.invariant.0 c.tell_new_file.ensures.told,
  λ none. absurd (omega (arith, none, c.loop-seq.invariant.1 none, c.loop-seq-test.true)),
)

pub returns : goal.returns
returns g c =
    let all : c.loop-seq.seq - c.args.before ≡ c.args.last - c.args.before = ⊎_elim
    (λ none. omega (arith, none, c.loop-seq.invariant.1 (omega (arith, none))))
    (λ some. omega (arith, some, c.loop-seq-test.false, c.loop-seq.auto.seq-end some))
    (cases_lt c.args.last c.args.before) in
    record {
      told = subst (λ (n : ℕ). HearAll g.L.EventListener.hears (files_from c.args.queue (c.args.before + 1) n) c.args.listeners.now c.loop-seq.listeners) all c.loop-seq.invariant.0;
    }
