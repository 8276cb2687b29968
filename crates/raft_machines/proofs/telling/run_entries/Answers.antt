use Rattle.std.proofs.Common.{◌≡◌, ◌+◌, ◌-◌, ◌++◌, ◌∙◌, Some, length, slice_get, sym, ap, subst, arith}
use Rattle.std.proofs.lemmas.List.{length-drop}
use Rattle.std.proofs.lemmas.Option.{slice_get-get_or}
use Rattle.raft_machines.specs.Fold.{after_payload}
use Rattle.raft_machines.specs.Telling.{Standing, answer_on, told_at, untold_of}
use Rattle.raft_machines.proofs.TellingLemmas.{AreToldUpTo, all_told, answered_here, one_run, told_here}
use Rattle.raft_machines.proofs.telling.run_entries.Goals as goal

pub loop-index-preserved : goal.loop-index-preserved
loop-index-preserved g c =
    let rules = g.M.StateMachine.rules in
    let index = c.loop-index.index in
    let entries = c.args.entries.now in
    let e = c.index-entries-index.result in
    let first = g.M.StateMachine.state c.args.machine.now in
    let there : slice_get entries index ≡ Some e =
    slice_get-get_or entries index e c.loop-index-test.true ∙ ap Some (sym c.index-entries-index.is) in
    let at : Standing = record { state = first; count = c.args.place } in
    record {
      state =
          c.in_ok-answer.ensures.ok
          ∙ ap (λ st. after_payload rules st (c.args.place + index) e.payload) c.loop-index.invariant.state
          ∙ sym (one_run rules first c.args.place entries index e there);
      told = λ list are wait.
          let answers = answer_on rules at list in
          let here : answers (c.args.place + index) ≡ Some c.in_ok-answer.answer =
          answered_here rules at list entries index e (g.M.StateMachine.state c.loop-index.machine) are there c.loop-index.invariant.state
          ∙ ap Some (sym c.in_ok-answer.ensures.answer) in
          let count : c.len.result ≡ length c.loop-index.told.items = (let f = c.len.ensures in omega (arith, f)) in
          let so : AreToldUpTo answers (untold_of c.args.waiting.now) (c.args.place + index + 1) (length list) c.tell.new.told.items =
          subst (AreToldUpTo answers (untold_of c.args.waiting.now) (c.args.place + index + 1) (length list))
          (sym (c.in_ok-tell.ensures ∙ ap (λ next. c.loop-index.told.items ++ told_at next (c.args.place + index) c.in_ok-answer.answer) (c.next_waiting-next.ensures ∙ ap (slice_get c.args.waiting.now) count)))
          (told_here answers c.args.waiting.now (length list) (c.args.place + index) c.in_ok-answer.answer here c.loop-index.told.items (c.loop-index.invariant.told list are wait)) in
          let same : c.args.place + index + 1 ≡ c.args.place + (index + 1) = omega arith in
          subst (λ k. AreToldUpTo answers (untold_of c.args.waiting.now) k (length list) c.tell.new.told.items) same so;
    }

pub returns-clause-told : goal.returns-clause-told
returns-clause-told g c list are wait =
    all_told _ _ (c.args.place + c.loop-index.index) (length list) c.loop-index.told.items
    (let n : length c.args.entries.now ≡ length list - c.args.place = ap length are ∙ length-drop c.args.place list in let l = c.loop-index-test.false in omega (arith, n, l))
    (c.loop-index.invariant.told list are wait)
