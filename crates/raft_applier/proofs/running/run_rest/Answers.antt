use Rattle.std.specs.Prelude.{ℕ, List, OnOk, drop, length}
use Rattle.std.proofs.Common.{◌≡◌, ◌∙◌, ap, ap₂, subst, sym}
use Rattle.std.proofs.lemmas.Result.{IfOk-weaker}
use Rattle.raft_values.specs.LogId.{next_place}
use Rattle.raft_machines.specs.Fold.{fold_of, state_from}
use Rattle.raft_machines.specs.Telling.{WaitFrom, answer_on, untold_of}
use Rattle.raft_applier.specs.Applied.{answers_of}
use Rattle.raft_applier.proofs.Folds.{answers_fold, rest_folds, told_same}
use Rattle.raft_applier.proofs.running.run_rest.Goals as goal

pub returns-clause-state : goal.returns-clause-state
returns-clause-state g c = λ list are run.
    let rules = g.M.StateMachine.rules in
    let machine = g.M.StateMachine.state c.args.machine.now in
    let same : state_from rules machine c.in-Some.place c.args.entries.now ≡ fold_of rules list =
    ap₂ (λ k es. state_from rules machine k es) c.in-Some.ensures.0 are ∙ rest_folds rules machine c.args.last list run in
    let P : List ℕ → Type 0 = λ st. OnOk c.run_entries.result (g.M.StateMachine.state c.run_entries.new.machine ≡ st) in
    subst P same c.run_entries.ensures.state

pub returns-clause-told : goal.returns-clause-told
returns-clause-told g c = λ list are run wait.
    let rules = g.M.StateMachine.rules in
    let machine = g.M.StateMachine.state c.args.machine.now in
    let at = c.in-Some.ensures.0 in
    let waiting = untold_of c.args.waiting.now in
    IfOk-weaker c.run_entries.result _ _
    (λ told h.
    told_same (answer_on rules (record { state = machine; count = c.in-Some.place }) list) (answers_of rules list) (next_place c.args.last) (length list) told.items waiting
    (λ place le. ap (λ k. answer_on rules (record { state = machine; count = k }) list place) at ∙ answers_fold rules machine c.args.last list run place le) wait h)
    (c.run_entries.ensures.told list (are ∙ ap (λ k. drop k list) (sym at)) (subst (λ k. WaitFrom k (length list) waiting) (sym at) wait))
