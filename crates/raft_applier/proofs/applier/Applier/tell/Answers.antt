use Rattle.std.specs.Prelude.{length}
use Rattle.std.proofs.Common.{◌∙◌, ap, subst, sym}
use Rattle.raft_values.specs.LogId.{next_place, place_of}
use Rattle.raft_machines.specs.Telling.{AreToldAs, WaitFrom, untold_of}
use Rattle.raft_step_laws.specs.Tokens.{RiseFrom}
use Rattle.raft_applier.specs.Applied.{answers_of}
use Rattle.raft_applier.specs.Running.{due_at}
use Rattle.raft_applier.proofs.AppliedLists.{above_next}
use Rattle.raft_applier.proofs.Tokens.{due_wait, first_due, rest_due}
use Rattle.raft_applier.proofs.applier.Applier.tell.Goals as goal

pub returns-clause-told : goal.returns-clause-told
returns-clause-told g c = λ list are run size rises.
    let ws = c.args.self.now.applied.waiting in
    let from = next_place c.args.last in
    let end = place_of c.args.upto in
    let first = first_due c.args.upto from ws c.as_slice-waiting.result.now c.due_count-due.result rises c.as_slice-waiting.ensures (c.due_count-due.ensures.due from (subst (λ vs. RiseFrom from (untold_of vs)) (sym c.as_slice-waiting.ensures) rises)) in
    let wait : WaitFrom from (length list) (due_at end (untold_of ws)) =
    subst (λ n. WaitFrom from n (due_at end (untold_of ws))) (above_next c.args.upto ∙ sym size) (due_wait end from (untold_of ws) rises) in
    subst (λ xs. AreToldAs (answers_of g.M.StateMachine.rules list) c.in_ok-told.told.items xs) first
    (c.in_ok-told.ensures.told list are run (subst (λ xs. WaitFrom from (length list) xs) (sym first) wait))

pub returns-clause-waiting : goal.returns-clause-waiting
returns-clause-waiting g c = λ place rises.
    let ws = c.args.self.now.applied.waiting in
    let due = c.due_count-due.result in
    ap untold_of c.drop_front.ensures
    ∙ rest_due c.args.upto place ws c.as_slice-waiting.result.now due rises c.as_slice-waiting.ensures
    (c.due_count-due.ensures.due place (subst (λ vs. RiseFrom place (untold_of vs)) (sym c.as_slice-waiting.ensures) rises))
