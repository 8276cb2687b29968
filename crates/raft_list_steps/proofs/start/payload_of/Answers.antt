use Rattle.std.specs.Prelude.{◌≡◌, List, [], Some}
use Rattle.std.proofs.Common.{sym, ap, ◌∙◌}
use Rattle.raft_group_step.specs.Values.{Entry}
use Rattle.raft_group_lists.specs.Notes.{accounts_of, list_to}
use Rattle.raft_list_steps.specs.Reports.{new_payload}
use Rattle.raft_list_steps.proofs.ListFacts.{none_ends}
use Rattle.raft_list_steps.proofs.StartLemmas.{payload_more}
use Rattle.raft_list_steps.proofs.start.payload_of.Goals as goal

pub returns-in-Some : goal.returns-in-Some
returns-in-Some c =
    let latest = (accounts_of c.args.list.now.notes).latest c.args.vote.now in
    let some : latest ≡ [] → ⊥ = λ none. none_ends (list_to c.args.list.now.notes.noted (Some c.in-Some._at)) c.in-Some.ensures.ends.0 c.in-Some.ensures.ends.1 (c.in-Some.ensures.list ∙ none) in
    c.unwrap_or.ensures ∙ payload_more latest c.args.written some

pub returns-in-None : goal.returns-in-None
returns-in-None c = sym (ap (λ (list : List Entry). new_payload list c.args.written) c.in-None.ensures.ends)
