use Rattle.std.proofs.Common.{◌+◌, ℕ, Option, Some, ap, ◌∙◌}
use Rattle.raft_log_covers.specs.Trace.{least, greater}
use Rattle.raft_log_traces.specs.declared.group_trace.GroupTrace.{GroupTrace}
use Rattle.raft_log_traces.specs.Runs.{file_in}
use Rattle.raft_log_traces.proofs.EnterLemmas.{StaysBeside, entered_inside, entered_anew}
use Rattle.raft_log_traces.proofs.group_trace.GroupTrace.add_entries.Goals as goal
use Rattle.raft_log_traces.proofs.group_trace.GroupTrace.add_entries.Goals.{then-self, else-self}

pub returns-clause-ok : goal.returns-clause-ok
returns-clause-ok c =
    let t = c.args.self.now in
    let s = c.if-self.self in
    let next = c.args.first + c.args.count in
    elim c.if-self.branch [
      | then-self w ↦
          let beside : StaysBeside t s = record {
            keys = ap (λ (x : GroupTrace). x.keys) w.self-is;
            cleaned = ap (λ (x : GroupTrace). x.cleaned) w.self-is;
            deleted = ap (λ (x : GroupTrace). x.deleted) w.self-is;
          } in
          entered_inside c.args.file c.args.first next c.later-self.result c.lesser-self-2.result t s w.if-self.true beside (ap (λ (x : GroupTrace). x.low) w.self-is)
          (c.later-self.ensures ∙ ap (λ (x : GroupTrace). greater x.top next) w.self-is) (c.lesser-self-2.ensures ∙ ap (λ (x : GroupTrace). least x.since (Some c.args.file)) w.self-is)
          (ap (λ (x : GroupTrace). x.floor) w.self-is ∙ w.earlier-self.ensures) (λ i. ap (λ (x : GroupTrace). file_in x.runs.items i) w.self-is ∙ c.in_ok-put_from.ensures.ok i)
      | else-self w ↦
          let beside : StaysBeside t s = record {
            keys = ap (λ (x : GroupTrace). x.keys) w.self-is;
            cleaned = ap (λ (x : GroupTrace). x.cleaned) w.self-is;
            deleted = ap (λ (x : GroupTrace). x.deleted) w.self-is;
          } in
          entered_anew c.args.file c.args.first next c.later-self.result c.lesser-self-2.result t s w.if-self.false beside (ap (λ (x : GroupTrace). x.low) w.self-is)
          (c.later-self.ensures ∙ ap (λ (x : GroupTrace). greater x.top next) w.self-is)
          (c.lesser-self-2.ensures ∙ ap (λ (x : GroupTrace). least x.since (Some c.args.file)) w.self-is ∙ ap (λ (o : Option ℕ). least o (Some c.args.file)) w.lesser-self.ensures)
          (ap (λ (x : GroupTrace). x.floor) w.self-is) (λ i. ap (λ (x : GroupTrace). file_in x.runs.items i) w.self-is ∙ c.in_ok-put_from.ensures.ok i)
    ]
