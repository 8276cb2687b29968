-- What is stored stands at its places, so its log ids rise.
use Rattle.std.proofs.Common.{◌≡◌, ◌∙◌, ◌<◌, ◌^◌, true, nat_lt, sym, ap, ap₂, arith}
use Rattle.std.proofs.lemmas.Bool.Decides.{nat_tests}
use Rattle.std.proofs.Math.Bool.{true≢false}
use Rattle.raft_values.specs.LogId.{next_place}
use Rattle.raft_group_step.specs.StoredGroup.{first_place}
use Rattle.raft_messages.specs.Entries.{all_go_on}
use Rattle.raft_engine.proofs.PlacedEntries.{go_on, placed_go_on}
use Rattle.raft_member.proofs.opening.known_state.Goals as goal
use Rattle.raft_member.proofs.opening.known_state.Goals.{then-not-has_next-via-then-not-has_next, then-not-has_next-via-else-not-has_next+then-not-all_go_on}

pub returns-then-not-has_next : goal.returns-then-not-has_next
returns-then-not-has_next c = λ s loaded placed low.
    elim c.then-not-has_next.branch [
      | then-not-has_next-via-then-not-has_next w ↦
          let first : next_place c.args.loaded.now.purged ≡ first_place s = ap next_place loaded.purged in
          let fits : next_place c.args.loaded.now.purged < 2 ^ 64 = omega arith in
          let yes : nat_lt (next_place c.args.loaded.now.purged) (2 ^ 64) ≡ true = grind (arith, nat_tests, fits) in
          true≢false (sym yes ∙ sym c.has_next.ensures ∙ w.if-not-has_next.true)
      | then-not-has_next-via-else-not-has_next+then-not-all_go_on w ↦
          true≢false (sym (placed_go_on s.log (first_place s) s.purged placed (omega arith))
          ∙ ap₂ all_go_on (sym loaded.purged) (sym loaded.log ∙ sym c.as_slice-log.ensures.value) ∙ sym w.all_go_on.ensures ∙ w.if-not-all_go_on.true)
    ]

pub load-requires-clause-goes_on : goal.load-requires-clause-goes_on
load-requires-clause-goes_on c =
    go_on c.as_slice-log.result.now c.args.loaded.now.purged (sym c.all_go_on.ensures ∙ c.if-not-all_go_on.false)
