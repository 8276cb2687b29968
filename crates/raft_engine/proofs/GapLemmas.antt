-- Entries that a leader sends have no gap.
use Rattle.std.specs.Prelude.{◌≡◌, ℕ, ◌+◌, ◌≤◌, ◌==◌, nat_le, true, List, [], ◌∷◌, Option, Some, None, refl}
use Rattle.std.proofs.Common.{arith}
use Rattle.std.proofs.lemmas.Bool.{and_parts}
use Rattle.std.proofs.lemmas.Bool.Decides.{nat_tests}
use Rattle.raft_values.specs.declared.vote.Vote.{Vote}
use Rattle.raft_values.specs.declared.log_id.LogId.{LogId}
use Rattle.raft_values.specs.LogId.{next_place}
use Rattle.raft_group_step.specs.Values.{Entry}
use Rattle.raft_group_step.specs.Refusal.{do_follow}
use Rattle.raft_engine.specs.Following.{follow_one_another, join_log}
use Rattle.raft_engine.proofs.MissingEntries.{placed_after}

-- entries that follow have no gap before or among them
pub without_gap : (vote : Vote ℕ) (es : List Entry) (previous : Option (LogId ℕ)) → do_follow vote previous es ≡ true → follow_one_another previous es ≡ true
without_gap vote [] previous h = refl
without_gap vote (e ∷ es) None h =
    let parts = and_parts _ _ h in let first = and_parts _ _ parts.0 in
    let at : (e.log_id.index == 0) ≡ true = first.0 in
    rw at (without_gap vote es (Some e.log_id) parts.1)
without_gap vote (e ∷ es) (Some id) h =
    let parts = and_parts _ _ h in let more = and_parts _ _ parts.0 in let first = and_parts _ _ more.0 in
    let at : (e.log_id.index == id.index + 1) ≡ true = first.0 in
    rw at (without_gap vote es (Some e.log_id) parts.1)

-- entries that follow one of the log, or the last one, join the log
pub joins : (vote : Vote ℕ) (es : List Entry) (previous : Option (LogId ℕ)) (end : ℕ) → do_follow vote previous es ≡ true → next_place previous ≤ end → join_log end es ≡ true
joins vote [] previous end h l = refl
joins vote (e ∷ es) previous end h l =
    let placed = placed_after vote (e ∷ es) previous h in
    let reaches : nat_le e.log_id.index end ≡ true = (let at : e.log_id.index ≡ next_place previous = placed.0 in grind (arith, nat_tests)) in
    rw (reaches, rest vote previous h) refl
  where
    rest : (vote : Vote ℕ) (previous : Option (LogId ℕ)) → do_follow vote previous (e ∷ es) ≡ true → follow_one_another (Some e.log_id) es ≡ true
    rest vote None k = without_gap vote es (Some e.log_id) (and_parts _ _ k).1
    rest vote (Some id) k = without_gap vote es (Some e.log_id) (and_parts _ _ k).1
