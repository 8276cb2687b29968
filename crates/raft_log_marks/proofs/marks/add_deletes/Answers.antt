use Rattle.std.proofs.Common.{◌≡◌, ◌+◌, ◌++◌, ◌∷◌, [], ℕ, List, map, take, get_or, ap, ◌∙◌}
use Rattle.std.specs.Borrow.{Bor}
use Rattle.std.proofs.lemmas.List.{map_more}
use Rattle.raft_log_records.specs.Item.Change.{delete}
use Rattle.raft_log_covers.specs.Marks.{deletes}
use Rattle.raft_log_marks.proofs.MarkLemmas.{added_both, deletes_more}
use Rattle.raft_log_marks.proofs.marks.add_deletes.Goals as goal

shown : List (Bor (List ℕ)) → List (List ℕ)
shown names = map (λ n. n.now) names

pub loop-name-preserved : goal.loop-name-preserved
unfolding shown
loop-name-preserved c =
    let names = c.args.names.now in
    let index = c.loop-name.name-index in
    let name = get_or names index (record { ref_ptr = (0, 0); now = [] }) in
    let more : shown (take (index + 1) names) ≡ shown (take index names) ++ name.now ∷ [] = map_more (λ (n : Bor (List ℕ)). n.now) names index (record { ref_ptr = (0, 0); now = [] }) c.loop-name-test.true in
    added_both c.args.raft_group_id (deletes (shown (take index names))) (delete name.now ∷ []) (deletes (shown (take (index + 1) names))) c.args.batch.now.items c.loop-name.batch.items c.add_delete.new.batch.items
    (ap deletes more ∙ deletes_more (shown (take index names)) name.now) c.loop-name.invariant c.in_ok-add_delete.ensures.added
