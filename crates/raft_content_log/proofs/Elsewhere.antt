-- A batch leaves alone the groups that it doesn't name.
use Rattle.std.proofs.Common.{◌≡◌, ◌≢◌, ℕ, Bool, cond, List, [], ◌∷◌, refl, ap, ◌∙◌}
use Rattle.std.proofs.lemmas.Bool.{ne_eqb}
use Rattle.raft_log_records.specs.Item.{Item}
use Rattle.raft_log_memtables.specs.Content.{Content, after_batch, after_change, after_item}
use Rattle.raft_content_log.specs.Leaving.{IsUnnamed}

other_item : {E : Type 0} (item : Item E) (content : Content E) (group : ℕ) → item.group ≢ group → after_item item content group ≡ content group
other_item item content group ne =
    ap (λ (b : Bool). cond b (after_change item.change (content group)) (content group)) (ne_eqb item.group group ne)

pub unnamed_stays : (items : List (Item (List ℕ))) (content : Content (List ℕ)) (group : ℕ) → IsUnnamed items group → after_batch items content group ≡ content group
unnamed_stays [] content group un = refl
unnamed_stays (item ∷ items) content group un =
    unnamed_stays items (after_item item content) group un.1 ∙ other_item item content group un.0
