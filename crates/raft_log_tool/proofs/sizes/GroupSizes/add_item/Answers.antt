use Rattle.std.proofs.Common.{◌∷◌, [], sym, ap, ◌∙◌}
use Rattle.std.specs.BTreeMap.{get}
use Rattle.std.specs.Ordering.{nat_cmp}
use Rattle.std.specs.List.{filter_map}
use Rattle.raft_log_records.specs.Item.{item_of}
use Rattle.raft_log_tool.specs.Sizes.{sum_behind, written_of}
use Rattle.raft_log_tool.proofs.SizeLemmas.{added, bytes_append, not_added}
use Rattle.raft_log_tool.proofs.sizes.GroupSizes.add_item.Goals as goal

pub returns-in_ok-add-in-Some : goal.returns-in_ok-add-in-Some
returns-in_ok-add-in-Some c = λ items has n.
    let item = item_of c.args.item.now in
    added n item c.in-Some.more (get nat_cmp c.args.self.now.groups) (get nat_cmp c.add.new.self.groups n) (sym c.bytes_of.ensures ∙ c.in-Some.is) (c.in_ok-add-in-Some.ensures n)
    ∙ ap (λ o. sum_behind o (filter_map (written_of n) (item ∷ []))) (has n) ∙ sym (bytes_append n items (item ∷ []))

pub returns-in-None : goal.returns-in-None
returns-in-None c = λ items has n.
    let item = item_of c.args.item.now in
    not_added n item (get nat_cmp c.args.self.now.groups n) (sym c.bytes_of.ensures ∙ c.in-None.is)
    ∙ ap (λ o. sum_behind o (filter_map (written_of n) (item ∷ []))) (has n) ∙ sym (bytes_append n items (item ∷ []))
