-- What is told of the tables is told of the content that calls answer.
use Rattle.std.proofs.Common.{◌≡◌, ℕ, Bool, true, false, Option, Some, None, refl, sym, ap, ◌∙◌}
use Rattle.std.specs.Prelude.{◌↔◌, IsTrue, is_some, count_by}
use Rattle.std.specs.Bool.{OnTrue, OnFalse}
use Rattle.std.specs.List.{range_with_len}
use Rattle.std.specs.Option.{option_map}
use Rattle.std.proofs.lemmas.Bool.{false≢true}
use Rattle.raft_log_memtables.specs.Content.{Content, no_group}
use Rattle.raft_log_memtables.specs.ContentLaws.{content_map, group_map}
use Rattle.raft_log_memtables.specs.Fetch.{count_before}

module _ {E G : Type 0} (f : E → G) where
  same_there : (o : Option E) → is_some (option_map f o) ≡ is_some o
  same_there None = refl
  same_there (Some e) = refl

  pub count_seen : (entry : ℕ → Option E) (limit : ℕ) → count_before (λ i. option_map f (entry i)) limit ≡ count_before entry limit
  count_seen entry limit = λ at. count_by (λ i. same_there (entry i) at) (range_with_len 0 limit)

  pub empty_seen : (content : Content E) (empty : Bool) → OnTrue empty ((group : ℕ) → content group ≡ no_group) → OnFalse empty ((group : ℕ) × ((content group).there ≡ true))
      → IsTrue empty ↔ ((group : ℕ) → content_map f content group ≡ no_group)
  empty_seen content true all some = (λ t group. ap (group_map f) (all group), λ none. refl)
  empty_seen content false all some = (λ t. absurd (false≢true t), λ none. absurd (false≢true (sym (ap (λ g. g.there) (none some.0)) ∙ some.1)))
