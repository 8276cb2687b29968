-- The entry that halving finds has the id, and no other has it.
use Rattle.std.proofs.Common.{◌≡◌, ◌∙◌, ap, get_or, rules}
use Rattle.std.specs.Prelude.{Some}
use Rattle.std.specs.List.{position}
use Rattle.std.specs.Ordering.{is_eq}
use Rattle.std.proofs.lemmas.List.Sorted.{answers_always}
use Rattle.raft_progress.proofs.PartsLemmas.{place_there}
use Rattle.raft_progress.proofs.ValuesLemmas.{within, value_found, with_found, has_found}
use Rattle.raft_progress.proofs.entries.distinct_place.Goals as goal

pub returns-in-Ok : goal.returns-in-Ok
returns-in-Ok g c =
    let eq = g.ID.PartialEq.eq in
    let entries = c.args.entries.now in
    let id = c.args.id.now in
    let at = c.in-Ok.at in
    let same = c.in-Ok.ensures.position (λ entry. entry.0) (answers_always _ _ _ (λ f a r k called. search rules)) in
    let first : Some at ≡ position (λ entry. eq entry.0 id) entries =
    place_there eq g.met.ID.NodeIdEssential.equal_is_same entries at id c.requires c.in-Ok.ensures.bound (λ d. g.met.ID.Ord.matches_eq _ id ∙ ap is_eq (same d)) in
    record {
      has = has_found eq id entries at first;
      within = within eq id entries at first;
      value = λ x. value_found eq id entries at x first;
      with_value = λ x v. with_found eq id entries at x v first;
      without = tt;
    }
