-- The list that a node has applied: the snapshot's entries are its front, and the log has the rest.
use Rattle.std.specs.Prelude.{◌≡◌, ℕ, ◌+◌, ◌-◌, ◌≤◌, List, ◌++◌, length, take, drop, Option, Some, None, refl}
use Rattle.std.proofs.Common.{sym, ap, ◌∙◌, arith}
use Rattle.std.proofs.lemmas.List.{drop-append-le, drop-drop, drop-take, drop_all, length-append, length-drop, length-take-le, take-append-le, take-take, take_all}
use Rattle.raft_values.specs.declared.log_id.LogId.{LogId}
use Rattle.raft_values.specs.LogId.{next_place, place_of}
use Rattle.raft_group_step.specs.Values.{Entry}
use Rattle.raft_group_step.specs.StoredGroup.{first_place, held, prefix_of, snapshot_last}
use Rattle.raft_group_step.specs.GroupState.{GroupState}
use Rattle.raft_group_step.specs.SnapshotRequest.{place_above}
use Rattle.raft_laws.specs.OneList.{applied_list}
use Rattle.raft_group_storage.specs.Keeping.{entries_of}
use Rattle.raft_applier.specs.Running.{HasItsList}

pub above_next : (o : Option (LogId ℕ)) → place_above (place_of o) ≡ next_place o
above_next None = refl
above_next (Some id) = refl

-- behind a list's front stands the rest
drop_past : {A : Type 0} (n : ℕ) (xs ys : List A) → length xs ≤ n → drop n (xs ++ ys) ≡ drop (n - length xs) ys
drop_past n xs ys le =
    let more : length xs + (n - length xs) ≡ n = omega arith in
    ap (λ k. drop k (xs ++ ys)) (sym more)
    ∙ sym (drop-drop (n - length xs) (length xs) (xs ++ ys))
    ∙ ap (drop (n - length xs)) (drop-append-le (length xs) xs ys (omega arith) ∙ ap (λ zs. zs ++ ys) (drop_all (length xs) xs (omega arith)))

module _ (s : GroupState) (h : HasItsList s) where
  abbrev start : List Entry
  start = prefix_of s.stored.snapshot

  abbrev above : List Entry
  above = drop (length start - first_place s.stored) s.stored.log

  reaches : place_above s.applied ≤ length (held s.stored)
  reaches =
      let both = length-append start above in
      let rest = length-drop (length start - first_place s.stored) s.stored.log in
      omega (arith, both, rest, h.size, h.purged, h.covered, h.within)

  pub applied_size : length (applied_list s) ≡ place_above s.applied
  applied_size = length-take-le (place_above s.applied) (held s.stored) reaches

  -- the snapshot's entries come first
  pub snapshot_front : take (next_place (snapshot_last s.stored)) (applied_list s) ≡ start
  snapshot_front =
      let n = next_place (snapshot_last s.stored) in
      take-take n (place_above s.applied) (held s.stored) h.covered
      ∙ take-append-le n start above (omega (arith, h.size))
      ∙ take_all n start (omega (arith, h.size))

  -- the log has what stands behind a place that isn't below the snapshot's end
  pub rest_of_log : (last upto : Option (LogId ℕ)) → next_place (snapshot_last s.stored) ≤ next_place last → next_place last ≤ place_above s.applied → next_place upto ≡ place_above s.applied
      → entries_of s.stored last upto ≡ drop (next_place last) (applied_list s)
  rest_of_log last upto from le is =
      let a = next_place last in
      let count = place_above s.applied - a in
      let whole : a + count ≡ place_above s.applied = omega (arith, le) in
      let size = h.size in
      let purged = h.purged in
      let above_log : drop a (held s.stored) ≡ drop (a - first_place s.stored) s.stored.log =
      drop_past a start above (omega (arith, from, size))
      ∙ drop-drop (a - length start) (length start - first_place s.stored) s.stored.log
      ∙ ap (λ k. drop k s.stored.log) (let e : length start - first_place s.stored + (a - length start) ≡ a - first_place s.stored = omega (arith, from, size, purged) in e)
      in
      ap (λ k. take (k - a) (drop (a - first_place s.stored) s.stored.log)) is
      ∙ ap (take count) (sym above_log)
      ∙ sym (drop-take a count (held s.stored))
      ∙ ap (λ k. drop a (take k (held s.stored))) whole
