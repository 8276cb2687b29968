-- The next id is the next number.
use Rattle.std.proofs.Common.{◌≡◌, ◌∙◌, ◌+◌, ◌++◌, ◌∷◌, [], List, ℕ, ap, sym, arith}
use Rattle.std.specs.List.{range_with_len}
use Rattle.std.proofs.lemmas.List.{map-id}
use Rattle.std.proofs.lemmas.List.FromFn.{map-range_with_len_more}
use Rattle.raft_cluster_script.proofs.script.ids_to.Goals as goal

one_more : (n : ℕ) → range_with_len 1 n ++ (n + 1) ∷ [] ≡ range_with_len 1 (n + 1)
one_more n =
    ap (λ (l : List ℕ). l ++ (n + 1) ∷ []) (sym (map-id (range_with_len 1 n))) ∙ sym (map-range_with_len_more (λ (x : ℕ). x) 1 n (n + 1) (omega arith)) ∙ map-id (range_with_len 1 (n + 1))

pub loop-id-preserved : goal.loop-id-preserved
loop-id-preserved c = c.in_ok-push.ensures.items ∙ ap (λ (l : List ℕ). l ++ (c.loop-id.id + 1) ∷ []) c.loop-id.invariant ∙ one_more c.loop-id.id
