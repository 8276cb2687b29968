use Rattle.std.proofs.Common.{◌≡◌, ◌∙◌, ◌++◌, [], ◌∷◌, List, ℕ, false, map, ap, sym, append_assoc}
use Rattle.std.proofs.lemmas.List.{map_push}
use Rattle.raft_kv.specs.Map.{Pair, are_rising, plain}
use Rattle.raft_kv.specs.declared.pairs.Pair.{Pair as APair}
use Rattle.raft_kv.specs.Pairs.{is_before, plain_pair}
use Rattle.raft_kv.proofs.Restored.{not_rising}
use Rattle.raft_kv.proofs.pairs.rising_pairs.Goals as goal

pub returns-then-not-is_below : goal.returns-then-not-is_below
returns-then-not-is_below c =
    let at = c.loop-pair in
    let pair = c.in-Some.pair in
    let front = map plain_pair c.pop.new.self.items in
    let es = at.rising.entries in
    let parts : map plain_pair at.pairs.items ≡ front ++ plain_pair pair ∷ [] = ap (λ (ps : List APair). map plain_pair ps) c.in-Some.ensures.items ∙ map_push plain_pair c.pop.new.self.items pair in
    let whole : map plain_pair c.args.pairs.items ≡ front ++ plain_pair pair ∷ map plain es =
    at.invariant.left ∙ ap (λ (ps : List Pair). ps ++ map plain es) parts ∙ append_assoc front (plain_pair pair ∷ []) (map plain es) in
    let no : is_before pair.key.items es ≡ false = ap (λ (k : List ℕ). is_before k es) (sym c.as_slice.ensures.value) ∙ sym c.is_below.ensures ∙ c.if-not-is_below.true in
    ap are_rising whole ∙ not_rising front (plain_pair pair) es no
