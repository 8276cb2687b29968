-- One more key is looked at.
use Rattle.std.proofs.Common.{◌≡◌, ◌+◌, ◌<◌, ◌∷◌, ◌++◌, [], ℕ, List, Option, length, map, take, get_or, ap, subst, sym, ◌∙◌, arith}
use Rattle.std.proofs.lemmas.List.{map-append, take_all, take_more}
use Rattle.raft_log_covers.specs.Marks.{is_in}
use Rattle.raft_log_traces.specs.Before.{IsBefore}
use Rattle.raft_log_traces.specs.Traces.{trace_in}
use Rattle.raft_log_cleaner.specs.Facts.{least_up_to}
use Rattle.raft_log_cleaner.proofs.Oldest.{IsOldestOfNames, all_names, name_more, no_names}
use denote.Bor.{Bor}
use Rattle.raft_log_cleaner.proofs.facts.oldest_of_keys.Goals as goal

pub loop-name-init : goal.loop-name-init
loop-name-init c = no_names (trace_in c.args.trace.now) c.args.mark

pub loop-name-preserved : goal.loop-name-preserved
loop-name-preserved c =
    let t = trace_in c.args.trace.now in
    let xs = c.deref-name-items.result.now in
    let i = c.loop-name.name-index in
    let x : Bor (List ℕ) = get_or xs i (record { ref_ptr = (0, 0); now = [] }) in
    let within : i < length xs = c.loop-name-test.true in
    let more = ap (map {A = Bor (List ℕ)} (λ n. n.now)) (take_more xs i (record { ref_ptr = (0, 0); now = [] }) within) ∙ map-append (λ (n : Bor (List ℕ)). n.now) (take i xs) (x ∷ []) in
    subst (IsOldestOfNames t c.args.mark (map (λ n. n.now) (take (i + 1) xs))) (sym (c.older-oldest.ensures ∙ ap (λ (o : Option ℕ). least_up_to c.args.mark c.loop-name.oldest o) c.key_file.ensures))
    (name_more t c.args.mark (map (λ n. n.now) (take i xs)) (map (λ n. n.now) (take (i + 1) xs)) x.now c.loop-name.oldest more c.loop-name.invariant)

pub returns : goal.returns
returns c =
    let t = trace_in c.args.trace.now in
    let xs = c.deref-name-items.result.now in
    let all = take_all c.loop-name.name-index xs c.loop-name-test.false in
    let names = ap (map (λ n. n.now)) (all ∙ c.deref-name-items.ensures.value) in
    all_names t c.args.mark (map (λ n. n.now) c.in_ok-names.names.items) c.loop-name.oldest c.in_ok-names.ensures
    (subst (λ (l : List (List ℕ)). IsOldestOfNames t c.args.mark l c.loop-name.oldest) names c.loop-name.invariant)
