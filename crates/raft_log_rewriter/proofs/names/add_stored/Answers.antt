-- A name that is copied.
use Rattle.std.proofs.Common.{List, ℕ, [], ◌∷◌, ◌++◌, sym, ap, ◌∙◌}
use Rattle.std.proofs.lemmas.List.{map-append}
use Rattle.std.specs.Prelude.{Vec}
use Rattle.std.specs.declared.alloc.Global.{Global}
use Rattle.raft_log_covers.specs.Marks.{is_in}
use Rattle.raft_log_records.specs.Batch.{payloads}
use Rattle.raft_log_rewriter.proofs.Ranges.{name_last, name_pushed}
use Rattle.raft_log_rewriter.proofs.names.add_stored.Goals as goal

pub returns-clause-kept : goal.returns-clause-kept
returns-clause-kept c = λ k among.
    ap (λ (l : List (Vec ℕ Global)). is_in k (payloads l)) c.in_ok-push.ensures.items
    ∙ ap (is_in k) (map-append (λ (v : Vec ℕ Global). v.items) c.args.names.now.items (c.in_ok-copy.copy ∷ []))
    ∙ name_pushed (payloads c.args.names.now.items) c.in_ok-copy.copy.items k among

pub returns-clause-added : goal.returns-clause-added
returns-clause-added c = λ stored.
    ap (λ (l : List (Vec ℕ Global)). is_in c.args.name.now (payloads l)) c.in_ok-push.ensures.items
    ∙ ap (is_in c.args.name.now) (map-append (λ (v : Vec ℕ Global). v.items) c.args.names.now.items (c.in_ok-copy.copy ∷ []))
    ∙ ap (λ (n : List ℕ). is_in n (payloads c.args.names.now.items ++ c.in_ok-copy.copy.items ∷ [])) (sym c.in_ok-copy.ensures.items)
    ∙ name_last (payloads c.args.names.now.items) c.in_ok-copy.copy.items
