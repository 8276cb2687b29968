use Rattle.std.proofs.Common.{◌≡◌, ◌<◌, ℕ, List, [], ◌∷◌, ◌++◌, subst}
use Rattle.std.specs.Prelude.{IfErr, OnOk}
use Rattle.raft_log_records.specs.Item.Change.{put}
use Rattle.raft_log_records.specs.Spelling.{record_len}
use Rattle.raft_store.specs.Batches.{of_group}
use Rattle.raft_store.specs.Faults.{IsMemoryOr}
use Rattle.raft_store.specs.Keys.{end_key}
use Rattle.raft_store.specs.declared.fault.StoreRefusal.TheVariants as refusal
use Rattle.raft_store.proofs.batches.put_end.Goals as goal

pub returns-clause-items : goal.returns-clause-items
returns-clause-items c =
    subst (λ (value : List ℕ). OnOk c.put.result (c.put.new.batch.items ≡ c.args.batch.now.items ++ of_group c.args.group (put end_key value ∷ []))) c.in_ok-value.ensures.written c.put.ensures.items

pub returns-clause-refused : goal.returns-clause-refused
returns-clause-refused c =
    subst (λ (value : List ℕ). IfErr c.put.result (IsMemoryOr refusal.TooLong (33554432 < record_len (c.args.batch.now.items ++ of_group c.args.group (put end_key value ∷ []))))) c.in_ok-value.ensures.written c.put.ensures.refused
