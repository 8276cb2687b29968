use Rattle.std.proofs.Common.{◌≡◌, ℕ, List, [], ◌∷◌, ◌++◌, ap, ◌∙◌, append_assoc, arith, length}
use Rattle.raft_log_records.specs.Batch.{Batch}
use Rattle.raft_log_records.specs.Item.{Item}
use Rattle.raft_log_records.specs.Item.Change.{compact, put}
use Rattle.raft_wire.specs.Fields.{spelled_log_id}
use Rattle.raft_store.specs.Batches.{of_group}
use Rattle.raft_store.specs.Faults.{refusal_of_record}
use Rattle.raft_store.specs.Keys.{purged_key}
use Rattle.raft_store.specs.declared.fault.StoreRefusal.{StoreRefusal}
use Rattle.raft_store.specs.declared.fault.StoreRefusal.TheVariants as refusal
use Rattle.raft_store.proofs.Records.{compact_refused, err_as, put_alone}
use Rattle.raft_store.proofs.batches.put_purge.Goals as goal

pub returns-clause-items : goal.returns-clause-items
returns-clause-items c =
    ap (λ (b : Batch). b.items) c.in_ok-add_command.ensures.0
    ∙ ap (λ (l : List (Item (List ℕ))). l ++ of_group c.args.group (compact c.args.first ∷ [])) c.in_ok-put.ensures.items
    ∙ append_assoc c.args.batch.now.items (of_group c.args.group (put purged_key c.in_ok-value.value.items ∷ [])) (of_group c.args.group (compact c.args.first ∷ []))
    ∙ ap (λ (value : List ℕ). c.args.batch.now.items ++ of_group c.args.group (put purged_key value ∷ compact c.args.first ∷ [])) c.in_ok-value.ensures.written
    ∙ ap (λ (limit : ℕ). c.args.batch.now.items ++ of_group c.args.group (put purged_key (spelled_log_id c.args.id) ∷ compact limit ∷ [])) c.requires

pub returns-in_err-put-clause-refused : goal.returns-in_err-put-clause-refused
returns-in_err-put-clause-refused c = λ none.
    let size : length c.in_ok-value.value.items ≡ 24 = ap length c.in_ok-value.ensures.written in
    err_as (λ (why : StoreRefusal). why ≡ refusal.Memory) c.from_residual-in_err-put.result c.in_err-put.field-0.0 c.from_residual-in_err-put.ensures.1
    (put_alone c.args.batch.now.items c.args.group purged_key c.in_ok-value.value.items c.in_err-put.field-0.0 none (omega (arith, size)) c.in_err-put.ensures.refused)

pub returns-in_err-add_command-clause-refused : goal.returns-in_err-add_command-clause-refused
returns-in_err-add_command-clause-refused c = λ none.
    err_as (λ (why : StoreRefusal). why ≡ refusal.Memory) c.from_residual-in_err-add_command.result (refusal_of_record c.in_err-add_command.field-0.0) c.from_residual-in_err-add_command.ensures.1
    (compact_refused c.args.group c.args.id c.args.batch.now.items c.put.new.batch c.add_command.new.self c.in_ok-value.value.items c.args.first c.in_err-add_command.field-0.0 none c.in_ok-value.ensures.written c.in_ok-put.ensures.items c.in_err-add_command.ensures)
