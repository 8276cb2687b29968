use Rattle.std.proofs.Common.{ℕ, List, ap, ◌∙◌, Some}
use Rattle.toml.specs.Data.{get_member, members_depth}
use Rattle.toml.specs.View.{view, members_view}
use Rattle.raft_log_files.specs.Toml.{after_put}
use Rattle.raft_log_files.proofs.TableLemmas.{Entry, found_after, flat_after}
use Rattle.raft_log_files.proofs.writing.put.Goals as goal

pub returns : goal.returns
returns c =
    let table = c.args.table.now in
    let key = c.in_ok-key.key in
    record {
      found = λ k. ap (λ (es : List Entry). get_member k (members_view es)) c.in_ok-insert.ensures.entries
          ∙ found_after key c.args.value k table.entries
          ∙ ap (λ (b : List ℕ). after_put b (Some (view c.args.value)) k (get_member k (members_view table.entries))) c.in_ok-key.ensures.ok;
      flat = λ flat all. ap (λ (es : List Entry). members_depth (members_view es)) c.in_ok-insert.ensures.entries
          ∙ flat_after key c.args.value table.entries flat all;
    }
