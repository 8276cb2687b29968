use Rattle.std.proofs.Common.{◌≡◌, Some, length, map, string_bytes, sym, subst, ◌∙◌}
use Rattle.std.specs.Prelude.{slice_get}
use Rattle.raft_log_workers.proofs.ReadingLemmas.{read_so, same_place, written_back}
use Rattle.raft_log_workers.proofs.share.read_shares.Goals as goal

pub returns-clause-read : goal.returns-clause-read
returns-clause-read g c = λ place share at.
    let new = c.read_each.new.shares in
    let old = c.in_ok-shares.shares.items in
    let len : c.in_ok-shares.shares.len ≡ length new = sym (c.read_each.ensures.length ∙ c.deref_mut.ensures.len) in
    let here : slice_get new place ≡ Some share = subst (λ l. slice_get l place ≡ Some share) (written_back c.in_ok-shares.shares.len new old len) at in
    let before = same_place c.deref_mut.result.now new place share c.read_each.ensures.length here in
    let opened : slice_get old place ≡ Some before.0 = subst (λ l. slice_get l place ≡ Some before.0) c.deref_mut.ensures.value before.1 in
    read_so (g.M.ReplayMachine.has_replayed share.machine) (g.F.FileSystem.disk c.args.files.now) (g.F.FileSystem.disk c.open_each.new.files) (g.F.FileSystem.meter c.open_each.new.files)
    (map string_bytes c.args.directories.now) c.args.config.now.queue c.args.names.now place before.0.name share.name before.0.fd share.fd share.read c.open_each.ensures.kept
    (c.read_each.ensures.name place before.0 share before.1 here) (c.read_each.ensures.file place before.0 share before.1 here) (c.in_ok-shares.ensures.named place before.0 opened)
    (c.in_ok-shares.ensures.opened place before.0 opened) (c.read_each.ensures.read place before.0 share before.1 here (c.in_ok-shares.ensures.begun place before.0 opened))
