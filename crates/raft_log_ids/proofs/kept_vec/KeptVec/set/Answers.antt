use Rattle.std.proofs.Common.{◌∙◌, ap, set}
use Rattle.std.proofs.lemmas.List.{drop-set-add}
use Rattle.raft_log_ids.proofs.kept_vec.KeptVec.set.Goals as goal

pub returns : goal.returns
returns g c =
    drop-set-add c.self.inside.gone c.self.inside.items.items c.args.at c.args.item ∙ ap (λ xs. set xs c.args.at c.args.item) c.self.view_is
