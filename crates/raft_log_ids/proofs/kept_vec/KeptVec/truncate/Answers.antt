use Rattle.std.proofs.Common.{◌∙◌, ap, take, drop}
use Rattle.std.proofs.lemmas.List.{drop-take}
use Rattle.raft_log_ids.proofs.kept_vec.KeptVec.truncate.Goals as goal

pub returns : goal.returns
returns g c =
    let gone = c.self.inside.gone in
    c.settle-self-inside.ensures.rest ∙ ap (drop gone) c.truncate.ensures.items
    ∙ drop-take gone c.args.count c.self.inside.items.items ∙ ap (take c.args.count) c.self.view_is
