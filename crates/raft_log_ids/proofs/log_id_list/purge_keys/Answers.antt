use Rattle.std.proofs.Common.{◌≡◌, ◌+◌, List, [], ◌∷◌, ◌++◌, set, take, sym, ◌∙◌, ap, refl}
use Rattle.std.specs.Prelude.{Some}
use Rattle.raft_values.specs.declared.log_id.LogId.{LogId}
use Rattle.raft_log_ids.specs.LogIdList.{ids_of, last_id}
use Rattle.raft_log_ids.proofs.LogIdLemmas.{leader_ids-one}
use Rattle.raft_log_ids.proofs.KeyCountLemmas.{purged-past}
use Rattle.raft_log_ids.proofs.log_id_list.purge_keys.Goals as goal

-- of keys only a new first one is left
alone : {K : Type 0} (keys : List (LogId K)) (last id : LogId K) → last_id keys ≡ Some last → take 1 (set keys 0 id) ≡ id ∷ []
alone [] last id e = cc
alone (key ∷ keys) last id e = refl

pub returns-clause-ok : goal.returns-clause-ok
returns-clause-ok g c =
    let upto = c.args.upto.now in
    let found : last_id c.args.keys.now ≡ Some c.in-Some.last =
    ap last_id (sym c.as_slice.ensures) ∙ sym c.last.ensures.value ∙ sym c.copied.ensures ∙ c.in-Some.is in
    ap ids_of (c.truncate.ensures ∙ ap (take 1) c.set.ensures ∙ alone c.args.keys.now c.in-Some.last upto found)
    ∙ ap (λ ids. ids ++ []) (leader_ids-one upto.leader_id upto.index (upto.index + 1) refl)
    ∙ sym (purged-past c.args.keys.now c.in-Some.last upto c.requires.0 found c.if-upto-last.false)
