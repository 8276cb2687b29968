use Rattle.std.proofs.Common.{◌≡◌, length, sym, subst, ◌∙◌, ap}
use Rattle.raft_log_ids.specs.LogIdList.{AreKeys, last_id, with_end}
use Rattle.raft_log_ids.proofs.FrontLemmas.{put-back}
use Rattle.raft_log_ids.proofs.log_id_list.extend_keys.Goals as goal

pub returns-in-Err-clause-err : goal.returns-in-Err-clause-err
returns-in-Err-clause-err g c =
    let keys = c.args.keys.now in
    let others = c.append_keys.new.keys in
    let count : c.len-kept.result ≡ length keys = c.len-kept.ensures in
    let last : c.copied-last.result ≡ last_id keys = c.copied-last.ensures ∙ c.last.ensures.value ∙ ap last_id c.as_slice.ensures in
    c.put_back.ensures ∙ ap (λ n. with_end others n c.copied-last.result) count ∙ ap (with_end others (length keys)) last
    ∙ put-back keys others c.in-Err.ensures.front

pub returns-in-Err-clause-keys : goal.returns-in-Err-clause-keys
returns-in-Err-clause-keys g c = subst (AreKeys g.NID.Ord.cmp) (sym (returns-in-Err-clause-err g c)) c.requires.keys
