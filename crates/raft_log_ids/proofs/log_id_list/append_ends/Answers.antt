use Rattle.std.proofs.Common.{◌≡◌, ℕ, zero, suc, ◌-◌, ◌<◌, ◌==◌, Bool, false, List, map, length, get_or, sym, subst, ◌∙◌, ap, arith}
use Rattle.std.specs.Prelude.{Some}
use Rattle.std.proofs.lemmas.List.{length-map}
use Rattle.raft_values.specs.declared.log_id.LogId.{LogId}
use Rattle.raft_log_ids.specs.LogIdList.{ids_of, last_id, appended, extended, AllGoOn, GoesOn, HasFewerKeys, HaveOneLeader}
use Rattle.raft_log_ids.proofs.ExtendLemmas.{ends-extend, last-grown, item_id}
use Rattle.raft_log_ids.proofs.FrontLemmas.{front-trans}
use Rattle.raft_log_ids.proofs.GrowthLemmas.{on_err, fewer_keys-at, fewer_keys-behind}
use Rattle.raft_log_ids.proofs.log_id_list.append_ends.Goals as goal

several : (n : ℕ) (b : Bool) → b ≡ (n == 0) → b ≡ false → 0 < n
several zero b e f = cc
several (suc n) b e f = omega arith

-- what the first and the last item tell
ends : {X K : Type 0} (f : X → LogId K) (ids : List X) (keys : List (LogId K)) (x z : X) (first last : LogId K) → 1 < length ids
    → x ≡ get_or ids 0 x → first ≡ f x → z ≡ get_or ids (length ids - 1) z → last ≡ f z
    → HaveOneLeader (map f ids) → AllGoOn (last_id keys) (map f ids)
    → (extended (ids_of keys) (map f ids) ≡ appended (appended (ids_of keys) first) last) × GoesOn (Some first) last
ends f ids keys x z first last long a b d e same on =
    let same_length : length (map f ids) ≡ length ids = length-map ids f in
    let longer : 1 < length (map f ids) = omega arith in
    let at_first : first ≡ get_or (map f ids) 0 first = item_id f ids 0 x first (omega arith) a b in
    let at_last : last ≡ get_or (map f ids) (length ids - 1) last = item_id f ids (length ids - 1) z last (omega arith) d e in
    let end : last ≡ get_or (map f ids) (length (map f ids) - 1) last = at_last ∙ ap (λ n. get_or (map f ids) (n - 1) last) (sym same_length) in
    ends-extend (ids_of keys) (last_id keys) (map f ids) first last longer at_first end same on

pub append_key-requires-2-clause-goes_on : goal.append_key-requires-2-clause-goes_on
append_key-requires-2-clause-goes_on g c =
    let ids = c.args.new_ids.now in
    let keys = c.args.keys.now in
    let first = c.get_log_id-first.result.now in
    let last = c.get_log_id-last.result.now in
    let some : 0 < length ids = several (length ids) c.is_empty.result c.is_empty.ensures c.if-is_empty.false in
    let two = ends g.LID.RaftLogId.id ids keys c.index-new_ids-0.result c.index-new_ids-new_ids.result first last (omega arith)
    c.index-new_ids-0.is c.get_log_id-first.ensures c.index-new_ids-new_ids.is c.get_log_id-last.ensures c.requires.one_leader c.requires.go_on in
    subst (λ l. GoesOn l last)
    (sym (last-grown keys c.append_key.new.keys first c.in_ok-append_key.ensures.keys.0 c.in_ok-append_key.ensures.ok)) two.1

pub returns-clause-ok : goal.returns-clause-ok
returns-clause-ok g c =
    let ids = c.args.new_ids.now in
    let keys = c.args.keys.now in
    let first = c.get_log_id-first.result.now in
    let last = c.get_log_id-last.result.now in
    let some : 0 < length ids = several (length ids) c.is_empty.result c.is_empty.ensures c.if-is_empty.false in
    let two = ends g.LID.RaftLogId.id ids keys c.index-new_ids-0.result c.index-new_ids-new_ids.result first last (omega arith)
    c.index-new_ids-0.is c.get_log_id-first.ensures c.index-new_ids-new_ids.is c.get_log_id-last.ensures c.requires.one_leader c.requires.go_on in
    c.in_ok-append_key-2.ensures.ok ∙ ap (λ l. appended l last) c.in_ok-append_key.ensures.ok ∙ sym two.0

pub returns-clause-front : goal.returns-clause-front
returns-clause-front g c =
    front-trans c.args.keys.now c.append_key.new.keys c.append_key-2.new.keys c.in_ok-append_key.ensures.front c.in_ok-append_key-2.ensures.front

pub returns-in_err-append_key-clause-only : goal.returns-in_err-append_key-clause-only
returns-in_err-append_key-clause-only g c =
    let cmp = g.NID.Ord.cmp in
    let ids = c.args.new_ids.now in
    let before = ids_of c.args.keys.now in
    let first = c.get_log_id-first.result.now in
    let some : 0 < length ids = several (length ids) c.is_empty.result c.is_empty.ensures c.if-is_empty.false in
    let long : 0 < length (map g.LID.RaftLogId.id ids) = omega (arith, length-map ids g.LID.RaftLogId.id) in
    let here : first ≡ get_or (map g.LID.RaftLogId.id ids) 0 first =
    item_id g.LID.RaftLogId.id ids 0 c.index-new_ids-0.result first some c.index-new_ids-0.is c.get_log_id-first.ensures in
    on_err c.from_residual.result
    (fewer_keys-at cmp before (map g.LID.RaftLogId.id ids) 0 first long
    (subst (λ x. HasFewerKeys cmp before (appended before x)) here c.in_err-append_key.ensures.only))

pub returns-in_err-append_key-2-clause-only : goal.returns-in_err-append_key-2-clause-only
returns-in_err-append_key-2-clause-only g c =
    let cmp = g.NID.Ord.cmp in
    let ids = c.args.new_ids.now in
    let keys = c.args.keys.now in
    let first = c.get_log_id-first.result.now in
    let last = c.get_log_id-last.result.now in
    let some : 0 < length ids = several (length ids) c.is_empty.result c.is_empty.ensures c.if-is_empty.false in
    let two = ends g.LID.RaftLogId.id ids keys c.index-new_ids-0.result c.index-new_ids-new_ids.result first last (omega arith)
    c.index-new_ids-0.is c.get_log_id-first.ensures c.index-new_ids-new_ids.is c.get_log_id-last.ensures c.requires.one_leader c.requires.go_on in
    on_err c.from_residual-in_err-append_key-2.result
    (subst (HasFewerKeys cmp (ids_of keys)) (sym two.0)
    (fewer_keys-behind cmp (ids_of keys) (ids_of c.append_key.new.keys) first last c.in_ok-append_key.ensures.ok c.in_err-append_key-2.ensures.only))
