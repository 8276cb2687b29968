-- The readers of what frames say fit their spellings.
use Rattle.std.proofs.Common.{◌≡◌, ℕ, zero, suc, ◌^◌, ◌<◌, ◌≤◌, Bool, true, false, not, ◌&&◌, cond, eqb, List, [], ◌∷◌, ◌++◌, length, Option, Some, None, Result, Ok, Err, refl, sym, ap, subst, ◌∙◌, append_assoc, arith}
use Rattle.std.specs.Prelude.{IfSome, is_none}
use Rattle.std.specs.Int.{w64, to_be_bytes}
use Rattle.std.proofs.lemmas.Bool.{eqb-true, eq-eqb, and_parts}
use Rattle.raft_values.specs.declared.log_id.LogId.{LogId}
use Rattle.raft_group_step.specs.declared.vote_message.VoteRequest.{VoteRequest}
use Rattle.raft_group_step.specs.declared.vote_message.VoteResponse.{VoteResponse}
use Rattle.raft_group_step.specs.Values.{LoggedMembership}
use Rattle.raft_messages.specs.declared.memberships.SnapshotBytes.{SnapshotBytes}
use Rattle.raft_messages.specs.declared.message.RequestId.{RequestId}
use Rattle.raft_messages.specs.declared.message.RequestId.TheVariants.{HeartBeat, Numbered}
use Rattle.raft_group_step.specs.declared.append_entries.AppendEntriesResponse.{AppendEntriesResponse}
use Rattle.raft_group_step.specs.declared.append_entries.AppendEntriesResponse.TheVariants.{Success, PartialSuccess, Conflict, HigherVote}
use Rattle.raft_messages.specs.declared.message.AppendFields.{AppendFields}
use Rattle.raft_messages.specs.declared.message.ReplyFields.{ReplyFields}
use Rattle.raft_wire.specs.declared.error.FrameFault.{FrameFault}
use Rattle.raft_wire.specs.declared.error.FrameFault.TheVariants as fault
use Rattle.raft_wire.specs.Reader.{Reader, both, made, number_at, text_at}
use Rattle.raft_wire.specs.Fields.{spelled_flag, flag_at, spelled_vote, FitsVote, vote_at, spelled_option, option_at, spelled_log_id, FitsLogId, log_id_at, spelled_last, FitsLast, last_at}
use Rattle.raft_wire.specs.Memberships.{Chained, spelled_list, spelled_membership, FitsMembership, membership_at}
use Rattle.raft_wire.specs.Entries.{spelled_text, spelled_entry, entry_behind, that_place}
use Rattle.raft_wire.specs.Bodies.{marked_at, spelled_vote_request, FitsVoteRequest, vote_request_of, vote_request_at, spelled_vote_reply, FitsVoteReply, vote_reply_of, vote_reply_at}
use Rattle.raft_wire.specs.Bodies.{number_of_id, id_of_number, spelled_id, FitsId, id_at, spelled_number, number_of_request_at, spelled_append, FitsBehind, FitsAppend, append_of, entries_at, append_at}
use Rattle.raft_wire.specs.Bodies.{spelled_result, FitsResult, higher_vote, result_at, spelled_reply, FitsReply, reply_of, reply_at}
use Rattle.raft_wire.specs.Bodies.{has_number, is_conflict, FitsSnapshotReply, none_at, numbered_at, snapshot_result_at, snapshot_reply_at}
use Rattle.raft_wire.specs.Bodies.{spelled_logged, FitsLogged, logged_of, logged_at, spelled_snapshot, FitsSnapshot, snapshot_of, snapshot_at, SentSnapshot, spelled_sent, FitsSent, sent_of, sent_at}
use Rattle.raft_bytes.specs.Bytes.{AreBytes}
use Rattle.raft_bytes.proofs.Bytes.{AreBytes-rest, bind_ok, ok_is, Takes, Takes-behind}
use Rattle.raft_wire.proofs.Fitting.{Reads, fits_as, both_reads, made_reads, tested_reads, u64_reads, flag_reads, Anything, option_reads, text_reads}
use Rattle.raft_wire.proofs.Lists.{counted_reads}
use Rattle.raft_wire.proofs.Values.{vote_reads, log_id_reads, last_reads, membership_reads, entry_reads}

-- the same reader, with another word for the spelling
spelled_as : {A : Type 0} (reader : Reader A) (s t : A → List ℕ) (F : A → Type 0) → Reads reader s F → ((a : A) → s a ≡ t a) → Reads reader t F
spelled_as reader s t F r st = record {
  takes = λ bytes a rest fits e. let x = r.takes bytes a rest fits e in (subst (λ (l : List ℕ). Takes bytes l rest) (st a) x.0, x.1);
  again = λ a rest h. ap (λ (l : List ℕ). reader (l ++ rest)) (sym (st a)) ∙ r.again a rest h;
}

-- ---- a byte that must be this one

module _ {A : Type 0} (mark : ℕ) (reader : Reader A) (spelled : A → List ℕ) (F : A → Type 0) (r : Reads reader spelled F) where
  passed_then : (b : Bool) (d : FrameFault) (x : Result (A × List ℕ) FrameFault) (y : A × List ℕ) → cond b x (Err d) ≡ Ok y → (b ≡ true) × (x ≡ Ok y)
  passed_then true d x y e = (refl, e)
  passed_then false d x y e = absurd cc

  marked_takes : (bytes : List ℕ) (x : A × List ℕ) → AreBytes bytes → marked_at mark reader bytes ≡ Ok x → Takes bytes (mark ∷ spelled x.0) x.1 × F x.0
  unfolding marked_at
  marked_takes [] x fits e = absurd cc
  marked_takes (b ∷ bytes) x fits e =
      let g = passed_then (eqb b mark) fault.BadTag (reader bytes) x e in
      let t = r.takes bytes x.0 x.1 (AreBytes-rest b bytes fits) g.1 in
      let same : b ≡ mark = eqb-true _ _ g.0 in
      (subst (λ (m : ℕ). Takes (b ∷ bytes) (m ∷ spelled x.0) x.1) same (Takes-behind b bytes (spelled x.0) x.1 t.0), t.1)

  marked_again : (a : A) (rest : List ℕ) → F a → marked_at mark reader ((mark ∷ spelled a) ++ rest) ≡ Ok (a, rest)
  unfolding marked_at
  marked_again a rest h =
      let same : eqb mark mark ≡ true = eq-eqb mark mark refl in
      rw same (r.again a rest h)

  marked_reads : Reads (marked_at mark reader) (λ a. mark ∷ spelled a) F
  marked_reads = record {
    takes = λ bytes a rest fits e. marked_takes bytes (a, rest) fits e;
    again = λ a rest h. marked_again a rest h;
  }

-- ---- votes asked for and answered

pub vote_request_reads : Reads vote_request_at spelled_vote_request FitsVoteRequest
unfolding vote_request_at
vote_request_reads =
    let fields = both_reads vote_at spelled_vote FitsVote last_at spelled_last FitsLast vote_reads last_reads in
    let whole = made_reads vote_request_of (λ (r : VoteRequest ℕ). (r.vote, r.last_log_id)) (both vote_at last_at) (λ p. spelled_vote p.0 ++ spelled_last p.1) (λ p. FitsVote p.0 × FitsLast p.1) (λ r. refl) (λ p. refl) fields in
    fits_as (made vote_request_of (both vote_at last_at)) spelled_vote_request (λ (r : VoteRequest ℕ). FitsVote r.vote × FitsLast r.last_log_id) FitsVoteRequest whole (λ r h. record { vote = h.0; last = h.1 }) (λ r h. (h.vote, h.last))

pub vote_reply_reads : Reads vote_reply_at spelled_vote_reply FitsVoteReply
unfolding vote_reply_at
vote_reply_reads =
    let inner = both_reads flag_at spelled_flag Anything last_at spelled_last FitsLast flag_reads last_reads in
    let fields = both_reads vote_at spelled_vote FitsVote (both flag_at last_at) (λ p. spelled_flag p.0 ++ spelled_last p.1) (λ p. Anything p.0 × FitsLast p.1) vote_reads inner in
    let whole = made_reads vote_reply_of (λ (r : VoteResponse ℕ). (r.vote, (r.vote_granted, r.last_log_id))) (both vote_at (both flag_at last_at)) (λ p. spelled_vote p.0 ++ (spelled_flag p.1.0 ++ spelled_last p.1.1)) (λ p. FitsVote p.0 × (Anything p.1.0 × FitsLast p.1.1)) (λ r. refl) (λ p. refl) fields in
    let fit = fits_as (made vote_reply_of (both vote_at (both flag_at last_at))) (λ (r : VoteResponse ℕ). spelled_vote r.vote ++ (spelled_flag r.vote_granted ++ spelled_last r.last_log_id)) (λ (r : VoteResponse ℕ). FitsVote r.vote × (Unit {0} × FitsLast r.last_log_id)) FitsVoteReply whole (λ r h. record { vote = h.0; last = h.1.1 }) (λ r h. (h.vote, (tt, h.last))) in
    spelled_as (made vote_reply_of (both vote_at (both flag_at last_at))) (λ (r : VoteResponse ℕ). spelled_vote r.vote ++ (spelled_flag r.vote_granted ++ spelled_last r.last_log_id)) spelled_vote_reply FitsVoteReply fit (λ r. sym (append_assoc (spelled_vote r.vote) (spelled_flag r.vote_granted) (spelled_last r.last_log_id)))

-- ---- ids of requests

there_id : (id : RequestId) → id_of_number (number_of_id id) ≡ id
there_id HeartBeat = refl
there_id (Numbered id) = refl

here_id : (n : Option ℕ) → number_of_id (id_of_number n) ≡ n
here_id None = refl
here_id (Some n) = refl

id_reads : Reads id_at spelled_id FitsId
unfolding id_at
id_reads = made_reads id_of_number number_of_id (option_at (number_at w64)) (spelled_option (to_be_bytes w64)) (λ o. IfSome o (λ n. n < 2 ^ 64)) there_id here_id (option_reads (number_at w64) (to_be_bytes w64) (λ n. n < 2 ^ 64) u64_reads)

number_of_request_reads : Reads number_of_request_at spelled_number (λ n. n < 2 ^ 64)
unfolding number_of_request_at
number_of_request_reads = marked_reads 1 (number_at w64) (to_be_bytes w64) (λ n. n < 2 ^ 64) u64_reads

-- ---- append requests and their replies

entries_reads : Reads entries_at (spelled_list spelled_entry) (λ es. (length es ≤ 64) × Chained FitsBehind that_place None es)
entries_reads = counted_reads entry_behind that_place spelled_entry FitsBehind entry_reads 64 (omega arith)

-- five parts that are joined from the right, and from the left
regroup : (a b c d e : List ℕ) → a ++ (b ++ (c ++ (d ++ e))) ≡ a ++ b ++ c ++ d ++ e
regroup a b c d e = sym (simp append_assoc)

five_reads : {A B C D E : Type 0} (a : Reader A) (sa : A → List ℕ) (FA : A → Type 0) (b : Reader B) (sb : B → List ℕ) (FB : B → Type 0) (c : Reader C) (sc : C → List ℕ) (FC : C → Type 0) (d : Reader D) (sd : D → List ℕ) (FD : D → Type 0) (e : Reader E) (se : E → List ℕ) (FE : E → Type 0)
    → Reads a sa FA → Reads b sb FB → Reads c sc FC → Reads d sd FD → Reads e se FE
    → Reads (both a (both b (both c (both d e)))) (λ p. sa p.0 ++ sb p.1.0 ++ sc p.1.1.0 ++ sd p.1.1.1.0 ++ se p.1.1.1.1) (λ p. FA p.0 × (FB p.1.0 × (FC p.1.1.0 × (FD p.1.1.1.0 × FE p.1.1.1.1))))
five_reads a sa FA b sb FB c sc FC d sd FD e se FE ra rb rc rd re =
    let de = both_reads d sd FD e se FE rd re in
    let cde = both_reads c sc FC (both d e) (λ p. sd p.0 ++ se p.1) (λ p. FD p.0 × FE p.1) rc de in
    let bcde = both_reads b sb FB (both c (both d e)) (λ p. sc p.0 ++ (sd p.1.0 ++ se p.1.1)) (λ p. FC p.0 × (FD p.1.0 × FE p.1.1)) rb cde in
    let abcde = both_reads a sa FA (both b (both c (both d e))) (λ p. sb p.0 ++ (sc p.1.0 ++ (sd p.1.1.0 ++ se p.1.1.1))) (λ p. FB p.0 × (FC p.1.0 × (FD p.1.1.0 × FE p.1.1.1))) ra bcde in
    spelled_as (both a (both b (both c (both d e)))) (λ p. sa p.0 ++ (sb p.1.0 ++ (sc p.1.1.0 ++ (sd p.1.1.1.0 ++ se p.1.1.1.1)))) (λ p. sa p.0 ++ sb p.1.0 ++ sc p.1.1.0 ++ sd p.1.1.1.0 ++ se p.1.1.1.1) (λ p. FA p.0 × (FB p.1.0 × (FC p.1.1.0 × (FD p.1.1.1.0 × FE p.1.1.1.1)))) abcde
    (λ p. regroup (sa p.0) (sb p.1.0) (sc p.1.1.0) (sd p.1.1.1.0) (se p.1.1.1.1))

pub append_reads : Reads append_at spelled_append FitsAppend
unfolding append_at
append_reads =
    let fields = five_reads vote_at spelled_vote FitsVote id_at spelled_id FitsId last_at spelled_last FitsLast last_at spelled_last FitsLast entries_at (spelled_list spelled_entry) (λ es. (length es ≤ 64) × Chained FitsBehind that_place None es) vote_reads id_reads last_reads last_reads entries_reads in
    let whole = made_reads append_of (λ (m : AppendFields). (m.vote, (m.id, (m.previous, (m.committed, m.entries))))) (both vote_at (both id_at (both last_at (both last_at entries_at))))
    (λ p. spelled_vote p.0 ++ spelled_id p.1.0 ++ spelled_last p.1.1.0 ++ spelled_last p.1.1.1.0 ++ spelled_list spelled_entry p.1.1.1.1)
    (λ p. FitsVote p.0 × (FitsId p.1.0 × (FitsLast p.1.1.0 × (FitsLast p.1.1.1.0 × ((length p.1.1.1.1 ≤ 64) × Chained FitsBehind that_place None p.1.1.1.1))))) (λ m. refl) (λ p. refl) fields in
    fits_as (made append_of (both vote_at (both id_at (both last_at (both last_at entries_at))))) spelled_append
    (λ (m : AppendFields). FitsVote m.vote × (FitsId m.id × (FitsLast m.previous × (FitsLast m.committed × ((length m.entries ≤ 64) × Chained FitsBehind that_place None m.entries))))) FitsAppend whole
    (λ m h. record { vote = h.0; id = h.1.0; previous = h.1.1.0; committed = h.1.1.1.0; count = h.1.1.1.1.0; entries = h.1.1.1.1.1 }) (λ m h. (h.vote, (h.id, (h.previous, (h.committed, (h.count, h.entries))))))

result_takes : (bytes : List ℕ) (x : AppendEntriesResponse ℕ × List ℕ) → AreBytes bytes → result_at bytes ≡ Ok x → Takes bytes (spelled_result x.0) x.1 × FitsResult x.0
unfolding result_at
result_takes [] x fits e = absurd cc
result_takes (zero ∷ bytes) x fits e = subst (λ (y : AppendEntriesResponse ℕ × List ℕ). Takes (0 ∷ bytes) (spelled_result y.0) y.1 × FitsResult y.0) (ok_is (Success, bytes) x e) (record { parts = refl; rest_fits = AreBytes-rest 0 bytes fits }, tt)
result_takes (suc zero ∷ bytes) x fits e = subst (λ (y : AppendEntriesResponse ℕ × List ℕ). Takes (1 ∷ bytes) (spelled_result y.0) y.1 × FitsResult y.0) (ok_is (Conflict, bytes) x e) (record { parts = refl; rest_fits = AreBytes-rest 1 bytes fits }, tt)
result_takes (suc (suc zero) ∷ bytes) x fits e =
    let a = bind_ok (vote_at bytes) (λ a. Ok (higher_vote a.0, a.1)) x e in
    let t = vote_reads.takes bytes a.0.0 a.0.1 (AreBytes-rest 2 bytes fits) a.1 in
    subst (λ (y : AppendEntriesResponse ℕ × List ℕ). Takes (2 ∷ bytes) (spelled_result y.0) y.1 × FitsResult y.0) (ok_is (HigherVote a.0.0, a.0.1) x a.2) (Takes-behind 2 bytes (spelled_vote a.0.0) a.0.1 t.0, t.1)
result_takes (suc (suc (suc b)) ∷ bytes) x fits e = absurd cc

result_again : (r : AppendEntriesResponse ℕ) (rest : List ℕ) → FitsResult r → result_at (spelled_result r ++ rest) ≡ Ok (r, rest)
unfolding result_at
result_again Success rest h = refl
result_again (PartialSuccess last) rest h = absurd h
result_again Conflict rest h = refl
result_again (HigherVote vote) rest h = rw (vote_reads.again vote rest h) refl

result_reads : Reads result_at spelled_result FitsResult
result_reads = record {
  takes = λ bytes r rest fits e. result_takes bytes (r, rest) fits e;
  again = λ r rest h. result_again r rest h;
}

pub reply_reads : Reads reply_at spelled_reply FitsReply
unfolding reply_at
reply_reads =
    let fields = five_reads vote_at spelled_vote FitsVote id_at spelled_id FitsId last_at spelled_last FitsLast last_at spelled_last FitsLast result_at spelled_result FitsResult vote_reads id_reads last_reads last_reads result_reads in
    let whole = made_reads reply_of (λ (m : ReplyFields). (m.vote, (m.id, (m.previous, (m.last, m.outcome))))) (both vote_at (both id_at (both last_at (both last_at result_at))))
    (λ p. spelled_vote p.0 ++ spelled_id p.1.0 ++ spelled_last p.1.1.0 ++ spelled_last p.1.1.1.0 ++ spelled_result p.1.1.1.1)
    (λ p. FitsVote p.0 × (FitsId p.1.0 × (FitsLast p.1.1.0 × (FitsLast p.1.1.1.0 × FitsResult p.1.1.1.1)))) (λ m. refl) (λ p. refl) fields in
    fits_as (made reply_of (both vote_at (both id_at (both last_at (both last_at result_at))))) spelled_reply
    (λ (m : ReplyFields). FitsVote m.vote × (FitsId m.id × (FitsLast m.previous × (FitsLast m.last × FitsResult m.outcome)))) FitsReply whole
    (λ m h. record { vote = h.0; id = h.1.0; previous = h.1.1.0; last = h.1.1.1.0; outcome = h.1.1.1.1 }) (λ m h. (h.vote, (h.id, (h.previous, (h.last, h.outcome)))))

-- ---- replies to snapshots

abbrev IsNone : Option (LogId ℕ) → Type 0
IsNone last = is_none last ≡ true

none_takes : (bytes : List ℕ) (x : Option (LogId ℕ) × List ℕ) → AreBytes bytes → none_at bytes ≡ Ok x → Takes bytes (spelled_last x.0) x.1 × IsNone x.0
unfolding none_at
none_takes [] x fits e = absurd cc
none_takes (zero ∷ bytes) x fits e =
    subst (λ (y : Option (LogId ℕ) × List ℕ). Takes (0 ∷ bytes) (spelled_last y.0) y.1 × IsNone y.0) (ok_is (None, bytes) x e) (record { parts = refl; rest_fits = AreBytes-rest 0 bytes fits }, refl)
none_takes (suc b ∷ bytes) x fits e = absurd cc

none_again : (last : Option (LogId ℕ)) (rest : List ℕ) → IsNone last → none_at (spelled_last last ++ rest) ≡ Ok (last, rest)
unfolding none_at
none_again None rest h = refl
none_again (Some id) rest h = absurd cc

none_reads : Reads none_at spelled_last IsNone
none_reads = record {
  takes = λ bytes last rest fits e. none_takes bytes (last, rest) fits e;
  again = λ last rest h. none_again last rest h;
}

none_fits : (last : Option (LogId ℕ)) → IsNone last → FitsLast last
none_fits None h = tt
none_fits (Some id) h = absurd cc

all_three : (a b c : Bool) → a ≡ true → b ≡ true → c ≡ true → (a && b && c) ≡ true
all_three true true c p q r = r
all_three true false c p q r = absurd cc
all_three false b c p q r = absurd cc

abbrev IsNoConflict : AppendEntriesResponse ℕ → Type 0
IsNoConflict outcome = not (is_conflict outcome) ≡ true

abbrev HasNumber : RequestId → Type 0
HasNumber id = has_number id ≡ true

numbered_reads : Reads numbered_at spelled_id (λ id. FitsId id × HasNumber id)
unfolding numbered_at
numbered_reads = tested_reads fault.BadTag has_number id_at spelled_id FitsId id_reads

snapshot_result_reads : Reads snapshot_result_at spelled_result (λ r. FitsResult r × IsNoConflict r)
unfolding snapshot_result_at
snapshot_result_reads = tested_reads fault.BadTag (λ r. not (is_conflict r)) result_at spelled_result FitsResult result_reads

abbrev FitParts : ReplyFields → Type 0
FitParts m = FitsVote m.vote × ((FitsId m.id × HasNumber m.id) × (IsNone m.previous × (FitsLast m.last × (FitsResult m.outcome × IsNoConflict m.outcome))))

joined : (m : ReplyFields) → FitParts m → FitsSnapshotReply m
joined m h = record {
  reply = record { vote = h.0; id = h.1.0.0; previous = none_fits m.previous h.1.1.0; last = h.1.1.1.0; outcome = h.1.1.1.1.0 };
  of_snapshot = all_three (has_number m.id) (is_none m.previous) (not (is_conflict m.outcome)) h.1.0.1 h.1.1.0 h.1.1.1.1.1;
}

parted : (m : ReplyFields) → FitsSnapshotReply m → FitParts m
parted m h =
    let outer = and_parts (has_number m.id && is_none m.previous) (not (is_conflict m.outcome)) h.of_snapshot in
    let inner = and_parts (has_number m.id) (is_none m.previous) outer.0 in
    (h.reply.vote, ((h.reply.id, inner.0), (inner.1, (h.reply.last, (h.reply.outcome, outer.1)))))

pub snapshot_reply_reads : Reads snapshot_reply_at spelled_reply FitsSnapshotReply
unfolding snapshot_reply_at
snapshot_reply_reads =
    let fields = five_reads vote_at spelled_vote FitsVote numbered_at spelled_id (λ id. FitsId id × HasNumber id) none_at spelled_last IsNone last_at spelled_last FitsLast snapshot_result_at spelled_result (λ r. FitsResult r × IsNoConflict r) vote_reads numbered_reads none_reads last_reads snapshot_result_reads in
    let whole = made_reads reply_of (λ (m : ReplyFields). (m.vote, (m.id, (m.previous, (m.last, m.outcome))))) (both vote_at (both numbered_at (both none_at (both last_at snapshot_result_at))))
    (λ p. spelled_vote p.0 ++ spelled_id p.1.0 ++ spelled_last p.1.1.0 ++ spelled_last p.1.1.1.0 ++ spelled_result p.1.1.1.1)
    (λ p. FitsVote p.0 × ((FitsId p.1.0 × HasNumber p.1.0) × (IsNone p.1.1.0 × (FitsLast p.1.1.1.0 × (FitsResult p.1.1.1.1 × IsNoConflict p.1.1.1.1))))) (λ m. refl) (λ p. refl) fields in
    fits_as (made reply_of (both vote_at (both numbered_at (both none_at (both last_at snapshot_result_at))))) spelled_reply FitParts FitsSnapshotReply whole joined parted

-- ---- snapshots

three_reads : {A B C : Type 0} (a : Reader A) (sa : A → List ℕ) (FA : A → Type 0) (b : Reader B) (sb : B → List ℕ) (FB : B → Type 0) (c : Reader C) (sc : C → List ℕ) (FC : C → Type 0) → Reads a sa FA → Reads b sb FB → Reads c sc FC
    → Reads (both a (both b c)) (λ p. sa p.0 ++ sb p.1.0 ++ sc p.1.1) (λ p. FA p.0 × (FB p.1.0 × FC p.1.1))
three_reads a sa FA b sb FB c sc FC ra rb rc =
    let bc = both_reads b sb FB c sc FC rb rc in
    let abc = both_reads a sa FA (both b c) (λ p. sb p.0 ++ sc p.1) (λ p. FB p.0 × FC p.1) ra bc in
    spelled_as (both a (both b c)) (λ p. sa p.0 ++ (sb p.1.0 ++ sc p.1.1)) (λ p. sa p.0 ++ sb p.1.0 ++ sc p.1.1) (λ p. FA p.0 × (FB p.1.0 × FC p.1.1)) abc (λ p. sym (append_assoc (sa p.0) (sb p.1.0) (sc p.1.1)))

logged_reads : Reads logged_at spelled_logged FitsLogged
unfolding logged_at
logged_reads =
    let fields = both_reads log_id_at spelled_log_id FitsLogId membership_at spelled_membership FitsMembership log_id_reads membership_reads in
    let whole = made_reads logged_of (λ (m : LoggedMembership). (m.log_id, m.membership)) (both log_id_at membership_at) (λ p. spelled_log_id p.0 ++ spelled_membership p.1) (λ p. FitsLogId p.0 × FitsMembership p.1) (λ m. refl) (λ p. refl) fields in
    fits_as (made logged_of (both log_id_at membership_at)) spelled_logged (λ (m : LoggedMembership). FitsLogId m.log_id × FitsMembership m.membership) FitsLogged whole (λ m h. record { log_id = h.0; membership = h.1 }) (λ m h. (h.log_id, h.membership))

pub snapshot_reads : Reads snapshot_at spelled_snapshot FitsSnapshot
unfolding snapshot_at
snapshot_reads =
    let fields = three_reads log_id_at spelled_log_id FitsLogId (option_at logged_at) (spelled_option spelled_logged) (λ o. IfSome o FitsLogged) (text_at 16777216) spelled_text (λ t. length t ≤ 16777216) log_id_reads (option_reads logged_at spelled_logged FitsLogged logged_reads) (text_reads 16777216 (omega arith)) in
    let whole = made_reads snapshot_of (λ (s : SnapshotBytes). (s.meta.last_log_id, (s.meta.last_membership, s.bytes))) (both log_id_at (both (option_at logged_at) (text_at 16777216))) (λ p. spelled_log_id p.0 ++ spelled_option spelled_logged p.1.0 ++ spelled_text p.1.1)
    (λ p. FitsLogId p.0 × (IfSome p.1.0 FitsLogged × (length p.1.1 ≤ 16777216))) (λ s. refl) (λ p. refl) fields in
    fits_as (made snapshot_of (both log_id_at (both (option_at logged_at) (text_at 16777216)))) spelled_snapshot (λ (s : SnapshotBytes). FitsLogId s.meta.last_log_id × (IfSome s.meta.last_membership FitsLogged × (length s.bytes ≤ 16777216))) FitsSnapshot whole
    (λ s h. record { last = h.0; membership = h.1.0; bytes = h.1.1 }) (λ s h. (h.last, (h.membership, h.bytes)))

pub sent_reads : Reads sent_at spelled_sent FitsSent
unfolding sent_at
sent_reads =
    let fields = three_reads vote_at spelled_vote FitsVote number_of_request_at spelled_number (λ n. n < 2 ^ 64) snapshot_at spelled_snapshot FitsSnapshot vote_reads number_of_request_reads snapshot_reads in
    let whole = made_reads sent_of (λ (s : SentSnapshot). (s.vote, (s.number, s.snapshot))) (both vote_at (both number_of_request_at snapshot_at)) (λ p. spelled_vote p.0 ++ spelled_number p.1.0 ++ spelled_snapshot p.1.1)
    (λ p. FitsVote p.0 × ((p.1.0 < 2 ^ 64) × FitsSnapshot p.1.1)) (λ s. refl) (λ p. refl) fields in
    fits_as (made sent_of (both vote_at (both number_of_request_at snapshot_at))) spelled_sent (λ (s : SentSnapshot). FitsVote s.vote × ((s.number < 2 ^ 64) × FitsSnapshot s.snapshot)) FitsSent whole
    (λ s h. record { vote = h.0; number = h.1.0; snapshot = h.1.1 }) (λ s h. (h.vote, (h.number, h.snapshot)))
