-- The reader of frames fits their spelling, and no spelling begins another.
use Rattle.std.proofs.Common.{◌≡◌, ℕ, zero, suc, ◌^◌, List, [], ◌∷◌, ◌++◌, Ok, refl, sym, ap, subst, ◌∙◌}
use Rattle.std.specs.Int.{w64, to_be_bytes}
use Rattle.raft_messages.specs.declared.message.MessageBody.TheVariants as body
use Rattle.raft_wire.specs.declared.frame.FrameKind.{FrameKind}
use Rattle.raft_wire.specs.declared.frame.FrameKind.TheVariants as kind
use Rattle.raft_wire.specs.declared.frame.Frame.{Frame}
use Rattle.raft_wire.specs.declared.error.FrameFault.TheVariants as fault
use Rattle.raft_wire.specs.Reader.{Reader, ◌>>=◌, made, number_at}
use Rattle.raft_wire.specs.Bodies.{spelled_vote_request, FitsVoteRequest, vote_request_at, spelled_vote_reply, FitsVoteReply, vote_reply_at, spelled_append, FitsAppend, append_at, spelled_reply, FitsReply, reply_at, sent, spelled_sent, FitsSent, sent_at, FitsSnapshotReply, snapshot_reply_at}
use Rattle.raft_wire.specs.Frames.{byte_of_kind, kind_at, Body, kind_of, spelled_body, FitsBody, asks, answers_vote, appends, answers_append, sends_snapshot, answers_snapshot, body_at, spelled_rest, frame_of, rest_at, FitsFrame}
use Rattle.raft_bytes.specs.Bytes.{AreBytes}
use Rattle.raft_bytes.proofs.Bytes.{AreBytes-rest, bind_ok, ok_is, Takes, Takes-then}
use Rattle.raft_bytes.proofs.Numbers.{number_again, number_takes, wide64}
use Rattle.raft_wire.proofs.Fitting.{Reads}
use Rattle.raft_wire.proofs.Bodies.{vote_request_reads, vote_reply_reads, append_reads, reply_reads, sent_reads, snapshot_reply_reads}

-- ---- kinds

kind_takes : (bytes : List ℕ) (x : FrameKind × List ℕ) → AreBytes bytes → kind_at bytes ≡ Ok x → Takes bytes (byte_of_kind x.0 ∷ []) x.1
unfolding kind_at
kind_takes [] x fits e = absurd cc
kind_takes (zero ∷ bytes) x fits e = absurd cc
kind_takes (suc zero ∷ bytes) x fits e = subst (λ (y : FrameKind × List ℕ). Takes (1 ∷ bytes) (byte_of_kind y.0 ∷ []) y.1) (ok_is (kind.VoteRequest, bytes) x e) (record { parts = refl; rest_fits = AreBytes-rest 1 bytes fits })
kind_takes (suc (suc zero) ∷ bytes) x fits e = subst (λ (y : FrameKind × List ℕ). Takes (2 ∷ bytes) (byte_of_kind y.0 ∷ []) y.1) (ok_is (kind.VoteReply, bytes) x e) (record { parts = refl; rest_fits = AreBytes-rest 2 bytes fits })
kind_takes (suc (suc (suc zero)) ∷ bytes) x fits e = subst (λ (y : FrameKind × List ℕ). Takes (3 ∷ bytes) (byte_of_kind y.0 ∷ []) y.1) (ok_is (kind.Append, bytes) x e) (record { parts = refl; rest_fits = AreBytes-rest 3 bytes fits })
kind_takes (suc (suc (suc (suc zero))) ∷ bytes) x fits e = subst (λ (y : FrameKind × List ℕ). Takes (4 ∷ bytes) (byte_of_kind y.0 ∷ []) y.1) (ok_is (kind.AppendReply, bytes) x e) (record { parts = refl; rest_fits = AreBytes-rest 4 bytes fits })
kind_takes (suc (suc (suc (suc (suc zero)))) ∷ bytes) x fits e = subst (λ (y : FrameKind × List ℕ). Takes (5 ∷ bytes) (byte_of_kind y.0 ∷ []) y.1) (ok_is (kind.Snapshot, bytes) x e) (record { parts = refl; rest_fits = AreBytes-rest 5 bytes fits })
kind_takes (suc (suc (suc (suc (suc (suc zero))))) ∷ bytes) x fits e = subst (λ (y : FrameKind × List ℕ). Takes (6 ∷ bytes) (byte_of_kind y.0 ∷ []) y.1) (ok_is (kind.SnapshotReply, bytes) x e) (record { parts = refl; rest_fits = AreBytes-rest 6 bytes fits })
kind_takes (suc (suc (suc (suc (suc (suc (suc n)))))) ∷ bytes) x fits e = absurd cc

kind_again : (k : FrameKind) (rest : List ℕ) → kind_at (byte_of_kind k ∷ rest) ≡ Ok (k, rest)
unfolding kind_at
kind_again kind.VoteRequest rest = refl
kind_again kind.VoteReply rest = refl
kind_again kind.Append rest = refl
kind_again kind.AppendReply rest = refl
kind_again kind.Snapshot rest = refl
kind_again kind.SnapshotReply rest = refl

-- ---- bodies

abbrev IsBodyOf : FrameKind → Body → Type 0
IsBodyOf k b = FitsBody b × (kind_of b ≡ k)

abbrev TakesBody : FrameKind → List ℕ → Body × List ℕ → Type 0
TakesBody k bytes y = Takes bytes (spelled_body y.0) y.1 × IsBodyOf k y.0

module _ {A : Type 0} (k : FrameKind) (make : A → Body) (reader : Reader A) (spelled : A → List ℕ) (F : A → Type 0) (r : Reads reader spelled F) where
  kind_takes_body : ((a : A) → spelled_body (make a) ≡ spelled a) → ((a : A) → F a → IsBodyOf k (make a)) → (bytes : List ℕ) (x : Body × List ℕ) → AreBytes bytes → made make reader bytes ≡ Ok x → TakesBody k bytes x
  kind_takes_body same is bytes x fits e =
      let a = bind_ok (reader bytes) (λ a. Ok (make a.0, a.1)) x e in
      let t = r.takes bytes a.0.0 a.0.1 fits a.1 in
      let made_of : Body × List ℕ = (make a.0.0, a.0.1) in
      subst (λ (y : Body × List ℕ). TakesBody k bytes y) (ok_is made_of x a.2) (subst (λ (l : List ℕ). Takes bytes l a.0.1) (sym (same a.0.0)) t.0, is a.0.0 t.1)

body_takes : (k : FrameKind) (bytes : List ℕ) (x : Body × List ℕ) → AreBytes bytes → body_at k bytes ≡ Ok x → TakesBody k bytes x
unfolding body_at
body_takes kind.VoteRequest bytes x fits e = kind_takes_body kind.VoteRequest asks vote_request_at spelled_vote_request FitsVoteRequest vote_request_reads (λ a. refl) (λ a h. (h, refl)) bytes x fits e
body_takes kind.VoteReply bytes x fits e = kind_takes_body kind.VoteReply answers_vote vote_reply_at spelled_vote_reply FitsVoteReply vote_reply_reads (λ a. refl) (λ a h. (h, refl)) bytes x fits e
body_takes kind.Append bytes x fits e = kind_takes_body kind.Append appends append_at spelled_append FitsAppend append_reads (λ a. refl) (λ a h. (h, refl)) bytes x fits e
body_takes kind.AppendReply bytes x fits e = kind_takes_body kind.AppendReply answers_append reply_at spelled_reply FitsReply reply_reads (λ a. refl) (λ a h. (h, refl)) bytes x fits e
body_takes kind.Snapshot bytes x fits e = kind_takes_body kind.Snapshot sends_snapshot sent_at spelled_sent FitsSent sent_reads (λ a. refl) (λ a h. (h, refl)) bytes x fits e
body_takes kind.SnapshotReply bytes x fits e = kind_takes_body kind.SnapshotReply answers_snapshot snapshot_reply_at spelled_reply FitsSnapshotReply snapshot_reply_reads (λ a. refl) (λ a h. (h, refl)) bytes x fits e

body_again : (b : Body) (rest : List ℕ) → FitsBody b → body_at (kind_of b) (spelled_body b ++ rest) ≡ Ok (b, rest)
unfolding body_at
body_again (body.VoteRequest r) rest h = rw (vote_request_reads.again r rest h) refl
body_again (body.VoteReply r) rest h = rw (vote_reply_reads.again r rest h) refl
body_again (body.AppendRequest m) rest h = rw (append_reads.again m rest h) refl
body_again (body.AppendReply m) rest h = rw (reply_reads.again m rest h) refl
body_again (body.SnapshotRequest vote id s) rest h = rw (sent_reads.again (sent vote id s) rest h) refl
body_again (body.SnapshotReply m) rest h = rw (snapshot_reply_reads.again m rest h) refl

-- ---- frames behind their length

rest_takes : (bytes : List ℕ) (x : Frame × List ℕ) → AreBytes bytes → rest_at bytes ≡ Ok x → Takes bytes (spelled_rest x.0) x.1 × FitsFrame x.0
unfolding rest_at
rest_takes bytes x fits e =
    let k = bind_ok (kind_at bytes) (λ k. number_at w64 k.1 >>= λ g. number_at w64 g.1 >>= λ s. number_at w64 s.1 >>= λ a. body_at k.0 a.1 >>= λ b. Ok (frame_of g.0 s.0 a.0 b.0, b.1)) x e in
    let g = bind_ok (number_at w64 k.0.1) (λ g. number_at w64 g.1 >>= λ s. number_at w64 s.1 >>= λ a. body_at k.0.0 a.1 >>= λ b. Ok (frame_of g.0 s.0 a.0 b.0, b.1)) x k.2 in
    let s = bind_ok (number_at w64 g.0.1) (λ s. number_at w64 s.1 >>= λ a. body_at k.0.0 a.1 >>= λ b. Ok (frame_of g.0.0 s.0 a.0 b.0, b.1)) x g.2 in
    let a = bind_ok (number_at w64 s.0.1) (λ a. body_at k.0.0 a.1 >>= λ b. Ok (frame_of g.0.0 s.0.0 a.0 b.0, b.1)) x s.2 in
    let b = bind_ok (body_at k.0.0 a.0.1) (λ b. Ok (frame_of g.0.0 s.0.0 a.0.0 b.0, b.1)) x a.2 in
    let tk = kind_takes bytes k.0 fits k.1 in
    let tg = number_takes fault.CutShort w64 (2 ^ 64) wide64 k.0.1 g.0.0 g.0.1 tk.rest_fits g.1 in
    let ts = number_takes fault.CutShort w64 (2 ^ 64) wide64 g.0.1 s.0.0 s.0.1 tg.0.rest_fits s.1 in
    let ta = number_takes fault.CutShort w64 (2 ^ 64) wide64 s.0.1 a.0.0 a.0.1 ts.0.rest_fits a.1 in
    let tb = body_takes k.0.0 a.0.1 b.0 ta.0.rest_fits b.1 in
    let sa = Takes-then g.0.1 (to_be_bytes w64 s.0.0) s.0.1 (to_be_bytes w64 a.0.0) a.0.1 ts.0 ta.0 in
    let parties = Takes-then k.0.1 (to_be_bytes w64 g.0.0) g.0.1 (to_be_bytes w64 s.0.0 ++ to_be_bytes w64 a.0.0) a.0.1 tg.0 sa in
    let behind = Takes-then k.0.1 (to_be_bytes w64 g.0.0 ++ (to_be_bytes w64 s.0.0 ++ to_be_bytes w64 a.0.0)) a.0.1 (spelled_body b.0.0) b.0.1 parties tb.0 in
    let whole = Takes-then bytes (byte_of_kind k.0.0 ∷ []) k.0.1 ((to_be_bytes w64 g.0.0 ++ (to_be_bytes w64 s.0.0 ++ to_be_bytes w64 a.0.0)) ++ spelled_body b.0.0) b.0.1 tk behind in
    let named = subst (λ (kd : FrameKind). Takes bytes (byte_of_kind kd ∷ ((to_be_bytes w64 g.0.0 ++ (to_be_bytes w64 s.0.0 ++ to_be_bytes w64 a.0.0)) ++ spelled_body b.0.0)) b.0.1) (sym tb.1.1) whole in
    let made_of : Frame × List ℕ = (frame_of g.0.0 s.0.0 a.0.0 b.0.0, b.0.1) in
    subst (λ (y : Frame × List ℕ). Takes bytes (spelled_rest y.0) y.1 × FitsFrame y.0) (ok_is made_of x b.2) (named, record { group = tg.1; sender = ts.1; addressee = ta.1; body = tb.1.0 })

rest_again : (f : Frame) (rest : List ℕ) → FitsFrame f → rest_at (spelled_rest f ++ rest) ≡ Ok (f, rest)
unfolding rest_at
rest_again f rest h =
    let b = spelled_body f.message.body ++ rest in
    let regrouped : spelled_rest f ++ rest ≡ byte_of_kind (kind_of f.message.body) ∷ (to_be_bytes w64 f.group ++ (to_be_bytes w64 f.message.sender ++ (to_be_bytes w64 f.message.addressee ++ b))) = refl in
    ap rest_at regrouped
    ∙ rw (
      kind_again (kind_of f.message.body) (to_be_bytes w64 f.group ++ (to_be_bytes w64 f.message.sender ++ (to_be_bytes w64 f.message.addressee ++ b))),
      number_again fault.CutShort w64 (2 ^ 64) wide64 f.group (to_be_bytes w64 f.message.sender ++ (to_be_bytes w64 f.message.addressee ++ b)) h.group,
      number_again fault.CutShort w64 (2 ^ 64) wide64 f.message.sender (to_be_bytes w64 f.message.addressee ++ b) h.sender,
      number_again fault.CutShort w64 (2 ^ 64) wide64 f.message.addressee b h.addressee,
      body_again f.message.body rest h.body,
    ) refl

pub rest_reads : Reads rest_at spelled_rest FitsFrame
rest_reads = record {
  takes = λ bytes f rest fits e. rest_takes bytes (f, rest) fits e;
  again = λ f rest h. rest_again f rest h;
}
