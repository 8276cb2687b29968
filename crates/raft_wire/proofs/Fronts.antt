-- What stands at the front of a stream, and the spelling of frames.
use Rattle.std.proofs.Common.{◌≡◌, ℕ, ◌+◌, ◌≤◌, Bool, true, false, not, cond, ltb, nat_le, List, [], ◌∷◌, ◌++◌, length, take, drop, Option, Some, None, Result, Ok, Err, refl, sym, ap, ◌∙◌, append_assoc, arith, length-append}
use Rattle.std.specs.Prelude.{IfSome}
use Rattle.std.specs.List.{list_all}
use Rattle.std.specs.Int.{w32, from_be_bytes, to_be_bytes}
use Rattle.std.proofs.lemmas.Bool.{ltb-false, le-ltb, le-leb, and_from}
use Rattle.std.proofs.lemmas.List.{take_at, drop_at, length-take-le}
use Rattle.std.proofs.Math.Seq.{take-add}
use Rattle.std.proofs.lemmas.List.{length-drop}
use Rattle.raft_state.specs.declared.entry.EntryPayload.TheVariants.{Blank, Normal, Membership as Members}
use Rattle.raft_group_step.specs.Values.{Membership, Entry, EntryPayload, LoggedMembership, is_within_limits}
use Rattle.raft_messages.specs.declared.message.MessageBody.TheVariants as body
use Rattle.raft_wire.specs.declared.error.FrameFault.{FrameFault}
use Rattle.raft_wire.specs.declared.error.FrameFault.TheVariants as fault
use Rattle.raft_wire.specs.declared.frame.Frame.{Frame}
use Rattle.raft_wire.specs.Reader.{all_of}
use Rattle.raft_wire.specs.Memberships.{Chained, FitsIds, nothing_left, FitsNode, that_node, FitsMembership}
use Rattle.raft_wire.specs.Entries.{FitsPayload, that_place}
use Rattle.raft_group_step.specs.Refusal.{is_payload_short}
use Rattle.raft_messages.specs.declared.message.ReplyFields.{ReplyFields}
use Rattle.raft_group_step.specs.declared.append_entries.AppendEntriesResponse.{AppendEntriesResponse}
use Rattle.raft_group_step.specs.declared.append_entries.AppendEntriesResponse.TheVariants.{Success, PartialSuccess, Conflict, HigherVote}
use Rattle.raft_wire.specs.Bodies.{FitsBehind, FitsLogged, FitsReply, FitsResult, is_of_snapshot, is_spelled}
use Rattle.raft_wire.specs.Frames.{Body, spelled_parties, spelled_body, spelled_rest, spelled_frame, rest_at, FitsBody, FitsFrame, are_consecutive, are_entries_short, is_logged_short, is_snapshot_short, fault_of_frame, fault_of_reply}
use Rattle.raft_wire.specs.Stream.{Judged, length_in, fault_of_length, judged_frame, judged_length, judged, front}
use Rattle.raft_bytes.specs.Bytes.{AreBytes}
use Rattle.raft_bytes.proofs.Bytes.{AreBytes-take, AreBytes-drop}
use Rattle.raft_bytes.proofs.Numbers.{wide32}
use Rattle.raft_wire.proofs.Whole.{whole_takes, whole_again}
use Rattle.raft_wire.proofs.Framed.{rest_reads}
use Rattle.raft_wire.proofs.Lengths.{rest_short}
use Rattle.raft_wire.proofs.Streams.{has_length, front_frame}

-- ---- a value that fits is within its limits

chain_passes : {A : Type 0} (Is : Option ℕ → A → Type 0) (left : A → Option ℕ) (test : A → Bool) → ((last : Option ℕ) (a : A) → Is last a → test a ≡ true) → (last : Option ℕ) (xs : List A) → Chained Is left last xs → list_all test xs ≡ true
chain_passes Is left test each last [] h = refl
chain_passes Is left test each last (x ∷ xs) h = and_from (test x) (list_all test xs) (each last x h.0) (chain_passes Is left test each (left x) xs h.1)

membership_within : (m : Membership) → FitsMembership m → is_within_limits m ≡ true
membership_within m h =
    let groups = chain_passes (λ _ ids. FitsIds ids) nothing_left (λ (group : List ℕ). nat_le (length group) 64) (λ last ids fits. le-leb _ _ fits.0) None m.configs h.groups in
    let nodes = chain_passes FitsNode that_node (λ (x : ℕ × List ℕ). nat_le (length x.1) 255) (λ last node fits. le-leb _ _ (omega (arith, fits.1.length))) None m.nodes h.nodes in
    and_from _ _ (and_from _ _ (and_from _ _ (le-leb _ _ h.group_count) groups) (le-leb _ _ h.node_count)) nodes

payload_within : (payload : EntryPayload) → FitsPayload payload → is_payload_short payload ≡ true
payload_within Blank h = refl
payload_within (Normal command) h = le-leb _ _ h
payload_within (Members m) h = membership_within m h

consecutive : (last : Option ℕ) (es : List Entry) → Chained FitsBehind that_place last es → are_consecutive last es ≡ true
consecutive last [] h = refl
consecutive last (e ∷ es) h = and_from _ _ h.0.1 (consecutive (Some e.log_id.index) es h.1)

logged_within : (m : Option LoggedMembership) → IfSome m FitsLogged → is_logged_short m ≡ true
logged_within None h = refl
logged_within (Some m) h = membership_within m.membership h.membership

nothing_wrong : (short rising : Bool) → short ≡ true → rising ≡ true → cond (not short) (Some fault.TooLong) (cond (not rising) (Some fault.NotRising) None) ≡ None
nothing_wrong true true p q = refl
nothing_wrong true false p q = absurd cc
nothing_wrong false rising p q = absurd cc

nothing_long : (short : Bool) → short ≡ true → cond short None (Some fault.TooLong) ≡ None
nothing_long true p = refl
nothing_long false p = absurd cc

no_fault_of_tags : (of_snapshot : Bool) → of_snapshot ≡ true → cond of_snapshot None (Some fault.BadTag) ≡ None
no_fault_of_tags true p = refl
no_fault_of_tags false p = absurd cc

result_spelled : (r : AppendEntriesResponse ℕ) → FitsResult r → is_spelled r ≡ true
result_spelled Success h = refl
result_spelled (PartialSuccess last) h = absurd h
result_spelled Conflict h = refl
result_spelled (HigherVote vote) h = refl

no_fault_of_reply : (m : ReplyFields) → FitsReply m → fault_of_reply m ≡ None
no_fault_of_reply m h = no_fault_of_tags (is_spelled m.outcome) (result_spelled m.outcome h.outcome)

no_fault_of_snapshot_reply : (m : ReplyFields) (of_snapshot : Bool) → of_snapshot ≡ true → FitsReply m → cond of_snapshot (fault_of_reply m) (Some fault.BadTag) ≡ None
no_fault_of_snapshot_reply m true p h = no_fault_of_reply m h
no_fault_of_snapshot_reply m false p h = absurd cc

pub fits_within : (b : Body) → FitsBody b → fault_of_frame b ≡ None
fits_within (body.VoteRequest r) h = refl
fits_within (body.VoteReply r) h = refl
fits_within (body.AppendRequest m) h =
    let es = m.entries in
    let payloads = chain_passes FitsBehind that_place (λ (e : Entry). is_payload_short e.payload) (λ last e fits. payload_within e.payload fits.0.payload) None es h.entries in
    nothing_wrong (are_entries_short es) (are_consecutive None es) (and_from _ _ (le-leb _ _ h.count) payloads) (consecutive None es h.entries)
fits_within (body.AppendReply m) h = no_fault_of_reply m h
fits_within (body.SnapshotRequest vote id s) h =
    let m = s.meta.last_membership in
    nothing_long (is_snapshot_short m s.bytes) (and_from _ _ (logged_within m h.snapshot.membership) (le-leb _ _ h.snapshot.bytes))
fits_within (body.SnapshotReply m) h = no_fault_of_snapshot_reply m (is_of_snapshot m) h.of_snapshot h.reply

-- ---- a frame at the front

is_right : (n : ℕ) → 25 ≤ n → n ≤ 17825788 → fault_of_length n ≡ None
is_right n a b =
    let x : ltb n 25 ≡ false = le-ltb _ _ a in
    let y : ltb 17825788 n ≡ false = le-ltb _ _ b in
    rw (x, y) refl

abbrev pub some_judged : Result Frame FrameFault → ℕ → Option Judged
some_judged r i = Some (r, i)

as_judged : (r t : Result Frame FrameFault) (i j : ℕ) → r ≡ t → i ≡ j → some_judged r i ≡ some_judged t j
as_judged r t i j p q = cc

pub front_again : (f : Frame) (rest : List ℕ) → FitsFrame f → front (spelled_frame f ++ rest) ≡ Some (Ok f, length (spelled_frame f))
front_again f rest h =
    let n = length (spelled_rest f) in
    let s = spelled_frame f ++ rest in
    let short : n ≤ 17825788 = rest_short f (fits_within f.message.body h.body) in
    let some : 25 ≤ n = omega (arith, length-append (spelled_parties f) (spelled_body f.message.body)) in
    let regrouped : s ≡ to_be_bytes w32 n ++ (spelled_rest f ++ rest) = append_assoc (to_be_bytes w32 n) (spelled_rest f) rest in
    let size : length (spelled_frame f) ≡ n + 4 = omega (arith, length-append (to_be_bytes w32 n) (spelled_rest f)) in
    let long : n + 4 ≤ length s = omega (arith, length-append (spelled_frame f) rest) in
    let enough : ltb (length s) 4 ≡ false = le-ltb _ _ (omega arith) in
    let there : take 4 s ≡ to_be_bytes w32 n = ap (take 4) regrouped ∙ take_at (to_be_bytes w32 n) (spelled_rest f ++ rest) 4 refl in
    let number : from_be_bytes w32 (take 4 s) ≡ n = ap (from_be_bytes w32) there ∙ wide32.again n (omega arith) in
    let len : length_in s ≡ Some n = rw (enough, number) refl in
    let right : fault_of_length n ≡ None = is_right n some short in
    let behind : take n (drop 4 s) ≡ spelled_rest f = ap (λ (l : List ℕ). take n (drop 4 l)) regrouped ∙ ap (take n) (drop_at (to_be_bytes w32 n) (spelled_rest f ++ rest) 4 refl) ∙ take_at (spelled_rest f) rest n refl in
    let read : all_of rest_at (take n (drop 4 s)) ≡ Ok f = ap (all_of rest_at) behind ∙ whole_again rest_at spelled_rest FitsFrame rest_reads f h in
    front_frame s n len right long ∙ as_judged (all_of rest_at (take n (drop 4 s))) (Ok f) (n + 4) (length (spelled_frame f)) read (sym size)

-- ---- what stands at the front was spelled so

pub length_found : (s : List ℕ) (l : Option ℕ) (j : Judged) → length_in s ≡ l → judged s l ≡ Some j → (n : ℕ) × (length_in s ≡ Some n) × (judged_length s n (fault_of_length n) ≡ Some j)
length_found s None j e h = absurd cc
length_found s (Some n) j e h = (n, e, h)

abbrev pub refused_by : FrameFault → Result Frame FrameFault
refused_by why = Err why

abbrev pub found_as : Frame → Result Frame FrameFault
found_as f = Ok f

abbrev one_judged : Judged → Option Judged
one_judged j = Some j

pub same_judged : (i j : Judged) → one_judged i ≡ one_judged j → i ≡ j
same_judged i j e = cc

pub not_refused : (why : FrameFault) (f : Frame) → refused_by why ≡ found_as f → ⊥
not_refused why f e = absurd cc

frame_judged : (s : List ℕ) (n : ℕ) (why : Option FrameFault) (f : Frame) (t : ℕ) → judged_length s n why ≡ Some (Ok f, t) → judged_frame s n ≡ Some (Ok f, t)
frame_judged s n (Some why) f t h = absurd (not_refused why f (ap (λ (j : Judged). j.0) (same_judged (Err why, 4) (Ok f, t) h)))
frame_judged s n None f t h = h

frame_whole : (b : Bool) (r : Result Frame FrameFault) (k : ℕ) (f : Frame) (t : ℕ) → cond b None (some_judged r k) ≡ Some (Ok f, t) → (b ≡ false) × (r ≡ Ok f) × (k ≡ t)
frame_whole true r k f t h = absurd cc
frame_whole false r k f t h =
    let same = same_judged (r, k) (Ok f, t) h in
    (refl, ap (λ (j : Judged). j.0) same, ap (λ (j : Judged). j.1) same)

length_spelled : (s : List ℕ) (n : ℕ) → AreBytes s → length_in s ≡ Some n → take 4 s ≡ to_be_bytes w32 n
length_spelled s n fits h =
    let some = has_length s n h in
    let there : ltb (length s) 4 ≡ false = le-ltb _ _ some in
    let is : Some (from_be_bytes w32 (take 4 s)) ≡ Some n = sym (in_four there) ∙ h in
    let number : from_be_bytes w32 (take 4 s) ≡ n = cc in
    sym (wide32.back (take 4 s) (length-take-le 4 s some) (AreBytes-take 4 s fits)) ∙ ap (to_be_bytes w32) number
  where
    in_four : ltb (length s) 4 ≡ false → length_in s ≡ Some (from_be_bytes w32 (take 4 s))
    in_four t = rw t refl

pub front_found : (s : List ℕ) (f : Frame) (t : ℕ) → AreBytes s → front s ≡ Some (Ok f, t) → FitsFrame f × (take t s ≡ spelled_frame f)
unfolding front
front_found s f t fits h =
    let l = length_found s (length_in s) (Ok f, t) refl h in
    let j = frame_judged s l.0 (fault_of_length l.0) f t l.2 in
    let w = frame_whole (ltb (length s) (l.0 + 4)) (all_of rest_at (take l.0 (drop 4 s))) (l.0 + 4) f t j in
    let long : l.0 + 4 ≤ length s = ltb-false _ _ w.0 in
    let read = whole_takes rest_at spelled_rest FitsFrame rest_reads (take l.0 (drop 4 s)) f (AreBytes-take l.0 (drop 4 s) (AreBytes-drop 4 s fits)) w.1 in
    let size : length (take l.0 (drop 4 s)) ≡ l.0 = length-take-le l.0 (drop 4 s) (omega (arith, length-drop 4 s)) in
    let n_is : l.0 ≡ length (spelled_rest f) = sym size ∙ ap length read.1 in
    let four : take 4 s ≡ to_be_bytes w32 (length (spelled_rest f)) = length_spelled s l.0 fits l.1 ∙ ap (to_be_bytes w32) n_is in
    let count : t ≡ 4 + l.0 = omega (arith, w.2) in
    (read.0, ap (λ (k : ℕ). take k s) count ∙ take-add 4 l.0 s ∙ ap (λ (x : List ℕ). x ++ take l.0 (drop 4 s)) four ∙ ap (λ (x : List ℕ). to_be_bytes w32 (length (spelled_rest f)) ++ x) read.1)
