-- Pieces of a stream: what came of one frame, and of a whole piece.
use Rattle.std.proofs.Common.{◌≡◌, ◌<◌, ◌≤◌, ◌+◌, ◌++◌, ◌==◌, inl, inr, ℕ, zero, suc, Bool, true, false, List, [], ◌∷◌, drop, length, Option, Some, None, Result, Ok, Err, append_assoc, append-nil, length-append, refl, sym, ap, subst, ◌∙◌, arith}
use Rattle.std.specs.Prelude.{IfOk, IfSome}
use Rattle.std.specs.Ordering.{nat_cmp}
use Rattle.std.specs.BTreeMap.{get}
use Rattle.std.proofs.lemmas.Bool.Decides.{Decides-eqb}
use Rattle.std.proofs.lemmas.List.{drop-drop, drop_all}
use Rattle.raft_group_step.specs.GroupState.{Untold}
use Rattle.raft_group_step.specs.StoredGroup.{Snapshot, StoredGroup}
use Rattle.raft_group_storage.specs.Keeping.{Fails, KeepsAll}
use Rattle.raft_messages.specs.declared.memberships.SnapshotBytes.{SnapshotBytes}
use Rattle.raft_laws.proofs.BallotAgreement.{same_some}
use Rattle.raft_machines.specs.Machine.{MachineRules}
use Rattle.raft_machines.specs.declared.machine.StateMachine.{Ghosts}
use Rattle.raft_wire.specs.Frames.{FitsFrame, spelled_frame}
use Rattle.raft_wire.specs.Stream.{Answers, Feeding, IsSpelledSo, Judged, front, holding}
use Rattle.raft_wire.specs.declared.error.FrameError.{FrameError}
use Rattle.raft_wire.specs.declared.error.FrameFault.{FrameFault}
use Rattle.raft_wire.specs.declared.error.FrameError.TheVariants as frame_error
use Rattle.raft_wire.specs.declared.frame.Frame.{Frame}
use Rattle.raft_wire.proofs.AnyCutting.{front_taken}
use Rattle.raft_wire.proofs.Fronts.{front_again}
use Rattle.raft_wire.proofs.StreamProofs.{stays}
use Rattle.raft_node_faults.specs.declared.fault.Cause.{Cause}
use Rattle.raft_node_faults.specs.declared.fault.Cause.TheVariants as cause
use Rattle.raft_node_faults.specs.declared.fault.Fault.{Fault}
use Rattle.raft_node_faults.specs.declared.fault.Fault.TheVariants as fault
use Rattle.raft_node.specs.Ending.{FailsBy, NamesElse}
use Rattle.raft_node.specs.Feeding.{Comes, FeedsPart, FeedsTo, FeedsWhole, FrameCame, IsFrame, IsReadAs, IsRefusedStream, LeavesStream, StaysBut, StopsForRoom, TakesNext, TakesPiece, fed_as, so_far}
use Rattle.raft_node.specs.Running.{Running}
use Rattle.raft_node.specs.Settling.{IsStopFor, IsStoppedBy, IsTold, NamesAll}
use Rattle.raft_node.specs.Standing.{NodeValue, running_in, value_of}
use Rattle.raft_node.specs.declared.node.Node.{Node as ANode}
use Rattle.raft_node.specs.Waiting.{waiting_of}
use Rattle.raft_node.specs.declared.outcome.Outcome.{Outcome}

-- ---- the bytes of a frame

pub whole_found : (bytes : List ℕ) (frame : Frame) → FitsFrame frame → bytes ≡ spelled_frame frame → front bytes ≡ Some (Ok frame, length bytes)
whole_found bytes frame fits is =
    let found : front (spelled_frame frame) ≡ Some (Ok frame, length (spelled_frame frame)) = subst (λ l. front l ≡ Some (Ok frame, length (spelled_frame frame))) (append-nil (spelled_frame frame)) (front_again frame [] fits) in
    subst (λ l. front l ≡ Some (Ok frame, length l)) (sym is) found

-- before the last byte nothing is found
pub part_waits : (bytes more : List ℕ) (frame : Frame) → FitsFrame frame → 0 < length more → bytes ++ more ≡ spelled_frame frame → front bytes ≡ None
part_waits bytes more frame fits some is = go (front bytes) refl
  where
    go : (o : Option Judged) → front bytes ≡ o → front bytes ≡ None
    go None e = e
    go (Some j) e =
        let same : j ≡ (Ok frame, length (bytes ++ more)) = same_some (sym (stays bytes more j e) ∙ whole_found (bytes ++ more) frame fits is) in
        let within : j.1 ≤ length bytes = (front_taken bytes j.0 j.1 e).0 in
        let size : j.1 ≡ length (bytes ++ more) = ap (λ (x : Judged). x.1) same in
        absurd (omega (arith, length-append bytes more))

not_none : (j : Judged) → Some j ≡ None → ⊥
not_none j is = cc

-- a frame that wasn't whole took a byte
pub took_some : (held piece : List ℕ) (used : ℕ) (frame : Frame) → front held ≡ None → IsSpelledSo held piece used (Ok (Some frame)) → 0 < used
took_some held piece zero frame waits is =
    absurd (not_none _ (sym (whole_found held frame is.0 (sym (append-nil held) ∙ is.1)) ∙ waits))
took_some held piece (suc n) frame waits is = omega arith

-- ---- one frame

-- the node, with other streams
abbrev pub with_streams : NodeValue → (ℕ → Feeding) → NodeValue
with_streams n streams = record { groups = n.groups; running = n.running; streams = streams }

module _ {F : Type 0} where
  names_as : (a b : NodeValue) (group : ℕ) (result : Result Outcome (Fault F)) → a.running ≡ b.running → NamesElse b group result → NamesElse a group result
  names_as a b group (Ok o) same names = tt
  names_as a b group (Err (fault.Stopped why unknown)) same names = λ other apart. names other apart ∙ sym (ap (λ (r : ℕ → Option Running). waiting_of (r other)) same)
  names_as a b group (Err other) same names = tt

  -- a node whose streams alone are other ones takes a frame so
  pub fed_frame : (rules : MachineRules) (stands : SnapshotBytes → Snapshot → Type 0) (here same : Type 0) (old new : NodeValue) (streams : ℕ → Feeding) (peer : ℕ) (frame : Frame) (now : ℕ) (result : Result Outcome (Fault F)) → (here → same)
      → IsFrame rules stands here (with_streams old streams) new peer frame now result → IsFrame rules stands same (fed_as old new) new peer frame now result
  fed_frame rules stands here same old new streams peer frame now result back is = record {
    leads = λ right m says s going of at reached. is.leads right m says s going of (record { up = at.up; runs = at.runs }) reached;
    elsewhere = record {
      own = is.elsewhere.own;
      members = is.elsewhere.members;
      running = is.elsewhere.running;
      kept = is.elsewhere.kept;
      named = names_as (fed_as old new) (with_streams old streams) frame.group result refl is.elsewhere.named;
      streams = λ p. refl;
      fails = is.elsewhere.fails;
    };
    wrong = λ w. let x = is.wrong w in (x.0, back x.1);
    unknown = λ right going absent. let x = is.unknown right going absent in (x.0, back x.1);
  }

  -- and so it tells a fault
  back_names : (here same : Type 0) (running : ℕ → Option Running) (why : Fault F) → (here → same) → NamesAll here running why → NamesAll same running why
  back_names here same running (fault.Stopped met unknown) back names = names
  back_names here same running other back names = back names

  pub fed_told : (here same : Type 0) (old new : NodeValue) (streams : ℕ → Feeding) (why : Fault F) → (here → same) → IsTold here (with_streams old streams) new why → IsTold same (fed_as old new) new why
  fed_told here same old new streams why back told = record {
    own = told.own;
    members = told.members;
    well = told.well;
    kept = told.kept;
    failed = told.failed;
    streams = λ p. refl;
    fails = told.fails;
    names = back_names here same old.running why back told.names;
  }

-- where a node's streams alone changed, all else stays
pub same_but : {M S F : Type 0} {g : Ghosts M} (state : M → List ℕ) (is_well : S → Type 0) (shows : S → ℕ → List StoredGroup → Type 0) (fails : S → Fails) (peer : ℕ) (old mid new : ANode M S F g) → mid.groups ≡ old.groups → mid.machines ≡ old.machines → new ≡ mid
    → StaysBut (value_of state is_well shows fails old) (value_of state is_well shows fails new) peer
same_but state is_well shows fails peer old mid new groups machines is =
    let gr = ap (λ n. n.groups) is ∙ groups in
    let ma = ap (λ n. n.machines) is ∙ machines in
    record {
      own = ap (λ x. x.id) gr;
      has_failed = ap (λ x. x.has_failed) gr;
      members = λ group. ap (λ x. get nat_cmp x.members group) gr;
      well = λ w. subst (λ x. is_well x.storage) (sym gr) w;
      running = λ group. ap (λ m. running_in state m group) ma;
      kept = λ group parts shown. subst (λ x. shows x.storage group parts) (sym gr) shown;
    }

-- ---- what came of a piece

module _ (F : Type 0) (rules : MachineRules) (stands : SnapshotBytes → Snapshot → Type 0) (old new : NodeValue) (peer now : ℕ) (piece : List ℕ) where
  -- the piece was read from these streams, which were the node's, and left those, which are
  pub takes : (used : ℕ) (outcome : Result (Option Outcome) (Fault F)) (before behind : ℕ → Feeding) → ((p : ℕ) → before p ≡ old.streams p) → ((p : ℕ) → new.streams p ≡ behind p) → (read : Result (Option Frame) FrameError) → Answers (before peer) piece used read (behind peer)
      → IsSpelledSo (before peer).held piece used read → ((other : ℕ) → (other ≡ peer → ⊥) → behind other ≡ before other) → IsReadAs rules stands old new peer now read outcome → TakesPiece rules stands old new peer now piece used outcome
  takes used outcome before behind was is read answers spelled others comes = record {
    read = read;
    answers = subst (λ (f : Feeding). Answers (old.streams peer) piece used read f) (sym (is peer)) (subst (λ (f : Feeding). Answers f piece used read (behind peer)) (was peer) answers);
    spelled = subst (λ (f : Feeding). IsSpelledSo f.held piece used read) (was peer) spelled;
    others = λ other apart. is other ∙ others other apart ∙ was other;
    comes = comes;
  }

  -- ---- memory

  room_names : (same : Type 0) (running : ℕ → Option Running) (why : Fault F) → IsStoppedBy cause.Memory why → NamesAll same running why → NamesAll ⊥ running why
  room_names same running (fault.Stopped met unknown) by names = names
  room_names same running other by names = absurd by

  same_streams : (new.streams peer ≡ old.streams peer) → ((other : ℕ) → (other ≡ peer → ⊥) → new.streams other ≡ old.streams other) → (p : ℕ) → new.streams p ≡ old.streams p
  same_streams here others p = go (p == peer) (Decides-eqb p peer)
    where
      go : (b : Bool) → ((b ≡ true → p ≡ peer) × (p ≡ peer → b ≡ true)) → new.streams p ≡ old.streams p
      go true d = subst (λ x. new.streams x ≡ old.streams x) (sym (d.0 refl)) here
      go false d = others p (λ is. let no : false ≡ true = d.1 is in cc)

  -- memory was lacking as the piece was read
  pub lacks_memory : (used : ℕ) (why : Fault F) → Answers (old.streams peer) piece used (Err frame_error.Memory) (new.streams peer) → ((other : ℕ) → (other ≡ peer → ⊥) → new.streams other ≡ old.streams other)
      → IsRefusedStream rules stands old new peer now frame_error.Memory (Err why) → StopsForRoom rules stands old new peer now used why
  lacks_memory used why a others r =
      let told = r.1 in (
        a.1,
        r.0,
        record {
          own = told.own;
          members = told.members;
          well = told.well;
          kept = told.kept;
          failed = told.failed;
          streams = same_streams a.2 others;
          fails = told.fails;
          names = room_names (StaysBut old new peer) old.running why r.0 told.names;
        },
      )

  -- ---- a piece that ends with this frame

  module _ (frame : Frame) (size : ℕ) (found : front (so_far old peer piece) ≡ Some (Ok frame, size)) (whole : size ≡ length (old.streams peer).held + length piece) (some : 0 < length piece) (going : (old.streams peer).failed ≡ false) where
    read_so : (used : ℕ) (f : Frame) → front (so_far old peer piece) ≡ Some (Ok f, length (old.streams peer).held + used) → (used ≡ length piece) × (f ≡ frame)
    read_so used f is =
        let same : ◌≡◌ {A = Judged} (Ok f, length (old.streams peer).held + used) (Ok frame, size) = same_some (sym is ∙ found) in
        let at : length (old.streams peer).held + used ≡ size = ap (λ (x : Judged). x.1) same in
        let what : ◌≡◌ {A = Result Frame FrameFault} (Ok f) (Ok frame) = ap (λ (x : Judged). x.0) same in
        (omega arith, cc)

    never_waits : front (so_far old peer piece) ≡ None → ⊥
    never_waits is = not_none _ (sym found ∙ is)

    frame_of : (used : ℕ) (read : Result (Option Frame) FrameError) (o : Outcome) → Answers (old.streams peer) piece used read (new.streams peer) → ((other : ℕ) → (other ≡ peer → ⊥) → new.streams other ≡ old.streams other)
        → IsReadAs {F = F} rules stands old new peer now read (Ok (Some o)) → (used ≡ length piece) × FrameCame {F = F} rules stands old new peer now frame (Ok o)
    frame_of used (Ok None) o a others comes = absurd (let no : Ok (Some o) ≡ Ok None = comes.0 in cc)
    frame_of used (Ok (Some f)) o a others comes =
        let same = read_so used f a.1 in
        (same.0, ((a.3, others), subst (λ x. IsFrame {F = F} rules stands (StaysBut old new peer) (fed_as old new) new peer x now (Ok o)) same.1 comes))
    frame_of used (Err met) o a others comes = absurd comes

    pub came_whole : (used : ℕ) (o : Outcome) → TakesNext {F = F} rules stands old new peer now piece used (Ok (Some o)) → (used ≡ length piece) × FrameCame {F = F} rules stands old new peer now frame (Ok o)
    came_whole used o (inl t) = frame_of used t.read o t.answers t.others t.comes
    came_whole used o (inr lacks) = absurd lacks

    fault_of : (used : ℕ) (read : Result (Option Frame) FrameError) (why : Fault F) → Answers (old.streams peer) piece used read (new.streams peer) → ((other : ℕ) → (other ≡ peer → ⊥) → new.streams other ≡ old.streams other)
        → IsReadAs rules stands old new peer now read (Err why) → FeedsWhole rules stands old new peer now frame piece [] (Some why) used
    fault_of used (Ok None) why a others comes = absurd (let no : Err why ≡ Ok None = comes.0 in cc)
    fault_of used (Ok (Some f)) why a others comes =
        let same = read_so used f a.1 in
        inl (same.0, ((a.3, others), subst (λ x. IsFrame rules stands (StaysBut old new peer) (fed_as old new) new peer x now (Err why)) same.1 comes))
    fault_of used (Err (frame_error.Fault f)) why a others comes =
        absurd (let no : (Ok frame, size) ≡ (Err f, length (old.streams peer).held + used) = same_some (sym found ∙ a.1) in let two : Ok frame ≡ Err f = ap (λ (x : Judged). x.0) no in cc)
    fault_of used (Err frame_error.StreamFailed) why a others comes = absurd (let no : true ≡ false = sym a.0 ∙ going in cc)
    fault_of used (Err frame_error.Memory) why a others comes = inr (lacks_memory used why a others comes)

    pub fault_whole : (used : ℕ) (why : Fault F) → TakesNext rules stands old new peer now piece used (Err why) → FeedsWhole rules stands old new peer now frame piece [] (Some why) used
    fault_whole used why (inl t) = fault_of used t.read why t.answers t.others t.comes
    fault_whole used why (inr lacks) = inr lacks

    none_of : (used : ℕ) (read : Result (Option Frame) FrameError) → Answers (old.streams peer) piece used read (new.streams peer) → IsReadAs {F = F} rules stands old new peer now read (Ok None) → ⊥
    none_of used (Ok None) a comes = never_waits a.1
    none_of used (Ok (Some f)) a comes = comes
    none_of used (Err met) a comes = comes

    pub never_none : (used : ℕ) → TakesNext {F = F} rules stands old new peer now piece used (Ok None) → ⊥
    never_none used (inl t) = none_of used t.read t.answers t.comes
    never_none used (inr lacks) = lacks

  -- ---- a piece behind which no frame is whole

  module _ (waits : front (so_far old peer piece) ≡ None) (going : (old.streams peer).failed ≡ false) where
    never_found : (j : Judged) → front (so_far old peer piece) ≡ Some j → ⊥
    never_found j is = let no : None ≡ Some j = sym waits ∙ is in cc

    part_of : (used : ℕ) (read : Result (Option Frame) FrameError) → Answers (old.streams peer) piece used read (new.streams peer) → ((other : ℕ) → (other ≡ peer → ⊥) → new.streams other ≡ old.streams other)
        → IsReadAs {F = F} rules stands old new peer now read (Ok None) → FeedsPart {F = F} rules stands old new peer now piece [] None used
    part_of used (Ok None) a others comes = (a.2, (a.3, others), comes.1)
    part_of used (Ok (Some f)) a others comes = absurd comes
    part_of used (Err met) a others comes = absurd comes

    pub held_part : (used : ℕ) → TakesNext {F = F} rules stands old new peer now piece used (Ok None) → FeedsPart {F = F} rules stands old new peer now piece [] None used
    held_part used (inl t) = part_of used t.read t.answers t.others t.comes
    held_part used (inr lacks) = absurd lacks

    fault_in : (used : ℕ) (read : Result (Option Frame) FrameError) (why : Fault F) → Answers (old.streams peer) piece used read (new.streams peer) → ((other : ℕ) → (other ≡ peer → ⊥) → new.streams other ≡ old.streams other)
        → IsReadAs rules stands old new peer now read (Err why) → FeedsPart rules stands old new peer now piece [] (Some why) used
    fault_in used (Ok None) why a others comes = absurd (let no : Err why ≡ Ok None = comes.0 in cc)
    fault_in used (Ok (Some f)) why a others comes = absurd (never_found _ a.1)
    fault_in used (Err (frame_error.Fault f)) why a others comes = absurd (never_found _ a.1)
    fault_in used (Err frame_error.StreamFailed) why a others comes = absurd (let no : true ≡ false = sym a.0 ∙ going in cc)
    fault_in used (Err frame_error.Memory) why a others comes = lacks_memory used why a others comes

    pub fault_part : (used : ℕ) (why : Fault F) → TakesNext rules stands old new peer now piece used (Err why) → FeedsPart rules stands old new peer now piece [] (Some why) used
    fault_part used why (inl t) = fault_in used t.read why t.answers t.others t.comes
    fault_part used why (inr lacks) = lacks

    frame_in : (used : ℕ) (read : Result (Option Frame) FrameError) (o : Outcome) → Answers (old.streams peer) piece used read (new.streams peer) → IsReadAs {F = F} rules stands old new peer now read (Ok (Some o)) → ⊥
    frame_in used (Ok None) o a comes = let no : Ok (Some o) ≡ Ok None = comes.0 in cc
    frame_in used (Ok (Some f)) o a comes = never_found _ a.1
    frame_in used (Err met) o a comes = comes

    pub never_some : (used : ℕ) (o : Outcome) → TakesNext {F = F} rules stands old new peer now piece used (Ok (Some o)) → ⊥
    never_some used o (inl t) = frame_in used t.read o t.answers t.comes
    never_some used o (inr lacks) = lacks

-- ---- a whole piece

empty_left : (piece : List ℕ) (first : ℕ) → first ≡ length piece → 0 < length (drop first piece) → ⊥
empty_left piece first is some =
    let none : drop first piece ≡ [] = drop_all first piece (omega arith) in
    let size : length (drop first piece) ≡ 0 = ap length none in
    omega arith

pub stays_but : (n : NodeValue) (peer : ℕ) → StaysBut n n peer
stays_but n peer = record { own = refl; has_failed = refl; members = λ group. refl; well = λ w. w; running = λ group. refl; kept = λ group parts shown. shown }

holds_still : (n : NodeValue) (peer : ℕ) → (n.streams peer).failed ≡ false → n.streams peer ≡ holding (n.streams peer).held
holds_still n peer going = ap (λ b. record { held = (n.streams peer).held; failed = b }) going

module _ {M S F : Type 0} {g : Ghosts M} (state : M → List ℕ) (is_well : S → Type 0) (shows : S → ℕ → List StoredGroup → Type 0) (fails : S → Fails) (rules : MachineRules) (stands : SnapshotBytes → Snapshot → Type 0) (peer now : ℕ) where
  -- these outcomes came of the piece up to there, whatever comes of the rest
  unfoldable pub HasFed : List Outcome → ANode M S F g → ANode M S F g → List ℕ → ℕ → Type 0
  HasFed done old mid piece used =
      (os : List Outcome) (fault : Option (Fault F)) (new : ANode M S F g) (rest : ℕ) → FeedsTo {F = F} (value_of state is_well shows fails) rules stands peer now os fault mid new (drop used piece) rest
      → FeedsTo {F = F} (value_of state is_well shows fails) rules stands peer now (done ++ os) fault old new piece (used + rest)

  pub fed_none : (old : ANode M S F g) (piece : List ℕ) → HasFed [] old old piece 0
  unfolding HasFed
  fed_none old piece = λ os fault new rest h. subst (FeedsTo {F = F} (value_of state is_well shows fails) rules stands peer now os fault old new piece) (let is : rest ≡ 0 + rest = omega arith in is) h

  pub fed_more : (done : List Outcome) (old mid next : ANode M S F g) (piece : List ℕ) (used first : ℕ) (o : Outcome) → HasFed done old mid piece used → Comes {F = F} (value_of state is_well shows fails) rules stands peer now mid next (drop used piece) first (Ok (Some o))
      → HasFed (done ++ o ∷ []) old next piece (used + first)
  unfolding HasFed
  fed_more done old mid next piece used first o was step = λ os fault new rest h.
      let tail = subst (λ l. FeedsTo {F = F} (value_of state is_well shows fails) rules stands peer now os fault next new l rest) (sym (drop-drop first used piece)) h in
      let all = was (o ∷ os) fault new (first + rest) (next, first, rest, refl, step, tail) in
      subst (λ l. FeedsTo {F = F} (value_of state is_well shows fails) rules stands peer now l fault old new piece (used + first + rest)) (sym (append_assoc done (o ∷ []) os))
      (subst (FeedsTo {F = F} (value_of state is_well shows fails) rules stands peer now (done ++ (o ∷ os)) fault old new piece) (let is : used + (first + rest) ≡ used + first + rest = omega arith in is) all)

  -- the last of it
  pub fed_last : (done : List Outcome) (fault : Option (Fault F)) (old mid new : ANode M S F g) (piece : List ℕ) (used last : ℕ) → HasFed done old mid piece used → FeedsTo {F = F} (value_of state is_well shows fails) rules stands peer now [] fault mid new (drop used piece) last
      → FeedsTo {F = F} (value_of state is_well shows fails) rules stands peer now done fault old new piece (used + last)
  unfolding HasFed
  fed_last done fault old mid new piece used last was h = subst (λ l. FeedsTo {F = F} (value_of state is_well shows fails) rules stands peer now l fault old new piece (used + last)) (append-nil done) (was [] fault new last h)

  pub fed_all : (done : List Outcome) (old mid : ANode M S F g) (piece : List ℕ) (used : ℕ) → HasFed done old mid piece used → length piece ≤ used → FeedsTo {F = F} (value_of state is_well shows fails) rules stands peer now done None old mid piece used
  unfolding HasFed
  fed_all done old mid piece used was end =
      subst (FeedsTo {F = F} (value_of state is_well shows fails) rules stands peer now done None old mid piece) (let is : used + 0 ≡ used = omega arith in is) (fed_last done None old mid mid piece used 0 was (inl (drop_all used piece end, refl, refl)))

  -- ---- one frame of a whole piece

  module _ (old new : ANode M S F g) (piece : List ℕ) (frame : Frame) (fits : FitsFrame frame) (is : so_far (value_of state is_well shows fails old) peer piece ≡ spelled_frame frame) (some : 0 < length piece) (going : ((value_of state is_well shows fails old).streams peer).failed ≡ false) where
    found : front (so_far (value_of state is_well shows fails old) peer piece) ≡ Some (Ok frame, length (so_far (value_of state is_well shows fails old) peer piece))
    found = whole_found (so_far (value_of state is_well shows fails old) peer piece) frame fits is

    size : length (so_far (value_of state is_well shows fails old) peer piece) ≡ length ((value_of state is_well shows fails old).streams peer).held + length piece
    size = length-append ((value_of state is_well shows fails old).streams peer).held piece

    ends_whole : (fault : Option (Fault F)) (used : ℕ) → FeedsTo {F = F} (value_of state is_well shows fails) rules stands peer now [] fault old new piece used → FeedsWhole rules stands (value_of state is_well shows fails old) (value_of state is_well shows fails new) peer now frame piece [] fault used
    ends_whole None used (inl none) = absurd (let l : length piece ≡ 0 = ap length none.0 in omega arith)
    ends_whole None used (inr step) = never_none F rules stands (value_of state is_well shows fails old) (value_of state is_well shows fails new) peer now piece frame _ found size some going used step.1
    ends_whole (Some why) used step = fault_whole F rules stands (value_of state is_well shows fails old) (value_of state is_well shows fails new) peer now piece frame _ found size some going used why step.1

    frame_then : (os : List Outcome) (fault : Option (Fault F)) (o : Outcome) (mid : ANode M S F g) (first rest : ℕ) → Comes {F = F} (value_of state is_well shows fails) rules stands peer now old mid piece first (Ok (Some o)) → FeedsTo {F = F} (value_of state is_well shows fails) rules stands peer now os fault mid new (drop first piece) rest
        → (used : ℕ) → used ≡ first + rest → FeedsWhole rules stands (value_of state is_well shows fails old) (value_of state is_well shows fails new) peer now frame piece (o ∷ os) fault used
    frame_then [] None o mid first rest step (inl none) used sum =
        let came = came_whole F rules stands (value_of state is_well shows fails old) (value_of state is_well shows fails mid) peer now piece frame _ found size some going first o step.1 in
        let all : used ≡ length piece = let f = came.0 in let r = none.1 in omega arith in
        (all, subst (λ n. FrameCame {F = F} rules stands (value_of state is_well shows fails old) (value_of state is_well shows fails n) peer now frame (Ok o)) (sym none.2) came.1)
    frame_then [] None o mid first rest step (inr more) used sum =
        absurd (empty_left piece first (came_whole F rules stands (value_of state is_well shows fails old) (value_of state is_well shows fails mid) peer now piece frame _ found size some going first o step.1).0 more.0)
    frame_then [] (Some why) o mid first rest step more used sum =
        absurd (empty_left piece first (came_whole F rules stands (value_of state is_well shows fails old) (value_of state is_well shows fails mid) peer now piece frame _ found size some going first o step.1).0 more.0)
    frame_then (p ∷ os) fault o mid first rest step more used sum =
        absurd (empty_left piece first (came_whole F rules stands (value_of state is_well shows fails old) (value_of state is_well shows fails mid) peer now piece frame _ found size some going first o step.1).0 more.4.0)

    pub feeds_whole : (os : List Outcome) (fault : Option (Fault F)) (used : ℕ) → FeedsTo {F = F} (value_of state is_well shows fails) rules stands peer now os fault old new piece used → FeedsWhole rules stands (value_of state is_well shows fails old) (value_of state is_well shows fails new) peer now frame piece os fault used
    feeds_whole [] fault used h = ends_whole fault used h
    feeds_whole (o ∷ os) fault used h = frame_then os fault o h.0 h.1 h.2 h.4 h.5 used h.3

  -- ---- a part of a frame

  module _ (old new : ANode M S F g) (piece : List ℕ) (waits : front (so_far (value_of state is_well shows fails old) peer piece) ≡ None) (going : ((value_of state is_well shows fails old).streams peer).failed ≡ false) where
    nothing_fed : new ≡ old → piece ≡ [] → LeavesStream (value_of state is_well shows fails old) (value_of state is_well shows fails new) peer (holding (so_far (value_of state is_well shows fails old) peer piece)) × StaysBut (value_of state is_well shows fails old) (value_of state is_well shows fails new) peer
    nothing_fed same none =
        subst (λ n. LeavesStream (value_of state is_well shows fails old) (value_of state is_well shows fails n) peer (holding (so_far (value_of state is_well shows fails old) peer piece)) × StaysBut (value_of state is_well shows fails old) (value_of state is_well shows fails n) peer) (sym same) (
          (
            subst (λ l. (value_of state is_well shows fails old).streams peer ≡ holding (((value_of state is_well shows fails old).streams peer).held ++ l)) (sym none) (holds_still (value_of state is_well shows fails old) peer going ∙ ap holding (sym (append-nil ((value_of state is_well shows fails old).streams peer).held))),
            λ other apart. refl,
          ),
          stays_but (value_of state is_well shows fails old) peer,
        )

    pub feeds_part : (os : List Outcome) (fault : Option (Fault F)) (used : ℕ) → FeedsTo {F = F} (value_of state is_well shows fails) rules stands peer now os fault old new piece used → FeedsPart rules stands (value_of state is_well shows fails old) (value_of state is_well shows fails new) peer now piece os fault used
    feeds_part [] None used (inl none) =
        let fed = nothing_fed none.2 none.0 in
        let l : length piece ≡ 0 = ap length none.0 in
        let all : used ≡ length piece = let u = none.1 in omega arith in
        (all, fed.0, fed.1)
    feeds_part [] None used (inr step) = held_part F rules stands (value_of state is_well shows fails old) (value_of state is_well shows fails new) peer now piece waits going used step.1
    feeds_part [] (Some why) used step = fault_part F rules stands (value_of state is_well shows fails old) (value_of state is_well shows fails new) peer now piece waits going used why step.1
    feeds_part (o ∷ os) fault used h = absurd (never_some F rules stands (value_of state is_well shows fails old) (value_of state is_well shows fails h.0) peer now piece waits going h.1 o h.4.1)
