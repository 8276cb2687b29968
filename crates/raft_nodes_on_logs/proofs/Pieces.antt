-- A frame that comes in pieces comes whole at the last one.
use Rattle.std.specs.Prelude.{◌≡◌, ◌⊎◌, ◌<◌, ◌≤◌, ◌+◌, ◌-◌, ◌&&◌, nat_lt, ℕ, Bool, true, false, List, [], ◌∷◌, ◌++◌, length, take, drop, Option, Some, None, option_and_then, Result, Ok, Err, refl}
use Rattle.std.proofs.Common.{inl, inr, sym, ap, ◌∙◌, subst, ⊎_elim, arith}
use Rattle.std.proofs.Math.Seq.{take-add, take-length}
use Rattle.std.proofs.lemmas.Bool.{and_parts}
use Rattle.std.proofs.lemmas.Bool.Decides.{nat_tests}
use Rattle.std.proofs.lemmas.List.{length-drop, length-take-le, take-append-drop}
use Rattle.raft_cluster_conditions.specs.Cuts.{are_cuts}
use Rattle.raft_cluster_events.specs.declared.node.NodeOutcome.{NodeOutcome}
use Rattle.raft_cluster_events.specs.declared.outcome.NodeError.{NodeError}
use Rattle.raft_machines.specs.Machine.{MachineRules}
use Rattle.raft_node.specs.Feeding.{FeedsPart, FeedsWhole, FrameCame, StaysBut, StopsForRoom, fed_as, so_far}
use Rattle.raft_node.specs.Settling.{IsStoppedBy, IsTold}
use Rattle.raft_node.specs.Standing.{NodeValue}
use Rattle.raft_node.specs.declared.outcome.Outcome.{Outcome}
use Rattle.raft_node_faults.specs.Fault.{fault_met_by_node, storage_fault_of}
use Rattle.raft_node_faults.specs.declared.fault.Cause.TheVariants as cause
use Rattle.raft_node_faults.specs.declared.fault.Fault.{Fault}
use Rattle.raft_node_laws.specs.Delivery.{Comes, GoesOn, piece, pieces_from}
use Rattle.raft_store.specs.Reading.{StandsFor}
use Rattle.raft_wire.specs.Frames.{FitsFrame, spelled_frame}
use Rattle.raft_wire.specs.Stream.{fresh, holding}
use Rattle.raft_wire.specs.declared.frame.Frame.{Frame}
use Rattle.raft_nodes_on_logs.specs.Acts.{FeedsTo, IsFed, IsFedOn, IsPassed, IsUpAs, Meets, WhenUp, log_node_acts, refused, some_outcome}
use Rattle.raft_nodes_on_logs.specs.Answering.{error_of}
use Rattle.raft_nodes_on_logs.specs.Kept.{KeepingFault}
use Rattle.raft_nodes_on_logs.specs.Kinds.{NodeKind}
use Rattle.raft_nodes_on_logs.specs.Standing.{NodeOf, UpNode, value}
use Rattle.raft_nodes_on_logs.proofs.Taken.{Answer}

abbrev some_fed : NodeOutcome → Result (Option NodeOutcome) NodeError
some_fed outcome = Ok (Some outcome)

abbrev none_fed : Result (Option NodeOutcome) NodeError
none_fed = Ok None

-- ---- cuts

below : (a b : ℕ) → nat_lt a b ≡ true → a < b
below a b is = grind (arith, nat_tests, is)

-- what is held, and the next piece, are the bytes up to its end
held_so : (bytes : List ℕ) (begin end : ℕ) → begin ≤ end → take begin bytes ++ piece bytes begin end ≡ take end bytes
held_so bytes begin end up =
    sym (take-add begin (end - begin) bytes) ∙ ap (λ i. take i bytes) (omega (arith, up))

piece_long : (bytes : List ℕ) (begin end : ℕ) → begin < end → end ≤ length bytes → 0 < length (piece bytes begin end)
piece_long bytes begin end up within =
    let rest = length-drop begin bytes in
    let long : length (piece bytes begin end) ≡ end - begin = length-take-le (end - begin) (drop begin bytes) (omega (arith, up, within, rest)) in
    omega (arith, long, up)

-- ---- nodes that stay but for a stream

pub stays_twice : (a b c : NodeValue) (peer : ℕ) → StaysBut a b peer → StaysBut b c peer → StaysBut a c peer
stays_twice a b c peer one two = record {
  own = two.own ∙ one.own;
  has_failed = two.has_failed ∙ one.has_failed;
  members = λ group. two.members group ∙ one.members group;
  well = λ is. two.well (one.well is);
  running = λ group. two.running group ∙ one.running group;
  kept = λ group parts shown. two.kept group parts (one.kept group parts shown);
}

module _ (k : NodeKind) (frame : Frame) (fits : FitsFrame frame) (peer now : ℕ) (n : UpNode k) where
  abbrev of : UpNode k → NodeValue
  of m = value k m

  abbrev bytes : List ℕ
  bytes = spelled_frame frame

  -- behind pieces of a frame
  pub record IsAlong (held : List ℕ) (x : UpNode k) : Type 0 where
    pub stays : StaysBut (of n) (of x) peer
    pub holds : (of x).streams peer ≡ holding held
    pub others : (other : ℕ) → (other ≡ peer → ⊥) → (of x).streams other ≡ (of n).streams other

  -- the frame came whole to its group
  pub record CameWhole (old : NodeOf k) (answered : Result (Option NodeOutcome) NodeError) (new : NodeOf k) : Type 0 where
    pub x : UpNode k
    pub held : List ℕ
    pub along : IsAlong held x
    pub y : UpNode k
    pub result : Answer (KeepingFault k)
    pub came : FrameCame k.rules (StandsFor k.rules) (of x) (of y) peer now frame result
    pub met : Meets k x y (fault_met_by_node result)
    pub one : Result NodeOutcome NodeError
    pub passed : IsPassed k old y result one new
    pub answer : answered ≡ some_outcome one

  -- or memory was lacking for a piece
  pub record LackedRoom (old : NodeOf k) (answered : Result (Option NodeOutcome) NodeError) (new : NodeOf k) : Type 0 where
    pub x : UpNode k
    pub held : List ℕ
    pub along : IsAlong held x
    pub y : UpNode k
    pub why : Fault (KeepingFault k)
    pub stopped : IsStoppedBy cause.Memory why
    pub told : IsTold ⊥ (of x) (of y) why
    pub answer : answered ≡ Err (error_of k.cause why)
    pub up : IsUpAs k old new y

  abbrev pub CameOrNot : NodeOf k → Result (Option NodeOutcome) NodeError → NodeOf k → Type 0
  CameOrNot old answered new = CameWhole old answered new ⊎ LackedRoom old answered new

  module _ (going : (of n).groups.has_failed ≡ false) (old : NodeOf k) where
    -- a node along the pieces
    pub record IsHere (node : NodeOf k) (x : UpNode k) (begin : ℕ) : Type 0 where
      pub id : node.id ≡ old.id
      pub up : node.up ≡ Some x
      pub along : IsAlong (take begin bytes) x
      pub inside : begin < length bytes

    still_going : (x : UpNode k) (held : List ℕ) → IsAlong held x → (of x).groups.has_failed ≡ false
    still_going x held along = along.stays.has_failed ∙ going

    sound : (x : UpNode k) (held : List ℕ) → IsAlong held x → ((of x).streams peer).failed ≡ false
    sound x held along = ap (λ f. f.failed) along.holds

    far : (x : UpNode k) (held p : List ℕ) → IsAlong held x → so_far (of x) peer p ≡ held ++ p
    far x held p along = ap (λ f. f.held ++ p) along.holds

    -- what was answered is of the node that the pieces began at
    passed_on : (node : NodeOf k) (y : UpNode k) (result : Answer (KeepingFault k)) (one : Result NodeOutcome NodeError) (new : NodeOf k) → node.id ≡ old.id
        → IsPassed k node y result one new → IsPassed k old y result one new
    passed_on node y (Ok o) one new id (inl (answer, up)) = inl (answer, (up.0 ∙ id, up.1))
    passed_on node y (Ok o) one new id (inr s) = inr (record { failed = s.failed; why = s.why; fails = s.fails; answer = s.answer; up = (s.up.0 ∙ id, s.up.1) })
    passed_on node y (Err why) one new id (answer, up) = (answer, (up.0 ∙ id, up.1))

    -- ---- the last piece

    fed_whole : (node : NodeOf k) (x : UpNode k) (begin : ℕ) → IsHere node x begin → (y : UpNode k) (outcomes : List Outcome) (met : Option (Fault (KeepingFault k))) (used : ℕ)
        (p : List ℕ) → FeedsWhole k.rules (StandsFor k.rules) (of x) (of y) peer now frame p outcomes met used → Meets k x y (option_and_then storage_fault_of met)
        → (first : Result (Option NodeOutcome) NodeError) (next : NodeOf k) → IsFedOn k node y outcomes met first next
        → CameOrNot old first next
    fed_whole node x begin here y [] None used p whole why_met first next fed = absurd whole
    fed_whole node x begin here y [] (Some why) used p (inl (took, came)) why_met first next fed = inl (record {
      x = x;
      held = take begin bytes;
      along = here.along;
      y = y;
      result = Err why;
      came = came;
      met = why_met;
      one = Err (error_of k.cause why);
      passed = (refl, (fed.1.0 ∙ here.id, fed.1.1));
      answer = fed.0;
    })
    fed_whole node x begin here y [] (Some why) used p (inr s) why_met first next fed = inr (record {
      x = x;
      held = take begin bytes;
      along = here.along;
      y = y;
      why = why;
      stopped = s.1;
      told = s.2;
      answer = fed.0;
      up = (fed.1.0 ∙ here.id, fed.1.1);
    })
    fed_whole node x begin here y (o ∷ []) None used p (took, came) why_met first next fed = inl (record {
      x = x;
      held = take begin bytes;
      along = here.along;
      y = y;
      result = Ok o;
      came = came;
      met = why_met;
      one = fed.0;
      passed = passed_on node y (Ok o) fed.0 next here.id fed.1;
      answer = fed.2;
    })
    fed_whole node x begin here y (o ∷ []) (Some why) used p whole why_met first next fed = absurd whole
    fed_whole node x begin here y (o ∷ q ∷ os) met used p whole why_met first next fed = absurd whole

    some_there : (one : Result NodeOutcome NodeError) → some_outcome one ≡ Ok None → ⊥
    some_there (Ok o) is = let no : some_fed o ≡ none_fed = is in cc
    some_there (Err why) is = let no : Err why ≡ none_fed = is in cc

    there : (first : Result (Option NodeOutcome) NodeError) (next : NodeOf k) → CameOrNot old first next → first ≡ Ok None → ⊥
    there first next (inl c) is = some_there c.one (sym c.answer ∙ is)
    there first next (inr l) is = let no : Err (error_of k.cause l.why) ≡ none_fed = sym l.answer ∙ is in cc

    -- what it comes to is the answer
    ended : (first : Result (Option NodeOutcome) NodeError) (next : NodeOf k) (answered : Result (Option NodeOutcome) NodeError) (new : NodeOf k) (rest : Type 0)
        → (first ≡ Ok None → ⊥) → GoesOn (log_node_acts k) first next answered new rest → CameOrNot old first next → CameOrNot old answered new
    ended (Ok None) next answered new rest not goes c = absurd (not refl)
    ended (Ok (Some o)) next answered new rest not goes c = subst (λ a. CameOrNot old a new) (sym goes.0) (subst (CameOrNot old (Ok (Some o))) (sym goes.1) c)
    ended (Err why) next answered new rest not goes c = subst (λ a. CameOrNot old a new) (sym goes.0) (subst (CameOrNot old (Err why)) (sym goes.1) c)

    last : (node : NodeOf k) (x : UpNode k) (begin : ℕ) → IsHere node x begin → (answered : Result (Option NodeOutcome) NodeError) (new : NodeOf k)
        → Comes (log_node_acts k) peer now node (piece bytes begin (length bytes) ∷ []) answered new → CameOrNot old answered new
    last node x begin here answered new (first, next, feeds, goes) =
        let f = subst (λ u. WhenUp k node next u (first ≡ refused) (λ m. FeedsTo k m peer (piece bytes begin (length bytes)) now node first next)) here.up feeds in
        let p = piece bytes begin (length bytes) in
        let some : 0 < length p = piece_long bytes begin (length bytes) here.inside (omega arith) in
        let whole = f.fed.whole frame (still_going x (take begin bytes) here.along) (sound x (take begin bytes) here.along) fits some
        (far x (take begin bytes) p here.along ∙ held_so bytes begin (length bytes) (omega (arith, here.inside)) ∙ take-length bytes) in
        let c = fed_whole node x begin here f.mid f.outcomes f.met f.used p whole f.why first next f.passed in
        ended first next answered new ((answered ≡ Ok None) × (new ≡ next)) (there first next c) goes c

    -- ---- a piece before it

    abbrev Rest : NodeOf k → ℕ → List ℕ → Result (Option NodeOutcome) NodeError → NodeOf k → Type 0
    Rest next cut cuts answered new = Comes (log_node_acts k) peer now next (pieces_from bytes cut cuts) answered new

    fed_part : (node : NodeOf k) (x : UpNode k) (begin cut : ℕ) (cuts : List ℕ) → IsHere node x begin → begin < cut → cut < length bytes
        → (y : UpNode k) (outcomes : List Outcome) (met : Option (Fault (KeepingFault k))) (used : ℕ)
        → FeedsPart k.rules (StandsFor k.rules) (of x) (of y) peer now (piece bytes begin cut) outcomes met used
        → (first : Result (Option NodeOutcome) NodeError) (next : NodeOf k) → IsFedOn k node y outcomes met first next
        → (IsHere next y cut × (first ≡ Ok None)) ⊎ CameOrNot old first next
    fed_part node x begin cut cuts here up within y [] None used (took, left, stays) first next fed =
        let held = far x (take begin bytes) (piece bytes begin cut) here.along ∙ held_so bytes begin cut (omega (arith, up)) in
        inl (
          record {
            id = fed.1.0 ∙ here.id;
            up = fed.1.1;
            along = record {
              stays = stays_twice (of n) (of x) (of y) peer here.along.stays stays;
              holds = left.0 ∙ ap holding held;
              others = λ other far_off. left.1 other far_off ∙ here.along.others other far_off;
            };
            inside = within;
          },
          fed.0,
        )
    fed_part node x begin cut cuts here up within y [] (Some why) used s first next fed = inr (inr (record {
      x = x;
      held = take begin bytes;
      along = here.along;
      y = y;
      why = why;
      stopped = s.1;
      told = s.2;
      answer = fed.0;
      up = (fed.1.0 ∙ here.id, fed.1.1);
    }))
    fed_part node x begin cut cuts here up within y (o ∷ os) met used part first next fed = absurd part

    -- ---- all pieces

    goes_on : (first : Result (Option NodeOutcome) NodeError) (next : NodeOf k) (answered : Result (Option NodeOutcome) NodeError) (new : NodeOf k) (rest : Type 0)
        → first ≡ Ok None → GoesOn (log_node_acts k) first next answered new rest → rest
    goes_on (Ok None) next answered new rest is goes = goes
    goes_on (Ok (Some o)) next answered new rest is goes = absurd (let no : some_fed o ≡ none_fed = is in cc)
    goes_on (Err why) next answered new rest is goes = absurd (let no : Err why ≡ none_fed = is in cc)

    pub pieces_come : (cuts : List ℕ) (node : NodeOf k) (x : UpNode k) (begin : ℕ) → IsHere node x begin → are_cuts begin (length bytes) cuts ≡ true
        → (answered : Result (Option NodeOutcome) NodeError) (new : NodeOf k) → Comes (log_node_acts k) peer now node (pieces_from bytes begin cuts) answered new
        → CameOrNot old answered new
    pieces_come [] node x begin here cut_so answered new comes = last node x begin here answered new comes
    pieces_come (cut ∷ cuts) node x begin here cut_so answered new (first, next, feeds, goes) =
        ⊎_elim
        (λ on. pieces_come cuts next f.mid cut on.0 rest.1 answered new (goes_on first next answered new (Rest next cut cuts answered new) on.1 goes))
        (λ c. ended first next answered new (Rest next cut cuts answered new) (there first next c) goes c)
        (fed_part node x begin cut cuts here up within f.mid f.outcomes f.met f.used part first next f.passed)
      where
        both : (nat_lt begin cut ≡ true) × ((nat_lt cut (length bytes) && are_cuts cut (length bytes) cuts) ≡ true)
        both = and_parts (nat_lt begin cut) (nat_lt cut (length bytes) && are_cuts cut (length bytes) cuts) cut_so

        rest : (nat_lt cut (length bytes) ≡ true) × (are_cuts cut (length bytes) cuts ≡ true)
        rest = and_parts (nat_lt cut (length bytes)) (are_cuts cut (length bytes) cuts) both.1

        up : begin < cut
        up = below begin cut both.0

        within : cut < length bytes
        within = below cut (length bytes) rest.0

        f : FeedsTo k x peer (piece bytes begin cut) now node first next
        f = subst (λ u. WhenUp k node next u (first ≡ refused) (λ m. FeedsTo k m peer (piece bytes begin cut) now node first next)) here.up feeds

        part : FeedsPart k.rules (StandsFor k.rules) (of x) (of f.mid) peer now (piece bytes begin cut) f.outcomes f.met f.used
        part =
            let behind = length-drop cut bytes in
            f.fed.part frame (drop cut bytes) (still_going x (take begin bytes) here.along) (sound x (take begin bytes) here.along) fits (omega (arith, within, behind))
            (ap (λ held. held ++ drop cut bytes) (far x (take begin bytes) (piece bytes begin cut) here.along ∙ held_so bytes begin cut (omega (arith, up))) ∙ take-append-drop cut bytes)
