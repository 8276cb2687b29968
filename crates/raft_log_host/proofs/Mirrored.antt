-- One more change, and what memory has then.
use Rattle.std.proofs.Common.{◌≡◌, ◌⊎◌, inl, inr, Bool, true, false, List, [], ◌∷◌, refl, sym, ap, subst, ◌∙◌}
use Rattle.std.specs.Prelude.{Result, Ok, Err}
use Rattle.raft_log_disk.specs.Disk.{Disk}
use Rattle.raft_log_host.specs.Calls.{HostCall, IsNoted, IsStopped, IsTold, Note, all_done, calls_of, noted}
use Rattle.raft_log_host.specs.Mirror.{Does, IsMirror, Replays}

-- no call was refused so far
pub going : (b : Bool) (events : List Note) (d : Disk) → b ≡ false → IsMirror b events d → Replays events d
going true events d e m = absurd cc
going false events d e m = m

pub one_more : (change : HostCall) (events later : List Note) (d e : Disk) → Replays events d → Does change d e → later ≡ all_done (calls_of change) events → Replays later e
one_more change events later d e r does is = record {
  changes = change ∷ r.changes;
  noted_so = is ∙ ap (all_done (calls_of change)) r.noted_so;
  make = (d, r.make, does);
}

mirrored : (b : Bool) (events : List Note) (d : Disk) → b ≡ false → Replays events d → IsMirror b events d
mirrored true events d e r = absurd cc
mirrored false events d e r = r

-- a change was made
pub made : {T E : Type 0} (b : Bool) (change : HostCall) (r : Result T E) (x : T) (events later : List Note) (d e : Disk) → b ≡ false → IsMirror b events d → Does change d e
    → IsTold change r events later → r ≡ Ok x → IsMirror b later e
made {T = T} {E = E} b change r x events later d e off m does told is =
    mirrored b later e off (one_more change events later d e (going b events d off m) does (subst (λ (q : Result T E). IsTold change q events later) is told))

-- the system refused one of its calls
pub refused : {T E : Type 0} (b : Bool) (change : HostCall) (r : Result T E) (why : E) (events later : List Note) (d e : Disk) → b ≡ false → IsMirror b events d
    → (e ≡ d) ⊎ Does change d e → IsTold change r events later → r ≡ Err why → IsMirror true later e
refused {T = T} {E = E} b change r why events later d e off m ends told is = inl (record {
  earlier = events;
  before = d;
  replays = going b events d off m;
  change = change;
  stops = subst (λ (q : Result T E). IsTold change q events later) is told;
  ends = ends;
})

-- memory didn't take what the system had done
pub untaken : (b : Bool) (change : HostCall) (events later : List Note) (d kept e : Disk) → b ≡ false → IsMirror b events d → Does change d kept
    → later ≡ all_done (calls_of change) events → IsMirror true later e
untaken b change events later d kept e off m does is = inr (kept, one_more change events later d kept (going b events d off m) does is)

-- one call is a change of one call
single : {T E : Type 0} (call : HostCall) → calls_of call ≡ call ∷ [] → (r : Result T E) (events later : List Note) → IsNoted call r events later → IsTold call r events later
single call alone (Ok x) events later is = is ∙ ap (λ cs. all_done cs events) (sym alone)
single call alone (Err e) events later is = subst (λ cs. IsStopped cs events later) (sym alone) (inl is)

pub made_alone : {T E : Type 0} (b : Bool) (call : HostCall) → calls_of call ≡ call ∷ [] → (r : Result T E) (x : T) (events later : List Note) (d e : Disk) → b ≡ false
    → IsMirror b events d → Does call d e → IsNoted call r events later → r ≡ Ok x → IsMirror b later e
made_alone b call alone r x events later d e off m does told is = made b call r x events later d e off m does (single call alone r events later told) is

pub refused_alone : {T E : Type 0} (b : Bool) (call : HostCall) → calls_of call ≡ call ∷ [] → (r : Result T E) (why : E) (events later : List Note) (d e : Disk) → b ≡ false
    → IsMirror b events d → (e ≡ d) ⊎ Does call d e → IsNoted call r events later → r ≡ Err why → IsMirror true later e
refused_alone b call alone r why events later d e off m ends told is = refused b call r why events later d e off m ends (single call alone r events later told) is

pub untaken_alone : {T E : Type 0} (b : Bool) (call : HostCall) → calls_of call ≡ call ∷ [] → (r : Result T E) (x : T) (events later : List Note) (d kept e : Disk) → b ≡ false
    → IsMirror b events d → Does call d kept → IsNoted call r events later → r ≡ Ok x → IsMirror true later e
untaken_alone {T = T} {E = E} b call alone r x events later d kept e off m does told is =
    untaken b call events later d kept e off m does (subst (λ (q : Result T E). IsTold call q events later) is (single call alone r events later told))

pub made_so : (b : Bool) (change : HostCall) (events later : List Note) (d e : Disk) → b ≡ false → IsMirror b events d → Does change d e → later ≡ all_done (calls_of change) events
    → IsMirror b later e
made_so b change events later d e off m does is = mirrored b later e off (one_more change events later d e (going b events d off m) does is)

pub stopped_at : (b : Bool) (call : HostCall) → calls_of call ≡ call ∷ [] → (events later : List Note) (d : Disk) → b ≡ false → IsMirror b events d → later ≡ noted call false ∷ events
    → IsMirror true later d
stopped_at b call alone events later d off m is = inl (record {
  earlier = events;
  before = d;
  replays = going b events d off m;
  change = call;
  stops = subst (λ cs. IsStopped cs events later) (sym alone) (inl is);
  ends = inl refl;
})
