-- Changes whose calls are those of an opening.
use Rattle.std.proofs.Common.{◌≡◌, inl, inr, Bool, true, false, List, [], ◌∷◌, refl, subst, sym}
use Rattle.std.specs.Prelude.{Result, Ok, Err}
use Rattle.raft_log_host.specs.Calls.{HostCall, IsNoted, IsStopped, IsTold, Note, all_done, calls_of, noted}
use Rattle.raft_log_host.specs.Loading.{HasOnlyLoaded, IsLoading}

abbrev AreLoading : List HostCall → Type 0
AreLoading [] = Unit {0}
AreLoading (c ∷ cs) = IsLoading c × AreLoading cs

pub one_noted : (call : HostCall) (done : Bool) (notes : List Note) → IsLoading call → HasOnlyLoaded notes → HasOnlyLoaded (noted call done ∷ notes)
one_noted call done notes loads so_far = (record { call = call; done = done; loads = loads; is = refl }, so_far)

all_made : (cs : List HostCall) (notes : List Note) → AreLoading cs → HasOnlyLoaded notes → HasOnlyLoaded (all_done cs notes)
all_made [] notes loads so_far = so_far
all_made (c ∷ cs) notes loads so_far = all_made cs (noted c true ∷ notes) loads.1 (one_noted c true notes loads.0 so_far)

some_made : (cs : List HostCall) (notes new : List Note) → AreLoading cs → IsStopped cs notes new → HasOnlyLoaded notes → HasOnlyLoaded new
some_made [] notes new loads stops so_far = absurd stops
some_made (c ∷ cs) notes new loads (inl is) so_far = subst HasOnlyLoaded (sym is) (one_noted c false notes loads.0 so_far)
some_made (c ∷ cs) notes new loads (inr more) so_far = some_made cs (noted c true ∷ notes) new loads.1 more (one_noted c true notes loads.0 so_far)

-- such a change keeps that nothing else was called
pub told_loaded : {T E : Type 0} (change : HostCall) → AreLoading (calls_of change) → (r : Result T E) (old new : List Note) → IsTold change r old new → HasOnlyLoaded old → HasOnlyLoaded new
told_loaded change loads (Ok x) old new is so_far = subst HasOnlyLoaded (sym is) (all_made (calls_of change) old loads so_far)
told_loaded change loads (Err e) old new stops so_far = some_made (calls_of change) old new loads stops so_far

-- and so does such a call
pub noted_loaded : {T E : Type 0} (call : HostCall) → IsLoading call → (r : Result T E) (old new : List Note) → IsNoted call r old new → HasOnlyLoaded old → HasOnlyLoaded new
noted_loaded call loads (Ok x) old new is so_far = subst HasOnlyLoaded (sym is) (one_noted call true old loads so_far)
noted_loaded call loads (Err e) old new is so_far = subst HasOnlyLoaded (sym is) (one_noted call false old loads so_far)

pub grown : (call : HostCall) (done : Bool) → IsLoading call → (old new : List Note) → new ≡ noted call done ∷ old → HasOnlyLoaded old → HasOnlyLoaded new
grown call done loads old new is so_far = subst HasOnlyLoaded (sym is) (one_noted call done old loads so_far)
