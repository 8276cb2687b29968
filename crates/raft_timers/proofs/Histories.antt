-- What calls keep.
use Rattle.std.proofs.Common.{◌≡◌, List, [], ◌∷◌, refl}
use Rattle.raft_timers.specs.Clock.{Clock}
use Rattle.raft_timers.specs.History.{Call, Ticks, Answers, Peers, History, after_call, after_calls, clock_of}
use Rattle.raft_timers.specs.Timers.{answered, new_clock, ticked, with_peers}

-- what each call keeps holds behind all of them
pub kept_by_calls : (P : Clock → Type 0) → ((call : Call) (c : Clock) → P c → P (after_call call c)) → (calls : List Call) (c : Clock)
    → P c → P (after_calls calls c)
kept_by_calls P keeps [] c h = h
kept_by_calls P keeps (call ∷ calls) c h = kept_by_calls P keeps calls (after_call call c) (keeps call c h)

pub same_config : (calls : List Call) (c : Clock) → (after_calls calls c).config ≡ c.config
same_config [] c = refl
same_config (Ticks now view waiting ∷ calls) c = same_config calls (ticked view waiting now c)
same_config (Answers peer ∷ calls) c = same_config calls (answered peer c)
same_config (Peers peers ∷ calls) c = same_config calls (with_peers peers c)

pub config_of : (h : History) → (clock_of h).config ≡ h.config
config_of h = same_config h.calls (new_clock h.config h.seed h.peers h.start)
