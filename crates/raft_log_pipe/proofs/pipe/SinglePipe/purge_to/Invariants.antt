use Rattle.std.proofs.Common.{◌≡◌, ℕ, ◌+◌, ◌≤◌, length}
use Rattle.std.specs.Prelude.{max}
use Rattle.raft_log_disk.specs.Cause.{RefusesNoMore}
use Rattle.raft_log_pipe.specs.Kept.{KeepsSettings}
use Rattle.raft_log_pipe.specs.Pipe.{IsPipe, first_of}
use Rattle.raft_log_pipe.specs.Prepared.{IsFrontOf}
use Rattle.raft_log_pipe.specs.Purging.{AreGone, AreKeptIfCan, AreLastOf, HoldsRest, KeepsFrom, NamesNoOther}
use Rattle.raft_log_pipe.specs.Taken.{HasLost}
use Rattle.raft_log_pipe.proofs.pipe.SinglePipe.purge_to.Given as goal

abbrev pub invariant-loop-gone : goal.invariant-loop-gone
invariant-loop-gone g l = record {
  pipe : IsPipe l.self (g.F.FileSystem.disk l.files);
  count : first_of l.self ≡ first_of l.initial.self + l._gone;
  span : first_of l.initial.self + l.count ≤ l.initial.self.active.seq;
  active : l.self.active ≡ l.initial.self.active;
  queue : l.self.queue ≡ l.initial.self.queue;
  paths : l.self.paths ≡ l.initial.self.paths;
  front : IsFrontOf l.initial.self.reserved.items l.self.reserved.items;
  bound : length l.self.reserved.items ≤ max (length l.initial.self.reserved.items) l.room;
  kept : AreKeptIfCan l.initial.self (g.F.FileSystem.disk l.initial.files) l.self (g.F.FileSystem.disk l.files) l.room;
  fresh : NamesNoOther l.self (g.F.FileSystem.disk l.initial.files) (g.F.FileSystem.disk l.files);
  set : KeepsSettings l.initial.self l.self;
  holds : HoldsRest l.initial.self (g.F.FileSystem.disk l.initial.files) l.self (g.F.FileSystem.disk l.files);
  keeps : KeepsFrom l.initial.self.queue (first_of l.self) (g.F.FileSystem.disk l.initial.files) (g.F.FileSystem.disk l.files);
  rest : AreLastOf l.initial.self.older.items l.self.older.items;
  gone : AreGone l.initial.self l.self (g.F.FileSystem.disk l.files);
  lost : (seq : ℕ) → HasLost l.self (g.F.FileSystem.disk l.files) seq → HasLost l.initial.self (g.F.FileSystem.disk l.initial.files) seq;
  later : RefusesNoMore (g.F.FileSystem.is_bounded l.initial.files) (g.F.FileSystem.is_bounded l.files) (g.F.FileSystem.meter l.initial.files) (g.F.FileSystem.meter l.files);
}
