use Rattle.std.proofs.Common.{◌∷◌, []}
use Rattle.raft_log_purge.specs.Heard.{files_behind}
use Rattle.raft_log_purge.specs.Heard.Heard.{Begun}
use Rattle.raft_log_purge.proofs.HeardLemmas.{begun_told, hear_more}
use Rattle.raft_log_engine.proofs.hearing.tell_each.Goals as goal

pub returns : goal.returns
returns g c =
    record {
      told = hear_more g.L.EventListener.hears (Begun (record { queue = c.args.queue; seq = c.args.first }) ∷ []) (files_behind c.args.queue c.args.first c.args.last)
          c.args.listeners.now c.tell_new_file.new.listeners c.tell_begun.new.listeners
          (begun_told g.L.EventListener.hears c.args.queue c.new.result c.args.first c.args.listeners.now c.tell_new_file.new.listeners c.new.ensures.queue c.new.ensures.seq c.tell_new_file.ensures.told)
          c.tell_begun.ensures.told;
    }
