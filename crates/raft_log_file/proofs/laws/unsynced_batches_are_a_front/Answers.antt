use Rattle.raft_log_file.proofs.UnsyncedLemmas.{recycled_files_begin, room_stays_unread, synced_batches_begin, unsynced_batches_are_a_front, unsynced_batches_grow}
use Rattle.raft_log_file.proofs.laws.unsynced_batches_are_a_front.Goals as goal

pub returns-clause-front : goal.returns-clause-front
returns-clause-front c = unsynced_batches_are_a_front

pub returns-clause-grows : goal.returns-clause-grows
returns-clause-grows c = unsynced_batches_grow

pub returns-clause-room : goal.returns-clause-room
returns-clause-room c = room_stays_unread

pub returns-clause-begins : goal.returns-clause-begins
returns-clause-begins c = synced_batches_begin

pub returns-clause-recycled : goal.returns-clause-recycled
returns-clause-recycled c = recycled_files_begin
