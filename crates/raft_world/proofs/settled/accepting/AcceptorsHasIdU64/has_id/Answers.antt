-- What messages and notes say is what the world says.
use Rattle.raft_messages.specs.Messages.{message_of}
use Rattle.raft_world.specs.Settled.{is_led_with, is_reply, led_of}
use Rattle.raft_world.proofs.SettledLemmas.{first_passes, second_tells}
use Rattle.raft_world.proofs.settled.accepting.AcceptorsHasIdU64.has_id.Goals as goal

pub returns-then-has_replied : goal.returns-then-has_replied
returns-then-has_replied c =
    let a = c.args.self.now in
    first_passes (is_reply a.vote a.place c.args.id.now) message_of a.messages.now (is_led_with a.vote a.place c.args.id.now) led_of a.led.now
    c.has_replied.result c.has_replied.ensures c.if-has_replied.true

pub returns-else-has_replied : goal.returns-else-has_replied
returns-else-has_replied c =
    let a = c.args.self.now in
    second_tells (is_reply a.vote a.place c.args.id.now) message_of a.messages.now (is_led_with a.vote a.place c.args.id.now) led_of a.led.now
    c.has_replied.result c.has_led_with.result c.has_replied.ensures c.if-has_replied.false c.has_led_with.ensures
