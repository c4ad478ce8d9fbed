-- An event sends few packets, in every run.
use Rattle.std.specs.Prelude.{◌+◌, ◌≤◌, List, length}
use Rattle.nq_base.specs.declared.Event.{Event}
use Rattle.nq_model.specs.protocol.Stepped.{most_sends}
use Rattle.nq_model.specs.protocol.World.{Head, run, step}

-- after every schedule the next event sends at most 64 packets: a notice to each host but the one that asks, and a reply
abbrev pub EventsSendFew : Type 0
EventsSendFew =
    (head : Head) (events : List Event) (event : Event)
    → length (step (run head events) event).packets ≤ length (run head events).packets + most_sends
