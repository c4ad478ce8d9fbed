-- A call leaves a client that has no delayed writes, and no running lease to write, without them.
use Rattle.std.proofs.Common.{false}
use Rattle.nq_base.specs.declared.Call.{Call}
use Rattle.nq_model.specs.protocol.Client.{Client}
use Rattle.nq_model.specs.protocol.ClientStep.{begins_call, is_called, says_busy, client_call}
use Rattle.nq_model.specs.protocol.Settle.{answers, settle}
use Rattle.walk_steps.proofs.StepCases.{call-cases, unless-cached-cases}
use Rattle.law_rounds.proofs.Sleeping.{Asleep, Rest, settles, sends}

pub call-sleeps : (c : Client) (op : Call) → Asleep c → Asleep (client_call c op).client
unfolding begins_call is_called says_busy answers
call-sleeps c op h = call-cases c op Rest (record {
  busy = λ why. record { dirty = h.dirty; push = h.push; dead = h.dead };
  telling = λ file loss losses free on changes of. record { dirty = h.dirty; push = h.push; dead = h.dead };
  going = λ free on none. unless-cached-cases (settle (is_called (begins_call c op) op)) Rest (λ cached. settled)
      (λ other. sends false (settle (is_called (begins_call c op) op)) settled);
})
  where
    settled : Rest (settle (is_called (begins_call c op) op))
    settled = settles (is_called (begins_call c op) op) (record { dirty = h.dirty; push = h.push; dead = h.dead })
