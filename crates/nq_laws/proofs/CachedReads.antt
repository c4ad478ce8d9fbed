-- In every run a client that has no call under way has no request of a call under way, so its cached reads are answered at
-- once.
use Rattle.std.proofs.Common.{◌≡◌, Bool, true, false, Option, Some, None, is_some, refl, ap}
use Rattle.walk_steps.proofs.ClientFacts.{Alone}
use Rattle.walk_steps.proofs.Worlds.{run-holds}
use Rattle.nq_model.specs.laws.CachedReadsAreAtOnce.{CachedAtOnceInEveryRun}
use Rattle.nq_model.proofs.CachedReads.{cached-at-once}
use Rattle.nq_model.specs.protocol.Client.{Client, Job, attaching, for_call, renewing, pushing, Ticket}
use Rattle.nq_model.specs.protocol.Settle.{is_for_call, ticket_is_for_call}

for-call : (job : Job) → is_for_call job ≡ true → job ≡ for_call
for-call for_call h = refl
for-call attaching h = cc
for-call renewing h = cc
for-call pushing h = cc

idle : (c : Client) → Alone c → c.call ≡ None → (o : Option Ticket) → c.ticket ≡ o → ticket_is_for_call o ≡ false
idle c a free None is = refl
idle c a free (Some t) is = step (is_for_call t.job) refl
  where
    step : (b : Bool) → is_for_call t.job ≡ b → is_for_call t.job ≡ false
    step false e = e
    step true e = let called : is_some c.call ≡ true = a.asking.called t is (for-call t.job e) in let none : is_some c.call ≡ false = ap is_some free in cc

pub cached-in-every-run : CachedAtOnceInEveryRun
cached-in-every-run head events host c file block lease body is ready =
    cached-at-once
    c
    file
    block
    lease
    body
    ready
    (idle c ((run-holds head events).clients host c is).alone ready.free c.ticket refl)
