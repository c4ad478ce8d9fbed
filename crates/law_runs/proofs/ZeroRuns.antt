-- In every run what no write has touched is zeros.
use Rattle.std.proofs.Common.{◌≡◌, ℕ, ◌+◌, ◌==◌, Bool, true, false, List, [], ◌∷◌, ◌++◌, Option, Some, None, if◌then◌else◌, length, refl, ap, ◌∙◌}
use Rattle.std.specs.Prelude.{slice_get}
use Rattle.nq_base.specs.Block.{zeros}
use Rattle.nq_base.specs.declared.Event.{Event}
use Rattle.nq_base.specs.declared.Party.{Party}
use Rattle.law_runs.proofs.BookSteps.{hear-keeps, tick-keeps, call-keeps}
use Rattle.nq_model.specs.laws.UntouchedAreZeros.{AreZeros, UntouchedAreZerosInEveryRun}
use Rattle.law_runs.proofs.ZeroFiles.{Untouched, get-replicate}
use Rattle.law_runs.proofs.ZeroSteps.{received, ticked, crashed, was-closed}
use Rattle.nq_model.specs.protocol.Client.{Client, ClientStep}
use Rattle.nq_model.specs.protocol.ClientStep.{client_call, client_tick, restart, starts}
use Rattle.nq_model.specs.protocol.Hear.{hear}
use Rattle.nq_model.specs.protocol.Kept.{File, find_file, new_file}
use Rattle.nq_model.specs.protocol.Message.{Message, Packet, datagram_of}
use Rattle.nq_model.specs.protocol.Server.{ServerStep}
use Rattle.nq_model.specs.protocol.ServerStep.{boot}
use Rattle.nq_model.specs.protocol.World.{Head, World, after_server, after_client, at_client, after_hearing, sending_host, deliver_to_client, deliver_to}
use Rattle.nq_model.specs.protocol.World.{deliver, first_files, start, step, run}
use Rattle.walk_steps.proofs.ClientMoves.{some-same, none-some}
use Rattle.walk_steps.proofs.Worlds.{Holds, run-holds}

abbrev Zeros : World → Type 0
Zeros w = AreZeros w.server.kept.files w.journal

server-zeros : (w : World) (t : ServerStep) → AreZeros t.server.kept.files (t.entries ++ w.journal) → Zeros (after_server w t)
unfolding after_server
server-zeros w t h = h

client-zeros : (w : World) (host : ℕ) (t : ClientStep)
    → ((file block : ℕ) → Untouched (t.entries ++ w.journal) file block → Untouched w.journal file block) → Zeros w → Zeros (after_client w host t)
unfolding after_client
client-zeros w host t was h id f block body found there none = h id f block body found there (was id block none)

at-client-zeros : (w : World) (host : ℕ) (f : Client → ClientStep) (o : Option Client)
    → ((c : Client) (file block : ℕ) → Untouched ((f c).entries ++ w.journal) file block → Untouched w.journal file block) → Zeros w
    → Zeros (at_client w host f o)
at-client-zeros w host f None was h = h
at-client-zeros w host f (Some c) was h = client-zeros w host (f c) (was c) h

hearing-zeros : (w : World) (k host : ℕ) (m : Message) (c : Client) (o : Option ClientStep) → hear c k m ≡ o → slice_get w.clients host ≡ Some c
    → Holds w → Zeros w → Zeros (after_hearing w host o)
hearing-zeros w k host m c None hears is held h = h
hearing-zeros w k host m c (Some t) hears is held h =
    client-zeros w host t (λ file block. hear-keeps (was-closed w.journal file block) w.journal c k m t
    (λ ticket has. ((held.clients host c is).alone.asking.ticketed ticket has).fits) hears (λ none. none)) h

to-client-zeros : (w : World) (k host : ℕ) (m : Message) (o : Option Client) → slice_get w.clients host ≡ o → Holds w → Zeros w
    → Zeros (deliver_to_client w k host m o)
to-client-zeros w k host m None is held h = h
to-client-zeros w k host m (Some c) is held h = hearing-zeros w k host m c (hear c k m) refl is held h

to-zeros : (w : World) (k : ℕ) (p : Packet) (to : Party) → Holds w → Zeros w → Zeros (deliver_to w k p to)
to-zeros w k p Party.Server held h = server-zeros w _ (received w.journal w.server h (sending_host p.sender) (length w.packets) (datagram_of p.message))
to-zeros w k p (Party.Client host) held h = to-client-zeros w k host p.message (slice_get w.clients host) refl held h

deliver-zeros : (w : World) (k : ℕ) (o : Option Packet) → Holds w → Zeros w → Zeros (deliver w k o)
deliver-zeros w k None held h = h
deliver-zeros w k (Some p) held h = to-zeros w k p p.to held h

restart-was : (w : World) (c : Client) (file block : ℕ) → Untouched ((restart c).entries ++ w.journal) file block → Untouched w.journal file block
unfolding starts
restart-was w c file block none = none

step-zeros : (w : World) (e : Event) → Holds w → Zeros w → Zeros (step w e)
step-zeros w (Event.Call host op) held h =
    at-client-zeros w host (λ c. client_call c op) (slice_get w.clients host)
    (λ c file block. call-keeps (was-closed w.journal file block) w.journal c op (λ none. none)) h
step-zeros w (Event.Deliver k) held h = deliver-zeros w k (slice_get w.packets k) held h
step-zeros w Event.ServerTick held h = server-zeros w _ (ticked w.journal w.server h (w.server.now + 1))
step-zeros w (Event.ClientTick host) held h =
    at-client-zeros w host (λ c. client_tick c (c.now + 1)) (slice_get w.clients host)
    (λ c file block. tick-keeps (was-closed w.journal file block) w.journal c (c.now + 1) (λ none. none)) h
step-zeros w (Event.Restart host) held h = at-client-zeros w host restart (slice_get w.clients host) (restart-was w) h
step-zeros w (Event.Crash longest) held h = server-zeros w _ (crashed w.journal w.server h longest)

-- ---- the start

first-zeros : (next : ℕ) (files : List (List ℕ × ℕ)) (id : ℕ) (f : File) (block : ℕ) (body : List ℕ) → find_file id (first_files next files) ≡ Some f
    → slice_get f.bodies block ≡ Some body → body ≡ zeros
unfolding new_file
first-zeros next [] id f block body found there = none-some f found
first-zeros next (file ∷ files) id f block body found there = at-first (next == id) found (first-zeros (next + 1) files id f block body)
  where
    at-first : (b : Bool) → (if b then Some (new_file next file.0 file.1) else find_file id (first_files (next + 1) files)) ≡ Some f
        → (find_file id (first_files (next + 1) files) ≡ Some f → slice_get f.bodies block ≡ Some body → body ≡ zeros) → body ≡ zeros
    at-first true e rest = get-replicate file.1 zeros block body (ap (λ z. slice_get z.bodies block) (some-same _ f e) ∙ there)
    at-first false e rest = rest e there

start-zeros : (head : Head) → Zeros (start head)
unfolding start boot
start-zeros head id f block body found there none = first-zeros 1 head.files id f block body found there

run-zeros : (head : Head) (events : List Event) → Zeros (run head events)
run-zeros head [] = start-zeros head
run-zeros head (e ∷ events) = step-zeros (run head events) e (run-holds head events) (run-zeros head events)

pub untouched : UntouchedAreZerosInEveryRun
untouched head events = run-zeros head events
