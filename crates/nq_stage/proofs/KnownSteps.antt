-- Over each step of a client its delayed writes and pushes carry the bodies of their writes.
use Rattle.std.proofs.Common.{◌≡◌, ◌<◌, ◌^◌, ℕ, ◌+◌, Bool, true, false, Some, None, refl, subst, arith}
use Rattle.nq_base.specs.declared.Answer.{Answer}
use Rattle.nq_base.specs.declared.Call.{Call}
use Rattle.nq_base.specs.declared.Request.{Request}
use Rattle.nq_base.specs.declared.Value.{Value}
use Rattle.nq_base.specs.declared.Who.{Who}
use Rattle.nq_model.specs.protocol.Client.{Client, ClientStep, Job, begun, for_call}
use Rattle.nq_model.specs.protocol.ClientStep.{begins_call, is_called, sends_unless_cached, says_busy, client_call, at_time, sends_again, client_tick}
use Rattle.nq_model.specs.protocol.ClientStep.{fresh_client, starts, next_incarnation, restart}
use Rattle.nq_model.specs.protocol.Hear.{replied, cancels, evicted, hear}
use Rattle.nq_model.specs.protocol.Message.{Message}
use Rattle.nq_model.specs.protocol.Send.{sends_request, after_seq, gives_up, send_next}
use Rattle.nq_model.specs.protocol.Settle.{names_losses, delays, settle}
use Rattle.nq_stage.specs.Theorem.{BringsBlock}
use Rattle.walk_steps.proofs.ClientFacts.{Alone}
use Rattle.walk_steps.proofs.ClientMoves.{some-same, none-some}
use Rattle.walk_steps.proofs.SendCases.{send-cases}
use Rattle.walk_steps.proofs.SettleCases.{settle-cases}
use Rattle.walk_steps.proofs.StepCases.{call-cases, unless-cached-cases, tick-cases, heard-cases}
use Rattle.nq_stage.proofs.KnownBodies.{Bodies, Asks, KnowsIn}
use Rattle.nq_stage.proofs.KnownClient.{later, answered, named, read-knows, delayed, marked, replied-knows, evicted-knows}
use Rattle.nq_stage.proofs.KnownClient.{begins, busy, calls, timed, again, sends-know, seq-knows, gives-knows, push-knows, through-knows}

-- ---- whole steps, each of which gives two numbers at most

module _ (g : Bodies) (old : Who) (most : ℕ) where
  pub sends : (in_tick : Bool) (t : ClientStep) → KnowsIn g old most t → KnowsIn g old (most + 1) (send_next in_tick t)
  sends in_tick t m =
      let k = later g old most t m in
      let s = seq-knows g old (most + 1) t k in
      send-cases in_tick t (KnowsIn g old (most + 1)) (record {
        stays_asking = λ ticket is. k;
        stays = λ free nothing. k;
        pushing = λ file p free first of. push-knows g old (most + 1) t file p first k;
        creating = λ u name blocks f op. sends-know g old (most + 1) (after_seq t) for_call _ s tt;
        looking_up = λ u name f op. sends-know g old (most + 1) t for_call _ k tt;
        getting_attributes = λ u file f op. sends-know g old (most + 1) t for_call _ k tt;
        reading = λ u file block f op. sends-know g old (most + 1) t for_call _ k tt;
        fetching = λ u file block f op. sends-know g old (most + 1) t for_call _ k tt;
        writing = λ u file block body f op through. through-knows g old most t file block body m;
        leasing = λ u file block body f op through shares. sends-know g old (most + 1) t for_call _ k tt;
        putting = λ u file block body f op written. through-knows g old most t file block body m;
        resizing = λ u file blocks f op clean. changes t file _ k (λ now. tt);
        removing = λ u file f op clean. changes t file _ k (λ now. tt);
        renewing = λ file lease ticks free nothing unpaused due held of clean unnoticed. sends-know g old (most + 1) t Job.renewing _ k tt;
      })
    where
      changes : (t : ClientStep) (file : ℕ) (r : Request) → KnowsIn g old (most + 1) t → ((now : Bodies) → Asks now r) → KnowsIn g old (most + 1)
          (sends_request (after_seq (gives_up t file)) for_call r)
      changes t file r k asks =
          let s = seq-knows g old (most + 1) (gives_up t file) (gives-knows g old (most + 1) t file k) in
          sends-know g old (most + 1) (after_seq (gives_up t file)) for_call r s (asks s.now)

  pub settled : most < 2 ^ 32 → (t : ClientStep) → KnowsIn g old most t → KnowsIn g old (most + 1) (settle t)
  settled small t m =
      let k = later g old most t m in
      settle-cases t (KnowsIn g old (most + 1)) (record {
        idle = λ none. k;
        asking = λ u is own. k;
        read_out = λ u file block lease is read can out. answered g old (most + 1) t u.q Answer.Range None k;
        reading = λ u file block lease body is read can below has. read-knows g old (most + 1) t u file block body k;
        read_waits = λ u file block is read waits. k;
        write_out = λ u sync file block body lease is write can out. answered g old (most + 1) t u.q Answer.Range None k;
        write_full = λ u sync file block body lease is write can below full. answered g old (most + 1) t u.q Answer.DirtyFull None k;
        writing = λ u file block body lease is write can below room.
            answered g old (most + 1) (delays t file block body) u.q (Answer.Ok Value.Nothing) None
            (delayed g old most t file block body small (subst BringsBlock write (m.called u is.called)) m);
        putting = λ u file block body lease is put written can below room.
            marked g old (most + 1) (delays t file block body) u (m.called u is.called)
            (delayed g old most t file block body small (subst BringsBlock put (m.called u is.called)) m);
        write_waits = λ u sync file block body is write waits. k;
        syncing = λ u file is sync clean. answered g old (most + 1) t u.q (Answer.Ok Value.Nothing) None k;
        sync_waits = λ u file is sync dirty. k;
        others = λ u is needs. k;
      })

module _ (g : Bodies) (old : Who) (most : ℕ) (small : most < 2 ^ 32) where
  goes-on : (in_tick : Bool) (t : ClientStep) → KnowsIn g old most t → KnowsIn g old (most + 1 + 1) (send_next in_tick (settle t))
  goes-on in_tick t m = sends g old (most + 1) in_tick (settle t) (settled g old most small t m)

  later-twice : (t : ClientStep) → KnowsIn g old most t → KnowsIn g old (most + 1 + 1) t
  later-twice t m = later g old (most + 1) t (later g old most t m)

  unless-cached : (t : ClientStep) → KnowsIn g old most t → KnowsIn g old (most + 1 + 1) (sends_unless_cached (settle t))
  unless-cached t m = unless-cached-cases (settle t) (KnowsIn g old (most + 1 + 1)) (λ e. later g old (most + 1) (settle t)
      (settled g old most small t m)) (λ e. goes-on false t m)

  pub call-knows : (c : Client) (op : Call) → BringsBlock op → KnowsIn g old most (begun c) → KnowsIn g old (most + 1 + 1) (client_call c op)
  call-knows c op brings m = call-cases c op (KnowsIn g old (most + 1 + 1)) (record {
    busy = λ why. later-twice (says_busy (begins_call c op)) (busy g old most c op m);
    telling = λ file loss losses none on of some. later-twice (names_losses (begins_call c op) (begins_call c op).client.calls file)
        (named g old most (begins_call c op) (begins_call c op).client.calls file (begins g old most c op m));
    going = λ none on unlost. unless-cached (is_called (begins_call c op) op) (calls g old most c op brings m);
  })

  pub tick-knows : (c : Client) (now : ℕ) → KnowsIn g old most (begun c) → KnowsIn g old (most + 1 + 1) (client_tick c now)
  tick-knows c now m = tick-cases c now (KnowsIn g old (most + 1 + 1)) (record {
    again = λ ticket is due. later-twice (sends_again (begun (at_time c now)) ticket) (again g old most c now ticket is m);
    quiet = λ ticket is early. later-twice (begun (at_time c now)) (timed g old most c now m);
    free = λ free. goes-on true (begun (at_time c now)) (timed g old most c now m);
  })

  pub hear-knows : (c : Client) (k : ℕ) (m : Message) (t : ClientStep) → Alone c → hear c k m ≡ Some t → KnowsIn g old most (begun c)
      → KnowsIn g old (most + 1 + 1) t
  hear-knows c k m t alone hears h = heard-cases c k m t (KnowsIn g old (most + 1 + 1)) hears (record {
    answered = λ xid r ticket is has same inc counts. goes-on false (replied (begun c) k ticket r) (replied-knows g old most c k ticket r
        (alone.asking.ticketed ticket has).fits counts h);
    noticed = λ xid file tag is early. goes-on false (evicted (cancels (begun c) file) file tag) (evicted-knows g old most (begun c) file tag h);
  })

-- a new incarnation has written nothing
pub restart-knows : (g : Bodies) (old : Who) (most : ℕ) (c : Client) → KnowsIn g old most (begun c) → KnowsIn g (next_incarnation c.who)
    (most + 1 + 1) (restart c)
unfolding starts fresh_client
restart-knows g old most c m = record {
  kept = refl;
  host = m.host;
  inc = let i = m.inc in omega arith;
  few = omega arith;
  now = m.now;
  more = m.more;
  others = m.others;
  one = m.one;
  fit = m.fit;
  fresh = λ v b i own. let f = m.fresh v b i own in (let least = f.0 in omega arith, λ e. let least = f.0 in absurd (omega arith));
  called = λ u e. none-some u e;
  listed = tt;
  apart = tt;
  pushes = λ p e. none-some p e;
  asked = λ t e. subst (λ z. Asks m.now z.request) (some-same _ t e) tt;
  sent = (tt, tt);
}
