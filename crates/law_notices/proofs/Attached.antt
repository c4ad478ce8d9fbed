-- A client that is attached stays so, and a call leaves its notices.
use Rattle.std.proofs.Common.{◌≡◌, ℕ, ◌+◌, true, false, List, Some, refl, sym, subst, ap, ◌∙◌}
use Rattle.std.specs.Prelude.{slice_get}
use Rattle.nq_base.specs.declared.Call.{Call}
use Rattle.nq_base.specs.declared.Event.{Event}
use Rattle.nq_base.specs.declared.Grant.{Grant}
use Rattle.nq_base.specs.declared.Reply.{Reply}
use Rattle.nq_base.specs.declared.Tag.{Tag}
use Rattle.nq_model.specs.protocol.Client.{Client, ClientStep, Ticket, begun}
use Rattle.nq_model.specs.protocol.ClientStep.{begins_call, is_called, says_busy, client_call, client_tick}
use Rattle.nq_model.specs.protocol.Hear.{hear, inc_of, reply_counts, goes_on, replied}
use Rattle.nq_model.specs.protocol.Lines.{Play}
use Rattle.nq_model.specs.protocol.Message.{Message, Packet, reply}
use Rattle.nq_model.specs.protocol.Send.{sends_request, after_seq, after_number, takes_push, gives_up, send_next}
use Rattle.nq_model.specs.protocol.Settle.{answers, after_read, reads_cached, after_write, marks_written, settle}
use Rattle.nq_model.specs.protocol.World.{Head, step}
use Rattle.walk_steps.proofs.ClientCases.{Core, Closed}
use Rattle.walk_steps.proofs.ClientFacts.{Alone}
use Rattle.walk_steps.proofs.ClientMoves.{some-same}
use Rattle.walk_steps.proofs.ClientWalk.{reply-keeps, notice-keeps, call-keeps}
use Rattle.walk_steps.proofs.Packets.{Told}
use Rattle.walk_steps.proofs.SendCases.{send-cases}
use Rattle.walk_steps.proofs.ServerKnows.{NoneHeard, NoneGiven}
use Rattle.walk_steps.proofs.SettleCases.{settle-cases}
use Rattle.walk_steps.proofs.StepCases.{call-cases, unless-cached-cases, heard-cases}
use Rattle.walk_steps.proofs.Worlds.{IsAt, given-by}
use Rattle.law_rounds.proofs.Attaching.{tick-stays}
use Rattle.law_timely.proofs.Moves.{Moves, stays, called, ticked, heard, moves, is-at, mail-at}
use Rattle.law_timely.proofs.Parts.{During}

-- ---- notices

settle-notices : (t : ClientStep) → (settle t).client.notices ≡ t.client.notices
unfolding answers after_read reads_cached after_write marks_written
settle-notices t = settle-cases t (λ (u : ClientStep). u.client.notices ≡ t.client.notices) (record {
  idle = λ none. refl;
  asking = λ v has own. refl;
  read_out = λ v file block lease is read can out. refl;
  reading = λ v file block lease body is read can below has. refl;
  read_waits = λ v file block is read waits. refl;
  write_out = λ v sync file block body lease is write can out. refl;
  write_full = λ v sync file block body lease is write can below full. refl;
  writing = λ v file block body lease is write can below room. refl;
  putting = λ v file block body lease is put first can below room. refl;
  write_waits = λ v sync file block body is write waits. refl;
  syncing = λ v file is sync clean. refl;
  sync_waits = λ v file is sync dirty. refl;
  others = λ v is needs. refl;
})

next-notices : (t : ClientStep) → (send_next false t).client.notices ≡ t.client.notices
unfolding sends_request after_seq after_number takes_push gives_up
next-notices t = send-cases false t (λ (u : ClientStep). u.client.notices ≡ t.client.notices) (record {
  stays_asking = λ ticket is. refl;
  stays = λ free none. refl;
  pushing = λ file p free first one. refl;
  creating = λ v name blocks free is. refl;
  looking_up = λ v name free is. refl;
  getting_attributes = λ v file free is. refl;
  reading = λ v file block free is. refl;
  fetching = λ v file block free is. refl;
  writing = λ v file block body free is through. refl;
  leasing = λ v file block body free is through shares. refl;
  putting = λ v file block body free is written. refl;
  resizing = λ v file blocks free is clean. refl;
  removing = λ v file free is clean. refl;
  renewing = λ file lease ticks free none unpaused due held one clean unnoticed. refl;
})

pub call-notices : (c : Client) (op : Call) → (client_call c op).client.notices ≡ c.notices
unfolding begins_call is_called says_busy answers
call-notices c op = call-cases c op (λ (t : ClientStep). t.client.notices ≡ c.notices) (record {
  busy = λ why. refl;
  telling = λ file loss losses free on changes of. refl;
  going = λ free on none. unless-cached-cases (settle (is_called (begins_call c op) op)) (λ (t : ClientStep). t.client.notices ≡ c.notices)
      (λ cached. settle-notices (is_called (begins_call c op) op))
      (λ other. next-notices (settle (is_called (begins_call c op) op)) ∙ settle-notices (is_called (begins_call c op) op));
})

-- ---- who is attached

abbrev On : Core → Type 0
On k = k.attached ≡ true

on-closed : (Heard : ℕ → Tag → Type 0) (Given : ℕ → Grant → ℕ → Type 0) → Closed Heard Given On
on-closed Heard Given = record {
  uses = λ k file g. g;
  drops = λ k file g. g;
  vacates = λ k file tag can g. g;
  asks = λ k job request none can g. g;
  decides = λ k job request draws can g. g;
  again = λ k t is g. g;
  holds = λ k file gr sent given free unnoticed g. g;
  cancels = λ k file g. g;
  notes = λ k file tag heard g. g;
}

call-on : (c : Client) (op : Call) → Alone c → c.attached ≡ true → (client_call c op).client.attached ≡ true
call-on c op alone on = (call-keeps (on-closed NoneHeard NoneGiven) c op alone on).core

reply-on : (host : ℕ) (c : Client) (ps : List Packet) (k : ℕ) (r : Reply) (ticket : Ticket) → IsAt host c ps → Told ps host (reply ticket.xid r)
    → c.ticket ≡ Some ticket → inc_of r ≡ c.who.inc → reply_counts r ticket ≡ true → c.attached ≡ true
    → (goes_on (replied (begun c) k ticket r)).client.attached ≡ true
reply-on host c ps k r ticket a sent asks inc counts on =
    let there : Told ps c.who.host (reply ticket.xid r) = subst (λ h. Told ps h (reply ticket.xid r)) (sym a.here) sent in
    (reply-keeps (on-closed NoneHeard (given-by ticket)) c k ticket r (record {
      asked = asks;
      counts = counts;
      alone = a.alone;
      spent = λ other. on;
      attached = λ job. refl;
      brings = λ file on_file g grants. (on_file, (a.mail.replied ticket.xid r there inc).wants ticket asks refl g grants file on_file);
      only = λ file g at given. given;
    })).core

hear-on : (host : ℕ) (c : Client) (ps : List Packet) (k : ℕ) (m : Message) (t : ClientStep) → IsAt host c ps → Told ps host m → hear c k m ≡ Some t
    → c.attached ≡ true → t.client.attached ≡ true
hear-on host c ps k m t a sent hears on = heard-cases c k m t (λ (u : ClientStep). u.client.attached ≡ true) hears (record {
  answered = λ xid r ticket is asks own inc counts. reply-on host c ps k r ticket a
      (subst (λ n. Told ps host n) (is ∙ ap (λ n. reply n r) own) sent) asks inc counts on;
  noticed = λ xid file tag is older. (notice-keeps (on-closed (λ f v. Unit {0}) NoneGiven) c file tag tt (λ g at bad. bad) a.alone on).core;
})

module _ (most : ℕ) (head : Head) (host : ℕ) where
  abbrev pub IsOn : Play → Type 0
  IsOn p = (c : Client) → slice_get p.world.clients host ≡ Some c → c.attached ≡ true

  pub on-event : (dead : List ℕ) (p : Play) (e : Event) → During most head dead p e → IsOn p → (d : Client)
      → slice_get (step p.world e).clients host ≡ Some d → d.attached ≡ true
  on-event dead p e during all d there = by (moves most head host dead p e during d there)
    where
      new-on : (t : ClientStep) → d ≡ t.client → t.client.attached ≡ true → d.attached ≡ true
      new-on t new on = ap (λ (x : Client). x.attached) new ∙ on

      by : Moves most head host p e d → d.attached ≡ true
      by (stays at) = all d at
      by (called c op is at new) = new-on (client_call c op) new (call-on c op (is-at most head host p during.before c at).alone (all c at))
      by (ticked c is at new to) = new-on (client_tick c (c.now + 1)) new (tick-stays c (is-at most head host p during.before c at).alone (all c at))
      by (heard c k z t is sent to at hears new leads) = new-on t new (hear-on host c p.world.packets k z.message t
          (is-at most head host p during.before c at) (mail-at most head host p during.before k z sent to) hears (all c at))

  -- a call leaves the notices of each client
  pub notices-stay : (dead : List ℕ) (p : Play) (h : ℕ) (op : Call) → During most head dead p (Event.Call h op) → (d : Client)
      → slice_get (step p.world (Event.Call h op)).clients host ≡ Some d
      → (c : Client) → slice_get p.world.clients host ≡ Some c → d.notices ≡ c.notices
  notices-stay dead p h op during d there c at = by (moves most head host dead p (Event.Call h op) during d there)
    where
      one : (x : Client) → slice_get p.world.clients host ≡ Some x → x.notices ≡ c.notices
      one x there_is = ap (λ (y : Client). y.notices) (some-same x c (sym there_is ∙ at))

      by : Moves most head host p (Event.Call h op) d → d.notices ≡ c.notices
      by (stays was) = one d was
      by (called x other is was new) = ap (λ (y : Client). y.notices) new ∙ call-notices x other ∙ one x was
      by (ticked x is was new to) = absurd (cc)
      by (heard x k z t is sent to was hears new leads) = absurd (cc)
