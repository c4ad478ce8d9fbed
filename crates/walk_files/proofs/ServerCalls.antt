-- What a step of the server does, as the calls of each client see it; and that what is known of them is kept.
use Rattle.std.proofs.Common.{◌≡◌, ◌≢◌, ◌<◌, ◌≤◌, ◌⊎◌, ℕ, ◌+◌, Bool, true, false, List, [], ◌∷◌, ◌++◌, Some, None, length, refl, sym, subst, ap, ◌∙◌}
use Rattle.std.proofs.Common.{arith, inl, inr}
use Rattle.std.specs.Prelude.{⊤, slice_get}
use Rattle.std.proofs.lemmas.List.{length-append}
use Rattle.nq_base.specs.declared.Entry.{Entry}
use Rattle.nq_base.specs.declared.Event.{Event}
use Rattle.nq_base.specs.declared.HostRow.{HostRow}
use Rattle.nq_base.specs.declared.Refusal.{Refusal}
use Rattle.nq_base.specs.declared.Reply.{Reply}
use Rattle.nq_base.specs.declared.Request.{Request}
use Rattle.nq_base.specs.declared.Verdict.{Verdict}
use Rattle.nq_base.specs.declared.Who.{Who}
use Rattle.walk_files.proofs.CallFacts.{JournalFits, CallsAt, IsBounded, IsDone, NoneDone, Pending, calls-more}
use Rattle.walk_files.proofs.CallMoves.{pending-more}
use Rattle.walk_files.proofs.CallWorlds.{IsRefused, CallsKnown, all-below-more, each-append, calls-of-more, open-fits-later, open-ticket, open-known}
use Rattle.walk_files.proofs.ClientEvents.{CallsOf}
use Rattle.walk_files.proofs.ClientMoves.{IsBelow}
use Rattle.walk_files.proofs.Quiet.{IsNoCall, IsNoChange, IsQuiet, OpenFits, read-fits-later}
use Rattle.walk_steps.proofs.ClientFacts.{fits_job}
use Rattle.walk_steps.proofs.ClientMoves.{some-same, none-some}
use Rattle.nq_model.specs.protocol.Client.{Client, Job, attaching, for_call, renewing, pushing, Ticket}
use Rattle.nq_model.specs.protocol.Kept.{host_row}
use Rattle.nq_model.specs.protocol.Message.{Packet, reply, asker, sequence_of}
use Rattle.nq_model.specs.protocol.Server.{ServerStep, to_host}
use Rattle.nq_model.specs.protocol.World.{World, after_server}
use Rattle.walk_steps.proofs.OpenAt.{IsOpenAt, OneOpenAt, Opens}
use Rattle.walk_steps.proofs.Sequences.{asked-before-server}
use Rattle.walk_steps.proofs.HostLine.{LineFits}
use Rattle.walk_steps.proofs.KnownWorlds.{Known}
use Rattle.walk_steps.proofs.Packets.{In, in-append, Asked, Told, Mail}
use Rattle.walk_steps.proofs.ServerSays.{AllSaid}
use Rattle.walk_steps.proofs.Worlds.{Holds}

-- ---- refusals

-- why a request is refused, by the line of its host after the step
pub data IsWhy (line : HostRow) (r : Request) (who : Who) : Type 0 where
  undrawn : sequence_of r ≡ None → IsWhy line r who
  unattached : line.inc < who.inc → IsWhy line r who
  is_past : (n : ℕ) → sequence_of r ≡ Some n → n < line.seq → IsWhy line r who
  otherwise : (line.verdict ≡ Verdict.Done → ⊥) → IsWhy line r who

pub record Refuses (ps : List Packet) (line : HostRow) (host x inc : ℕ) : Type 0 where
  pub asks : Request
  pub who : Who
  pub sent : Asked ps host x asks
  pub by : asker asks ≡ Some who
  pub same : inc ≡ who.inc
  pub why : IsWhy line asks who

abbrev pub AllRefuse : List Packet → (ℕ → HostRow) → List Packet → Type 0
AllRefuse ps line sends = (host x inc : ℕ) (status : Refusal) → In sends (to_host host (reply x (Reply.Refused inc status))) → Refuses ps (line host)
    host x inc

-- such a refusal is of no request that was done
refused-undone : (c : Client) (ps : List Packet) (line : HostRow) (number : ℕ) (journal : List Entry) (k : Ticket) → Mail c.who c.xid c.ticket ps
    → c.ticket ≡ Some k → ((n : ℕ) → sequence_of k.request ≡ Some n → c.seq ≡ n + 1) → (line.inc ≡ c.who.inc → line.seq < c.seq)
    → Refuses ps line c.who.host k.xid c.who.inc → IsDone line c.who k → ⊥
refused-undone c ps line number journal k m is drawn below f d = case f.why
  where
    one : k.request ≡ f.asks
    one = (m.asked k.xid f.asks f.who f.sent f.by).same (sym f.same) k is refl

    case : IsWhy line f.asks f.who → ⊥
    case (undrawn none) = none-some d.seq (sym none ∙ ap sequence_of (sym one) ∙ d.draws)
    case (unattached above) = let inc = d.inc in let same = f.same in omega arith
    case (is_past n q old) =
        let e : n ≡ d.seq = some-same n d.seq (sym q ∙ ap sequence_of (sym one) ∙ d.draws) in let a = drawn d.seq d.draws in let b = below d.inc in
        omega arith
    case (otherwise undone) = undone d.verdict

-- ---- outcomes

-- a request that changes a file at once
abbrev pub IsChange : Request → Type 0
IsChange (Request.Write who seq file block first last None body) = ⊤
IsChange (Request.Resize who seq q file blocks) = ⊤
IsChange (Request.Remove who seq q file) = ⊤
IsChange other = ⊥

change-for-call : (job : Job) (r : Request) → fits_job job r ≡ true → IsChange r → job ≡ for_call
change-for-call for_call r e h = refl
change-for-call attaching (Request.Attach who) e h = absurd h
change-for-call attaching r e h = absurd (cc)
change-for-call renewing (Request.GetLease who file want) e h = absurd h
change-for-call renewing r e h = absurd (cc)
change-for-call pushing (Request.Write who seq file block first last (Some base) body) e h = absurd h
change-for-call pushing r e h = absurd (cc)

-- an entry of the step, as a client at a host sees it
pub record IsStill (host : ℕ) (c : Client) (e : Entry) : Type 0 where
  pub quiet : (v : Who) → v.host ≡ host → IsQuiet v e
  pub bounded : IsBounded c.who c.calls c.number e

pub record IsMade (host inc : ℕ) (c : Client) (e : Entry) : Type 0 where
  pub no_call : (v : Who) → v.host ≡ host → IsNoCall v e
  pub no_change : (v : Who) → v.host ≡ host → v.inc ≢ inc → IsNoChange v e
  pub bounded : IsBounded c.who c.calls c.number e

-- what the step does at a client's host
pub data Outcome (w : World) (t : ServerStep) (host : ℕ) (c : Client) : Type 0 where
  -- the line stays
  line_same : host_row t.server.kept host ≡ host_row w.server.kept host → ((e : Entry) → In t.entries e → IsStill host c e) → Outcome w t host c
  -- an open request is decided
  line_decided : (x : ℕ) (r : Request) (o : IsOpenAt (host_row w.server.kept host) w.packets host x r)
      → (host_row t.server.kept host).inc ≡ (host_row w.server.kept host).inc → (host_row t.server.kept host).seq ≡ o.seq
      → ((e : Entry) → In t.entries e → IsMade host (host_row w.server.kept host).inc c e)
      → (((host_row t.server.kept host).verdict ≡ Verdict.Done) × IsChange r)
      ⊎ ((e : Entry) → In t.entries e → (v : Who) → v.host ≡ host → IsNoChange v e) → Outcome w t host c
  -- an incarnation begins
  line_begins : (host_row w.server.kept host).inc < (host_row t.server.kept host).inc → (host_row t.server.kept host).seq ≡ 0 → (x : ℕ) (who : Who)
      → Asked w.packets host x (Request.Attach who) → who.inc ≡ (host_row t.server.kept host).inc → t.entries ≡ [] → Outcome w t host c

pub record ServerDoes (w : World) (t : ServerStep) : Type 0 where
  pub journal : JournalFits (t.entries ++ w.journal)
  pub below : (e : Entry) → In t.entries e → IsBelow (length (w.packets ++ t.sends)) e
  pub refuses : AllRefuse w.packets (λ host. host_row t.server.kept host) t.sends
  pub outcome : (host : ℕ) (c : Client) → slice_get w.clients host ≡ Some c → Outcome w t host c

-- ---- one client

-- another line, and more refusals
calls-of-line : (line after : HostRow) (Refused More : ℕ → Type 0) (c : Client) (journal : List Entry)
    → (NoneDone after c.who c.ticket → NoneDone line c.who c.ticket) → (after.inc ≡ c.who.inc → after.seq < c.seq)
    → ((k : Ticket) (n : ℕ) → c.ticket ≡ Some k → k.job ≡ for_call → sequence_of k.request ≡ Some n → (after.inc ≡ c.who.inc → after.seq < n)
    → OpenFits k.request journal) → ((k : Ticket) → c.ticket ≡ Some k → More k.xid → IsDone after c.who k → ⊥) → CallsOf line Refused c journal
    → CallsOf after More c journal
calls-of-line line after Refused More c journal undone drawn opens refused h = record {
  calls_fit = h.calls_fit;
  pending = record {
    unwritten = λ u is plain idle. h.pending.unwritten u is plain (undone idle);
    unresized = λ u is idle. h.pending.unresized u is (undone idle);
    put_only = h.pending.put_only;
  };
  asks = record {
    positive = h.asks.positive;
    line_drawn = drawn;
    ticketed =
        λ k is. let f = h.asks.ticketed k is in
        record {
          asks = f.asks;
          drawn = f.drawn;
          reads = f.reads;
          numbered = f.numbered;
          opens = λ n job q undecided. opens k n is job q undecided;
          refused = refused k is;
        };
    sent = h.asks.sent;
  };
}

-- entries that are no calls
calls-at-more : (who : Who) (calls number : ℕ) (c : Client) (entries journal : List Entry)
    → ((e : Entry) → In entries e → IsNoCall c.who e × IsBounded c.who c.calls c.number e) → CallsAt c.who c.calls c.number c.call journal
    → CallsAt c.who c.calls c.number c.call (entries ++ journal)
calls-at-more who calls number c [] journal each h = h
calls-at-more who calls number c (e ∷ entries) journal each h =
    let k = each e (inl refl) in calls-more c.who c.calls c.number c.call e (entries ++ journal) k.0 k.1
    (calls-at-more who calls number c entries journal (λ f i. each f (inr i)) h)

pending-later : (line : HostRow) (c : Client) (entries journal : List Entry) → ((e : Entry) → In entries e → IsNoChange c.who e)
    → Pending line c.who c.call c.ticket journal → Pending line c.who c.call c.ticket (entries ++ journal)
pending-later line c [] journal each h = h
pending-later line c (e ∷ entries) journal each h =
    pending-more line c.who c.call c.ticket e (entries ++ journal) (each e (inl refl)) (pending-later line c entries journal (λ f i. each f (inr i)) h)

module _ (w : World) (events : List Event) (t : ServerStep) (held : Holds w) (known : Known w events) (g : CallsKnown w) (does : ServerDoes w t)
    (host : ℕ) (c : Client) (is : slice_get w.clients host ≡ Some c) where
  abbrev line : HostRow
  line = host_row w.server.kept host

  abbrev after : HostRow
  after = host_row t.server.kept host

  abbrev here : c.who.host ≡ host
  here = (held.clients host c is).here

  lined : LineFits c.who c.attached c.ticket c.notices (host_row w.server.kept host) w.packets
  lined = (known.clients host c is).lined

  -- a refusal that is told after the step
  refused-after : (after.inc ≡ c.who.inc → after.seq < c.seq) → (k : Ticket) → c.ticket ≡ Some k
      → ((status : Refusal) → Told w.packets c.who.host (reply k.xid (Reply.Refused c.who.inc status)) → IsDone after c.who k → ⊥)
      → IsRefused (w.packets ++ t.sends) c.who k.xid → IsDone after c.who k → ⊥
  refused-after below k has old (status, told) done = case (in-append w.packets t.sends _ told)
    where
      case : Told w.packets c.who.host (reply k.xid (Reply.Refused c.who.inc status))
          ⊎ In t.sends (to_host c.who.host (reply k.xid (Reply.Refused c.who.inc status))) → ⊥
      case (inl there) = old status there done
      case (inr new) =
          refused-undone c w.packets after 0 w.journal k (held.clients host c is).mail has ((g.clients host c is).asks.ticketed k has).drawn below
          (subst (λ n. Refuses w.packets (host_row t.server.kept n) c.who.host k.xid c.who.inc) here (does.refuses c.who.host k.xid c.who.inc status new)) done

  after-same : after ≡ line → ((e : Entry) → In t.entries e → IsStill host c e)
      → CallsOf after (IsRefused (w.packets ++ t.sends) c.who) c (t.entries ++ w.journal)
  after-same same still =
      let h = calls-of-more line (IsRefused w.packets c.who) c t.entries w.journal (λ e i. let s = still e i in (s.quiet c.who here, s.bounded))
      (g.clients host c is) in
      let below : after.inc ≡ c.who.inc → after.seq < c.seq = subst (λ l. l.inc ≡ c.who.inc → l.seq < c.seq) (sym same) h.asks.line_drawn in
      calls-of-line line after (IsRefused w.packets c.who) (IsRefused (w.packets ++ t.sends) c.who) c (t.entries ++ w.journal)
      (λ idle. subst (λ l. NoneDone l c.who c.ticket) same idle)
      below
      (λ k n has job q undecided. (h.asks.ticketed k has).opens n job q (subst (λ l. l.inc ≡ c.who.inc → l.seq < n) same undecided))
      (λ k has. refused-after below k has (λ status told done. (h.asks.ticketed k has).refused (status, told) (subst (λ l. IsDone l c.who k) same done)))
      h

  after-begins : line.inc < after.inc → after.seq ≡ 0 → (x : ℕ) (who : Who) → Asked w.packets host x (Request.Attach who) → who.inc ≡ after.inc
      → t.entries ≡ [] → CallsOf after (IsRefused (w.packets ++ t.sends) c.who) c (t.entries ++ w.journal)
  after-begins later zero x who sent inc none =
      subst (λ es. CallsOf after (IsRefused (w.packets ++ t.sends) c.who) c (es ++ w.journal)) (sym none)
      (calls-of-line line after (IsRefused w.packets c.who) (IsRefused (w.packets ++ t.sends) c.who) c w.journal
      (λ idle k has d. not-for-call k has d.job)
      (λ e. let p = (g.clients host c is).asks.positive in omega arith)
      (λ k n has job q undecided. absurd (not-for-call k has job))
      (λ k has told d. not-for-call k has d.job)
      (g.clients host c is))
    where
      up : who.inc ≤ c.who.inc
      up = ((held.clients host c is).mail.asked x (Request.Attach who) who (subst (λ n. Asked w.packets n x (Request.Attach who)) (sym here) sent) refl).inc

      unattached-yet : (b : Bool) → c.attached ≡ b → c.attached ≡ false
      unattached-yet false e = e
      unattached-yet true e = let same = lined.current e in let p = up in absurd (omega arith)

      not-for-call : (k : Ticket) → c.ticket ≡ Some k → k.job ≡ for_call → ⊥
      not-for-call k has job =
          let a = (held.clients host c is).alone.asking.waiting (unattached-yet c.attached refl) in
          let one : attaching ≡ for_call = sym a.job ∙ ap (λ z. z.job) (some-same a.request k (sym a.asks ∙ has)) ∙ job in
          absurd (cc)

  after-decided : (x : ℕ) (r : Request) (o : IsOpenAt line w.packets host x r) → after.inc ≡ line.inc → after.seq ≡ o.seq
      → ((e : Entry) → In t.entries e → IsMade host line.inc c e)
      → ((after.verdict ≡ Verdict.Done) × IsChange r) ⊎ ((e : Entry) → In t.entries e → (v : Who) → v.host ≡ host → IsNoChange v e)
      → CallsOf after (IsRefused (w.packets ++ t.sends) c.who) c (t.entries ++ w.journal)
  after-decided x r o inc seq made change = case (either line.inc c.who.inc lined.past)
    where
      either : (a b : ℕ) → a ≤ b → (a ≡ b) ⊎ (a < b)
      either a b h = grind arith

      over : line.inc < c.who.inc → CallsOf after (IsRefused (w.packets ++ t.sends) c.who) c (t.entries ++ w.journal)
      over later =
          let differs : c.who.inc ≢ line.inc = λ e. let k = later in omega arith in
          let h = calls-of-more line (IsRefused w.packets c.who) c t.entries w.journal
          (λ e i. let m = made e i in (record { no_call = m.no_call c.who here; no_change = m.no_change c.who here differs }, m.bounded))
          (g.clients host c is) in
          calls-of-line line after (IsRefused w.packets c.who) (IsRefused (w.packets ++ t.sends) c.who) c (t.entries ++ w.journal)
          (λ idle k has d. let e = d.inc in omega arith)
          (λ e. absurd (omega arith))
          (λ k n has job q undecided. (h.asks.ticketed k has).opens n job q (λ e. absurd (omega arith)))
          (λ k has told d. let e = d.inc in omega arith)
          h

      own : line.inc ≡ c.who.inc → CallsOf after (IsRefused (w.packets ++ t.sends) c.who) c (t.entries ++ w.journal)
      own kept =
          let h = g.clients host c is in
          let a = open-ticket w events held known host c is kept x r o in
          let draws : sequence_of a.0.request ≡ Some o.seq = ap sequence_of a.3 ∙ o.draws in
          let top : c.seq ≡ o.seq + 1 = (h.asks.ticketed a.0 a.1).drawn o.seq draws in
          let below : after.inc ≡ c.who.inc → after.seq < c.seq = λ e. omega arith in
          let number : (k : Ticket) (n : ℕ) → c.ticket ≡ Some k → sequence_of k.request ≡ Some n
          → n ≡ o.seq = λ k n has q. some-same n o.seq (sym q ∙ ap (λ z. sequence_of z.request) (some-same k a.0 (sym has ∙ a.1)) ∙ draws) in
          record {
            calls_fit = calls-at-more c.who c.calls c.number c t.entries w.journal (λ e i. let m = made e i in (m.no_call c.who here, m.bounded)) h.calls_fit;
            pending = pending change a.0 a.1 a.3 draws kept;
            asks = record {
              positive = h.asks.positive;
              line_drawn = below;
              ticketed = λ k has. let f = h.asks.ticketed k has in record {
                asks = f.asks;
                drawn = f.drawn;
                reads = read-fits-later k.request t.entries w.journal f.reads;
                numbered = f.numbered;
                opens = λ n job q undecided. let e = number k n has q in let u = undecided (inc ∙ kept) in absurd (omega arith);
                refused =
                    refused-after below k has (λ status told d. let e = number k d.seq has d.draws in
                    let old = lined.answered k.xid (Reply.Refused c.who.inc status) told refl k has refl d.seq d.draws in let y = old.decided in
                    let above = o.above in omega arith);
              };
              sent = λ y s i. absurd i;
            };
          }
        where
          pending : ((after.verdict ≡ Verdict.Done) × IsChange r) ⊎ ((e : Entry) → In t.entries e → (v : Who) → v.host ≡ host → IsNoChange v e)
              → (k : Ticket) → c.ticket ≡ Some k → k.request ≡ r → sequence_of k.request ≡ Some o.seq → line.inc ≡ c.who.inc
              → Pending after c.who c.call c.ticket (t.entries ++ w.journal)
          pending (inr none) k has one draws kept =
              let p = pending-later line c t.entries w.journal (λ e i. none e i c.who here) (g.clients host c is).pending in
              let idle : NoneDone line c.who c.ticket = λ j there d. let e : d.seq ≡ o.seq = some-same d.seq o.seq
              (sym d.draws ∙ ap (λ z. sequence_of z.request) (some-same j k (sym there ∙ has)) ∙ draws) in let decided = d.decided in
              let above = o.above in omega arith in
              record {
                unwritten = λ u under plain after_idle. p.unwritten u under plain idle;
                unresized = λ u under after_idle. p.unresized u under idle;
                put_only = p.put_only;
              }
          pending (inl done) k has one draws kept =
              let job : k.job ≡ for_call = change-for-call k.job k.request ((held.clients host c is).alone.asking.ticketed k has).fits
              (subst IsChange (sym one) done.1) in
              let d : IsDone after c.who k = record { job = job; seq = o.seq; draws = draws; inc = inc ∙ kept; decided = omega arith; verdict = done.0 } in
              record {
                unwritten = λ u under plain idle. absurd (idle k has d);
                unresized = λ u under idle. absurd (idle k has d);
                put_only = (g.clients host c is).pending.put_only;
              }

      case : (line.inc ≡ c.who.inc) ⊎ (line.inc < c.who.inc) → CallsOf after (IsRefused (w.packets ++ t.sends) c.who) c (t.entries ++ w.journal)
      case (inl kept) = own kept
      case (inr later) = over later

  client-after : Outcome w t host c → CallsOf after (IsRefused (w.packets ++ t.sends) c.who) c (t.entries ++ w.journal)
  client-after (line_same same still) = after-same same still
  client-after (line_decided x r o inc seq made change) = after-decided x r o inc seq made change
  client-after (line_begins later zero x who sent inc none) = after-begins later zero x who sent inc none

  -- an open request of an incarnation that is over was open before
  ended-after : AllSaid w.packets t.sends → OneOpenAt line w.packets host → Outcome w t host c → after.inc < c.who.inc → (x : ℕ) (r : Request)
      → IsOpenAt after (w.packets ++ t.sends) host x r → OpenFits r (t.entries ++ w.journal)
  ended-after said one (line_same same still) over x r p =
      let old : IsOpenAt line w.packets host x r = subst (λ l. IsOpenAt l w.packets host x r) same
      (record {
        who = p.who;
        seq = p.seq;
        asked = asked-before-server w.packets t.sends said host x r p.asked;
        by = p.by;
        kept = p.kept;
        draws = p.draws;
        above = p.above;
      }) in
      let by_host : p.who.host ≡ host =
      ((held.clients host c is).mail.asked x r p.who (subst (λ n. Asked w.packets n x r) (sym here) old.asked) p.by).host ∙ here in
      open-fits-later r p.who t.entries w.journal p.by (λ e i. (still e i).quiet p.who by_host) (open-known w events held known g host c is x r old)
  ended-after said one (line_decided y s o inc seq made change) over x r p =
      let above = p.above in
      let fresh = o.above in
      let old : IsOpenAt line w.packets host x r = record {
        who = p.who;
        seq = p.seq;
        asked = asked-before-server w.packets t.sends said host x r p.asked;
        by = p.by;
        kept = sym inc
            ∙ p.kept;
        draws = p.draws;
        above = omega arith;
      } in
      let same = one x y r s old o in
      let e : p.seq ≡ o.seq = some-same p.seq o.seq (sym p.draws ∙ ap sequence_of same.1 ∙ o.draws) in
      absurd (omega arith)
  ended-after said one (line_begins later zero y who sent inc none) over x r p =
      let kept = p.kept in
      let attach : r ≡ Request.Attach p.who = lined.above x r p.who
      (subst (λ n. Asked w.packets n x r) (sym here) (asked-before-server w.packets t.sends said host x r p.asked)) p.by (omega arith) in
      none-some p.seq (ap sequence_of (sym attach) ∙ p.draws)

-- ---- the world

pub server-known : (w : World) (events : List Event) (t : ServerStep) → AllSaid w.packets t.sends → Holds w → Known w events → Opens w → ServerDoes w t
    → CallsKnown w → CallsKnown (after_server w t)
unfolding after_server
server-known w events t said held known opens does g = record {
  journal = does.journal;
  below =
      each-append (IsBelow (length (w.packets ++ t.sends))) t.entries w.journal does.below
      (all-below-more w.journal (length w.packets) (length (w.packets ++ t.sends)) (omega (arith, length-append {A = Packet})) g.below);
  clients = λ host c is. client-after w events t held known g does host c is (does.outcome host c is);
  reads = λ host x r asked. read-fits-later r t.entries w.journal (g.reads host x r (asked-before-server w.packets t.sends said host x r asked));
  ended = λ host c is. ended-after w events t held known g does host c is said (opens.one host c is) (does.outcome host c is);
}
