-- What is known of all calls in a world, and that a client's step keeps it.
use Rattle.std.proofs.Common.{◌≡◌, ◌≢◌, ◌<◌, ◌≤◌, ◌⊎◌, ℕ, true, List, [], ◌∷◌, ◌++◌, Some, None, is_some, map, length, refl, sym, subst, ap, ◌∙◌}
use Rattle.std.proofs.Common.{arith, inl, inr}
use Rattle.std.specs.Prelude.{⊤, slice_get}
use Rattle.std.proofs.lemmas.List.{length-append}
use Rattle.nq_base.specs.declared.Entry.{Entry}
use Rattle.nq_base.specs.declared.Entry.TheVariants.{R, A}
use Rattle.nq_base.specs.declared.Event.{Event}
use Rattle.nq_base.specs.declared.HostRow.{HostRow}
use Rattle.nq_base.specs.declared.Refusal.{Refusal}
use Rattle.nq_base.specs.declared.Reply.{Reply}
use Rattle.nq_base.specs.declared.Request.{Request}
use Rattle.nq_base.specs.declared.Said.TheVariants.{OkBy}
use Rattle.nq_base.specs.declared.Who.{Who}
use Rattle.walk_files.proofs.CallFacts.{JournalFits, IsBounded, calls-more}
use Rattle.walk_files.proofs.CallMoves.{pending-more, asks-quiet}
use Rattle.walk_files.proofs.CallsFit.{entry_who}
use Rattle.walk_files.proofs.ClientEvents.{CallsOf}
use Rattle.walk_files.proofs.ClientMoves.{IsBelow, Doing}
use Rattle.walk_files.proofs.Quiet.{IsQuiet, foreign-quiet, OpenFits, open-fits-more, ReadFits, read-fits-later}
use Rattle.walk_steps.proofs.ClientFacts.{fits_job, push_in}
use Rattle.walk_steps.proofs.ClientMoves.{some-same}
use Rattle.nq_model.specs.protocol.Client.{Client, ClientStep, Job, attaching, for_call, renewing, pushing, Ticket}
use Rattle.nq_model.specs.laws.Journal.{Each}
use Rattle.nq_model.specs.protocol.Kept.{host_row}
use Rattle.nq_model.specs.protocol.Message.{Packet, call, reply, asker, sequence_of}
use Rattle.nq_model.specs.protocol.World.{World, from_host, after_client}
use Rattle.walk_steps.proofs.OpenAt.{IsOpenAt}
use Rattle.walk_steps.proofs.Sequences.{Drew}
use Rattle.walk_steps.proofs.RunCases.{clients-after}
use Rattle.walk_steps.proofs.HostLine.{IsSettled}
use Rattle.walk_steps.proofs.KnownWorlds.{Known}
use Rattle.walk_steps.proofs.Mail.{packets_with, old-told, sent-calls, other-asked}
use Rattle.walk_steps.proofs.Packets.{In, in-append, Asked, Told}
use Rattle.walk_steps.proofs.Worlds.{Holds}

-- ---- the world

-- a request of this number of the incarnation was refused
abbrev pub IsRefused : List Packet → Who → (xid : ℕ) → Type 0
IsRefused ps who xid = (status : Refusal) × Told ps who.host (reply xid (Reply.Refused who.inc status))

abbrev pub CallsOfIn : (host : ℕ) → Client → World → Type 0
CallsOfIn host c w = CallsOf (host_row w.server.kept host) (IsRefused w.packets c.who) c w.journal

pub record CallsKnown (w : World) : Type 0 where
  pub journal : JournalFits w.journal
  pub below : Each (IsBelow (length w.packets)) w.journal
  pub clients : (host : ℕ) (c : Client) → slice_get w.clients host ≡ Some c → CallsOfIn host c w
  -- each READ is of what its call reads
  pub reads : (host x : ℕ) (r : Request) → Asked w.packets host x r → ReadFits r w.journal
  -- the open request of an incarnation that is over
  pub ended : (host : ℕ) (c : Client) → slice_get w.clients host ≡ Some c → (host_row w.server.kept host).inc < c.who.inc → (x : ℕ) (r : Request)
      → IsOpenAt (host_row w.server.kept host) w.packets host x r → OpenFits r w.journal

-- ---- more entries

pub below-more : (e : Entry) (n m : ℕ) → n ≤ m → IsBelow n e → IsBelow m e
below-more (R who q file block value (Some packet)) n m more h = omega arith
below-more (A who q (OkBy value packet)) n m more h = omega arith
below-more other n m more h = tt

pub all-below-more : (entries : List Entry) (n m : ℕ) → n ≤ m → Each (IsBelow n) entries → Each (IsBelow m) entries
all-below-more [] n m more h = tt
all-below-more (e ∷ entries) n m more h = (below-more e n m more h.0, all-below-more entries n m more h.1)

pub each-append : (P : Entry → Type 0) (xs ys : List Entry) → ((e : Entry) → In xs e → P e) → Each P ys → Each P (xs ++ ys)
each-append P [] ys h k = k
each-append P (x ∷ xs) ys h k = (h x (inl refl), each-append P xs ys (λ e i. h e (inr i)) k)

-- entries that are none of the client's calls and changes
pub calls-of-more : (line : HostRow) (Refused : ℕ → Type 0) (c : Client) (entries journal : List Entry)
    → ((e : Entry) → In entries e → IsQuiet c.who e × IsBounded c.who c.calls c.number e) → CallsOf line Refused c journal
    → CallsOf line Refused c (entries ++ journal)
calls-of-more line Refused c [] journal quiet h = h
calls-of-more line Refused c (e ∷ entries) journal quiet h =
    let k = calls-of-more line Refused c entries journal (λ f i. quiet f (inr i)) h in
    let q = quiet e (inl refl) in
    record {
      calls_fit = calls-more c.who c.calls c.number c.call e (entries ++ journal) q.0.no_call q.1 k.calls_fit;
      pending = pending-more line c.who c.call c.ticket e (entries ++ journal) q.0.no_change k.pending;
      asks = asks-quiet line Refused c.who c.number c.seq c.ticket [] e (entries ++ journal) q.0 k.asks;
    }

pub foreign : (who : Who) (calls number : ℕ) (e : Entry) → ((w : Who) → entry_who e ≡ Some w → w.host ≢ who.host) → IsQuiet who e
    × IsBounded who calls number e
foreign who calls number e other = (
  foreign-quiet who e (λ w by same. other w by (ap (λ z. z.host) same)),
  record {
    past = λ w by here. absurd (other w by here);
    numbers = λ q by of. absurd (other who by refl);
    writes = λ n by of. absurd (other who by refl);
  },
)

-- fewer requests were refused
pub calls-of-refused : (line : HostRow) (Refused Less : ℕ → Type 0) (c : Client) (journal : List Entry) → ((x : ℕ) → Less x → Refused x)
    → CallsOf line Refused c journal → CallsOf line Less c journal
calls-of-refused line Refused Less c journal less h = record {
  calls_fit = h.calls_fit;
  pending = h.pending;
  asks = record {
    positive = h.asks.positive;
    line_drawn = h.asks.line_drawn;
    ticketed =
        λ t is. let k = h.asks.ticketed t is in
        record { asks = k.asks; drawn = k.drawn; reads = k.reads; numbered = k.numbered; opens = k.opens; refused = λ r d. k.refused (less t.xid r) d };
    sent = h.asks.sent;
  };
}

pub open-fits-later : (r : Request) (who : Who) (entries journal : List Entry) → asker r ≡ Some who → ((e : Entry) → In entries e → IsQuiet who e)
    → OpenFits r journal → OpenFits r (entries ++ journal)
open-fits-later r who [] journal by quiet h = h
open-fits-later r who (e ∷ entries) journal by quiet h =
    open-fits-more r who e (entries ++ journal) by (quiet e (inl refl)) (open-fits-later r who entries journal by (λ f i. quiet f (inr i)) h)

-- ---- open requests

-- a request of the running incarnation that is open is the one under way
open-for-any : (t : Ticket) (journal : List Entry) → fits_job t.job t.request ≡ true → (t.job ≡ for_call → OpenFits t.request journal)
    → OpenFits t.request journal
open-for-any t journal fits for = case t.job refl t.request fits for
  where
    push-fits : (r : Request) → is_some (push_in r) ≡ true → OpenFits r journal
    push-fits (Request.Write who seq file block first last (Some base) body) e = tt
    push-fits (Request.Write who seq file block first last None body) e = absurd (cc)
    push-fits (Request.Resize who seq q file blocks) e = absurd (cc)
    push-fits (Request.Remove who seq q file) e = absurd (cc)
    push-fits other e = tt

    renew-fits : (r : Request) → fits_job renewing r ≡ true → OpenFits r journal
    renew-fits (Request.GetLease who file want) e = tt
    renew-fits r e = absurd (cc)

    attach-fits : (r : Request) → fits_job attaching r ≡ true → OpenFits r journal
    attach-fits (Request.Attach who) e = tt
    attach-fits r e = absurd (cc)

    case : (job : Job) → t.job ≡ job → (r : Request) → fits_job t.job r ≡ true → (t.job ≡ for_call → OpenFits r journal) → OpenFits r journal
    case for_call e r f h = h e
    case pushing e r f h = push-fits r (subst (λ j. fits_job j r ≡ true) e f)
    case renewing e r f h = renew-fits r (subst (λ j. fits_job j r ≡ true) e f)
    case attaching e r f h = attach-fits r (subst (λ j. fits_job j r ≡ true) e f)

-- the request under way of a client whose incarnation is the kept one, where it is open
pub open-ticket : (w : World) (events : List Event) → Holds w → Known w events → (host : ℕ) (c : Client) → slice_get w.clients host ≡ Some c
    → (host_row w.server.kept host).inc ≡ c.who.inc → (x : ℕ) (r : Request) → IsOpenAt (host_row w.server.kept host) w.packets host x r
    → (t : Ticket) × (c.ticket ≡ Some t) × (t.xid ≡ x) × (t.request ≡ r)
open-ticket w events held known host c is kept x r o =
    let t = ticket ((known.clients host c is).lined.settled kept x r o.who o.seq asked o.by (sym o.kept ∙ kept) o.draws) in
    (t.0, t.1, t.2, ((held.clients host c is).mail.asked x r o.who asked o.by).same (sym o.kept ∙ kept) t.0 t.1 t.2)
  where
    asked : Asked w.packets c.who.host x r
    asked = subst (λ h. Asked w.packets h x r) (sym (held.clients host c is).here) o.asked

    ticket : IsSettled c.ticket (host_row w.server.kept host).seq x o.seq → (t : Ticket) × (c.ticket ≡ Some t) × (t.xid ≡ x)
    ticket (inl below) = let above = o.above in absurd (omega arith)
    ticket (inr t) = t

-- an open request fits the journal, whether its incarnation runs or not
pub open-known : (w : World) (events : List Event) → Holds w → Known w events → CallsKnown w → (host : ℕ) (c : Client)
    → slice_get w.clients host ≡ Some c → (x : ℕ) (r : Request) → IsOpenAt (host_row w.server.kept host) w.packets host x r → OpenFits r w.journal
open-known w events held known g host c is x r o = case (either (host_row w.server.kept host).inc c.who.inc (known.clients host c is).lined.past)
  where
    either : (a b : ℕ) → a ≤ b → (a ≡ b) ⊎ (a < b)
    either a b h = grind arith

    case : ((host_row w.server.kept host).inc ≡ c.who.inc) ⊎ ((host_row w.server.kept host).inc < c.who.inc) → OpenFits r w.journal
    case (inr over) = g.ended host c is over x r o
    case (inl same) =
        let t = open-ticket w events held known host c is same x r o in
        let k = (g.clients host c is).asks.ticketed t.0 t.1 in
        subst (λ z. OpenFits z w.journal) t.3
        (open-for-any t.0 w.journal ((held.clients host c is).alone.asking.ticketed t.0 t.1).fits
        (λ job. k.opens o.seq job (ap sequence_of t.3 ∙ o.draws) (λ inc. o.above)))

-- ---- a step of a client

-- the client after its step
pub client-known : (w : World) (events : List Event) (host : ℕ) (c : Client) (t : ClientStep) (mine : Who) → slice_get w.clients host ≡ Some c
    → mine.host ≡ host → c.who.inc ≤ mine.inc → Holds w → Known w events → Drew host w.packets t
    → Doing (host_row w.server.kept host) (IsRefused w.packets mine) (length w.packets) mine w.journal ⊤ t → CallsKnown w
    → CallsKnown (after_client w host t)
unfolding after_client
client-known w events host c t mine is here up held known drew d g = record {
  journal = d.journal;
  below =
      all-below-more (t.entries ++ w.journal) (length w.packets) (length (packets_with w.packets host t.sends))
      (omega (arith, length-append {A = Packet})) (each-append (IsBelow (length w.packets)) t.entries w.journal (λ e i. (d.own e i).1) g.below);
  clients = clients-after CallsOfIn w host t own (λ other e apart there. others other e apart there);
  reads = λ other x r asked. reads other x r (in-append w.packets (map (from_host host) t.sends) (from_host other (call x r)) asked);
  ended = clients-after Ended w host t over (λ other e apart there. still other e apart there);
} where
  line : HostRow
  line = host_row w.server.kept host

  Ended : ℕ → Client → World → Type 0
  Ended other e v =
      (host_row v.server.kept other).inc < e.who.inc → (x : ℕ) (r : Request) → IsOpenAt (host_row v.server.kept other) v.packets other x r
      → OpenFits r v.journal

  mine-here : t.client.who.host ≡ host
  mine-here = ap (λ z. z.host) d.same ∙ here

  own : CallsOf line (IsRefused (packets_with w.packets host t.sends) t.client.who) t.client (t.entries ++ w.journal)
  own = calls-of-refused line (IsRefused w.packets mine) (IsRefused (packets_with w.packets host t.sends) t.client.who) t.client (t.entries ++ w.journal)
      (λ x some. (
        some.0,
        old-told w.packets host mine.host t.sends (reply x (Reply.Refused mine.inc some.0))
            (subst (λ v. Told (packets_with w.packets host t.sends) v.host (reply x (Reply.Refused v.inc some.0))) d.same some.1),
      ))
      (record {
        calls_fit = d.calls_fit;
        pending = d.pending tt;
        asks = record { positive = d.asks.positive; line_drawn = d.asks.line_drawn; ticketed = d.asks.ticketed; sent = λ x r i. absurd i };
      })

  not-here : (other : ℕ) (e : Client) → other ≢ host → slice_get w.clients other ≡ Some e → (f : Entry) → In t.entries f → (v : Who)
      → entry_who f ≡ Some v → v.host ≢ e.who.host
  not-here other e apart there f i v by same =
      let one : t.client.who ≡ v = some-same t.client.who v (sym (d.own f i).0 ∙ by) in
      apart (sym (held.clients other e there).here ∙ sym same ∙ ap (λ z. z.host) (sym one) ∙ mine-here)

  others : (other : ℕ) (e : Client) → other ≢ host → slice_get w.clients other ≡ Some e
      → CallsOf (host_row w.server.kept other) (IsRefused (packets_with w.packets host t.sends) e.who) e (t.entries ++ w.journal)
  others other e apart there =
      calls-of-more (host_row w.server.kept other) (IsRefused (packets_with w.packets host t.sends) e.who) e t.entries w.journal
      (λ f i. foreign e.who e.calls e.number f (not-here other e apart there f i))
      (calls-of-refused (host_row w.server.kept other) (IsRefused w.packets e.who) (IsRefused (packets_with w.packets host t.sends) e.who) e w.journal
      (λ x some. (some.0, old-told w.packets host e.who.host t.sends (reply x (Reply.Refused e.who.inc some.0)) some.1))
      (g.clients other e there))

  reads : (other x : ℕ) (r : Request) → Asked w.packets other x r ⊎ In (map (from_host host) t.sends) (from_host other (call x r))
      → ReadFits r (t.entries ++ w.journal)
  reads other x r (inl old) = read-fits-later r t.entries w.journal (g.reads other x r old)
  reads other x r (inr new) = d.asks.sent x r (sent-calls host other t.sends x r new)

  over : line.inc < t.client.who.inc → (x : ℕ) (r : Request) → IsOpenAt line (packets_with w.packets host t.sends) host x r
      → OpenFits r (t.entries ++ w.journal)
  over later x r o =
      let below : o.who.inc < t.client.who.inc = let kept = o.kept in omega arith in
      open-fits-later r o.who t.entries w.journal o.by
      (λ f i. foreign-quiet o.who f (λ v by same. let one : t.client.who.inc ≡ o.who.inc = ap (λ z. z.inc)
      (some-same t.client.who v (sym (d.own f i).0 ∙ by) ∙ same) in absurd (omega arith)))
      (open-known w events held known g host c is x r
      (record { who = o.who; seq = o.seq; asked = drew.own x r o.who o.asked o.by below; by = o.by; kept = o.kept; draws = o.draws; above = o.above }))

  still : (other : ℕ) (e : Client) → other ≢ host → slice_get w.clients other ≡ Some e → (host_row w.server.kept other).inc < e.who.inc
      → (x : ℕ) (r : Request) → IsOpenAt (host_row w.server.kept other) (packets_with w.packets host t.sends) other x r
      → OpenFits r (t.entries ++ w.journal)
  still other e apart there later x r o =
      let old : Asked w.packets other x r = other-asked w.packets host other t.sends x r apart o.asked in
      let there_by : o.who.host ≡ other =
      ((held.clients other e there).mail.asked x r o.who (subst (λ n. Asked w.packets n x r) (sym (held.clients other e there).here) old) o.by).host
      ∙ (held.clients other e there).here in
      open-fits-later r o.who t.entries w.journal o.by
      (λ f i. foreign-quiet o.who f (λ v by same. not-here other e apart there f i v by
      (ap (λ z. z.host) same ∙ there_by ∙ sym (held.clients other e there).here)))
      (g.ended other e there later x r (record { who = o.who; seq = o.seq; asked = old; by = o.by; kept = o.kept; draws = o.draws; above = o.above }))
