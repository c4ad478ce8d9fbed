-- In every run each client's losses fit the journal, and each loss is reported.
use Rattle.std.proofs.Common.{◌≡◌, ◌≢◌, ◌⊎◌, ℕ, ◌+◌, Bool, true, false, ◌==◌, List, [], ◌∷◌, ◌++◌, Option, Some, None, length, refl, sym, subst, ◌∙◌}
use Rattle.std.proofs.Common.{arith, inl, inr}
use Rattle.std.specs.Prelude.{slice_get, slice_set}
use Rattle.nq_base.specs.declared.Call.{Call}
use Rattle.nq_base.specs.declared.Entry.{Entry}
use Rattle.nq_base.specs.declared.Entry.TheVariants.{C, L}
use Rattle.nq_base.specs.declared.Event.{Event}
use Rattle.nq_base.specs.declared.Loss.{Loss}
use Rattle.nq_base.specs.declared.Party.{Party}
use Rattle.nq_base.specs.declared.Who.{Who}
use Rattle.walk_steps.proofs.ClientFacts.{fits_job}
use Rattle.walk_steps.proofs.ClientMoves.{none-some}
use Rattle.walk_steps.proofs.Rows.{same-number, number-same}
use Rattle.walk_steps.proofs.Worlds.{get-set-same, get-set-other, Holds, run-holds, first-client}
use Rattle.nq_model.specs.laws.LossesAreReported.{IsLossOf, IsOneOf, LossesFitInEveryRun, ReportedInEveryRun}
use Rattle.law_runs.proofs.Books.{book_of, book_at}
use Rattle.law_runs.proofs.BookFits.{Fits, fits-closed}
use Rattle.law_runs.proofs.BookSteps.{hear-keeps, tick-keeps, call-keeps}
use Rattle.law_runs.proofs.BookNone.{NoneWaits, none-closed, IsBy, Own, own-closed}
use Rattle.law_runs.proofs.BookOrder.{Ordered, order-closed, order-other, order-quiet}
use Rattle.law_runs.proofs.OtherFits.{Places, empty_book, places-quiet, fits-other, fits-quiet, fits-next, fits-start}
use Rattle.law_runs.proofs.ServerQuiet.{AllQuiet, received-quiet, tick-quiet, crash-quiet}
use Rattle.law_runs.proofs.Told.{IsNamedIn, IsToldAt, IsCalled, all-reported}
use Rattle.nq_model.specs.protocol.Client.{Client, ClientStep, Ticket}
use Rattle.nq_model.specs.protocol.ClientStep.{client_call, client_tick, restart, starts, fresh_client, attached_client, next_incarnation}
use Rattle.nq_model.specs.protocol.Hear.{hear}
use Rattle.nq_model.specs.laws.Journal.{Each, Exists, AtEachPlace}
use Rattle.nq_model.specs.protocol.Message.{Message, Packet, datagram_of}
use Rattle.nq_model.specs.laws.Reported.{loss_told, Names, IsNamedNext}
use Rattle.nq_model.specs.protocol.Server.{ServerStep}
use Rattle.nq_model.specs.protocol.ServerStep.{receive, tick, crash}
use Rattle.nq_model.specs.protocol.World.{Head, World, after_server, after_client, at_client, after_hearing, sending_host, deliver_to_client, deliver_to}
use Rattle.nq_model.specs.protocol.World.{deliver, step, start, run}

-- ---- what holds after every schedule

pub record FitsAt (j : List Entry) (c : Client) : Type 0 where
  pub fits : Fits (book_at j c)
  pub none : NoneWaits (book_at j c)
  pub ordered : Ordered (book_at j c)

pub record WorldFits (w : World) : Type 0 where
  pub someone : Who
  pub losses : List Loss
  pub places : Places someone losses w.journal
  pub clients : (host : ℕ) (c : Client) → slice_get w.clients host ≡ Some c → FitsAt w.journal c

-- ---- a step of a client

-- what a client's step has to show
pub record Stepped (j : List Entry) (who : Who) (t : ClientStep) : Type 0 where
  pub fits : Fits (book_of j t)
  pub none : NoneWaits (book_of j t)
  pub ordered : Ordered (book_of j t)
  pub new : List Entry
  pub split : t.entries ++ j ≡ new ++ j
  pub by : Each (IsBy who) new

stepped : (j : List Entry) (c : Client) (t : ClientStep) → Fits (book_of j t) → NoneWaits (book_of j t) → Ordered (book_of j t)
    → Own c.who j (book_of j t) → Stepped j c.who t
stepped j c t fits none ordered own = record { fits = fits; none = none; ordered = ordered; new = own.new; split = own.split; by = own.by }

own-at : (j : List Entry) (c : Client) → Own c.who j (book_at j c)
own-at j c = record { same = refl; new = []; split = refl; by = tt }

client-fits : (w : World) (host : ℕ) (c : Client) (t : ClientStep) → slice_get w.clients host ≡ Some c → Stepped w.journal c.who t → Holds w
    → WorldFits w → WorldFits (after_client w host t)
unfolding after_client
client-fits w host c t is s held h = record {
  someone = t.client.who;
  losses = t.client.losses;
  places = record { told = s.fits.journals.told; called = s.fits.journals.called };
  clients = λ other d there. case other d (other == host) refl there;
} where
  kept : (other : ℕ) (d : Client) → other ≢ host → slice_get w.clients other ≡ Some d → FitsAt (s.new ++ w.journal) d
  kept other d apart there =
      let f = h.clients other d there in
      record {
        fits = fits-other (book_at w.journal d) c.who t.client.who t.client.losses s.new
            (λ same. apart (sym (held.clients other d there).here ∙ sym same ∙ (held.clients host c is).here))
            s.by
            (subst (λ j. AtEachPlace (IsToldAt j t.client.who t.client.losses) [] j) s.split s.fits.journals.told)
            (subst (λ j. Each (IsCalled j) j) s.split s.fits.journals.called)
            f.fits;
        none = f.none;
        ordered =
            order-other (book_at w.journal d) c.who s.new
            (λ same. apart (sym (held.clients other d there).here ∙ sym same ∙ (held.clients host c is).here)) s.by f.ordered;
      }

  case : (other : ℕ) (d : Client) (b : Bool) → (other == host) ≡ b → slice_get (slice_set w.clients host t.client) other ≡ Some d
      → FitsAt (t.entries ++ w.journal) d
  case other d true same there =
      let one : other ≡ host = same-number other host same in
      let at : d ≡ t.client = get-set-same w.clients host t.client d (subst (λ n. slice_get (slice_set w.clients host t.client) n ≡ Some d) one there) in
      subst (λ z. FitsAt (t.entries ++ w.journal) z) (sym at) (record { fits = s.fits; none = s.none; ordered = s.ordered })
  case other d false differs there =
      let apart : other ≢ host = λ same. let yes : (other == host) ≡ true = number-same other host same in absurd (cc) in
      subst (λ j. FitsAt j d) (sym s.split) (kept other d apart (sym (get-set-other w.clients host other t.client apart) ∙ there))

called-steps : (j : List Entry) (c : Client) (op : Call) → FitsAt j c → Stepped j c.who (client_call c op)
called-steps j c op f =
    stepped j c (client_call c op) (call-keeps fits-closed j c op f.fits) (call-keeps none-closed j c op f.none)
    (call-keeps order-closed j c op f.ordered) (call-keeps (own-closed c.who j) j c op (own-at j c))

ticked-steps : (j : List Entry) (c : Client) (now : ℕ) → FitsAt j c → Stepped j c.who (client_tick c now)
ticked-steps j c now f =
    stepped j c (client_tick c now) (tick-keeps fits-closed j c now f.fits) (tick-keeps none-closed j c now f.none)
    (tick-keeps order-closed j c now f.ordered) (tick-keeps (own-closed c.who j) j c now (own-at j c))

-- the request under way fits what it is for
abbrev AsksFit : Client → Type 0
AsksFit c = (ticket : Ticket) → c.ticket ≡ Some ticket → fits_job ticket.job ticket.request ≡ true

heard-steps : (j : List Entry) (c : Client) (k : ℕ) (m : Message) (t : ClientStep) → AsksFit c → hear c k m ≡ Some t → FitsAt j c → Stepped j c.who t
heard-steps j c k m t asks is f =
    stepped j c t (hear-keeps fits-closed j c k m t asks is f.fits) (hear-keeps none-closed j c k m t asks is f.none)
    (hear-keeps order-closed j c k m t asks is f.ordered) (hear-keeps (own-closed c.who j) j c k m t asks is (own-at j c))

restarted-steps : (j : List Entry) (c : Client) → FitsAt j c → Stepped j c.who (restart c)
unfolding starts fresh_client
restarted-steps j c f = record {
  fits =
      fits-quiet (empty_book (next_incarnation c.who) j) (Entry.B (next_incarnation c.who) ∷ []) (tt, tt)
      (fits-next (book_at j c) (next_incarnation c.who) refl (omega arith) f.fits);
  none = λ u file e. none-some u e;
  ordered = λ file. tt;
  new = Entry.B (next_incarnation c.who) ∷ [];
  split = refl;
  by = (tt, tt);
}

at-client-fits : (w : World) (host : ℕ) (f : Client → ClientStep) (o : Option Client) → slice_get w.clients host ≡ o
    → ((c : Client) → FitsAt w.journal c → Stepped w.journal c.who (f c)) → Holds w → WorldFits w → WorldFits (at_client w host f o)
at-client-fits w host f None is goes held h = h
at-client-fits w host f (Some c) is goes held h = client-fits w host c (f c) is (goes c (h.clients host c is)) held h

hearing-fits : (w : World) (k host : ℕ) (m : Message) (c : Client) (o : Option ClientStep) → hear c k m ≡ o → slice_get w.clients host ≡ Some c
    → Holds w → WorldFits w → WorldFits (after_hearing w host o)
hearing-fits w k host m c None hears is held h = h
hearing-fits w k host m c (Some t) hears is held h =
    client-fits w host c t is (heard-steps w.journal c k m t (λ ticket has. ((held.clients host c is).alone.asking.ticketed ticket has).fits) hears
    (h.clients host c is)) held h

to-client-fits : (w : World) (k host : ℕ) (m : Message) (o : Option Client) → slice_get w.clients host ≡ o → Holds w → WorldFits w
    → WorldFits (deliver_to_client w k host m o)
to-client-fits w k host m None is held h = h
to-client-fits w k host m (Some c) is held h = hearing-fits w k host m c (hear c k m) refl is held h

-- ---- a step of the server

server-fits : (w : World) (t : ServerStep) → AllQuiet t.entries → WorldFits w → WorldFits (after_server w t)
unfolding after_server
server-fits w t quiet h = record {
  someone = h.someone;
  losses = h.losses;
  places = places-quiet t.entries quiet h.places;
  clients =
      λ host c is. let f = h.clients host c is in
      record {
        fits = fits-quiet (book_at w.journal c) t.entries quiet f.fits;
        none = f.none;
        ordered = order-quiet (book_at w.journal c) t.entries
            quiet f.ordered;
      };
}

-- ---- each event

delivered-fits : (w : World) (k : ℕ) (p : Packet) (to : Party) → Holds w → WorldFits w → WorldFits (deliver_to w k p to)
delivered-fits w k p Party.Server held h =
    server-fits w (receive w.server (sending_host p.sender) (length w.packets) (datagram_of p.message))
    (received-quiet w.server (sending_host p.sender) (length w.packets) (datagram_of p.message)) h
delivered-fits w k p (Party.Client host) held h = to-client-fits w k host p.message (slice_get w.clients host) refl held h

deliver-fits : (w : World) (k : ℕ) (o : Option Packet) → Holds w → WorldFits w → WorldFits (deliver w k o)
deliver-fits w k None held h = h
deliver-fits w k (Some p) held h = delivered-fits w k p p.to held h

step-fits : (w : World) (e : Event) → Holds w → WorldFits w → WorldFits (step w e)
step-fits w (Event.Call host op) held h =
    at-client-fits w host (λ c. client_call c op) (slice_get w.clients host) refl (λ c f. called-steps w.journal c op f) held h
step-fits w (Event.Deliver k) held h = deliver-fits w k (slice_get w.packets k) held h
step-fits w Event.ServerTick held h = server-fits w (tick w.server (w.server.now + 1)) (tick-quiet w.server (w.server.now + 1)) h
step-fits w (Event.ClientTick host) held h =
    at-client-fits w host (λ c. client_tick c (c.now + 1)) (slice_get w.clients host) refl (λ c f. ticked-steps w.journal c (c.now + 1) f) held h
step-fits w (Event.Restart host) held h = at-client-fits w host restart (slice_get w.clients host) refl (λ c f. restarted-steps w.journal c f) held h
step-fits w (Event.Crash longest) held h = server-fits w (crash w.server longest) (crash-quiet w.server longest) h

starts-at : (who : Who) (term : ℕ) → FitsAt [] (attached_client who term 0)
unfolding attached_client fresh_client
starts-at who term = record { fits = fits-start who; none = λ u file e. none-some u e; ordered = λ file. tt }

start-fits : (head : Head) → WorldFits (start head)
unfolding start
start-fits head = record {
  someone = record { host = 0; inc = 0 };
  losses = [];
  places = record { told = tt; called = tt };
  clients = λ host c is. subst (λ z. FitsAt [] z) (sym (first-client head.term 0 head.hosts host c is)) (starts-at _ head.term);
}

-- in every run
pub run-fits : (head : Head) (events : List Event) → WorldFits (run head events)
run-fits head [] = start-fits head
run-fits head (e ∷ earlier) = step-fits (run head earlier) e (run-holds head earlier) (run-fits head earlier)

-- ---- what follows

next-names : (whole : List Entry) (who : Who) (loss : Loss) (e : Entry) (after : List Entry) → IsNamedNext whole who loss e after
    → Exists (Names whole who loss) after
next-names whole who loss (C by q told) (next ∷ after) h = inl h.1
next-names whole who loss e after h = absurd h

named-names : (whole : List Entry) (who : Who) (loss : Loss) (after : List Entry) → IsNamedIn whole who loss after → Exists (Names whole who loss) after
named-names whole who loss [] h = h
named-names whole who loss (e ∷ after) (inl h) = inl h
named-names whole who loss (e ∷ after) (inr (inl h)) = inr (next-names whole who loss e after h)
named-names whole who loss (e ∷ after) (inr (inr h)) = inr (named-names whole who loss after h.1)

-- an L of the incarnation is named, or its loss waits
kept-at : (whole : List Entry) (who : Who) (losses : List Loss) (loss : Loss) (after : List Entry) (e : Entry) (before : List Entry)
    → IsLossOf who loss e → IsToldAt whole who losses after e before → IsOneOf losses loss ⊎ Exists (Names whole who loss) after
kept-at whole who losses loss after (L by file block first last) before h (inl n) =
    inr (subst (λ w. Exists (Names whole w loss) after) h.0
    (subst (λ l. Exists (Names whole by l) after) h.1 (named-names whole by (loss_told file block first last) after n)))
kept-at whole who losses loss after (L by file block first last) before h (inr k) = inl (subst (IsOneOf losses) h.1 (k.1 h.0))
kept-at whole who losses loss after e before h told = absurd h

kept-in : (whole : List Entry) (who : Who) (losses : List Loss) (loss : Loss) (after xs : List Entry) → AtEachPlace (IsToldAt whole who losses) after xs
    → Exists (IsLossOf who loss) xs → IsOneOf losses loss ⊎ (Exists (Names whole who loss) after ⊎ Exists (Names whole who loss) xs)
kept-in whole who losses loss after [] told h = absurd h
kept-in whole who losses loss after (e ∷ xs) told (inl h) = here (kept-at whole who losses loss after e xs h told.0)
  where
    here : IsOneOf losses loss ⊎ Exists (Names whole who loss) after
        → IsOneOf losses loss ⊎ (Exists (Names whole who loss) after ⊎ Exists (Names whole who loss) (e ∷ xs))
    here (inl one) = inl one
    here (inr named) = inr (inl named)
kept-in whole who losses loss after (e ∷ xs) told (inr h) = later (kept-in whole who losses loss (e ∷ after) xs told.1 h)
  where
    later : IsOneOf losses loss ⊎ ((Names whole who loss e ⊎ Exists (Names whole who loss) after) ⊎ Exists (Names whole who loss) xs)
        → IsOneOf losses loss ⊎ (Exists (Names whole who loss) after ⊎ Exists (Names whole who loss) (e ∷ xs))
    later (inl one) = inl one
    later (inr (inl (inl named))) = inr (inr (inl named))
    later (inr (inl (inr named))) = inr (inl named)
    later (inr (inr named)) = inr (inr (inr named))

kept-whole : (whole : List Entry) (who : Who) (losses : List Loss) (loss : Loss) → AtEachPlace (IsToldAt whole who losses) [] whole
    → Exists (IsLossOf who loss) whole → IsOneOf losses loss ⊎ Exists (Names whole who loss) whole
kept-whole whole who losses loss told h = step (kept-in whole who losses loss [] whole told h)
  where
    step : IsOneOf losses loss ⊎ (⊥ ⊎ Exists (Names whole who loss) whole) → IsOneOf losses loss ⊎ Exists (Names whole who loss) whole
    step (inl one) = inl one
    step (inr (inl bad)) = absurd bad
    step (inr (inr named)) = inr named

pub losses-fit : LossesFitInEveryRun
losses-fit head events host c is =
    let f = (run-fits head events).clients host c is in
    record {
      kept = λ loss h. kept-whole (run head events).journal c.who c.losses loss f.fits.journals.told h;
      lost = f.fits.journals.lost;
      unnamed = f.fits.journals.unnamed;
      ordered = f.ordered;
      told = f.none;
    }

pub reported-in-every-run : ReportedInEveryRun
reported-in-every-run head events =
    let h = run-fits head events in
    all-reported (run head events).journal h.someone h.losses h.places.told
