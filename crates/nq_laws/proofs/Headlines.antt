-- The headline holds of a torn world as of the world of its schedule.
use Rattle.std.proofs.Common.{◌≡◌, ℕ, false, List, [], ◌∷◌, ◌++◌, None, map, refl, sym, subst, ap, ◌∙◌, inl, inr, append_assoc}
use Rattle.nq_base.specs.declared.Entry.{Entry}
use Rattle.nq_base.specs.declared.Entry.TheVariants.{W}
use Rattle.nq_base.specs.declared.Event.{Event}
use Rattle.nq_laws.proofs.HeadlineParts.{at-every-moment}
use Rattle.nq_model.specs.laws.Fate.{IsDelayed}
use Rattle.nq_model.specs.laws.Journal.{AtEachPlace}
use Rattle.nq_model.specs.protocol.Message.{Packet}
use Rattle.nq_model.specs.protocol.Server.{Server, last_in}
use Rattle.nq_model.specs.protocol.ServerStep.{boot, crash}
use Rattle.nq_model.specs.protocol.World.{Head, World, after_server, first_kept, start, step, run}
use Rattle.nq_model.specs.protocol.Skew.{IsWithinSkew}
use Rattle.nq_model.specs.laws.Bounds.{KeepsBounds}
use Rattle.nq_model.specs.laws.Headline.{HeadlineHolds, HoldsAt}
use Rattle.nq_model.specs.laws.WritesAreAccounted.{HasFate, EachHasItsFate, IsStillUnsaved}
use Rattle.nq_laws.proofs.LastTable.{boots-alike}
use Rattle.nq_laws.proofs.TornRuns.{torn-is-run}
use Rattle.nq_laws.specs.TornHeadline.{TornAtEveryMoment, OneIsTorn, EachStopTears, FirstBootTears}
use Rattle.nq_laws.specs.TornRuns.{Happening, whole, torn_before, torn_after, TornWorld, brings_unsent, comes, boots_over, unheard, torn_off}
use Rattle.nq_laws.specs.TornRuns.{torn_run, events_of, event_of, schedule, without_last, IsWorldOf}

-- ---- another network, and another server with the same kept state

each-place : (F G : List Entry → Entry → List Entry → Type 0) → ((after : List Entry) (e : Entry) (before : List Entry) → F after e before → G after e before)
    → (after entries : List Entry) → AtEachPlace F after entries → AtEachPlace G after entries
each-place F G f after [] h = h
each-place F G f after (e ∷ before) h = (f after e before h.0, each-place F G f (e ∷ after) before h.1)

module _ (w : World) (packets : List Packet) (s : Server) where
  abbrev other : World
  other = record w { packets = packets; server = record s { kept = w.server.kept } }

  unsaved : (e : Entry) → IsStillUnsaved w e → IsStillUnsaved other e
  unsaved (W who file block number value through) h = record { client = h.client; runs = h.runs; same = h.same; unsaved = h.unsaved }
  unsaved rest h = absurd h

  fate : (after : List Entry) (e : Entry) → HasFate w after e → HasFate other after e
  fate after e (inl stored) = inl stored
  fate after e (inr (inl missing)) = inr (inl missing)
  fate after e (inr (inr waits)) = inr (inr (waits.0, unsaved e waits.1))

  fates : EachHasItsFate w → EachHasItsFate other
  fates h =
      each-place (λ after e before. IsDelayed e → HasFate w after e) (λ after e before. IsDelayed e → HasFate other after e)
      (λ after e before f delayed. fate after e (f delayed)) [] w.journal h

  rebuilt : HeadlineHolds w → HeadlineHolds other
  rebuilt h = record {
    ordered = h.ordered;
    of_their_call = h.of_their_call;
    answered = h.answered;
    done = h.done;
    refused = h.refused;
    busy = h.busy;
    legal = h.legal;
    accounted = h.accounted;
    waiting = h.waiting;
    fates = fates h.fates;
    excused = h.excused;
    reported = h.reported;
    named = h.named;
    synchronized = h.synchronized;
    kept = record { values = h.kept.values; past = h.kept.past; lengths = h.kept.lengths };
    untouched = h.untouched;
    cached = h.cached;
  }

headline-like : (t : TornWorld) (w : World) → IsWorldOf t w → HeadlineHolds w → HeadlineHolds t.world
headline-like t w l h =
    let kept : t.world.server.kept ≡ w.server.kept = ap (λ z. z.kept) l.server in
    rebuilt (record w { clients = t.world.clients; journal = t.world.journal; server = record w.server { kept = t.world.server.kept } }) t.world.packets
    t.world.server
    (subst (λ k. HeadlineHolds (record w { clients = t.world.clients; journal = t.world.journal; server = record w.server { kept = k } })) (sym kept)
    (subst (λ j. HeadlineHolds (record w { clients = t.world.clients; journal = j })) (sym l.journal)
    (subst (λ cs. HeadlineHolds (record w { clients = cs })) (sym l.clients) h)))

-- ---- at every moment

record Splits (head : Head) (later earlier : List Happening) : Type 0 where
  more : List Event
  is : schedule head (later ++ earlier) ≡ more ++ schedule head earlier

splits : (head : Head) (later earlier : List Happening) → Splits head later earlier
splits head [] earlier = record { more = []; is = refl }
splits head (h ∷ later) earlier = further (splits head later earlier)
  where
    further : Splits head later earlier → Splits head (h ∷ later) earlier
    further s = record {
      more = events_of (torn_run head (later ++ earlier)).unsent h ++ s.more;
      is =
          ap (λ z. events_of (torn_run head (later ++ earlier)).unsent h ++ z) s.is
          ∙ sym (append_assoc (events_of (torn_run head (later ++ earlier)).unsent h) s.more (schedule head earlier));
    }

pub torn-at-every-moment : TornAtEveryMoment
torn-at-every-moment most head later earlier bounds within =
    let s = splits head later earlier in
    let h : HoldsAt head s.more (schedule head earlier) =
    at-every-moment most head s.more (schedule head earlier)
    (subst (λ z. KeepsBounds most head z) s.is bounds) (subst (λ z. IsWithinSkew head.hosts most z) s.is within) in
    record {
      holds = headline-like (torn_run head earlier) (run head (schedule head earlier)) (torn-is-run head earlier) h.holds;
      same = (torn-is-run head earlier).journal;
      told = h.told;
      caused = h.caused;
      full = h.full;
      more = h.more;
      grows =
          (torn-is-run head (later ++ earlier)).journal
          ∙ ap (λ z. (run head z).journal) s.is
          ∙ h.grows
          ∙ ap (λ j. h.more ++ j) (sym (torn-is-run head earlier).journal);
    }

-- ---- one tear

none-unsent : (head : Head) (earlier : List Event) → (torn_run head (map whole earlier)).unsent ≡ []
none-unsent head [] = refl
none-unsent head (e ∷ earlier) = none-unsent head earlier

sent-event : (e : Event) → event_of [] e ≡ e ∷ []
sent-event (Event.Call host op) = refl
sent-event (Event.Deliver k) = refl
sent-event Event.ServerTick = refl
sent-event (Event.ClientTick host) = refl
sent-event (Event.Restart host) = refl
sent-event (Event.Crash longest) = refl

whole-events : (head : Head) (events : List Event) → schedule head (map whole events) ≡ events
whole-events head [] = refl
whole-events head (e ∷ events) =
    ap (λ us. event_of us e ++ schedule head (map whole events)) (none-unsent head events)
    ∙ ap (λ z. z ++ schedule head (map whole events)) (sent-event e)
    ∙ ap (λ z. e ∷ z) (whole-events head events)

pub one-is-torn : OneIsTorn
one-is-torn head earlier event longest =
    (ap (λ z. Event.Crash longest ∷ z) (whole-events head earlier), ap (λ z. Event.Crash longest ∷ z) (whole-events head (event ∷ earlier)))

came-whole : (t : TornWorld) (event : Event) → brings_unsent t.unsent event ≡ false → comes t event ≡ step t.world event
came-whole t event out = rw out refl

pub each-stop-tears : EachStopTears
unfolding boots_over unheard torn_off
each-stop-tears t event longest found out (inl was) = record {
  happens = torn_before event longest;
  tears = inl refl;
  time = t.world.server.now;
  shown = inl refl;
  boots = ap (λ k. boot k longest t.world.server.now None) (sym was);
}
each-stop-tears t event longest found out (inr is) = record {
  happens = torn_after event longest;
  tears = inr refl;
  time = (step t.world event).server.now;
  shown = inr refl;
  boots =
      ap (λ w. boot w.server.kept longest w.server.now None) (came-whole t event out)
      ∙ ap (λ k. boot k longest (step t.world event).server.now None) (sym is);
}

first-begins : (head : Head) (longest : ℕ) → boot (first_kept head) longest 0 None ≡ (start (record head { longest = longest })).server
unfolding start boot
first-begins head longest = refl

first-follows : (head : Head) (longest : ℕ)
    → without_last (boot (start head).server.kept longest 0 None) ≡ without_last (step (start head) (Event.Crash longest)).server
unfolding start after_server crash boot
first-follows head longest = sym (boots-alike (start head).server.kept longest 0 (last_in (start head).server.phase (start head).server.table))

pub first-boot-tears : FirstBootTears
first-boot-tears head longest = (first-begins head longest, first-follows head longest)
