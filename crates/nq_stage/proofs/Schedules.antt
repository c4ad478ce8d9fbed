-- The schedule of the inner run has the events of the staged one, but for offers and the numbers of deliveries. So it is lawful where
-- that one is.
use Rattle.std.proofs.Common.{◌≡◌, ◌≤◌, ℕ, ◌+◌, List, [], ◌∷◌, ◌++◌, refl, sym, subst, ap, ◌∙◌, arith}
use Rattle.std.specs.Prelude.{All, slice_get}
use Rattle.std.proofs.lemmas.List.Elements.{All-nil, All-cons, All-head, All-tail}
use Rattle.nq_base.specs.declared.Event.{Event}
use Rattle.nq_model.specs.protocol.Skew.{IsWithinSkew, server_ticks, ticks_of, is_server_tick, is_tick_of}
use Rattle.nq_model.specs.protocol.World.{Head, World}
use Rattle.nq_stage.specs.Bodies.{Bodies}
use Rattle.nq_model.specs.laws.Bounds.{BootsWithin}
use Rattle.nq_model.specs.laws.Headline.{HeadlineHolds}
use Rattle.nq_model.specs.laws.WritesAreAccounted.{WaitingAreUnsaved}
use Rattle.nq_stage.specs.declared.run.event.StagedEvent.{StagedEvent}
use Rattle.nq_stage.specs.Outer.{Outside, outside_start}
use Rattle.nq_stage.specs.Outside.{inner, outside_run}
use Rattle.nq_stage.proofs.Inner.{Core, inner-ran, delivery-cases, core-offering, runs-inside}
use Rattle.law_runs.proofs.FateLaws.{waiting}
use Rattle.nq_stage.specs.Lawful.{plain_events, InnerRunsAreLawful, HeadlineHoldsOutside}
use Rattle.nq_stage.specs.NotStored.{StagedAreUnsaved}

-- ---- events that differ in deliveries alone

-- the first events are the second ones, where a delivery may be of another packet, or be missing
data Inside : List Event → List Event → Type 0 where
  none : Inside [] []
  dropped : (k : ℕ) (ran plain : List Event) → Inside ran plain → Inside ran (Event.Deliver k ∷ plain)
  renamed : (n k : ℕ) (ran plain : List Event) → Inside ran plain → Inside (Event.Deliver n ∷ ran) (Event.Deliver k ∷ plain)
  same : (e : Event) (ran plain : List Event) → Inside ran plain → Inside (e ∷ ran) (e ∷ plain)

-- two parts of the first events are inside two parts of the second ones
record Split (front back plain : List Event) : Type 0 where
  first : List Event
  second : List Event
  is : plain ≡ first ++ second
  in_front : Inside front first
  in_back : Inside back second

one-more : (front back plain : List Event) (e : Event) → ((first : List Event) → Inside front first → Inside front (e ∷ first))
    → Split front back plain → Split front back (e ∷ plain)
one-more front back plain e goes s = record {
  first = e ∷ s.first;
  second = s.second;
  is = ap (λ es. e ∷ es) s.is;
  in_front = goes s.first s.in_front;
  in_back = s.in_back;
}

longer : (x : Event) (front back plain : List Event) (e : Event) → ((first : List Event) → Inside front first → Inside (x ∷ front) (e ∷ first))
    → Split front back plain → Split (x ∷ front) back (e ∷ plain)
longer x front back plain e goes s = record {
  first = e ∷ s.first;
  second = s.second;
  is = ap (λ es. e ∷ es) s.is;
  in_front = goes s.first s.in_front;
  in_back = s.in_back;
}

-- nothing stands in front
all-behind : (ran back plain : List Event) → ran ≡ back → Inside ran plain → Split [] back plain
all-behind ran back plain is h = record { first = []; second = plain; is = refl; in_front = none; in_back = subst (λ es. Inside es plain) is h }

-- of an event that both have, or that has another number
module _ (x e : Event) (both : (ran plain : List Event) → Inside ran plain → Inside (x ∷ ran) (e ∷ plain)) where
  split-both : (ran plain front back : List Event) → Inside ran plain → ((f : List Event) → ran ≡ f ++ back → Split f back plain) → x ∷ ran ≡ front
      ++ back → Split front back (e ∷ plain)
  split-both ran plain [] back h rest is = all-behind (x ∷ ran) back (e ∷ plain) is (both ran plain h)
  split-both ran plain (y ∷ front) back h rest is =
      let head : x ≡ y = cc in
      let tail : ran ≡ front ++ back = cc in
      longer y front back plain e (λ first i. subst (λ z. Inside (z ∷ front) (e ∷ first)) head (both front first i)) (rest front tail)

split : (ran plain front back : List Event) → Inside ran plain → ran ≡ front ++ back → Split front back plain
split ran plain front back none is = nothing front is
  where
    nothing : (f : List Event) → [] ≡ f ++ back → Split f back []
    nothing [] e = all-behind [] back [] e none
    nothing (x ∷ f) e = absurd cc
split ran plain front back (dropped k r p h) is = one-more front back p (Event.Deliver k) (λ first i. dropped k front first i) (split r p front back h is)
split ran plain front back (renamed n k r p h) is = split-both (Event.Deliver n) (Event.Deliver k) (λ a b i. renamed n k a b i) r p front back h
    (λ f e. split r p f back h e) is
split ran plain front back (same e r p h) is = split-both e e (λ a b i. same e a b i) r p front back h (λ f i. split r p f back h i) is

-- ---- ticks

same-server-ticks : (ran plain : List Event) → Inside ran plain → server_ticks ran ≡ server_ticks plain
same-server-ticks ran plain none = refl
same-server-ticks ran plain (dropped k r p h) = let rest = same-server-ticks r p h in omega arith
same-server-ticks ran plain (renamed n k r p h) = let rest = same-server-ticks r p h in omega arith
same-server-ticks ran plain (same e r p h) = ap (λ n. is_server_tick e + n) (same-server-ticks r p h)

same-ticks : (host : ℕ) (ran plain : List Event) → Inside ran plain → ticks_of host ran ≡ ticks_of host plain
same-ticks host ran plain none = refl
same-ticks host ran plain (dropped k r p h) = let rest = same-ticks host r p h in omega arith
same-ticks host ran plain (renamed n k r p h) = let rest = same-ticks host r p h in omega arith
same-ticks host ran plain (same e r p h) = ap (λ n. is_tick_of host e + n) (same-ticks host r p h)

inside-skew : (hosts longest : ℕ) (ran plain : List Event) → Inside ran plain → IsWithinSkew hosts longest plain → IsWithinSkew hosts longest ran
inside-skew hosts longest ran plain h within before part after is host few ticks =
    let a = split ran plain (before ++ part) after h is in
    let b = split (before ++ part) a.first before part a.in_front refl in
    let whole : plain ≡ b.first ++ b.second ++ a.second = a.is ∙ ap (λ es. es ++ a.second) b.is in
    let mine = same-ticks host part b.second b.in_back in
    let server = same-server-ticks part b.second b.in_back in
    let most = within b.first b.second a.second whole host few (subst (λ n. n ≤ longest) mine ticks) in
    omega arith

-- ---- bounds

inside-boots : (most : ℕ) (ran plain : List Event) → Inside ran plain → All (BootsWithin most) plain → All (BootsWithin most) ran
inside-boots most ran plain none h = All-nil (BootsWithin most)
inside-boots most ran plain (dropped k r p i) h = inside-boots most r p i (All-tail (BootsWithin most) (Event.Deliver k) p h)
inside-boots most ran plain (renamed n k r p i) h = All-cons (BootsWithin most) (Event.Deliver n) r tt
    (inside-boots most r p i (All-tail (BootsWithin most) (Event.Deliver k) p h))
inside-boots most ran plain (same e r p i) h = All-cons (BootsWithin most) e r (All-head (BootsWithin most) e p h)
    (inside-boots most r p i (All-tail (BootsWithin most) e p h))

-- ---- a staged schedule

-- the events that were run are inside these
abbrev RanInside : List Event → World × List Event × Bodies → Type 0
RanInside plain i = Inside i.1 plain

ran-on : (o : Outside) (plain : List Event) (event : Event) → Inside o.ran plain → RanInside (event ∷ plain) (Core (inner o event))
ran-on o plain event h = subst (RanInside (event ∷ plain)) (sym (inner-ran o event)) (same event o.ran plain h)

ran-inside : (head : Head) (events : List StagedEvent) → Inside (outside_run head events).ran (plain_events events)
unfolding outside_start
ran-inside head [] = none
ran-inside head (StagedEvent.Stage host ∷ earlier) =
    let o = outside_run head earlier in
    subst (RanInside (plain_events earlier)) (sym (core-offering o host (slice_get o.sides host) (slice_get o.world.clients host))) (ran-inside head earlier)
ran-inside head (StagedEvent.Plain (Event.Deliver k) ∷ earlier) =
    let o = outside_run head earlier in
    let plain = plain_events earlier in
    let before = ran-inside head earlier in
    delivery-cases o (RanInside (Event.Deliver k ∷ plain)) (dropped k o.ran plain before) (λ s. dropped k o.ran plain before)
    (λ n. renamed n k o.ran plain before) (slice_get o.sent k)
ran-inside head (StagedEvent.Plain (Event.Call host op) ∷ earlier) = ran-on (outside_run head earlier) (plain_events earlier) (Event.Call host op)
    (ran-inside head earlier)
ran-inside head (StagedEvent.Plain Event.ServerTick ∷ earlier) = ran-on (outside_run head earlier) (plain_events earlier) Event.ServerTick
    (ran-inside head earlier)
ran-inside head (StagedEvent.Plain (Event.ClientTick host) ∷ earlier) = ran-on (outside_run head earlier) (plain_events earlier)
    (Event.ClientTick host) (ran-inside head earlier)
ran-inside head (StagedEvent.Plain (Event.Restart host) ∷ earlier) = ran-on (outside_run head earlier) (plain_events earlier) (Event.Restart host)
    (ran-inside head earlier)
ran-inside head (StagedEvent.Plain (Event.Crash longest) ∷ earlier) = ran-on (outside_run head earlier) (plain_events earlier) (Event.Crash longest)
    (ran-inside head earlier)

pub inner-runs-are-lawful : InnerRunsAreLawful
inner-runs-are-lawful most head events lawful =
    let o = outside_run head events in
    let i = ran-inside head events in
    let b = lawful.bounds in
    record {
      bounds = record {
        hosts = b.hosts;
        first_long = b.first_long;
        first_short = b.first_short;
        boots = inside-boots most o.ran (plain_events events)
            i b.boots;
      };
      skew = inside-skew head.hosts most o.ran (plain_events events) i lawful.skew;
    }

pub headline-holds-outside : HeadlineHoldsOutside
headline-holds-outside moments most head events lawful =
    let inner_lawful = inner-runs-are-lawful most head events lawful in
    subst HeadlineHolds (sym (runs-inside head events)) (moments most head [] (outside_run head events).ran inner_lawful.bounds inner_lawful.skew).holds

pub staged-are-unsaved : StagedAreUnsaved
staged-are-unsaved most head events lawful =
    let inner_lawful = inner-runs-are-lawful most head events lawful in
    subst WaitingAreUnsaved (sym (runs-inside head events)) (waiting most head (outside_run head events).ran inner_lawful.bounds inner_lawful.skew)
