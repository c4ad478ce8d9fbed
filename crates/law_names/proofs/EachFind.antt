-- A host that knows of a name knows what is kept, after every schedule with lists.
use Rattle.std.proofs.Common.{◌≡◌, ◌≤◌, ◌⊎◌, ℕ, zero, suc, ◌+◌, List, [], ◌∷◌, Some, None, length, map, refl, sym, subst, ap, ◌∙◌, arith, inl, inr}
use Rattle.std.specs.Prelude.{slice_get}
use Rattle.nq_base.specs.declared.Event.{Event}
use Rattle.nq_model.specs.laws.Bounds.{KeepsBounds}
use Rattle.nq_model.specs.laws.OneRequestPerSequence.{OneOpenInEveryRun}
use Rattle.nq_model.specs.protocol.Client.{Client}
use Rattle.nq_model.specs.protocol.ClientStep.{attached_client, fresh_client}
use Rattle.nq_model.specs.protocol.ServerStep.{boot}
use Rattle.nq_model.specs.protocol.Skew.{IsWithinSkew}
use Rattle.nq_model.specs.protocol.Table.{empty_table}
use Rattle.nq_model.specs.protocol.World.{Head, first_clients, start}
use Rattle.nq_directory.specs.NameCacheNames.{Names, first_number, new_names}
use Rattle.nq_name_server.specs.Served.{Served}
use Rattle.nq_name_server.proofs.Inner.{core-listing, delivery-cases, inner-ran, runs-inside}
use Rattle.nq_name_server.specs.declared.run.event.NameEvent.{NameEvent}
use Rattle.nq_name_server.specs.Lasting.{EachListLasts}
use Rattle.nq_name_server.specs.Outer.{Outside, of_boot, outside_start}
use Rattle.nq_name_server.specs.Outside.{outside_run, outside_step}
use Rattle.nq_name_server.specs.Theorem.{EachFindIsKept, IsNamesSchedule}
use Rattle.walk_steps.specs.Within.{AreGiven, NumbersStayWithin}
use Rattle.walk_steps.proofs.ClientMoves.{none-some, some-same}
use Rattle.walk_steps.proofs.Clocks.{within-before}
use Rattle.walk_steps.proofs.NoCrash.{bounds-before}
use Rattle.walk_steps.proofs.Worlds.{first-client}
use Rattle.walk_steps.proofs.TableFits.{no-rows-fit}
use Rattle.law_names.proofs.Codec.{IsCodec}
use Rattle.law_names.proofs.HostMoves.{no-names}
use Rattle.law_names.proofs.InnerRuns.{IsKnown, known}
use Rattle.law_names.proofs.OuterFits.{InvOf, IsSide, finds-kept, ground, lasts}
use Rattle.law_names.proofs.OuterSteps.{step-inv}
use Rattle.law_names.proofs.Tables.{stand_ins}

-- ---- the start

start-idle : (term host count : ℕ) (h : ℕ) (c : Client) → slice_get (first_clients term host count) h ≡ Some c → c.call ≡ None
unfolding attached_client fresh_client
start-idle term host count h c is = ap (λ x. x.call) (first-client term host count h c is)

side-client : (clients : List Client) (host : ℕ) (n : Names) → slice_get (map (λ (c : Client). new_names c.who) clients) host ≡ Some n
    → (c : Client) × (slice_get clients host ≡ Some c) × (n ≡ new_names c.who)
side-client [] host n is = none-some n is
side-client (c ∷ clients) zero n is = (c, refl, sym (some-same (new_names c.who) n is))
side-client (c ∷ clients) (suc host) n is = side-client clients host n is

start-side : (head : Head) (standing : Served) (host : ℕ) (n : Names) → slice_get (map (λ (c : Client). new_names c.who) (start head).clients) host ≡ Some n
    → IsSide (start head) standing [] [] 0 host n
unfolding start
start-side head standing host n is =
    let k = side-client (start head).clients host n is in
    record {
      client = k.0;
      there = k.1;
      same = ap (λ x. x.who) (sym k.2);
      fits = no-names (ground (start head) standing [] []) host k.0.now n (ap (λ x. x.lists) k.2) (ap (λ x. x.asked) k.2);
      calls = λ u e. none-some u (sym (start-idle head.term 0 head.hosts host k.0 k.1) ∙ e);
      mail = record { asked = λ r a. absurd a.there; told = λ xid inc a t. absurd t.there };
      next = let e : n.next ≡ first_number = ap (λ x. x.next) k.2 in omega arith;
      after = λ q e. none-some q (sym (ap (λ x. x.asked) k.2) ∙ e);
    }

pub start-inv : (head : Head) → InvOf (outside_start head) 0 (of_boot (start head))
unfolding outside_start start boot empty_table
start-inv head = record {
  fits = no-rows-fit (stand_ins 0) 1 0;
  stands = refl;
  time = refl;
  longest = refl;
  boot = refl;
  drawn = (omega arith, omega arith);
  prefixes = λ prefix i. absurd i;
  hosts = λ host n is. start-side head (of_boot (start head)) host n is;
  gave = λ host t g. absurd g.there;
  besides = λ p i alone. absurd i;
  inners = λ p number i is. absurd i;
}

-- ---- the events that were run

-- an event of a schedule with lists runs one inner event at most
abbrev RanOn : List Event → List Event → Type 0
RanOn before after = (after ≡ before) ⊎ ((e : Event) × (after ≡ e ∷ before))

ran-on : (o : Outside) (event : NameEvent) → RanOn o.ran (outside_step o event).ran
ran-on o (NameEvent.List host prefix) = inl (ap (λ i. i.1) (core-listing o host prefix (slice_get o.sides host) (slice_get o.world.clients host)))
ran-on o (NameEvent.Plain (Event.Deliver number)) =
    delivery-cases o (λ i. RanOn o.ran i.1) (inl refl) (λ k. inr (Event.Deliver k, refl)) (slice_get o.sent number)
ran-on o (NameEvent.Plain (Event.Call host op)) = inr (Event.Call host op, ap (λ i. i.1) (inner-ran o (Event.Call host op)))
ran-on o (NameEvent.Plain Event.ServerTick) = inr (Event.ServerTick, ap (λ i. i.1) (inner-ran o Event.ServerTick))
ran-on o (NameEvent.Plain (Event.ClientTick host)) = inr (Event.ClientTick host, ap (λ i. i.1) (inner-ran o (Event.ClientTick host)))
ran-on o (NameEvent.Plain (Event.Restart host)) = inr (Event.Restart host, ap (λ i. i.1) (inner-ran o (Event.Restart host)))
ran-on o (NameEvent.Plain (Event.Crash longest)) = inr (Event.Crash longest, ap (λ i. i.1) (inner-ran o (Event.Crash longest)))

ran-few : (head : Head) (events : List NameEvent) → length (outside_run head events).ran ≤ length events
unfolding outside_start
ran-few head [] = omega arith
ran-few head (event ∷ earlier) = by (ran-on (outside_run head earlier) event) (ran-few head earlier)
  where
    by : RanOn (outside_run head earlier).ran (outside_step (outside_run head earlier) event).ran → length (outside_run head earlier).ran ≤ length earlier
        → length (outside_step (outside_run head earlier) event).ran ≤ length (event ∷ earlier)
    by (inl same) few = let e = ap (λ l. length l) same in omega arith
    by (inr more) few = let e = ap (λ l. length l) more.1 in omega arith

-- what was lawful was so before the last event
before-last : (most : ℕ) (head : Head) (event : NameEvent) (earlier : List NameEvent) → IsNamesSchedule most head (event ∷ earlier)
    → IsNamesSchedule most head earlier
before-last most head event earlier s = record {
  few = let f = s.few in omega arith;
  prefixes = s.prefixes.1;
  head_within = s.head_within;
  bounds = bounds (ran-on (outside_run head earlier) event) s.bounds;
  given = given (ran-on (outside_run head earlier) event) s.given;
  skew = skew (ran-on (outside_run head earlier) event) s.skew;
} where
  ran : List Event
  ran = (outside_run head earlier).ran

  bounds : {after : List Event} → RanOn (outside_run head earlier).ran after → KeepsBounds most head after → KeepsBounds most head
      (outside_run head earlier).ran
  bounds (inl same) k = subst (KeepsBounds most head) same k
  bounds (inr more) k = bounds-before most head more.0 (outside_run head earlier).ran (subst (KeepsBounds most head) more.1 k)

  given : {after : List Event} → RanOn (outside_run head earlier).ran after → AreGiven head after → AreGiven head (outside_run head earlier).ran
  given (inl same) k = subst (AreGiven head) same k
  given (inr more) k = let g : AreGiven head (more.0 ∷ (outside_run head earlier).ran) = subst (AreGiven head) more.1 k in g.2

  skew : {after : List Event} → RanOn (outside_run head earlier).ran after → IsWithinSkew head.hosts most after
      → IsWithinSkew head.hosts most (outside_run head earlier).ran
  skew (inl same) k = subst (IsWithinSkew head.hosts most) same k
  skew (inr more) k = within-before head.hosts most more.0 (outside_run head earlier).ran (subst (IsWithinSkew head.hosts most) more.1 k)

-- ---- every schedule

module _ (codec : IsCodec) (numbers : NumbersStayWithin) (one : OneOpenInEveryRun) where
  known-of : (most : ℕ) (head : Head) (events : List NameEvent) → IsNamesSchedule most head events
      → IsKnown most head (outside_run head events).world (outside_run head events).ran
  known-of most head events s =
      known most head (outside_run head events).world (outside_run head events).ran (runs-inside head events) s.bounds s.skew s.given
      (let a = ran-few head events in let b = s.few in omega arith) s.head_within numbers one

  run-inv : (most : ℕ) (head : Head) (events : List NameEvent) → IsNamesSchedule most head events
      → (standing : Served) × InvOf (outside_run head events) (length events) standing
  run-inv most head [] s = (of_boot (start head), start-inv head)
  run-inv most head (event ∷ earlier) s =
      let b = before-last most head event earlier s in
      let h = run-inv most head earlier b in
      let more : length earlier + 1 ≡ length (event ∷ earlier) = omega arith in
      subst (λ n. (standing : Served) × InvOf (outside_run head (event ∷ earlier)) n standing) more
      (step-inv codec most head (outside_run head earlier) (length earlier) h.0 h.1 (known-of most head earlier b)
      (let f = b.few in omega arith) event s.prefixes.0 (known-of most head (event ∷ earlier) s))

  pub each-find-is-kept : EachFindIsKept
  each-find-is-kept most head events s =
      let h = run-inv most head events s in
      finds-kept (outside_run head events) (length events) h.0 h.1

  -- ---- what lasts

  pub lists-last : EachListLasts
  lists-last most head events s =
      let h = run-inv most head events s in
      lasts (outside_run head events) (length events) h.0 h.1
