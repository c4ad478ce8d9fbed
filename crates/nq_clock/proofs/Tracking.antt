-- How counts go on with each event.
use Rattle.std.proofs.Common.{◌≡◌, ◌<◌, ◌≤◌, ℕ, ◌+◌, ◌++◌, Bool, true, false, List, [], ◌∷◌, refl, sym, ap, subst, ◌∙◌, arith, length}
use Rattle.std.specs.Prelude.{Option, Some, None, map, replicate, nat_lt, if◌then◌else◌, ◌⊎◌}
use mathlib.Core.Logic.{inl, inr}
use Rattle.std.proofs.lemmas.Bool.{cases_eq, eq-eqb, ne_eqb, ltb-true, lt-ltb}
use Rattle.nq_base.specs.declared.Event.{Event}
use Rattle.nq_model.specs.protocol.Profile.{skew}
use Rattle.nq_model.specs.protocol.Skew.{IsWithinSkew, is_server_tick, is_tick_of, server_ticks, ticks_of}
use Rattle.nq_model.specs.laws.EachTickIsJudged.{EndsNow}
use Rattle.nq_clock.specs.Counts.{Counts, SkewCounts, no_counts, after_server_tick, after_host_tick, one_on, host_ticked}
use Rattle.nq_clock.specs.Tracks.{Leads, HasLead, IsSomeUpTo, IsFewestOf, Tracks, Follows, OtherEventsPass}
use Rattle.nq_clock.proofs.CountLists.{IsTicked, of-map, of-replicate, of-ticked, length-map, length-ticked, within-some}

-- a part that ends with this event is this event and a part that ended before it
pub split-first : (e d : Event) (events part before : List Event) → e ∷ events ≡ (d ∷ part) ++ before → (d ≡ e) × (events ≡ part ++ before)
split-first e d events part before h = (cc, cc)

-- the part with this event more
onward : (e : Event) (events part : List Event) → EndsNow part events → EndsNow (e ∷ part) (e ∷ events)
onward e events part ends = record { before = ends.before; split = ap (λ es. e ∷ es) ends.split }

-- a lead of a longer history is this event and a lead before it, which has so many ticks fewer
pub record IsOnward (window host more : ℕ) (e : Event) (events part : List Event) : Type 0 where
  pub earlier : List Event
  pub ends : EndsNow earlier events
  pub client : ticks_of host part ≡ is_tick_of host e + ticks_of host earlier
  pub server : server_ticks part ≡ is_server_tick e + server_ticks earlier

pub lead-onward : (window host more : ℕ) (e : Event) (events part : List Event) → 1 ≤ more → Leads window host more (e ∷ events) part
    → IsOnward window host more e events part
lead-onward window host more e events [] some lead = let ahead = lead.ahead in absurd (omega arith)
lead-onward window host more e events (d ∷ part) some lead =
    let parts = split-first e d events part lead.ends.before lead.ends.split in
    record {
      earlier = part;
      ends = record { before = lead.ends.before; split = parts.1 };
      client = ap (λ x. is_tick_of host x + ticks_of host part) parts.0;
      server = ap (λ x. is_server_tick x + server_ticks part) parts.0;
    }

-- an event that does not tick the host's clock
still-found : (window host more later : ℕ) (e : Event) (events : List Event) (ticks : ℕ) → is_tick_of host e ≡ 0 → later ≡ more + is_server_tick e
    → HasLead window host more events ticks → HasLead window host later (e ∷ events) ticks
still-found window host more later e events ticks still more_is found =
    let few = found.leads.few in
    let ahead = found.leads.ahead in
    let client = found.client in
    record {
      part = e ∷ found.part;
      leads = record { ends = onward e events found.part found.leads.ends; few = omega arith; ahead = omega arith };
      client = omega arith;
    }

still-fewest : (window host more later : ℕ) (e : Event) (events : List Event) (count : Option ℕ) → is_tick_of host e ≡ 0 → later ≡ more
    + is_server_tick e → 1 ≤ later → ((part : List Event) → Leads window host more events part → IsSomeUpTo count (ticks_of host part))
    → (part : List Event) → Leads window host later (e ∷ events) part → IsSomeUpTo count (ticks_of host part)
still-fewest window host more later e events count still more_is some fewest part lead =
    let earlier = lead-onward window host later e events part some lead in
    let client = earlier.client in
    let server = earlier.server in
    let few = lead.few in
    let ahead = lead.ahead in
    let up_to = fewest earlier.earlier (record { ends = earlier.ends; few = omega arith; ahead = omega arith }) in
    let most = up_to.up_to in
    record { ticks = up_to.ticks; is = up_to.is; up_to = omega arith }

pub still : (window host more later : ℕ) (e : Event) (events : List Event) (count : Option ℕ) → is_tick_of host e ≡ 0 → later ≡ more + is_server_tick
    e → 1 ≤ later → IsFewestOf window host more events count → IsFewestOf window host later (e ∷ events) count
still window host more later e events count quiet more_is some h = record {
  found = λ ticks is. still-found window host more later e events ticks quiet more_is (h.found ticks is);
  fewest = still-fewest window host more later e events count quiet more_is some h.fewest;
}

-- a tick of the server's clock alone
pub first-lead : (window host : ℕ) (events : List Event) → IsFewestOf window host 1 (Event.ServerTick ∷ events) (Some 0)
first-lead window host events = record {
  found = λ ticks is.
      let none : 0 ≡ ticks = cc in
      record {
        part = Event.ServerTick ∷ [];
        leads = record { ends = record { before = events; split = refl }; few = omega arith; ahead = omega arith };
        client = omega arith;
      };
  fewest = λ part lead. record { ticks = 0; is = refl; up_to = omega arith };
}

-- a tick of the host's clock
some-on : (window : ℕ) (count : Option ℕ) (ticks : ℕ) → one_on window count ≡ Some ticks → (before : ℕ) × (count ≡ Some before) × (before < window)
    × (ticks ≡ before + 1)
some-on window None ticks h = absurd (cc)
some-on window (Some before) ticks h = at-test (nat_lt before window) refl h
  where
    at-test : (test : Bool) → nat_lt before window ≡ test → (if test then Some (before + 1) else None) ≡ Some ticks → (b : ℕ) × (Some before ≡ Some b)
        × (b < window) × (ticks ≡ b + 1)
    at-test true e h = (before, refl, ltb-true before window e, cc)
    at-test false e h = absurd (cc)

on-some : (window before : ℕ) → before < window → one_on window (Some before) ≡ Some (before + 1)
on-some window before below = ap (λ test. if test then Some (before + 1) else None) (lt-ltb before window below)

ticked-found : (window host more : ℕ) (e : Event) (events : List Event) (count : Option ℕ) (ticks : ℕ) → is_tick_of host e ≡ 1 → is_server_tick e ≡ 0
    → ((before : ℕ) → count ≡ Some before → HasLead window host (more + 1) events before) → one_on window count ≡ Some ticks
    → HasLead window host more (e ∷ events) ticks
ticked-found window host more e events count ticks ticks_host quiet found is =
    let before = some-on window count ticks is in
    let below = before.2 in
    let one = before.3 in
    let lead = found before.0 before.1 in
    let client = lead.client in
    let few = lead.leads.few in
    let ahead = lead.leads.ahead in
    record {
      part = e ∷ lead.part;
      leads = record { ends = onward e events lead.part lead.leads.ends; few = omega arith; ahead = omega arith };
      client = omega arith;
    }

ticked-fewest : (window host more : ℕ) (e : Event) (events : List Event) (count : Option ℕ) → is_tick_of host e ≡ 1 → is_server_tick e ≡ 0 → 1 ≤ more
    → ((part : List Event) → Leads window host (more + 1) events part → IsSomeUpTo count (ticks_of host part)) → (part : List Event)
    → Leads window host more (e ∷ events) part → IsSomeUpTo (one_on window count) (ticks_of host part)
ticked-fewest window host more e events count ticks_host quiet some fewest part lead =
    let earlier = lead-onward window host more e events part some lead in
    let client = earlier.client in
    let server = earlier.server in
    let few = lead.few in
    let ahead = lead.ahead in
    let up_to = fewest earlier.earlier (record { ends = earlier.ends; few = omega arith; ahead = omega arith }) in
    let most = up_to.up_to in
    let below : up_to.ticks < window = omega arith in
    record { ticks = up_to.ticks + 1; is = ap (one_on window) up_to.is ∙ on-some window up_to.ticks below; up_to = omega arith }

pub ticked : (window host more : ℕ) (e : Event) (events : List Event) (count : Option ℕ) → is_tick_of host e ≡ 1 → is_server_tick e ≡ 0 → 1 ≤ more
    → IsFewestOf window host (more + 1) events count → IsFewestOf window host more (e ∷ events) (one_on window count)
ticked window host more e events count ticks_host quiet some h = record {
  found = λ ticks is. ticked-found window host more e events count ticks ticks_host quiet h.found is;
  fewest = ticked-fewest window host more e events count ticks_host quiet some h.fewest;
}

-- within skew no part that ends now has the server's clock four ticks ahead
pub no-more : (hosts window host : ℕ) (events part : List Event) → IsWithinSkew hosts window events → host < hosts → EndsNow part events
    → ticks_of host part ≤ window → server_ticks part ≤ ticks_of host part + skew
no-more hosts window host events part within below ends few = within [] part ends.before ends.split host below few

none-left : (hosts window host : ℕ) (e : Event) (events : List Event) → IsWithinSkew hosts window events → host < hosts → is_tick_of host e ≡ 1
    → is_server_tick e ≡ 0 → IsFewestOf window host 3 (e ∷ events) None
none-left hosts window host e events within below ticks_host quiet = record {
  found = λ ticks is. absurd (cc);
  fewest = λ part lead.
      let earlier = lead-onward window host 3 e events part (omega arith) lead in
      let client = earlier.client in
      let server = earlier.server in
      let few = lead.few in
      let ahead = lead.ahead in
      let keeps = no-more hosts window host events earlier.earlier within below earlier.ends (omega arith) in
      absurd (omega arith);
}

-- within skew a schedule stays so with any event but a tick of the server's clock
pub stays-within : (hosts longest : ℕ) (e : Event) (events : List Event) → is_server_tick e ≡ 0 → IsWithinSkew hosts longest events
    → IsWithinSkew hosts longest (e ∷ events)
stays-within hosts longest e events quiet within [] [] after split host below few = omega arith
stays-within hosts longest e events quiet within [] (d ∷ part) after split host below few =
    let parts = split-first e d events part after split in
    let server : is_server_tick d ≡ is_server_tick e = ap is_server_tick parts.0 in
    let keeps : server_ticks part ≤ ticks_of host part + skew = within [] part after parts.1 host below (omega arith) in
    omega arith
stays-within hosts longest e events quiet within (b ∷ before) part after split host below few = within before part after (cc) host below few

-- the counts of one host
tracks-server : (window host : ℕ) (events : List Event) (c : Counts) → Tracks window host events c → Tracks window host (Event.ServerTick ∷ events)
    (after_server_tick c)
tracks-server window host events c h = record {
  one_more = first-lead window host events;
  two_more = still window host 1 2 Event.ServerTick events c.one_more refl refl (omega arith) h.one_more;
  three_more = still window host 2 3 Event.ServerTick events c.two_more refl refl (omega arith) h.two_more;
}

tracks-host : (hosts window host : ℕ) (e : Event) (events : List Event) (c : Counts) → IsWithinSkew hosts window events → host < hosts
    → is_tick_of host e ≡ 1 → is_server_tick e ≡ 0 → Tracks window host events c → Tracks window host (e ∷ events) (after_host_tick window c)
tracks-host hosts window host e events c within below ticks_host quiet h = record {
  one_more = ticked window host 1 e events c.two_more ticks_host quiet (omega arith) h.two_more;
  two_more = ticked window host 2 e events c.three_more ticks_host quiet (omega arith) h.three_more;
  three_more = none-left hosts window host e events within below ticks_host quiet;
}

tracks-other : (window host : ℕ) (e : Event) (events : List Event) (c : Counts) → is_tick_of host e ≡ 0 → is_server_tick e ≡ 0
    → Tracks window host events c → Tracks window host (e ∷ events) c
tracks-other window host e events c quiet_host quiet h = record {
  one_more = still window host 1 1 e events c.one_more quiet_host (omega arith) (omega arith) h.one_more;
  two_more = still window host 2 2 e events c.two_more quiet_host (omega arith) (omega arith) h.two_more;
  three_more = still window host 3 3 e events c.three_more quiet_host (omega arith) (omega arith) h.three_more;
}

-- before any event
none-yet : (window host more : ℕ) → 1 ≤ more → IsFewestOf window host more [] None
none-yet window host more some = record {
  found = λ ticks is. absurd (cc);
  fewest = no-lead window host more some;
}
  where
    no-lead : (window host more : ℕ) → 1 ≤ more → (part : List Event) → Leads window host more [] part → IsSomeUpTo None (ticks_of host part)
    no-lead window host more some [] lead = let ahead = lead.ahead in absurd (omega arith)
    no-lead window host more some (d ∷ part) lead = let split = lead.ends.split in absurd (cc)

begins-within : (hosts longest : ℕ) → IsWithinSkew hosts longest []
begins-within hosts longest [] [] after split host below few = omega arith
begins-within hosts longest [] (d ∷ part) after split host below few = absurd (cc)
begins-within hosts longest (b ∷ before) part after split host below few = absurd (cc)

pub follows-none : (hosts window : ℕ) → Follows (record { window = window; hosts = replicate hosts no_counts }) []
follows-none hosts window = record {
  within = begins-within (length (replicate hosts no_counts)) window;
  tracks = λ host counts stands.
      let same : no_counts ≡ counts = of-replicate hosts no_counts host counts stands in
      subst
      (λ c. Tracks window host [] c)
      same
      (record {
        one_more = none-yet window host 1 (omega arith);
        two_more = none-yet window host 2 (omega arith);
        three_more = none-yet window host 3 (omega arith);
      });
}

-- another event
pub other-events-pass : OtherEventsPass
other-events-pass skew events e quiet h = record {
  within = stays-within (length skew.hosts) skew.window e events quiet.server h.within;
  tracks = λ host counts stands. tracks-other skew.window host e events counts (quiet.client host (within-some skew.hosts host counts stands))
      quiet.server (h.tracks host counts stands);
}

-- a tick of a host's clock
ticks-own : (host : ℕ) → is_tick_of host (Event.ClientTick host) ≡ 1
ticks-own host = ap (λ test. if test then 1 else 0) (eq-eqb host host refl)

ticks-none : (host other : ℕ) → (other ≡ host → ⊥) → is_tick_of other (Event.ClientTick host) ≡ 0
ticks-none host other ne = ap (λ test. if test then 1 else 0) (ne_eqb host other (λ same. ne (sym same)))

tracks-at : (skew : SkewCounts) (events : List Event) (host other : ℕ) (now : Counts) → Follows skew events → host < length skew.hosts
    → IsTicked skew.window host other skew.hosts now → (other ≡ host) ⊎ (other ≡ host → ⊥) → Tracks skew.window other (Event.ClientTick host ∷ events) now
tracks-at skew events host other now h below t (inl same) =
    let own : is_tick_of other (Event.ClientTick host) ≡ 1 = subst (λ k. is_tick_of k (Event.ClientTick host) ≡ 1) (sym same) (ticks-own host) in
    subst
    (λ c. Tracks skew.window other (Event.ClientTick host ∷ events) c)
    (sym (t.own same))
    (tracks-host (length skew.hosts) skew.window other (Event.ClientTick host) events t.before h.within (omega arith) own refl
    (h.tracks other t.before t.stood))
tracks-at skew events host other now h below t (inr ne) =
    subst
    (λ c. Tracks skew.window other (Event.ClientTick host ∷ events) c)
    (sym (t.other ne))
    (tracks-other skew.window other (Event.ClientTick host) events t.before (ticks-none host other ne) refl (h.tracks other t.before t.stood))

pub follows-client : (skew : SkewCounts) (events : List Event) (host : ℕ) → host < length skew.hosts → Follows skew events
    → Follows (record skew { hosts = host_ticked skew.window host skew.hosts }) (Event.ClientTick host ∷ events)
follows-client skew events host below h = record {
  within = subst (λ n. IsWithinSkew n skew.window (Event.ClientTick host ∷ events)) (sym (length-ticked skew.window host skew.hosts))
      (stays-within (length skew.hosts) skew.window (Event.ClientTick host) events refl h.within);
  tracks = λ other now stands. tracks-at skew events host other now h below (of-ticked skew.window host other skew.hosts now stands) (cases_eq other host);
}

pub follows-server : (skew : SkewCounts) (events : List Event) → IsWithinSkew (length skew.hosts) skew.window (Event.ServerTick ∷ events)
    → Follows skew events → Follows (record skew { hosts = map after_server_tick skew.hosts }) (Event.ServerTick ∷ events)
follows-server skew events within h = record {
  within = subst (λ n. IsWithinSkew n skew.window (Event.ServerTick ∷ events)) (sym (length-map after_server_tick skew.hosts)) within;
  tracks = λ host now stands.
      let was = of-map after_server_tick skew.hosts host now stands in
      subst
      (λ c. Tracks skew.window host (Event.ServerTick ∷ events) c)
      was.2
      (tracks-server skew.window host events was.0 (h.tracks host was.0 was.1));
}

-- ---- as the code's goals say it

pub after-client : (window host : ℕ) (hosts now : List Counts) (s : SkewCounts) (events : List Event) → record { window = window; hosts = hosts } ≡ s
    → now ≡ host_ticked window host hosts → host < length s.hosts → Follows s events → Follows (record { window = window; hosts = now })
    (Event.ClientTick host ∷ events)
after-client window host hosts now s events is ticked =
    subst
    (λ (x : SkewCounts). host < length x.hosts → Follows x events → Follows (record { window = window; hosts = now }) (Event.ClientTick host ∷ events))
    is
    (λ below h. subst (λ hs. Follows (record { window = window; hosts = hs }) (Event.ClientTick host ∷ events)) (sym ticked)
    (follows-client (record { window = window; hosts = hosts }) events host below h))

pub after-server : (window : ℕ) (hosts now : List Counts) (s : SkewCounts) (events : List Event) → record { window = window; hosts = hosts } ≡ s
    → now ≡ map after_server_tick hosts → IsWithinSkew (length s.hosts) s.window (Event.ServerTick ∷ events) → Follows s events
    → Follows (record { window = window; hosts = now }) (Event.ServerTick ∷ events)
after-server window hosts now s events is ticked =
    subst
    (λ (x : SkewCounts). IsWithinSkew (length x.hosts) x.window (Event.ServerTick ∷ events) → Follows x events
    → Follows (record { window = window; hosts = now }) (Event.ServerTick ∷ events))
    is
    (λ within h. subst (λ hs. Follows (record { window = window; hosts = hs }) (Event.ServerTick ∷ events)) (sym ticked)
    (follows-server (record { window = window; hosts = hosts }) events within h))
