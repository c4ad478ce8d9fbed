-- A test of skew that follows a history finds what is broken there.
use Rattle.std.proofs.Common.{◌≡◌, ◌<◌, ◌≤◌, ℕ, ◌+◌, Bool, true, false, not, List, [], ◌∷◌, refl, sym, ap, subst, ◌∙◌, arith, length}
use Rattle.std.specs.Prelude.{◌⊎◌, ◌↔◌, Option, Some, None, slice_get, IsTrue, is_some}
use Rattle.std.proofs.lemmas.Bool.{cases_order}
use mathlib.Core.Logic.{inl, inr}
use Rattle.nq_base.specs.declared.Event.{Event}
use Rattle.nq_base.specs.declared.SkewBroken.{SkewBroken}
use Rattle.nq_model.specs.protocol.Profile.{skew}
use Rattle.nq_model.specs.protocol.Skew.{IsWithinSkew, is_server_tick, is_tick_of, ticks_of}
use Rattle.nq_model.specs.laws.EachTickIsJudged.{EndsNow, Breaks, IsLowest, IsJudged}
use Rattle.nq_model.specs.protocol.SkewBroken.{skew_broken}
use Rattle.nq_model.proofs.SkewNames.{each-tick-is-judged}
use Rattle.nq_clock.specs.Counts.{Counts, SkewCounts, first_broken}
use Rattle.nq_clock.specs.Tracks.{Leads, IsSomeUpTo, Follows}
use Rattle.nq_clock.proofs.CountLists.{IsFirst, none-first, some-first, some-within, within-some}
use Rattle.nq_clock.proofs.Tracking.{split-first}

-- a part that breaks the rule with a tick more is that tick and a part with three ticks more
record IsLead (window host : ℕ) (events part : List Event) : Type 0 where
  earlier : List Event
  leads : Leads window host 3 events earlier
  client : ticks_of host part ≡ ticks_of host earlier

lead-of : (window host : ℕ) (events part : List Event) → EndsNow part (Event.ServerTick ∷ events) → Breaks host window part → IsLead window host events part
lead-of window host events [] ends breaks = let more = breaks.more in absurd (omega arith)
lead-of window host events (d ∷ part) ends breaks =
    let parts = split-first Event.ServerTick d events part ends.before ends.split in
    let client : is_tick_of host d ≡ 0 = ap (is_tick_of host) parts.0 in
    let server : is_server_tick d ≡ 1 = ap is_server_tick parts.0 in
    let few = breaks.few in
    let more = breaks.more in
    record {
      earlier = part;
      leads = record { ends = record { before = ends.before; split = parts.1 }; few = omega arith; ahead = omega arith };
      client = omega arith;
    }

-- the other way round
with-tick : (window host : ℕ) (events part : List Event) → Leads window host 3 events part → EndsNow (Event.ServerTick ∷ part) (Event.ServerTick
    ∷ events) × Breaks host window (Event.ServerTick ∷ part)
with-tick window host events part lead =
    let few = lead.few in
    let ahead = lead.ahead in
    (record { before = lead.ends.before; split = ap (λ es. Event.ServerTick ∷ es) lead.ends.split }, record { few = omega arith; more = omega arith })

-- what breaks the rule for a host shows in its counts
shows : (s : SkewCounts) (events part : List Event) (host : ℕ) (c : Counts) → Follows s events → slice_get s.hosts host ≡ Some c
    → EndsNow part (Event.ServerTick ∷ events) → Breaks host s.window part → IsSomeUpTo c.three_more (ticks_of host part)
shows s events part host c h stands ends breaks =
    let lead = lead-of s.window host events part ends breaks in
    let up_to = (h.tracks host c stands).three_more.fewest lead.earlier lead.leads in
    let most = up_to.up_to in
    let same = lead.client in
    record { ticks = up_to.ticks; is = up_to.is; up_to = omega arith }

-- nothing shows where nothing is broken
none-shows : (s : SkewCounts) (events : List Event) (b : SkewBroken) → Follows s events → first_broken 0 s.hosts ≡ None → IsLowest (length s.hosts)
    s.window (Event.ServerTick ∷ events) b → ⊥
none-shows s events b h none low =
    let at = some-within s.hosts b.host low.below in
    let up_to = shows s events low.fewest.part b.host at.0 h at.1 low.fewest.ends low.fewest.breaks in
    let is = up_to.is in
    let nothing = none-first 0 s.hosts none b.host at.0 at.1 in
    absurd (cc)

same-broken : (a b : SkewBroken) → a.host ≡ b.host → a.server ≡ b.server → a.client ≡ b.client → a ≡ b
same-broken a b host server client =
    let of : ℕ → ℕ → ℕ → SkewBroken = λ h s c. record { host = h; server = s; client = c } in
    ap (λ h. of h a.server a.client) host ∙ ap (λ s. of b.host s a.client) server ∙ ap (λ c. of b.host b.server c) client

-- the host and the counts are those of what is broken
first-host : (s : SkewCounts) (events : List Event) (b named : SkewBroken) → Follows s events → IsFirst 0 s.hosts b → IsLowest (length s.hosts)
    s.window (Event.ServerTick ∷ events) named → (named.host ≡ b.host) ⊎ ((named.host < b.host) ⊎ (b.host < named.host)) → named.host ≡ b.host
first-host s events b named h first low (inl same) = same
first-host s events b named h first low (inr (inl lower)) =
    let at = some-within s.hosts named.host low.below in
    let up_to = shows s events low.fewest.part named.host at.0 h at.1 low.fewest.ends low.fewest.breaks in
    let is = up_to.is in
    let place = first.at in
    let nothing = first.lower named.host at.0 (omega arith) at.1 in
    absurd (cc)
first-host s events b named h first low (inr (inr higher)) =
    let place : b.host ≡ first.place = let at = first.at in omega arith in
    let stands : slice_get s.hosts b.host ≡ Some first.counts = subst (λ k. slice_get s.hosts k ≡ Some first.counts) (sym place) first.stands in
    let lead = (h.tracks b.host first.counts stands).three_more.found b.client first.behind in
    let broken = with-tick s.window b.host events lead.part lead.leads in
    absurd (low.lowest b.host (Event.ServerTick ∷ lead.part) higher broken.0 broken.1)

named-first : (s : SkewCounts) (events : List Event) (b named : SkewBroken) → Follows s events → IsFirst 0 s.hosts b → IsLowest (length s.hosts)
    s.window (Event.ServerTick ∷ events) named → named.server ≡ named.client + skew + 1 → named ≡ b
named-first s events b named h first low one_more =
    let host : named.host ≡ b.host = first-host s events b named h first low (cases_order named.host b.host) in
    let place : b.host ≡ first.place = let at = first.at in omega arith in
    let stands : slice_get s.hosts b.host ≡ Some first.counts = subst (λ k. slice_get s.hosts k ≡ Some first.counts) (sym place) first.stands in
    let lead = (h.tracks b.host first.counts stands).three_more.found b.client first.behind in
    let broken = with-tick s.window b.host events lead.part lead.leads in
    let ticks = lead.client in
    let no_more : named.client ≤ ticks_of named.host (Event.ServerTick ∷ lead.part) =
    low.fewest.fewest
    (Event.ServerTick ∷ lead.part)
    broken.0
    (subst (λ k. Breaks k s.window (Event.ServerTick ∷ lead.part)) (sym host) broken.1)
    in
    let same_ticks : ticks_of named.host lead.part ≡ ticks_of b.host lead.part = ap (λ k. ticks_of k lead.part) host in
    let breaks : Breaks b.host s.window low.fewest.part = subst (λ k. Breaks k s.window low.fewest.part) host low.fewest.breaks in
    let up_to = shows s events low.fewest.part b.host first.counts h stands low.fewest.ends breaks in
    let most = up_to.up_to in
    let is : Some up_to.ticks ≡ Some b.client = sym up_to.is ∙ first.behind in
    let is_ticks : up_to.ticks ≡ b.client = cc in
    let of_named = low.fewest.client in
    let same_part : ticks_of named.host low.fewest.part ≡ ticks_of b.host low.fewest.part = ap (λ k. ticks_of k low.fewest.part) host in
    let client : named.client ≡ b.client = omega arith in
    let server_is = first.server in
    same-broken named b host (omega arith) client

named-is : (s : SkewCounts) (events : List Event) (named found : Option SkewBroken) → Follows s events → IsJudged (length s.hosts) s.window events
    named → first_broken 0 s.hosts ≡ found → named ≡ found
named-is s events None None h judged first = refl
named-is s events (Some named) None h judged first = absurd (none-shows s events named h first (judged.named named refl))
named-is s events None (Some b) h judged first =
    let lowest = some-first 0 s.hosts b first in
    let place : b.host ≡ lowest.place = let at = lowest.at in omega arith in
    let stands : slice_get s.hosts b.host ≡ Some lowest.counts = subst (λ k. slice_get s.hosts k ≡ Some lowest.counts) (sym place) lowest.stands in
    let lead = (h.tracks b.host lowest.counts stands).three_more.found b.client lowest.behind in
    let broken = with-tick s.window b.host events lead.part lead.leads in
    let few = broken.1.few in
    let more = broken.1.more in
    let keeps = judged.within refl [] (Event.ServerTick ∷ lead.part) broken.0.before broken.0.split b.host (within-some s.hosts b.host lowest.counts
    stands) few in
    absurd (omega arith)
named-is s events (Some named) (Some b) h judged first =
    ap (λ x. Some x) (named-first s events b named h (some-first 0 s.hosts b first) (judged.named named refl) (judged.one_more named refl))

-- the test finds what is named
pub found-named : (s : SkewCounts) (events : List Event) → Follows s events → skew_broken (length s.hosts) s.window events ≡ first_broken 0 s.hosts
found-named s events h =
    named-is
    s
    events
    (skew_broken (length s.hosts) s.window events)
    (first_broken 0 s.hosts)
    h
    (each-tick-is-judged (length s.hosts) s.window events h.within)
    refl

-- what is found is nothing exactly where the tick keeps to the rule
pub none-within : (s : SkewCounts) (events : List Event) → Follows s events → first_broken 0 s.hosts ≡ None → IsWithinSkew (length s.hosts) s.window
    (Event.ServerTick ∷ events)
none-within s events h none = (each-tick-is-judged (length s.hosts) s.window events h.within).within (found-named s events h ∙ none)

pub some-broken : (s : SkewCounts) (events : List Event) (b : SkewBroken) → Follows s events → first_broken 0 s.hosts ≡ Some b
    → IsWithinSkew (length s.hosts) s.window (Event.ServerTick ∷ events) → ⊥
some-broken s events b h some within =
    let none = (each-tick-is-judged (length s.hosts) s.window events h.within).refused within in
    let found = found-named s events h in
    cc

-- ---- as the code's goals say it

-- the server's clock may tick
pub judged-none : (s : SkewCounts) (events : List Event) (found : Option SkewBroken) → found ≡ first_broken 0 s.hosts → found ≡ None
    → Follows s events → IsWithinSkew (length s.hosts) s.window (Event.ServerTick ∷ events)
judged-none s events found is none h = none-within s events h (sym is ∙ none)

-- it may not
pub judged-broken : (s : SkewCounts) (events : List Event) (found : Option SkewBroken) (b : SkewBroken) → found ≡ first_broken 0 s.hosts
    → found ≡ Some b → Follows s events → IsWithinSkew (length s.hosts) s.window (Event.ServerTick ∷ events) → ⊥
judged-broken s events found b is some h = some-broken s events b h (sym is ∙ some)

pub named-broken : (s : SkewCounts) (events : List Event) (found : Option SkewBroken) (b : SkewBroken) → found ≡ first_broken 0 s.hosts
    → found ≡ Some b → Follows s events → skew_broken (length s.hosts) s.window events ≡ Some b
named-broken s events found b is some h = found-named s events h ∙ sym is ∙ some

pub lawful-is : (s : SkewCounts) (events : List Event) (found : Option SkewBroken) (b : Bool) → found ≡ first_broken 0 s.hosts → is_some found ≡ not b
    → Follows s events → IsTrue b ↔ IsWithinSkew (length s.hosts) s.window (Event.ServerTick ∷ events)
lawful-is s events None true is test h = (λ e. judged-none s events None is refl h, λ within. refl)
lawful-is s events None false is test h = absurd (cc)
lawful-is s events (Some b) true is test h = absurd (cc)
lawful-is s events (Some b) false is test h = (λ e. absurd (cc), λ within. absurd (judged-broken s events (Some b) b is refl h within))
