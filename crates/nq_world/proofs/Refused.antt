-- What a world answers, and a world that is as before.
use Rattle.std.proofs.Common.{◌≡◌, ◌≤◌, ℕ, List, Option, length, map, refl, sym, subst, ap, ◌∙◌}
use Rattle.nq_base.specs.Plain.{plain}
use Rattle.nq_base.specs.declared.Event.{Event}
use Rattle.nq_clock.specs.Tracks.{Follows}
use Rattle.nq_model.specs.protocol.Kept.{Kept}
use Rattle.nq_model.specs.protocol.SkewBroken.{skew_broken}
use Rattle.nq_model.specs.protocol.Stepped.{Stepped as Answer, done, no_packet, out_of_skew, too_many_events, too_many_packets, stepped}
use Rattle.nq_model.specs.protocol.World.{Head}
use Rattle.nq_world.proofs.Going.{tests-are-exact}
use Rattle.nq_world.specs.Answering.{IsOfTests, told as answer_of}
use Rattle.nq_world.specs.Counting.{TookIn}
use Rattle.nq_world.specs.Moving.{clients_in}
use Rattle.nq_world.specs.Playing.{WorldOver, CountsFaults, IsAsBefore, Plays, Steps, seen_of}
use Rattle.nq_world.specs.Running.{stepped_seen}
use Rattle.nq_world.specs.declared.stepped.Stepped.{Stepped}

pub answer-done : (x : Answer) → answer_of x ≡ Stepped.Done → x ≡ done
answer-done done e = refl
answer-done no_packet e = absurd (cc)
answer-done (out_of_skew broken) e = absurd (cc)
answer-done too_many_events e = absurd (cc)
answer-done too_many_packets e = absurd (cc)

-- the tests answer as the protocol does
pub answers : {K : Type 0} (head : Head) (events : List Event) (event : Event) (w : WorldOver K) (told : Option Kept) (answer : Stepped)
    → Plays head events w told
    → answer ≡ answer_of (stepped_seen w.events (length w.datagrams) (skew_broken (length w.skew.hosts) w.skew.window events) event)
    → answer_of (stepped head events event) ≡ answer
answers head events event w told answer plays is =
    ap answer_of (tests-are-exact head events (seen_of w) w.skew event plays.shown)
    ∙ ap (λ n. answer_of (stepped_seen n (length w.datagrams) (skew_broken (length w.skew.hosts) w.skew.window events) event)) (sym plays.counted)
    ∙ sym is

unchanged : {K : Type 0} (w : WorldOver K) → IsAsBefore w w
unchanged w = record {
  server = record { beside = refl; taken = refl };
  clients = refl;
  datagrams = refl;
  entries = refl;
  skew = refl;
  events = refl;
  term = refl;
}

never-fault : (x : Answer) → answer_of x ≡ Stepped.Fault → ⊥
never-fault done e = absurd (cc)
never-fault no_packet e = absurd (cc)
never-fault (out_of_skew broken) e = absurd (cc)
never-fault too_many_events e = absurd (cc)
never-fault too_many_packets e = absurd (cc)

never-memory : (x : Answer) → answer_of x ≡ Stepped.Memory → ⊥
never-memory done e = absurd (cc)
never-memory no_packet e = absurd (cc)
never-memory (out_of_skew broken) e = absurd (cc)
never-memory too_many_events e = absurd (cc)
never-memory too_many_packets e = absurd (cc)

-- an event that did not pass the tests leaves the world
pub refused-steps : {K : Type 0} (head : Head) (events : List Event) (event : Event) (answer : Stepped) (w : WorldOver K) (told : Option Kept)
    → answer_of (stepped head events event) ≡ answer → (answer ≡ Stepped.Done → ⊥) → Steps head events event answer w w told told
refused-steps head events event Stepped.Done w told is other = absurd (other refl)
refused-steps head events event Stepped.Fault w told is other = absurd (never-fault (stepped head events event) is)
refused-steps head events event Stepped.Memory w told is other = absurd (never-memory (stepped head events event) is)
refused-steps head events event Stepped.NoPacket w told is other = (is, unchanged w, refl)
refused-steps head events event (Stepped.SkewBroken broken) w told is other = (is, unchanged w, refl)
refused-steps head events event (Stepped.Limit limit) w told is other = (is, unchanged w, refl)

-- the tests count no fault
pub refused-counts : (answer : Stepped) (count : ℕ) → IsOfTests answer → CountsFaults answer count count
refused-counts Stepped.Fault count own = absurd own
refused-counts Stepped.Memory count own = absurd own
refused-counts Stepped.Done count own = refl
refused-counts Stepped.NoPacket count own = refl
refused-counts (Stepped.SkewBroken broken) count own = refl
refused-counts (Stepped.Limit limit) count own = refl

-- a world that is as before goes on playing its run
pub still-plays : {K : Type 0} (head : Head) (events : List Event) (old new : WorldOver K) (told tells : Option Kept) → Plays head events old told
    → IsAsBefore old new → tells ≡ told → Plays head events new tells
still-plays head events old new told tells plays same kept =
    let r = plays.shown in
    record {
      shown = record {
        within = r.within;
        shows = record {
          clients = ap clients_in same.clients ∙ r.shows.clients;
          datagrams = same.datagrams ∙ r.shows.datagrams;
          fit = r.shows.fit;
          entries = ap (map plain) same.entries ∙ r.shows.entries;
        };
        few = r.few;
        given = r.given;
        boots = r.boots;
        hosts = ap (λ s. length s.hosts) same.skew ∙ r.hosts;
        window = ap (λ s. s.window) same.skew ∙ r.window;
        clocks = subst (λ s. Follows s events) (sym same.skew) r.clocks;
      };
      keeps = kept ∙ plays.keeps;
      holds = same.server.beside ∙ plays.holds;
      counted = same.events ∙ plays.counted;
      term = same.term ∙ plays.term;
      served = subst (λ n. n ≤ length events) (sym same.server.taken) plays.served;
      heard = subst (TookIn (length events)) (sym same.clients) plays.heard;
    }
