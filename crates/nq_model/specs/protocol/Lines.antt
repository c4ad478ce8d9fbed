-- The lines of a schedule's text, and the events for which they stand.
use Rattle.std.specs.Prelude.{ℕ, ◌+◌, ◌-◌, ◌==◌, not, List, [], ◌∷◌, ◌++◌, length, filter, zero, suc}
use Rattle.nq_base.specs.declared.Event.{Event}
use Rattle.nq_model.specs.protocol.World.{Head, World, start, step}

-- a line: an event, an event so many times, so many rounds, or the delivery of all that was never delivered
pub data Line : Type 0 where
  one : Event → Line
  times : ℕ → Event → Line
  round : ℕ → Line
  flow : Line

-- a run that is played: the world, the packets that were never delivered, in order, and the events so far, the newest
-- first
pub record Play : Type 0 where
  pub world : World
  pub fresh : List ℕ
  pub events : List Event

-- the numbers from one on, so many
abbrev pub numbers_from : (first : ℕ) → (count : ℕ) → List ℕ
numbers_from first zero = []
numbers_from first (suc count) = first ∷ numbers_from (first + 1) count

-- the numbers but this one
abbrev pub without : ℕ → List ℕ → List ℕ
without k numbers = filter (λ n. not (n == k)) numbers

-- a delivered packet is fresh no more
abbrev pub delivered : Event → List ℕ → List ℕ
delivered (Event.Deliver k) fresh = without k fresh
delivered other fresh = fresh

-- the packets that a step added are fresh
abbrev pub added : (before after : World) → List ℕ
added before after = numbers_from (length before.packets) (length after.packets - length before.packets)

-- the play goes on to a world that an event led to
abbrev pub played_to : Play → Event → World → Play
played_to p event world = record {
  world = world;
  fresh = delivered event p.fresh ++ added p.world world;
  events = event ∷ p.events;
}

-- one event is played
abbrev pub play : Play → Event → Play
play p event = played_to p event (step p.world event)

-- one event is played so many times
abbrev pub play_times : ℕ → Event → Play → Play
play_times zero event p = p
play_times (suc n) event p = play_times n event (play p event)

-- the clocks of so many hosts tick, from this host on
abbrev pub play_hosts : (count host : ℕ) → Play → Play
play_hosts zero host p = p
play_hosts (suc count) host p = play_hosts count (host + 1) (play p (Event.ClientTick host))

-- so many rounds: the clock of each host ticks in order, then the server's
abbrev pub play_rounds : ℕ → Play → Play
play_rounds zero p = p
play_rounds (suc n) p = play_rounds n (play (play_hosts (length p.world.clients) 0 p) Event.ServerTick)

-- the least packet that was never delivered is delivered, again and again, but so many times at the most
abbrev pub flow_first : List ℕ → Play → Play
flow_first [] p = p
flow_first (k ∷ fresh) p = play p (Event.Deliver k)

abbrev pub play_flow : ℕ → Play → Play
play_flow zero p = p
play_flow (suc fuel) p = play_flow fuel (flow_first p.fresh p)

-- one line is played; the fuel bounds the deliveries of a `flow`
abbrev pub play_line : (fuel : ℕ) → Play → Line → Play
play_line fuel p (one event) = play p event
play_line fuel p (times n event) = play_times n event p
play_line fuel p (round n) = play_rounds n p
play_line fuel p flow = play_flow fuel p

-- line after line
abbrev pub play_lines : (fuel : ℕ) → Play → List Line → Play
play_lines fuel p [] = p
play_lines fuel p (line ∷ lines) = play_lines fuel (play_line fuel p line) lines

-- all lines of a schedule, from the start
abbrev pub play_all : (fuel : ℕ) → Head → List Line → Play
play_all fuel head lines = play_lines fuel (record { world = start head; fresh = []; events = [] }) lines
