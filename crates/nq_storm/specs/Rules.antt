-- The rules by which the four fates choose.
use Rattle.std.specs.Prelude.{ℕ, zero, suc, ◌+◌, ◌-◌, ◌/◌, ◌%◌, ◌^◌, ◌==◌, ◌&&◌, nat_lt, if◌then◌else◌}
use Rattle.nq_io.specs.Faults.{count_up}
use Rattle.nq_storm.specs.declared.fates.offers.Offer.{Offer}

-- a fate that tells its rule: its kind, whose turn to tick it is, and the next packet that it counts
pub record Rule : Type 0 where
  pub kind : ℕ
  pub turn : ℕ
  pub next : ℕ

-- a fate that tells its rule, and how often it was asked for a choice
pub record Asked : Type 0 where
  pub rule : Rule
  pub asks : ℕ

-- how often a fate was asked after so many events, for each of which it was asked once
abbrev pub asked_for : (events before : ℕ) → ℕ
asked_for zero before = before
asked_for (suc events) before = count_up (asked_for events before)

-- a place, and the rule from then on
abbrev pub Choice : Type 0
Choice = ℕ × Rule

-- a tick at one word in four, each clock in its turn, and else a call
abbrev pub tick_or_call : Rule → Offer → (word : ℕ) → Choice
tick_or_call rule offer word =
    if word % 4 == 0
    then (offer.ticks_at + rule.turn % (offer.restarts_at - offer.ticks_at), record rule { turn = (rule.turn + 1) % 2 ^ 32 })
    else (offer.calls_at + word / 4 % (offer.size - offer.calls_at), rule)

-- steady: what was never delivered comes first
abbrev pub steady : Rule → Offer → Choice
steady rule offer = if nat_lt offer.fresh offer.packets then (offer.fresh, rule) else tick_or_call rule offer offer.word

-- lossy: hosts restart and the server crashes now and then, and any packet is delivered, again or never
abbrev pub lossy : Rule → Offer → Choice
lossy rule offer =
    if offer.word % 64 == 1 then (offer.restarts_at + offer.word / 64 % 4, rule)
    else if offer.word % 64 == 3 then (offer.crash_at, rule)
    else if offer.word % 2 == 0 && nat_lt 0 offer.packets then (offer.word / 2 % offer.packets, rule)
    else tick_or_call rule offer (offer.word / 2)

-- cut: of the packets in their order 64 are delivered, then 64 are lost, and so on
abbrev pub cut : Rule → Offer → Choice
cut rule offer =
    if nat_lt rule.next offer.packets
    then if rule.next / 64 % 2 == 0 then (rule.next, record rule { next = rule.next + 1 })
    else tick_or_call (record rule { next = rule.next + 1 }) offer offer.word
    else tick_or_call rule offer offer.word

-- hostile: anything
abbrev pub hostile : Rule → Offer → Choice
hostile rule offer = (offer.word, rule)

-- what a fate answers by its rule
abbrev pub chosen : Rule → Offer → Choice
chosen rule offer =
    if rule.kind == 0 then steady rule offer
    else if rule.kind == 1 then lossy rule offer
    else if rule.kind == 2 then cut rule offer
    else hostile rule offer
