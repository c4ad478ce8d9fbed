-- Steps of a host that lives, one after another.
use Rattle.std.proofs.Common.{◌≡◌, ℕ, zero, suc, true, List, [], Option, Some, None, Result, refl, sym, subst}
use Rattle.nq_base.specs.Entries.{EntryList}
use Rattle.nq_base.specs.declared.Answer.{Answer}
use Rattle.nq_base.specs.declared.Call.{Call}
use Rattle.nq_base.specs.declared.Entry.{Entry}
use Rattle.nq_base.specs.declared.ending.fault.Fault.{Fault}
use Rattle.nq_calling.specs.Calling.{CallsNow}
use Rattle.nq_client.specs.Counted.{Counted}
use Rattle.nq_clock.specs.Clocks.{ClockTold}
use Rattle.nq_hosts.specs.ClientTurn.{AttendsTurn}
use Rattle.nq_link.specs.Links.{LinkTold}
use Rattle.nq_living.specs.Living.{Hands, Life, Lived, Lives, Makes, Step, TurnsPage, brought, called, final, idle, is_ready, over_by, paged, stirred, stopped_by, turned}

module _ {A : Type 0} (gives : A → Option Call → A → Type 0) (takes : A → Answer → A → Type 0) (notes : A → List Entry → A → Type 0)
    (pages : A → Option (List ℕ) → A → Type 0) (stirs : A → A → Type 0) where
  -- no step
  pub none : (at : Life A) → Lived gives takes notes pages stirs at at
  none at = record { count = zero; lives = refl }

  -- one step more
  pub more : (at between after : Life A) → Lived gives takes notes pages stirs at between → Step A gives takes notes pages stirs between after → Lived gives takes notes pages stirs at after
  more at between after lived step = record { count = suc lived.count; lives = (between, lived.lives, step) }

  -- one step
  pub one : (at after : Life A) → Step A gives takes notes pages stirs at after → Lived gives takes notes pages stirs at after
  one at after step = more at at after (none at) step

  joined : (count : ℕ) (at between after : Life A) → Lived gives takes notes pages stirs at between → Lives gives takes notes pages stirs count between after
      → Lived gives takes notes pages stirs at after
  joined zero at between after lived same = subst (Lived gives takes notes pages stirs at) (sym same) lived
  joined (suc count) at between after lived lives = more at lives.0 after (joined count at between lives.0 lived lives.1) lives.2

  -- some steps behind others
  pub then : (at between after : Life A) → Lived gives takes notes pages stirs at between → Lived gives takes notes pages stirs between after → Lived gives takes notes pages stirs at after
  then at between after first later = joined later.count at between after first later.lives

  -- a turn, behind which the link let go what it held back
  pub took : (at : Life A) (client : Counted) (next : ℕ) (halt : Option Fault) (clock : ClockTold) (link link' : LinkTold) (told askers : A)
      (ended : Result (Option Answer) Fault) (log noted : EntryList) → log.entries ≡ []
      → AttendsTurn ended at.next next at.clock clock at.link link at.client client log noted → link' ≡ link → notes at.askers noted.entries told
      → Hands takes (brought ended) told askers → halt ≡ stopped_by ended
      → Lived gives takes notes pages stirs at (record { client = client; next = next; halt = halt; clock = clock; link = link'; askers = askers })
  took at client next halt clock link link' told askers ended log noted silent turn same tells hands halts =
      one at (record { client = client; next = next; halt = halt; clock = clock; link = link'; askers = askers }) (turned (record {
        ended = ended;
        log = log;
        silent = silent;
        noted = noted;
        turn = subst (λ l. AttendsTurn ended at.next next at.clock clock at.link l at.client client log noted) (sym same) turn;
        told = told;
        tells = tells;
        hands = hands;
        halts = halts;
      }))

  -- a call, behind which the link let go what it held back
  pub made : (call : Call) (at : Life A) (client : Counted) (next : ℕ) (halt : Option Fault) (clock : ClockTold) (link link' : LinkTold) (told askers : A) (answer : Answer)
      (log noted : EntryList) → log.entries ≡ []
      → CallsNow call answer at.next next at.clock clock at.link link at.client client log noted → link' ≡ link → notes at.askers noted.entries told
      → Hands takes (final answer) told askers → halt ≡ over_by answer
      → Makes takes notes call at (record { client = client; next = next; halt = halt; clock = clock; link = link'; askers = askers })
  made call at client next halt clock link link' told askers answer log noted silent now same tells hands halts = record {
    answer = answer;
    log = log;
    silent = silent;
    noted = noted;
    now = subst (λ l. CallsNow call answer at.next next at.clock clock at.link l at.client client log noted) (sym same) now;
    told = told;
    tells = tells;
    hands = hands;
    halts = halts;
  }

  -- a call that was given and made
  pub gave : (at after : Life A) (call : Call) (given : A) → is_ready at.client.client ≡ true → gives at.askers (Some call) given
      → Makes takes notes call (record at { askers = given }) after → Lived gives takes notes pages stirs at after
  gave at after call given ready gives-it makes =
      one at after (called (record { ready = ready; call = call; given = given; gave = gives-it; makes = makes }))

  -- no call was given
  pub gave_none : (at : Life A) (askers : A) → gives at.askers None askers → Lived gives takes notes pages stirs at (record at { askers = askers })
  gave_none at askers given = one at (record at { askers = askers }) (idle (given, refl))

  -- those who ask did something of their own
  pub stirred_by : (at : Life A) (askers : A) → stirs at.askers askers → Lived gives takes notes pages stirs at (record at { askers = askers })
  stirred_by at askers moves = one at (record at { askers = askers }) (stirred (moves, refl))

  -- a page of a list was turned
  pub turned_page : (at : Life A) (link : LinkTold) (askers : A) → TurnsPage pages at.link link at.askers askers
      → Lived gives takes notes pages stirs at (record at { link = link; askers = askers })
  turned_page at link askers turns = one at (record at { link = link; askers = askers }) (paged (turns, refl))
