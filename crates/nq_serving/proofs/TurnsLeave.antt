-- What a stop within the boot and the turns of a server leaves.
use Rattle.std.proofs.Common.{◌≡◌, ◌⊎◌, ◌<◌, ℕ, Bool, zero, suc, [], Option, None, Result, Ok, Err, inl, inr, refl, sym, subst}
use Rattle.std.specs.Option.{ForSome}
use Rattle.nq_keeper.specs.Booting.{LeavesThen}
use Rattle.nq_serving.specs.LeavingTurns.{AreInOrder, IsLeftInGoes, IsLeftInTurns, IsLeftTaking, LeavesRunning, LeavesRuns, LeavesTaking, LeavesTurns}
use Rattle.nq_serving.specs.Turning.{Goes, Standing, behind_turn, standing}
use Rattle.nq_serving.specs.declared.turning.LinkPolicy.{LinkPolicy}
use Rattle.nq_serving.proofs.Telling.{goes_tells}
use Rattle.nq_base.specs.declared.ending.fault.Fault.{Fault}
use Rattle.nq_serving.specs.Extending.{Extension}
use Rattle.nq_serving.specs.Running.{Booted, NoBoot, halt_of}
use Rattle.nq_serving.proofs.Joining.{besides, by_boot, further, gone, join}
use Rattle.nq_serving.proofs.Runs.{none}
use Rattle.nq_model.specs.protocol.Kept.{Kept}
use Rattle.nq_model.specs.protocol.ServerStep.{boot, booted}
use Rattle.nq_serving.proofs.Leaves.{Tells}
use Rattle.nq_clock.specs.Clocks.{ClockTold}
use Rattle.nq_serving.specs.Leaving.{IsSettled, LeavesOnly, LeavesStages}
use Rattle.nq_serving.specs.declared.node.Node.{Node}
use Rattle.nq_server.specs.Stepping.{next_of}
use Rattle.nq_link.specs.Links.{LinkTold}
use Rattle.nq_server.specs.Holding.{Boots, Holding, keeper_in}
use Rattle.nq_server.specs.declared.server.BootFault.{BootFault}

-- so many turns behind which others went on, what a stop within them leaves, and that the keeper tells after them what it keeps
pub record GoneOn {K : Type 0} (content : K → Option Kept) (faults : K → ℕ) (policy : LinkPolicy) (extension : Extension) (follows : K → K → Type 0)
    (leaves : K → K → Option Kept
    → Type 0) (count : ℕ) (at after : Standing K) : Type 0 where
  pub goes : Goes content faults policy extension count at after
  pub only : LeavesOnly content follows leaves at.server.keeper after.server.keeper (IsLeftInGoes content faults policy extension count at after goes)
  pub order : ForSome (content at.server.keeper) (λ kept. AreInOrder content faults policy extension follows leaves after.server.keeper
      (λ found. ⊥) count at after goes)
  pub tells : ForSome (content at.server.keeper) (λ kept. Tells (content after.server.keeper))
  pub settled : IsSettled content leaves after.server.keeper

module _ {K : Type 0} (content : K → Option Kept) (faults : K → ℕ) (policy : LinkPolicy) (extension : Extension) (follows : K → K → Type 0) (leaves : K → K
    → Option Kept → Type 0) where
  -- one turn of a node that has begun it
  pub taking : (turn : Result Bool Fault) (ended : Result Unit Fault) (server : Holding K) (next : ℕ) (clock clock' : ClockTold) (link link' : LinkTold)
      (begun after : Node K)
      → begun.server ≡ server → begun.out.first ≡ next → begun.out.datagrams ≡ [] → begun.log.entries ≡ [] → ended ≡ behind_turn policy turn
      → LeavesStages content faults extension follows leaves turn clock clock' link link' begun after → IsSettled content leaves after.server.keeper
      → LeavesTaking content faults policy extension follows leaves ended (standing server next clock link)
      (standing after.server (next_of after.out) clock' link')
  taking turn ended server next clock clock' link link' begun after same first empty silent so t settled =
      subst (λ s. LeavesTaking content faults policy extension follows leaves ended (standing s next clock link)
      (standing after.server (next_of after.out) clock' link')) same
      (record {
        taken = record {
          turn = turn;
          so = so;
          log = begun.log;
          silent = silent;
          entered = after.log;
          took = record { out = begun.out; out' = after.out; first = first; empty = empty; last = refl; stages = t.stages };
        };
        only = t.left;
        settled = settled;
      })

  pub gone_none : (at : Standing K) → follows at.server.keeper at.server.keeper → IsSettled content leaves at.server.keeper
      → GoneOn content faults policy extension follows leaves zero at at
  gone_none at itself settled = record {
    goes = refl;
    only = λ kept told first found before l. inl l;
    order = λ kept told. record { settled = settled; same = itself; later = λ first found before l. inl l };
    tells = λ kept told. (kept, told);
    settled = settled;
  }

  pub gone_all : (count turns : ℕ) (at after : Standing K) → count ≡ turns → GoneOn content faults policy extension follows leaves count at after
      → LeavesTurns content faults policy extension follows leaves turns (Ok tt) at after
  gone_all count turns at after same g =
      subst (λ n. LeavesTurns content faults policy extension follows leaves n (Ok tt) at after) same
      (record { taken = g.goes; only = g.only; order = g.order; settled = g.settled })

  -- ---- the boot

  -- where a server booted
  pub leaves_booted : (longest turns time : ℕ) (keeper : K) (ended : Result Unit Fault) (left : K) (clock clock' : ClockTold) (link link' : LinkTold)
      (server : Holding K)
      → Booted content faults follows longest time keeper server
      → LeavesThen (λ kept. booted kept longest) (content keeper) (leaves keeper server.keeper)
      → LeavesRunning content faults policy extension follows leaves turns server ended left clock clock' link link'
      → LeavesRuns content faults policy extension follows leaves longest turns time keeper ended left clock clock' link link'
  leaves_booted longest turns time keeper (Ok done) left clock clock' link link' server b boots r = record {
    runs = record { server = server; booted = b; ran = r.ran };
    only =
        λ kept told found l.
        by_boot leaves longest kept found keeper server.keeper (IsLeftInTurns content faults policy extension turns (Ok done)
        (standing server 0 clock link) r.ran.last r.ran.taken found)
        (boots kept told) (r.only (boot kept longest time None).kept (b.0 kept told).1.keeps keeper found b.2 l);
    order = λ kept told. r.order (boot kept longest time None).kept (b.0 kept told).1.keeps;
    settled = r.settled;
  }
  leaves_booted longest turns time keeper (Err why) left clock clock' link link' server b boots r = record {
    runs = inl (record { server = server; booted = b; ran = r.ran });
    only =
        λ kept told found l.
        by_boot leaves longest kept found keeper server.keeper (IsLeftInTurns content faults policy extension turns (Err why)
        (standing server 0 clock link) r.ran.last r.ran.taken found)
        (boots kept told) (r.only (boot kept longest time None).kept (b.0 kept told).1.keeps keeper found b.2 l);
    order = λ kept told. r.order (boot kept longest time None).kept (b.0 kept told).1.keeps;
    settled = r.settled;
  }

  pub ran_booted : (longest turns time : ℕ) (keeper : K) (ended : Result Unit Fault) (left : K) (clock clock' : ClockTold) (link link' : LinkTold)
      (server : Holding K)
      (result : Result (Holding K) (BootFault K)) → result ≡ Ok server
      → Boots longest time result (content keeper) (content (keeper_in result)) (faults keeper) (faults (keeper_in result)) → follows keeper (keeper_in result)
      → LeavesThen (λ kept. booted kept longest) (content keeper) (leaves keeper (keeper_in result))
      → LeavesRunning content faults policy extension follows leaves turns server ended left clock clock' link link'
      → LeavesRuns content faults policy extension follows leaves longest turns time keeper ended left clock clock' link link'
  ran_booted longest turns time keeper ended left clock clock' link link' server result is boots same stops took =
      let b = subst (λ r. Boots longest time r (content keeper) (content (keeper_in r)) (faults keeper) (faults (keeper_in r))) is boots in
      leaves_booted longest turns time keeper ended left clock clock' link link' server (b.0, b.1, subst (λ r. follows keeper (keeper_in r)) is same)
      (subst (λ r. LeavesThen (λ kept. booted kept longest) (content keeper) (leaves keeper (keeper_in r))) is stops) took

  -- the turns of a node that has this server, and whose first datagram gets the number 0
  pub running : (turns : ℕ) (server from : Holding K) (next : ℕ) (ended : Result Unit Fault) (left : K) (clock : ClockTold) (link : LinkTold)
      (last : Standing K)
      → from ≡ server → next ≡ 0 → left ≡ last.server.keeper → follows from.keeper last.server.keeper
      → LeavesTurns content faults policy extension follows leaves turns ended (standing from next clock link) last
      → LeavesRunning content faults policy extension follows leaves turns server ended left clock last.clock link last.link
  running turns server from next ended left clock link last is first keeper same turned =
      subst (λ s. LeavesRunning content faults policy extension follows leaves turns s ended left clock last.clock link last.link) is
      (ran (subst (λ n. LeavesTurns content faults policy extension follows leaves turns ended (standing from n clock link) last) first turned))
    where
      ran : LeavesTurns content faults policy extension follows leaves turns ended (standing from 0 clock link) last
          → LeavesRunning content faults policy extension follows leaves turns from ended left clock last.clock link last.link
      ran t = record {
        ran = record { last = last; taken = t.taken; same = same; keeper = keeper; clocks = refl; links = refl };
        only =
            subst (λ k. LeavesOnly content follows leaves from.keeper k (IsLeftInTurns content faults policy extension turns ended
            (standing from 0 clock link) last t.taken)) (sym keeper) t.only;
        order = t.order;
        settled = subst (λ k. IsSettled content leaves k) (sym keeper) t.settled;
      }

  -- where none booted, the keeper is left, and no turn was taken
  not-booted : (longest turns time : ℕ) (keeper : K) (why : Fault) (left : K) (clock : ClockTold) (link : LinkTold)
      → NoBoot content faults keeper left why → follows keeper left
      → LeavesThen (λ kept. booted kept longest) (content keeper) (leaves keeper left) → IsSettled content leaves left
      → LeavesRuns content faults policy extension follows leaves longest turns time keeper (Err why) left clock clock link link
  not-booted longest turns time keeper why left clock link lacks same stops settled = record {
    runs = inr (record { none = lacks; same = same; clocks = refl; links = refl });
    only = λ kept told found l. stops kept told found l;
    order = λ kept told. tt;
    settled = settled;
  }

  pub ran_none : (longest turns time : ℕ) (keeper : K) (ended : Result Unit Fault) (left : K) (clock : ClockTold) (link : LinkTold) (why : BootFault K)
      (result : Result (Holding K) (BootFault K)) → result ≡ Err why
      → Boots longest time result (content keeper) (content (keeper_in result)) (faults keeper) (faults (keeper_in result)) → follows keeper (keeper_in result)
      → LeavesThen (λ kept. booted kept longest) (content keeper) (leaves keeper (keeper_in result))
      → ended ≡ Err (halt_of why) → left ≡ keeper_in (Err why) → IsSettled content leaves left
      → LeavesRuns content faults policy extension follows leaves longest turns time keeper ended left clock clock link link
  ran_none longest turns time keeper ended left clock link why result is boots same stops halts is_left settled =
      let b = subst (λ r. Boots longest time r (content keeper) (content (keeper_in r)) (faults keeper) (faults (keeper_in r))) is boots in
      subst (λ e. LeavesRuns content faults policy extension follows leaves longest turns time keeper e left clock clock link link) (sym halts)
      (subst (λ k. LeavesRuns content faults policy extension follows leaves longest turns time keeper (Err (halt_of why)) k clock clock link link)
      (sym is_left)
      (not-booted longest turns time keeper (halt_of why) (keeper_in (Err why)) clock link (none content faults longest time keeper why b)
      (subst (λ r. follows keeper (keeper_in r)) is same)
      (subst (λ r. LeavesThen (λ kept. booted kept longest) (content keeper) (leaves keeper (keeper_in r))) is stops)
      (subst (λ k. IsSettled content leaves k) is_left settled)))

module _ {K : Type 0} (content : K → Option Kept) (faults : K → ℕ) (policy : LinkPolicy) (extension : Extension) (follows : K → K → Type 0) (leaves : K → K
    → Option Kept → Type 0)
    (itself : (keeper : K) → follows keeper keeper)
    (on : (first second third : K) → follows first second → follows second third → follows first third) where
  all-further : (count : ℕ) (at after : Standing K) (goes : Goes content faults policy extension count at after) (last next : K)
      (Later New Then : Option Kept → Type 0)
      → follows last next → ((first : K) (found : Option Kept) → follows first last → leaves first next found → leaves first last found ⊎ New found)
      → ((found : Option Kept) → New found ⊎ Later found → Then found) → AreInOrder content faults policy extension follows leaves last Later count at after
      goes
      → AreInOrder content faults policy extension follows leaves next Then count at after goes
  all-further zero at after goes last next Later New Then same new or m =
      further content follows leaves on after.server.keeper last next Later New Then same new or m
  all-further (suc count) at after goes last next Later New Then same new or m = (
    further content follows leaves on after.server.keeper last next Later New Then same new or m.0,
    all-further count at goes.0 goes.1 last next (λ found. IsLeftTaking content faults policy extension (Ok tt) goes.0 after goes.2 found ⊎ Later found) New
        (λ found. IsLeftTaking content faults policy extension (Ok tt) goes.0 after goes.2 found ⊎ Then found) same new
        (besides (IsLeftTaking content faults policy extension (Ok tt) goes.0 after goes.2) Later New Then or) m.1,
  )

  pub gone_on : (count : ℕ) (at middle after : Standing K) → follows at.server.keeper middle.server.keeper
      → follows middle.server.keeper after.server.keeper
      → GoneOn content faults policy extension follows leaves count at middle → LeavesTaking content faults policy extension follows leaves (Ok tt) middle after
      → GoneOn content faults policy extension follows leaves (suc count) at after
  gone_on count at middle after same next g t = record {
    goes = (middle, g.goes, t.taken);
    only =
        λ kept told first found before l.
        let tells = g.tells kept told in
        join content follows leaves at.server.keeper middle.server.keeper (IsLeftInGoes content faults policy extension count at middle g.goes)
        (IsLeftTaking content faults policy extension (Ok tt) middle after t.taken) g.only kept told first
        found before (t.only tells.0 tells.1 first found (on first at.server.keeper middle.server.keeper before same) l);
    order =
        λ kept told.
        let tells = g.tells kept told in (
          record { settled = t.settled; same = itself after.server.keeper; later = λ first found before l. inl l },
          all-further count at middle g.goes middle.server.keeper after.server.keeper (λ found. ⊥) (IsLeftTaking content faults policy extension
              (Ok tt) middle after t.taken)
              (λ found. IsLeftTaking content faults policy extension (Ok tt) middle after t.taken found ⊎ ⊥) next (t.only tells.0 tells.1) (λ found or. or)
              (g.order kept told),
        );
    tells = λ kept told. let tells = g.tells kept told in goes_tells content faults policy extension middle after t.taken tells.0 tells.1;
    settled = t.settled;
  }

  pub gone_stopped : (count turns : ℕ) (why : Fault) (at middle after : Standing K) → count < turns → follows at.server.keeper middle.server.keeper
      → follows middle.server.keeper after.server.keeper
      → GoneOn content faults policy extension follows leaves count at middle → LeavesTaking content faults policy extension follows leaves
      (Err why) middle after
      → LeavesTurns content faults policy extension follows leaves turns (Err why) at after
  gone_stopped count turns why at middle after fewer same next g t = record {
    taken = record { count = count; fewer = fewer; middle = middle; before = g.goes; last = t.taken };
    only =
        λ kept told first found before l.
        let tells = g.tells kept told in
        join content follows leaves at.server.keeper middle.server.keeper (IsLeftInGoes content faults policy extension count at middle g.goes)
        (IsLeftTaking content faults policy extension (Err why) middle after t.taken) g.only kept told
        first found before (t.only tells.0 tells.1 first found (on first at.server.keeper middle.server.keeper before same) l);
    order =
        λ kept told.
        let tells = g.tells kept told in
        all-further count at middle g.goes middle.server.keeper after.server.keeper (λ found. ⊥) (IsLeftTaking content faults policy extension
        (Err why) middle after t.taken)
        (IsLeftTaking content faults policy extension (Err why) middle after t.taken) next (t.only tells.0 tells.1)
        (gone (IsLeftTaking content faults policy extension (Err why) middle after t.taken)) (g.order kept told);
    settled = t.settled;
  }
