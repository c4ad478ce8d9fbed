-- A tick of the server's clock keeps what holds of every outer world.
use Rattle.std.proofs.Common.{◌≡◌, ◌<◌, ◌≤◌, ℕ, ◌+◌, ◌==◌, List, [], ◌∷◌, ◌++◌, Option, Some, None, length, refl, sym, subst, ap, ◌∙◌, arith, inl, inr}
use Rattle.std.specs.Prelude.{slice_get}
use Rattle.nq_base.specs.declared.Event.{Event}
use Rattle.nq_base.specs.declared.Tag.{Tag}
use Rattle.nq_base.specs.declared.Who.{Who}
use Rattle.nq_model.proofs.Finding.{find-passes}
use Rattle.nq_model.specs.protocol.Client.{Client}
use Rattle.nq_model.specs.protocol.Kept.{File, Kept, find_file, host_row, with_files}
use Rattle.nq_model.specs.laws.LeaseInterval.{cover_end}
use Rattle.nq_model.specs.protocol.Profile.{skew}
use Rattle.nq_model.specs.protocol.Server.{Phase, serving, recovering}
use Rattle.nq_model.specs.protocol.ServerStep.{boot, end_reading, fence, tick}
use Rattle.nq_model.specs.protocol.Skew.{ticks_of}
use Rattle.nq_model.specs.protocol.Table.{Table, with_rows}
use Rattle.nq_model.specs.protocol.World.{Head, World, step}
use Rattle.nq_directory.specs.NameCacheNames.{Names}
use Rattle.nq_name_server.specs.Served.{Served, names_of, number_of}
use Rattle.nq_name_server.specs.Serving.{ticks}
use Rattle.nq_name_server.specs.Outer.{Outer}
use Rattle.walk_steps.proofs.ClientMoves.{none-some}
use Rattle.walk_steps.proofs.Clocks.{runs-below, same-cover}
use Rattle.walk_steps.proofs.Packets.{In}
use Rattle.walk_steps.proofs.KeptChanges.{same-lines}
use Rattle.walk_steps.proofs.Rows.{same-number}
use Rattle.walk_steps.proofs.ServerMoves.{tick-keeps, tick-moves}
use Rattle.walk_steps.proofs.TableFits.{TableFits, no-rows-fit}
use Rattle.walk_steps.proofs.ServerFacts.{fence-lines}
use Rattle.walk_steps.proofs.ServerNumbers.{fence-longest}
use Rattle.law_names.proofs.Chains.{HasFit, IsServed, Leads, WasDrawn}
use Rattle.law_names.proofs.Claims.{Outlasts, Shift}
use Rattle.law_names.proofs.Entries.{entries_in, entries_of}
use Rattle.law_names.proofs.EventHosts.{NamesGo, host-goes}
use Rattle.law_names.proofs.EventShifts.{kept-shift}
use Rattle.law_names.proofs.InnerRuns.{IsKnown}
use Rattle.law_names.proofs.InnerSteps.{inner-inv}
use Rattle.law_names.proofs.OuterFits.{Inv, IsNew, Stands, ground}
use Rattle.law_names.proofs.ServedMoves.{ticks-fit, ticks-lead}
use Rattle.law_names.proofs.ServerNames.{fence-names}
use Rattle.law_names.proofs.Tables.{stand_ins}
use Rattle.law_names.proofs.EventPackets.{after-is, more-inner, more-stays, more_of}

module _ (most : ℕ) (head : Head) (w : World) (ran : List Event) (known : IsKnown most head w ran) (served : Served) (sides : List Names) (sent : List Outer)
    (bound : ℕ) (standing : Served) (inv : Inv w served sides sent ran bound standing) where
  clock : (host : ℕ) (c : Client) → slice_get w.clients host ≡ Some c → c.now ≡ ticks_of host ran
  clock host c is = known.clocked.clients host c is

  more-drawn : (standing.table.drawn ≤ bound + 1) × (served.table.drawn ≤ bound + 1)
  more-drawn = (let d = inv.drawn.0 in omega arith, let d = inv.drawn.1 in omega arith)

  -- ---- a tick of the server's clock

  -- what a tick does to what is kept and to the phase
  data TickGoes (kept : Kept) (phase : Phase) : Type 0 where
    serves_on : w.server.phase ≡ serving → phase ≡ serving → names_of kept.files ≡ names_of w.server.kept.files → kept.longest ≡ w.server.kept.longest
        → kept.boot ≡ w.server.kept.boot → ((host : ℕ) → host_row kept host ≡ host_row w.server.kept host) → TickGoes kept phase
    waits_on : (until heard : ℕ) (last : Option Table) → w.server.phase ≡ recovering until heard last → phase ≡ recovering until heard last
        → kept ≡ w.server.kept → TickGoes kept phase
    opens_now : (until heard : ℕ) (last : Option Table) → w.server.phase ≡ recovering until heard last → until ≤ w.server.now + 1 → phase ≡ serving
        → kept.files ≡ w.server.kept.files → kept.boot ≡ w.server.kept.boot → ((host : ℕ) → host_row kept host ≡ host_row w.server.kept host)
        → TickGoes kept phase

  fence-boot : (kept : Kept) (o : Option File) → (fence kept o).boot ≡ kept.boot
  unfolding with_files
  fence-boot kept None = refl
  fence-boot kept (Some f) = refl

  tick-goes : TickGoes (tick w.server (w.server.now + 1)).server.kept (tick w.server (w.server.now + 1)).server.phase
  tick-goes = tick-moves w.server (w.server.now + 1) (λ kept phase table. TickGoes kept phase) (record {
    waits = λ until heard last p goes. waits_on until heard last p p refl;
    opening = λ until heard last p over. opens_now until heard last p over refl refl refl (λ host. same-lines w.server.kept
        (record w.server.kept { opened = w.server.kept.boot; longest = w.server.longest }) host refl);
    ends_reading = λ p. serves_on p p refl refl refl (λ host. refl);
    ending_writing = λ row p due.
        serves_on p p
        (fence-names w.server.kept (find_file row.file w.server.kept.files) row.file known.within.within.apart refl
        (λ f e. same-number f.id row.file (find-passes (λ x. x.id == row.file) f w.server.kept.files e)))
        (fence-longest w.server.kept (find_file row.file w.server.kept.files))
        (fence-boot w.server.kept (find_file row.file w.server.kept.files))
        (λ host. fence-lines w.server.kept (find_file row.file w.server.kept.files) host);
  })

  -- while a claim runs by the clock of its host, the server's clock is below the end of its cover
  runs-on : IsKnown most head (step w Event.ServerTick) (Event.ServerTick ∷ ran) → (host : ℕ) (c : Client) → slice_get w.clients host ≡ Some c
      → (asked term : ℕ)
      → asked ≤ c.now → c.now < asked + term → term ≤ w.server.kept.longest → w.server.now + 1 < cover_end host asked term ran
  runs-on latter host c is asked term past runs short =
      let time = clock host c is in
      let few = known.runs.served.terms.kept_few in
      let there = known.runs.few host c is in
      let below = runs-below head.hosts most host asked term (Event.ServerTick ∷ ran) latter.skew there (omega arith) (omega arith) (omega arith) in
      let end = same-cover host asked term Event.ServerTick ran (omega arith) in
      let now = known.clocked.server in
      omega arith

  tick-server : (step w Event.ServerTick).server ≡ (tick w.server (w.server.now + 1)).server
  tick-server = after-is w (tick w.server (w.server.now + 1))

  abbrev ticked : World
  ticked = step w Event.ServerTick

  abbrev served-on : Served
  served-on = ticks served (step w Event.ServerTick).server.now

  clock-on : (step w Event.ServerTick).server.now ≡ w.server.now + 1
  clock-on = ap (λ s. s.now) tick-server ∙ (tick-keeps w.server (w.server.now + 1)).1

  -- the leases that stand after a tick
  record TickStands (later : Served) : Type 0 where
    fits : IsServed later
    stands : Stands ticked.server.phase served-on later
    boots : ticked.server.kept.boot ≡ w.server.kept.boot
    drawn : later.table.drawn ≤ bound + 1
    prefixes : (prefix : List ℕ) → In later.directories prefix → length prefix ≤ 64
    grows : (tag : Tag) → WasDrawn standing tag → WasDrawn later tag
    shift : (host : ℕ) (who : Who) (c d : Client) (prefix : List ℕ) (tag : Tag) → slice_get w.clients host ≡ Some c → c.who ≡ who → c.now ≤ d.now
        → Shift (ground w standing sent ran) (ground ticked later sent (Event.ServerTick ∷ ran)) host who c.now d.now prefix tag

  ticks-boot : (s : Served) (time : ℕ) → (ticks s time).table.boot ≡ s.table.boot
  unfolding with_rows
  ticks-boot s time = refl

  ticks-drawn : (s : Served) (time : ℕ) → (ticks s time).table.drawn ≡ s.table.drawn
  unfolding with_rows
  ticks-drawn s time = refl

  ticks-rows : (s : Served) (time : ℕ) → s.table.rows ≡ [] → (ticks s time).table.rows ≡ []
  unfolding with_rows
  ticks-rows s time none = ap (end_reading time) none

  tick-inv : (later : Served) → TickStands later → ((host : ℕ) (n : Names) → slice_get sides host ≡ Some n → NamesGo w Event.ServerTick sides host n)
      → Inv ticked served-on sides (sent ++ more_of w Event.ServerTick) (Event.ServerTick ∷ ran) (bound + 1) later
  tick-inv later k go =
      inner-inv w served sides sent ran bound standing inv ticked later served-on sides (more_of w Event.ServerTick) (Event.ServerTick ∷ ran) (record {
        fits = k.fits;
        stands = k.stands;
        time = refl;
        longest = inv.longest ∙ sym (tick-keeps w.server (w.server.now + 1)).0 ∙ ap (λ s. s.longest) (sym tick-server);
        boot = ticks-boot served ticked.server.now ∙ inv.boot ∙ sym k.boots;
        drawn = (k.drawn, let d = more-drawn.1 in let same = ticks-drawn served ticked.server.now in omega arith);
        prefixes = k.prefixes;
        grows = k.grows;
        hosts = λ host n is.
            host-goes most head w Event.ServerTick ran known served sides sent bound standing later inv
            (λ h who c d prefix tag old before mine claimed there back who-is own time. k.shift h who c d prefix tag there own time) host n (go host n is);
        inner = more-inner w Event.ServerTick;
        stays = λ number q h. more-stays w Event.ServerTick number q h;
      })

  abbrev kept-after : Kept
  kept-after = (tick w.server (w.server.now + 1)).server.kept

  kept-is : ticked.server.kept ≡ kept-after
  kept-is = ap (λ s. s.kept) tick-server

  phase-is : ticked.server.phase ≡ (tick w.server (w.server.now + 1)).server.phase
  phase-is = ap (λ s. s.phase) tick-server

  same-line : ((host : ℕ) → host_row kept-after host ≡ host_row w.server.kept host) → (host : ℕ) (who : Who) → (host_row w.server.kept host).inc ≡ who.inc
      → (host_row ticked.server.kept host).inc ≡ who.inc
  same-line lines host who e = ap (λ k. (host_row k host).inc) kept-is ∙ ap (λ r. r.inc) (lines host) ∙ e

  -- the boot serves on: reading rows that are over end
  module _ (latter : IsKnown most head ticked (Event.ServerTick ∷ ran)) (p : w.server.phase ≡ serving)
      (q : (tick w.server (w.server.now + 1)).server.phase ≡ serving) (names : names_of kept-after.files ≡ names_of w.server.kept.files)
      (longest : kept-after.longest ≡ w.server.kept.longest) (boots : kept-after.boot ≡ w.server.kept.boot)
      (lines : (host : ℕ) → host_row kept-after host ≡ host_row w.server.kept host) where
    one : standing ≡ served
    one = subst (λ x. Stands x served standing) p inv.stands

    fits-served : IsServed served
    fits-served = subst IsServed one inv.fits

    leads-on : Leads standing served-on
    leads-on = subst (λ x. Leads x served-on) (sym one) (ticks-lead served ticked.server.now fits-served)

    serving-shift : (host : ℕ) (who : Who) (c d : Client) (prefix : List ℕ) (tag : Tag) → slice_get w.clients host ≡ Some c → c.who ≡ who → c.now ≤ d.now
        → Shift (ground w standing sent ran) (ground ticked served-on sent (Event.ServerTick ∷ ran)) host who c.now d.now prefix tag
    serving-shift host who c d prefix tag there own time = record {
      leads = leads-on;
      time = time;
      inc = λ e. same-line lines host who e;
      same = λ e k. ap (entries_of prefix) (sym names) ∙ ap (λ x. entries_in prefix x.files) (sym kept-is);
      runs = λ asked term past runs inc above r.
          let early : c.now < asked + term = omega arith in
          let low = runs-on latter host c there asked term past early r.short in
          let end = same-cover host asked term Event.ServerTick ran (let t = clock host c there in omega arith) in
          let now = clock-on in
          record {
            short = let s = r.short in let l : ticked.server.kept.longest ≡ w.server.kept.longest = ap (λ x. x.longest) kept-is ∙ longest in omega arith;
            covered = subst (HasFit served-on prefix who tag) (sym end)
                (ticks-fit served ticked.server.now prefix who tag (cover_end host asked term ran) fits-served (omega arith)
                (subst (λ x. HasFit x prefix who tag (cover_end host asked term ran)) one r.covered));
            waits = subst (λ x. Outlasts x (cover_end host asked term (Event.ServerTick ∷ ran))) (sym (phase-is ∙ q)) tt;
          };
      gave = λ t g of. g;
    }

    tick-serving : TickStands served-on
    tick-serving = record {
      fits = leads-on.fits;
      stands = subst (λ x. Stands x served-on served-on) (sym (phase-is ∙ q)) refl;
      boots = ap (λ x. x.boot) kept-is ∙ boots;
      drawn = let d = more-drawn.1 in let same = ticks-drawn served ticked.server.now in omega arith;
      prefixes = λ prefix i. inv.prefixes prefix (subst (λ x. In x.directories prefix) (sym one) i);
      grows = leads-on.drawn;
      shift = serving-shift;
    }

  -- the recovery goes on
  module _ (until heard : ℕ) (last : Option Table) (p : w.server.phase ≡ recovering until heard last)
      (q : (tick w.server (w.server.now + 1)).server.phase ≡ recovering until heard last) (kept : kept-after ≡ w.server.kept) where
    new : IsNew served standing
    new = subst (λ x. Stands x served standing) p inv.stands

    tick-waits : TickStands standing
    tick-waits = record {
      fits = inv.fits;
      stands = subst (λ x. Stands x served-on standing) (sym (phase-is ∙ q)) (record {
        rows = ticks-rows served ticked.server.now new.rows;
        directories = new.directories;
        earlier = let e = new.earlier in let b = ticks-boot served ticked.server.now in omega arith;
      });
      boots = ap (λ x. x.boot) (kept-is ∙ kept);
      drawn = more-drawn.0;
      prefixes = inv.prefixes;
      grows = λ tag d. d;
      shift = λ host who c d prefix tag there own time.
          kept-shift w ticked standing sent ran Event.ServerTick host who c.now d.now prefix tag inv.fits (clock host c there) time (record {
            inc = λ e. ap (λ x. (host_row x host).inc) (kept-is ∙ kept) ∙ e;
            same = λ e k. ap (λ x. entries_in prefix x.files) (sym (kept-is ∙ kept));
            longest = ap (λ x. x.longest) (kept-is ∙ kept);
            outlasts = λ end o. subst (λ x. Outlasts x end) (p ∙ sym (phase-is ∙ q)) o;
          });
    }

  -- the recovery ends
  module _ (latter : IsKnown most head ticked (Event.ServerTick ∷ ran)) (until heard : ℕ) (last : Option Table) (p : w.server.phase ≡ recovering until
      heard last)
      (over : until ≤ w.server.now + 1) (q : (tick w.server (w.server.now + 1)).server.phase ≡ serving) (files : kept-after.files ≡ w.server.kept.files)
      (boots : kept-after.boot ≡ w.server.kept.boot) (lines : (host : ℕ) → host_row kept-after host ≡ host_row w.server.kept host) where
    new-before : IsNew served standing
    new-before = subst (λ x. Stands x served standing) p inv.stands

    older-drawn : (tag : Tag) → WasDrawn standing tag → WasDrawn served-on tag
    older-drawn tag (inl before) = inl (let e = new-before.earlier in let b = ticks-boot served ticked.server.now in omega arith)
    older-drawn tag (inr same) = inl (let e = new-before.earlier in let b = ticks-boot served ticked.server.now in let s = same.0 in omega arith)

    none-numbered : (prefix : List ℕ) (k : ℕ) → number_of prefix served-on.directories ≡ Some k → ⊥
    none-numbered prefix k e =
        let none : number_of prefix served-on.directories ≡ None = ap (number_of prefix) new-before.directories in
        none-some k (sym none ∙ e)

    empty-fits : IsServed served-on
    empty-fits =
        subst (λ rows. TableFits (stand_ins (length served-on.directories)) served-on.table.boot served-on.table.drawn rows)
        (sym (ticks-rows served ticked.server.now new-before.rows)) (no-rows-fit (stand_ins (length served-on.directories)) served-on.table.boot
        served-on.table.drawn)

    opening-leads : Leads standing served-on
    opening-leads = record {
      fits = empty-fits;
      drawn = older-drawn;
      chain = λ prefix who tag d c. absurd (none-numbered prefix c.number c.numbered);
      since = λ prefix who tag d c. absurd (none-numbered prefix c.number c.numbered);
    }

    tick-opens : TickStands served-on
    tick-opens = record {
      fits = empty-fits;
      stands = subst (λ x. Stands x served-on served-on) (sym (phase-is ∙ q)) refl;
      boots = ap (λ x. x.boot) kept-is ∙ boots;
      drawn = let d = more-drawn.1 in let same = ticks-drawn served ticked.server.now in omega arith;
      prefixes = λ prefix i. absurd (subst (λ x. In x prefix) new-before.directories i);
      grows = older-drawn;
      shift = λ host who c d prefix tag there own time. record {
        leads = opening-leads;
        time = time;
        inc = λ e. same-line lines host who e;
        same = λ e k. absurd (none-numbered prefix k.number k.numbered);
        runs = λ asked term past runs inc above r.
            let early : c.now < asked + term = omega arith in
            let low = runs-on latter host c there asked term past early r.short in
            let late : cover_end host asked term ran ≤ until = subst (λ x. Outlasts x (cover_end host asked term ran)) p r.waits in
            absurd (omega arith);
        gave = λ t g of. g;
      };
    }

  pub tick-event : IsKnown most head ticked (Event.ServerTick ∷ ran)
      → ((host : ℕ) (n : Names) → slice_get sides host ≡ Some n → NamesGo w Event.ServerTick sides host n)
      → (later : Served) × Inv ticked served-on sides (sent ++ more_of w Event.ServerTick) (Event.ServerTick ∷ ran) (bound + 1) later
  tick-event latter go = by tick-goes
    where
      by : TickGoes kept-after (tick w.server (w.server.now + 1)).server.phase
          → (later : Served) × Inv ticked served-on sides (sent ++ more_of w Event.ServerTick) (Event.ServerTick ∷ ran) (bound + 1) later
      by (serves_on p q names longest boots lines) = (served-on, tick-inv served-on (tick-serving latter p q names longest boots lines) go)
      by (waits_on until heard last p q kept) = (standing, tick-inv standing (tick-waits until heard last p q kept) go)
      by (opens_now until heard last p over q files boots lines) = (
        served-on,
        tick-inv served-on (tick-opens latter until heard last p over q files
            boots lines) go,
      )
