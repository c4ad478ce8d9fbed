-- Events of the inner world keep what holds of every outer world.
use Rattle.std.proofs.Common.{◌≡◌, ◌≢◌, ◌≤◌, ℕ, ◌+◌, ◌==◌, Bool, true, false, List, ◌∷◌, ◌++◌, Option, Some, None, length, refl, sym, subst, ap, ◌∙◌, arith}
use Rattle.std.specs.Prelude.{slice_get, slice_set}
use Rattle.nq_base.specs.declared.Event.{Event}
use Rattle.nq_base.specs.declared.Party.{Party}
use Rattle.nq_base.specs.declared.Tag.{Tag}
use Rattle.nq_base.specs.declared.Who.{Who}
use Rattle.nq_model.specs.protocol.Client.{Client}
use Rattle.nq_model.specs.protocol.ClientStep.{restart}
use Rattle.nq_model.specs.protocol.Kept.{host_row, with_files, with_new_file, with_row}
use Rattle.nq_model.specs.laws.LeaseInterval.{cover_end}
use Rattle.nq_model.specs.protocol.Message.{Datagram, Packet, datagram_of}
use Rattle.nq_model.specs.protocol.Profile.{skew, write_slack}
use Rattle.nq_model.specs.protocol.Server.{Phase, serving, recovering, Server, ServerStep, last_in}
use Rattle.nq_model.specs.protocol.ServerStep.{boot, crash, receive}
use Rattle.nq_model.specs.protocol.Skew.{ticks_of}
use Rattle.nq_model.specs.protocol.Table.{empty_table}
use Rattle.nq_model.specs.protocol.World.{Head, World, after_server, sending_host, step}
use Rattle.nq_directory.specs.NameCacheNames.{Names, new_names}
use Rattle.nq_name_server.specs.Served.{Served}
use Rattle.nq_name_server.specs.Outer.{Outer, of_boot}
use Rattle.nq_name_server.specs.Outside.{new_side}
use Rattle.walk_steps.proofs.ServerLives.{booted-kept, booted-phase}
use Rattle.walk_steps.proofs.Clocks.{moment-past, same-cover}
use Rattle.walk_steps.proofs.Worlds.{get-set-other, get-set-same}
use Rattle.walk_steps.proofs.Rows.{number-same, same-number}
use Rattle.walk_steps.proofs.ServerMoves.{receive-keeps, server-moves}
use Rattle.law_names.proofs.Chains.{Chained, HasFit, same-leads}
use Rattle.law_names.proofs.Claims.{Outlasts, Shift}
use Rattle.law_names.proofs.Entries.{entries_in}
use Rattle.law_names.proofs.EventHosts.{NamesGo, at-there, forgets, host-goes, restart-who, same-names}
use Rattle.law_names.proofs.EventShifts.{ChangesIn, kept-shift, received-kept, same-kept}
use Rattle.law_names.proofs.InnerRuns.{IsKnown}
use Rattle.law_names.proofs.InnerSteps.{inner-inv}
use Rattle.law_names.proofs.OuterFits.{Inv, Stands, ground}
use Rattle.law_names.proofs.ServerNames.{PhaseGoes, receive-phase}
use Rattle.law_names.proofs.EventPackets.{more-inner, more-stays, more_of, server-is, unset}

stands-on : (p q : Phase) (now standing : Served) → PhaseGoes p q → Stands p now standing → Stands q now standing
stands-on serving serving now standing g h = h
stands-on (recovering until heard last) (recovering later x l) now standing g h = h
stands-on serving (recovering later x l) now standing g h = absurd g
stands-on (recovering until heard last) serving now standing g h = absurd g

module _ (most : ℕ) (head : Head) (w : World) (ran : List Event) (known : IsKnown most head w ran) (served : Served) (sides : List Names) (sent : List Outer)
    (bound : ℕ) (standing : Served) (inv : Inv w served sides sent ran bound standing) where
  clock : (host : ℕ) (c : Client) → slice_get w.clients host ≡ Some c → c.now ≡ ticks_of host ran
  clock host c is = known.clocked.clients host c is

  more-drawn : (standing.table.drawn ≤ bound + 1) × (served.table.drawn ≤ bound + 1)
  more-drawn = (let d = inv.drawn.0 in omega arith, let d = inv.drawn.1 in omega arith)

  -- ---- an event of a client

  pub client-event : (e : Event) (names : List Names) → (step w e).server ≡ w.server
      → ((host : ℕ) (n : Names) → slice_get names host ≡ Some n → NamesGo w e sides host n)
      → Inv (step w e) served names (sent ++ more_of w e) (e ∷ ran) (bound + 1) standing
  client-event e names same go =
      inner-inv w served sides sent ran bound standing inv (step w e) standing served names (more_of w e) (e ∷ ran) (record {
        fits = inv.fits;
        stands = subst (λ s. Stands s.phase served standing) (sym same) inv.stands;
        time = inv.time ∙ ap (λ s. s.now) (sym same);
        longest = inv.longest ∙ ap (λ s. s.longest) (sym same);
        boot = inv.boot ∙ ap (λ s. s.kept.boot) (sym same);
        drawn = more-drawn;
        prefixes = inv.prefixes;
        grows = λ tag d. d;
        hosts = λ host n is.
            host-goes most head w e ran known served sides sent bound standing standing inv
            (λ h who c d prefix tag old before mine claimed there later who-is own time.
            kept-shift w (step w e) standing sent ran e h who c.now d.now prefix tag inv.fits (clock h c there) time
            (same-kept w (step w e) h who prefix standing tag same))
            host n (go host n is);
        inner = more-inner w e;
        stays = λ number p h. more-stays w e number p h;
      })

  -- ---- a datagram at the server

  boot-stays : (s : Server) (sender next : ℕ) (d : Datagram) → (receive s sender next d).server.kept.boot ≡ s.kept.boot
  unfolding with_row with_files with_new_file
  boot-stays s sender next d = server-moves s sender next d (λ kept phase table. kept.boot ≡ s.kept.boot) (record {
    stays = refl;
    decided = λ kept phase table who line e f q. q;
    attaching = λ who later. refl;
    vacating = λ who file tag current. refl;
    marking = λ file host access serves. refl;
    marking_waiting = λ xid r who f want e wants asking own room. refl;
    granting = λ xid r who f want row term e wants asking c g. refl;
    creating = λ name blocks serves can. refl;
    changing = λ who f file serves current found same c. refl;
    storing = λ who f file base row serves current found same can. refl;
    storing_recovering = λ f file until heard last p found same. refl;
    removing = λ who f serves current found c. refl;
  })

  pub receive-event : (number : ℕ) (p : Packet) → slice_get w.packets number ≡ Some p → p.to ≡ Party.Server
      → ((prefix : List ℕ) → ChangesIn w.server (sending_host p.sender) (datagram_of p.message) prefix → (x : Who) (tag : Tag)
      → Chained standing prefix x tag → x.host ≡ sending_host p.sender)
      → IsKnown most head (step w (Event.Deliver number)) (Event.Deliver number ∷ ran)
      → ((host : ℕ) (n : Names) → slice_get sides host ≡ Some n → NamesGo w (Event.Deliver number) sides host n)
      → Inv (step w (Event.Deliver number)) served sides (sent ++ more_of w (Event.Deliver number)) (Event.Deliver number ∷ ran) (bound + 1) standing
  receive-event number p there to free latter go =
      inner-inv w served sides sent ran bound standing inv (step w (Event.Deliver number)) standing served sides (more_of w (Event.Deliver number))
      (Event.Deliver number ∷ ran) (record {
        fits = inv.fits;
        stands = subst (λ s. Stands s.phase served standing) (sym is)
            (stands-on w.server.phase t.server.phase served standing (receive-phase w.server (sending_host p.sender) (length w.packets)
            (datagram_of p.message)).1 inv.stands);
        time = inv.time ∙ sym (receive-keeps w.server (sending_host p.sender) (length w.packets) (datagram_of p.message)).1 ∙ ap (λ s. s.now) (sym is);
        longest = inv.longest ∙ sym (receive-keeps w.server (sending_host p.sender) (length w.packets) (datagram_of p.message)).0
            ∙ ap (λ s. s.longest) (sym is);
        boot = inv.boot ∙ sym (boot-stays w.server (sending_host p.sender) (length w.packets) (datagram_of p.message)) ∙ ap (λ s. s.kept.boot) (sym is);
        drawn = more-drawn;
        prefixes = inv.prefixes;
        grows = λ tag d. d;
        hosts = λ host n here.
            host-goes most head w (Event.Deliver number) ran known served sides sent bound standing standing inv
            (λ h who c d prefix tag old before mine claimed client later who-is own time.
            kept-shift w (step w (Event.Deliver number)) standing sent ran (Event.Deliver number) h who c.now d.now prefix tag inv.fits (clock h c client) time
            (received-kept most head w ran known served sides sent bound standing inv number p there to free (step w (Event.Deliver number)) is latter
            h who c d
            prefix tag old before mine claimed client later who-is own))
            host n (go host n here);
        inner = more-inner w (Event.Deliver number);
        stays = λ k q h. more-stays w (Event.Deliver number) k q h;
      })
    where
      t : ServerStep
      t = receive w.server (sending_host p.sender) (length w.packets) (datagram_of p.message)

      is : (step w (Event.Deliver number)).server ≡ t.server
      is = server-is w number p there to

  -- ---- a crash

  abbrev crashed : ℕ → World
  crashed longest = step w (Event.Crash longest)

  crash-kept : (longest : ℕ) → (crashed longest).server.kept ≡ record w.server.kept { boot = w.server.kept.boot + 1 }
  unfolding boot crash after_server
  crash-kept longest = booted-kept w.server.kept longest known.runs.served.opened

  crash-phase : (longest : ℕ) → (crashed longest).server.phase
      ≡ recovering (w.server.now + w.server.kept.longest + (skew + write_slack)) w.server.now (last_in w.server.phase w.server.table)
  unfolding boot crash after_server
  crash-phase longest =
      booted-phase w.server.kept.opened w.server.kept.longest w.server.now (last_in w.server.phase w.server.table) known.runs.served.opened.opened

  crash-boot : (longest : ℕ) → (crashed longest).server.table.boot ≡ w.server.kept.boot + 1
  unfolding boot crash after_server empty_table
  crash-boot longest = refl

  -- no boot of the leases that stand is after the kept one
  boot-low : (phase : Phase) → Stands phase served standing → standing.table.boot ≤ w.server.kept.boot
  boot-low serving h = let b = inv.boot in let e : standing.table.boot ≡ served.table.boot = ap (λ s. s.table.boot) h in omega arith
  boot-low (recovering until heard last) h = let b = inv.boot in let e = h.earlier in omega arith

  pub crash-event : (longest : ℕ) → ((host : ℕ) (n : Names) → slice_get sides host ≡ Some n → NamesGo w (Event.Crash longest) sides host n)
      → Inv (crashed longest) (of_boot (crashed longest)) sides (sent ++ more_of w (Event.Crash longest)) (Event.Crash longest ∷ ran) (bound + 1) standing
  unfolding empty_table
  crash-event longest go =
      inner-inv w served sides sent ran bound standing inv (crashed longest) standing (of_boot (crashed longest)) sides (more_of w (Event.Crash longest))
      (Event.Crash longest ∷ ran) (record {
        fits = inv.fits;
        stands = subst (λ x. Stands x (of_boot (crashed longest)) standing) (sym (crash-phase longest)) (record {
          rows = refl;
          directories = refl;
          earlier = let low = boot-low w.server.phase inv.stands in let b = crash-boot longest in omega arith;
        });
        time = refl;
        longest = refl;
        boot = crash-boot longest ∙ sym (ap (λ k. k.boot) (crash-kept longest));
        drawn = (more-drawn.0, omega arith);
        prefixes = inv.prefixes;
        grows = λ tag d. d;
        hosts = λ host n is.
            host-goes most head w (Event.Crash longest) ran known served sides sent bound standing standing inv
            (λ h who c d prefix tag old before mine claimed there back who-is own time. shift h who c d prefix tag there time) host n (go host n is);
        inner = more-inner w (Event.Crash longest);
        stays = λ number q h. more-stays w (Event.Crash longest) number q h;
      })
    where
      shift : (host : ℕ) (who : Who) (c d : Client) (prefix : List ℕ) (tag : Tag) → slice_get w.clients host ≡ Some c → c.now ≤ d.now
          → Shift (ground w standing sent ran) (ground (crashed longest) standing sent (Event.Crash longest ∷ ran)) host who c.now d.now prefix tag
      shift host who c d prefix tag there time = record {
        leads = same-leads standing standing refl refl inv.fits;
        time = time;
        inc = λ e. ap (λ k. (host_row k host).inc) (crash-kept longest) ∙ e;
        same = λ e k. ap (λ x. entries_in prefix x.files) (sym (crash-kept longest));
        runs = λ asked term past runs inc above r.
            let on = clock host c there in
            let end = same-cover host asked term (Event.Crash longest) ran (omega arith) in
            let before = moment-past host asked ran (omega arith) in
            let now = known.clocked.server in
            let s = r.short in
            record {
              short = let l : (crashed longest).server.kept.longest ≡ w.server.kept.longest = ap (λ k. k.longest) (crash-kept longest) in omega arith;
              covered = subst (HasFit standing prefix who tag) (sym end) r.covered;
              waits = subst (λ x. Outlasts x (cover_end host asked term (Event.Crash longest ∷ ran))) (sym (crash-phase longest)) (omega arith);
            };
        gave = λ t g of. g;
      }

-- ---- the names after a restart

pub restart-names : (w : World) (served : Served) (sides : List Names) (sent : List Outer) (ran : List Event) (bound : ℕ) (standing : Served)
    → Inv w served sides sent ran bound standing → (h host : ℕ) (n : Names)
    → slice_get (new_side (slice_get (step w (Event.Restart h)).clients h) sides h) host ≡ Some n → NamesGo w (Event.Restart h) sides host n
restart-names w served sides sent ran bound standing inv h host n is = by (h == host) refl
  where
    other : (h == host) ≡ false → slice_get sides host ≡ Some n → NamesGo w (Event.Restart h) sides host n
    other g there = same-names w sides (Event.Restart h) host n there (λ e. let same : h ≡ host = cc in let yes = number-same h host same in absurd (cc)) refl

    left : (o : Option Client) → host ≢ h → slice_get (new_side o sides h) host ≡ Some n → slice_get sides host ≡ Some n
    left None apart e = e
    left (Some c) apart e = sym (get-set-other sides h host (new_names c.who) apart) ∙ e

    mine : (h ≡ host) → (s : (m : Names) × slice_get sides host ≡ Some m) → NamesGo w (Event.Restart h) sides host n
    mine one s =
        let k = inv.hosts host s.0 s.1 in
        let after = at-there w host restart k.client k.there in
        let here : slice_get (step w (Event.Restart h)).clients h ≡ Some (restart k.client).client =
        subst (λ x. slice_get (step w (Event.Restart x)).clients x ≡ Some (restart k.client).client) (sym one) after in
        let new : n ≡ new_names (restart k.client).client.who =
        get-set-same sides host (new_names (restart k.client).client.who) n
        (subst (λ x. slice_get (slice_set sides x (new_names (restart k.client).client.who)) host ≡ Some n) one
        (ap (λ o. slice_get (new_side o sides h) host) (sym here) ∙ is)) in
        forgets s.0 k.client s.1 k.there (ap (λ x. Event.Restart x) one) (new ∙ ap new_names (restart-who k.client))

    some : (o : Option Names) → slice_get sides host ≡ o → h ≡ host → (x : Option Client) → slice_get (new_side x sides h) host ≡ Some n
        → (m : Names) × slice_get sides host ≡ Some m
    some (Some m) e one x f = (m, e)
    some None e one None f = (n, f)
    some None e one (Some c) f = absurd (unset sides h host (new_names c.who) n one e f)

    by : (b : Bool) → (h == host) ≡ b → NamesGo w (Event.Restart h) sides host n
    by true g =
        let one = same-number h host g in
        mine one (some (slice_get sides host) refl one (slice_get (step w (Event.Restart h)).clients h) is)
    by false g = other g (left (slice_get (step w (Event.Restart h)).clients h) (λ same. let yes = number-same h host (sym same) in absurd (cc)) is)
