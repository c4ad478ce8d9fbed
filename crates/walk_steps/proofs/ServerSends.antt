-- A step of the server sends at most 64 packets, where each host has one row of a file at most.
use Rattle.std.proofs.Common.{◌≡◌, ◌<◌, ◌≤◌, ℕ, ◌+◌, ◌%◌, ◌==◌, ◌&&◌, ◌++◌, suc, Bool, true, false, List, [], ◌∷◌, if◌then◌else◌, length, refl, ap, ◌∙◌, arith}
use Rattle.std.specs.Prelude.{filter, option_map, Option, Some, None}
use Rattle.std.proofs.lemmas.List.{length-append}
use Rattle.nq_base.specs.declared.Access.{Access}
use Rattle.nq_base.specs.declared.Question.{Question}
use Rattle.nq_base.specs.declared.Row.{Row}
use Rattle.nq_base.specs.declared.Tag.{Tag}
use Rattle.nq_base.specs.declared.Want.{Want}
use Rattle.nq_base.specs.declared.Who.{Who}
use Rattle.nq_model.specs.protocol.Ask.{marked, sharing_row, caching_row, shared_again, renewed_row}
use Rattle.nq_model.specs.protocol.Decide.{in_the_way, decides, creates, writes_through, stores, stores_recovering, resizes, removes, puts_off, commits}
use Rattle.nq_model.specs.protocol.Kept.{Kept}
use Rattle.nq_model.specs.protocol.Message.{Datagram, Packet}
use Rattle.nq_model.specs.protocol.Profile.{most_hosts, xid_end}
use Rattle.nq_model.specs.protocol.Server.{Server, last_in, notices, quiet, drops, says}
use Rattle.nq_model.specs.protocol.ServerStep.{access_of, to_read, end_reading, attaches, vacates, vacated_rows, tells_later, serves, leases, opens}
use Rattle.nq_model.specs.protocol.ServerStep.{ends_writing, receive, tick, boot, crash}
use Rattle.nq_model.specs.protocol.Table.{Table, empty_table, after_draw, find_row, is_row_of, put_row, drop_row, same_tag, with_rows}
use Rattle.nq_model.specs.protocol.ServerAlone.{Coming, datagram, ticks, crashes, step_for, server_after, first_boot}
use Rattle.walk_steps.proofs.AskCases.{IsGranted, shares_again, begins_sharing, begins_caching, renews_row}
use Rattle.walk_steps.proofs.RowChanges.{mark, find-put, find-marked, none-filtered, of-key}
use Rattle.walk_steps.proofs.Rows.{choice, found-row}
use Rattle.walk_steps.proofs.ServerOutcomes.{wanted_by}
use Rattle.walk_steps.proofs.ServerCases.{server-hears, server-ticks}
use Rattle.walk_steps.proofs.ServerMoves.{server-moves, tick-moves}
use Rattle.walk_steps.proofs.NoticeCounts.{HostedBelow, fewer-than-hosts}

-- ---- each row is of a host that there can be

Hosted : List Row → Type 0
Hosted rows = HostedBelow most_hosts rows

hosted-filter : (q : Row → Bool) (rows : List Row) → Hosted rows → Hosted (filter q rows)
unfolding Hosted HostedBelow
hosted-filter q rows h file host far = none-filtered (is_row_of file host) q rows (h file host far)

hosted-marked : (f by : ℕ) (access : Access) (rows : List Row) → Hosted rows → Hosted (marked f by access rows)
unfolding Hosted HostedBelow
hosted-marked f by access rows h file host far = find-marked file host f by access rows ∙ ap (option_map (mark f by access)) (h file host far)

hosted-put : (row : Row) (rows : List Row) → row.who.host < most_hosts → Hosted rows → Hosted (put_row row rows)
unfolding Hosted HostedBelow
hosted-put row rows within h file host far = find-put file host row rows ∙ by (is_row_of file host row) refl
  where
    by : (b : Bool) → is_row_of file host row ≡ b → (if b then Some row else find_row file host rows) ≡ None
    by true e = let own = (of-key file host row e).1 in absurd (omega arith)
    by false e = h file host far

hosted-vacated : (who : Who) (file : ℕ) (tag : Tag) (rows : List Row) (o : Option Row) → Hosted rows → Hosted (vacated_rows who file tag rows o)
hosted-vacated who file tag rows None h = h
hosted-vacated who file tag rows (Some row) h =
    choice Hosted (row.who.inc == who.inc && same_tag row.tag tag) (drop_row file who.host rows) rows (λ e. hosted-filter _ rows h) (λ e. h)

granted-host : (table : Table) (q : Question) (want : Want) (row : Row) (term : ℕ) → IsGranted table q want row term → q.who.host < most_hosts
    → row.who.host < most_hosts
unfolding sharing_row caching_row shared_again renewed_row
granted-host table q want row term (shares_again own has quiet alone is t) within =
    let same : row.who.host ≡ own.who.host = ap (λ (r : Row). r.who.host) is in
    let host = (found-row q.file q.who.host table.rows own has).1 in
    omega arith
granted-host table q want row term (begins_sharing none room shared is t) within =
    let same : row.who.host ≡ q.who.host = ap (λ (r : Row). r.who.host) is in omega arith
granted-host table q want row term (begins_caching none room alone is t) within =
    let same : row.who.host ≡ q.who.host = ap (λ (r : Row). r.who.host) is in omega arith
granted-host table q want row term (renews_row own has quiet caching is t) within =
    let same : row.who.host ≡ own.who.host = ap (λ (r : Row). r.who.host) is in
    let host = (found-row q.file q.who.host table.rows own has).1 in
    omega arith

hosted-receive : (s : Server) (sender next : ℕ) (d : Datagram) → Hosted s.table.rows → Hosted (receive s sender next d).server.table.rows
unfolding with_rows after_draw sharing_row
hosted-receive s sender next d h = server-moves s sender next d (λ kept phase table. Hosted table.rows) (record {
  stays = h;
  decided = λ kept phase table who line inc same rest. rest;
  attaching = λ who later. hosted-filter _ s.table.rows h;
  vacating = λ who file tag current. hosted-vacated who file tag s.table.rows (find_row file who.host s.table.rows) h;
  marking = λ file host access serves. hosted-marked file host access s.table.rows h;
  marking_waiting =
      λ xid r who f want e wants asking none room. hosted-put _ (marked f.id who.host (access_of (Some want)) s.table.rows) asking.current.from.possible
      (hosted-marked f.id who.host (access_of (Some want)) s.table.rows h);
  granting =
      λ xid r who f want row term e wants asking none granted. hosted-put row s.table.rows
      (granted-host s.table (to_read s who f (Some want)) want row term granted asking.current.from.possible) h;
  creating = λ name blocks serves can. h;
  changing = λ who f file serves current found same none. h;
  storing = λ who f file base row serves current found same can.
      let host = (found-row f.id who.host s.table.rows row can.row_found).1 in
      let possible = current.from.possible in
      hosted-put (record row { heard = s.now }) s.table.rows (omega arith) h;
  storing_recovering = λ f file until heard last recovers found same. h;
  removing = λ who f serves current found none. hosted-filter _ s.table.rows h;
})

hosted-tick : (s : Server) (now : ℕ) → Hosted s.table.rows → Hosted (tick s now).server.table.rows
unfolding with_rows
hosted-tick s now h = tick-moves s now (λ kept phase table. Hosted table.rows) (record {
  waits = λ until heard last recovers early. h;
  opening = λ until heard last recovers late. h;
  ends_reading = λ serves. hosted-filter _ s.table.rows h;
  ending_writing = λ row serves due. hosted-filter _ (end_reading now s.table.rows) (hosted-filter _ s.table.rows h);
})

hosted-none : Hosted []
unfolding Hosted HostedBelow
hosted-none file host far = refl

hosted-boot : (kept : Kept) (longest now : ℕ) (last : Option Table) → Hosted (boot kept longest now last).table.rows
unfolding boot empty_table
hosted-boot kept longest now last = hosted-none

hosted-crash : (s : Server) (longest : ℕ) → Hosted (crash s longest).server.table.rows
unfolding crash
hosted-crash s longest = hosted-boot s.kept longest s.now (last_in s.phase s.table)

hosted-step : (s : Server) (c : Coming) → Hosted s.table.rows → Hosted (step_for s c).server.table.rows
hosted-step s (datagram sender next d) h = hosted-receive s sender next d h
hosted-step s (ticks passed) h = hosted-tick s (s.now + passed) h
hosted-step s (crashes longest) h = hosted-crash s longest

pub all-hosted : (kept : Kept) (longest now : ℕ) (came : List Coming) → HostedBelow most_hosts (server_after (first_boot kept longest now) came).table.rows
unfolding Hosted
all-hosted kept longest now [] = hosted-boot kept longest now None
all-hosted kept longest now (c ∷ earlier) = hosted-step (server_after (first_boot kept longest now) earlier) c (all-hosted kept longest now earlier)

-- ---- what is sent

length-notices : (xid : ℕ) (rows : List Row) → length (notices xid rows) ≡ length rows
length-notices xid [] = refl
length-notices xid (r ∷ rows) = ap (λ n. suc n) (length-notices ((xid + 1) % xid_end) rows)

notices-and-one : (xid : ℕ) (rows : List Row) (p : Packet) → length rows + 1 ≤ most_hosts → length (notices xid rows ++ p ∷ []) ≤ most_hosts
notices-and-one xid rows p few =
    let both = length-append (notices xid rows) (p ∷ []) in
    let all = length-notices xid rows in
    omega arith

later-few : (s : Server) (who : Who) (xid : ℕ) (table : Table) (rows : List Row) → length rows + 1 ≤ most_hosts
    → length (tells_later s who xid table rows).sends ≤ most_hosts
unfolding tells_later
later-few s who xid table rows few = notices-and-one s.notice rows _ few

module _ (s : Server) (each : (file host : ℕ) → length (filter (is_row_of file host) s.table.rows) ≤ 1) (hosted : HostedBelow most_hosts s.table.rows) where
  few-in-way : (file host : ℕ) (access : Access) → host < most_hosts → length (in_the_way s file host access) + 1 ≤ most_hosts
  few-in-way file host access within = fewer-than-hosts file host access most_hosts s.table.rows (each file) hosted within

  pub receive-few : (sender next : ℕ) (d : Datagram) → length (receive s sender next d).sends ≤ most_hosts
  unfolding quiet drops says attaches vacates serves leases decides creates writes_through stores stores_recovering resizes removes puts_off commits
  receive-few sender next d = server-hears s sender next d (λ t. length t.sends ≤ most_hosts) (record {
    stays = omega arith;
    dropping = λ reason. omega arith;
    erring = λ m e. omega arith;
    answers_null = λ xid e. omega arith;
    replying = λ xid who r reply e by from plain. omega arith;
    attaching = λ xid who e from later. omega arith;
    vacating = λ xid who file tag e current. omega arith;
    putting_off =
        λ xid who r f clash e by file asking c. later-few s who xid _ _ (few-in-way f.id who.host (access_of (wanted_by r)) asking.current.from.possible);
    putting_off_waiting =
        λ xid who r f clash want e by file wants asking c own room. later-few s who xid _ _
        (few-in-way f.id who.host (access_of (Some want)) asking.current.from.possible);
    putting_off_by_own = λ xid who r f want own e by file wants asking c o evicting. later-few s who xid _ (own ∷ []) (omega arith);
    reading = λ xid who q block f body e asking there c. omega arith;
    reading_full = λ xid who q block want f body e asking there c own room. omega arith;
    reading_granted = λ xid who q block want f body row term e asking there c g. omega arith;
    leasing_full = λ xid who want f e asking c own room. omega arith;
    leasing = λ xid who want f row term e asking c g. omega arith;
    declining = λ xid who seq r verdict e by sq fresh declined. omega arith;
    putting_off_change =
        λ xid who seq r f clash e by sq file base changing c. notices-and-one s.notice (in_the_way s f.id who.host Access.Write) _
        (few-in-way f.id who.host Access.Write changing.fresh.current.from.possible);
    creating = λ xid who seq blocks name e fresh serves can. omega arith;
    writing_through = λ xid who seq block first last body f e changing below c. omega arith;
    storing = λ xid who seq block first last base body f row e changing below can. omega arith;
    storing_recovering = λ xid who seq block first final base body f until heard last e fresh recovers found below boot rev. omega arith;
    resizing = λ xid who seq q blocks f e changing can c. omega arith;
    removing = λ xid who seq q f e changing c. omega arith;
  })

pub tick-none : (s : Server) (now : ℕ) → (tick s now).sends ≡ []
unfolding quiet opens ends_writing
tick-none s now = server-ticks s now (λ t. t.sends ≡ []) (record {
  waits = λ until heard last recovers early. refl;
  opening = λ until heard last recovers late. refl;
  ends_reading = λ serves none. refl;
  ending_writing = λ row serves due. refl;
})

pub crash-none : (s : Server) (longest : ℕ) → (crash s longest).sends ≡ []
unfolding crash
crash-none s longest = refl
