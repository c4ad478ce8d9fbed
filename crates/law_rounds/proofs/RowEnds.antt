-- In every run each row ends soon, and each recovery.
use Rattle.std.proofs.Common.{◌≡◌, ◌≤◌, ◌⊎◌, ℕ, ◌+◌, ◌==◌, ◌&&◌, not, max, Bool, true, false, List, [], ◌∷◌, Option, Some, None, if◌then◌else◌}
use Rattle.std.proofs.Common.{length, refl, sym, subst, arith, inl, inr}
use Rattle.std.specs.List.{filter}
use Rattle.std.proofs.lemmas.Bool.Decides.{nat_tests}
use Rattle.nq_base.specs.declared.Access.{Access}
use Rattle.nq_base.specs.declared.Event.{Event}
use Rattle.nq_base.specs.declared.Question.{Question}
use Rattle.nq_base.specs.declared.Row.{Row}
use Rattle.nq_base.specs.declared.Tag.{Tag}
use Rattle.nq_base.specs.declared.Want.{Want}
use Rattle.nq_base.specs.declared.Who.{Who}
use Rattle.nq_model.specs.protocol.Ask.{marked, term_of, sharing_row, caching_row, shared_again, renewed_row}
use Rattle.nq_model.specs.protocol.Kept.{Kept, find_file, with_files}
use Rattle.nq_model.specs.protocol.Message.{Datagram, datagram_of}
use Rattle.nq_model.specs.protocol.Profile.{skew, write_slack, shortest_term, granted_term}
use Rattle.nq_model.specs.protocol.Server.{Phase, serving, recovering, Server, ServerStep}
use Rattle.nq_model.specs.protocol.ServerStep.{access_of, to_read, vacated_rows, end_reading, fence, receive, tick, boot_phase, booted, boot, crash}
use Rattle.nq_model.specs.protocol.Table.{Table, empty_table, is_row_of, is_writing, row_before, insert_row, drop_row, put_row, same_tag, with_rows, after_draw}
use Rattle.nq_model.specs.protocol.World.{Head, World, after_server, after_client, sending_host, first_kept, start, run}
use Rattle.nq_model.specs.laws.Bounds.{KeepsBounds}
use Rattle.nq_model.specs.protocol.Skew.{IsWithinSkew}
use Rattle.walk_steps.proofs.LeaseIntervals.{run-runs}
use Rattle.walk_steps.proofs.Members.{in-filtered, in-map, find-in}
use Rattle.walk_steps.proofs.Packets.{In}
use Rattle.walk_steps.proofs.Steps.{Changes, nothing, by_client, by_server, ServerActs, received, ticks, crashes, step-changes, run-goes}
use Rattle.walk_steps.proofs.AskCases.{IsGranted, shares_again, begins_sharing, begins_caching, renews_row}
use Rattle.walk_steps.proofs.RowChanges.{mark, mark-is}
use Rattle.walk_steps.proofs.Rows.{choice}
use Rattle.walk_steps.proofs.ServerMoves.{server-moves, phase-moves, receive-keeps, tick-moves, tick-keeps}
use Rattle.law_rounds.specs.EndsSoon.{RowsEndSoon, RecoveriesEndSoon}

-- ---- rows

record Within (now longest : ℕ) (row : Row) : Type 0 where
  until : row.until ≤ (now + longest) + skew
  heard : row.heard ≤ now

AllWithin : (now longest : ℕ) → List Row → Type 0
AllWithin now longest rows = (row : Row) → In rows row → Within now longest row

none-within : (now longest : ℕ) → AllWithin now longest []
unfolding AllWithin
none-within now longest row i = absurd i

later-within : (now later longest : ℕ) (rows : List Row) → now ≤ later → AllWithin now longest rows → AllWithin later longest rows
unfolding AllWithin
later-within now later longest rows goes all row i = let w = all row i in record {
  until = let u = w.until in omega arith;
  heard = let h = w.heard in
      omega arith;
}

filter-within : (now longest : ℕ) (q : Row → Bool) (rows : List Row) → AllWithin now longest rows → AllWithin now longest (filter q rows)
unfolding AllWithin
filter-within now longest q rows all row i = all row (in-filtered q rows row i)

in-insert : (row : Row) (rows : List Row) (x : Row) → In (insert_row row rows) x → (row ≡ x) ⊎ In rows x
in-insert row [] x (inl e) = inl e
in-insert row [] x (inr bad) = absurd bad
in-insert row (r ∷ rows) x i = by (λ h. in-insert row rows x h) (row_before row r) i
  where
    which : (row ≡ x) ⊎ In rows x → (row ≡ x) ⊎ In (r ∷ rows) x
    which (inl e) = inl e
    which (inr j) = inr (inr j)

    by : (In (insert_row row rows) x → (row ≡ x) ⊎ In rows x) → (b : Bool) → In (if b then row ∷ r ∷ rows else r ∷ insert_row row rows) x → (row ≡ x)
        ⊎ In (r ∷ rows) x
    by rest true (inl e) = inl e
    by rest true (inr j) = inr j
    by rest false (inl e) = inr (inl e)
    by rest false (inr j) = which (rest j)

put-within : (now longest : ℕ) (row : Row) (rows : List Row) → Within now longest row → AllWithin now longest rows → AllWithin now longest (put_row row rows)
unfolding AllWithin
put-within now longest row rows w all x i = by (in-insert row (drop_row row.file row.who.host rows) x i)
  where
    by : (row ≡ x) ⊎ In (drop_row row.file row.who.host rows) x → Within now longest x
    by (inl e) = subst (λ r. Within now longest r) e w
    by (inr j) = all x (in-filtered _ rows x j)

marked-within : (now longest file host : ℕ) (access : Access) (rows : List Row) → AllWithin now longest rows → AllWithin now longest
    (marked file host access rows)
unfolding AllWithin
marked-within now longest file host access rows all x i =
    let m = in-map (mark file host access) rows x i in
    let w = all m.0 m.1 in
    let same = mark-is file host access m.0 in
    subst (λ r. Within now longest r) m.2 (record {
      until = let u = w.until in let e = same.until in omega arith;
      heard = let h = w.heard in let e =
          same.heard in omega arith;
    })

vacated-within : (now longest : ℕ) (who : Who) (file : ℕ) (tag : Tag) (rows : List Row) (own : Option Row) → AllWithin now longest rows
    → AllWithin now longest (vacated_rows who file tag rows own)
vacated-within now longest who file tag rows None all = all
vacated-within now longest who file tag rows (Some row) all = choice (AllWithin now longest) (row.who.inc == who.inc && same_tag row.tag tag)
    (drop_row file who.host rows) rows (λ e. filter-within now longest _ rows all) (λ e. all)

-- a term is no longer than the longest
short-term : (longest wish : ℕ) → shortest_term ≤ longest → granted_term longest wish ≤ longest
short-term longest wish long = grind (arith, nat_tests)

granted-within : (table : Table) (q : Question) (want : Want) (row : Row) (term : ℕ) → shortest_term ≤ q.longest → IsGranted table q want row term
    → AllWithin q.time q.longest table.rows → Within q.time q.longest row
unfolding AllWithin shared_again sharing_row caching_row renewed_row
granted-within table q want row term long (shares_again own has quiet alone is t) all = let w = all own (find-in (is_row_of q.file q.who.host)
    table.rows own has) in subst (λ r. Within q.time q.longest r) (sym is) (record { until = w.until; heard = w.heard })
granted-within table q want row term long (begins_sharing none room shared is t) all = let short = short-term q.longest want.term long in
    subst (λ r. Within q.time q.longest r) (sym is) (record { until = omega arith; heard = omega arith })
granted-within table q want row term long (begins_caching none room alone is t) all = let short = short-term q.longest want.term long in
    subst (λ r. Within q.time q.longest r) (sym is) (record { until = omega arith; heard = omega arith })
granted-within table q want row term long (renews_row own has quiet caching is t) all =
    let w = all own (find-in (is_row_of q.file q.who.host) table.rows own has) in
    let short = short-term q.longest want.term long in
    subst (λ r. Within q.time q.longest r) (sym is) (record {
      until = most own.until (q.time + term_of q want + skew) ((q.time + q.longest) + skew)
          w.until (omega arith);
      heard = heard_by (is_writing want.mode && not (is_writing own.mode)) w.heard;
    })
  where
    most : (a b n : ℕ) → a ≤ n → b ≤ n → max a b ≤ n
    most a b n x y = grind (arith, nat_tests)

    heard_by : (b : Bool) → own.heard ≤ q.time → (if b then q.time else own.heard) ≤ q.time
    heard_by true h = omega arith
    heard_by false h = h

module _ (s : Server) (long : shortest_term ≤ s.longest) (all : AllWithin s.now s.longest s.table.rows) where
  received-within : (sender next : ℕ) (d : Datagram) → AllWithin s.now s.longest (receive s sender next d).server.table.rows
  unfolding with_rows after_draw sharing_row AllWithin
  received-within sender next d = server-moves s sender next d (λ kept phase table. AllWithin s.now s.longest table.rows) (record {
    stays = all;
    decided = λ kept phase table who line e f q. q;
    attaching = λ who later. filter-within s.now s.longest _ s.table.rows all;
    vacating = λ who file tag current. vacated-within s.now s.longest who file tag s.table.rows _ all;
    marking = λ file host access serves. marked-within s.now s.longest file host access s.table.rows all;
    marking_waiting = λ xid r who f want e wants asking own room.
        let short = short-term s.longest want.term long in
        put-within s.now s.longest _ _ (record { until = omega arith; heard = omega arith }) (marked-within s.now s.longest f.id who.host
        (access_of (Some want)) s.table.rows all);
    granting = λ xid r who f want row term e wants asking c g. put-within s.now s.longest row s.table.rows
        (granted-within s.table (to_read s who f (Some want)) want row term long g all) all;
    creating = λ name blocks serves can. all;
    changing = λ who f file serves current found same c. all;
    storing = λ who f file base row serves current found same can. put-within s.now s.longest _ s.table.rows
        (heard_now row (find-in (is_row_of f.id who.host) s.table.rows row can.row_found)) all;
    storing_recovering = λ f file until heard last p found same. all;
    removing = λ who f serves current found c. filter-within s.now s.longest _ s.table.rows all;
  })
    where
      heard_now : (row : Row) → In s.table.rows row → Within s.now s.longest (record row { heard = s.now })
      heard_now row i = let w = all row i in record { until = w.until; heard = omega arith }

  ticked-within : (now : ℕ) → s.now ≤ now → AllWithin now s.longest (tick s now).server.table.rows
  unfolding with_rows
  ticked-within now goes = tick-moves s now (λ kept phase table. AllWithin now s.longest table.rows) (record {
    waits = λ until heard last p goes_on. later-within s.now now s.longest s.table.rows goes all;
    opening = λ until heard last p over. later-within s.now now s.longest s.table.rows goes all;
    ends_reading = λ p. filter-within now s.longest _ s.table.rows (later-within s.now now s.longest s.table.rows goes all);
    ending_writing = λ row p due. filter-within now s.longest _ (end_reading now s.table.rows) (filter-within now s.longest _ s.table.rows
        (later-within s.now now s.longest s.table.rows goes all));
  })

RowsFit : Server → Type 0
RowsFit s = AllWithin s.now s.longest s.table.rows

acted-fit : (w : World) (t : ServerStep) → ServerActs w t → shortest_term ≤ w.server.longest → RowsFit w.server → RowsFit t.server
unfolding RowsFit crash boot empty_table
acted-fit w t (received k p sent to is) long all =
    let keeps = receive-keeps w.server (sending_host p.sender) (length w.packets) (datagram_of p.message) in
    subst (λ (u : ServerStep). RowsFit u.server) (sym is)
    (subst (λ n. AllWithin n (receive w.server (sending_host p.sender) (length w.packets) (datagram_of p.message)).server.longest
    (receive w.server (sending_host p.sender) (length w.packets) (datagram_of p.message)).server.table.rows) (sym keeps.1)
    (subst (λ n. AllWithin w.server.now n (receive w.server (sending_host p.sender) (length w.packets) (datagram_of p.message)).server.table.rows)
    (sym keeps.0)
    (received-within w.server long all (sending_host p.sender) (length w.packets) (datagram_of p.message))))
acted-fit w t (ticks is) long all =
    let keeps = tick-keeps w.server (w.server.now + 1) in
    subst (λ (u : ServerStep). RowsFit u.server) (sym is)
    (subst (λ n. AllWithin n (tick w.server (w.server.now + 1)).server.longest (tick w.server (w.server.now + 1)).server.table.rows) (sym keeps.1)
    (subst (λ n. AllWithin (w.server.now + 1) n (tick w.server (w.server.now + 1)).server.table.rows) (sym keeps.0)
    (ticked-within w.server long all (w.server.now + 1) (omega arith))))
acted-fit w t (crashes longest is) long all = subst (λ (u : ServerStep). RowsFit u.server) (sym is) (none-within w.server.now longest)

changed-fit : (w v : World) → Changes w v → shortest_term ≤ w.server.longest → RowsFit w.server → RowsFit v.server
unfolding after_client after_server
changed-fit w v (nothing is) long all = subst (λ (u : World). RowsFit u.server) (sym is) all
changed-fit w v (by_client host c t at acts to) long all = subst (λ (u : World). RowsFit u.server) (sym to) all
changed-fit w v (by_server t acts to) long all = subst (λ (u : World). RowsFit u.server) (sym to) (acted-fit w t acts long all)

run-fit : (most : ℕ) (head : Head) (events : List Event) → KeepsBounds most head events → IsWithinSkew head.hosts most events
    → RowsFit (run head events).server
unfolding start boot empty_table RowsFit
run-fit most head events bounds within = run-goes most head (λ es. RowsFit (run head es).server) (λ b. none-within 0 head.longest)
    (λ e es during changes fit. changed-fit (run head es) (run head (e ∷ es)) changes (run-runs most head es during.bounds
    during.within).served.terms.long fit) events bounds within

pub rows-end-soon : RowsEndSoon
unfolding RowsFit AllWithin
rows-end-soon most head events bounds within file host row found =
    let w = run-fit most head events bounds within row (find-in (is_row_of file host) (run head events).server.table.rows row found) in
    record { until = w.until; heard = w.heard }

-- ---- recoveries

EndsBy : (now longest : ℕ) → Phase → Type 0
EndsBy now longest phase = (until heard : ℕ) (last : Option Table) → phase ≡ recovering until heard last → until ≤ (now + longest) + (skew + write_slack)

serves-by : (now longest : ℕ) → EndsBy now longest serving
unfolding EndsBy
serves-by now longest until heard last e = absurd (cc)

recovers-by : (now longest until heard : ℕ) (last : Option Table) → until ≤ (now + longest) + (skew + write_slack)
    → EndsBy now longest (recovering until heard last)
unfolding EndsBy
recovers-by now longest until heard last fits u h l e = let same : until ≡ u = cc in omega arith

later-by : (now later longest : ℕ) (phase : Phase) → now ≤ later → EndsBy now longest phase → EndsBy later longest phase
unfolding EndsBy
later-by now later longest phase goes by until heard last e = let u = by until heard last e in omega arith

PhaseFits : Server → Type 0
PhaseFits s = EndsBy s.now s.kept.longest s.phase

received-phase : (s : Server) (sender next : ℕ) (d : Datagram) → PhaseFits s → EndsBy s.now (receive s sender next d).server.kept.longest
    (receive s sender next d).server.phase
unfolding PhaseFits EndsBy
received-phase s sender next d fits = server-moves s sender next d (λ kept phase table. EndsBy s.now kept.longest phase)
    (phase-moves s d (λ longest phase. EndsBy s.now longest phase) fits (λ until heard last is. recovers-by s.now s.kept.longest
    (max until (s.now + write_slack)) s.now last (most until (s.now + write_slack) ((s.now + s.kept.longest) + (skew + write_slack))
    (fits until heard last is) (omega arith))))
  where
    most : (a b n : ℕ) → a ≤ n → b ≤ n → max a b ≤ n
    most a b n x y = grind (arith, nat_tests)

ticked-phase : (s : Server) (now : ℕ) → s.now ≤ now → PhaseFits s → EndsBy now (tick s now).server.kept.longest (tick s now).server.phase
unfolding PhaseFits with_files
ticked-phase s now goes fits = tick-moves s now (λ kept phase table. EndsBy now kept.longest phase) (record {
  waits = λ until heard last p goes_on. later-by s.now now s.kept.longest s.phase goes fits;
  opening = λ until heard last p over. serves-by now s.longest;
  ends_reading = λ p. later-by s.now now s.kept.longest s.phase goes fits;
  ending_writing = λ row p due. subst (λ ph. EndsBy now (fence s.kept (find_file row.file s.kept.files)).longest ph) (sym p)
      (serves-by now (fence s.kept (find_file row.file s.kept.files)).longest);
})

crashed-phase : (kept : Kept) (longest now : ℕ) (last : Option Table) → EndsBy now (booted kept longest).longest (boot_phase kept.opened kept.longest now last)
crashed-phase kept longest now last = by (kept.opened == 0) refl
  where
    by : (b : Bool) → (kept.opened == 0) ≡ b → EndsBy now (if b then record kept { boot = kept.boot + 1; opened = kept.boot + 1; longest = longest }
        else record kept { boot = kept.boot + 1 }).longest (if b then serving else recovering (now + kept.longest + (skew + write_slack)) now last)
    by true e = serves-by now longest
    by false e = recovers-by now kept.longest (now + kept.longest + (skew + write_slack)) now last (omega arith)

phase-acted : (w : World) (t : ServerStep) → ServerActs w t → PhaseFits w.server → PhaseFits t.server
unfolding PhaseFits crash boot
phase-acted w t (received k p sent to is) fits =
    let keeps = receive-keeps w.server (sending_host p.sender) (length w.packets) (datagram_of p.message) in
    subst (λ (u : ServerStep). PhaseFits u.server) (sym is)
    (subst (λ n. EndsBy n (receive w.server (sending_host p.sender) (length w.packets) (datagram_of p.message)).server.kept.longest
    (receive w.server (sending_host p.sender) (length w.packets) (datagram_of p.message)).server.phase) (sym keeps.1)
    (received-phase w.server (sending_host p.sender) (length w.packets) (datagram_of p.message) fits))
phase-acted w t (ticks is) fits =
    let keeps = tick-keeps w.server (w.server.now + 1) in
    subst (λ (u : ServerStep). PhaseFits u.server) (sym is)
    (subst (λ n. EndsBy n (tick w.server (w.server.now + 1)).server.kept.longest (tick w.server (w.server.now + 1)).server.phase) (sym keeps.1)
    (ticked-phase w.server (w.server.now + 1) (omega arith) fits))
phase-acted w t (crashes longest is) fits = subst (λ (u : ServerStep). PhaseFits u.server) (sym is) (crashed-phase w.server.kept longest w.server.now _)

phase-changed : (w v : World) → Changes w v → PhaseFits w.server → PhaseFits v.server
unfolding after_client after_server
phase-changed w v (nothing is) fits = subst (λ (u : World). PhaseFits u.server) (sym is) fits
phase-changed w v (by_client host c t at acts to) fits = subst (λ (u : World). PhaseFits u.server) (sym to) fits
phase-changed w v (by_server t acts to) fits = subst (λ (u : World). PhaseFits u.server) (sym to) (phase-acted w t acts fits)

run-phase : (head : Head) (events : List Event) → PhaseFits (run head events).server
unfolding start boot PhaseFits
run-phase head [] = crashed-phase (first_kept head) head.longest 0 None
run-phase head (e ∷ events) = phase-changed (run head events) (run head (e ∷ events)) (step-changes (run head events) e) (run-phase head events)

pub recoveries-end-soon : RecoveriesEndSoon
unfolding PhaseFits EndsBy
recoveries-end-soon head events until heard last is = run-phase head events until heard last is
