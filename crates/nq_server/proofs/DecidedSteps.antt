-- Requests that are decided once: what is done beside the kept state, and what is sent.
use Rattle.std.proofs.Common.{◌≡◌, ◌≤◌, ◌+◌, Result, Ok, Err, length, map, take, arith, ◌==◌, ℕ, true, List, [], ◌∷◌, Option, Some, None, not, refl}
use Rattle.std.proofs.Common.{sym, ap, subst, ◌∙◌, append-nil}
use Rattle.std.specs.Result.{is_ok, is_err}
use Rattle.std.proofs.lemmas.List.{length-append, take_at}
use Rattle.nq_datagrams.specs.Sent.{sent}
use Rattle.nq_model.specs.protocol.Message.{Packet}
use Rattle.nq_wire.specs.Outbox.{Datagrams}
use Rattle.nq_base.specs.declared.Entry.{Entry}
use Rattle.nq_base.specs.declared.Request.{Request}
use Rattle.nq_base.specs.declared.Request.TheVariants.{Null, Attach, Lookup, Create, GetAttr, Read, Write, GetLease, Vacated, Evicted, Resize, Remove}
use Rattle.nq_base.specs.declared.Row.{Row}
use Rattle.nq_base.specs.declared.Verdict.{Verdict}
use Rattle.nq_base.specs.declared.Verdict.TheVariants.{Done, Fenced, Exist, NoSpace, Invalid, Stale, TryLater}
use Rattle.nq_base.specs.declared.Who.{Who}
use Rattle.nq_keeper.specs.Recovery.{Recovery, after_write}
use Rattle.nq_model.specs.protocol.Decided.{Aside, aside, done_aside, nothing_aside, entry_aside, rows_aside, heard_aside, stored_aside}
use Rattle.nq_model.specs.protocol.Server.{Phase, serving, recovering, Server}
use Rattle.nq_model.specs.protocol.Table.{Table, find_row, with_rows, drop_host, drop_rows_of}
use Rattle.nq_server.proofs.AskedRows.{put-runs, found-runs}
use Rattle.nq_server.proofs.TickedRows.{some-run}
use Rattle.nq_server.specs.declared.state.Phase.{Phase as Held}
use Rattle.nq_server.specs.declared.state.Phase.TheVariants.{Recovering}
use Rattle.nq_base.specs.Entries.{EntryList}
use Rattle.nq_server.specs.State.{Beside, beside}
use Rattle.nq_server.specs.Stepping.{Enters, SaysNothing, Sends}
use Rattle.nq_server.specs.Deciding.{DoesAside, file_to_tell, length_in, heard_rows, is_later, warnings, warnings_if, rows_serving, entries_serving}
use Rattle.nq_server.specs.Deciding.{recovery_after, entries_recovering}
use Rattle.nq_server.specs.Sound.{Runs, RowsRun, IsOfBoot}

-- ---- what is done beside the kept state

-- what is done aside, written out
abbrev aside_as : Table → Phase → (notice : ℕ) → List Entry → Aside
aside_as table phase notice entries = record { table = table; phase = phase; notice = notice; sends = []; entries = entries }

stored-is : (s : Server) (own : Option Row) (entry : Entry) → stored_aside s own entry
    ≡ aside_as (with_rows s.table (heard_rows s.now own s.table.rows)) s.phase s.notice (entry ∷ [])
unfolding entry_aside rows_aside with_rows
stored-is s None entry = refl
stored-is s (Some row) entry = refl

-- a request was done while serving
pub done-serving : (s : Server) (who : Who) (r : Request) (blocks : ℕ) → blocks ≡ length_in s.kept (file_to_tell r) → done_aside s serving who r
    ≡ aside_as (with_rows s.table (rows_serving who r s.now s.table.rows)) s.phase s.notice (entries_serving who r blocks s.now)
unfolding nothing_aside entry_aside rows_aside with_rows
done-serving s who (Attach w) blocks is = refl
done-serving s who (Write w seq file block first last None body) blocks is = refl
done-serving s who (Write w seq file block first last (Some base) body) blocks is =
    stored-is s (find_row file who.host s.table.rows) (Entry.S who file block first last s.now)
done-serving s who (Resize w seq q file long) blocks is =
    ap (λ n. aside_as s.table s.phase s.notice (Entry.Z who q file n long ∷ [])) (sym is)
done-serving s who (Remove w seq q file) blocks is =
    ap (λ n. aside_as (with_rows s.table (drop_rows_of file s.table.rows)) s.phase s.notice (Entry.Z who q file n 0 ∷ [])) (sym is)
done-serving s who Null blocks is = refl
done-serving s who (Lookup w name) blocks is = refl
done-serving s who (Create w seq name long) blocks is = refl
done-serving s who (GetAttr w file) blocks is = refl
done-serving s who (Read w q file block want) blocks is = refl
done-serving s who (GetLease w file want) blocks is = refl
done-serving s who (Vacated w file tag) blocks is = refl
done-serving s who (Evicted w file tag) blocks is = refl

-- a table without rows loses none
no-rows : (table : Table) (host : ℕ) → table.rows ≡ [] → with_rows table (drop_host host table.rows) ≡ table
unfolding with_rows
no-rows table host empty =
    ap (λ rows. record table { rows = drop_host host rows }) empty ∙ ap (λ rows. record table { rows = rows }) (sym empty)

-- a request was done while the server recovers
pub done-recovering : (s : Server) (until heard : ℕ) (last : Option Table) (recovery : Recovery) (who : Who) (r : Request) → recovery.until ≡ until
    → recovery.heard ≡ heard → s.phase ≡ recovering until heard last → s.table.rows ≡ [] → done_aside s (recovering until heard last) who r
    ≡ aside_as s.table (recovering (recovery_after r s.now recovery).until (recovery_after r s.now recovery).heard last) s.notice
    (entries_recovering who r s.now)
unfolding nothing_aside heard_aside rows_aside after_write
done-recovering s until heard last recovery who (Attach w) u h p empty =
    ap (λ t. aside_as t s.phase s.notice []) (no-rows s.table who.host empty)
    ∙ ap (λ x. aside_as s.table x s.notice []) (p ∙ ap (λ n. recovering n heard last) (sym u) ∙ ap (λ n. recovering recovery.until n last) (sym h))
done-recovering s until heard last recovery who (Write w seq file block first final push body) u h p empty = rw u refl
done-recovering s until heard last recovery who other u h p empty =
    ap (λ x. aside_as s.table x s.notice []) (p ∙ ap (λ n. recovering n heard last) (sym u) ∙ ap (λ n. recovering recovery.until n last) (sym h))

-- ---- what is sent before the reply

stored-says-nothing : (s : Server) (own : Option Row) (entry : Entry) → (stored_aside s own entry).sends ≡ []
unfolding entry_aside rows_aside
stored-says-nothing s None entry = refl
stored-says-nothing s (Some row) entry = refl

done-says-nothing : (s : Server) (phase : Phase) (who : Who) (r : Request) → (done_aside s phase who r).sends ≡ []
unfolding nothing_aside entry_aside rows_aside heard_aside
done-says-nothing s phase who (Attach w) = refl
done-says-nothing s serving who (Write w seq file block first last None body) = refl
done-says-nothing s serving who (Write w seq file block first last (Some base) body) =
    stored-says-nothing s (find_row file who.host s.table.rows) (Entry.S who file block first last s.now)
done-says-nothing s serving who (Resize w seq q file blocks) = refl
done-says-nothing s serving who (Remove w seq q file) = refl
done-says-nothing s serving who other = refl
done-says-nothing s (recovering until heard last) who (Write w seq file block first final push body) = refl
done-says-nothing s (recovering until heard last) who other = refl

-- what a fresh request sends before its reply: the notices that are due where it was put off
pub warned : (s : Server) (who : Who) (r : Request) (verdict : Verdict) → (aside s who r verdict).sends ≡ warnings_if (is_later verdict) (warnings s who r)
unfolding nothing_aside
warned s who r Done = done-says-nothing s s.phase who r
warned s who r TryLater = refl
warned s who r Fenced = refl
warned s who r Exist = refl
warned s who r NoSpace = refl
warned s who r Invalid = refl
warned s who r Stale = refl

-- ---- rows

heard-run : (time now : ℕ) (own : Option Row) (rows : List Row) → ((row : Row) → own ≡ Some row → Runs time row) → RowsRun time rows
    → RowsRun time (heard_rows now own rows)
heard-run time now None rows own h = h
heard-run time now (Some row) rows own h = put-runs time (record row { heard = now }) rows (own row refl) h

-- the rows run after a request was done, where they ran before
pub serving-runs : (time now : ℕ) (who : Who) (r : Request) (rows : List Row) → RowsRun time rows → RowsRun time (rows_serving who r now rows)
serving-runs time now who (Attach w) rows h = some-run time (λ row. not (row.who.host == who.host)) rows h
serving-runs time now who (Write w seq file block first last None body) rows h = h
serving-runs time now who (Write w seq file block first last (Some base) body) rows h =
    heard-run time now (find_row file who.host rows) rows (λ row found. found-runs time file who.host rows row h found) h
serving-runs time now who (Remove w seq q file) rows h = some-run time (λ row. not (row.file == file)) rows h
serving-runs time now who other rows h = h

-- ---- what was done beside the kept state

pub does-serving : (s : Server) (phase : Phase) (who : Who) (r : Request) (blocks : ℕ) (held after : Beside) (log log' : EntryList) → phase ≡ serving
    → blocks ≡ length_in s.kept (file_to_tell r) → after.table ≡ with_rows s.table (rows_serving who r s.now s.table.rows) → after.phase ≡ s.phase
    → after.notice ≡ s.notice → after.longest ≡ held.longest → after.time ≡ held.time → Enters (entries_serving who r blocks s.now) log log'
    → DoesAside (done_aside s phase who r) held after log log'
does-serving s phase who r blocks held after log log' serves is table same notice longest time entries =
    subst
    (λ a. DoesAside a held after log log')
    (sym (ap (λ p. done_aside s p who r) serves ∙ done-serving s who r blocks is))
    (record { table = table; phase = same; notice = notice; longest = longest; time = time; entries = entries })

pub does-recovering : (s : Server) (phase : Phase) (recovery new : Recovery) (last : Option Table) (who : Who) (r : Request) (held after : Beside)
    (log log' : EntryList) → phase ≡ recovering recovery.until recovery.heard last → s.phase ≡ phase → s.table.rows ≡ [] → new ≡ recovery_after r
    s.now recovery → after.table ≡ s.table → after.phase ≡ recovering new.until new.heard last → after.notice ≡ s.notice → after.longest
    ≡ held.longest → after.time ≡ held.time → Enters (entries_recovering who r s.now) log log' → DoesAside (done_aside s phase who r) held after log log'
does-recovering s phase recovery new last who r held after log log' recovers own empty is table becomes notice longest time entries =
    subst
    (λ a. DoesAside a held after log log')
    (sym (ap (λ p. done_aside s p who r) recovers ∙ done-recovering s recovery.until recovery.heard last recovery who r refl refl (own ∙ recovers) empty))
    (record {
      table = table;
      phase = becomes ∙ ap (λ x. recovering x.until x.heard last) is;
      notice = notice;
      longest = longest;
      time = time;
      entries = entries;
    })

-- where a request was refused nothing is done
pub does-nothing : (s : Server) (who : Who) (r : Request) (verdict : Verdict) (log : EntryList) → (verdict ≡ Done → ⊥) → (verdict ≡ TryLater → ⊥)
    → DoesAside (aside s who r verdict) (beside s) (beside s) log log
unfolding nothing_aside
does-nothing s who r Done log not-done not-later = absurd (not-done refl)
does-nothing s who r TryLater log not-done not-later = absurd (not-later refl)
does-nothing s who r Fenced log not-done not-later = record {
  table = refl;
  phase = refl;
  notice = refl;
  longest = refl;
  time = refl;
  entries =
      sym (append-nil _);
}
does-nothing s who r Exist log not-done not-later = record {
  table = refl;
  phase = refl;
  notice = refl;
  longest = refl;
  time = refl;
  entries =
      sym (append-nil _);
}
does-nothing s who r NoSpace log not-done not-later = record {
  table = refl;
  phase = refl;
  notice = refl;
  longest = refl;
  time = refl;
  entries =
      sym (append-nil _);
}
does-nothing s who r Invalid log not-done not-later = record {
  table = refl;
  phase = refl;
  notice = refl;
  longest = refl;
  time = refl;
  entries =
      sym (append-nil _);
}
does-nothing s who r Stale log not-done not-later = record {
  table = refl;
  phase = refl;
  notice = refl;
  longest = refl;
  time = refl;
  entries =
      sym (append-nil _);
}

-- a recovery keeps the longest term of its boot
pub recovery-keeps : (r : Request) (now : ℕ) (recovery : Recovery) → (recovery_after r now recovery).longest ≡ recovery.longest
unfolding after_write
recovery-keeps (Write w seq file block first last push body) now recovery = refl
recovery-keeps other now recovery = refl

-- a boot that recovers has its longest term, and no row
pub of-recovering : (longest : ℕ) (phase : Held) (rows : List Row) (recovery : Recovery) (last : Option Table) → phase ≡ Recovering (Some recovery)
    last → IsOfBoot longest phase rows → (recovery.longest ≡ longest) × (rows ≡ [])
of-recovering longest phase rows recovery last is h = subst (λ p. IsOfBoot longest p rows) is h

-- ---- memory that is taken before a request is decided

pub is-ok : {T E : Type 0} (r : Result T E) → (is_err r ≡ true → ⊥) → is_ok r ≡ true
is-ok (Ok x) h = refl
is-ok (Err e) h = absurd (h refl)

pub none-some : {X : Type 0} (x : X) → None ≡ Some x → ⊥
none-some x e = cc

pub sends-grow : (packets : List Packet) (out out' : Datagrams) → Sends packets out out' → length out.datagrams ≤ length out'.datagrams
sends-grow packets out out' s =
    let e : length out'.datagrams ≡ length out.datagrams + length (map sent packets) = ap length s.added ∙ length-append out.datagrams (map sent packets) in
    omega arith

pub sends-through : (packets : List Packet) (out between out' : Datagrams) (log log' : EntryList) → Sends packets out between
    → SaysNothing between out' log log' → Sends packets out out'
sends-through packets out between out' log log' s n = record { first = n.first ∙ s.first; added = n.datagrams ∙ s.added; fit = s.fit }

pub taken-back : (packets : List Packet) (out between later back : Datagrams) (len : ℕ) (log middle log' : EntryList) → len ≡ length out.datagrams
    → Sends packets out between → SaysNothing between later log log' → back.first ≡ later.first → back.datagrams ≡ take len later.datagrams
    → SaysNothing out back log log'
taken-back packets out between later back len log middle log' is s n first cut = record {
  first = first ∙ n.first ∙ s.first;
  datagrams = cut ∙ ap (take len) (n.datagrams ∙ s.added) ∙ take_at out.datagrams (map sent packets) len (sym is);
  entries = n.entries;
}
