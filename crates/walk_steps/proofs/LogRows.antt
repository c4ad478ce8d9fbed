-- What the timed entries say of the rows that stand: by which grant, and until when; and that no write is later than a row
-- was heard.
use Rattle.std.proofs.Common.{◌≡◌, ◌≤◌, ◌⊎◌, ℕ, ◌+◌, ◌==◌, Bool, true, false, not, ◌&&◌, List, ◌∷◌, ◌++◌, Option, Some, if◌then◌else◌, max, refl, sym}
use Rattle.std.proofs.Common.{subst, ap, ◌∙◌, arith, inl, inr}
use Rattle.std.specs.List.{find}
use Rattle.std.proofs.lemmas.Bool.{and_parts, and_from}
use Rattle.nq_base.specs.declared.Access.{Access}
use Rattle.nq_base.specs.declared.Entry.{Entry}
use Rattle.nq_base.specs.declared.Mode.{Mode}
use Rattle.nq_base.specs.declared.Mode.TheVariants.{NonCaching, Reading, Writing}
use Rattle.nq_base.specs.declared.Question.{Question}
use Rattle.nq_base.specs.declared.Row.{Row}
use Rattle.nq_base.specs.declared.Tag.{Tag}
use Rattle.nq_base.specs.declared.Want.{Want}
use Rattle.nq_base.specs.declared.Who.{Who}
use Rattle.nq_model.proofs.Lists.{each-map}
use Rattle.nq_model.specs.protocol.Ask.{term_of, conflicts, marked, sharing_row, caching_row, shared_again, renewed_row}
use Rattle.nq_model.specs.laws.Journal.{Each}
use Rattle.nq_model.specs.protocol.Kept.{Kept, host_row}
use Rattle.nq_model.specs.protocol.Message.{Datagram}
use Rattle.nq_model.specs.protocol.Profile.{skew}
use Rattle.nq_model.specs.protocol.Server.{Phase, serving, recovering, Server, standing_in, standing, last_in}
use Rattle.nq_model.specs.protocol.ServerStep.{to_read, is_over, end_reading, receive, tick, booted, boot, crash}
use Rattle.nq_model.specs.protocol.Table.{Table, caches, is_writing, greater_mode, same_who, is_row_of, find_row, drop_row, put_row, with_rows, after_draw}
use Rattle.nq_model.specs.protocol.Table.{empty_table}
use Rattle.walk_steps.proofs.AskCases.{with_marked, IsGranted, shares_again, begins_sharing, begins_caching, renews_row}
use Rattle.walk_steps.proofs.LogMoves.{timed, LogMoves, log-moves, tick-log-moves}
use Rattle.walk_steps.proofs.LogTimes.{IsBy, LogBy}
use Rattle.walk_steps.proofs.Incarnations.{one-who}
use Rattle.walk_steps.proofs.RowChanges.{HasUniqueKeys, unique-filtered, has-key, found-put, found-kept, found-vacated, found-marked}
use Rattle.walk_steps.proofs.RowTimes.{EachRow, each-fewer, each-put}
use Rattle.walk_steps.proofs.Rows.{same-number, number-same, found-row}
use Rattle.walk_steps.proofs.ServerFacts.{IncsFit, IncsFitOf, AreCurrent}
use Rattle.walk_steps.proofs.ServerTables.{NoneRecoveringOf, none-opened, StandingFits, StandingFitsOf}
use Rattle.walk_steps.proofs.TableFits.{TableFits}

-- a granted row is of the asker and of the file that he asked for
pub granted-to : (kept : Kept) (table : Table) (q : Question) (want : Want) (row : Row) (term : ℕ) → AreCurrent kept table.rows
    → q.who.inc ≡ (host_row kept q.who.host).inc → IsGranted table q want row term → (row.who ≡ q.who) × (row.file ≡ q.file)
unfolding sharing_row caching_row shared_again renewed_row
granted-to kept table q want row term incs current (shares_again own found stays shares is lasts) =
    let k = found-row q.file q.who.host table.rows own found in
    (ap (λ r. r.who) is ∙ one-who own.who q.who k.1 (incs q.file q.who.host own found ∙ sym current), ap (λ r. r.file) is ∙ k.0)
granted-to kept table q want row term incs current (begins_sharing none room shared is lasts) = (ap (λ r. r.who) is, ap (λ r. r.file) is)
granted-to kept table q want row term incs current (begins_caching none room shared is lasts) = (ap (λ r. r.who) is, ap (λ r. r.file) is)
granted-to kept table q want row term incs current (renews_row own found stays caching is lasts) =
    let k = found-row q.file q.who.host table.rows own found in
    (ap (λ r. r.who) is ∙ one-who own.who q.who k.1 (incs q.file q.who.host own found ∙ sym current), ap (λ r. r.file) is ∙ k.0)

-- whether an entry is a grant to this incarnation of this file
abbrev pub is_grant_to : Who → (file : ℕ) → Entry → Bool
is_grant_to who file (Entry.G w f mode tag term now) = same_who w who && f == file
is_grant_to who file other = false

-- a row stands by the last grant to its holder of its file, of its kind and with its latest tag, and does not end before
-- the granted term and the skew have passed
pub record WasGranted (log : List Entry) (row : Row) : Type 0 where
  pub term : ℕ
  pub at : ℕ
  pub last : find (is_grant_to row.who row.file) log ≡ Some (Entry.G row.who row.file row.mode row.tag term at)
  pub ends : at + term + skew ≤ row.until

-- where it lets its holder cache
abbrev pub StandsByGrant : List Entry → Row → Type 0
StandsByGrant log row = caches row.mode ≡ true → WasGranted log row

abbrev pub RowsGranted : Phase → Table → List Entry → Type 0
RowsGranted phase table log = EachRow (StandsByGrant log) (standing_in phase table).rows

-- entries that are no grants to the holder of the file
not-first : (p : Entry → Bool) (e : Entry) (log : List Entry) (o : Option Entry) → p e ≡ false → find p log ≡ o → find p (e ∷ log) ≡ o
not-first p e log o fails found = ap (λ b. if b then Some e else find p log) fails ∙ found

was-more : (e : Entry) (log : List Entry) (row : Row) → is_grant_to row.who row.file e ≡ false → WasGranted log row → WasGranted (e ∷ log) row
was-more e log row fails w = record { term = w.term; at = w.at; last = not-first (is_grant_to row.who row.file) e log _ fails w.last; ends = w.ends }

each-row : (P R : Row → Type 0) (rows : List Row) → ((row : Row) → P row → R row) → EachRow P rows → EachRow R rows
each-row P R rows more each = λ file host row found. more row (each file host row found)

granted-more : (e : Entry) (log : List Entry) (rows : List Row) → ((row : Row) → is_grant_to row.who row.file e ≡ false)
    → EachRow (StandsByGrant log) rows → EachRow (StandsByGrant (e ∷ log)) rows
granted-more e log rows fails each =
    each-row (StandsByGrant log) (StandsByGrant (e ∷ log)) rows (λ row stands caching. was-more e log row (fails row) (stands caching)) each

-- a marked row, and a row that was heard, stand as before
marked-stands : (log : List Entry) (r : Row) (b : Bool) → StandsByGrant log r → StandsByGrant log (if b then record r { evicting = true } else r)
marked-stands log r true stands = λ caching. let w = stands caching in record { term = w.term; at = w.at; last = w.last; ends = w.ends }
marked-stands log r false stands = stands

heard-stands : (log : List Entry) (r : Row) (now : ℕ) → StandsByGrant log r → StandsByGrant log (record r { heard = now })
heard-stands log r now stands = λ caching. let w = stands caching in record { term = w.term; at = w.at; last = w.last; ends = w.ends }

pub each-marked : (P : Row → Type 0) (f h : ℕ) (access : Access) (rows : List Row)
    → ((r : Row) (b : Bool) → P r → P (if b then record r { evicting = true } else r)) → EachRow P rows → EachRow P (marked f h access rows)
each-marked P f h access rows marks each = λ file host row found.
    let w = found-marked f h access file host rows row found in
    subst P (sym w.is) (marks w.was (conflicts f h access w.was) (each file host w.was w.found))

-- a put row, where the others stand unless they have its key
pub each-put-other : (P R : Row → Type 0) (rows : List Row) (row : Row) → R row → ((r : Row) → is_row_of r.file r.who.host row ≡ false → P r → R r)
    → EachRow P rows → EachRow R (put_row row rows)
each-put-other P R rows row holds others each = λ file host r found. by file host r (found-put file host row r rows found)
  where
    by : (file host : ℕ) (r : Row) → ((is_row_of file host row ≡ true) × (r ≡ row))
        ⊎ ((is_row_of file host row ≡ false) × (find_row file host rows ≡ Some r)) → R r
    by file host r (inl e) = subst R (sym e.1) holds
    by file host r (inr e) =
        let k = found-row file host rows r e.1 in
        others r (subst (λ f. is_row_of f r.who.host row ≡ false) (sym k.0) (subst (λ h. is_row_of file h row ≡ false) (sym k.1) e.0)) (each file host r e.1)

-- a grant to one is no grant to the holder of another row
other-grant : (who : Who) (file : ℕ) (row r : Row) (mode : Mode) (tag : Tag) (term now : ℕ) → row.who ≡ who → row.file ≡ file
    → is_row_of r.file r.who.host row ≡ false → is_grant_to r.who r.file (Entry.G who file mode tag term now) ≡ false
other-grant who file row r mode tag term now w f other = by (same_who who r.who && file == r.file) refl
  where
    by : (b : Bool) → (same_who who r.who && file == r.file) ≡ b → b ≡ false
    by false e = refl
    by true e =
        let a = and_parts _ _ e in
        let c = and_parts _ _ a.0 in
        let host : row.who.host ≡ r.who.host = ap (λ x. x.host) w ∙ same-number _ _ c.0 in
        let same : row.file ≡ r.file = f ∙ same-number _ _ a.1 in
        let key : is_row_of r.file r.who.host row ≡ true = has-key r.file r.who.host row same host in
        absurd (cc)

own-grant : (who : Who) (file : ℕ) (row : Row) (term now : ℕ) (log : List Entry) → row.who ≡ who → row.file ≡ file
    → find (is_grant_to row.who row.file) (Entry.G who file row.mode row.tag term now ∷ log) ≡ Some (Entry.G row.who row.file row.mode row.tag term now)
own-grant who file row term now log w f =
    subst (λ x. find (is_grant_to row.who row.file) (Entry.G x file row.mode row.tag term now ∷ log) ≡ Some
    (Entry.G row.who row.file row.mode row.tag term now)) w
    (subst (λ i. find (is_grant_to row.who row.file) (Entry.G row.who i row.mode row.tag term now ∷ log) ≡ Some
    (Entry.G row.who row.file row.mode row.tag term now)) f
    (ap (λ b. if b then Some (Entry.G row.who row.file row.mode row.tag term now) else find (is_grant_to row.who row.file) log)
    (and_from _ _ (and_from _ _ (number-same row.who.host row.who.host refl) (number-same row.who.inc row.who.inc refl))
    (number-same row.file row.file refl))))

-- a granted caching row does not end before its term and the skew have passed
granted-ends : (table : Table) (q : Question) (want : Want) (row : Row) (term : ℕ) → IsGranted table q want row term → caches row.mode ≡ true
    → q.time + term + skew ≤ row.until
unfolding sharing_row caching_row shared_again renewed_row
granted-ends table q want row term (shares_again own found stays shares is lasts) caching =
    let same : row.mode ≡ own.mode = ap (λ r. r.mode) is in let bad : caches row.mode ≡ false = ap caches same ∙ shares in absurd (cc)
granted-ends table q want row term (begins_sharing none room shared is lasts) caching =
    let same : row.mode ≡ NonCaching = ap (λ r. r.mode) is in let bad : caches row.mode ≡ false = ap caches same in absurd (cc)
granted-ends table q want row term (begins_caching none room shared is lasts) caching =
    let until : row.until ≡ q.time + term_of q want + skew = ap (λ r. r.until) is in omega arith
granted-ends table q want row term (renews_row own found stays held is lasts) caching =
    let until : row.until ≡ max own.until (q.time + term_of q want + skew) = ap (λ r. r.until) is in omega arith

-- both facts are of the rows of its own table while it serves
rows-fewer : (log : List Entry) (phase : Phase) (table : Table) (rows : List Row)
    → (phase ≡ serving → (file host : ℕ) (row : Row) → find_row file host rows ≡ Some row → find_row file host table.rows ≡ Some row)
    → RowsGranted phase table log → RowsGranted phase (with_rows table rows) log
unfolding with_rows
rows-fewer log serving table rows stood f = each-fewer (StandsByGrant log) table.rows rows (stood refl) f
rows-fewer log (recovering until heard last) table rows stood f = f

keys-served : (s : Server) → StandingFitsOf s → s.phase ≡ serving → HasUniqueKeys s.table.rows
keys-served s t p =
    let own : TableFits s.kept.files s.table.boot s.table.drawn s.table.rows = subst (λ p. StandingFits s.kept.files p s.table) p t in own.unique

incs-served : (s : Server) → IncsFitOf s → s.phase ≡ serving → AreCurrent s.kept s.table.rows
incs-served s f p = subst (λ p. IncsFit s.kept p s.table) p f

module _ (s : Server) (d : Datagram) (log : List Entry) (t : StandingFitsOf s) (incs : IncsFitOf s) (g : RowsGranted s.phase s.table log) where
  own-granted : s.phase ≡ serving → EachRow (StandsByGrant log) s.table.rows
  own-granted p = subst (λ p. RowsGranted p s.table log) p g

  as-granted : (table : Table) (after : List Entry) → s.phase ≡ serving → EachRow (StandsByGrant after) table.rows → RowsGranted s.phase table after
  as-granted table after p f = subst (λ p. RowsGranted p table after) (sym p) f

  put-granted : (q : Question) (want : Want) (row : Row) (term : ℕ) → q.time ≡ s.now → s.phase ≡ serving → q.who.inc ≡ (host_row s.kept q.who.host).inc
      → IsGranted s.table q want row term → EachRow (StandsByGrant (Entry.G q.who q.file row.mode row.tag term s.now ∷ log)) (put_row row s.table.rows)
  put-granted q want row term now p current granted =
      let to = granted-to s.kept s.table q want row term (incs-served s incs p) current granted in
      each-put-other
      (StandsByGrant log)
      (StandsByGrant (Entry.G q.who q.file row.mode row.tag term s.now ∷ log))
      s.table.rows
      row
      (λ caching. record {
        term = term;
        at = s.now;
        last = own-grant q.who q.file row term s.now log to.0 to.1;
        ends = subst (λ n. n + term + skew ≤ row.until) now (granted-ends s.table q want row term granted caching);
      })
      (λ r other stands caching. was-more _ log r (other-grant q.who q.file row r row.mode row.tag term s.now to.0 to.1 other) (stands caching))
      (own-granted p)

  granted-moves : LogMoves s d log (λ kept phase table after. RowsGranted phase table after)
  unfolding with_rows after_draw sharing_row
  granted-moves = record {
    stays = g;
    decided = λ kept phase table after who line inc same q. q;
    attaching =
        λ who later. rows-fewer log s.phase s.table _
        (λ p file host row found. (found-kept (λ r. not (r.who.host == who.host)) file host s.table.rows row (keys-served s t p) found).0) g;
    vacating =
        λ who file tag current. rows-fewer log s.phase s.table _
        (λ p f h row found. found-vacated who file tag s.table.rows _ f h row (keys-served s t p) found) g;
    marking =
        λ file host access serves. as-granted _ log serves
        (each-marked (StandsByGrant log) file host access s.table.rows (marked-stands log) (own-granted serves));
    marking_waiting =
        λ xid r who f want e is asking own room. as-granted _ log asking.serves
        (each-put (StandsByGrant log) _
        (sharing_row (with_marked s.table (to_read s who f (Some want))) (to_read s who f (Some want)) (term_of (to_read s who f (Some want)) want))
        (λ caching. absurd (cc)) (each-marked (StandsByGrant log) f.id who.host _ s.table.rows (marked-stands log) (own-granted asking.serves)));
    granting =
        λ xid r who f want row term e is asking c granted. as-granted _ _ asking.serves
        (put-granted (to_read s who f (Some want)) want row term refl asking.serves asking.current.inc granted);
    creating = λ name blocks serves can. g;
    changing = λ who f file serves current found same c. g;
    storing =
        λ who f file base row block first last serves current found same can. as-granted _ _ serves
        (granted-more _ log _ (λ r. refl)
        (each-put (StandsByGrant log) s.table.rows (record row { heard = s.now })
        (heard-stands log row s.now (own-granted serves f.id who.host row can.row_found)) (own-granted serves)));
    storing_recovering =
        λ who f file block first final until heard last current p found same. granted-more _ log _ (λ r. refl) (subst (λ p. RowsGranted p s.table log) p g);
    removing =
        λ who f serves current found c. rows-fewer log s.phase s.table _
        (λ p file host row found. (found-kept (λ r. not (r.file == f.id)) file host s.table.rows row (keys-served s t p) found).0) g;
  }

-- each caching row stands by its grant after a datagram
pub granted-receive : (s : Server) (sender next : ℕ) (d : Datagram) (log : List Entry) → StandingFitsOf s → IncsFitOf s
    → RowsGranted s.phase s.table log
    → RowsGranted (receive s sender next d).server.phase (receive s sender next d).server.table (timed (receive s sender next d).entries ++ log)
granted-receive s sender next d log t incs g =
    log-moves s sender next d log (λ kept phase table after. RowsGranted phase table after) (granted-moves s d log t incs g)

ended-row : (s : Server) (now : ℕ) → StandingFitsOf s → s.phase ≡ serving → (file host : ℕ) (row : Row)
    → find_row file host (end_reading now s.table.rows) ≡ Some row → find_row file host s.table.rows ≡ Some row
ended-row s now t p file host row found = (found-kept (λ r. not (is_over now r)) file host s.table.rows row (keys-served s t p) found).0

left-row : (s : Server) (now : ℕ) (row : Row) → StandingFitsOf s → s.phase ≡ serving → (file host : ℕ) (r : Row)
    → find_row file host (drop_row row.file row.who.host (end_reading now s.table.rows)) ≡ Some r → find_row file host s.table.rows ≡ Some r
left-row s now row t p file host r found =
    ended-row s now t p file host r (found-kept (λ x. not (is_row_of row.file row.who.host x)) file host (end_reading now s.table.rows) r
    (unique-filtered _ s.table.rows (keys-served s t p)) found).0

no-rows : (P : Row → Type 0) (s : Server) (until heard : ℕ) (last : Option Table) → s.phase ≡ recovering until heard last → NoneRecoveringOf s
    → EachRow P s.table.rows
no-rows P s until heard last p none = subst (EachRow P) (sym (none-opened s until heard last p none)) (λ file host row found. absurd (cc))

-- and after a tick
pub granted-tick : (s : Server) (now : ℕ) (log : List Entry) → NoneRecoveringOf s → StandingFitsOf s → RowsGranted s.phase s.table log
    → RowsGranted (tick s now).server.phase (tick s now).server.table (timed (tick s now).entries ++ log)
unfolding with_rows
granted-tick s now log none t g = tick-log-moves s now log (λ kept phase table after. RowsGranted phase table after) (record {
  waits = λ until heard last p goes_on. g;
  opening = λ until heard last p over. no-rows (StandsByGrant (Entry.O s.kept.boot until heard now ∷ log)) s until heard last p none;
  ends_reading = λ p. rows-fewer log s.phase s.table (end_reading now s.table.rows) (λ q. ended-row s now t p) g;
  ending_writing =
      λ row p due. granted-more (Entry.F row.who row.file row.until row.heard now) log
      (standing_in s.phase (with_rows s.table (drop_row row.file row.who.host (end_reading now s.table.rows)))).rows (λ r. refl)
      (rows-fewer log s.phase s.table (drop_row row.file row.who.host (end_reading now s.table.rows)) (λ q. left-row s now row t p) g);
})

-- and after a crash
pub granted-crash : (s : Server) (longest : ℕ) (log : List Entry) → RowsGranted s.phase s.table log
    → RowsGranted (crash s longest).server.phase (crash s longest).server.table (timed (crash s longest).entries ++ log)
unfolding crash boot empty_table
granted-crash s longest log g = in-phase (s.kept.opened == 0)
  where
    in-phase : (b : Bool) → RowsGranted (if b then serving else recovering (s.now + s.kept.longest + 8) s.now (last_in s.phase s.table))
        (empty_table (s.kept.boot + 1)) (Entry.X (s.kept.boot + 1) s.now (booted s.kept longest).longest ∷ log)
    in-phase true = λ file host row found. absurd (cc)
    in-phase false = granted-more _ log (standing s).rows (λ r. refl) g

-- a write that was stored for the holder of a row, of its file, was heard by this time
abbrev pub IsHeardOf : Who → (file heard : ℕ) → Entry → Type 0
IsHeardOf who file heard (Entry.S w f block first last now) = w ≡ who → f ≡ file → now ≤ heard
IsHeardOf who file heard other = Unit {0}

-- where a row lets its holder write, it was heard no earlier than each write that was stored for its holder
abbrev pub HearsWrites : List Entry → Row → Type 0
HearsWrites log row = is_writing row.mode ≡ true → Each (IsHeardOf row.who row.file row.heard) log

-- while the server serves
abbrev pub RowsHear : Phase → Table → List Entry → Type 0
RowsHear serving table log = EachRow (HearsWrites log) table.rows
RowsHear (recovering until heard last) table log = Unit {0}

by-heard-of : (who : Who) (file time : ℕ) (e : Entry) → IsBy time e → IsHeardOf who file time e
by-heard-of who file time (Entry.S w f block first last now) by = λ x y. by
by-heard-of who file time other by = tt

heard-of-by : (who : Who) (file time : ℕ) (log : List Entry) → LogBy time log → Each (IsHeardOf who file time) log
heard-of-by who file time log by = each-map (IsBy time) (IsHeardOf who file time) log (by-heard-of who file time) by

hears-marked : (log : List Entry) (r : Row) (b : Bool) → HearsWrites log r → HearsWrites log (if b then record r { evicting = true } else r)
hears-marked log r true hears = hears
hears-marked log r false hears = hears

hears-more : (e : Entry) (log : List Entry) (rows : List Row) → ((row : Row) → IsHeardOf row.who row.file row.heard e) → EachRow (HearsWrites log) rows
    → EachRow (HearsWrites (e ∷ log)) rows
hears-more e log rows passes each = each-row (HearsWrites log) (HearsWrites (e ∷ log)) rows (λ row hears writes. (passes row, hears writes)) each

hear-fewer : (log : List Entry) (phase : Phase) (table : Table) (rows : List Row)
    → (phase ≡ serving → (file host : ℕ) (row : Row) → find_row file host rows ≡ Some row → find_row file host table.rows ≡ Some row)
    → RowsHear phase table log → RowsHear phase (with_rows table rows) log
unfolding with_rows
hear-fewer log serving table rows stood f = each-fewer (HearsWrites log) table.rows rows (stood refl) f
hear-fewer log (recovering until heard last) table rows stood f = tt

-- a renewed row: where it let its holder write before, it was heard as before
renewed-hears : (held wanted : Mode) (heard now : ℕ) (P : ℕ → Type 0) → (is_writing held ≡ true → P heard) → P now
    → is_writing (greater_mode held wanted) ≡ true → P (if is_writing wanted && not (is_writing held) then now else heard)
renewed-hears Writing wanted heard now P before new writes = by (is_writing wanted)
  where
    by : (b : Bool) → P (if b && false then now else heard)
    by true = before refl
    by false = before refl
renewed-hears NonCaching NonCaching heard now P before new writes = absurd (cc)
renewed-hears NonCaching Reading heard now P before new writes = absurd (cc)
renewed-hears NonCaching Writing heard now P before new writes = new
renewed-hears Reading NonCaching heard now P before new writes = absurd (cc)
renewed-hears Reading Reading heard now P before new writes = absurd (cc)
renewed-hears Reading Writing heard now P before new writes = new

granted-hears : (table : Table) (q : Question) (want : Want) (row : Row) (term : ℕ) (log : List Entry) → LogBy q.time log
    → EachRow (HearsWrites log) table.rows → IsGranted table q want row term → HearsWrites log row
unfolding sharing_row caching_row shared_again renewed_row
granted-hears table q want row term log by each (shares_again own found stays shares is lasts) =
    subst (HearsWrites log) (sym is) (each q.file q.who.host own found)
granted-hears table q want row term log by each (begins_sharing none room shared is lasts) = subst (HearsWrites log) (sym is) (λ writes. absurd (cc))
granted-hears table q want row term log by each (begins_caching none room shared is lasts) =
    subst (HearsWrites log) (sym is) (λ writes. heard-of-by q.who q.file q.time log by)
granted-hears table q want row term log by each (renews_row own found stays caching is lasts) =
    subst (HearsWrites log) (sym is)
    (λ writes. renewed-hears own.mode want.mode own.heard q.time (λ heard. Each (IsHeardOf own.who own.file heard) log)
    (each q.file q.who.host own found) (heard-of-by own.who own.file q.time log by) writes)

module _ (s : Server) (d : Datagram) (log : List Entry) (t : StandingFitsOf s) (by : LogBy s.now log) (h : RowsHear s.phase s.table log) where
  own-hear : s.phase ≡ serving → EachRow (HearsWrites log) s.table.rows
  own-hear p = subst (λ p. RowsHear p s.table log) p h

  as-hear : (table : Table) (after : List Entry) → s.phase ≡ serving → EachRow (HearsWrites after) table.rows → RowsHear s.phase table after
  as-hear table after p f = subst (λ p. RowsHear p table after) (sym p) f

  stored-hear : (who : Who) (file : ℕ) (row : Row) (block first last : ℕ) → s.phase ≡ serving → find_row file who.host s.table.rows ≡ Some row
      → EachRow (HearsWrites (Entry.S who file block first last s.now ∷ log)) (put_row (record row { heard = s.now }) s.table.rows)
  stored-hear who file row block first last p found =
      let k = found-row file who.host s.table.rows row found in
      each-put-other
      (HearsWrites log)
      (HearsWrites (Entry.S who file block first last s.now ∷ log))
      s.table.rows
      (record row { heard = s.now })
      (λ writes. ((λ x y. omega arith), heard-of-by row.who row.file s.now log by))
      (λ r other hears writes. ((λ x y. absurd (differs r k other x y)), hears writes))
      (own-hear p)
    where
      differs : (r : Row) → (row.file ≡ file) × (row.who.host ≡ who.host) → is_row_of r.file r.who.host (record row { heard = s.now }) ≡ false
          → who ≡ r.who → file ≡ r.file → ⊥
      differs r k other x y =
          let key : is_row_of r.file r.who.host (record row { heard = s.now }) ≡ true = has-key r.file r.who.host (record row { heard = s.now })
          (k.0 ∙ y) (k.1 ∙ ap (λ w. w.host) x) in cc

  hear-moves : LogMoves s d log (λ kept phase table after. RowsHear phase table after)
  unfolding with_rows after_draw sharing_row
  hear-moves = record {
    stays = h;
    decided = λ kept phase table after who line inc same q. q;
    attaching =
        λ who later. hear-fewer log s.phase s.table _
        (λ p file host row found. (found-kept (λ r. not (r.who.host == who.host)) file host s.table.rows row (keys-served s t p) found).0) h;
    vacating =
        λ who file tag current. hear-fewer log s.phase s.table _
        (λ p f h row found. found-vacated who file tag s.table.rows _ f h row (keys-served s t p) found) h;
    marking =
        λ file host access serves. as-hear _ log serves (each-marked (HearsWrites log) file host access s.table.rows (hears-marked log) (own-hear serves));
    marking_waiting =
        λ xid r who f want e is asking own room. as-hear _ log asking.serves
        (each-put (HearsWrites log) _ (sharing_row (with_marked s.table (to_read s who f (Some want))) (to_read s who f (Some want))
        (term_of (to_read s who f (Some want)) want)) (λ writes. absurd (cc))
        (each-marked (HearsWrites log) f.id who.host _ s.table.rows (hears-marked log) (own-hear asking.serves)));
    granting =
        λ xid r who f want row term e is asking c granted. as-hear _ _ asking.serves
        (hears-more (Entry.G who f.id row.mode row.tag term s.now) log _ (λ r. tt)
        (each-put (HearsWrites log) s.table.rows row
        (granted-hears s.table (to_read s who f (Some want)) want row term log by (own-hear asking.serves) granted) (own-hear asking.serves)));
    creating = λ name blocks serves can. h;
    changing = λ who f file serves current found same c. h;
    storing =
        λ who f file base row block first last serves current found same can. as-hear _ _ serves
        (stored-hear who f.id row block first last serves can.row_found);
    storing_recovering = λ who f file block first final until heard last current p found same. tt;
    removing =
        λ who f serves current found c. hear-fewer log s.phase s.table _
        (λ p file host row found. (found-kept (λ r. not (r.file == f.id)) file host s.table.rows row (keys-served s t p) found).0) h;
  }

-- each row that lets its holder write was heard with its holder's writes, after a datagram
pub hear-receive : (s : Server) (sender next : ℕ) (d : Datagram) (log : List Entry) → StandingFitsOf s → LogBy s.now log → RowsHear s.phase s.table log
    → RowsHear (receive s sender next d).server.phase (receive s sender next d).server.table (timed (receive s sender next d).entries ++ log)
hear-receive s sender next d log t by h = log-moves s sender next d log (λ kept phase table after. RowsHear phase table after) (hear-moves s d log t by h)

hear-ended : (e : Entry) (log : List Entry) (phase : Phase) (table : Table) → ((row : Row) → IsHeardOf row.who row.file row.heard e)
    → RowsHear phase table log → RowsHear phase table (e ∷ log)
hear-ended e log serving table passes h = hears-more e log table.rows passes h
hear-ended e log (recovering until heard last) table passes h = tt

-- and after a tick
pub hear-tick : (s : Server) (now : ℕ) (log : List Entry) → NoneRecoveringOf s → StandingFitsOf s → RowsHear s.phase s.table log
    → RowsHear (tick s now).server.phase (tick s now).server.table (timed (tick s now).entries ++ log)
unfolding with_rows
hear-tick s now log none t h = tick-log-moves s now log (λ kept phase table after. RowsHear phase table after) (record {
  waits = λ until heard last p goes_on. h;
  opening = λ until heard last p over. no-rows (HearsWrites (Entry.O s.kept.boot until heard now ∷ log)) s until heard last p none;
  ends_reading = λ p. hear-fewer log s.phase s.table (end_reading now s.table.rows) (λ q. ended-row s now t p) h;
  ending_writing =
      λ row p due. hear-ended (Entry.F row.who row.file row.until row.heard now) log s.phase
      (with_rows s.table (drop_row row.file row.who.host (end_reading now s.table.rows))) (λ r. tt)
      (hear-fewer log s.phase s.table (drop_row row.file row.who.host (end_reading now s.table.rows)) (λ q. left-row s now row t p) h);
})

-- and after a crash
pub hear-crash : (s : Server) (longest : ℕ) (log : List Entry)
    → RowsHear (crash s longest).server.phase (crash s longest).server.table (timed (crash s longest).entries ++ log)
unfolding crash boot empty_table
hear-crash s longest log = in-phase (s.kept.opened == 0)
  where
    in-phase : (b : Bool) → RowsHear (if b then serving else recovering (s.now + s.kept.longest + 8) s.now (last_in s.phase s.table))
        (empty_table (s.kept.boot + 1)) (Entry.X (s.kept.boot + 1) s.now (booted s.kept longest).longest ∷ log)
    in-phase true = λ file host row found. absurd (cc)
    in-phase false = tt
