-- What a datagram makes of one row: it stays, but for its mark and when it was heard; or it comes with a new tag, by a request of its holder that
-- wants a lease. And what takes a row away.
use Rattle.std.proofs.Common.{◌≡◌, ◌<◌, ◌⊎◌, ℕ, ◌==◌, ◌&&◌, Bool, true, false, List, Option, Some, None, if◌then◌else◌, refl, sym, subst, ap, ◌∙◌, inl, inr}
use Rattle.std.proofs.lemmas.Bool.{and_parts}
use Rattle.std.specs.List.{filter}
use Rattle.std.specs.Option.{option_map}
use Rattle.nq_base.specs.declared.Access.{Access}
use Rattle.nq_base.specs.declared.Question.{Question}
use Rattle.nq_base.specs.declared.Request.{Request}
use Rattle.nq_base.specs.declared.Row.{Row}
use Rattle.nq_base.specs.declared.Tag.{Tag}
use Rattle.nq_base.specs.declared.Want.{Want}
use Rattle.nq_base.specs.declared.Who.{Who}
use Rattle.nq_model.specs.protocol.Ask.{marked, term_of, sharing_row, caching_row, shared_again, renewed_row}
use Rattle.nq_model.specs.protocol.Decide.{decides, creates, writes_through, stores, stores_recovering, wrote, resizes, removes, puts_off, commits}
use Rattle.nq_model.specs.protocol.Kept.{File}
use Rattle.nq_model.specs.laws.LeaseInterval.{requested_file}
use Rattle.nq_model.specs.protocol.Message.{Datagram, request, asker}
use Rattle.nq_model.specs.protocol.Server.{Server, after_notices, keeping, keeping_with, with_table, quiet, drops, says}
use Rattle.nq_model.specs.protocol.ServerStep.{access_of, to_read, vacated_rows, attaches, vacates, tells_later, serves, leases, receive}
use Rattle.nq_model.specs.protocol.Table.{Table, same_tag, find_row, is_row_of, drop_row, drop_host, drop_rows_of, put_row, with_rows, after_draw}
use Rattle.walk_steps.proofs.ClientMoves.{some-same}
use Rattle.walk_steps.proofs.AskCases.{IsGranted, shares_again, begins_sharing, begins_caching, renews_row, clash_in, own_in, with_marked}
use Rattle.walk_steps.proofs.RowChanges.{HasUniqueKeys, mark, mark-is, found-marked, find-marked, found-put, find-put, found-kept, found-vacated}
use Rattle.walk_steps.proofs.RowChanges.{find-row-dropped, find-other-dropped, find-other-host-dropped, find-other-file-dropped, find-host-dropped}
use Rattle.walk_steps.proofs.RowChanges.{find-file-dropped, of-key}
use Rattle.walk_steps.proofs.Rows.{found-row, same-number}
use Rattle.walk_steps.proofs.ServerCases.{server-hears}
use Rattle.walk_steps.proofs.ServerOutcomes.{line_of, wanted_by, IsFrom, IsCurrent, IsFresh, IsAsking, clash_with}
use Rattle.walk_steps.proofs.Tests.{is-other}

-- ---- the rows after a datagram

-- a row is the one that was there, but for its mark and when its last write was heard
pub record GoesOn (was row : Row) : Type 0 where
  pub file : row.file ≡ was.file
  pub who : row.who ≡ was.who
  pub mode : row.mode ≡ was.mode
  pub tag : row.tag ≡ was.tag
  pub since : row.since ≡ was.since
  pub until : row.until ≡ was.until
  pub going : was.evicting ≡ true → row.evicting ≡ true

-- the request of a row's holder that wants a lease on its file, which the server is asked while it serves
pub record IsWanted (s : Server) (sender : ℕ) (d : Datagram) (file host : ℕ) : Type 0 where
  pub xid : ℕ
  pub asks : Request
  pub who : Who
  pub of : File
  pub want : Want
  pub is : d ≡ request xid asks
  pub by : asker asks ≡ Some who
  pub on : requested_file asks ≡ Some of.id
  pub wants : wanted_by asks ≡ Some want
  pub asking : IsAsking s sender who of
  pub at : file ≡ of.id
  pub from : host ≡ who.host

-- a granted row is the asker's
pub granted-key : (table : Table) (q : Question) (want : Want) (row : Row) (term : ℕ) → IsGranted table q want row term
    → (row.file ≡ q.file) × (row.who.host ≡ q.who.host)
unfolding shared_again sharing_row caching_row renewed_row
granted-key table q want row term (shares_again own has quiet alone is t) =
    let k = found-row q.file q.who.host table.rows own has in
    (ap (λ (r : Row). r.file) is ∙ k.0, ap (λ (r : Row). r.who.host) is ∙ k.1)
granted-key table q want row term (begins_sharing none room some is t) = (ap (λ (r : Row). r.file) is, ap (λ (r : Row). r.who.host) is)
granted-key table q want row term (begins_caching none room some is t) = (ap (λ (r : Row). r.file) is, ap (λ (r : Row). r.who.host) is)
granted-key table q want row term (renews_row own has quiet kind is t) =
    let k = found-row q.file q.who.host table.rows own has in
    (ap (λ (r : Row). r.file) is ∙ k.0, ap (λ (r : Row). r.who.host) is ∙ k.1)

module _ (s : Server) (sender : ℕ) (d : Datagram) where
  -- where a row comes from that stands after a datagram
  pub data RowIs (file host : ℕ) (row : Row) : Type 0 where
    -- it was there
    goes_on : (was : Row) → find_row file host s.table.rows ≡ Some was → GoesOn was row → RowIs file host row
    -- its holder is put off and waits
    waits : (w : IsWanted s sender d file host) (clash : Row) → clash_in s.table (to_read s w.who w.of (Some w.want)) ≡ Some clash
        → own_in s.table (to_read s w.who w.of (Some w.want)) ≡ None
        → row ≡ sharing_row (with_marked s.table (to_read s w.who w.of (Some w.want))) (to_read s w.who w.of (Some w.want))
        (term_of (to_read s w.who w.of (Some w.want)) w.want)
        → RowIs file host row
    -- it is granted
    granted : (w : IsWanted s sender d file host) (term : ℕ) → clash_in s.table (to_read s w.who w.of (Some w.want)) ≡ None
        → IsGranted s.table (to_read s w.who w.of (Some w.want)) w.want row term → RowIs file host row

  abbrev pub RowsAre : List Row → Type 0
  RowsAre rows = (file host : ℕ) (row : Row) → find_row file host rows ≡ Some row → RowIs file host row

  same-goes : (row : Row) → GoesOn row row
  same-goes row = record { file = refl; who = refl; mode = refl; tag = refl; since = refl; until = refl; going = λ e. e }

  stands : RowsAre s.table.rows
  stands file host row found = goes_on row found (same-goes row)

  module _ (unique : HasUniqueKeys s.table.rows) where
    kept-rows : (q : Row → Bool) → RowsAre (filter q s.table.rows)
    kept-rows q file host row found = goes_on row (found-kept q file host s.table.rows row unique found).0 (same-goes row)

    given-up : (who : Who) (f : ℕ) (tag : Tag) (own : Option Row) → RowsAre (vacated_rows who f tag s.table.rows own)
    given-up who f tag own file host row found = goes_on row (found-vacated who f tag s.table.rows own file host row unique found) (same-goes row)

    marked-rows : (f by : ℕ) (access : Access) → RowsAre (marked f by access s.table.rows)
    marked-rows f by access file host row found =
        let m = found-marked f by access file host s.table.rows row found in
        let k = mark-is f by access m.was in
        goes_on m.was m.found (record {
          file = ap (λ (r : Row). r.file) m.is ∙ k.file;
          who = ap (λ (r : Row). r.who) m.is ∙ k.who;
          mode = ap (λ (r : Row). r.mode) m.is ∙ k.mode;
          tag = ap (λ (r : Row). r.tag) m.is ∙ k.tag;
          since = ap (λ (r : Row). r.since) m.is ∙ k.since;
          until = ap (λ (r : Row). r.until) m.is ∙ k.until;
          going = λ e. ap (λ (r : Row). r.evicting) m.is ∙ k.evicts e;
        })

    put-rows : (new : Row) (rows : List Row) → ((file host : ℕ) → is_row_of file host new ≡ true → RowIs file host new) → RowsAre rows
        → RowsAre (put_row new rows)
    put-rows new rows own others file host row found = by (found-put file host new row rows found)
      where
        by : ((is_row_of file host new ≡ true) × (row ≡ new)) ⊎ ((is_row_of file host new ≡ false) × (find_row file host rows ≡ Some row))
            → RowIs file host row
        by (inl p) = subst (λ r. RowIs file host r) (sym p.1) (own file host p.0)
        by (inr p) = others file host row p.1

    wanted : (file host xid : ℕ) (r : Request) (who : Who) (f : File) (want : Want) → d ≡ request xid r → asker r ≡ Some who → requested_file r ≡ Some f.id
        → wanted_by r ≡ Some want → IsAsking s sender who f → file ≡ f.id → host ≡ who.host → IsWanted s sender d file host
    wanted file host xid r who f want e by on wants asking at from =
        record { xid = xid; asks = r; who = who; of = f; want = want; is = e; by = by; on = on; wants = wants; asking = asking; at = at; from = from }

    waiter : (xid : ℕ) (r : Request) (who : Who) (f : File) (clash : Row) (want : Want) → d ≡ request xid r → asker r ≡ Some who
        → requested_file r ≡ Some f.id → wanted_by r ≡ Some want → IsAsking s sender who f → clash_in s.table (to_read s who f (Some want)) ≡ Some clash
        → own_in s.table (to_read s who f (Some want)) ≡ None → (file host : ℕ)
        → is_row_of file host (sharing_row (with_marked s.table (to_read s who f (Some want))) (to_read s who f (Some want))
        (term_of (to_read s who f (Some want)) want)) ≡ true → RowIs file host
        (sharing_row (with_marked s.table (to_read s who f (Some want))) (to_read s who f (Some want)) (term_of (to_read s who f (Some want)) want))
    unfolding sharing_row wanted
    waiter xid r who f clash want e by on wants asking c own file host is =
        let k = of-key file host (sharing_row (with_marked s.table (to_read s who f (Some want))) (to_read s who f (Some want))
        (term_of (to_read s who f (Some want)) want)) is in
        waits (wanted file host xid r who f want e by on wants asking (sym k.0) (sym k.1)) clash c own refl

    grantee : (xid : ℕ) (r : Request) (who : Who) (f : File) (want : Want) (row : Row) (term : ℕ) → d ≡ request xid r → asker r ≡ Some who
        → requested_file r ≡ Some f.id → wanted_by r ≡ Some want → IsAsking s sender who f → clash_in s.table (to_read s who f (Some want)) ≡ None
        → IsGranted s.table (to_read s who f (Some want)) want row term → (file host : ℕ) → is_row_of file host row ≡ true → RowIs file host row
    unfolding wanted
    grantee xid r who f want row term e by on wants asking c g file host is =
        let k = of-key file host row is in
        let own = granted-key s.table (to_read s who f (Some want)) want row term g in
        granted (wanted file host xid r who f want e by on wants asking (sym k.0 ∙ own.0) (sym k.1 ∙ own.1)) term c g

    heard-row : (row : Row) (now f h : ℕ) → find_row f h s.table.rows ≡ Some row → (file host : ℕ) → is_row_of file host (record row { heard = now }) ≡ true
        → RowIs file host (record row { heard = now })
    heard-row row now f h found file host is =
        let k = of-key file host (record row { heard = now }) is in
        let o = found-row f h s.table.rows row found in
        let there : find_row file host s.table.rows ≡ Some row =
        subst (λ n. find_row file n s.table.rows ≡ Some row) (sym o.1 ∙ k.1) (subst (λ g. find_row g h s.table.rows ≡ Some row) (sym o.0 ∙ k.0) found) in
        goes_on row there (record { file = refl; who = refl; mode = refl; tag = refl; since = refl; until = refl; going = λ e. e })

    -- each row that stands after a datagram
    pub rows-are : (next : ℕ) → RowsAre (receive s sender next d).server.table.rows
    unfolding quiet drops says attaches vacates serves leases tells_later decides creates writes_through stores stores_recovering wrote resizes removes
        puts_off commits after_notices keeping keeping_with with_table with_rows after_draw
    rows-are next = server-hears s sender next d (λ t. RowsAre t.server.table.rows) (record {
      stays = stands;
      dropping = λ reason. stands;
      erring = λ m e. stands;
      answers_null = λ xid e. stands;
      replying = λ xid who r a e by from plain. stands;
      attaching = λ xid who e from later. kept-rows _;
      vacating = λ xid who file tag e current. given-up who file tag (find_row file who.host s.table.rows);
      putting_off = λ xid who r f clash e by file asking c. marked-rows f.id who.host _;
      putting_off_waiting = λ xid who r f clash want e by file wants asking c own room. put-rows _
          (marked f.id who.host (access_of (Some want)) s.table.rows) (waiter xid r who f clash want e by file wants asking c own)
          (marked-rows f.id who.host (access_of (Some want)));
      putting_off_by_own = λ xid who r f want own e by file wants asking c o evicting. stands;
      reading = λ xid who q block f body e asking there c. stands;
      reading_full = λ xid who q block want f body e asking there c own room. stands;
      reading_granted = λ xid who q block want f body row term e asking there c g. put-rows row s.table.rows
          (grantee xid _ who f want row term e refl refl refl asking c g) stands;
      leasing_full = λ xid who want f e asking c own room. stands;
      leasing = λ xid who want f row term e asking c g. put-rows row s.table.rows (grantee xid _ who f want row term e refl refl refl asking c g) stands;
      declining = λ xid who seq r verdict e by sq fresh is. stands;
      putting_off_change = λ xid who seq r f clash e by sq file base changing c. marked-rows f.id who.host Access.Write;
      creating = λ xid who seq blocks name e fresh serves can. stands;
      writing_through = λ xid who seq block first last body f e changing below c. stands;
      storing = λ xid who seq block first last base body f row e changing below can. put-rows (record row { heard = s.now }) s.table.rows
          (heard-row row s.now f.id who.host can.row_found) stands;
      storing_recovering = λ xid who seq block first final base body f until heard last e fresh recovers found below boot rev. stands;
      resizing = λ xid who seq q blocks f e changing can c. stands;
      removing = λ xid who seq q f e changing c. kept-rows _;
    })

    -- ---- what takes a row away

    -- what becomes of a row that was there
    pub data RowGoes (file host : ℕ) (was : Row) (rows : List Row) : Type 0 where
      stays : (row : Row) → find_row file host rows ≡ Some row → RowGoes file host was rows
      vacated : (xid : ℕ) (who : Who) (tag : Tag) → d ≡ request xid (Request.Vacated who file tag) → IsCurrent s sender who → who.host ≡ host
          → was.who.inc ≡ who.inc → same_tag was.tag tag ≡ true → find_row file host rows ≡ None → RowGoes file host was rows
      attached : (xid : ℕ) (who : Who) → d ≡ request xid (Request.Attach who) → IsFrom sender who → who.host ≡ host → (line_of s who).inc < who.inc
          → find_row file host rows ≡ None → RowGoes file host was rows
      removed : (xid seq q : ℕ) (who : Who) → d ≡ request xid (Request.Remove who seq q file) → IsFresh s sender who seq → clash_with s file who.host ≡ None
          → find_row file host rows ≡ None → RowGoes file host was rows

    abbrev pub AllGo : List Row → Type 0
    AllGo rows = (file host : ℕ) (was : Row) → find_row file host s.table.rows ≡ Some was → RowGoes file host was rows

    all-stay : AllGo s.table.rows
    all-stay file host was there = stays was there

    marked-stay : (f by : ℕ) (access : Access) → AllGo (marked f by access s.table.rows)
    marked-stay f by access file host was there =
        stays (mark f by access was) (find-marked file host f by access s.table.rows ∙ ap (option_map (mark f by access)) there)

    put-stay : (new : Row) (rows : List Row) → AllGo rows → AllGo (put_row new rows)
    put-stay new rows go file host was there = by (go file host was there) (is_row_of file host new) (find-put file host new rows)
      where
        by : RowGoes file host was rows → (b : Bool) → find_row file host (put_row new rows) ≡ (if b then Some new else find_row file host rows)
            → RowGoes file host was (put_row new rows)
        by g true e = stays new e
        by (stays row at) false e = stays row (e ∙ at)
        by (vacated xid who tag is current at inc same none) false e = vacated xid who tag is current at inc same (e ∙ none)
        by (attached xid who is from at later none) false e = attached xid who is from at later (e ∙ none)
        by (removed xid seq q who is fresh free none) false e = removed xid seq q who is fresh free (e ∙ none)

    vacates-stay : (xid : ℕ) (who : Who) (f : ℕ) (tag : Tag) → d ≡ request xid (Request.Vacated who f tag) → IsCurrent s sender who → (o : Option Row)
        → find_row f who.host s.table.rows ≡ o → AllGo (vacated_rows who f tag s.table.rows o)
    vacates-stay xid who f tag is current None own file host was there = stays was there
    vacates-stay xid who f tag is current (Some row) own file host was there = by (row.who.inc == who.inc && same_tag row.tag tag) refl
      where
        at : (a b : Bool) → (file == f) ≡ a → (host == who.host) ≡ b → (row.who.inc == who.inc && same_tag row.tag tag) ≡ true
            → RowGoes file host was (drop_row f who.host s.table.rows)
        at true true x y e =
            let one : file ≡ f = same-number file f x in
            let two : host ≡ who.host = same-number host who.host y in
            let here : find_row f who.host s.table.rows ≡ Some was =
            subst (λ h. find_row f h s.table.rows ≡ Some was) two (subst (λ g. find_row g host s.table.rows ≡ Some was) one there) in
            let same : row ≡ was = some-same row was (sym own ∙ here) in
            let parts = and_parts (row.who.inc == who.inc) (same_tag row.tag tag) e in
            let gone : find_row file host (drop_row f who.host s.table.rows) ≡ None =
            subst (λ g. find_row g host (drop_row f who.host s.table.rows) ≡ None) (sym one)
            (subst (λ h. find_row f h (drop_row f who.host s.table.rows) ≡ None) (sym two) (find-row-dropped f who.host s.table.rows)) in
            vacated xid who tag (is ∙ ap (λ g. request xid (Request.Vacated who g tag)) (sym one)) current (sym two)
            (ap (λ (r : Row). r.who.inc) (sym same) ∙ same-number row.who.inc who.inc parts.0)
            (ap (λ (r : Row). same_tag r.tag tag) (sym same) ∙ parts.1) gone
        at true false x y e = stays was (find-other-dropped f who.host file host s.table.rows (λ g. is-other host who.host y) ∙ there)
        at false b x y e = stays was (find-other-dropped f who.host file host s.table.rows (λ g. absurd (is-other file f x g)) ∙ there)

        by : (b : Bool) → (row.who.inc == who.inc && same_tag row.tag tag) ≡ b
            → RowGoes file host was (if b then drop_row f who.host s.table.rows else s.table.rows)
        by true e = at (file == f) (host == who.host) refl refl e
        by false e = stays was there

    attaches-stay : (xid : ℕ) (who : Who) → d ≡ request xid (Request.Attach who) → IsFrom sender who → (line_of s who).inc < who.inc
        → AllGo (drop_host who.host s.table.rows)
    attaches-stay xid who is from later file host was there = by (host == who.host) refl
      where
        by : (b : Bool) → (host == who.host) ≡ b → RowGoes file host was (drop_host who.host s.table.rows)
        by true e = let same = same-number host who.host e in
            attached xid who is from (sym same) later
            (subst (λ h. find_row file h (drop_host who.host s.table.rows) ≡ None) (sym same) (find-host-dropped file who.host s.table.rows))
        by false e = stays was (find-other-host-dropped file who.host host s.table.rows (is-other host who.host e) ∙ there)

    removes-stay : (xid seq q f : ℕ) (who : Who) → d ≡ request xid (Request.Remove who seq q f) → IsFresh s sender who seq → clash_with s f who.host ≡ None
        → AllGo (drop_rows_of f s.table.rows)
    removes-stay xid seq q f who is fresh free file host was there = by (file == f) refl
      where
        by : (b : Bool) → (file == f) ≡ b → RowGoes file host was (drop_rows_of f s.table.rows)
        by true e =
            let same = same-number file f e in
            removed xid seq q who (is ∙ ap (λ g. request xid (Request.Remove who seq q g)) (sym same)) fresh
            (subst (λ g. clash_with s g who.host ≡ None) (sym same) free)
            (subst (λ g. find_row g host (drop_rows_of f s.table.rows) ≡ None) (sym same) (find-file-dropped f host s.table.rows))
        by false e = stays was (find-other-file-dropped f host file s.table.rows (is-other file f e) ∙ there)

    -- each row that was there
    pub rows-go : (next : ℕ) → AllGo (receive s sender next d).server.table.rows
    unfolding quiet drops says attaches vacates serves leases tells_later decides creates writes_through stores stores_recovering wrote resizes removes
        puts_off commits after_notices keeping keeping_with with_table with_rows after_draw
    rows-go next = server-hears s sender next d (λ t. AllGo t.server.table.rows) (record {
      stays = all-stay;
      dropping = λ reason. all-stay;
      erring = λ m e. all-stay;
      answers_null = λ xid e. all-stay;
      replying = λ xid who r a e by from plain. all-stay;
      attaching = λ xid who e from later. attaches-stay xid who e from later;
      vacating = λ xid who file tag e current. vacates-stay xid who file tag e current (find_row file who.host s.table.rows) refl;
      putting_off = λ xid who r f clash e by file asking c. marked-stay f.id who.host _;
      putting_off_waiting = λ xid who r f clash want e by file wants asking c own room. put-stay _
          (marked f.id who.host (access_of (Some want)) s.table.rows) (marked-stay f.id who.host (access_of (Some want)));
      putting_off_by_own = λ xid who r f want own e by file wants asking c o evicting. all-stay;
      reading = λ xid who q block f body e asking there c. all-stay;
      reading_full = λ xid who q block want f body e asking there c own room. all-stay;
      reading_granted = λ xid who q block want f body row term e asking there c g. put-stay row s.table.rows all-stay;
      leasing_full = λ xid who want f e asking c own room. all-stay;
      leasing = λ xid who want f row term e asking c g. put-stay row s.table.rows all-stay;
      declining = λ xid who seq r verdict e by sq fresh is. all-stay;
      putting_off_change = λ xid who seq r f clash e by sq file base changing c. marked-stay f.id who.host Access.Write;
      creating = λ xid who seq blocks name e fresh serves can. all-stay;
      writing_through = λ xid who seq block first last body f e changing below c. all-stay;
      storing = λ xid who seq block first last base body f row e changing below can. put-stay (record row { heard = s.now }) s.table.rows all-stay;
      storing_recovering = λ xid who seq block first final base body f until heard last e fresh recovers found below boot rev. all-stay;
      resizing = λ xid who seq q blocks f e changing can c. all-stay;
      removing = λ xid who seq q f e changing c. removes-stay xid seq q f.id who e changing.fresh c;
    })
