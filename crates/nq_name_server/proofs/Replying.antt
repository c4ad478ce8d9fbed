-- What a server makes of a READDIRLOOK, in the order of the code.
use Rattle.std.proofs.Common.{◌≡◌, ◌+◌, ◌%◌, ◌==◌, ℕ, suc, Bool, true, false, not, ◌&&◌, List, [], ◌∷◌, ◌++◌, Option, Some, None, if◌then◌else◌}
use Rattle.std.proofs.Common.{length, refl, sym, ap, subst, ◌∙◌, arith, append_assoc}
use Rattle.std.specs.Prelude.{nat_lt}
use Rattle.std.proofs.lemmas.Bool.{eq-eqb}
use Rattle.std.proofs.lemmas.Bool.Decides.{nat_tests}
use Rattle.std.proofs.lemmas.List.Quantifiers.{position-Some}
use Rattle.nq_base.specs.declared.Asked.{Asked}
use Rattle.nq_base.specs.declared.Clash.{Clash}
use Rattle.nq_base.specs.declared.Grant.{Grant}
use Rattle.nq_base.specs.declared.Party.{Party}
use Rattle.nq_base.specs.declared.Row.{Row}
use Rattle.nq_base.specs.declared.Who.{Who}
use Rattle.nq_directory.specs.declared.listing.messages.ReadDir.{ReadDir}
use Rattle.nq_directory.specs.Messages.{answer_bytes, results}
use Rattle.nq_model.proofs.Finding.{find-dropped, find-passes}
use Rattle.nq_model.specs.protocol.Ask.{ask}
use Rattle.nq_model.specs.protocol.Profile.{same_bytes, xid_end}
use Rattle.nq_model.specs.protocol.Table.{Table, drop_row, find_row, is_row_of, with_rows}
use Rattle.nq_wire.specs.Outbox.{Datagrams}
use Rattle.nq_wire.specs.Parts.{grant_bytes, optional}
use Rattle.nq_name_server.specs.Sending.{IsServed, all_sent, sent}
use Rattle.nq_name_server.specs.Served.{Served, Leaf, most_directories, number_of}
use Rattle.nq_name_server.specs.Serving.{AreReady, ToHost, answers, entered, evicting, for_asker, leased, lists_for, notice_after, notices}
use Rattle.nq_name_server.specs.Serving.{number_for, number_or_next, own_again, own_told, puts_off, reads_as, reads_dir, reads_numbered, replied}
use Rattle.nq_name_server.specs.Serving.{tells}

-- ---- numbers of directories

-- a directory that has a number, or gets the next one
numbered : (s : Served) (r : ReadDir) (leaf : Leaf) (number : ℕ) → number_for s r.prefix ≡ Some number
    → reads_dir s r leaf ≡ reads_numbered (record s { directories = entered number r.prefix s.directories }) r leaf number
numbered s r leaf number is = step (number_of r.prefix s.directories) refl is
  where
    old : (n : ℕ) → number_of r.prefix s.directories ≡ Some n → entered n r.prefix s.directories ≡ s.directories
    old n known =
        let below = (position-Some (λ d. same_bytes d r.prefix) s.directories n [] known).0 in
        let other : (n == length s.directories) ≡ false = grind (arith, nat_tests) in
        rw other refl

    next : (b : Bool) → (if b then Some (length s.directories) else None) ≡ Some number
        → (if b then reads_numbered (record s { directories = s.directories ++ r.prefix ∷ [] }) r leaf (length s.directories) else answers s r s.table
        leaf None) ≡ reads_numbered (record s { directories = entered number r.prefix s.directories }) r leaf number
    next true e =
        let same : length s.directories ≡ number = cc in
        let last = eq-eqb number (length s.directories) (sym same) in
        ap (λ n. reads_numbered (record s { directories = s.directories ++ r.prefix ∷ [] }) r leaf n) same
        ∙ sym (ap (λ b. reads_numbered (record s { directories = if b then s.directories ++ r.prefix ∷ [] else s.directories }) r leaf number) last)
    next false e = absurd (cc)

    step : (found : Option ℕ) → number_of r.prefix s.directories ≡ found → number_or_next s found ≡ Some number
        → reads_as s r leaf found ≡ reads_numbered (record s { directories = entered number r.prefix s.directories }) r leaf number
    step (Some n) known e =
        let same : n ≡ number = cc in
        sym (ap (λ ds. reads_numbered (record s { directories = ds }) r leaf n) (old n known))
        ∙ ap (λ m. reads_numbered (record s { directories = entered m r.prefix s.directories }) r leaf m) same
    step None known e = next (nat_lt (length s.directories) most_directories) e

-- where all numbers are taken, a page comes without a lease
pub none_is_left : (s : Served) (r : ReadDir) (leaf : Leaf) → number_for s r.prefix ≡ None → reads_dir s r leaf ≡ answers s r s.table leaf None
none_is_left s r leaf is = step (number_of r.prefix s.directories) is
  where
    next : (b : Bool) → (if b then Some (length s.directories) else None) ≡ None
        → (if b then reads_numbered (record s { directories = s.directories ++ r.prefix ∷ [] }) r leaf (length s.directories) else answers s r s.table
        leaf None) ≡ answers s r s.table leaf None
    next true e = absurd (cc)
    next false e = refl

    step : (found : Option ℕ) → number_or_next s found ≡ None → reads_as s r leaf found ≡ answers s r s.table leaf None
    step (Some n) e = absurd (cc)
    step None e = next (nat_lt (length s.directories) most_directories) e

-- ---- the asker's own row

own-said : (who : Who) (number : ℕ) (rows : List Row) (found : Option Row) → find_row number who.host rows ≡ found
    → evicting (find_row number who.host (own_again who number found rows)) ≡ own_told who found
own-said who number rows None is = ap evicting is
own-said who number rows (Some row) is = step (row.who.inc == who.inc)
  where
    other : (r : Row) → is_row_of number who.host r ≡ true → not (is_row_of number who.host r) ≡ false
    other r e = ap not e

    step : (b : Bool)
        → evicting (find_row number who.host (if b then rows else drop_row number who.host rows)) ≡ (if b && row.evicting then row ∷ [] else [])
    step true = ap evicting is
    step false =
        ap evicting (find-dropped (is_row_of number who.host) (λ r. not (is_row_of number who.host r)) rows other)

-- ---- what the lease table says

notices-length : (prefix : List ℕ) (xid : ℕ) (rows : List Row) → length rows ≡ length (notices prefix xid rows)
notices-length prefix xid [] = refl
notices-length prefix xid (row ∷ rows) = ap suc (notices-length prefix ((xid + 1) % xid_end) rows)

replies : (s : Served) (r : ReadDir) (table : Table) (leaf : Leaf) (own : List Row) (asked : Asked)
    → leased s r table leaf own asked ≡ replied (record s { table = table }) r leaf (notices r.prefix s.notice own) asked
replies s r table leaf own (Asked.TryLater clash) =
    ap (λ n. record {
      served = record s { table = table; notice = notice_after s.notice n };
      sends = notices r.prefix s.notice own ++ puts_off r
          ∷ [];
    }) (notices-length r.prefix s.notice own)
replies s r table leaf own (Asked.Granted grant) = refl
replies s r table leaf own Asked.NoLease = refl
replies s r table leaf own Asked.Free = refl

-- a READDIRLOOK of a directory with a number, as the code answers it
answered : (s : Served) (r : ReadDir) (leaf : Leaf) (number : ℕ) (before : List ToHost) → number_for s r.prefix ≡ Some number
    → before ≡ notices r.prefix s.notice (own_told r.who (find_row number r.who.host s.table.rows))
    → reads_dir s r leaf ≡ replied (record s {
      table = (ask (for_asker s.table r.who number) (lists_for s r number)).table;
      directories =
          entered number r.prefix s.directories;
    }) r leaf before (ask (for_asker s.table r.who number) (lists_for s r number)).asked
unfolding with_rows
answered s r leaf number before is told =
    let entered-in = record s { directories = entered number r.prefix s.directories } in
    let table = for_asker s.table r.who number in
    let after = ask table (lists_for s r number) in
    let own = find_row number r.who.host s.table.rows in
    numbered s r leaf number is
    ∙ replies entered-in r after.table leaf (evicting (find_row number r.who.host (own_again r.who number own s.table.rows))) after.asked
    ∙ ap (λ b. replied (record entered-in { table = after.table }) r leaf b after.asked) (ap (notices r.prefix s.notice)
    (own-said r.who number s.table.rows own refl) ∙ sym told)

-- ---- what is sent

-- what is sent one after another
sent-both : (first second : List ToHost) → all_sent (first ++ second) ≡ all_sent first ++ all_sent second
sent-both [] second = refl
sent-both (d ∷ ds) second = ap (λ l. sent d ∷ l) (sent-both ds second)

-- the reply that puts off is the one that is ready
put-off-is : (r : ReadDir) (leaf : Leaf) (begun put-off : List ℕ) → AreReady r leaf begun put-off → sent (puts_off r) ≡ (Party.Client r.who.host, put-off)
put-off-is r leaf begun put-off ready = ap (λ bytes. (Party.Client r.who.host, bytes)) (sym ready.delayed)

-- so is the one with a page
page-is : (r : ReadDir) (leaf : Leaf) (begun put-off : List ℕ) (grant : Option Grant) → AreReady r leaf begun put-off
    → sent (tells r leaf grant) ≡ (Party.Client r.who.host, begun ++ optional grant_bytes grant)
unfolding answer_bytes results
page-is r leaf begun put-off grant ready =
    ap (λ bytes. (Party.Client r.who.host, bytes)) (sym (ready.paged (optional grant_bytes grant)))

-- the page without a lease, where all numbers are taken
pub given : (s new : Served) (r : ReadDir) (leaf : Leaf) (begun put-off : List ℕ) (grant : Option Grant) (out out' : Datagrams)
    → AreReady r leaf begun put-off → new ≡ s → out'.datagrams ≡ out.datagrams ++ (Party.Client r.who.host, begun ++ optional grant_bytes grant) ∷ []
    → IsServed (answers s r s.table leaf grant) new out out'
given s new r leaf begun put-off grant out out' ready same sends = record {
  served = same;
  sends = sends ∙ ap (λ d. out.datagrams ++ d ∷ []) (sym (page-is r leaf begun put-off grant ready));
}

-- the page with a lease
pub granted_page : (s new : Served) (r : ReadDir) (leaf : Leaf) (begun put-off : List ℕ) (before : List ToHost) (asked : Asked) (grant : Grant)
    (out out' : Datagrams)
    → asked ≡ Asked.Granted grant → AreReady r leaf begun put-off → new ≡ s
    → out'.datagrams ≡ out.datagrams ++ (Party.Client r.who.host, begun ++ optional grant_bytes (Some grant)) ∷ []
    → IsServed (replied s r leaf before asked) new out out'
granted_page s new r leaf begun put-off before asked grant out out' is ready same sends =
    subst (λ a. IsServed (replied s r leaf before a) new out out') (sym is) (given s new r leaf begun put-off (Some grant) out out' ready same sends)

-- the page without one
pub free_page : (s new : Served) (r : ReadDir) (leaf : Leaf) (begun put-off : List ℕ) (before : List ToHost) (asked : Asked) (out out' : Datagrams)
    → asked ≡ Asked.Free → AreReady r leaf begun put-off → new ≡ s
    → out'.datagrams ≡ out.datagrams ++ (Party.Client r.who.host, begun ++ optional grant_bytes None) ∷ []
    → IsServed (replied s r leaf before asked) new out out'
free_page s new r leaf begun put-off before asked out out' is ready same sends =
    subst (λ a. IsServed (replied s r leaf before a) new out out') (sym is) (given s new r leaf begun put-off None out out' ready same sends)

pub full_page : (s new : Served) (r : ReadDir) (leaf : Leaf) (begun put-off : List ℕ) (before : List ToHost) (asked : Asked) (out out' : Datagrams)
    → asked ≡ Asked.NoLease → AreReady r leaf begun put-off → new ≡ s
    → out'.datagrams ≡ out.datagrams ++ (Party.Client r.who.host, begun ++ optional grant_bytes None) ∷ []
    → IsServed (replied s r leaf before asked) new out out'
full_page s new r leaf begun put-off before asked out out' is ready same sends =
    subst (λ a. IsServed (replied s r leaf before a) new out out') (sym is) (given s new r leaf begun put-off None out out' ready same sends)

-- the reply that puts off, behind what is told before
pub waited : (s new : Served) (r : ReadDir) (leaf : Leaf) (begun put-off : List ℕ) (before : List ToHost) (asked : Asked) (clash : Clash)
    (out out' : Datagrams)
    → asked ≡ Asked.TryLater clash → AreReady r leaf begun put-off → new ≡ record s { notice = notice_after s.notice (length before) }
    → out'.datagrams ≡ out.datagrams ++ all_sent before ++ (Party.Client r.who.host, put-off) ∷ []
    → IsServed (replied s r leaf before asked) new out out'
waited s new r leaf begun put-off before asked clash out out' is ready counts sends =
    let all = sent-both before (puts_off r ∷ []) ∙ ap (λ d. all_sent before ++ d ∷ []) (put-off-is r leaf begun put-off ready) in
    let last = append_assoc out.datagrams (all_sent before) ((Party.Client r.who.host, put-off) ∷ []) in
    let both : IsServed (replied s r leaf before (Asked.TryLater clash)) new out out' = record {
      served = counts;
      sends = sends ∙ last
          ∙ sym (ap (λ l. out.datagrams ++ l) all);
    } in
    subst (λ a. IsServed (replied s r leaf before a) new out out') (sym is) both

pub ruleset replying = (waited)

-- ---- from the first step to the last

-- a READDIRLOOK of a directory with a number: the directory is entered, the asker's older row dropped, the table asked, and the reply sent
pub read_served : (s s1 s2 s3 new : Served) (r : ReadDir) (leaf : Leaf) (number : ℕ) (before : List ToHost) (asked : Asked) (out out' : Datagrams)
    → number_for s r.prefix ≡ Some number → before ≡ notices r.prefix s.notice (own_told r.who (find_row number r.who.host s.table.rows))
    → s1 ≡ record s { directories = entered number r.prefix s.directories } → s2 ≡ record s1 { table = for_asker s1.table r.who number }
    → s3 ≡ record s2 { table = (ask s2.table (lists_for s2 r number)).table } → asked ≡ (ask s2.table (lists_for s2 r number)).asked
    → IsServed (replied s3 r leaf before asked) new out out' → IsServed (reads_dir s r leaf) new out out'
read_served s s1 s2 s3 new r leaf number before asked out out' is told first second third said done =
    let table = for_asker s.table r.who number in
    let start : Served = record s { table = table; directories = entered number r.prefix s.directories } in
    let after = ask table (lists_for s r number) in
    let two : s2 ≡ start = second ∙ ap (λ (t : Served). record t { table = for_asker t.table r.who number }) first in
    let three : s3 ≡ record start { table = after.table } = third ∙ ap (λ (t : Served). record t { table = (ask t.table (lists_for t r number)).table }) two in
    let says : asked ≡ after.asked = said ∙ ap (λ (t : Served). (ask t.table (lists_for t r number)).asked) two in
    let whole : replied s3 r leaf before asked ≡ reads_dir s r leaf = ap (λ t. replied t r leaf before asked) three
    ∙ ap (λ a. replied (record start { table = after.table }) r leaf before a) says
    ∙ sym (answered s r leaf number before is told)
    in
    subst (λ m. IsServed m new out out') whole done

-- the row that is found is of the host
pub found_host : (number host : ℕ) (row : Row) (rows : List Row) → find_row number host rows ≡ Some row → row.who.host ≡ host
found_host number host row rows found = step (row.file == number) (find-passes (is_row_of number host) row rows found)
  where
    step : (b : Bool) → b && row.who.host == host ≡ true → row.who.host ≡ host
    step true h = grind (arith, nat_tests)
    step false h = absurd (cc)
