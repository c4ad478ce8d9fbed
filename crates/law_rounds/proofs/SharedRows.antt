-- Where a host has a row of a file that does not cache, no row of the file comes to cache by a datagram; and who is put off has a row.
use Rattle.std.proofs.Common.{◌≡◌, ◌≢◌, ◌<◌, ◌⊎◌, ℕ, ◌==◌, ◌&&◌, ◌||◌, Bool, true, false, nat_lt, List, [], ◌∷◌, Option, Some, None, if◌then◌else◌}
use Rattle.std.proofs.Common.{length, refl, sym, ap, subst, ◌∙◌, arith, inl, inr}
use Rattle.std.specs.List.{find, list_any}
use Rattle.std.specs.Option.{option_map}
use Rattle.std.proofs.lemmas.Bool.Decides.{nat_tests}
use Rattle.std.proofs.lemmas.List.{length-map}
use Rattle.nq_base.specs.declared.Access.{Access}
use Rattle.nq_base.specs.declared.Asked.{Asked}
use Rattle.nq_base.specs.declared.Clash.{Clash}
use Rattle.nq_base.specs.declared.Question.{Question}
use Rattle.nq_base.specs.declared.Row.{Row}
use Rattle.nq_base.specs.declared.Tag.{Tag}
use Rattle.nq_base.specs.declared.Want.{Want}
use Rattle.nq_base.specs.declared.Who.{Who}
use Rattle.nq_model.specs.protocol.Ask.{Reply, ask, ask_past, ask_freely, ask_for, begin, renew, share_again, shares, conflicts, marked, sharing_row}
use Rattle.nq_model.specs.protocol.Ask.{caching_row, shared_again, renewed_row, with_waiting, put_off, free, put_off_by_own, granted, no_lease, term_of}
use Rattle.nq_model.specs.protocol.Message.{Datagram}
use Rattle.nq_model.specs.protocol.Profile.{most_rows}
use Rattle.nq_model.specs.protocol.Server.{Server}
use Rattle.nq_model.specs.protocol.ServerStep.{access_of, to_read, vacated_rows, receive}
use Rattle.nq_model.specs.protocol.Table.{Table, caches, same_tag, find_row, is_row_of, put_row, drop_row, drop_host, drop_rows_of, with_rows, after_draw}
use Rattle.walk_steps.proofs.ClientMoves.{none-some}
use Rattle.walk_steps.proofs.AskCases.{IsGranted, shares_again, begins_sharing, begins_caching, renews_row, with_marked, with_waiter}
use Rattle.walk_steps.proofs.RowChanges.{mark, of-key, find-row-dropped, find-other-dropped, find-put-same, found-put, find-host-dropped}
use Rattle.walk_steps.proofs.RowChanges.{find-other-host-dropped, find-file-dropped, find-other-file-dropped, find-marked, mark-is, found-marked}
use Rattle.nq_model.proofs.Finding.{number-other}
use Rattle.walk_steps.proofs.Rows.{choice, found-row, find-none, same-number, number-same}
use Rattle.walk_steps.proofs.ServerMoves.{server-moves}
use Rattle.walk_steps.proofs.Tests.{is-not-below, is-other}
use Rattle.law_rounds.specs.SharingRows.{HasSharingRow, WhoAsksHasRow, WhoIsPutOffShares}
use Rattle.law_rounds.specs.SharedFiles.{HasRow, HasCachingRow, SharedFilesStayShared}

pub none-any : {A : Type 0} (p : A → Bool) (xs : List A) → list_any p xs ≡ false → find p xs ≡ None
none-any p [] h = refl
none-any p (x ∷ xs) h = by (p x) (none-any p xs) h
  where
    by : (b : Bool) → (list_any p xs ≡ false → find p xs ≡ None) → b || list_any p xs ≡ false → (if b then Some x else find p xs) ≡ None
    by true rest g = cc
    by false rest g = rest g

-- a row that does not cache shares the file with each other host
pub shares-it : (file host by : ℕ) (row : Row) → row.file ≡ file → row.who.host ≡ host → host ≢ by → caches row.mode ≡ false → shares file by row ≡ true
shares-it file host by row at of other none =
    let one : (row.file == file) ≡ true = number-same row.file file at in
    let two : (row.who.host == by) ≡ false = number-other row.who.host by (λ e. other (sym of ∙ e)) in
    rw (one, two, none) refl

module _ (s : Server) (file host : ℕ) (row : Row) (found : find_row file host s.table.rows ≡ Some row) (shared : caches row.mode ≡ false) where
  -- all rows of the file that cache are of hosts that had such a row
  OnlyOld : List Row → Type 0
  OnlyOld rows = (other : ℕ) (r : Row) → find_row file other rows ≡ Some r → caches r.mode ≡ true → HasCachingRow s.table.rows file other

  stays : OnlyOld s.table.rows
  unfolding OnlyOld
  stays other r e c = record { row = r; there = e; caching = c }

  host-dropped : (h : ℕ) → OnlyOld (drop_host h s.table.rows)
  unfolding OnlyOld
  host-dropped h other r e c = by (other == h) refl
    where
      by : (b : Bool) → (other == h) ≡ b → HasCachingRow s.table.rows file other
      by true is = let none : find_row file other (drop_host h s.table.rows) ≡ None = subst (λ n. find_row file n (drop_host h s.table.rows) ≡ None)
          (sym (same-number other h is)) (find-host-dropped file h s.table.rows) in none-some r (sym none ∙ e)
      by false is = record { row = r; there = sym (find-other-host-dropped file h other s.table.rows (is-other other h is)) ∙ e; caching = c }

  file-dropped : (f : ℕ) → OnlyOld (drop_rows_of f s.table.rows)
  unfolding OnlyOld
  file-dropped f other r e c = by (file == f) refl
    where
      by : (b : Bool) → (file == f) ≡ b → HasCachingRow s.table.rows file other
      by true is = let none : find_row file other (drop_rows_of f s.table.rows) ≡ None = subst (λ n. find_row n other (drop_rows_of f s.table.rows)
          ≡ None) (sym (same-number file f is)) (find-file-dropped f other s.table.rows) in none-some r (sym none ∙ e)
      by false is = record { row = r; there = sym (find-other-file-dropped f other file s.table.rows (is-other file f is)) ∙ e; caching = c }

  row-dropped : (f h : ℕ) → OnlyOld (drop_row f h s.table.rows)
  unfolding OnlyOld
  row-dropped f h other r e c = by (file == f) (other == h) refl refl
    where
      kept : (file ≡ f → other ≢ h) → HasCachingRow s.table.rows file other
      kept differs = record { row = r; there = sym (find-other-dropped f h file other s.table.rows differs) ∙ e; caching = c }

      by : (a b : Bool) → (file == f) ≡ a → (other == h) ≡ b → HasCachingRow s.table.rows file other
      by true true is same =
          let none : find_row file other (drop_row f h s.table.rows) ≡ None = subst (λ n. find_row n other (drop_row f h s.table.rows) ≡ None)
          (sym (same-number file f is)) (subst (λ n. find_row f n (drop_row f h s.table.rows) ≡ None) (sym (same-number other h same))
          (find-row-dropped f h s.table.rows)) in
          none-some r (sym none ∙ e)
      by true false is same = kept (λ at. is-other other h same)
      by false b is same = kept (λ at. absurd (is-other file f is at))

  vacated : (who : Who) (f : ℕ) (tag : Tag) (o : Option Row) → OnlyOld (vacated_rows who f tag s.table.rows o)
  vacated who f tag None = stays
  vacated who f tag (Some own) = choice OnlyOld (own.who.inc == who.inc && same_tag own.tag tag) (drop_row f who.host s.table.rows) s.table.rows
      (λ e. row-dropped f who.host) (λ e. stays)

  marks : (f by : ℕ) (access : Access) → OnlyOld (marked f by access s.table.rows)
  unfolding OnlyOld
  marks f by access other r e c =
      let m = found-marked f by access file other s.table.rows r e in
      let same : r.mode ≡ m.was.mode = ap (λ (x : Row). x.mode) m.is ∙ (mark-is f by access m.was).mode in
      record { row = m.was; there = m.found; caching = ap caches (sym same) ∙ c }

  puts : (rows : List Row) (new : Row) → OnlyOld rows → (caches new.mode ≡ true → new.file ≡ file → HasCachingRow s.table.rows file new.who.host)
      → OnlyOld (put_row new rows)
  unfolding OnlyOld
  puts rows new old own other r e c = by (found-put file other new r rows e)
    where
      by : ((is_row_of file other new ≡ true) × (r ≡ new)) ⊎ ((is_row_of file other new ≡ false) × (find_row file other rows ≡ Some r))
          → HasCachingRow s.table.rows file other
      by (inl is) =
          let k = of-key file other new is.0 in
          let cached : caches new.mode ≡ true = ap (λ (x : Row). caches x.mode) (sym is.1) ∙ c in
          subst (λ h. HasCachingRow s.table.rows file h) k.1 (own cached k.0)
      by (inr was) = old other r was.1 c

  grants : (q : Question) (want : Want) (new : Row) (term : ℕ) → IsGranted s.table q want new term → caches new.mode ≡ true → new.file ≡ file
      → HasCachingRow s.table.rows file new.who.host
  unfolding shared_again sharing_row caching_row renewed_row
  grants q want new term (shares_again own has quiet alone is t) c at = let same : new.mode ≡ own.mode = ap (λ (x : Row). x.mode) is in
      let no : caches new.mode ≡ false = ap caches same ∙ alone in absurd (cc)
  grants q want new term (begins_sharing none room some is t) c at = let no : caches new.mode ≡ false = ap (λ (x : Row). caches x.mode) is in absurd (cc)
  grants q want new term (begins_caching none room unshared is t) c at =
      let of_file : q.file ≡ file = sym (ap (λ (x : Row). x.file) is) ∙ at in
      let k = found-row file host s.table.rows row found in
      let there : find_row q.file host s.table.rows ≡ Some row = subst (λ f. find_row f host s.table.rows ≡ Some row) (sym of_file) found in
      let nobody : find (shares q.file q.who.host) s.table.rows ≡ None = none-any (shares q.file q.who.host) s.table.rows unshared in
      by (host == q.who.host) refl there nobody (k.0 ∙ sym of_file) k.1
    where
      by : (b : Bool) → (host == q.who.host) ≡ b → find_row q.file host s.table.rows ≡ Some row → find (shares q.file q.who.host) s.table.rows ≡ None
          → row.file ≡ q.file → row.who.host ≡ host → HasCachingRow s.table.rows file new.who.host
      by true same there nobody f h = none-some row (sym none ∙ subst (λ n. find_row q.file n s.table.rows ≡ Some row) (same-number host q.who.host
          same) there)
      by false differs there nobody f h =
          let no : shares q.file q.who.host row ≡ false = find-none (shares q.file q.who.host) (is_row_of q.file host) row s.table.rows nobody there in
          let yes = shares-it q.file host q.who.host row f h (is-other host q.who.host differs) shared in
          absurd (cc)
  grants q want new term (renews_row own has quiet caching is t) c at =
      let k = found-row q.file q.who.host s.table.rows own has in
      let of_file : q.file ≡ file = sym k.0 ∙ sym (ap (λ (x : Row). x.file) is) ∙ at in
      let of_host : new.who.host ≡ q.who.host = ap (λ (x : Row). x.who.host) is ∙ k.1 in
      record {
        row = own;
        there = subst (λ h. find_row file h s.table.rows ≡ Some own) (sym of_host) (subst (λ f. find_row f q.who.host s.table.rows
            ≡ Some own) of_file has);
        caching = caching;
      }

  only-old : (sender next : ℕ) (d : Datagram) → OnlyOld (receive s sender next d).server.table.rows
  unfolding with_rows after_draw sharing_row
  only-old sender next d = server-moves s sender next d (λ kept phase table. OnlyOld table.rows) (record {
    stays = stays;
    decided = λ kept phase table who line inc same rest. rest;
    attaching = λ who later. host-dropped who.host;
    vacating = λ who f tag current. vacated who f tag (find_row f who.host s.table.rows);
    marking = λ f h access serves. marks f h access;
    marking_waiting = λ xid r who f want e wants asking none room. puts (marked f.id who.host (access_of (Some want)) s.table.rows) _
        (marks f.id who.host (access_of (Some want))) (λ c at. absurd (cc));
    granting = λ xid r who f want new term e wants asking none g. puts s.table.rows new stays (grants (to_read s who f (Some want)) want new term g);
    creating = λ name blocks serves can. stays;
    changing = λ who f new serves current at same none. stays;
    storing = λ who f new base own serves current at same can.
        let k = found-row f.id who.host s.table.rows own can.row_found in
        puts s.table.rows (record own { heard = s.now }) stays (λ c of_file. record {
          row = own;
          there = subst (λ h. find_row file h s.table.rows
              ≡ Some own) (sym k.1) (subst (λ g. find_row g who.host s.table.rows ≡ Some own) (sym k.0 ∙ of_file) can.row_found);
          caching = c;
        });
    storing_recovering = λ f new until heard last recovers at same. stays;
    removing = λ who f serves current at none. file-dropped f.id;
  })

pub shared-stay : SharedFilesStayShared
unfolding OnlyOld
shared-stay s sender next d file host row found shared other has = only-old s file host row found shared sender next d other has.row has.there has.caching

-- ---- who is put off

some-row : (f : Row → Row) (o : Option Row) (row : Row) → o ≡ Some row → option_map f o ≡ Some (f row)
some-row f o row is = ap (option_map f) is

-- whoever is put off has a row then, which does not let him cache, unless he had one before that did
record WaitsWith (before rows : List Row) (file host : ℕ) : Type 0 where
  row : Row
  there : find_row file host rows ≡ Some row
  kind : (caches row.mode ≡ false) ⊎ HasCachingRow before file host

module _ (table : Table) (q : Question) (want : Want) (wants : q.want ≡ Some want) (room : length table.rows < most_rows) where
  -- a row of the asker that was there
  kept-kind : (row r : Row) → find_row q.file q.who.host table.rows ≡ Some row → r.mode ≡ row.mode → (caches r.mode ≡ false)
      ⊎ HasCachingRow table.rows q.file q.who.host
  kept-kind row r is same = by (caches row.mode) refl
    where
      by : (b : Bool) → caches row.mode ≡ b → (caches r.mode ≡ false) ⊎ HasCachingRow table.rows q.file q.who.host
      by true e = inr (record { row = row; there = is; caching = e })
      by false e = inl (ap caches same ∙ e)

  abbrev rows_then : List Row
  rows_then = marked q.file q.who.host q.access table.rows

  marked-room : nat_lt (length rows_then) most_rows ≡ true
  marked-room = let same : length rows_then ≡ length table.rows = length-map table.rows (mark q.file q.who.host q.access) in
      is-less (length rows_then) most_rows (omega arith)
    where
      is-less : (a b : ℕ) → a < b → nat_lt a b ≡ true
      is-less a b less = grind (arith, nat_tests)

  waits : (own : Option Row) → find_row q.file q.who.host table.rows ≡ own → WaitsWith table.rows (with_waiting (with_rows table rows_then) q
      (Some want) own).rows q.file q.who.host
  unfolding with_rows after_draw sharing_row
  waits (Some row) is = record {
    row = mark q.file q.who.host q.access row;
    there = find-marked q.file q.who.host q.file q.who.host q.access
        table.rows ∙ some-row (mark q.file q.who.host q.access) _ row is;
    kind = kept-kind row (mark q.file q.who.host q.access row) is
        (mark-is q.file q.who.host q.access row).mode;
  }
  waits None is = choice (λ (t : Table). WaitsWith table.rows t.rows q.file q.who.host) (nat_lt (length rows_then) most_rows)
      (with_waiter table q want) (with_marked table q) (λ e. record {
        row = sharing_row (with_marked table q) q (term_of q want);
        there =
            find-put-same (sharing_row (with_marked table q) q (term_of q want)) rows_then;
        kind = inl refl;
      }) (λ e. let some = marked-room in absurd (cc))

  -- what is granted is not put off
  abbrev Waits : Clash → Reply → Type 0
  Waits clash r = r.asked ≡ Asked.TryLater clash → WaitsWith table.rows r.table.rows q.file q.who.host

  granted-waits : (clash : Clash) (row : Row) (term : ℕ) → Waits clash (granted table q row term)
  unfolding granted
  granted-waits clash row term e = absurd (cc)

  begins-waits : (clash : Clash) (v : Want) → Waits clash (begin table q v)
  unfolding no_lease
  begins-waits clash v =
      choice (Waits clash) (nat_lt (length table.rows) most_rows) (if list_any (shares q.file q.who.host) table.rows then granted table q
      (sharing_row table q (term_of q v)) (term_of q v) else granted table q (caching_row table q v.mode (term_of q v)) (term_of q v)) (no_lease table)
      (λ e. choice (Waits clash) (list_any (shares q.file q.who.host) table.rows) (granted table q (sharing_row table q (term_of q v)) (term_of q v))
      (granted table q (caching_row table q v.mode (term_of q v)) (term_of q v)) (λ f. granted-waits clash _ _) (λ f. granted-waits clash _ _))
      (λ e f. absurd (cc))

  own-waits : (clash : Clash) (v : Want) (own : Row) → find_row q.file q.who.host table.rows ≡ Some own → Waits clash (ask_for table q v (Some own))
  unfolding put_off_by_own
  own-waits clash v own is =
      choice (Waits clash) own.evicting (put_off_by_own table own) (if caches own.mode then renew table q v own else share_again table q own)
      (λ e f. record { row = own; there = is; kind = kept-kind own own is refl })
      (λ e. choice (Waits clash) (caches own.mode) (renew table q v own) (share_again table q own) (λ f. granted-waits clash _ _)
      (λ f. granted-waits clash _ _))

  freely-waits : (clash : Clash) (w : Option Want) (own : Option Row) → find_row q.file q.who.host table.rows ≡ own → Waits clash (ask_freely table q w own)
  unfolding free
  freely-waits clash None own is = λ e. absurd (cc)
  freely-waits clash (Some v) None is = begins-waits clash v
  freely-waits clash (Some v) (Some own) is = own-waits clash v own is

  past-waits : (clash : Clash) (o : Option Row) → Waits clash (ask_past table q o (find_row q.file q.who.host table.rows))
  unfolding put_off
  past-waits clash None = freely-waits clash q.want (find_row q.file q.who.host table.rows) refl
  past-waits clash (Some other) = λ e. subst (λ w. WaitsWith table.rows (with_waiting (with_rows table rows_then) q w (find_row q.file q.who.host
      table.rows)).rows q.file q.who.host) (sym wants) (waits (find_row q.file q.who.host table.rows) refl)

  -- whoever asks has a row

  Has : Reply → Type 0
  Has r = HasRow r.table.rows q.file q.who.host

  granted-has : (row : Row) (term : ℕ) → row.file ≡ q.file → row.who.host ≡ q.who.host → Has (granted table q row term)
  unfolding Has granted after_draw
  granted-has row term file host = record {
    row = row;
    there = subst (λ h. find_row q.file h (put_row row table.rows) ≡ Some row) host (subst (λ f. find_row f row.who.host (put_row row table.rows)
        ≡ Some row) file (find-put-same row table.rows));
  }

  begins-has : (v : Want) → Has (begin table q v)
  unfolding sharing_row caching_row
  begins-has v =
      choice Has (nat_lt (length table.rows) most_rows) (if list_any (shares q.file q.who.host) table.rows then granted table q
      (sharing_row table q (term_of q v)) (term_of q v) else granted table q (caching_row table q v.mode (term_of q v)) (term_of q v)) (no_lease table)
      (λ e. choice Has (list_any (shares q.file q.who.host) table.rows) (granted table q (sharing_row table q (term_of q v)) (term_of q v))
      (granted table q (caching_row table q v.mode (term_of q v)) (term_of q v)) (λ f. granted-has (sharing_row table q (term_of q v))
      (term_of q v) refl refl) (λ f. granted-has (caching_row table q v.mode (term_of q v)) (term_of q v) refl refl))
      (λ e. absurd (let full = is-not-below (length table.rows) most_rows e in omega arith))

  own-has : (v : Want) (own : Row) → find_row q.file q.who.host table.rows ≡ Some own → Has (ask_for table q v (Some own))
  unfolding Has put_off_by_own shared_again renewed_row
  own-has v own is =
      let k = found-row q.file q.who.host table.rows own is in
      choice Has own.evicting (put_off_by_own table own) (if caches own.mode then renew table q v own else share_again table q own)
      (λ e. record { row = own; there = is })
      (λ e. choice Has (caches own.mode) (renew table q v own) (share_again table q own) (λ f. granted-has _ _ k.0 k.1) (λ f. granted-has _ _ k.0 k.1))

  freely-has : (own : Option Row) → find_row q.file q.who.host table.rows ≡ own → Has (ask_freely table q (Some want) own)
  freely-has None is = begins-has want
  freely-has (Some own) is = own-has want own is

  past-has : (o : Option Row) → Has (ask_past table q o (find_row q.file q.who.host table.rows))
  unfolding Has put_off
  past-has None = subst (λ w. Has (ask_freely table q w (find_row q.file q.who.host table.rows))) (sym wants)
      (freely-has (find_row q.file q.who.host table.rows) refl)
  past-has (Some other) =
      let w = waits (find_row q.file q.who.host table.rows) refl in
      let has : HasRow (with_waiting (with_rows table rows_then) q (Some want) (find_row q.file q.who.host table.rows)).rows q.file q.who.host =
      record { row = w.row; there = w.there } in
      subst (λ v. HasRow (with_waiting (with_rows table rows_then) q v (find_row q.file q.who.host table.rows)).rows q.file q.who.host) (sym wants) has

pub asks-has-row : WhoAsksHasRow
unfolding Has
asks-has-row table q want wants room = past-has table q want wants room (find (conflicts q.file q.who.host q.access) table.rows)

pub put-off-shares : WhoIsPutOffShares
put-off-shares table q want clash wants room none e = by (past-waits table q want wants room clash (find (conflicts q.file q.who.host q.access) table.rows) e)
  where
    by : WaitsWith table.rows (ask table q).table.rows q.file q.who.host → HasSharingRow (ask table q).table.rows q.file q.who.host
    by w = which w.kind
      where
        which : (caches w.row.mode ≡ false) ⊎ HasCachingRow table.rows q.file q.who.host → HasSharingRow (ask table q).table.rows q.file q.who.host
        which (inl off) = record { row = w.row; there = w.there; sharing = off }
        which (inr caching) = absurd (none caching)
