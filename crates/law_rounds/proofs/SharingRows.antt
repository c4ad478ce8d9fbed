-- A row that does not cache is taken by no datagram but a REMOVE of its file and an ATTACH of its host.
use Rattle.std.proofs.Common.{◌≡◌, ◌≢◌, ◌<◌, ℕ, ◌==◌, ◌&&◌, Bool, true, false, List, [], Option, Some, None, if◌then◌else◌, length, refl, sym, ap}
use Rattle.std.proofs.Common.{subst, ◌∙◌, arith}
use Rattle.std.specs.Option.{option_map}
use Rattle.std.specs.Prelude.{slice_get}
use Rattle.std.proofs.lemmas.Bool.{and_parts}
use Rattle.nq_base.specs.declared.Access.{Access}
use Rattle.nq_base.specs.declared.Mode.{Mode}
use Rattle.nq_base.specs.declared.Party.{Party}
use Rattle.nq_base.specs.declared.Question.{Question}
use Rattle.nq_base.specs.declared.Request.{Request}
use Rattle.nq_base.specs.declared.Row.{Row}
use Rattle.nq_base.specs.declared.Tag.{Tag}
use Rattle.nq_base.specs.declared.Want.{Want}
use Rattle.nq_base.specs.declared.Who.{Who}
use Rattle.nq_model.specs.protocol.Ask.{marked, sharing_row, caching_row, shared_again, renewed_row}
use Rattle.nq_model.specs.protocol.Client.{Client, ClientStep}
use Rattle.nq_model.specs.protocol.Decide.{decides, creates, writes_through, stores, stores_recovering, wrote, resizes, removes, puts_off, commits}
use Rattle.nq_model.specs.protocol.Hear.{hear}
use Rattle.nq_model.specs.protocol.Message.{Message, Packet, call, datagram_of}
use Rattle.nq_model.specs.protocol.Profile.{most_hosts}
use Rattle.nq_model.specs.protocol.Server.{Server, Phase, standing_in, serving, recovering, after_notices, keeping, keeping_with, with_table, quiet, drops}
use Rattle.nq_model.specs.protocol.Server.{says}
use Rattle.nq_model.specs.protocol.ServerStep.{access_of, to_read, attaches, vacates, vacated_rows, tells_later, serves, leases, receive}
use Rattle.nq_model.specs.protocol.Table.{Table, caches, is_writing, same_tag, find_row, is_row_of, drop_host, drop_rows_of, drop_row, put_row, with_rows}
use Rattle.nq_model.specs.protocol.Table.{after_draw}
use Rattle.nq_model.specs.protocol.World.{World, from_host, after_server, after_client, after_hearing, sending_host, deliver, deliver_to, deliver_to_client}
use Rattle.nq_model.specs.protocol.World.{run}
use Rattle.walk_steps.proofs.LeaseIntervals.{run-runs}
use Rattle.walk_steps.proofs.ClientMoves.{some-same, none-some}
use Rattle.walk_steps.proofs.Runs.{none-served}
use Rattle.walk_steps.proofs.ServerTables.{NoneRecovering}
use Rattle.walk_steps.proofs.Packets.{in-get}
use Rattle.walk_steps.proofs.Worlds.{IsSent, by_host, by_server, run-holds}
use Rattle.walk_steps.proofs.AskCases.{IsGranted, shares_again, begins_sharing, begins_caching, renews_row}
use Rattle.walk_steps.proofs.RowChanges.{mark, mark-is, find-marked, find-put, of-key, find-other-dropped, find-other-host-dropped, find-other-file-dropped}
use Rattle.walk_steps.proofs.Rows.{choice, found-row, same-number, number-same}
use Rattle.walk_steps.proofs.ServerCases.{server-hears}
use Rattle.walk_steps.proofs.TableFits.{TableFits}
use Rattle.law_rounds.specs.NamedRows.{by_vacated}
use Rattle.law_rounds.specs.SharingRows.{HasSharingRow, takes_row, SharingRowsStay, RowsToGoCache}
use Rattle.law_rounds.proofs.NamedRows.{named-rows}
use Rattle.law_rounds.proofs.Requests.{message-of}

-- ---- a row that is to go caches

pub rows-to-go : RowsToGoCache
rows-to-go most head events bounds within file host row found going = by (run head events).server.phase refl
  where
    no : caches row.mode ≡ false → TableFits (run head events).server.kept.files (run head events).server.table.boot
        (run head events).server.table.drawn (run head events).server.table.rows → ⊥
    no off fits = let calm = (fits.fits file host row found).calm off in let bad : true ≡ false = sym going ∙ calm in cc

    caching : (b : Bool) → caches row.mode ≡ b → TableFits (run head events).server.kept.files (run head events).server.table.boot
        (run head events).server.table.drawn (run head events).server.table.rows → caches row.mode ≡ true
    caching true e fits = e
    caching false e fits = absurd (no e fits)

    by : (phase : Phase) → (run head events).server.phase ≡ phase → caches row.mode ≡ true
    by serving e =
        let served = (run-runs most head events bounds within).served in
        caching (caches row.mode) refl (subst (λ ph. TableFits (run head events).server.kept.files (stands ph).boot (stands ph).drawn
        (stands ph).rows) e served.stood)
      where
        stands : Phase → Table
        stands ph = standing_in ph (run head events).server.table
    by (recovering until heard last) e =
        let served = (run-runs most head events bounds within).served in
        let empty : (run head events).server.table.rows ≡ [] = subst (λ ph. NoneRecovering ph (run head events).server.table) e
        (none-served most (run head events).server served) in
        none-some row (subst (λ rs. find_row file host rs ≡ Some row) empty found)

-- ---- what a datagram does to a row that does not cache

other-number : (a b : ℕ) → (a == b) ≡ false → a ≢ b
other-number a b e same = let yes : (a == b) ≡ true = number-same a b same in let bad : true ≡ false = sym yes ∙ e in cc

tag-same : (a b : Tag) → same_tag a b ≡ true → a ≡ b
tag-same a b e =
    let k = and_parts _ _ e in
    ap (λ n. record { boot = n; number = a.number }) (same-number a.boot b.boot k.0) ∙ ap (λ n. record { boot = b.boot; number = n })
    (same-number a.number b.number k.1)

module _ (s : Server) (file host : ℕ) (row : Row) (found : find_row file host s.table.rows ≡ Some row) (sharing : caches row.mode ≡ false) where
  Still : List Row → Type 0
  Still rows = HasSharingRow rows file host

  stays : Still s.table.rows
  unfolding Still
  stays = record { row = row; there = found; sharing = sharing }

  marks : (f by : ℕ) (access : Access) → Still (marked f by access s.table.rows)
  unfolding Still
  marks f by access = record {
    row = mark f by access row;
    there = find-marked file host f by access s.table.rows ∙ ap (option_map (mark f by access)) found;
    sharing = ap caches (mark-is f by access row).mode ∙ sharing;
  }

  -- a row is put: it is another one, or does not cache either
  puts : (new : Row) (rows : List Row) → Still rows → (is_row_of file host new ≡ true → caches new.mode ≡ false) → Still (put_row new rows)
  unfolding Still
  puts new rows still own = by (is_row_of file host new) refl
    where
      by : (b : Bool) → is_row_of file host new ≡ b → HasSharingRow (put_row new rows) file host
      by true e = record { row = new; there = find-put file host new rows ∙ ap (λ c. if c then Some new else find_row file host rows) e; sharing = own e }
      by false e = record {
        row = still.row;
        there = find-put file host new rows ∙ ap (λ c. if c then Some new else find_row file host rows) e
            ∙ still.there;
        sharing = still.sharing;
      }

  attached : (h : ℕ) → (h == host) ≡ false → Still (drop_host h s.table.rows)
  unfolding Still
  attached h differs = record {
    row = row;
    there = find-other-host-dropped file h host s.table.rows (λ e. other-number h host differs (sym e))
        ∙ found;
    sharing = sharing;
  }

  removed : (f : ℕ) → (f == file) ≡ false → Still (drop_rows_of f s.table.rows)
  unfolding Still
  removed f differs = record {
    row = row;
    there = find-other-file-dropped f host file s.table.rows (λ e. other-number f file differs (sym e)) ∙ found;
    sharing = sharing;
  }

  -- a row that is given up has a tag that was named
  vacated : (who : Who) (f : ℕ) (tag : Tag) → ((f ≡ file) → (who.host ≡ host) → row.tag ≡ tag → ⊥) → (o : Option Row)
      → find_row f who.host s.table.rows ≡ o → Still (vacated_rows who f tag s.table.rows o)
  unfolding Still
  vacated who f tag named None e = stays
  vacated who f tag named (Some own) e = choice Still (own.who.inc == who.inc && same_tag own.tag tag) (drop_row f who.host s.table.rows) s.table.rows
      (λ same. dropped (tag-same own.tag tag (and_parts _ _ same).1)) (λ differs. stays)
    where
      apart : own.tag ≡ tag → file ≡ f → host ≢ who.host
      apart same at here =
          let there : find_row f who.host s.table.rows ≡ Some row = subst (λ g. find_row g who.host s.table.rows ≡ Some row) at
          (subst (λ h. find_row file h s.table.rows ≡ Some row) here found) in
          let one : own ≡ row = some-same own row (sym e ∙ there) in
          named (sym at) (sym here) (ap (λ (x : Row). x.tag) (sym one) ∙ same)

      dropped : own.tag ≡ tag → HasSharingRow (drop_row f who.host s.table.rows) file host
      dropped same = record { row = row; there = find-other-dropped f who.host file host s.table.rows (apart same) ∙ found; sharing = sharing }

  granted : (q : Question) (want : Want) (new : Row) (term : ℕ) → IsGranted s.table q want new term → is_row_of file host new ≡ true → caches new.mode ≡ false
  unfolding shared_again sharing_row caching_row renewed_row
  granted q want new term (shares_again own has quiet alone is t) key = ap (λ (x : Row). caches x.mode) is ∙ alone
  granted q want new term (begins_sharing none room some is t) key = ap (λ (x : Row). caches x.mode) is
  granted q want new term (begins_caching none room unshared is t) key =
      let k = of-key file host new key in
      let f : q.file ≡ file = sym (ap (λ (x : Row). x.file) is) ∙ k.0 in
      let h : q.who.host ≡ host = sym (ap (λ (x : Row). x.who.host) is) ∙ k.1 in
      none-some row (sym none ∙ subst (λ n. find_row q.file n s.table.rows ≡ Some row) (sym h) (subst (λ g. find_row g host s.table.rows ≡ Some row)
      (sym f) found))
  granted q want new term (renews_row own has quiet caching is t) key =
      let k = of-key file host new key in
      let o = found-row q.file q.who.host s.table.rows own has in
      let f : q.file ≡ file = sym o.0 ∙ sym (ap (λ (x : Row). x.file) is) ∙ k.0 in
      let h : q.who.host ≡ host = sym o.1 ∙ sym (ap (λ (x : Row). x.who.host) is) ∙ k.1 in
      let there : find_row q.file q.who.host s.table.rows ≡ Some row = subst (λ n. find_row q.file n s.table.rows ≡ Some row) (sym h)
      (subst (λ g. find_row g host s.table.rows ≡ Some row) (sym f) found) in
      let one : own ≡ row = some-same own row (sym has ∙ there) in
      let no : caches own.mode ≡ false = ap (λ (x : Row). caches x.mode) one ∙ sharing in
      let bad : true ≡ false = sym caching ∙ no in
      absurd (cc)

  writes-other : (f h : ℕ) (own : Row) → find_row f h s.table.rows ≡ Some own → is_writing own.mode ≡ true → is_row_of file host own ≡ true → ⊥
  writes-other f h own has writing key =
      let k = of-key file host own key in
      let o = found-row f h s.table.rows own has in
      let there : find_row f h s.table.rows ≡ Some row = subst (λ n. find_row f n s.table.rows ≡ Some row) (sym k.1 ∙ o.1)
      (subst (λ g. find_row g host s.table.rows ≡ Some row) (sym k.0 ∙ o.0) found) in
      let one : own ≡ row = some-same own row (sym has ∙ there) in
      no-both row.mode (ap (λ (x : Row). is_writing x.mode) (sym one) ∙ writing) sharing
    where
      no-both : (m : Mode) → is_writing m ≡ true → caches m ≡ false → ⊥
      no-both Mode.NonCaching w c = let bad : false ≡ true = w in cc
      no-both Mode.Reading w c = let bad : false ≡ true = w in cc
      no-both Mode.Writing w c = let bad : true ≡ false = c in cc

  received : (sender next : ℕ) (m : Message) → takes_row file host m ≡ false → ((xid : ℕ) (who : Who) (f : ℕ) (tag : Tag)
      → m ≡ call xid (Request.Vacated who f tag) → who.host ≡ sender → who.host < most_hosts → f ≡ file → who.host ≡ host → row.tag ≡ tag → ⊥)
      → Still (receive s sender next (datagram_of m)).server.table.rows
  unfolding quiet drops says attaches vacates serves leases tells_later decides creates writes_through stores stores_recovering wrote resizes removes
      puts_off commits after_notices keeping keeping_with with_table with_rows after_draw sharing_row
  received sender next m keeps named = server-hears s sender next (datagram_of m) (λ t. Still t.server.table.rows) (record {
    stays = stays;
    dropping = λ reason. stays;
    erring = λ e is. stays;
    answers_null = λ xid e. stays;
    replying = λ xid who r a e by from plain. stays;
    attaching = λ xid who e from later. attached who.host (sym (ap (takes_row file host) (message-of m xid (Request.Attach who) e)) ∙ keeps);
    vacating = λ xid who f tag e current. vacated who f tag (named xid who f tag (message-of m xid (Request.Vacated who f tag) e) current.from.host
        current.from.possible) (find_row f who.host s.table.rows) refl;
    putting_off = λ xid who r f clash e by at asking c. marks f.id who.host _;
    putting_off_waiting = λ xid who r f clash want e by at wants asking c own room. puts _ (marked f.id who.host (access_of (Some want)) s.table.rows)
        (marks f.id who.host (access_of (Some want))) (λ key. refl);
    putting_off_by_own = λ xid who r f want own e by at wants asking c o evicting. stays;
    reading = λ xid who q block f body e asking there c. stays;
    reading_full = λ xid who q block want f body e asking there c own room. stays;
    reading_granted = λ xid who q block want f body new term e asking there c g. puts new s.table.rows stays (granted (to_read s who f (Some want))
        want new term g);
    leasing_full = λ xid who want f e asking c own room. stays;
    leasing = λ xid who want f new term e asking c g. puts new s.table.rows stays (granted (to_read s who f (Some want)) want new term g);
    declining = λ xid who seq r verdict e by sq fresh declined. stays;
    putting_off_change = λ xid who seq r f clash e by sq at base changing c. marks f.id who.host Access.Write;
    creating = λ xid who seq blocks name e fresh serves can. stays;
    writing_through = λ xid who seq block first last body f e changing below c. stays;
    storing = λ xid who seq block first last base body f own e changing below can. puts (record own { heard = s.now }) s.table.rows stays
        (λ key. absurd (writes-other f.id who.host own can.row_found can.writes key));
    storing_recovering = λ xid who seq block first final base body f until heard last e fresh recovers at below boot rev. stays;
    resizing = λ xid who seq q blocks f e changing can c. stays;
    removing = λ xid who seq q f e changing c. removed f.id (sym (ap (takes_row file host) (message-of m xid (Request.Remove who seq q f.id) e)) ∙ keeps);
  })

-- ---- in every run

after-hearing-rows : (w : World) (h : ℕ) (o : Option ClientStep) → (after_hearing w h o).server.table.rows ≡ w.server.table.rows
unfolding after_client
after-hearing-rows w h None = refl
after-hearing-rows w h (Some t) = refl

client-rows : (w : World) (k h : ℕ) (m : Message) (o : Option Client) → (deliver_to_client w k h m o).server.table.rows ≡ w.server.table.rows
client-rows w k h m None = refl
client-rows w k h m (Some c) = after-hearing-rows w h (hear c k m)

after-rows : (w : World) (file host sender : ℕ) (p : Packet) → HasSharingRow (receive w.server sender (length w.packets)
    (datagram_of p.message)).server.table.rows file host → HasSharingRow (after_server w (receive w.server sender (length w.packets)
    (datagram_of p.message))).server.table.rows file host
unfolding after_server
after-rows w file host sender p has = has

pub sharing-rows : SharingRowsStay
unfolding Still
sharing-rows most head events bounds within file host k p sent keeps has = subst (λ o. HasSharingRow (deliver (run head events) k o).server.table.rows
    file host) (sym sent) (by p.to)
  where
    w : World
    w = run head events

    going : (xid : ℕ) (who : Who) (f : ℕ) (tag : Tag) → p.message ≡ call xid (Request.Vacated who f tag) → who.host ≡ sending_host p.sender → who.host
        < most_hosts → f ≡ file → who.host ≡ host → has.row.tag ≡ tag → ⊥
    going xid who f tag is from possible at here same = named ((run-holds head events).sent p (in-get (run head events).packets k p sent))
      where
        told : p ≡ from_host host (call xid (Request.Vacated who file has.row.tag)) → ⊥
        told e =
            let to_go = named-rows most head events bounds within file host has.row (by_vacated k xid who (sent ∙ ap Some e)) has.there in
            let caching = rows-to-go most head events bounds within file host has.row has.there to_go in
            let bad : true ≡ false = sym caching ∙ has.sharing in
            cc

        named : IsSent p → ⊥
        named (by_server h m e) = let far : sending_host p.sender ≡ most_hosts = ap (λ (q : Packet). sending_host q.sender) e in omega arith
        named (by_host h x r v e by) =
            let one : h ≡ host = sym (ap (λ (q : Packet). sending_host q.sender) e) ∙ sym from ∙ here in
            let message : call x r ≡ call xid (Request.Vacated who f tag) = sym (ap (λ (q : Packet). q.message) e) ∙ is in
            told (e ∙ ap (λ n. from_host n (call x r)) one ∙ ap (from_host host) message
            ∙ ap (λ g. from_host host (call xid (Request.Vacated who g tag))) at
            ∙ ap (λ g. from_host host (call xid (Request.Vacated who file g))) (sym same))

    by : (to : Party) → HasSharingRow (deliver_to (run head events) k p to).server.table.rows file host
    by Party.Server = after-rows (run head events) file host (sending_host p.sender) p (received (run head events).server file host has.row has.there
        has.sharing (sending_host p.sender) (length (run head events).packets) p.message keeps going)
    by (Party.Client h) = subst (λ rs. HasSharingRow rs file host)
        (sym (client-rows (run head events) k h p.message (slice_get (run head events).clients h))) has
