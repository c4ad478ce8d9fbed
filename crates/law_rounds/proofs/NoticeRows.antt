-- The row that a notice names is marked as one that is to go.
use Rattle.std.proofs.Common.{◌≡◌, ◌≢◌, ◌≤◌, ◌⊎◌, ℕ, ◌+◌, ◌%◌, ◌==◌, ◌&&◌, ◌++◌, Bool, true, false, List, [], ◌∷◌, Some, if◌then◌else◌, length, refl}
use Rattle.std.proofs.Common.{sym, ap, subst, ◌∙◌, arith, inl, inr}
use Rattle.std.specs.List.{filter}
use Rattle.std.specs.Option.{option_map}
use Rattle.nq_base.specs.declared.Access.{Access}
use Rattle.nq_base.specs.declared.Refusal.{Refusal}
use Rattle.nq_base.specs.declared.Reply.{Reply as Answer}
use Rattle.nq_base.specs.declared.Request.{Request}
use Rattle.nq_base.specs.declared.Row.{Row}
use Rattle.nq_base.specs.declared.Tag.{Tag}
use Rattle.nq_base.specs.declared.Who.{Who}
use Rattle.nq_model.proofs.Finding.{number-other}
use Rattle.nq_model.specs.protocol.Ask.{conflicts, marked, sharing_row}
use Rattle.nq_model.specs.protocol.Decide.{in_the_way, decides, creates, writes_through, stores, stores_recovering, wrote, resizes, removes, puts_off, commits}
use Rattle.nq_model.specs.protocol.Message.{Message, Packet, Datagram, other_rpc, other_program, other_version, unknown_procedure, garbage, call, reply}
use Rattle.nq_model.specs.protocol.Profile.{xid_end}
use Rattle.nq_model.specs.protocol.Server.{Server, notices, to_host, after_notices, keeping, keeping_with, with_table, quiet, drops, says}
use Rattle.nq_model.specs.protocol.ServerStep.{access_of, attaches, vacates, tells_later, serves, leases, receive}
use Rattle.nq_model.specs.protocol.Table.{find_row, is_row_of, put_row, with_rows, after_draw}
use Rattle.nq_model.specs.laws.RowsStandApart.{HasOneRowEach}
use Rattle.walk_steps.proofs.Members.{in-filter, filter-in}
use Rattle.walk_steps.proofs.Packets.{In, in-append, in-get}
use Rattle.walk_steps.proofs.RowChanges.{mark, own-key, find-put, find-marked, mark-is, is-clash}
use Rattle.walk_steps.proofs.Rows.{found-row}
use Rattle.walk_steps.proofs.ServerCases.{server-hears}
use Rattle.walk_steps.proofs.ServerOutcomes.{error_for, wanted_by}
use Rattle.law_rounds.specs.NoticesMark.{IsToGo, NoticesMarkRows}

-- ---- rows that are members

some-there : {A : Type 0} (xs : List A) (x : A) → In xs x → 1 ≤ length xs
some-there [] x h = absurd h
some-there (y ∷ xs) x h = omega arith

-- a member is found under its key, where that key has one row at most
pub member-found : (file host : ℕ) (row : Row) (rows : List Row) → is_row_of file host row ≡ true → length (filter (is_row_of file host) rows) ≤ 1
    → In rows row → find_row file host rows ≡ Some row
member-found file host row [] own few h = absurd h
member-found file host row (r ∷ rows) own few h = here (is_row_of file host r) refl h few (λ less i. member-found file host row rows own less i)
  where
    here : (b : Bool) → is_row_of file host r ≡ b → (r ≡ row) ⊎ In rows row → length (if b then r ∷ filter (is_row_of file host) rows
        else filter (is_row_of file host) rows) ≤ 1 → (length (filter (is_row_of file host) rows) ≤ 1 → In rows row → find_row file host rows
        ≡ Some row) → (if b then Some r else find_row file host rows) ≡ Some row
    here true e (inl same) few rest = ap Some same
    here true e (inr i) few rest = let some = some-there (filter (is_row_of file host) rows) row (filter-in (is_row_of file host) rows row own i) in
        absurd (omega arith)
    here false e (inl same) few rest = let yes : is_row_of file host r ≡ true = ap (is_row_of file host) same ∙ own in absurd (cc)
    here false e (inr i) few rest = rest few i

-- ---- what notices name

record IsNoticed (rows : List Row) (p : Packet) : Type 0 where
  xid : ℕ
  row : Row
  member : In rows row
  is : p ≡ to_host row.who.host (call xid (Request.Evicted row.who row.file row.tag))

noticed-of : (xid : ℕ) (rows : List Row) (p : Packet) → In (notices xid rows) p → IsNoticed rows p
noticed-of xid [] p h = absurd h
noticed-of xid (row ∷ rows) p (inl e) = record { xid = xid; row = row; member = inl refl; is = sym e }
noticed-of xid (row ∷ rows) p (inr h) = let n = noticed-of ((xid + 1) % xid_end) rows p h in record {
  xid = n.xid;
  row = n.row;
  member = inr n.member;
  is = n.is;
}

-- whatever a packet names as a notice is to go
Told : List Row → Packet → Type 0
Told rows p = (host xid file : ℕ) (who : Who) (tag : Tag) → p ≡ to_host host (call xid (Request.Evicted who file tag)) → IsToGo rows who file tag

AllTold : List Row → List Packet → Type 0
AllTold rows ps = (p : Packet) → In ps p → Told rows p

told-none : (rows : List Row) → AllTold rows []
unfolding AllTold
told-none rows p h = absurd h

told-one : (rows : List Row) (q : Packet) → Told rows q → AllTold rows (q ∷ [])
unfolding AllTold
told-one rows q t p (inl e) = subst (λ z. Told rows z) e t
told-one rows q t p (inr h) = absurd h

told-both : (rows : List Row) (ps : List Packet) (q : Packet) → AllTold rows ps → Told rows q → AllTold rows (ps ++ q ∷ [])
unfolding AllTold
told-both rows ps q all t p h = by (in-append ps (q ∷ []) p h)
  where
    by : In ps p ⊎ In (q ∷ []) p → Told rows p
    by (inl i) = all p i
    by (inr i) = told-one rows q t p i

reply-told : (rows : List Row) (h x : ℕ) (a : Answer) → Told rows (to_host h (reply x a))
unfolding Told
reply-told rows h x a host xid file who tag e = let other : reply x a ≡ call xid (Request.Evicted who file tag) = ap (λ (p : Packet). p.message) e in
    absurd (cc)

-- an error is no call
error-no-call : (d : Datagram) (m : Message) (x : ℕ) (r : Request) → error_for d ≡ Some m → m ≡ call x r → ⊥
error-no-call (other_rpc xid) m x r e is = cc
error-no-call (other_program xid) m x r e is = cc
error-no-call (other_version xid) m x r e is = cc
error-no-call (unknown_procedure xid) m x r e is = cc
error-no-call (garbage xid) m x r e is = cc
error-no-call other m x r e is = cc

error-told : (rows : List Row) (h : ℕ) (d : Datagram) (m : Message) → error_for d ≡ Some m → Told rows (to_host h m)
unfolding Told
error-told rows h d m is host xid file who tag e = absurd (error-no-call d m xid (Request.Evicted who file tag) is (ap (λ (p : Packet). p.message) e))

-- a notice for a row that is to go
named-told : (rows : List Row) (row : Row) (xid : ℕ) (p : Packet) → p ≡ to_host row.who.host (call xid (Request.Evicted row.who row.file row.tag))
    → IsToGo rows row.who row.file row.tag → Told rows p
unfolding Told
named-told rows row xid p is go host x file who tag e =
    let same : call xid (Request.Evicted row.who row.file row.tag) ≡ call x (Request.Evicted who file tag) = ap (λ (q : Packet). q.message) (sym is ∙ e) in
    let a : row.who ≡ who = cc in
    let b : row.file ≡ file = cc in
    let c : row.tag ≡ tag = cc in
    subst (λ w. IsToGo rows w file tag) a (subst (λ f. IsToGo rows row.who f tag) b (subst (λ g. IsToGo rows row.who row.file g) c go))

module _ (s : Server) (each : HasOneRowEach s.table.rows) where
  -- the rows in the way, once they are marked
  clash-goes : (file host : ℕ) (access : Access) (row : Row) → In (in_the_way s file host access) row → IsToGo (marked file host access s.table.rows)
      row.who row.file row.tag
  clash-goes file host access row i =
      let m = in-filter (conflicts file host access) s.table.rows row i in
      let found = member-found row.file row.who.host row s.table.rows (own-key row) (each row.file row.who.host) m.0 in
      let same = mark-is file host access row in
      record {
        row = mark file host access row;
        there = find-marked row.file row.who.host file host access s.table.rows ∙ ap (option_map (mark file host access)) found;
        holder = same.who;
        latest = same.tag;
        going = rw m.1 refl;
      }

  notices-told : (xid file host : ℕ) (access : Access) → AllTold (marked file host access s.table.rows) (notices xid (in_the_way s file host access))
  unfolding AllTold
  notices-told xid file host access p h =
      let n = noticed-of xid (in_the_way s file host access) p h in
      named-told (marked file host access s.table.rows) n.row n.xid p n.is (clash-goes file host access n.row n.member)

  -- the same, once the asker's row was put
  put-goes : (rows : List Row) (new row : Row) → new.who.host ≢ row.who.host → IsToGo rows row.who row.file row.tag → IsToGo (put_row new rows)
      row.who row.file row.tag
  put-goes rows new row other go =
      let differs : (new.who.host == row.who.host) ≡ false = number-other new.who.host row.who.host other in
      let off : is_row_of row.file row.who.host new ≡ false = and-off (new.file == row.file) (new.who.host == row.who.host) differs in
      record {
        row = go.row;
        there = find-put row.file row.who.host new rows ∙ ap (λ b. if b then Some new else find_row row.file row.who.host rows)
            off ∙ go.there;
        holder = go.holder;
        latest = go.latest;
        going = go.going;
      }
    where
      and-off : (a b : Bool) → b ≡ false → (a && b) ≡ false
      and-off true b e = e
      and-off false b e = refl

  waiting-told : (xid file host : ℕ) (access : Access) (new : Row) → new.who.host ≡ host
      → AllTold (put_row new (marked file host access s.table.rows)) (notices xid (in_the_way s file host access))
  unfolding AllTold
  waiting-told xid file host access new own p h =
      let n = noticed-of xid (in_the_way s file host access) p h in
      let m = in-filter (conflicts file host access) s.table.rows n.row n.member in
      let clash = is-clash file host access n.row m.1 in
      named-told (put_row new (marked file host access s.table.rows)) n.row n.xid p n.is (put-goes (marked file host access s.table.rows) new n.row
      (λ e. clash.other (sym e ∙ own)) (clash-goes file host access n.row n.member))

  -- the asker's own row
  own-told : (xid file host : ℕ) (own : Row) → find_row file host s.table.rows ≡ Some own → own.evicting ≡ true → AllTold s.table.rows (notices xid (own ∷ []))
  own-told xid file host own found going =
      let k = found-row file host s.table.rows own found in
      let there : find_row own.file own.who.host s.table.rows ≡ Some own = subst (λ f. find_row f own.who.host s.table.rows ≡ Some own) (sym k.0)
      (subst (λ h. find_row file h s.table.rows ≡ Some own) (sym k.1) found) in
      told-one s.table.rows (to_host own.who.host (call xid (Request.Evicted own.who own.file own.tag))) (named-told s.table.rows own xid
      (to_host own.who.host (call xid (Request.Evicted own.who own.file own.tag))) refl (record {
        row = own;
        there = there;
        holder = refl;
        latest = refl;
        going = going;
      }))

  all-told : (sender next : ℕ) (d : Datagram) → AllTold (receive s sender next d).server.table.rows (receive s sender next d).sends
  unfolding quiet drops says attaches vacates serves leases tells_later decides creates writes_through stores stores_recovering wrote resizes removes
      puts_off commits after_notices keeping keeping_with with_table with_rows after_draw sharing_row
  all-told sender next d = server-hears s sender next d (λ t. AllTold t.server.table.rows t.sends) (record {
    stays = told-none _;
    dropping = λ reason. told-none _;
    erring = λ m e. told-one _ (to_host sender m) (error-told _ sender d m e);
    answers_null = λ xid e. told-one _ _ (reply-told _ sender xid Answer.Null);
    replying = λ xid who r a e by from plain. told-one _ _ (reply-told _ who.host xid a);
    attaching = λ xid who e from later. told-one _ _ (reply-told _ who.host xid (Answer.Attach who.inc));
    vacating = λ xid who file tag e current. told-none _;
    putting_off = λ xid who r f clash e by file asking c. told-both _ _ _ (notices-told s.notice f.id who.host (access_of (wanted_by r)))
        (reply-told _ who.host xid (Answer.Refused who.inc Refusal.TryLater));
    putting_off_waiting = λ xid who r f clash want e by file wants asking c own room. told-both _ _ _ (waiting-told s.notice f.id who.host
        (access_of (Some want)) _ refl) (reply-told _ who.host xid (Answer.Refused who.inc Refusal.TryLater));
    putting_off_by_own = λ xid who r f want own e by file wants asking c o evicting. told-both _ _ _ (own-told s.notice f.id who.host own o evicting)
        (reply-told _ who.host xid (Answer.Refused who.inc Refusal.TryLater));
    reading = λ xid who q block f body e asking there c. told-one _ _ (reply-told _ who.host xid _);
    reading_full = λ xid who q block want f body e asking there c own room. told-one _ _ (reply-told _ who.host xid _);
    reading_granted = λ xid who q block want f body row term e asking there c g. told-one _ _ (reply-told _ who.host xid _);
    leasing_full = λ xid who want f e asking c own room. told-one _ _ (reply-told _ who.host xid _);
    leasing = λ xid who want f row term e asking c g. told-one _ _ (reply-told _ who.host xid _);
    declining = λ xid who seq r verdict e by sq fresh declined. told-one _ _ (reply-told _ who.host xid _);
    putting_off_change = λ xid who seq r f clash e by sq file base changing c. told-both _ _ _ (notices-told s.notice f.id who.host Access.Write)
        (reply-told _ who.host xid _);
    creating = λ xid who seq blocks name e fresh serves can. told-one _ _ (reply-told _ who.host xid _);
    writing_through = λ xid who seq block first last body f e changing below c. told-one _ _ (reply-told _ who.host xid _);
    storing = λ xid who seq block first last base body f row e changing below can. told-one _ _ (reply-told _ who.host xid _);
    storing_recovering = λ xid who seq block first final base body f until heard last e fresh recovers found below boot rev. told-one _ _
        (reply-told _ who.host xid _);
    resizing = λ xid who seq q blocks f e changing can c. told-one _ _ (reply-told _ who.host xid _);
    removing = λ xid who seq q f e changing c. told-one _ _ (reply-told _ who.host xid _);
  })

pub notices-mark : NoticesMarkRows
unfolding AllTold Told
notices-mark s sender next d each i host xid file who tag sent =
    all-told s each sender next d (to_host host (call xid (Request.Evicted who file tag))) (in-get (receive s sender next d).sends i _ sent) host xid
    file who tag refl
