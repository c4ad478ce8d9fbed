-- What a request at a server that serves leaves of hopes, and of the rows in the way of calls.
use Rattle.std.proofs.Common.{◌≡◌, ◌≢◌, ◌≤◌, ◌⊎◌, ℕ, ◌==◌, ◌++◌, Bool, true, false, List, ◌∷◌, Some, None, refl, sym, subst, ap, ◌∙◌, inl, inr}
use Rattle.std.specs.Prelude.{slice_get}
use Rattle.nq_base.specs.declared.Call.{Call}
use Rattle.nq_base.specs.declared.Mode.{Mode}
use Rattle.nq_base.specs.declared.Reply.{Reply}
use Rattle.nq_base.specs.declared.Request.{Request}
use Rattle.nq_base.specs.declared.Row.{Row}
use Rattle.nq_base.specs.declared.Want.{Want}
use Rattle.nq_model.specs.laws.RowsStandApart.{WritesAlone}
use Rattle.nq_model.specs.protocol.Ask.{mode_conflicts}
use Rattle.nq_model.specs.protocol.Client.{Client, Ticket, UnderWay}
use Rattle.nq_model.specs.protocol.Hear.{inc_of}
use Rattle.nq_model.specs.protocol.Message.{Packet, call, reply}
use Rattle.nq_model.specs.protocol.Server.{to_host}
use Rattle.nq_model.specs.protocol.Table.{caches, is_writing, greater_mode, find_row}
use Rattle.nq_model.specs.protocol.World.{from_host}
use Rattle.walk_steps.proofs.ClientMoves.{some-same, none-some}
use Rattle.walk_steps.proofs.Packets.{In, in-right, not-both}
use Rattle.walk_steps.proofs.Rows.{same-number, number-same}
use Rattle.nq_laws.proofs.Hope.{file_of_call, access_of_call, conflict-caches, Hopeful, IsWished, by_read, by_write, Hoped, Goes, told, Passes, goes}
use Rattle.nq_laws.proofs.Hope.{hoped, InWay, Clear, safe-none}
use Rattle.nq_laws.proofs.Asking.{Caller, IsOff, Fate, all_on, off, fate, goes-on, only-own as alone-own}
use Rattle.nq_laws.proofs.Served.{IsStill, IsWant, RowFrom, stays, shares, begins, renews, OnlyStays, Outcome, quiet, by_own, by_others, IsServed}
use Rattle.nq_laws.proofs.Served.{Fits, read_fits, write_fits, Wanting, by_call, by_renewal}

-- what is known of the host that asked, and of the rows
pub record Asker (rows : List Row) (clients : List Client) (ys : List Packet) (b x : ℕ) (r : Request) (c : Client) : Type 0 where
  pub caller : Caller rows b x r c
  pub alone : WritesAlone rows
  pub wants : (f : ℕ) (want : Want) → IsWant r f want → Wanting rows b c f want
  -- where it wants a lease, no reply to the request under way is there
  pub unreplied : (f : ℕ) (want : Want) → IsWant r f want → (t : Ticket) (a : Reply) → c.ticket ≡ Some t → In ys (to_host b (reply t.xid a))
      → inc_of a ≡ c.who.inc → ⊥

module _ (rows after : List Row) (clients : List Client) (y : Packet) (ys more : List Packet) (b x : ℕ) (r : Request) (c : Client)
    (at : slice_get clients b ≡ Some c) (is : y ≡ from_host b (call x r)) (served : IsServed rows after more b c.who x r)
    (a : Asker rows clients ys b x r c) where
  not-told : (h : ℕ) (m : _) → y ≡ to_host h m → ⊥
  not-told h m e = not-both b h (call x r) m (sym is ∙ e)

  own-client : (d : Client) → slice_get clients b ≡ Some d → c ≡ d
  own-client d there = some-same c d (sym at ∙ there)

  only-own : (h : ℕ) → Hopeful clients (y ∷ ys) h → h ≡ b → c.call ≡ None → ⊥
  only-own = alone-own rows after clients y ys more b x r c at is served a.caller

  still-goes : (f h : ℕ) (was row : Row) → find_row f h rows ≡ Some was → IsStill was row → find_row f h after ≡ Some row → Goes clients (y ∷ ys) f h was
      → Goes clients (ys ++ more) f h row
  still-goes = goes-on rows after clients y ys more b x r c at is served a.caller.holder

  wished-same : (u : UnderWay) (f : ℕ) (m n : Mode) → n ≡ m → IsWished u f m → IsWished u f n
  wished-same u f m n e w = subst (IsWished u f) (sym e) w

  -- who is put off holds no row that he hoped for
  none-hoped : IsOff rows after more b c → (f : ℕ) (was : Row) → find_row f b rows ≡ Some was → caches was.mode ≡ true → Hoped clients (y ∷ ys) f b was → ⊥
  none-hoped o f was found kind k = by k.wished
    where
      one : k.hope.under ≡ o.u
      one = some-same k.hope.under o.u (sym k.hope.opened ∙ ap (λ (z : Client). z.call) (sym (own-client k.hope.client k.hope.at)) ∙ o.opened)

      call-is : (op : Call) → k.hope.under.call ≡ op → o.u.call ≡ op
      call-is op e = ap (λ (v : UnderWay). v.call) (sym one) ∙ e

      on : (op : Call) → o.u.call ≡ op → file_of_call op ≡ Some f → f ≡ o.f
      on op e file = some-same f o.f (sym file ∙ ap file_of_call (sym e) ∙ o.file)

      clash-at : f ≡ o.f → find_row f o.ch rows ≡ Some o.clash
      clash-at e = subst (λ g. find_row g o.ch rows ≡ Some o.clash) (sym e) o.way.found

      by : IsWished k.hope.under f was.mode → ⊥
      by (by_read block e) =
          let here = call-is (Call.Read f block) e in
          let there = clash-at (on (Call.Read f block) here refl) in
          let writes : is_writing o.clash.mode ≡ true = subst (λ z. mode_conflicts z o.clash.mode ≡ true) (ap access_of_call here) o.way.conflicts in
          let no : caches was.mode ≡ false = a.alone f o.ch b o.clash was there found (λ same. o.way.other (sym same)) writes in
          cc
      by (by_write block body e writes) =
          let here = call-is (Call.Write f block body) e in
          let there = clash-at (on (Call.Write f block body) here refl) in
          let some : caches o.clash.mode ≡ true = conflict-caches (access_of_call o.u.call) o.clash.mode o.way.conflicts in
          let no : caches o.clash.mode ≡ false = a.alone f b o.ch was o.clash found there o.way.other writes in
          cc

  -- a row that stays passes still
  passes-on : (going : Bool) → Fate rows after clients y ys more b c → (f h : ℕ) (was row : Row) → find_row f h rows ≡ Some was → caches was.mode ≡ true
      → IsStill was row → find_row f h after ≡ Some row → Passes going clients (y ∷ ys) f h was → Passes going clients (ys ++ more) f h row
  passes-on going fate f h was row found kind s there (goes may to_go way) = goes may (s.evicts to_go) (still-goes f h was row found s there way)
  passes-on going (all_on on) f h was row found kind s there (hoped k) = hoped (record {
    hope = on h k.hope;
    wished = wished-same
        (on h k.hope).under f was.mode row.mode s.mode (same-wish k (on h k.hope));
  })
    where
      same-wish : (k : Hoped clients (y ∷ ys) f h was) (n : Hopeful clients (ys ++ more) h) → IsWished n.under f was.mode
      same-wish k n = let one : k.hope.under ≡ n.under = some-same k.hope.under n.under (sym k.hope.opened
          ∙ ap (λ (z : Client). z.call) (some-same k.hope.client n.client (sym k.hope.at ∙ n.at)) ∙ n.opened) in subst (λ u. IsWished u f was.mode)
          one k.wished
  passes-on going (off others o) f h was row found kind s there (hoped k) = whose (h == b) refl
    where
      same-wish : (n : Hopeful clients (ys ++ more) h) → IsWished n.under f was.mode
      same-wish n = let one : k.hope.under ≡ n.under = some-same k.hope.under n.under (sym k.hope.opened
          ∙ ap (λ (z : Client). z.call) (some-same k.hope.client n.client (sym k.hope.at ∙ n.at)) ∙ n.opened) in subst (λ u. IsWished u f was.mode)
          one k.wished

      whose : (e : Bool) → (h == b) ≡ e → Passes going clients (ys ++ more) f h row
      whose true e =
          let same : h ≡ b = same-number h b e in
          absurd (none-hoped o f was (subst (λ n. find_row f n rows ≡ Some was) same found) kind (subst (λ n. Hoped clients (y ∷ ys) f n was) same k))
      whose false e =
          let n = others h (λ same. let yes : (h == b) ≡ true = number-same h b same in absurd (cc)) k.hope in
          hoped (record { hope = n; wished = wished-same n.under f was.mode row.mode s.mode (same-wish n) })

  -- ---- a row that is granted

  -- who asks for a lease for its call hopes, before and after
  asker-hopes : (f : ℕ) (want : Want) → IsWant r f want → (u : UnderWay) → c.call ≡ Some u → c.pause ≤ c.now → Hopeful clients (y ∷ ys) b
  asker-hopes f want w u opened unpaused = record {
    client = c;
    under = u;
    at = at;
    opened = opened;
    unpaused = unpaused;
    safe = λ t asks. inr (
      (λ o. not-told b _ o.is),
      safe-none b c t ys (λ z i o. a.unreplied f want w t (Reply.Refused c.who.inc o.status) asks (subst
          (λ p. In ys p) o.is i) refl),
    );
  }

  greater-writing : (m : Mode) → is_writing (greater_mode m Mode.Writing) ≡ true
  greater-writing Mode.NonCaching = refl
  greater-writing Mode.Reading = refl
  greater-writing Mode.Writing = refl

  fits-wish : (u : UnderWay) (f : ℕ) (want : Want) (m : Mode) → (want.mode ≡ Mode.Writing → is_writing m ≡ true) → Fits u f want → IsWished u f m
  fits-wish u f want m writes (read_fits block e) = by_read block e
  fits-wish u f want m writes (write_fits block body e mode) = by_write block body e (writes mode)

  on-for-asker : (f : ℕ) (want : Want) → IsWant r f want → ((h : ℕ) → Hopeful clients (y ∷ ys) h → Hopeful clients (ys ++ more) h) → (u : UnderWay)
      → c.call ≡ Some u → c.pause ≤ c.now → Fits u f want → (m : Mode) → (want.mode ≡ Mode.Writing → is_writing m ≡ true) → (row : Row) → row.mode ≡ m
      → Hoped clients (ys ++ more) f b row
  on-for-asker f want w on u opened unpaused fit m writes row kind =
      let n = on b (asker-hopes f want w u opened unpaused) in
      let one : u ≡ n.under = some-same u n.under (sym opened ∙ ap (λ (z : Client). z.call) (own-client n.client n.at) ∙ n.opened) in
      record { hope = n; wished = subst (IsWished n.under f) (sym kind) (subst (λ v. IsWished v f m) one (fits-wish u f want m writes fit)) }

  -- ---- what is in the way

  module _ (going : Bool) (host : ℕ) (before : Clear going rows clients (y ∷ ys) host) where
    old : (d : Client) (u : UnderWay) (f : ℕ) → slice_get clients host ≡ Some d → d.call ≡ Some u → file_of_call u.call ≡ Some f → (h : ℕ) (was row : Row)
        → find_row f h rows ≡ Some was → h ≢ host → row.mode ≡ was.mode → mode_conflicts (access_of_call u.call) row.mode ≡ true
        → Passes going clients (y ∷ ys) f h was
    old d u f there opened file h was row found apart kind c = before d u f there opened file h was (record {
      found = found;
      other = apart;
      conflicts =
          subst (λ m. mode_conflicts (access_of_call u.call) m ≡ true) kind c;
    })

    still : Fate rows after clients y ys more b c → (d : Client) (u : UnderWay) (f : ℕ) → slice_get clients host ≡ Some d → d.call ≡ Some u
        → file_of_call u.call ≡ Some f → (h : ℕ) (row : Row) → InWay after host f (access_of_call u.call) h row → (was : Row)
        → find_row f h rows ≡ Some was → IsStill was row → Passes going clients (ys ++ more) f h row
    still fate d u f there opened file h row w was found s =
        passes-on going fate f h was row found (conflict-caches (access_of_call u.call) was.mode (subst (λ m. mode_conflicts
        (access_of_call u.call) m ≡ true) s.mode w.conflicts)) s w.found
        (old d u f there opened file h was row found w.other s.mode w.conflicts)

    shared-not : (u : UnderWay) (row : Row) → mode_conflicts (access_of_call u.call) row.mode ≡ true → caches row.mode ≡ false → ⊥
    shared-not u row w e = let yes = conflict-caches (access_of_call u.call) row.mode w in cc

    from-all : ((h : ℕ) → Hopeful clients (y ∷ ys) h → Hopeful clients (ys ++ more) h) → ((f h : ℕ) (row : Row) → find_row f h after ≡ Some row
        → RowFrom rows b r f h row) → Clear going after clients (ys ++ more) host
    from-all on from d u f there opened file h row w = by (from f h row w.found)
      where
        at-host : h ≡ b → Hoped clients (ys ++ more) f b row → Passes going clients (ys ++ more) f h row
        at-host same k = hoped (subst (λ n. Hoped clients (ys ++ more) f n row) (sym same) k)

        begun : (want : Want) → h ≡ b → IsWant r f want → find_row f h rows ≡ None → row.mode ≡ want.mode → Wanting rows b c f want
            → Passes going clients (ys ++ more) f h row
        begun want same wants none kind (by_call v called unpaused fit) = at-host same (on-for-asker f want wants on v called unpaused fit want.mode
            (λ e. ap is_writing e) row kind)
        begun want same wants none kind (by_renewal idle own found mode) = none-some own (sym (subst (λ n. find_row f n rows ≡ None) same none) ∙ found)

        renewed : (want : Want) (own : Row) → h ≡ b → IsWant r f want → find_row f h rows ≡ Some own → own.evicting ≡ false
            → row.mode ≡ greater_mode own.mode want.mode → Wanting rows b c f want → Passes going clients (ys ++ more) f h row
        renewed want own same wants found quiet_row kind (by_call v called unpaused fit) = at-host same (on-for-asker f want wants on v called unpaused fit
            (greater_mode own.mode want.mode) (λ e. subst (λ m. is_writing (greater_mode own.mode m) ≡ true) (sym e) (greater-writing own.mode)) row kind)
        renewed want own same wants found quiet_row kind (by_renewal idle that at_b mode) =
            let one : own ≡ that = some-same own that (sym (subst (λ n. find_row f n rows ≡ Some own) same found) ∙ at_b) in
            let kept : row.mode ≡ own.mode = kind ∙ subst (λ (z : Row). greater_mode z.mode want.mode ≡ z.mode) (sym one) mode in
            which (old d u f there opened file h own row found w.other kept w.conflicts)
          where
            which : Passes going clients (y ∷ ys) f h own → Passes going clients (ys ++ more) f h row
            which (goes may to_go way) = absurd (cc)
            which (hoped k) = absurd (only-own h k.hope same idle)

        by : RowFrom rows b r f h row → Passes going clients (ys ++ more) f h row
        by (stays was found s) = still (all_on on) d u f there opened file h row w was found s
        by (shares e) = absurd (shared-not u row w.conflicts e)
        by (begins want same wants none kind) = begun want same wants none kind (a.wants f want wants)
        by (renews want own same wants found not_going kind) = renewed want own same wants found not_going kind (a.wants f want wants)

    from-stays : Fate rows after clients y ys more b c → OnlyStays rows after → Clear going after clients (ys ++ more) host
    from-stays fated only d u f there opened file h row w = by (only f h row w.found)
      where
        by : ((was : Row) × (find_row f h rows ≡ Some was) × IsStill was row) ⊎ (caches row.mode ≡ false) → Passes going clients (ys ++ more) f h row
        by (inl s) = still fated d u f there opened file h row w s.0 s.1 s.2
        by (inr e) = absurd (shared-not u row w.conflicts e)

  -- what was clear stays so
  same-rows : after ≡ rows → OnlyStays rows after
  same-rows e f h row found = inl (row, subst (λ rs. find_row f h rs ≡ Some row) e found, record { who = refl; mode = refl; tag = refl; evicts = λ z. z })

  pub clear-on : (going : Bool) (host : ℕ) → Clear going rows clients (y ∷ ys) host → Clear going after clients (ys ++ more) host
  clear-on going host before = by (fate rows after clients y ys more b x r c at is served a.caller) served.outcome
    where
      by : Fate rows after clients y ys more b c → Outcome rows after more b c.who x r → Clear going after clients (ys ++ more) host
      by (off others o) outcome = from-stays going host before (off others o) o.only
      by (all_on on) (quiet never from) = from-all going host before on from
      by (all_on on) (by_own f n own wants found sends same) = from-stays going host before (all_on on) (same-rows same)
      by (all_on on) (by_others f ch clash way_file way each only) = from-stays going host before (all_on on) only

  -- who was put off has a clear way from then on
  pub off-clear : IsOff rows after more b c → Clear true after clients (ys ++ more) b
  off-clear o d u f there opened file h row w =
      let one : o.u ≡ u = some-same o.u u (sym o.opened ∙ ap (λ (z : Client). z.call) (own-client d there) ∙ opened) in
      let same : o.f ≡ f = some-same o.f f (sym o.file ∙ ap (λ (v : UnderWay). file_of_call v.call) one ∙ file) in
      let at_f : InWay after b o.f (access_of_call u.call) h row = subst (λ g. InWay after b g (access_of_call u.call) h row) (sym same) w in
      let t = o.told_all h row (subst (λ (v : UnderWay). InWay after b o.f (access_of_call v.call) h row) (sym one) at_f) in
      goes refl t.0 (told t.1 (in-right ys more _ (subst (λ g. In more (to_host h (call t.1 (Request.Evicted row.who g row.tag)))) same t.2)))

  -- where no row goes, whoever holds a row in the way of one who is put off hopes on
  pub off-hope : ((h : ℕ) → h ≢ b → Hopeful clients (y ∷ ys) h → Hopeful clients (ys ++ more) h) → IsOff rows after more b c
      → Clear false rows clients (y ∷ ys) b → (h : ℕ) × Hopeful clients (ys ++ more) h
  off-hope others o before = by (before c o.u o.f at o.opened o.file o.ch o.clash o.way)
    where
      by : Passes false clients (y ∷ ys) o.f o.ch o.clash → (h : ℕ) × Hopeful clients (ys ++ more) h
      by (goes may to_go way) = absurd (cc)
      by (hoped k) = (o.ch, others o.ch o.way.other k.hope)
