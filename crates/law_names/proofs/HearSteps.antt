-- A host hears, or asks for a list: what holds of every outer world is kept.
use Rattle.std.proofs.Common.{◌≡◌, ◌<◌, ◌≤◌, ◌^◌, ◌⊎◌, ℕ, ◌+◌, Bool, true, false, not, nat_lt, List, [], ◌∷◌, ◌++◌, Option, Some, None, if◌then◌else◌}
use Rattle.std.proofs.Common.{length, refl, sym, subst, ap, ◌∙◌, arith, inl, inr}
use Rattle.std.specs.Prelude.{⊤, All, slice_get, slice_set}
use Rattle.std.proofs.lemmas.List.Elements.{All-head, All-tail}
use Rattle.nq_base.specs.declared.Call.{Call}
use Rattle.nq_base.specs.declared.Event.{Event}
use Rattle.nq_base.specs.declared.Grant.{Grant}
use Rattle.nq_base.specs.declared.Party.{Party}
use Rattle.nq_directory.specs.declared.FileName.{FileName}
use Rattle.nq_directory.specs.Prefix.{directory}
use Rattle.nq_directory.specs.declared.listing.messages.DirTag.{DirTag}
use Rattle.nq_directory.specs.declared.listing.messages.ReadDir.{ReadDir}
use Rattle.nq_directory.specs.Messages.{Answer, IsEntry, Listing, page, wait, dir_vacated_bytes}
use Rattle.nq_wire.specs.Parts.{IsTag}
use Rattle.nq_directory.specs.Reading.{dir_evicted_in, dir_vacated_in, read_dir_in, told_in}
use Rattle.nq_model.specs.protocol.Client.{UnderWay}
use Rattle.nq_model.specs.protocol.Hear.{granted_lease}
use Rattle.nq_model.specs.protocol.Profile.{same_bytes}
use Rattle.nq_model.specs.protocol.Stepped.{most_events}
use Rattle.nq_model.specs.protocol.Table.{same_who}
use Rattle.nq_model.specs.protocol.World.{World}
use Rattle.nq_directory.specs.Asking.{Asks, asks_behind, cleared, evicted, gives_up, goes_on, grown, heard, heard_as, heard_by, is_later, last_id}
use Rattle.nq_directory.specs.Asking.{lease_by, lists_dir, noticed, request_of, silent, takes_page, told, vacated_of, with_page, with_room}
use Rattle.nq_directory.specs.NameCacheNames.{DirList, Names, Request, empty_list, forgets, list_of, most_lists, number_after, other_lists}
use Rattle.nq_name_server.specs.Served.{Served}
use Rattle.nq_name_server.specs.Outer.{Outer}
use Rattle.nq_name_server.specs.Outside.{beside, is_change, is_changing}
use Rattle.walk_steps.proofs.ClientMoves.{some-same, none-some}
use Rattle.walk_steps.proofs.Packets.{In, in-append, in-last}
use Rattle.law_names.proofs.Chains.{WasDrawn}
use Rattle.law_names.proofs.Claims.{AskedFor, GaveUp, IsClaimed, IsForgotten, ListFits, ToldTo}
use Rattle.law_names.proofs.Codec.{IsCodec, IsGiving, IsNoticing, IsSame, IsTold}
use Rattle.law_names.proofs.HostMoves.{AreKept, KeepsFewer, fewer-fits, forgets-fewer, forgotten, page-ends, page-goes-on, still-forgotten}
use Rattle.law_names.proofs.HostSteps.{AreFrom, asking-inv, grown-fits, host-inv, silent-inv, told-before}
use Rattle.law_names.proofs.OuterFits.{Inv, IsBeside, IsSide, asking, giving, ground, noticing, telling}
use Rattle.law_names.proofs.ServedMoves.{filtered-in}

-- what a host sends, as packets
abbrev pub sending : (host : ℕ) → Option (List ℕ) → List Outer
sending host None = []
sending host (Some bytes) = beside (Party.Client host) Party.Server bytes ∷ []

-- the entries of what is told are ones
abbrev HasEntries : Answer → Type 0
HasEntries (page l) = All IsEntry l.names
HasEntries wait = ⊤

module _ (codec : IsCodec) (w : World) (served : Served) (sides : List Names) (sent : List Outer) (ran : List Event) (bound : ℕ) (standing : Served)
    (inv : Inv w served sides sent ran bound standing) (host : ℕ) (n : Names) (mine : slice_get sides host ≡ Some n) (short : bound ≤ most_events)
    (here : (inv.hosts host n mine).client.who.host ≡ host) (words : (n.who.host < 2 ^ 32) × (n.who.inc < 2 ^ 32)) (kept : AreKept w.server.kept.files) where
  abbrev own : IsSide w standing sent ran bound host n
  own = inv.hosts host n mine

  abbrev now : ℕ
  now = own.client.now

  -- what is kept after the host made this of what it heard
  abbrev After : Asks → Type 0
  After a = Inv w served (slice_set sides host a.names) (sent ++ sending host a.sends) ran (bound + 1) standing

  silent-after : (after : Names) → after.who ≡ n.who → after.next ≡ n.next → KeepsFewer n after → After (silent after)
  silent-after after who next k =
      silent-inv w served sides sent ran bound standing inv host n mine after who next
      (fewer-fits (ground w standing sent ran) host now n after k own.fits)
      (λ u is. still-forgotten n after u.call k (own.calls u is)) (λ r is. k.asked r is)

  same-after : After (silent n)
  same-after = silent-after n refl refl (record { who = refl; lists = λ l i. i; asked = λ r is. is })

  forgets-request : After (silent (record n { asked = None }))
  forgets-request = silent-after (record n { asked = None }) refl refl (record { who = refl; lists = λ l i. i; asked = λ r is. none-some r is })

  -- ---- a list is given up

  module _ (t : DirTag) (fits : IsNoticing t) (drawn : WasDrawn standing t.tag) where
    given-up : IsGiving (vacated_of n t)
    given-up = codec.gives (vacated_of n t) (record { prefix = fits.prefix; tag = fits.tag })

    abbrev packet : Outer
    packet = beside (Party.Client host) Party.Server (dir_vacated_bytes (vacated_of n t))

    abbrev after : Names
    after = record (forgets t.prefix n) { next = number_after n.next }

    fewer : KeepsFewer n after
    fewer = let k = forgets-fewer t.prefix n in record { who = refl; lists = k.lists; asked = k.asked }

    from : AreFrom host (packet ∷ [])
    from = record { to = λ q i. to q i; sender = λ q i. sender q i; beside = λ q i. alone q i } where
      to : (q : Outer) → (packet ≡ q) ⊎ ⊥ → q.to ≡ Party.Server
      to q (inl e) = ap (λ x. x.to) (sym e)
      to q (inr bad) = absurd bad

      sender : (q : Outer) → (packet ≡ q) ⊎ ⊥ → q.sender ≡ Party.Client host
      sender q (inl e) = ap (λ x. x.sender) (sym e)
      sender q (inr bad) = absurd bad

      alone : (q : Outer) → (packet ≡ q) ⊎ ⊥ → q.is ≡ None
      alone q (inl e) = ap (λ x. x.is) (sym e)
      alone q (inr bad) = absurd bad

    -- what was given up before, or now
    gave : (v : DirTag) → GaveUp (sent ++ packet ∷ []) host v → GaveUp sent host v ⊎ (given-up.given ≡ v)
    gave v g = step (in-append sent (packet ∷ []) g.packet g.there)
      where
        new : (q : Outer) → (packet ≡ q) ⊎ ⊥ → dir_vacated_in q.bytes ≡ Some v → given-up.given ≡ v
        new q (inl e) reads = some-same given-up.given v (sym given-up.reads ∙ ap (λ x. dir_vacated_in x.bytes) e ∙ reads)
        new q (inr bad) reads = absurd bad

        step : In sent g.packet ⊎ ((packet ≡ g.packet) ⊎ ⊥) → GaveUp sent host v ⊎ (given-up.given ≡ v)
        step (inl i) = inl (record { packet = g.packet; there = i; sender = g.sender; beside = g.beside; no_request = g.no_request; reads = g.reads })
        step (inr i) = inr (new g.packet i g.reads)

    same-claim : (prefix : List ℕ) → IsClaimed after prefix → IsClaimed (forgets t.prefix n) prefix
    same-claim prefix (inl c) = inl c
    same-claim prefix (inr c) = inr c

    older : (prefix : List ℕ) → IsClaimed after prefix → (v : DirTag) → GaveUp (sent ++ packet ∷ []) host v → v.prefix ≡ prefix → GaveUp sent host v
    older prefix claimed v g of = step (gave v g)
      where
        step : GaveUp sent host v ⊎ (given-up.given ≡ v) → GaveUp sent host v
        step (inl old) = old
        step (inr one) =
            let on : prefix ≡ t.prefix = sym of ∙ ap (λ x. x.prefix) (sym one) ∙ given-up.prefix in
            absurd (forgotten t.prefix n (subst (λ x. IsClaimed (forgets t.prefix n) x) on (same-claim prefix claimed)))

    asked-old : (r : ReadDir) → AskedFor (sent ++ packet ∷ []) host r → AskedFor sent host r
    asked-old r a = step (in-append sent (packet ∷ []) a.packet a.there)
      where
        new : (q : Outer) → (packet ≡ q) ⊎ ⊥ → read_dir_in q.bytes ≡ Some r → AskedFor sent host r
        new q (inl e) reads = none-some r (sym given-up.no_request ∙ ap (λ x. read_dir_in x.bytes) e ∙ reads)
        new q (inr bad) reads = absurd bad

        step : In sent a.packet ⊎ ((packet ≡ a.packet) ⊎ ⊥) → AskedFor sent host r
        step (inl i) = record { packet = a.packet; there = i; sender = a.sender; beside = a.beside; reads = a.reads }
        step (inr i) = new a.packet i a.reads

    one-more : number_after n.next ≡ n.next + 1
    one-more = let k = own.next in omega arith

    drawn-tag : (v : DirTag) → GaveUp sent host v ⊎ (given-up.given ≡ v) → WasDrawn standing v.tag
    drawn-tag v (inl old) = inv.gave host v old
    drawn-tag v (inr one) = subst (WasDrawn standing) (sym given-up.tag ∙ ap (λ x. x.tag) one) drawn

    of-packet : (q : Outer) → (packet ≡ q) ⊎ ⊥ → IsBeside standing q
    of-packet q (inl e) = giving host (vacated_of n t) (record { prefix = fits.prefix; tag = fits.tag }) drawn (sym e)
    of-packet q (inr bad) = absurd bad

    gives-after : After (gives_up n t)
    gives-after = host-inv w served sides sent ran bound standing inv host n mine (packet ∷ []) after (record {
      who = refl;
      fits = grown-fits w served sides sent ran bound standing inv host n mine (packet ∷ []) after from older
          (fewer-fits (ground w standing sent ran) host now n after fewer own.fits);
      calls = λ u is. still-forgotten n after u.call fewer (own.calls u is);
      mail = record {
        asked = λ r a.
            let o = own.mail.asked r (asked-old r a) in
            record {
              who = o.who;
              inc = o.inc;
              below = λ e. let low = o.below e in let one = one-more in omega arith;
              mine = λ q is e same. o.mine q (fewer.asked q is) e same;
              fits = o.fits;
            };
        told = λ xid inc a x.
            let o = own.mail.told xid inc a (told-before host sent (packet ∷ []) from host xid inc a x) in
            (o.0, λ e. let low = o.1 e in let one = one-more in omega arith);
      };
      next = let k = own.next in let one = one-more in omega arith;
      behind = λ q is. own.after q (fewer.asked q is);
      from = from;
      besides = of-packet;
      gave = λ v g. drawn-tag v (gave v g);
    })

  -- ---- a notice

  module _ (p : Outer) (there : In sent p) (to : p.to ≡ Party.Client host) (alone : p.is ≡ None) where
    no-server : Party.Server ≡ Party.Client host → ⊥
    no-server e = cc

    -- a notice that is read is one that was sent
    record WasNoticed (t : DirTag) : Type 0 where
      fits : IsNoticing t
      drawn : WasDrawn standing t.tag

    was-noticed : (t : DirTag) → dir_evicted_in p.bytes ≡ Some t → IsBeside standing p → WasNoticed t
    was-noticed t reads (asking h r fits who is) = absurd (no-server (sym (ap (λ x. x.to) is) ∙ to))
    was-noticed t reads (giving h v fits drawn is) = absurd (no-server (sym (ap (λ x. x.to) is) ∙ to))
    was-noticed t reads (telling h xid inc a low small fits is) =
        none-some t (sym (codec.tells_no_notice xid inc a low small fits) ∙ ap (λ x. dir_evicted_in x.bytes) (sym is) ∙ reads)
    was-noticed t reads (noticing h v fits drawn is) =
        let k = codec.notices v fits in
        let one : k.told ≡ t = some-same k.told t (sym k.reads ∙ ap (λ x. dir_evicted_in x.bytes) (sym is) ∙ reads) in
        let prefix : v.prefix ≡ t.prefix = sym k.prefix ∙ ap (λ x. x.prefix) one in
        let tag : v.tag ≡ t.tag = sym k.tag ∙ ap (λ x. x.tag) one in
        record {
          fits = record { prefix = subst (λ x. length x ≤ 64) prefix fits.prefix; tag = subst (λ x. IsTag x) tag fits.tag };
          drawn = subst (WasDrawn standing) tag drawn;
        }

    either : (b : Bool) (a c : Asks) → After a → After c → After (if b then a else c)
    either true a c h k = h
    either false a c h k = k

    noticed-after : (o : Option DirTag) → dir_evicted_in p.bytes ≡ o → After (noticed n o)
    noticed-after None e = same-after
    noticed-after (Some t) e =
        let k = was-noticed t e (inv.besides p there alone) in
        either (same_who t.who n.who) (evicted n t) (silent n)
        (either (is_later t.tag (lease_by t.prefix (list_of t.prefix n.lists) n.asked)) (silent n) (gives_up n t) same-after (gives-after t k.fits k.drawn))
        same-after

    -- ---- a reply

    has-entries : (a b : Answer) → IsTold a → IsSame a b → HasEntries b
    has-entries (page l) (page m) fits same = subst (All IsEntry) (sym same.0) fits.names
    has-entries wait wait fits same = tt
    has-entries (page l) wait fits same = tt
    has-entries wait (page m) fits same = absurd same

    was-told : (xid inc : ℕ) (a : Answer) → told_in xid inc p.bytes ≡ Some a → IsBeside standing p → HasEntries a
    was-told xid inc a reads (asking h r fits who is) = absurd (no-server (sym (ap (λ x. x.to) is) ∙ to))
    was-told xid inc a reads (giving h v fits drawn is) = absurd (no-server (sym (ap (λ x. x.to) is) ∙ to))
    was-told xid inc a reads (telling h x i b low small fits is) =
        let k = codec.tells xid inc x i b a low small fits (ap (λ q. told_in xid inc q.bytes) (sym is) ∙ reads) in
        has-entries b a fits k.2
    was-told xid inc a reads (noticing h v fits drawn is) =
        none-some a (sym ((codec.notices v fits).untold xid inc) ∙ ap (λ x. told_in xid inc x.bytes) (sym is) ∙ reads)

    last-small : (after : ℕ) (names : List FileName) → after < 2 ^ 32 → All IsEntry names → last_id after names < 2 ^ 32
    last-small first [] low each = low
    last-small first (e ∷ es) low each = last-small e.file es (All-head IsEntry e es each).0 (All-tail IsEntry e es each)

    claims-forgotten : (m : Names) (call : Call) → ((prefix : List ℕ) → IsClaimed m prefix → IsClaimed n prefix) → IsForgotten n call → IsForgotten m call
    claims-forgotten m (Call.Create name blocks) less h = λ c. h (less (directory name) c)
    claims-forgotten m (Call.Remove file) less h = λ prefix c. h prefix (less prefix c)
    claims-forgotten m other less h = tt

    module _ (r : Request) (asked : n.asked ≡ Some r) (term : ℕ) where
      module _ (l : Listing) (reads : told_in r.xid n.who.inc p.bytes ≡ Some (page l)) (g : Grant) (has : l.grant ≡ Some g)
          (on : goes_on r.part (Some g) ≡ true) where
        told-to : ToldTo sent host r.xid n.who.inc (page l)
        told-to = record { packet = p; there = there; to = to; beside = alone; reads = reads }

        abbrev part : DirList
        part = with_page r.part r.sent g l.names

        behind : (last_id r.after l.names < 2 ^ 32) × (length r.part.prefix ≤ 64)
        behind =
            let b = own.after r asked in
            (last-small r.after l.names b.0 (was-told r.xid n.who.inc (page l) reads (inv.besides p there alone)), b.1)

        abbrev next-request : Request
        next-request = record { xid = n.next; after = last_id r.after l.names; sent = now; part = part }

        goes-claims : (prefix : List ℕ) → IsClaimed (record n { next = number_after n.next; asked = Some next-request }) prefix → IsClaimed n prefix
        goes-claims prefix (inl c) = inl c
        goes-claims prefix (inr c) = inr (r, asked, ap (λ x. x.part.prefix) (some-same next-request c.0 c.1) ∙ c.2)

        goes-after : After (asks_behind n part (last_id r.after l.names) term now)
        unfolding granted_lease
        goes-after =
            asking-inv w served sides sent ran bound standing inv host n mine codec short here n (request_of n part.prefix (last_id r.after l.names) term)
            next-request refl refl own.fits.lists
            (record {
              xid = let k = own.next in omega arith;
              host = words.0;
              inc = words.1;
              prefix = behind.1;
              after = behind.0;
            })
            refl refl refl refl refl refl
            (r.sent, page-goes-on (ground w standing sent ran) host n now kept own.fits r l g asked told-to has on)
            (λ u is. claims-forgotten (record n { next = number_after n.next; asked = Some next-request }) u.call goes-claims (own.calls u is))

        abbrev whole : Names
        whole = record n { lists = n.lists ++ part ∷ []; asked = None }

        whole-claims : (prefix : List ℕ) → IsClaimed whole prefix → IsClaimed n prefix
        whole-claims prefix (inl c) = step (in-last n.lists part c.0 c.1)
          where
            step : In n.lists c.0 ⊎ (part ≡ c.0) → IsClaimed n prefix
            step (inl old) = inl (c.0, old, c.2)
            step (inr one) = inr (r, asked, ap (λ x. x.prefix) one ∙ c.2)
        whole-claims prefix (inr c) = none-some c.0 c.1

        module _ (ends : l.more ≡ false) where
          new-list : ListFits (ground w standing sent ran) host n.who now part
          unfolding granted_lease
          new-list = record {
            lease = granted_lease 0 g r.sent;
            has = refl;
            asked = r.sent;
            expires = refl;
            good = page-ends (ground w standing sent ran) host n now kept own.fits r l g asked told-to has on ends;
          }

          whole-lists : (x : DirList) → In (n.lists ++ part ∷ []) x → ListFits (ground w standing sent ran) host n.who now x
          whole-lists x i = step (in-last n.lists part x i)
            where
              step : In n.lists x ⊎ (part ≡ x) → ListFits (ground w standing sent ran) host n.who now x
              step (inl old) = own.fits.lists x old
              step (inr one) = subst (ListFits (ground w standing sent ran) host n.who now) one new-list

          whole-after : After (silent whole)
          whole-after =
              silent-inv w served sides sent ran bound standing inv host n mine whole refl refl
              (record { lists = whole-lists; part = λ q is. none-some q is; pages = λ q x y is t grant z. none-some q is })
              (λ u is. claims-forgotten whole u.call whole-claims (own.calls u is)) (λ q is. none-some q is)

        more-after : (more : Bool) → l.more ≡ more → After (grown n r part (last_id r.after l.names) more term now)
        more-after true e = goes-after
        more-after false e = whole-after e

      takes-after : (l : Listing) → told_in r.xid n.who.inc p.bytes ≡ Some (page l) → (o : Option Grant) → l.grant ≡ o → After (takes_page n r l o term now)
      takes-after l reads None has = forgets-request
      takes-after l reads (Some g) has = by (goes_on r.part (Some g)) refl
        where
          by : (b : Bool) → goes_on r.part (Some g) ≡ b
              → After (if b then grown n r (with_page r.part r.sent g l.names) (last_id r.after l.names) l.more term now
              else silent (record n { asked = None }))
          by true on = more-after l reads g has on l.more refl
          by false off = forgets-request

      told-after : (a : Answer) → told_in r.xid n.who.inc p.bytes ≡ Some a → After (told n r a term now)
      told-after (page l) reads = takes-after l reads l.grant refl
      told-after wait reads = forgets-request

      reply-after : (o : Option Answer) → told_in r.xid n.who.inc p.bytes ≡ o → After (heard_by n r p.bytes o term now)
      reply-after None e = noticed-after (dir_evicted_in p.bytes) refl
      reply-after (Some a) e = told-after a e

    pub heard-after : (term : ℕ) → After (heard n p.bytes term now)
    heard-after term = by n.asked refl
      where
        by : (o : Option Request) → n.asked ≡ o → After (heard_as n o p.bytes term now)
        by None e = noticed-after (dir_evicted_in p.bytes) refl
        by (Some r) e = reply-after r e term (told_in r.xid n.who.inc p.bytes) refl

  -- ---- a list is asked for

  in-room : (l : DirList) (lists : List DirList) → In (with_room lists) l → In lists l
  in-room l lists i = by (nat_lt (length lists) most_lists) i
    where
      by : (b : Bool) → In (if b then lists else []) l → In lists l
      by true i = i
      by false i = absurd i

  not-changing : (m : Names) (o : Option UnderWay) → is_changing o ≡ false → (u : UnderWay) → o ≡ Some u → IsForgotten m u.call
  not-changing m None e u is = none-some u is
  not-changing m (Some v) e u is = plain u.call (ap (λ x. is_change x.call) (sym (some-same v u is)) ∙ e)
    where
      plain : (c : Call) → is_change c ≡ false → IsForgotten m c
      plain (Call.Create name blocks) h = absurd (cc)
      plain (Call.Remove file) h = absurd (cc)
      plain other h = tt

  pub lists-after : (prefix : List ℕ) (term : ℕ) → length prefix ≤ 64 → is_changing own.client.call ≡ false → After (lists_dir n prefix term now)
  lists-after prefix term fits idle =
      asking-inv w served sides sent ran bound standing inv host n mine codec short here (cleared prefix n) (request_of (cleared prefix n) prefix 0 term)
      (record { xid = n.next; after = 0; sent = now; part = empty_list prefix }) refl refl
      (λ l i. own.fits.lists l (filtered-in (λ x. not (same_bytes x.prefix prefix)) l n.lists (in-room l (other_lists prefix n.lists) i)))
      (record { xid = let k = own.next in omega arith; host = words.0; inc = words.1; prefix = fits; after = omega arith })
      refl refl refl refl refl refl (refl, refl)
      (λ u is. not-changing (record (cleared prefix n) {
        next = number_after n.next;
        asked = Some (record {
          xid = n.next;
          after = 0;
          sent = now;
          part = empty_list prefix;
        });
      })
      own.client.call idle u is)
