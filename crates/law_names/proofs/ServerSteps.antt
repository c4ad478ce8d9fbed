-- What comes to the server beside the inner world keeps what holds of every outer world.
use Rattle.std.proofs.Common.{◌≡◌, ◌≤◌, ◌⊎◌, ℕ, zero, suc, ◌+◌, ◌==◌, Bool, true, false, List, [], ◌∷◌, ◌++◌, Option, Some, None, if◌then◌else◌}
use Rattle.std.proofs.Common.{length, take, nat_lt, refl, sym, subst, ap, ◌∙◌, arith, inl, inr}
use Rattle.std.specs.Prelude.{All, slice_get}
use Rattle.std.specs.List.{filter}
use Rattle.std.proofs.lemmas.Bool.{and_from}
use Rattle.std.proofs.lemmas.List.Elements.{All-cons, All-head, All-nil, All-tail}
use Rattle.nq_base.specs.declared.Event.{Event}
use Rattle.nq_base.specs.declared.Grant.{Grant}
use Rattle.nq_base.specs.declared.Party.{Party}
use Rattle.nq_base.specs.declared.Tag.{Tag}
use Rattle.nq_base.specs.declared.Who.{Who}
use Rattle.nq_directory.specs.declared.listing.messages.DirTag.{DirTag}
use Rattle.nq_directory.specs.declared.listing.messages.ReadDir.{ReadDir}
use Rattle.nq_directory.specs.Messages.{Answer, IsEntry, IsReadDir, Listing, page, wait, most_names}
use Rattle.nq_wire.specs.Parts.{IsTag}
use Rattle.nq_directory.specs.Reading.{told_in}
use Rattle.nq_directory.specs.declared.FileName.{FileName}
use Rattle.nq_model.specs.protocol.Change.{IsFileWithin}
use Rattle.nq_model.specs.protocol.Kept.{File, host_row}
use Rattle.nq_model.specs.laws.LeaseInterval.{cover_end}
use Rattle.nq_model.specs.protocol.Profile.{granted_term, most_ids}
use Rattle.nq_model.specs.protocol.Server.{Phase, serving, recovering}
use Rattle.nq_model.specs.protocol.Skew.{ticks_of}
use Rattle.nq_model.specs.protocol.Stepped.{most_events}
use Rattle.nq_model.specs.protocol.Table.{Table}
use Rattle.nq_model.specs.protocol.World.{Head, World}
use Rattle.nq_directory.specs.Asking.{is_reading}
use Rattle.nq_directory.specs.NameCacheNames.{Names, Request}
use Rattle.nq_name_server.specs.Served.{Leaf, Served, is_behind, leaf_behind, names_behind, names_of, number_of}
use Rattle.nq_name_server.specs.Serving.{Serves, ToHost, gives_up, holds_as, holds_up, puts_off, reads_dir, vacates}
use Rattle.nq_name_server.specs.Outer.{Outer}
use Rattle.nq_name_server.specs.Outside.{beside}
use Rattle.walk_steps.proofs.ClientMoves.{none-some}
use Rattle.walk_steps.proofs.Clocks.{moment-past}
use Rattle.walk_steps.proofs.Packets.{In}
use Rattle.walk_steps.proofs.Incarnations.{who-same}
use Rattle.walk_steps.proofs.Rows.{number-same}
use Rattle.law_names.proofs.Chains.{Chained, HasFit, IsServed, Leads, WasDrawn, number-in, same-leads}
use Rattle.law_names.proofs.Claims.{AskedFor, GaveUp, IsLeaf, Outlasts, PageFits, ToldTo}
use Rattle.law_names.proofs.Codec.{IsCodec, IsSame, IsTelling}
use Rattle.law_names.proofs.InnerRuns.{IsKnown}
use Rattle.law_names.proofs.OuterFits.{Inv, IsBeside, IsNew, IsSide, Stands, ground, noticing, telling}
use Rattle.law_names.proofs.ServedMoves.{HeldServed, IsNotice, holds-served, vacates-served}
use Rattle.law_names.proofs.ServedReads.{IsGiven, IsSaid, ReadServed, later, leaf_told, notice, reads-served}
use Rattle.law_names.proofs.ServedSteps.{AreServed, gave-served, served-inv}

-- ---- datagrams to hosts, as packets

abbrev pub packets_of : List ToHost → List Outer
packets_of [] = []
packets_of (d ∷ ds) = beside Party.Server (Party.Client d.host) d.bytes ∷ packets_of ds

record IsOf (ds : List ToHost) (p : Outer) : Type 0 where
  datagram : ToHost
  there : In ds datagram
  is : p ≡ beside Party.Server (Party.Client datagram.host) datagram.bytes

is-of : (ds : List ToHost) (p : Outer) → In (packets_of ds) p → IsOf ds p
is-of [] p i = absurd i
is-of (d ∷ ds) p (inl same) = record { datagram = d; there = inl refl; is = sym same }
is-of (d ∷ ds) p (inr i) = let k = is-of ds p i in record { datagram = k.datagram; there = inr k.there; is = k.is }

are-served : (ds : List ToHost) → AreServed (packets_of ds)
are-served ds = record {
  sender = λ p i. ap (λ x. x.sender) (is-of ds p i).is;
  beside = λ p i. ap (λ x. x.is) (is-of ds p i).is;
}

who-is : (a b : Who) → a.host ≡ b.host → a.inc ≡ b.inc → a ≡ b
who-is a b host inc = who-same a b (and_from (a.host == b.host) (a.inc == b.inc) (number-same a.host b.host host) (number-same a.inc b.inc inc))

client-same : (a b : ℕ) → Party.Client a ≡ Party.Client b → a ≡ b
client-same a b e = cc

-- ---- entries

entries-fit : (next : ℕ) (q : File → Bool) (files : List File) → next ≤ most_ids → All (IsFileWithin next) files → All IsEntry (names_of (filter q files))
entries-fit next q [] low each = All-nil IsEntry
entries-fit next q (f ∷ files) low each = by (q f)
    (entries-fit next q files low (All-tail (IsFileWithin next) f files each)) (All-head (IsFileWithin next) f files each)
  where
    by : (b : Bool) → All IsEntry (names_of (filter q files)) → IsFileWithin next f → All IsEntry (names_of (if b then f ∷ filter q files else filter q files))
    by true rest fits = All-cons IsEntry (record { file = f.id; name = f.name }) (names_of (filter q files)) (
      let b = fits.below_next in omega arith,
      fits.name,
    ) rest
    by false rest fits = rest

taken-fit : (k : ℕ) (es : List FileName) → All IsEntry es → All IsEntry (take k es)
taken-fit zero es each = All-nil IsEntry
taken-fit (suc k) [] each = All-nil IsEntry
taken-fit (suc k) (e ∷ es) each = All-cons IsEntry e (take k es) (All-head IsEntry e es each) (taken-fit k es (All-tail IsEntry e es each))

taken-few : (k : ℕ) (es : List FileName) → length (take k es) ≤ k
taken-few zero es = omega arith
taken-few (suc k) [] = omega arith
taken-few (suc k) (e ∷ es) = let h = taken-few k es in omega arith

module _ (codec : IsCodec) (most : ℕ) (head : Head) (w : World) (served : Served) (sides : List Names) (sent : List Outer) (ran : List Event) (bound : ℕ)
    (standing : Served) (inv : Inv w served sides sent ran bound standing) (known : IsKnown most head w ran) (short : bound ≤ most_events)
    (here : (host : ℕ) (n : Names) → slice_get sides host ≡ Some n → n.who.host ≡ host) where
  -- the leases that stand while the server serves
  serving-same : w.server.phase ≡ serving → standing ≡ served
  serving-same p = subst (λ x. Stands x served standing) p inv.stands

  -- a tag of this boot is within its fields
  tag-fits : (tag : Tag) → tag.boot ≡ served.table.boot → tag.number ≤ bound + 1 → IsTag tag
  tag-fits tag boot number =
      let b = inv.boot in
      let g = known.within.grew.boots in
      let f = known.few in
      record { boot = omega arith; number = omega arith }

  -- ---- a READDIRLOOK while the server serves

  module _ (host : ℕ) (r : ReadDir) (asks : AskedFor sent host r) (fits : IsReadDir r) (own : r.who.host ≡ host) (inc : r.who.inc
      ≡ (host_row w.server.kept host).inc)
      (p : w.server.phase ≡ serving) where
    one : standing ≡ served
    one = serving-same p

    fits-served : IsServed served
    fits-served = subst IsServed one inv.fits

    abbrev leaf : Leaf
    leaf = leaf_behind r.prefix r.after w.server.kept.files

    abbrev x : Serves
    x = reads_dir served r (leaf_behind r.prefix r.after w.server.kept.files)

    k : ReadServed served r leaf x
    k = reads-served served r leaf fits-served

    leaf-entries : All IsEntry leaf.names
    leaf-entries =
        taken-fit most_names (names_behind r.prefix r.after w.server.kept.files)
        (entries-fit w.server.kept.next (is_behind r.prefix r.after) w.server.kept.files known.within.within.few_ids known.within.within.files)

    term-low : (g : Grant) → g.term ≡ granted_term served.longest r.term → g.term ≤ w.server.longest
    term-low g is =
        let l = inv.longest in
        let long = known.within.long in
        omega arith

    telling-fits : (g : Option Grant) → ((y : Grant) → g ≡ Some y → is_reading y.mode ≡ true → IsGiven served x.served r y)
        → IsTelling (record { names = leaf.names; more = leaf.more; grant = g })
    telling-fits g given = record {
      few = taken-few most_names (names_behind r.prefix r.after w.server.kept.files);
      names = leaf-entries;
      grant = λ y has reads.
          let v = given y has reads in
          let t = term-low y v.short in
          let s = known.within.short in
          let d = inv.drawn.1 in
          let tag = v.tag.1 in
          let since = v.chain.1 in
          let rev = v.plain.0 in
          let blocks = v.plain.1 in
          record {
            term = omega arith;
            tag = tag-fits y.tag v.tag.0 (omega arith);
            since = tag-fits y.since v.chain.0 (omega arith);
            rev = omega arith;
            blocks = omega arith;
          };
    }

    -- what is said is one of the packets beside the others
    said-beside : (d : ToHost) (q : Outer) → IsSaid served x.served r leaf d → q ≡ beside Party.Server (Party.Client d.host) d.bytes → IsBeside x.served q
    said-beside d q (notice row is drawn boot number) of =
        noticing row.who.host (record { xid = served.notice; who = row.who; prefix = r.prefix; tag = row.tag })
        (record { prefix = fits.prefix; tag = tag-fits row.tag boot (let b = inv.drawn.1 in omega arith) }) drawn
        (of ∙ ap (λ y. beside Party.Server (Party.Client y.host) y.bytes) is)
    said-beside d q (later is) of =
        telling r.who.host r.xid r.who.inc wait fits.xid fits.who.inc tt (of ∙ ap (λ y. beside Party.Server (Party.Client y.host) y.bytes) is)
    said-beside d q (leaf_told g is given) of =
        telling r.who.host r.xid r.who.inc (page (record { names = leaf.names; more = leaf.more; grant = g })) fits.xid fits.who.inc (telling-fits g given)
        (of ∙ ap (λ y. beside Party.Server (Party.Client y.host) y.bytes) is)

    -- what is told is told to the one who asked
    record WasTold (h number of : ℕ) (a : Answer) : Type 0 where
      to : h ≡ host
      xid : r.xid ≡ number
      own_inc : r.who.inc ≡ of
      page_is : (l : Listing) → a ≡ page l → (g : Option Grant) × ((y : Grant) → g ≡ Some y → is_reading y.mode ≡ true → IsGiven served x.served r y)
          × IsSame (page (record { names = leaf.names; more = leaf.more; grant = g })) (page l)

    was-told : (h xid inc : ℕ) (a : Answer) (d : ToHost) (q : Outer) → IsSaid served x.served r leaf d → q ≡ beside Party.Server (Party.Client d.host) d.bytes
        → q.to ≡ Party.Client h → told_in xid inc q.bytes ≡ Some a → WasTold h xid inc a
    was-told h xid inc a d q (notice row is drawn boot number) of to reads =
        none-some a (sym ((codec.notices (record { xid = served.notice; who = row.who; prefix = r.prefix; tag = row.tag })
        (record { prefix = fits.prefix; tag = tag-fits row.tag boot (let b = inv.drawn.1 in omega arith) })).untold xid inc)
        ∙ ap (λ y. told_in xid inc y.bytes) (sym (of ∙ ap (λ y. beside Party.Server (Party.Client y.host) y.bytes) is)) ∙ reads)
    was-told h xid inc a d q (later is) of to reads =
        let packet = of ∙ ap (λ y. beside Party.Server (Party.Client y.host) y.bytes) is in
        let c = codec.tells xid inc r.xid r.who.inc wait a fits.xid fits.who.inc tt (ap (λ y. told_in xid inc y.bytes) (sym packet) ∙ reads) in
        record {
          to = client-same h host (sym to ∙ ap (λ y. y.to) packet ∙ ap (λ y. Party.Client y) own);
          xid = c.0;
          own_inc = c.1;
          page_is = λ l is-page. absurd (subst (IsSame wait) is-page c.2);
        }
    was-told h xid inc a d q (leaf_told g is given) of to reads =
        let packet = of ∙ ap (λ y. beside Party.Server (Party.Client y.host) y.bytes) is in
        let c = codec.tells xid inc r.xid r.who.inc (page (record { names = leaf.names; more = leaf.more; grant = g })) a fits.xid fits.who.inc
        (telling-fits g given) (ap (λ y. told_in xid inc y.bytes) (sym packet) ∙ reads) in
        record {
          to = client-same h host (sym to ∙ ap (λ y. y.to) packet ∙ ap (λ y. Party.Client y) own);
          xid = c.0;
          own_inc = c.1;
          page_is = λ l is-page. (g, given, subst (IsSame (page (record { names = leaf.names; more = leaf.more; grant = g }))) is-page c.2);
        }

    told-of : (h xid inc : ℕ) (a : Answer) → ToldTo (packets_of x.sends) h xid inc a → WasTold h xid inc a
    told-of h xid inc a t =
        let i = is-of x.sends t.packet t.there in
        was-told h xid inc a i.datagram t.packet (k.said i.datagram i.there) i.is t.to t.reads

    -- a page that can be taken now
    page-fits : (h : ℕ) (n : Names) → slice_get sides h ≡ Some n → (s : IsSide w standing sent ran bound h n) → (q : Request) (l : Listing) (g : Grant)
        → n.asked ≡ Some q → ToldTo (packets_of x.sends) h q.xid n.who.inc (page l) → l.grant ≡ Some g → is_reading g.mode ≡ true
        → PageFits (ground w x.served (sent ++ packets_of x.sends) ran) h n.who s.client.now q l g
    page-fits h n is s q l g asked t has reads = made (told-of h q.xid n.who.inc (page l) t)
      where
        made : WasTold h q.xid n.who.inc (page l) → PageFits (ground w x.served (sent ++ packets_of x.sends) ran) h n.who s.client.now q l g
        made told = fitting (told.page_is l refl)
          where
            mine : AskedFor sent h r
            mine = subst (λ y. AskedFor sent y r) (sym told.to) asks

            same : (r.prefix ≡ q.part.prefix) × (r.after ≡ q.after)
            same = (s.mail.asked r mine).mine q asked told.own_inc told.xid

            who : r.who ≡ n.who
            who = who-is r.who n.who (own ∙ sym told.to ∙ sym (here h n is)) told.own_inc

            clock : s.client.now ≡ ticks_of h ran
            clock = known.clocked.clients h s.client s.there

            fitting : (y : (o : Option Grant) × ((z : Grant) → o ≡ Some z → is_reading z.mode ≡ true → IsGiven served x.served r z)
                × IsSame (page (record { names = leaf.names; more = leaf.more; grant = o })) (page l))
                → PageFits (ground w x.served (sent ++ packets_of x.sends) ran) h n.who s.client.now q l g
            fitting y =
                let v = y.1 g (y.2.2 g has reads) reads in
                subst (λ z. PageFits (ground w x.served (sent ++ packets_of x.sends) ran) h z s.client.now q l g) who
                (record {
                  good = record {
                    drawn = v.drawn;
                    past = (s.fits.part q asked).0;
                    inc = ap (λ z. (host_row w.server.kept z).inc) told.to ∙ sym inc;
                    right = λ c. leaf-right y.2.0 y.2.1;
                    short = λ runs.
                        let t = term-low g v.short in
                        let same-term = known.runs.served.terms.same p in
                        omega arith;
                    covered = λ runs.
                        let on = clock in
                        let before = moment-past h q.sent ran (let a = (s.fits.part q asked).0 in omega arith) in
                        let time = inv.time in
                        let now = known.clocked.server in
                        subst (λ z. HasFit x.served z r.who g.tag (cover_end h q.sent g.term ran)) same.0 (v.fit (cover_end h q.sent g.term ran)
                        (omega arith));
                    waits = λ runs. subst (λ z. Outlasts z (cover_end h q.sent g.term ran)) (sym p) tt;
                    above = λ t gave e f. v.above t.tag (subst (λ z. WasDrawn z t.tag) one (inv.gave h t (gave-served sent (packets_of x.sends)
                        (are-served x.sends) h t gave)));
                  };
                  since = λ c. v.since (on-prefix c);
                })
              where
                leaf-right : l.names ≡ leaf.names → l.more ≡ leaf.more → IsLeaf q.part.prefix q.after l w.server.kept.files
                leaf-right names more = record {
                  names = names ∙ ap (λ z. take most_names (names_behind z r.after w.server.kept.files)) same.0
                      ∙ ap (λ z. take most_names (names_behind q.part.prefix z w.server.kept.files)) same.1;
                  more = more ∙ ap (λ z. nat_lt most_names (length (names_behind z r.after w.server.kept.files))) same.0
                      ∙ ap (λ z. nat_lt most_names (length (names_behind q.part.prefix z w.server.kept.files))) same.1;
                }

                on-prefix : Chained x.served q.part.prefix r.who g.tag → Chained x.served r.prefix r.who g.tag
                on-prefix c = record {
                  number = c.number;
                  numbered = ap (λ z. number_of z x.served.directories) same.0 ∙ c.numbered;
                  row = c.row;
                  stands = c.stands;
                  holder = c.holder;
                  caching = c.caching;
                  began = c.began;
                }

    pub reads-inv : Inv w x.served sides (sent ++ packets_of x.sends) ran (bound + 1) x.served
    reads-inv =
        served-inv w served sides sent ran bound standing inv here (packets_of x.sends) x.served x.served (record {
          stands = subst (λ y. Stands y x.served x.served) (sym p) refl;
          leads = subst (λ y. Leads y x.served) (sym one) k.leads;
          longest = k.longest ∙ inv.longest;
          time = k.time ∙ inv.time;
          boot = k.boot ∙ inv.boot;
          drawn = (let d = inv.drawn.1 in let e = k.drawn in omega arith, let d = inv.drawn.1 in let e = k.drawn in omega arith);
          prefixes = λ prefix i. prefix-fits prefix (k.directories prefix i);
          fit = λ h n is at prefix tag end kept above held.
              k.fit prefix n.who tag end
              (λ e. sym kept ∙ ap (λ y. (host_row w.server.kept y).inc) (sym at ∙ e ∙ own) ∙ sym inc)
              (subst (λ y. HasFit y prefix n.who tag end) one held);
          from = are-served x.sends;
          besides = λ q i. let d = is-of x.sends q i in said-beside d.datagram q (k.said d.datagram d.there) d.is;
          told = λ h xid i a t.
              let v = told-of h xid i a t in (r, subst (λ y. AskedFor sent y r) (sym v.to) asks, v.xid, v.own_inc);
          pages = page-fits;
        })
      where
        prefix-fits : (prefix : List ℕ) → In served.directories prefix ⊎ (prefix ≡ r.prefix) → length prefix ≤ 64
        prefix-fits prefix (inl i) = inv.prefixes prefix (subst (λ y. In y.directories prefix) (sym one) i)
        prefix-fits prefix (inr same) = subst (λ y. length y ≤ 64) (sym same) fits.prefix

  -- ---- a READDIRLOOK while the server recovers

  module _ (host : ℕ) (r : ReadDir) (asks : AskedFor sent host r) (fits : IsReadDir r) (own : r.who.host ≡ host) where
    told-later : (h xid inc : ℕ) (a : Answer) (q : Outer) → q ≡ beside Party.Server (Party.Client (puts_off r).host) (puts_off r).bytes → q.to ≡ Party.Client h
        → told_in xid inc q.bytes ≡ Some a → (h ≡ host) × (r.xid ≡ xid) × (r.who.inc ≡ inc) × IsSame wait a
    told-later h xid inc a q packet to reads =
        let c = codec.tells xid inc r.xid r.who.inc wait a fits.xid fits.who.inc tt (ap (λ y. told_in xid inc y.bytes) (sym packet) ∙ reads) in
        (client-same h host (sym to ∙ ap (λ y. y.to) packet ∙ ap (λ y. Party.Client y) own), c.0, c.1, c.2)

    pub delays-inv : Inv w served sides (sent ++ packets_of (puts_off r ∷ [])) ran (bound + 1) standing
    delays-inv =
        served-inv w served sides sent ran bound standing inv here (packets_of (puts_off r ∷ [])) standing served (record {
          stands = inv.stands;
          leads = same-leads standing standing refl refl inv.fits;
          longest = inv.longest;
          time = inv.time;
          boot = inv.boot;
          drawn = (let d = inv.drawn.0 in omega arith, let d = inv.drawn.1 in omega arith);
          prefixes = inv.prefixes;
          fit = λ h n is at prefix tag end kept above held. held;
          from = are-served (puts_off r ∷ []);
          besides = λ q i. beside-of q i;
          told = λ h xid inc a t.
              let v = told-later h xid inc a t.packet (packet-of t.packet t.there) t.to t.reads in
              (r, subst (λ y. AskedFor sent y r) (sym v.0) asks, v.1, v.2);
          pages = λ h n is s q l g asked t has reads.
              absurd ((told-later h q.xid n.who.inc (page l) t.packet (packet-of t.packet t.there) t.to t.reads).3);
        })
      where
        packet-of : (q : Outer) → In (packets_of (puts_off r ∷ [])) q → q ≡ beside Party.Server (Party.Client (puts_off r).host) (puts_off r).bytes
        packet-of q (inl same) = sym same
        packet-of q (inr bad) = absurd bad

        beside-of : (q : Outer) → In (packets_of (puts_off r ∷ [])) q → IsBeside standing q
        beside-of q i = telling r.who.host r.xid r.who.inc wait fits.xid fits.who.inc tt (packet-of q i)

  -- ---- a DIRVACATED

  nothing-served : AreServed []
  nothing-served = record { sender = λ p i. absurd i; beside = λ p i. absurd i }

  -- no directory has a number while the server recovers
  unnumbered : (until heard : ℕ) (last : Option Table) → w.server.phase ≡ recovering until heard last → (prefix : List ℕ)
      → number_of prefix served.directories ≡ None
  unnumbered until heard last p prefix =
      let new : IsNew served standing = subst (λ x. Stands x served standing) p inv.stands in
      ap (number_of prefix) new.directories

  vacating-serving : (host : ℕ) (t : DirTag) → GaveUp sent host t → t.who.host ≡ host → w.server.phase ≡ serving
      → Inv w (vacates served t) sides (sent ++ []) ran (bound + 1) (vacates served t)
  vacating-serving host t gave own p =
      let one = serving-same p in
      let k = vacates-served served t (subst IsServed one inv.fits) in
      served-inv w served sides sent ran bound standing inv here [] (vacates served t) (vacates served t) (record {
        stands = subst (λ y. Stands y (vacates served t) (vacates served t)) (sym p) refl;
        leads = subst (λ y. Leads y (vacates served t)) (sym one) k.leads;
        longest = k.longest ∙ inv.longest;
        time = k.time ∙ inv.time;
        boot = k.boot ∙ inv.boot;
        drawn = (let d = inv.drawn.1 in let e = k.drawn in omega arith, let d = inv.drawn.1 in let e = k.drawn in omega arith);
        prefixes = λ prefix i. inv.prefixes prefix (subst (λ y. In y.directories prefix) (sym one) (subst (λ ds. In ds prefix) k.directories i));
        fit = λ h n is at prefix tag end kept above held.
            k.fit prefix n.who tag end
            (λ e i f. above t (subst (λ y. GaveUp sent y t) (sym own ∙ sym e ∙ at) gave) (sym i) (sym f))
            (subst (λ y. HasFit y prefix n.who tag end) one held);
        from = nothing-served;
        besides = λ q i. absurd i;
        told = λ h xid i a t. absurd t.there;
        pages = λ h n is s q l g asked t has reads. absurd t.there;
      })

  -- nothing happens
  pub quiet-inv : Inv w served sides (sent ++ []) ran (bound + 1) standing
  quiet-inv =
      served-inv w served sides sent ran bound standing inv here [] standing served (record {
        stands = inv.stands;
        leads = same-leads standing standing refl refl inv.fits;
        longest = inv.longest;
        time = inv.time;
        boot = inv.boot;
        drawn = (let d = inv.drawn.0 in omega arith, let d = inv.drawn.1 in omega arith);
        prefixes = inv.prefixes;
        fit = λ h n is at prefix tag end kept above held. held;
        from = nothing-served;
        besides = λ q i. absurd i;
        told = λ h xid i a t. absurd t.there;
        pages = λ h n is s q l g asked t has reads. absurd t.there;
      })

  pub vacating-inv : (host : ℕ) (t : DirTag) → GaveUp sent host t → t.who.host ≡ host
      → (later : Served) × Inv w (vacates served t) sides (sent ++ []) ran (bound + 1) later
  vacating-inv host t gave own = by w.server.phase refl
    where
      by : (x : Phase) → w.server.phase ≡ x → (later : Served) × Inv w (vacates served t) sides (sent ++ []) ran (bound + 1) later
      by serving p = (vacates served t, vacating-serving host t gave own p)
      by (recovering until heard last) p =
          let same : vacates served t ≡ served = ap (gives_up served t) (unnumbered until heard last p t.prefix) in
          (standing, subst (λ y. Inv w y sides (sent ++ []) ran (bound + 1) standing) (sym same) quiet-inv)

  -- ---- a change of a directory is held up

  held-serving : (who : Who) (prefix : List ℕ) (x : Serves) → holds_up served who prefix ≡ Some x → w.server.phase ≡ serving → length prefix ≤ 64
      → Inv w x.served sides (sent ++ packets_of x.sends) ran (bound + 1) x.served
  held-serving who prefix x is p low =
      let one = serving-same p in
      let k = holds-served served who prefix x (subst IsServed one inv.fits) is in
      served-inv w served sides sent ran bound standing inv here (packets_of x.sends) x.served x.served (record {
        stands = subst (λ y. Stands y x.served x.served) (sym p) refl;
        leads = subst (λ y. Leads y x.served) (sym one) k.leads;
        longest = k.longest ∙ inv.longest;
        time = k.time ∙ inv.time;
        boot = k.boot ∙ inv.boot;
        drawn = (let d = inv.drawn.1 in let e = k.drawn in omega arith, let d = inv.drawn.1 in let e = k.drawn in omega arith);
        prefixes = λ y i. inv.prefixes y (subst (λ z. In z.directories y) (sym one) (subst (λ ds. In ds y) k.directories i));
        fit = λ h n at-side at y tag end kept above held. k.fit y n.who tag end (subst (λ z. HasFit z y n.who tag end) one held);
        from = are-served x.sends;
        besides = λ q i. let d = is-of x.sends q i in noticed-beside k d.datagram q (k.said d.datagram d.there) d.is;
        told = λ h xid i a t. absurd (untold k h xid i a t);
        pages = λ h n at-side s q l g asked t has reads. absurd (untold k h q.xid n.who.inc (page l) t);
      })
    where
      noticed-beside : HeldServed served prefix x → (d : ToHost) (q : Outer) → IsNotice prefix served d → q ≡ beside Party.Server (Party.Client d.host) d.bytes
          → IsBeside x.served q
      noticed-beside k d q n of =
          noticing n.row.who.host (record { xid = n.xid; who = n.row.who; prefix = prefix; tag = n.row.tag })
          (record { prefix = low; tag = tag-fits n.row.tag n.boot (let a = n.number in let b = inv.drawn.1 in omega arith) })
          (inr (n.boot ∙ sym k.boot, let a = n.number in let e = k.drawn in omega arith))
          (of ∙ ap (λ y. beside Party.Server (Party.Client y.host) y.bytes) n.is)

      untold : HeldServed served prefix x → (h xid inc : ℕ) (a : Answer) → ToldTo (packets_of x.sends) h xid inc a → ⊥
      untold k h xid inc a t =
          let d = is-of x.sends t.packet t.there in
          let n = k.said d.datagram d.there in
          none-some a (sym ((codec.notices (record { xid = n.xid; who = n.row.who; prefix = prefix; tag = n.row.tag })
          (record { prefix = low; tag = tag-fits n.row.tag n.boot (let a = n.number in let b = inv.drawn.1 in omega arith) })).untold xid inc)
          ∙ ap (λ y. told_in xid inc y.bytes) (sym (d.is ∙ ap (λ y. beside Party.Server (Party.Client y.host) y.bytes) n.is)) ∙ t.reads)

  pub held-inv : (who : Who) (prefix : List ℕ) (x : Serves) → holds_up served who prefix ≡ Some x
      → Inv w x.served sides (sent ++ packets_of x.sends) ran (bound + 1) x.served
  held-inv who prefix x is = by w.server.phase refl
    where
      some : (o : Option ℕ) → number_of prefix served.directories ≡ o → holds_as served who prefix o ≡ Some x → length prefix ≤ 64
      some None e f = none-some x f
      some (Some number) e f = low w.server.phase refl
        where
          low : (y : Phase) → w.server.phase ≡ y → length prefix ≤ 64
          low serving p = inv.prefixes prefix (subst (λ z. In z.directories prefix) (sym (serving-same p)) (number-in prefix served.directories number e))
          low (recovering until heard last) p = none-some number (sym (unnumbered until heard last p prefix) ∙ e)

      by : (y : Phase) → w.server.phase ≡ y → Inv w x.served sides (sent ++ packets_of x.sends) ran (bound + 1) x.served
      by serving p = held-serving who prefix x is p (some (number_of prefix served.directories) refl is)
      by (recovering until heard last) p =
          let none : holds_up served who prefix ≡ None = ap (holds_as served who prefix) (unnumbered until heard last p prefix) in
          none-some x (sym none ∙ is)
