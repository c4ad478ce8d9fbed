-- A client that hears a packet, whether its call stays open or is answered: rows that it was told to give up still go.
use Rattle.std.proofs.Common.{◌≡◌, ◌≢◌, ◌⊎◌, ℕ, ◌==◌, ◌++◌, Bool, true, false, List, [], ◌∷◌, Option, Some, None, refl, sym, subst, ap, ◌∙◌, arith, inl, inr}
use Rattle.std.proofs.lemmas.Bool.Decides.{nat_tests}
use Rattle.nq_base.specs.declared.Grant.{Grant}
use Rattle.nq_base.specs.declared.Reply.{Reply}
use Rattle.nq_base.specs.declared.Request.{Request}
use Rattle.nq_base.specs.declared.Row.{Row}
use Rattle.nq_base.specs.declared.Tag.{Tag}
use Rattle.nq_base.specs.declared.Who.{Who}
use Rattle.nq_model.specs.protocol.Client.{Client, ClientStep, Notice, Ticket, begun, notice_on, drop_notice, is_clean}
use Rattle.nq_model.specs.protocol.Hear.{hear, inc_of, reply_counts, wants_of, noticed_tag, replied, cancels, vacates_lease, notes_notice, evicted, goes_on}
use Rattle.nq_model.specs.laws.LeaseInterval.{grant_in, requested_file}
use Rattle.nq_model.specs.protocol.Message.{Message, Packet, call, reply}
use Rattle.nq_model.specs.protocol.Send.{sends_request, after_seq, after_number, takes_push, gives_up, send_next}
use Rattle.nq_model.specs.protocol.Server.{to_host}
use Rattle.nq_model.specs.protocol.Settle.{answers, after_read, reads_cached, after_write, marks_written, settle}
use Rattle.nq_model.specs.protocol.Table.{tag_below, later_tag, find_row}
use Rattle.walk_steps.proofs.ClientCases.{Core, core_of, Closed}
use Rattle.walk_steps.proofs.ClientFacts.{Alone}
use Rattle.walk_steps.proofs.ClientMoves.{some-same}
use Rattle.walk_steps.proofs.ClientWalk.{reply-keeps}
use Rattle.walk_steps.proofs.SendCases.{send-cases}
use Rattle.walk_steps.proofs.SettleCases.{settle-cases}
use Rattle.walk_steps.proofs.StepCases.{evicted-cases, heard-cases}
use Rattle.walk_steps.proofs.Packets.{In, in-left, in-right, Told, told-same}
use Rattle.walk_steps.proofs.Worlds.{IsAt, given-by}
use Rattle.walk_steps.proofs.Rows.{same-number, number-same}
use Rattle.nq_model.proofs.ClientLists.{other-notice-dropped, other-notice-put, put-notice-found}
use Rattle.nq_laws.proofs.ClientHopes.{Leaves, gives_up as leaves_gives_up, notes as leaves_notes}

-- ---- tags

pub tag-one : (a b : Tag) → tag_below a b ≡ false → tag_below b a ≡ false → a ≡ b
tag-one a b e f =
    let boots : a.boot ≡ b.boot = grind (arith, nat_tests) in
    let numbers : a.number ≡ b.number = grind (arith, nat_tests) in
    ap (λ n. record { boot = n; number = a.number }) boots ∙ ap (λ n. record { boot = b.boot; number = n }) numbers

-- the later of a row's tag and one that is no later is the row's
pub later-of-two : (a b : Tag) → tag_below b a ≡ false → later_tag a b ≡ b
later-of-two a b e = by (tag_below a b) refl
  where
    by : (t : Bool) → tag_below a b ≡ t → later_tag a b ≡ b
    by true f = rw f refl
    by false f = rw f (tag-one a b f e)

pub later-of-old : (a b : Tag) → tag_below a b ≡ false → later_tag a b ≡ a
later-of-old a b e = rw e refl

-- ---- notices

-- a notice that waits still does, or its lease is given up
data Way (who : Who) (f : ℕ) (tag : Tag) (notices : List Notice) (sends : List Message) : Type 0 where
  waiting : (n : Notice) → notice_on f notices ≡ Some n → n.tag ≡ tag → Way who f tag notices sends
  given_up : (x : ℕ) → In sends (call x (Request.Vacated who f tag)) → Way who f tag notices sends

record Named (who : Who) (f : ℕ) (tag : Tag) (k : Core) : Type 0 where
  mine : k.who ≡ who
  way : Way who f tag k.notices k.sends

more-sent : (who : Who) (f : ℕ) (tag : Tag) (notices : List Notice) (sends : List Message) (m : Message) → Way who f tag notices sends
    → Way who f tag notices (sends ++ m ∷ [])
more-sent who f tag notices sends m (waiting n noted is) = waiting n noted is
more-sent who f tag notices sends m (given_up x i) = given_up x (in-left sends (m ∷ []) _ i)

abbrev no-notice : ℕ → Tag → Type 0
no-notice f tag = ⊥

vacated-way : (who : Who) (f : ℕ) (tag : Tag) (k : Core) (file : ℕ) (given : Tag) → ((n : Notice) × (notice_on file k.notices ≡ Some n) × (given ≡ n.tag))
    → k.who ≡ who → Way who f tag k.notices k.sends → Way who f tag (drop_notice file k.notices)
    (k.sends ++ call k.xid (Request.Vacated k.who file given) ∷ [])
vacated-way who f tag k file given source mine (given_up x i) = given_up x (in-left k.sends _ _ i)
vacated-way who f tag k file given source mine (waiting n noted is) = which (f == file) refl
  where
    which : (e : Bool) → (f == file) ≡ e → Way who f tag (drop_notice file k.notices) (k.sends ++ call k.xid (Request.Vacated k.who file given) ∷ [])
    which false e = waiting n (other-notice-dropped file f k.notices (λ same. let yes : (f == file) ≡ true = number-same f file same in absurd (cc))
        ∙ noted) is
    which true e =
        let here : f ≡ file = same-number f file e in
        let one : source.0 ≡ n = some-same source.0 n (sym source.1 ∙ subst (λ g. notice_on g k.notices ≡ Some n) here noted) in
        let tags : given ≡ tag = source.2 ∙ ap (λ (z : Notice). z.tag) one ∙ is in
        given_up k.xid (in-right k.sends (call k.xid (Request.Vacated k.who file given) ∷ []) _ (inl (ap (λ w. call k.xid
        (Request.Vacated w file given)) mine ∙ ap (λ g. call k.xid (Request.Vacated who g given)) (sym here)
        ∙ ap (λ v. call k.xid (Request.Vacated who f v)) tags)))

named-closed : (who : Who) (f : ℕ) (tag : Tag) (Given : ℕ → Grant → ℕ → Type 0) → Closed no-notice Given (Named who f tag)
named-closed who f tag Given = record {
  uses = λ k file h. record { mine = h.mine; way = h.way };
  drops = λ k file h. record { mine = h.mine; way = h.way };
  vacates = λ k file given can h. record { mine = h.mine; way = from k file given can.source h.mine h.way };
  asks = λ k job request no_seq can h. record { mine = h.mine; way = more-sent who f tag k.notices k.sends _ h.way };
  decides = λ k job request seq can h. record { mine = h.mine; way = more-sent who f tag k.notices k.sends _ h.way };
  again = λ k t is h. record { mine = h.mine; way = more-sent who f tag k.notices k.sends _ h.way };
  holds = λ k file g sent given free unnoticed h. record { mine = h.mine; way = h.way };
  cancels = λ k file h. record { mine = h.mine; way = h.way };
  notes = λ k file tag heard h. absurd heard;
}
  where
    from : (k : Core) (file : ℕ) (given : Tag) → ((n : Notice) × (notice_on file k.notices ≡ Some n) × (given ≡ n.tag)) ⊎ ⊥ → k.who ≡ who
        → Way who f tag k.notices k.sends → Way who f tag (drop_notice file k.notices) (k.sends ++ call k.xid (Request.Vacated k.who file given) ∷ [])
    from k file given (inl source) mine way = vacated-way who f tag k file given source mine way
    from k file given (inr bad) mine way = absurd bad

-- ---- what comes behind a notice

-- no notice changes, and what was sent stays so
record Behind (u t : ClientStep) : Type 0 where
  notices : t.client.notices ≡ u.client.notices
  sends : (m : Message) → In u.sends m → In t.sends m

behind-self : (u : ClientStep) → Behind u u
behind-self u = record { notices = refl; sends = λ m i. i }

behind-settle : (u : ClientStep) → Behind u (settle u)
unfolding answers after_read reads_cached after_write marks_written
behind-settle u = settle-cases u (Behind u) (record {
  idle = λ none. behind-self u;
  asking = λ v has own. behind-self u;
  read_out = λ v file block lease is read can out. record { notices = refl; sends = λ m i. i };
  reading = λ v file block lease body is read can below has. record { notices = refl; sends = λ m i. i };
  read_waits = λ v file block is read waits. behind-self u;
  write_out = λ v sync file block body lease is write can out. record { notices = refl; sends = λ m i. i };
  write_full = λ v sync file block body lease is write can below full. record { notices = refl; sends = λ m i. i };
  writing = λ v file block body lease is write can below room. record { notices = refl; sends = λ m i. i };
  putting = λ v file block body lease is put first can below room. record { notices = refl; sends = λ m i. i };
  write_waits = λ v sync file block body is write waits. behind-self u;
  syncing = λ v file is sync clean. record { notices = refl; sends = λ m i. i };
  sync_waits = λ v file is sync dirty. behind-self u;
  others = λ v is needs. behind-self u;
})

behind-next : (u : ClientStep) → Behind u (send_next false u)
unfolding sends_request after_seq after_number takes_push gives_up
behind-next u = send-cases false u (Behind u) (record {
  stays_asking = λ ticket is. behind-self u;
  stays = λ free none. behind-self u;
  pushing = λ file p free first one. record { notices = refl; sends = λ m i. in-left u.sends _ m i };
  creating = λ v name blocks free is. record { notices = refl; sends = λ m i. in-left u.sends _ m i };
  looking_up = λ v name free is. record { notices = refl; sends = λ m i. in-left u.sends _ m i };
  getting_attributes = λ v file free is. record { notices = refl; sends = λ m i. in-left u.sends _ m i };
  reading = λ v file block free is. record { notices = refl; sends = λ m i. in-left u.sends _ m i };
  fetching = λ v file block free is. record { notices = refl; sends = λ m i. in-left u.sends _ m i };
  writing = λ v file block body free is through. record { notices = refl; sends = λ m i. in-left u.sends _ m i };
  leasing = λ v file block body free is through shares. record { notices = refl; sends = λ m i. in-left u.sends _ m i };
  putting = λ v file block body free is written. record { notices = refl; sends = λ m i. in-left u.sends _ m i };
  resizing = λ v file blocks free is clean. record { notices = refl; sends = λ m i. in-left u.sends _ m i };
  removing = λ v file free is clean. record { notices = refl; sends = λ m i. in-left u.sends _ m i };
  renewing = λ file lease ticks free none unpaused due held one clean unnoticed. absurd (cc);
})

goes-behind : (u : ClientStep) → Behind u (goes_on u)
goes-behind u =
    let a = behind-settle u in
    let b = behind-next (settle u) in
    record { notices = b.notices ∙ a.notices; sends = λ m i. b.sends m (a.sends m i) }

-- ---- a notice

module _ (c : Client) (file : ℕ) (tag : Tag) (alone : Alone c) where
  abbrev heard-notice : ClientStep
  heard-notice = goes_on (evicted (cancels (begun c) file) file tag)

  -- its own file
  own-way : ((n : Notice) → notice_on file c.notices ≡ Some n → tag_below tag n.tag ≡ false) → Way c.who file tag heard-notice.client.notices
      heard-notice.sends
  unfolding cancels vacates_lease notes_notice
  own-way fits = evicted-cases (cancels (begun c) file) file tag (λ u. Way c.who file tag (goes_on u).client.notices (goes_on u).sends) (record {
    clean = λ e. given_up c.xid ((goes-behind (vacates_lease (cancels (begun c) file) file tag)).sends _ (inl refl));
    waiting = λ e. waiting (record { file = file; tag = noticed_tag tag (notice_on file c.notices) })
        (ap (notice_on file) (goes-behind (notes_notice (cancels (begun c) file) file tag)).notices
        ∙ put-notice-found (record { file = file; tag = noticed_tag tag (notice_on file c.notices) }) file c.notices refl)
        (later (notice_on file c.notices) refl);
  })
    where
      later : (o : Option Notice) → notice_on file c.notices ≡ o → noticed_tag tag o ≡ tag
      later None e = refl
      later (Some n) e = later-of-two n.tag tag (fits n e)

  -- one that waits
  waits-way : (f : ℕ) (n : Notice) → notice_on f c.notices ≡ Some n → (f ≡ file → tag_below n.tag tag ≡ false)
      → Way c.who f n.tag heard-notice.client.notices heard-notice.sends
  unfolding cancels vacates_lease notes_notice
  waits-way f n noted fits = evicted-cases (cancels (begun c) file) file tag (λ u. Way c.who f n.tag (goes_on u).client.notices (goes_on u).sends) (record {
    clean = λ e. which-clean e (f == file) refl;
    waiting = λ e. which-waits (f == file) refl;
  })
    where
      differ : (f == file) ≡ false → f ≢ file
      differ e one = let yes : (f == file) ≡ true = number-same f file one in absurd (cc)

      which-clean : is_clean c file ≡ true → (e : Bool) → (f == file) ≡ e → Way c.who f n.tag (goes_on (vacates_lease (cancels
          (begun c) file) file tag)).client.notices (goes_on (vacates_lease (cancels (begun c) file) file tag)).sends
      which-clean clean true e =
          let dirty : is_clean c file ≡ false = alone.delaying.noticed file n (subst (λ g. notice_on g c.notices ≡ Some n) (same-number f file e) noted) in
          absurd (cc)
      which-clean clean false e = waiting n (ap (notice_on f) (goes-behind (vacates_lease (cancels (begun c) file) file tag)).notices
          ∙ other-notice-dropped file f c.notices (differ e) ∙ noted) refl

      which-waits : (e : Bool) → (f == file) ≡ e → Way c.who f n.tag (goes_on (notes_notice (cancels (begun c) file) file tag)).client.notices (goes_on
          (notes_notice (cancels (begun c) file) file tag)).sends
      which-waits false e = waiting n (ap (notice_on f) (goes-behind (notes_notice (cancels (begun c) file) file tag)).notices
          ∙ other-notice-put (record { file = file; tag = noticed_tag tag (notice_on file c.notices) }) f c.notices (differ e) ∙ noted) refl
      which-waits true e =
          let here : f ≡ file = same-number f file e in
          let there : notice_on file c.notices ≡ Some n = subst (λ g. notice_on g c.notices ≡ Some n) here noted in
          waiting (record { file = file; tag = noticed_tag tag (notice_on file c.notices) })
          (ap (notice_on f) (goes-behind (notes_notice (cancels (begun c) file) file tag)).notices
          ∙ put-notice-found (record { file = file; tag = noticed_tag tag (notice_on file c.notices) }) f c.notices here)
          (ap (noticed_tag tag) there ∙ later-of-old n.tag tag (fits here))

-- ---- a reply

reply-way : (c : Client) (k : ℕ) (ticket : Ticket) (r : Reply) → Alone c → c.ticket ≡ Some ticket → reply_counts r ticket ≡ true → ((file : ℕ)
    → requested_file ticket.request ≡ Some file → (g : Grant) → grant_in r ≡ Some g → wants_of file ticket.request ≡ true) → (f : ℕ) (n : Notice)
    → notice_on f c.notices ≡ Some n → Way c.who f n.tag (goes_on (replied (begun c) k ticket r)).client.notices (goes_on (replied (begun c) k ticket r)).sends
reply-way c k ticket r alone asks counts brings f n noted = h.way
  where
    h : Named c.who f n.tag (core_of (goes_on (replied (begun c) k ticket r)))
    h = (reply-keeps (named-closed c.who f n.tag (given-by ticket)) c k ticket r (record {
      asked = asks;
      counts = counts;
      alone = alone;
      spent = λ other. record { mine = refl; way = waiting n noted refl };
      attached = λ job. record { mine = refl; way = waiting n noted refl };
      brings = λ file on g grants. (on, brings file on g grants);
      only = λ file g sent given. given;
    })).core

-- ---- whoever hears

module _ (rows : List Row) (ps : List Packet) (y : Packet) (h k : ℕ) (m : Message) (c : Client) (t : ClientStep) (a : IsAt h c ps)
    (is : y ≡ to_host h m) (mail : Told ps h m) (hears : hear c k m ≡ Some t)
    (noted : (f : ℕ) (row : Row) (n : Notice) → find_row f h rows ≡ Some row → notice_on f c.notices ≡ Some n → tag_below row.tag n.tag ≡ false)
    (named : (f : ℕ) (row : Row) (x : ℕ) (tag : Tag) → find_row f h rows ≡ Some row → m ≡ call x (Request.Evicted c.who f tag) → tag_below row.tag tag ≡ false)
    (holder : (f : ℕ) (row : Row) → find_row f h rows ≡ Some row → row.who ≡ c.who) where
  -- what the notices come to
  way-leaves : (f : ℕ) (row : Row) (tag : Tag) → row.who ≡ c.who → tag ≡ row.tag → Way c.who f tag t.client.notices t.sends → Leaves c t f row
  way-leaves f row tag who one (waiting n there e) = leaves_notes n there (e ∙ one)
  way-leaves f row tag who one (given_up x i) = leaves_gives_up x (subst (λ w. In t.sends (call x (Request.Vacated w f row.tag))) (sym who) (subst
      (λ v. In t.sends (call x (Request.Vacated c.who f v))) one i))

  wants-grants : (xid : ℕ) (r : Reply) (ticket : Ticket) → m ≡ reply xid r → c.ticket ≡ Some ticket → xid ≡ ticket.xid → inc_of r ≡ c.who.inc → (file : ℕ)
      → requested_file ticket.request ≡ Some file → (g : Grant) → grant_in r ≡ Some g → wants_of file ticket.request ≡ true
  wants-grants xid r ticket e asks own same file on g grants =
      (a.mail.replied xid r (subst (λ n. Told ps n (reply xid r)) (sym a.here) (subst (λ z. Told ps h z) e mail)) same).wants ticket asks
      (sym own) g grants file on

  pub waits-leave : (n : Notice) (f : ℕ) (row : Row) → find_row f h rows ≡ Some row → notice_on f c.notices ≡ Some n → n.tag ≡ row.tag → Leaves c t f row
  waits-leave n f row found there tag = way-leaves f row n.tag (holder f row found) tag
      (heard-cases c k m t (λ (u : ClientStep). Way c.who f n.tag u.client.notices u.sends) hears (record {
        answered = λ xid r ticket e asks own same counts. reply-way c k ticket r a.alone asks counts (wants-grants xid r ticket e asks own same) f n there;
        noticed = λ xid file v e older. waits-way c file v a.alone f n there (λ one. ap (λ z. tag_below z v) tag ∙ named f row xid v found (e
            ∙ ap (λ g. call xid (Request.Evicted c.who g v)) (sym one)));
      }))

  pub told-leaves : (x f : ℕ) (row : Row) → find_row f h rows ≡ Some row → y ≡ to_host h (call x (Request.Evicted row.who f row.tag)) → Leaves c t f row
  told-leaves x f row found says = way-leaves f row row.tag (holder f row found) refl
      (heard-cases c k m t (λ (u : ClientStep). Way c.who f row.tag u.client.notices u.sends) hears (record {
        answered = λ xid r ticket e asks own same counts. let two : reply xid r ≡ call x (Request.Evicted row.who f row.tag) = sym e ∙ message in absurd (cc);
        noticed = λ xid file v e older. by xid file v (sym e ∙ message);
      }))
    where
      message : m ≡ call x (Request.Evicted row.who f row.tag)
      message = (told-same h h m _ (sym is ∙ says)).1

      by : (xid file : ℕ) (v : Tag) → call xid (Request.Evicted c.who file v) ≡ call x (Request.Evicted row.who f row.tag)
          → Way c.who f row.tag (heard-notice c file v a.alone).client.notices (heard-notice c file v a.alone).sends
      by xid file v both =
          let on : file ≡ f = cc in
          let tags : v ≡ row.tag = cc in
          subst (λ g. Way c.who f row.tag (heard-notice c g v a.alone).client.notices (heard-notice c g v a.alone).sends) (sym on)
          (subst (λ z. Way c.who f row.tag (heard-notice c f z a.alone).client.notices (heard-notice c f z a.alone).sends) (sym tags)
          (own-way c f row.tag a.alone (λ n there. noted f row n found there)))
