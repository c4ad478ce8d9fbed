-- What a client's step does to the tag of the lease of a file that has delayed writes: it stays, or a grant of the chain is
-- taken, or the delayed writes are lost.
use Rattle.std.proofs.Common.{◌≡◌, ◌≢◌, ◌⊎◌, ℕ, Bool, true, false, ◌&&◌, ◌||◌, not, ◌==◌, List, [], ◌∷◌, ◌++◌, Option, Some, None, map, refl, sym}
use Rattle.std.proofs.Common.{subst, ap, ◌∙◌, inl, inr, reverse}
use Rattle.std.specs.List.{filter, list_any}
use Rattle.nq_base.specs.declared.Answer.{Answer}
use Rattle.nq_base.specs.declared.Call.{Call}
use Rattle.nq_base.specs.declared.Entry.{Entry}
use Rattle.nq_base.specs.declared.Entry.TheVariants.{L}
use Rattle.nq_base.specs.declared.Grant.{Grant}
use Rattle.nq_base.specs.declared.Push.{Push}
use Rattle.nq_base.specs.declared.Reply.{Reply}
use Rattle.nq_base.specs.declared.Request.{Request}
use Rattle.nq_base.specs.declared.Tag.{Tag}
use Rattle.nq_base.specs.declared.Value.{Value}
use Rattle.walk_steps.proofs.RepliedCases.{replied-cases}
use Rattle.walk_steps.proofs.SendCases.{send-moves}
use Rattle.walk_steps.proofs.SettleCases.{settle-cases}
use Rattle.walk_steps.proofs.PartCases.{answers-call-cases, vacates-noticed-cases, reports-cases, if-broken-cases, takes-optional-cases}
use Rattle.walk_steps.proofs.PartCases.{lease-done-cases, then-caches-cases, caches-write-cases, caches-push-cases, vacates-if-clean-cases}
use Rattle.walk_steps.proofs.StepCases.{call-cases, unless-cached-cases, tick-cases, evicted-cases, heard-cases}
use Rattle.walk_steps.proofs.ClientFacts.{Alone, fits_job}
use Rattle.nq_model.proofs.ClientLists.{marked-before, marked-tag, lease-before-drop, lease-after-put}
use Rattle.walk_steps.proofs.ClientMoves.{some-same}
use Rattle.nq_model.specs.protocol.Client.{Client, ClientStep, Job, Lease, Ticket, begun, lease_on, used_lease, drop_lease, notice_on, is_push_of, is_clean}
use Rattle.nq_model.specs.protocol.Client.{push_passes}
use Rattle.nq_model.specs.protocol.ClientStep.{begins_call, is_called, says_busy, client_call, client_tick, at_time, sends_again}
use Rattle.nq_model.specs.protocol.Hear.{vacates_lease, notes_notice, evicted, cancels, spends, inc_of, attached, pauses, marks_through, replied, reply_counts}
use Rattle.nq_model.specs.protocol.Hear.{hear, loses, all_dirty, push_of, loss_entry, reports, without_lease, push_refused, breaks_chain, breaks, holds}
use Rattle.nq_model.specs.protocol.Hear.{granted_lease, takes_grant, takes_optional, answers_call, caches_block, purges, knows_revision, ends_push}
use Rattle.nq_model.specs.protocol.Hear.{caches_push, vacates_noticed}
use Rattle.nq_model.specs.laws.LeaseInterval.{grant_in, requested_file}
use Rattle.nq_model.specs.protocol.Message.{Message, reply}
use Rattle.nq_model.specs.protocol.Send.{sends_request, after_seq, after_number, takes_push, gives_up, send_next}
use Rattle.nq_model.specs.protocol.Settle.{answers, names_losses, after_read, after_write, reads_cached, delays, marks_written, settle}
use Rattle.nq_model.specs.protocol.Table.{tag_below}
use Rattle.walk_steps.proofs.Members.{map-in, reverse-in, filter-in}
use Rattle.walk_steps.proofs.Packets.{In, in-left, in-right}
use Rattle.walk_steps.proofs.Rows.{same-number, number-same}
use Rattle.walk_steps.proofs.Tests.{is-other}

-- a client has an entry of delayed writes, in its list or under way
abbrev pub IsEntry : Client → Push → Type 0
IsEntry c q = In c.dirty q ⊎ (c.push ≡ Some q)

-- a step goes on from another: it notes more, and the lease on the file has a tag that it had
pub record GoesOn (file : ℕ) (t s : ClientStep) : Type 0 where
  pub more : List Entry
  pub notes : s.entries ≡ more ++ t.entries
  pub leases : (l : Lease) → lease_on file s.client.leases ≡ Some l → (m : Lease) × (lease_on file t.client.leases ≡ Some m) × (l.tag ≡ m.tag)

-- ---- lists

any-in : (file : ℕ) (xs : List Push) (x : Push) → In xs x → x.file ≡ file → list_any (is_push_of file) xs ≡ true
any-in file [] x h of = absurd h
any-in file (y ∷ xs) x (inl e) of = let here : is_push_of file y ≡ true = number-same y.file file (ap (λ z. z.file) e ∙ of) in rw here refl
any-in file (y ∷ xs) x (inr h) of = more (is_push_of file y) (any-in file xs x h of)
  where
    more : (b : Bool) → list_any (is_push_of file) xs ≡ true → (b || list_any (is_push_of file) xs) ≡ true
    more true e = refl
    more false e = e

-- a file of an entry is not clean, and all of it is lost where it is
pub unclean-entry : (c : Client) (q : Push) → IsEntry c q → is_clean c q.file ≡ false
unclean-entry c q (inl i) = let some : list_any (is_push_of q.file) c.dirty ≡ true = any-in q.file c.dirty q i refl in rw some refl
unclean-entry c q (inr e) =
    let same : (q.file == q.file) ≡ true = number-same q.file q.file refl in
    both (list_any (is_push_of q.file) c.dirty) (ap (push_passes (is_push_of q.file)) e ∙ same)
  where
    both : (b : Bool) → push_passes (is_push_of q.file) c.push ≡ true → (not b && not (push_passes (is_push_of q.file) c.push)) ≡ false
    both true p = refl
    both false p = rw p refl

in-all : (c : Client) (q : Push) → IsEntry c q → In (all_dirty c q.file) q
in-all c q (inl i) =
    in-right (push_of q.file c.push) (filter (is_push_of q.file) c.dirty) q (filter-in (is_push_of q.file) c.dirty q (number-same q.file q.file refl) i)
in-all c q (inr e) =
    in-left (push_of q.file c.push) (filter (is_push_of q.file) c.dirty) q
    (subst (λ o. In (push_of q.file o) q) (sym e) (let same : (q.file == q.file) ≡ true = number-same q.file q.file refl in rw same (inl refl)))

entry-lost : (t : ClientStep) (c : Client) (q : Push) (file : ℕ) → t.client.who ≡ c.who → t.client.dirty ≡ c.dirty → t.client.push ≡ c.push
    → q.file ≡ file → IsEntry c q → In (loses t file).entries (L c.who q.file q.block q.first q.last)
unfolding loses
entry-lost t c q file who dirty push of i =
    let here : IsEntry t.client q = moved i in
    let all : In (all_dirty t.client file) q = subst (λ f. In (all_dirty t.client f) q) of (in-all t.client q here) in
    subst (λ w. In (loses t file).entries (L w q.file q.block q.first q.last)) who
    (in-left (reverse (map (loss_entry t.client.who) (all_dirty t.client file))) t.entries (loss_entry t.client.who q)
    (reverse-in (map (loss_entry t.client.who) (all_dirty t.client file)) (loss_entry t.client.who q)
    (map-in (loss_entry t.client.who) (all_dirty t.client file) q all)))
  where
    moved : IsEntry c q → IsEntry t.client q
    moved (inl k) = inl (subst (λ d. In d q) (sym dirty) k)
    moved (inr e) = inr (push ∙ e)

named-in : (t : ClientStep) (n file : ℕ) (e : Entry) → In t.entries e → In (names_losses t n file).entries e
unfolding answers
named-in t n file e i = inr i

vacated-in : (t : ClientStep) (file : ℕ) (tag : Tag) (e : Entry) → In t.entries e → In (vacates_lease t file tag).entries e
unfolding vacates_lease
vacated-in t file tag e i = i

broken-in : (t : ClientStep) (file : ℕ) (e : Entry) → In (loses t file).entries e → In (breaks_chain t file).entries e
broken-in t file e i =
    reported (vacates_noticed (loses t file) file (notice_on file t.client.notices))
    (vacates-noticed-cases (loses t file) file (notice_on file t.client.notices) (λ s. In s.entries e) (λ n. i)
    (λ n f. vacated-in (loses t file) file n.tag e i))
  where
    reported : (s : ClientStep) → In s.entries e → In (reports s file).entries e
    reported s j = reports-cases s file (λ z. In z.entries e) (λ f. j) (λ u f g. j) (λ u f g. named-in s u.q file e j)

holds-in : (t : ClientStep) (file : ℕ) (g : Grant) (sent : ℕ) (e : Entry) → In t.entries e → In (holds t file g sent).entries e
unfolding holds
holds-in t file g sent e i = i

module _ (c : Client) (q : Push) (tag : Tag) (Brings : Grant → Type 0) where
  -- the lease on the file has this tag, if there is one
  abbrev pub HasTag : Tag → ClientStep → Type 0
  HasTag g t = (l : Lease) → lease_on q.file t.client.leases ≡ Some l → l.tag ≡ g

  -- the lease has the tag of a grant that goes on with the chain
  pub record IsGranted (t : ClientStep) : Type 0 where
    pub g : Grant
    pub brings : Brings g
    pub whole : tag_below tag g.since ≡ false
    pub has : HasTag g.tag t

  pub data Follows (t : ClientStep) : Type 0 where
    keeps_tag : HasTag tag t → Follows t
    granted : IsGranted t → Follows t
    lost : In t.entries (L c.who q.file q.block q.first q.last) → Follows t

  go : (t s : ClientStep) → GoesOn q.file t s → Follows t → Follows s
  go t s g (keeps_tag has) = keeps_tag (λ l e. let m = g.leases l e in m.2 ∙ has m.0 m.1)
  go t s g (granted k) = granted (record { g = k.g; brings = k.brings; whole = k.whole; has = λ l e. let m = g.leases l e in m.2 ∙ k.has m.0 m.1 })
  go t s g (lost i) = lost (subst (λ es. In es (L c.who q.file q.block q.first q.last)) (sym g.notes) (in-right g.more t.entries _ i))

  -- ---- small changes

  plainly : (t s : ClientStep) (more : List Entry) → s.entries ≡ more ++ t.entries → s.client.leases ≡ t.client.leases → GoesOn q.file t s
  plainly t s more notes same = record { more = more; notes = notes; leases = λ l e. (l, ap (lease_on q.file) (sym same) ∙ e, refl) }

  droppingly : (t s : ClientStep) (f : ℕ) (more : List Entry) → s.entries ≡ more ++ t.entries → s.client.leases ≡ drop_lease f t.client.leases
      → GoesOn q.file t s
  droppingly t s f more notes same =
      record {
        more = more;
        notes = notes;
        leases = λ l e.
            (l, (lease-before-drop f q.file t.client.leases l (ap (lease_on q.file) (sym same) ∙ e)).1, refl);
      }

  usingly : (t s : ClientStep) (f : ℕ) (more : List Entry) → s.entries ≡ more ++ t.entries → s.client.leases ≡ used_lease f t.client.leases → GoesOn q.file t s
  usingly t s f more notes same =
      record {
        more = more;
        notes = notes;
        leases = λ l e. let m = marked-before q.file f t.client.leases l (ap (lease_on q.file) (sym same) ∙ e) in
            (m.before, m.found, ap (λ z. z.tag) m.same ∙ marked-tag f m.before);
      }

  go-answers : (t : ClientStep) (n : ℕ) (a : Answer) (by : Option ℕ) → Follows t → Follows (answers t n a by)
  unfolding answers
  go-answers t n a by h = go t (answers t n a by) (plainly t (answers t n a by) (_ ∷ []) refl refl) h

  go-names : (t : ClientStep) (n file : ℕ) → Follows t → Follows (names_losses t n file)
  unfolding answers
  go-names t n file h = go t (names_losses t n file) (plainly t (names_losses t n file) (_ ∷ []) refl refl) h

  go-loses : (t : ClientStep) (file : ℕ) → Follows t → Follows (loses t file)
  unfolding loses
  go-loses t file h = go t (loses t file) (plainly t (loses t file) (reverse (map (loss_entry t.client.who) (all_dirty t.client file))) refl refl) h

  go-without : (t : ClientStep) (file : ℕ) → Follows t → Follows (without_lease t file)
  unfolding without_lease
  go-without t file h = go t (without_lease t file) (droppingly t (without_lease t file) file [] refl refl) h

  go-vacates : (t : ClientStep) (file : ℕ) (g : Tag) → Follows t → Follows (vacates_lease t file g)
  unfolding vacates_lease
  go-vacates t file g h = go t (vacates_lease t file g) (droppingly t (vacates_lease t file g) file [] refl refl) h

  go-reports : (t : ClientStep) (file : ℕ) → Follows t → Follows (reports t file)
  go-reports t file h = reports-cases t file Follows (λ e. h) (λ u e f. h) (λ u e f. go-names t u.q file h)

  go-refused : (t : ClientStep) (file : ℕ) → Follows t → Follows (push_refused t file)
  unfolding without_lease vacates_lease loses
  go-refused t file h =
      let a : Follows (without_lease (loses t file) file) = go-without (loses t file) file (go-loses t file h) in
      go-reports _ file (vacates-noticed-cases (without_lease (loses t file) file) file (notice_on file t.client.notices) Follows (λ e. a)
      (λ n e. go-vacates (without_lease (loses t file) file) file n.tag a))

  go-breaks : (t : ClientStep) (file : ℕ) → Follows (loses t file) → Follows (breaks_chain t file)
  go-breaks t file a =
      go-reports _ file (vacates-noticed-cases (loses t file) file (notice_on file t.client.notices) Follows (λ e. a)
      (λ n e. go-vacates (loses t file) file n.tag a))

  go-call : (t : ClientStep) (a : Answer) (by : Option ℕ) → Follows t → Follows (answers_call t a by)
  go-call t a by h = answers-call-cases t a by Follows (λ e. h) (λ u e. go-answers t u.q a by h)

  go-caches : (t : ClientStep) (file block : ℕ) (body : List ℕ) → Follows t → Follows (caches_block t file block body)
  unfolding caches_block
  go-caches t file block body h = go t (caches_block t file block body) (plainly t (caches_block t file block body) [] refl refl) h

  go-purges : (t : ClientStep) (file : ℕ) → Follows t → Follows (purges t file)
  unfolding purges
  go-purges t file h = go t (purges t file) (plainly t (purges t file) [] refl refl) h

  go-knows : (t : ClientStep) (file rev : ℕ) → Follows t → Follows (knows_revision t file rev)
  unfolding knows_revision
  go-knows t file rev h = go t (knows_revision t file rev) (plainly t (knows_revision t file rev) [] refl refl) h

  go-marks : (on : Bool) (t : ClientStep) → Follows t → Follows (marks_through on t)
  unfolding marks_through
  go-marks on t h = go t (marks_through on t) (plainly t (marks_through on t) [] refl refl) h

  go-pauses : (t : ClientStep) → Follows t → Follows (pauses t)
  unfolding pauses marks_through
  go-pauses t h = go t (pauses t) (plainly t (pauses t) [] refl refl) h

  go-attached : (t : ClientStep) → Follows t → Follows (attached t)
  unfolding attached
  go-attached t h = go t (attached t) (plainly t (attached t) [] refl refl) h

  go-ends : (t : ClientStep) → Follows t → Follows (ends_push t)
  unfolding ends_push
  go-ends t h = go t (ends_push t) (plainly t (ends_push t) [] refl refl) h

  go-holds-other : (t : ClientStep) (file : ℕ) (g : Grant) (sent : ℕ) → (q.file ≡ file → ⊥) → Follows t → Follows (holds t file g sent)
  unfolding holds granted_lease
  go-holds-other t file g sent apart h =
      go t (holds t file g sent) (record
      { more = []; notes = refl; leases = λ l e. case l (lease-after-put (granted_lease file g sent) q.file t.client.leases l e) }) h
    where
      case : (l : Lease) → ((q.file ≡ file) × (l ≡ granted_lease file g sent)) ⊎ ((q.file ≢ file) × (lease_on q.file t.client.leases ≡ Some l))
          → (m : Lease) × (lease_on q.file t.client.leases ≡ Some m) × (l.tag ≡ m.tag)
      case l (inl k) = absurd (apart k.0)
      case l (inr k) = (l, k.1, refl)

  go-holds-own : (t : ClientStep) (file : ℕ) (g : Grant) (sent : ℕ) → q.file ≡ file → Brings g → tag_below tag g.since ≡ false → Follows (holds t file g sent)
  unfolding holds granted_lease
  go-holds-own t file g sent of brings whole =
      granted
      (record { g = g; brings = brings; whole = whole; has = λ l e. case l (lease-after-put (granted_lease file g sent) q.file t.client.leases l e) })
    where
      case : (l : Lease) → ((q.file ≡ file) × (l ≡ granted_lease file g sent)) ⊎ ((q.file ≢ file) × (lease_on q.file t.client.leases ≡ Some l)) → l.tag ≡ g.tag
      case l (inl k) = ap (λ z. z.tag) k.1
      case l (inr k) = absurd (k.0 of)

  -- ---- grants

  module _ (lease : Lease) (held : lease_on q.file c.leases ≡ Some lease) (tagged : lease.tag ≡ tag) (entry : IsEntry c q) where
    go-broken : (t : ClientStep) (file : ℕ) (g : Grant) (sent : ℕ) → t.client.who ≡ c.who → t.client.dirty ≡ c.dirty → t.client.push ≡ c.push
        → t.client.leases ≡ c.leases → q.file ≡ file → Brings g → Follows t → Follows (takes_grant t file g sent)
    go-broken t file g sent who dirty push leases of brings h =
        if-broken-cases t file g (λ s. Follows (holds s file g sent))
        (λ whole. go-holds-own t file g sent of brings (unbroken whole))
        (λ other e broken unclean. lost
        (holds-in (breaks_chain t file) file g sent mine (broken-in t file mine (entry-lost t c q file who dirty push of entry))))
      where
        same-lease : lease_on file t.client.leases ≡ Some lease
        same-lease = subst (λ f. lease_on f t.client.leases ≡ Some lease) of (ap (lease_on q.file) leases ∙ held)

        clean-same : is_clean t.client file ≡ false
        clean-same = subst (λ f. is_clean t.client f ≡ false) of (unclean-entry t.client q (moved entry))
          where
            moved : IsEntry c q → IsEntry t.client q
            moved (inl k) = inl (subst (λ d. In d q) (sym dirty) k)
            moved (inr e) = inr (push ∙ e)

        unbroken : (breaks g (lease_on file t.client.leases) && not (is_clean t.client file)) ≡ false → tag_below tag g.since ≡ false
        unbroken e =
            subst (λ z. tag_below z g.since ≡ false) tagged
            (case (tag_below lease.tag g.since) (ap (λ o. breaks g o && not (is_clean t.client file)) (sym same-lease) ∙ e))
          where
            case : (b : Bool) → (b && not (is_clean t.client file)) ≡ false → b ≡ false
            case false e = refl
            case true e = let f = clean-same in absurd (cc)

        mine : Entry
        mine = L c.who q.file q.block q.first q.last

    -- the client as it was, whose request was answered
    pub record IsSpent (t : ClientStep) : Type 0 where
      pub who : t.client.who ≡ c.who
      pub dirty : t.client.dirty ≡ c.dirty
      pub push : t.client.push ≡ c.push
      pub leases : t.client.leases ≡ c.leases
      pub entries : t.entries ≡ []

    start : (t : ClientStep) → t.client.leases ≡ c.leases → Follows t
    start t leases =
        keeps_tag (λ l e. let one : lease ≡ l = some-same lease l (sym held ∙ ap (lease_on q.file) (sym leases) ∙ e) in ap (λ z. z.tag) (sym one) ∙ tagged)

    go-other : (t : ClientStep) (file : ℕ) (g : Grant) (sent : ℕ) → (q.file ≡ file → ⊥) → Follows t → Follows (takes_grant t file g sent)
    go-other t file g sent apart h =
        if-broken-cases t file g (λ s. Follows (holds s file g sent)) (λ e. go-holds-other t file g sent apart h)
        (λ other e broken unclean. go-holds-other (breaks_chain t file) file g sent apart (go-breaks t file (go-loses t file h)))

    go-takes : (t : ClientStep) (file : ℕ) (g : Grant) (sent : ℕ) → IsSpent t → (q.file ≡ file → Brings g) → Follows (takes_grant t file g sent)
    go-takes t file g sent k brings = case (q.file == file) refl
      where
        case : (b : Bool) → (q.file == file) ≡ b → Follows (takes_grant t file g sent)
        case true e = let of = same-number q.file file e in go-broken t file g sent k.who k.dirty k.push k.leases of (brings of) (start t k.leases)
        case false e = go-other t file g sent (is-other q.file file e) (start t k.leases)

    go-optional : (t : ClientStep) (file : ℕ) (o : Option Grant) (sent : ℕ) → IsSpent t → ((g : Grant) → o ≡ Some g → q.file ≡ file → Brings g)
        → Follows (takes_optional t file o sent)
    go-optional t file o sent k brings = takes-optional-cases t file o sent Follows (λ e. start t k.leases) (λ g e. go-takes t file g sent k (brings g e))

    spent : IsSpent (spends (begun c))
    unfolding spends
    spent = record { who = refl; dirty = refl; push = refl; leases = refl; entries = refl }

    -- what a reply does
    go-replied : (number : ℕ) (ticket : Ticket) (r : Reply) → fits_job ticket.job ticket.request ≡ true → reply_counts r ticket ≡ true
        → ((g : Grant) → grant_in r ≡ Some g → requested_file ticket.request ≡ Some q.file → Brings g) → Follows (replied (begun c) number ticket r)
    go-replied number ticket r fits counts brings = replied-cases c number ticket r Follows fits counts (record {
      attaching = λ who inc job asks is. go-attached _ h;
      named = λ answer job is. go-call _ answer None h;
      reading = λ who n file block want inc rev body grant of is.
          let a : Follows (takes_optional t file grant ticket.first) = go-optional t file grant ticket.first spent
          (λ g e same. brings g (ap grant_in is ∙ e) (ap requested_file of.asks ∙ ap Some (sym same))) in
          go-call _ _ (Some number) (then-caches-cases (takes_optional t file grant ticket.first) file block body grant Follows
          (λ e. go-caches (takes_optional t file grant ticket.first) file block body a) (λ e. a));
      leasing = λ who file want inc grant of is.
          let a : Follows (takes_optional t file grant ticket.first) = go-optional t file grant ticket.first spent
          (λ g e same. brings g (ap grant_in is ∙ e) (ap requested_file of.asks ∙ ap Some (sym same))) in
          lease-done-cases t file grant ticket.first Follows (λ e. a) (λ e. go-marks true (takes_optional t file grant ticket.first) a);
      writing =
          λ who seq file block first last body inc rev of is. go-call _ _ None
          (go-knows _ file rev (caches-write-cases t file block body rev Follows (λ e f. go-caches t file block body h) (go-purges t file h)));
      resizing = λ who seq n file blocks inc rev of is. go-call _ _ None (go-knows t file rev h);
      removing = λ who seq n file inc of is. go-call _ _ None h;
      renewing =
          λ who file want inc grant job asks is. go-optional t file grant ticket.first spent
          (λ g e same. brings g (ap grant_in is ∙ e) (ap requested_file asks ∙ ap Some (sym same)));
      pushed = λ who seq file block first last base body inc rev job asks is.
          let s : ClientStep = knows_revision (ends_push t) file rev in
          let a : Follows s = go-knows (ends_push t) file rev (go-ends t h) in
          let b : Follows (caches_push s file block body) = caches-push-cases s file block body Follows (λ e. a) (λ e. go-caches s file block body a) in
          vacates-if-clean-cases (caches_push s file block body) file Follows b (λ n e f. go-vacates (caches_push s file block body) file n.tag b);
      putting_off = λ inc status job is off. go-pauses t h;
      refusing = λ inc status job is counted final. go-call _ _ None h;
      renewal_refused = λ inc status job is final. h;
      push_refused = λ who seq file block first last base body inc status job asks is final. go-refused t file h;
    }) where
      t : ClientStep
      t = spends (begun c)

      h : Follows t
      h = start t spent.leases

    go-settles : (t : ClientStep) → Follows t → Follows (settle t)
    unfolding answers after_read after_write marks_written reads_cached
    go-settles t h = settle-cases t Follows (record {
      idle = λ e. h;
      asking = λ u e f. h;
      read_out = λ u file block lease is r can out. go-answers t u.q Answer.Range None h;
      reading =
          λ u file block lease body is r can within has. go t (reads_cached t u file block body)
          (usingly t (reads_cached t u file block body) file (_ ∷ _ ∷ []) refl refl) h;
      read_waits = λ u file block is r waits. h;
      write_out = λ u sync file block body lease is w can out. go-answers t u.q Answer.Range None h;
      write_full = λ u sync file block body lease is w can within full. go-answers t u.q Answer.DirtyFull None h;
      writing =
          λ u file block body lease is w can within room. let s : ClientStep = answers (delays t file block body) u.q (Answer.Ok Value.Nothing) None in
          go t s (usingly t s file (_ ∷ _ ∷ []) refl refl) h;
      putting =
          λ u file block body lease is w unwritten can within room. let s : ClientStep = marks_written (delays t file block body) u in
          go t s (usingly t s file (_ ∷ []) refl refl) h;
      write_waits = λ u sync file block body is w waits. h;
      syncing = λ u file is s clean. go-answers t u.q (Answer.Ok Value.Nothing) None h;
      sync_waits = λ u file is s dirty. h;
      others = λ u is n. h;
    })

    go-request : (t : ClientStep) (job : Job) (r : Request) → Follows t → Follows (sends_request t job r)
    unfolding sends_request
    go-request t job r h = go t (sends_request t job r) (plainly t (sends_request t job r) [] refl refl) h

    go-seq : (t : ClientStep) → Follows t → Follows (after_seq t)
    unfolding after_seq
    go-seq t h = go t (after_seq t) (plainly t (after_seq t) [] refl refl) h

    go-number : (t : ClientStep) → Follows t → Follows (after_number t)
    unfolding after_number
    go-number t h = go t (after_number t) (plainly t (after_number t) [] refl refl) h

    go-gives : (t : ClientStep) (file : ℕ) → Follows t → Follows (gives_up t file)
    unfolding gives_up
    go-gives t file h = go t (gives_up t file) (droppingly t (gives_up t file) file [] refl refl) h

    go-push : (t : ClientStep) (p : Push) → Follows t → Follows (takes_push t p)
    unfolding takes_push
    go-push t p h = go t (takes_push t p) (plainly t (takes_push t p) [] refl refl) h

    go-sends : (in_tick : Bool) (t : ClientStep) → Follows t → Follows (send_next in_tick t)
    go-sends in_tick t a = send-moves in_tick t Follows (record {
      kept = a;
      pushes = λ file p first. go-request _ Job.pushing _ (go-seq (takes_push t p) (go-push t p a));
      asks = λ job request. go-request t job request a;
      decides = λ request. go-request (after_seq t) Job.for_call request (go-seq t a);
      writes = λ file block body. go-request (after_number t) Job.for_call _ (go-number t a);
      changes = λ file request. go-request _ Job.for_call request (go-seq (gives_up t file) (go-gives t file a));
    })

    -- ---- whole steps

    begun-leases : (op : Call) → (begins_call c op).client.leases ≡ c.leases
    unfolding begins_call
    begun-leases op = refl

    go-busy : (t : ClientStep) → Follows t → Follows (says_busy t)
    unfolding says_busy
    go-busy t h = go t (says_busy t) (plainly t (says_busy t) (_ ∷ []) refl refl) h

    go-called : (t : ClientStep) (op : Call) → Follows t → Follows (is_called t op)
    unfolding is_called
    go-called t op h = go t (is_called t op) (plainly t (is_called t op) [] refl refl) h

    pub call-follows : (op : Call) → Follows (client_call c op)
    call-follows op = call-cases c op Follows (record {
      busy = λ e. go-busy (begins_call c op) b;
      telling = λ file loss losses none on changes has. go-names (begins_call c op) (begins_call c op).client.calls file b;
      going = λ none on nothing.
          let a : Follows (settle (is_called (begins_call c op) op)) = go-settles (is_called (begins_call c op) op) (go-called (begins_call c op) op b) in
          unless-cached-cases (settle (is_called (begins_call c op) op)) Follows (λ e. a) (λ e. go-sends false (settle (is_called (begins_call c op) op)) a);
    }) where
      b : Follows (begins_call c op)
      b = start (begins_call c op) (begun-leases op)

    timed-leases : (now : ℕ) → (at_time c now).leases ≡ c.leases
    unfolding at_time
    timed-leases now = refl

    go-again : (t : ClientStep) (ticket : Ticket) → Follows t → Follows (sends_again t ticket)
    unfolding sends_again
    go-again t ticket h = go t (sends_again t ticket) (plainly t (sends_again t ticket) [] refl refl) h

    pub tick-follows : (now : ℕ) → Follows (client_tick c now)
    tick-follows now = tick-cases c now Follows (record {
      again = λ ticket e due. go-again (begun (at_time c now)) ticket b;
      quiet = λ ticket e early. b;
      free = λ e. go-sends true (settle (begun (at_time c now))) (go-settles (begun (at_time c now)) b);
    }) where
      b : Follows (begun (at_time c now))
      b = start (begun (at_time c now)) (timed-leases now)

    cancelled-leases : (file : ℕ) → (cancels (begun c) file).client.leases ≡ c.leases
    unfolding cancels
    cancelled-leases file = refl

    go-notes : (t : ClientStep) (file : ℕ) (g : Tag) → Follows t → Follows (notes_notice t file g)
    unfolding notes_notice
    go-notes t file g h = go t (notes_notice t file g) (plainly t (notes_notice t file g) [] refl refl) h

    pub hear-follows : (k : ℕ) (m : Message) (t : ClientStep) → Alone c → hear c k m ≡ Some t
        → ((xid : ℕ) (r : Reply) (ticket : Ticket) → m ≡ reply xid r → c.ticket ≡ Some ticket → xid ≡ ticket.xid → inc_of r ≡ c.who.inc → (g : Grant)
        → grant_in r ≡ Some g → requested_file ticket.request ≡ Some q.file → Brings g) → Follows t
    hear-follows k m t a hears brings = heard-cases c k m t Follows hears (record {
      answered = λ xid r ticket is asked number inc counts.
          let s : ClientStep = replied (begun c) k ticket r in
          go-sends false (settle s) (go-settles s
          (go-replied k ticket r ((a.asking.ticketed ticket asked).fits) counts (brings xid r ticket is asked number inc)));
      noticed = λ xid file g is later.
          let z : ClientStep = cancels (begun c) file in
          let b : Follows z = start z (cancelled-leases file) in
          let s : Follows (evicted z file g) = evicted-cases z file g Follows
          (record { clean = λ e. go-vacates z file g b; waiting = λ e. go-notes z file g b }) in
          go-sends false (settle (evicted z file g)) (go-settles (evicted z file g) s);
    })
