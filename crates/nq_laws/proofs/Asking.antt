-- What a request at a server that serves leaves of who hopes, and of rows that go. It asks nothing of other hosts' calls, so it holds whether these
-- are answered or not.
use Rattle.std.proofs.Common.{◌≡◌, ◌≢◌, ℕ, ◌==◌, ◌++◌, Bool, true, false, not, List, [], ◌∷◌, Option, Some, None, refl, sym, subst, ap, ◌∙◌, inl, inr}
use Rattle.std.specs.Prelude.{slice_get}
use Rattle.nq_base.specs.declared.Refusal.{Refusal}
use Rattle.nq_base.specs.declared.Reply.{Reply}
use Rattle.nq_base.specs.declared.Request.{Request}
use Rattle.nq_base.specs.declared.Row.{Row}
use Rattle.nq_model.specs.protocol.Client.{Client, Job, attaching, for_call, renewing, pushing, Ticket, UnderWay, lease_on}
use Rattle.nq_model.specs.protocol.Hear.{holds_later, is_put_off, refusal_counts, wants_of}
use Rattle.nq_model.specs.protocol.Message.{Packet, call, reply}
use Rattle.nq_model.specs.protocol.Server.{to_host}
use Rattle.nq_model.specs.protocol.Table.{find_row}
use Rattle.nq_model.specs.protocol.World.{from_host}
use Rattle.walk_steps.proofs.ClientMoves.{some-same, none-some}
use Rattle.walk_steps.proofs.Packets.{In, in-left, message-same, not-both, call-same}
use Rattle.walk_steps.proofs.Rows.{same-number, number-same}
use Rattle.nq_laws.specs.PutOff.{file_of, access_by}
use Rattle.nq_laws.proofs.Hope.{file_of_call, access_of_call, Safe, Hopeful, Goes, told, waits, vacated, InWay, safe-rest, safe-append, safe-none}
use Rattle.nq_laws.proofs.Served.{IsStill, OnlyStays, AreTold, Outcome, quiet, by_own, by_others, IsServed}

-- what is known of the host that asked, and of its rows
pub record Caller (rows : List Row) (b x : ℕ) (r : Request) (c : Client) : Type 0 where
  -- a request of the number of the one under way is that
  pub same : (t : Ticket) → c.ticket ≡ Some t → t.xid ≡ x → t.request ≡ r
  -- the call's request is about the file of the call
  pub meant : (t : Ticket) (u : UnderWay) (f : ℕ) → c.ticket ≡ Some t → t.job ≡ for_call → c.call ≡ Some u → file_of t.request ≡ Some f
      → (file_of_call u.call ≡ Some f) × (access_by t.request ≡ access_of_call u.call)
  pub unrenewed : (t : Ticket) (u : UnderWay) → c.ticket ≡ Some t → c.call ≡ Some u → t.job ≡ renewing → ⊥
  -- no lease is later than the row
  pub held : (f : ℕ) (own : Row) → find_row f b rows ≡ Some own → holds_later own.tag (lease_on f c.leases) ≡ false
  pub holder : (f : ℕ) (own : Row) → find_row f b rows ≡ Some own → own.who ≡ c.who

-- who is put off for rows of others stops hoping
pub record IsOff (rows after : List Row) (more : List Packet) (b : ℕ) (c : Client) : Type 0 where
  pub u : UnderWay
  pub f : ℕ
  pub ch : ℕ
  pub clash : Row
  pub opened : c.call ≡ Some u
  pub file : file_of_call u.call ≡ Some f
  pub way : InWay rows b f (access_of_call u.call) ch clash
  pub told_all : (h : ℕ) (row : Row) → InWay after b f (access_of_call u.call) h row → (row.evicting ≡ true) × (n : ℕ)
      × In more (to_host h (call n (Request.Evicted row.who f row.tag)))
  pub only : OnlyStays rows after

-- who hoped hopes on; or all but the asker do, who was put off
pub data Fate (rows after : List Row) (clients : List Client) (y : Packet) (ys more : List Packet) (b : ℕ) (c : Client) : Type 0 where
  all_on : ((h : ℕ) → Hopeful clients (y ∷ ys) h → Hopeful clients (ys ++ more) h) → Fate rows after clients y ys more b c
  off : ((h : ℕ) → h ≢ b → Hopeful clients (y ∷ ys) h → Hopeful clients (ys ++ more) h) → IsOff rows after more b c → Fate rows after clients y ys more b c

module _ (rows after : List Row) (clients : List Client) (y : Packet) (ys more : List Packet) (b x : ℕ) (r : Request) (c : Client)
    (at : slice_get clients b ≡ Some c) (is : y ≡ from_host b (call x r)) (served : IsServed rows after more b c.who x r) where
  not-told : (h : ℕ) (m : _) → y ≡ to_host h m → ⊥
  not-told h m e = not-both b h (call x r) m (sym is ∙ e)

  -- what is sent does not put off
  hopes-on : (h : ℕ) → ((d : Client) (t : Ticket) → slice_get clients h ≡ Some d → d.ticket ≡ Some t → Safe h d t more) → Hopeful clients (y ∷ ys) h
      → Hopeful clients (ys ++ more) h
  hopes-on h safe k = record {
    client = k.client;
    under = k.under;
    at = k.at;
    opened = k.opened;
    unpaused = k.unpaused;
    safe = λ t asks. safe-append h k.client t ys more (safe-rest h k.client t y ys (λ n. not-told h _ n.is) (k.safe t asks)) (safe k.client t k.at asks);
  }

  pub other-hopes : (h : ℕ) → h ≢ b → Hopeful clients (y ∷ ys) h → Hopeful clients (ys ++ more) h
  other-hopes h apart k = hopes-on h (λ d t there asks. safe-none h d t more (λ z i o. apart (served.replies z i h t.xid _ o.is).0)) k

  -- its request under way is another one, or one that is not put off so
  not-this : (t : Ticket) → (t.xid ≡ x → (st : Refusal) → is_put_off st ≡ true → refusal_counts st t.request t.job ≡ true → ⊥) → Safe b c t more
  not-this t never = safe-none b c t more (λ z i o. never (served.replies z i b t.xid _ o.is).1 o.status o.off o.counts)

  own-client : (d : Client) → slice_get clients b ≡ Some d → c ≡ d
  own-client d there = some-same c d (sym at ∙ there)

  all-or : ((t : Ticket) → c.ticket ≡ Some t → Safe b c t more) → (h : ℕ) → Hopeful clients (y ∷ ys) h → Hopeful clients (ys ++ more) h
  all-or own h k = whose (h == b) refl
    where
      whose : (e : Bool) → (h == b) ≡ e → Hopeful clients (ys ++ more) h
      whose false e = other-hopes h (λ same. let yes : (h == b) ≡ true = number-same h b same in absurd (cc)) k
      whose true e =
          let same : h ≡ b = same-number h b e in
          hopes-on h (λ d t there asks.
          let here : slice_get clients b ≡ Some d = subst (λ n. slice_get clients n ≡ Some d) same there in
          let one = own-client d here in
          subst (λ n. Safe n d t more) (sym same) (subst (λ (z : Client). Safe b z t more) one (own t (ap (λ (z : Client). z.ticket) one ∙ asks)))) k

  pub goes-on : (holder : (f : ℕ) (own : Row) → find_row f b rows ≡ Some own → own.who ≡ c.who) (f h : ℕ) (was row : Row) → find_row f h rows ≡ Some was
      → IsStill was row → find_row f h after ≡ Some row → Goes clients (y ∷ ys) f h was
      → Goes clients (ys ++ more) f h row
  goes-on holder f h was row found s there (waits d n here noted tag) = waits d n here noted (tag ∙ sym s.tag)
  goes-on holder f h was row found s there (told n (inl e)) = absurd (not-told h _ e)
  goes-on holder f h was row found s there (told n (inr i)) = told n (in-left ys more _ (subst (λ w. In ys (to_host h (call n (Request.Evicted w f row.tag))))
      (sym s.who) (subst (λ t. In ys (to_host h (call n (Request.Evicted was.who f t)))) (sym s.tag) i)))
  goes-on holder f h was row found s there (vacated n (inr i)) = vacated n (in-left ys more _ (subst (λ w. In ys (from_host h (call n
      (Request.Vacated w f row.tag)))) (sym s.who) (subst (λ t. In ys (from_host h (call n (Request.Vacated was.who f t)))) (sym s.tag) i)))
  goes-on holder f h was row found s there (vacated n (inl e)) =
      let m = message-same b h (call x r) (call n (Request.Vacated was.who f was.tag)) (sym is ∙ e) in
      let k = call-same x n r (Request.Vacated was.who f was.tag) m.1 in
      let mine : find_row f b rows ≡ Some was = subst (λ n. find_row f n rows ≡ Some was) (sym m.0) found in
      let who : was.who ≡ c.who = holder f was mine in
      let gone : find_row f b after ≡ None = served.takes f was.tag was (k.1 ∙ ap (λ w. Request.Vacated w f was.tag) who) mine who refl in
      none-some row (sym gone ∙ subst (λ n. find_row f n after ≡ Some row) (sym m.0) there)

  module _ (a : Caller rows b x r c) where
    -- ---- put off for its own row: the notice comes before

    first-cancels : (f n : ℕ) (own : Row) → (t : Ticket) → c.ticket ≡ Some t → find_row f b rows ≡ Some own → wants_of f r ≡ true
        → more ≡ to_host b (call n (Request.Evicted own.who f own.tag)) ∷ to_host b (reply x (Reply.Refused c.who.inc Refusal.TryLater)) ∷ [] → Safe b c t more
    first-cancels f n own t asks found wants sends = by (t.xid == x) refl
      where
        by : (e : Bool) → (t.xid == x) ≡ e → Safe b c t more
        by false e = not-this t (λ same st off counts. let yes : (t.xid == x) ≡ true = number-same t.xid x same in absurd (cc))
        by true e =
            let one : t.request ≡ r = a.same t asks (same-number t.xid x e) in
            subst (λ ms. Safe b c t ms) (sym sends) (inl (record {
              number = n;
              file = f;
              tag = own.tag;
              is = ap (λ w. to_host b (call n (Request.Evicted w f own.tag))) (a.holder f own found);
              wants = ap (λ z. wants_of f z) one ∙ wants;
              heard = a.held f own found;
            }))

    -- ---- put off for rows of others

    pub only-own : (h : ℕ) → Hopeful clients (y ∷ ys) h → h ≡ b → (c.call ≡ None) → ⊥
    only-own h k same none = none-some k.under (sym none ∙ ap (λ (z : Client). z.call) (own-client k.client (subst
        (λ n. slice_get clients n ≡ Some k.client) same k.at)) ∙ k.opened)

    not-own : c.call ≡ None → (h : ℕ) → Hopeful clients (y ∷ ys) h → Hopeful clients (ys ++ more) h
    not-own none h k = whose (h == b) refl
      where
        whose : (e : Bool) → (h == b) ≡ e → Hopeful clients (ys ++ more) h
        whose true e = absurd (only-own h k (same-number h b e) none)
        whose false e = other-hopes h (λ same. let yes : (h == b) ≡ true = number-same h b same in absurd (cc)) k

    off-for-others : (f ch : ℕ) (clash : Row) → file_of r ≡ Some f → InWay rows b f (access_by r) ch clash → AreTold after more b f r → OnlyStays rows after
        → Fate rows after clients y ys more b c
    off-for-others f ch clash on way each only = asking c.ticket refl
      where
        is-call : (t : Ticket) → c.ticket ≡ Some t → t.xid ≡ x → t.job ≡ for_call → (o : Option UnderWay) → c.call ≡ o → Fate rows after clients y ys more b c
        is-call t asks number job None none = all_on (not-own none)
        is-call t asks number job (Some u) opened =
            let one : t.request ≡ r = a.same t asks number in
            let m = a.meant t u f asks job opened (ap file_of one ∙ on) in
            let access : access_by r ≡ access_of_call u.call = sym (ap access_by one) ∙ m.1 in
            off other-hopes (record {
              u = u;
              f = f;
              ch = ch;
              clash = clash;
              opened = opened;
              file = m.0;
              way = subst (λ e. InWay rows b f e ch clash) access way;
              told_all = λ h row w. each h row (subst (λ e. InWay after b f e h row) (sym access) w);
              only = only;
            })

        renewal : (t : Ticket) → c.ticket ≡ Some t → t.job ≡ renewing → (o : Option UnderWay) → c.call ≡ o → Fate rows after clients y ys more b c
        renewal t asks job None none = all_on (not-own none)
        renewal t asks job (Some u) opened = absurd (a.unrenewed t u asks opened job)

        of-job : (t : Ticket) → c.ticket ≡ Some t → t.xid ≡ x → (job : Job) → t.job ≡ job → Fate rows after clients y ys more b c
        of-job t asks number for_call job = is-call t asks number job c.call refl
        of-job t asks number renewing job = renewal t asks job c.call refl
        of-job t asks number attaching job = all_on (all-or (λ v has. not-this v (λ same st off counts.
            let one : t ≡ v = some-same t v (sym asks ∙ has) in
            let none : refusal_counts st v.request v.job ≡ false = ap (refusal_counts st v.request) (ap (λ (z : Ticket). z.job) (sym one) ∙ job) in
            absurd (cc))))
        of-job t asks number pushing job = all_on (all-or (λ v has. not-this v (λ same st off counts.
            let one : t ≡ v = some-same t v (sym asks ∙ has) in
            let none : refusal_counts st v.request v.job ≡ false = ap (refusal_counts st v.request) (ap (λ (z : Ticket). z.job) (sym one) ∙ job)
            ∙ ap not off in
            absurd (cc))))

        numbered : (t : Ticket) → c.ticket ≡ Some t → (e : Bool) → (t.xid == x) ≡ e → Fate rows after clients y ys more b c
        numbered t asks true e = of-job t asks (same-number t.xid x e) t.job refl
        numbered t asks false e = all_on (all-or (λ v has. not-this v (λ same st off counts.
            let one : t ≡ v = some-same t v (sym asks ∙ has) in
            let yes : (t.xid == x) ≡ true = number-same t.xid x (ap (λ (z : Ticket). z.xid) one ∙ same) in
            absurd (cc))))

        asking : (o : Option Ticket) → c.ticket ≡ o → Fate rows after clients y ys more b c
        asking None none = all_on (all-or (λ v has. none-some v (sym none ∙ has)))
        asking (Some t) asks = numbered t asks (t.xid == x) refl

    pub fate : Fate rows after clients y ys more b c
    fate = by served.outcome
      where
        by : Outcome rows after more b c.who x r → Fate rows after clients y ys more b c
        by (quiet never from) = all_on (λ h k. hopes-on h (λ d t there asks. safe-none h d t more (λ z i o. never z i h t.xid d.who.inc o.status o.is
            o.off)) k)
        by (by_own f n own wants found sends same) = all_on (all-or (λ t asks. first-cancels f n own t asks found wants sends))
        by (by_others f ch clash on way each only) = off-for-others f ch clash on way each only
