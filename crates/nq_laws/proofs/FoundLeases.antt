-- In every run each lease of a client is the one that is found for its file: there is one for each file.
use Rattle.std.proofs.Common.{◌≡◌, ◌≢◌, ◌⊎◌, ℕ, ◌+◌, ◌==◌, Bool, true, false, not, nat_lt, if◌then◌else◌, List, [], ◌∷◌, Some, refl, sym, subst, ap}
use Rattle.std.proofs.Common.{◌∙◌, inl, inr, arith}
use Rattle.std.specs.Prelude.{slice_get, slice_set}
use Rattle.std.specs.Option.{option_map}
use Rattle.nq_base.specs.declared.Event.{Event}
use Rattle.nq_base.specs.declared.Grant.{Grant}
use Rattle.nq_base.specs.declared.Tag.{Tag}
use Rattle.nq_model.proofs.ClientLists.{used-lease-found, other-lease-dropped, put-lease-found, other-lease-put}
use Rattle.nq_model.specs.protocol.ByFile.{insert_by}
use Rattle.nq_model.specs.protocol.Client.{Client, ClientStep, Lease, file_of_lease, lease_on, drop_lease, put_lease, used_lease, marked_used}
use Rattle.nq_model.specs.protocol.ClientStep.{client_tick, at_time, starts, fresh_client, attached_client}
use Rattle.nq_model.specs.protocol.Hear.{hear, granted_lease}
use Rattle.nq_model.specs.protocol.Message.{Message, reply}
use Rattle.nq_model.specs.protocol.World.{Head, World, after_client, after_server, start, run}
use Rattle.walk_steps.proofs.ClientCases.{Core, Closed}
use Rattle.walk_steps.proofs.ClientFacts.{Alone}
use Rattle.walk_steps.proofs.ClientWalk.{reply-keeps, notice-keeps, call-keeps, tick-keeps}
use Rattle.walk_steps.proofs.StepCases.{heard-cases}
use Rattle.walk_steps.proofs.Members.{in-filter}
use Rattle.walk_steps.proofs.Packets.{In, Told}
use Rattle.walk_steps.proofs.Steps.{Changes, nothing, by_client, by_server, ClientActs, called, ticked, restarted, heard, step-changes}
use Rattle.walk_steps.proofs.Worlds.{IsAt, Holds, given-by, run-holds, get-set-same, get-set-other, first-client, to-told}
use Rattle.walk_steps.proofs.Packets.{in-get}
use Rattle.walk_steps.proofs.Rows.{same-number, number-same}
use Rattle.nq_laws.proofs.ClientHopes.{map-in}

-- each lease is the one that is found for its file
abbrev pub AreFound : List Lease → Type 0
AreFound leases = (l : Lease) → In leases l → lease_on l.file leases ≡ Some l

marked-file : (f : ℕ) (l : Lease) → (marked_used f l).file ≡ l.file
marked-file f l = by (l.file == f)
  where
    by : (b : Bool) → (if b then record l { used = true } else l).file ≡ l.file
    by true = refl
    by false = refl

pub used-found : (f : ℕ) (leases : List Lease) → AreFound leases → AreFound (used_lease f leases)
used-found f leases all l i =
    let m = map-in (marked_used f) leases l i in
    let file : l.file ≡ m.0.file = ap (λ (z : Lease). z.file) m.2 ∙ marked-file f m.0 in
    ap (λ n. lease_on n (used_lease f leases)) file ∙ used-lease-found m.0.file f leases ∙ ap (option_map (marked_used f)) (all m.0 m.1) ∙ ap Some (sym m.2)

dropped-found : (f : ℕ) (leases : List Lease) → AreFound leases → AreFound (drop_lease f leases)
dropped-found f leases all l i =
    let m = in-filter (λ (z : Lease). not (z.file == f)) leases l i in
    other-lease-dropped f l.file leases (λ same. let yes : (l.file == f) ≡ true = number-same l.file f same in let no : not (l.file == f) ≡ false =
    ap not yes in absurd (cc)) ∙ all l m.0

in-insert : (x : Lease) (ys : List Lease) (l : Lease) → In (insert_by file_of_lease x ys) l → (x ≡ l) ⊎ In ys l
in-insert x [] l (inl e) = inl e
in-insert x [] l (inr bad) = absurd bad
in-insert x (y ∷ ys) l i = by (nat_lt x.file y.file) (λ j. in-insert x ys l j) i
  where
    by : (b : Bool) → (In (insert_by file_of_lease x ys) l → (x ≡ l) ⊎ In ys l) → In (if b then x ∷ y ∷ ys else y ∷ insert_by file_of_lease x ys) l
        → (x ≡ l) ⊎ In (y ∷ ys) l
    by true again (inl e) = inl e
    by true again (inr j) = inr j
    by false again (inl e) = inr (inl e)
    by false again (inr j) = next (again j)
      where
        next : (x ≡ l) ⊎ In ys l → (x ≡ l) ⊎ In (y ∷ ys) l
        next (inl e) = inl e
        next (inr k) = inr (inr k)

put-found : (x : Lease) (leases : List Lease) → AreFound leases → AreFound (put_lease x leases)
put-found x leases all l i = by (in-insert x (drop_lease x.file leases) l i)
  where
    by : (x ≡ l) ⊎ In (drop_lease x.file leases) l → lease_on l.file (put_lease x leases) ≡ Some l
    by (inl e) = put-lease-found x l.file leases (ap (λ (z : Lease). z.file) (sym e)) ∙ ap Some e
    by (inr j) =
        let m = in-filter (λ (z : Lease). not (z.file == x.file)) leases l j in
        other-lease-put x l.file leases (λ same. let yes : (l.file == x.file) ≡ true = number-same l.file x.file same in let no : not
        (l.file == x.file) ≡ false = ap not yes in absurd (cc)) ∙ all l m.0

abbrev pub FoundIn : Core → Type 0
FoundIn k = AreFound k.leases

pub found-closed : (Heard : ℕ → Tag → Type 0) (Given : ℕ → Grant → ℕ → Type 0) → Closed Heard Given FoundIn
found-closed Heard Given = record {
  uses = λ k file h. used-found file k.leases h;
  drops = λ k file h. dropped-found file k.leases h;
  vacates = λ k file tag can h. dropped-found file k.leases h;
  asks = λ k job request no_seq can h. h;
  decides = λ k job request seq can h. h;
  again = λ k t is h. h;
  holds = λ k file g sent given free unnoticed h. put-found (granted_lease file g sent) k.leases h;
  cancels = λ k file h. h;
  notes = λ k file tag heard h. h;
}

-- ---- steps

abbrev any-heard : ℕ → Tag → Type 0
any-heard f tag = Unit {0}

abbrev no-given : ℕ → Grant → ℕ → Type 0
no-given f g sent = ⊥

hear-found : (host : ℕ) (c : Client) (k : ℕ) (m : Message) (t : ClientStep) (ps : _) → IsAt host c ps → Told ps host m → AreFound c.leases
    → hear c k m ≡ Some t → AreFound t.client.leases
hear-found host c k m t ps a mail all hears = heard-cases c k m t (λ (u : ClientStep). AreFound u.client.leases) hears (record {
  answered = λ xid r ticket is asks own inc counts. (reply-keeps (found-closed any-heard (given-by ticket)) c k ticket r (record {
    asked = asks;
    counts = counts;
    alone = a.alone;
    spent = λ other. all;
    attached = λ job. all;
    brings = λ file on g grants. (
      on,
      (a.mail.replied xid r (subst (λ n. Told ps n (reply xid r)) (sym a.here) (subst
          (λ z. Told ps host z) is mail)) inc).wants ticket asks (sym own) g grants file on,
    );
    only = λ file g sent given. given;
  })).core;
  noticed = λ xid file tag is older. (notice-keeps (found-closed any-heard no-given) c file tag tt (λ g sent bad. bad) a.alone all).core;
})

tick-found : (c : Client) → Alone c → AreFound c.leases → AreFound (client_tick c (c.now + 1)).client.leases
unfolding at_time
tick-found c alone all = (tick-keeps (found-closed any-heard no-given) c (c.now + 1) (omega arith) alone all).core

EachFound : World → Type 0
EachFound w = (host : ℕ) (c : Client) → slice_get w.clients host ≡ Some c → AreFound c.leases

acted : (w : World) (host : ℕ) (c : Client) (t : ClientStep) → slice_get w.clients host ≡ Some c → Holds w → ClientActs w host c t → AreFound c.leases
    → AreFound t.client.leases
unfolding starts fresh_client
acted w host c t at holds (called op is) all = subst (λ (v : ClientStep). AreFound v.client.leases) (sym is) (call-keeps
    (found-closed any-heard no-given) c op (holds.clients host c at).alone all).core
acted w host c t at holds (ticked is) all = subst (λ (v : ClientStep). AreFound v.client.leases) (sym is) (tick-found c (holds.clients host c at).alone all)
acted w host c t at holds (restarted is) all = subst (λ (v : ClientStep). AreFound v.client.leases) (sym is) (λ l i. absurd i)
acted w host c t at holds (heard k p sent to hears) all =
    let i = in-get w.packets k p sent in
    hear-found host c k p.message t w.packets (holds.clients host c at) (to-told w.packets p host (holds.sent p i) to i) all hears

client-found : (w : World) (host : ℕ) (c : Client) (t : ClientStep) → slice_get w.clients host ≡ Some c → ClientActs w host c t → Holds w → EachFound w
    → EachFound (after_client w host t)
unfolding after_client EachFound
client-found w host c t at acts holds all = λ other d is. case other d (other == host) refl is
  where
    here : AreFound t.client.leases
    here = acted w host c t at holds acts (all host c at)

    case : (other : ℕ) (d : Client) (b : Bool) → (other == host) ≡ b → slice_get (slice_set w.clients host t.client) other ≡ Some d → AreFound d.leases
    case other d true same is =
        let one : other ≡ host = same-number other host same in
        let new : d ≡ t.client = get-set-same w.clients host t.client d (subst (λ n. slice_get (slice_set w.clients host t.client) n ≡ Some d) one is) in
        subst (λ (x : Client). AreFound x.leases) (sym new) here
    case other d false differs is =
        let apart : other ≢ host = λ same. let yes : (other == host) ≡ true = number-same other host same in absurd (cc) in
        all other d (sym (get-set-other w.clients host other t.client apart) ∙ is)

changed-found : (w v : World) → Changes w v → Holds w → EachFound w → EachFound v
unfolding after_server EachFound
changed-found w v (nothing is) holds all = subst EachFound (sym is) all
changed-found w v (by_client host c t at acts to) holds all = subst EachFound (sym to) (client-found w host c t at acts holds all)
changed-found w v (by_server t acts to) holds all = subst EachFound (sym to) all

first-found : (head : Head) → EachFound (start head)
unfolding start attached_client fresh_client EachFound
first-found head host c is = subst (λ (x : Client). AreFound x.leases) (sym (first-client head.term 0 head.hosts host c is)) (λ l i. absurd i)

run-each : (head : Head) (events : List Event) → EachFound (run head events)
run-each head [] = first-found head
run-each head (e ∷ events) = changed-found (run head events) (run head (e ∷ events)) (step-changes (run head events) e) (run-holds head events)
    (run-each head events)

pub run-found : (head : Head) (events : List Event) (host : ℕ) (c : Client) → slice_get (run head events).clients host ≡ Some c → AreFound c.leases
unfolding EachFound
run-found head events host c at = run-each head events host c at
