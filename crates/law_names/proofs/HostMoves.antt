-- What a host makes of calls and datagrams keeps what it has right.
use Rattle.std.proofs.Common.{◌≡◌, ◌≤◌, ℕ, Bool, true, false, not, List, [], ◌∷◌, Option, Some, None, if◌then◌else◌, refl, sym, subst, ap, ◌∙◌, inl, inr}
use Rattle.std.proofs.lemmas.Bool.{and_parts, not-true}
use Rattle.std.specs.List.{filter}
use Rattle.nq_base.specs.declared.Call.{Call}
use Rattle.nq_base.specs.declared.Grant.{Grant}
use Rattle.nq_directory.specs.Names.{put_names}
use Rattle.nq_directory.specs.Prefix.{directory}
use Rattle.nq_directory.proofs.Called.{same-self}
use Rattle.nq_directory.specs.Messages.{Listing, page, most_names}
use Rattle.nq_model.specs.protocol.Change.{AreApart}
use Rattle.nq_model.specs.protocol.Client.{Lease}
use Rattle.nq_model.specs.protocol.Hear.{breaks}
use Rattle.nq_model.specs.protocol.Kept.{File, find_name}
use Rattle.nq_model.specs.protocol.Profile.{same_bytes}
use Rattle.nq_model.specs.protocol.Table.{tag_below}
use Rattle.nq_directory.specs.Asking.{goes_on, is_reading, last_id}
use Rattle.nq_directory.specs.NameCacheNames.{DirList, Names, Request, before_call, forgets, forgets_all, other_request}
use Rattle.walk_steps.proofs.ClientMoves.{some-same, none-some}
use Rattle.walk_steps.proofs.Packets.{In}
use Rattle.law_names.proofs.Chains.{Chained}
use Rattle.law_names.proofs.Claims.{Ground, Good, HostFits, IsClaimed, IsForgotten, ListFits, PageFits, PartFits, ToldTo}
use Rattle.law_names.proofs.Pages.{IsUpTo, IsWhole, becomes-whole, grows, nothing-yet}
use Rattle.law_names.proofs.ServedMoves.{filtered-in}

-- ---- fewer names

-- a host keeps some of its names, and nothing else
pub record KeepsFewer (n after : Names) : Type 0 where
  pub who : after.who ≡ n.who
  pub lists : (l : DirList) → In after.lists l → In n.lists l
  pub asked : (r : Request) → after.asked ≡ Some r → n.asked ≡ Some r

pub fewer-fits : (e : Ground) (host now : ℕ) (n after : Names) → KeepsFewer n after → HostFits e host n now → HostFits e host after now
fewer-fits e host now n after k h = record {
  lists = λ l i. subst (λ w. ListFits e host w now l) (sym k.who) (h.lists l (k.lists l i));
  part = λ r is. let p = h.part r (k.asked r is) in (p.0, subst (λ w. PartFits e host w now r r.part.lease) (sym k.who) p.1);
  pages = λ r l g is t has reads.
      subst (λ w. PageFits e host w now r l g) (sym k.who)
      (h.pages r l g (k.asked r is) (subst (λ w. ToldTo e.sent host r.xid w.inc (page l)) k.who t) has reads);
}

pub fewer-claims : (n after : Names) → KeepsFewer n after → (prefix : List ℕ) → IsClaimed after prefix → IsClaimed n prefix
fewer-claims n after k prefix (inl p) = inl (p.0, k.lists p.0 p.1, p.2)
fewer-claims n after k prefix (inr p) = inr (p.0, k.asked p.0 p.1, p.2)

other-asked : (prefix : List ℕ) (o : Option Request) (r : Request) → other_request prefix o ≡ Some r → (o ≡ Some r) × (same_bytes r.part.prefix prefix ≡ false)
other-asked prefix None r h = absurd (cc)
other-asked prefix (Some q) r h = step (same_bytes q.part.prefix prefix) refl h
  where
    step : (b : Bool) → same_bytes q.part.prefix prefix ≡ b → (if b then None else Some q) ≡ Some r → (Some q ≡ Some r)
        × (same_bytes r.part.prefix prefix ≡ false)
    step true e f = absurd (cc)
    step false e f = (f, ap (λ x. same_bytes x.part.prefix prefix) (some-same r q (sym f)) ∙ e)

passed : {A : Type 0} (p : A → Bool) (x : A) (xs : List A) → In (filter p xs) x → p x ≡ true
passed p x [] i = absurd i
passed p x (y ∷ xs) i = step (p y) refl (λ j. passed p x xs j) i
  where
    step : (b : Bool) → p y ≡ b → (In (filter p xs) x → p x ≡ true) → In (if b then y ∷ filter p xs else filter p xs) x → p x ≡ true
    step true e rest (inl same) = ap p (sym same) ∙ e
    step true e rest (inr j) = rest j
    step false e rest j = rest j

pub forgets-fewer : (prefix : List ℕ) (n : Names) → KeepsFewer n (forgets prefix n)
forgets-fewer prefix n = record {
  who = refl;
  lists = λ l i. filtered-in (λ x. not (same_bytes x.prefix prefix)) l n.lists i;
  asked = λ r is. (other-asked prefix n.asked r is).0;
}

-- nothing of a directory that was forgotten is kept
pub forgotten : (prefix : List ℕ) (n : Names) → IsClaimed (forgets prefix n) prefix → ⊥
forgotten prefix n (inl p) =
    let no : same_bytes p.0.prefix prefix ≡ false = not-true _ (passed (λ x. not (same_bytes x.prefix prefix)) p.0 n.lists p.1) in
    let yes : same_bytes p.0.prefix prefix ≡ true = ap (λ x. same_bytes x prefix) p.2 ∙ same-self prefix in
    absurd (cc)
forgotten prefix n (inr p) =
    let no = (other-asked prefix n.asked p.0 p.1).1 in
    let yes : same_bytes p.0.part.prefix prefix ≡ true = ap (λ x. same_bytes x prefix) p.2 ∙ same-self prefix in
    absurd (cc)

-- before a call
pub before-fewer : (n : Names) (op : Call) → KeepsFewer n (before_call n op)
before-fewer n (Call.Create name blocks) = forgets-fewer (directory name) n
before-fewer n (Call.Remove file) = record { who = refl; lists = λ l i. absurd i; asked = λ r is. none-some r is }
before-fewer n other = record { who = refl; lists = λ l i. i; asked = λ r is. is }

pub before-forgets : (n : Names) (op : Call) → IsForgotten (before_call n op) op
before-forgets n (Call.Create name blocks) = forgotten (directory name) n
before-forgets n (Call.Remove file) = λ prefix c. none prefix c
  where
    none : (prefix : List ℕ) → IsClaimed (forgets_all n) prefix → ⊥
    none prefix (inl p) = p.1
    none prefix (inr p) = none-some p.0 p.1
before-forgets n other = tt

pub still-forgotten : (n after : Names) (call : Call) → KeepsFewer n after → IsForgotten n call → IsForgotten after call
still-forgotten n after (Call.Create name blocks) k h = λ c. h (fewer-claims n after k (directory name) c)
still-forgotten n after (Call.Remove file) k h = λ prefix c. h prefix (fewer-claims n after k prefix c)
still-forgotten n after other k h = tt

-- nothing is kept
pub no-names : (e : Ground) (host now : ℕ) (n : Names) → n.lists ≡ [] → n.asked ≡ None → HostFits e host n now
no-names e host now n lists asked = record {
  lists = λ l i. absurd (subst (λ ls. In ls l) lists i);
  part = λ r is. none-some r (sym asked ∙ is);
  pages = λ r l g is t has reads. none-some r (sym asked ∙ is);
}

-- ---- a page is taken

-- what the kept files are: in order of their ids, which begin at 1, each with a name of its own
pub record AreKept (files : List File) : Type 0 where
  pub apart : AreApart files
  pub from_one : (name : List ℕ) (f : File) → find_name name files ≡ Some f → 1 ≤ f.id

module _ (e : Ground) (host : ℕ) (n : Names) (now : ℕ) (kept : AreKept e.kept.files) (h : HostFits e host n now) (r : Request) (l : Listing) (g : Grant)
    (is : n.asked ≡ Some r) (told : ToldTo e.sent host r.xid n.who.inc (page l)) (has : l.grant ≡ Some g) (on : goes_on r.part (Some g) ≡ true) where
  both : (is_reading g.mode ≡ true) × (not (breaks g r.part.lease) ≡ true)
  both = and_parts (is_reading g.mode) (not (breaks g r.part.lease)) on

  fits : PageFits e host n.who now r l g
  fits = h.pages r l g is told has both.0

  -- what came so far is right
  so-far : (o : Option Lease) → breaks g o ≡ false → PartFits e host n.who now r o → Chained e.served r.part.prefix n.who g.tag
      → IsUpTo r.part.prefix r.after r.part.names e.kept.files
  so-far None whole p c =
      subst (λ after. IsUpTo r.part.prefix after r.part.names e.kept.files) (sym p.1)
      (subst (λ names. IsUpTo r.part.prefix 0 names e.kept.files) (sym p.0) (nothing-yet r.part.prefix e.kept.files kept.from_one))
  so-far (Some lease) whole p c =
      p.1.right (record {
        number = c.number;
        numbered = c.numbered;
        row = c.row;
        stands = c.stands;
        holder = c.holder;
        caching = c.caching;
        began = ap (tag_below lease.tag) (fits.since c) ∙ whole;
      })

  before : Chained e.served r.part.prefix n.who g.tag → IsUpTo r.part.prefix r.after r.part.names e.kept.files
  before c = so-far r.part.lease (not-true (breaks g r.part.lease) both.1) (h.part r is).1 c

  -- the list goes on
  pub page-goes-on : Good e host n.who now r.part.prefix g.tag r.sent g.term (IsUpTo r.part.prefix (last_id r.after l.names) (put_names l.names r.part.names))
  page-goes-on =
      let k = fits.good in
      record {
        drawn = k.drawn;
        past = k.past;
        inc = k.inc;
        right = λ c. grows most_names r.part.prefix r.after r.part.names l.names e.kept.files kept.apart (before c) (k.right c).names;
        short = k.short;
        covered = k.covered;
        waits = k.waits;
        above = k.above;
      }

  -- or is whole
  pub page-ends : l.more ≡ false → Good e host n.who now r.part.prefix g.tag r.sent g.term (IsWhole r.part.prefix (put_names l.names r.part.names))
  page-ends none =
      let k = fits.good in
      record {
        drawn = k.drawn;
        past = k.past;
        inc = k.inc;
        right = λ c. becomes-whole most_names r.part.prefix r.after r.part.names l.names e.kept.files kept.apart (before c) (k.right c).names
            (sym (k.right c).more ∙ none);
        short = k.short;
        covered = k.covered;
        waits = k.waits;
        above = k.above;
      }
