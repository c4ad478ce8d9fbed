-- What is asked of the bytes of the messages holds of them.
use Rattle.std.proofs.Common.{◌≡◌, ◌<◌, ◌^◌, ℕ, ◌==◌, Bool, true, false, List, ◌++◌, Option, Some, None, Ok, Err, if◌then◌else◌, refl, sym, subst, ap}
use Rattle.std.proofs.Common.{◌∙◌, arith}
use Rattle.std.specs.Prelude.{IfSome, Result}
use Rattle.nq_base.specs.Name.{IsName}
use Rattle.nq_base.specs.declared.Grant.{Grant}
use Rattle.nq_base.specs.declared.Request.{Request}
use Rattle.nq_base.specs.declared.Who.{Who}
use Rattle.nq_datagrams.proofs.Readers.{server-reads-messages}
use Rattle.nq_datagrams.specs.Incoming.{datagram_in}
use Rattle.nq_datagrams.specs.Messages.{bytes_of}
use Rattle.nq_directory.specs.Prefix.{directory}
use Rattle.nq_directory.proofs.Again.{answers-are-read, evicted-are-read, read-dirs-are-read, vacated-are-read}
use Rattle.nq_directory.specs.declared.listing.messages.DirTag.{DirTag}
use Rattle.nq_directory.specs.declared.listing.messages.ReadDir.{ReadDir}
use Rattle.nq_directory.specs.Messages.{Answer, IsAnswer, IsDirTag, IsReadDir, answer_bytes, dir_evicted, dir_evicted_bytes, dir_tag_arguments}
use Rattle.nq_directory.specs.Messages.{dir_vacated, dir_vacated_bytes, front_bytes, head_of, page, read_dir, read_dir_arguments, read_dir_bytes}
use Rattle.nq_directory.specs.Messages.{results, wait}
use Rattle.nq_directory.specs.Reading.{call_as, call_by, call_in, dir_evicted_in, dir_tag_by, dir_vacated_in, read_dir_by, read_dir_in, results_by}
use Rattle.nq_directory.specs.Reading.{results_in, results_of, told_at, told_by, told_for, told_in}
use Rattle.nq_model.specs.protocol.Kept.{File, Kept, find_file}
use Rattle.nq_model.specs.protocol.Message.{call, request}
use Rattle.nq_directory.specs.Asking.{is_reading}
use Rattle.nq_name_server.specs.Outside.{Changes, changes_as, changes_of, own_changes}
use Rattle.nq_xdr.proofs.Messages.{message_again, null_fits}
use Rattle.nq_xdr.specs.Message.{call_with, null, numbers, reply_with, spelling}
use Rattle.nq_wire.specs.Parts.{grant_bytes, head, optional, tag_bytes, IsGrant}
use Rattle.nq_wire.specs.Request.{arguments, procedure_of}
use Rattle.nq_wire.specs.declared.Garbage.{Garbage}
use Rattle.nq_xdr.specs.Item.{boolean, opaque, word}
use Rattle.walk_steps.proofs.ClientMoves.{none-some, some-same}
use Rattle.walk_steps.proofs.Rows.{number-same, same-number}
use Rattle.law_names.proofs.Codec.{IsAsking, IsChange, IsCodec, IsGiving, IsNoticed, IsNoticing, IsRead, IsSame, IsTold}
use Rattle.nq_xdr.proofs.SameNumbers.{same-hyper, same-word}

-- ---- calls

-- the number of a call is told by its bytes alone
same-call : (xid other procedure : ℕ) (args : List ℕ) → word xid ≡ word other
    → spelling (call_with (head_of xid procedure) args) null null ≡ spelling (call_with (head_of other procedure) args) null null
unfolding spelling numbers
same-call xid other procedure args same = rw same refl

-- the call of one procedure is none of another
call-other : (xid procedure other : ℕ) (args : List ℕ) → procedure < 2 ^ 32 → (procedure == other) ≡ false
    → call_in other (spelling (call_with (head_of xid procedure) args) null null) ≡ None
unfolding call_in call_as
call-other xid procedure other args small differs =
    let n = same-word xid in
    let fits = n.fits in
    ap (call_in other) (same-call xid n.number procedure args n.same)
    ∙ ap (call_by other)
    (message_again (call_with (head_of n.number procedure) args) null null
    (record { xid = fits; rpcvers = omega arith; prog = omega arith; vers = omega arith; procedure = small }) null_fits null_fits)
    ∙ rw differs refl

-- no call is a reply
call-untold : (number xid procedure : ℕ) (args : List ℕ) → procedure < 2 ^ 32 → results_in number (spelling (call_with (head_of xid procedure) args)
    null null) ≡ None
unfolding results_in
call-untold number xid procedure args small =
    let n = same-word xid in
    let fits = n.fits in
    ap (results_in number) (same-call xid n.number procedure args n.same)
    ∙ ap (results_by number)
    (message_again (call_with (head_of n.number procedure) args) null null
    (record { xid = fits; rpcvers = omega arith; prog = omega arith; vers = omega arith; procedure = small }) null_fits null_fits)

-- ---- READDIRLOOK

pub asks : (r : ReadDir) → IsAsking r → IsRead r
unfolding read_dir_bytes read_dir_arguments
asks r a =
    let t = same-word r.term in
    let fits : IsReadDir (record r { term = t.number }) =
    record { xid = a.xid; who = record { host = a.host; inc = a.inc }; prefix = a.prefix; after = a.after; term = t.fits } in
    record {
      term = t.number;
      reads = ap read_dir_in (same t.number t.same) ∙ read-dirs-are-read (record r { term = t.number }) fits;
      fits = fits;
    }
  where
    same : (term : ℕ) → word r.term ≡ word term → read_dir_bytes r ≡ read_dir_bytes (record r { term = term })
    same term e = ap (λ w. spelling (call_with (head_of r.xid read_dir) (head r.who ++ opaque r.prefix ++ word r.after ++ w)) null null) e

-- ---- DIREVICTED and DIRVACATED

-- one whose numbers fit, spelled the same
record SameTag (t : DirTag) : Type 0 where
  other : DirTag
  fits : IsDirTag other
  prefix : other.prefix ≡ t.prefix
  tag : other.tag ≡ t.tag
  number : word t.xid ≡ word other.xid
  args : dir_tag_arguments t ≡ dir_tag_arguments other

same-tag : (t : DirTag) → IsNoticing t → SameTag t
unfolding dir_tag_arguments head
same-tag t n =
    let x = same-word t.xid in
    let h = same-word t.who.host in
    let i = same-word t.who.inc in
    record {
      other = record { xid = x.number; who = record { host = h.number; inc = i.number }; prefix = t.prefix; tag = t.tag };
      fits = record { xid = x.fits; who = record { host = h.fits; inc = i.fits }; prefix = n.prefix; tag = n.tag };
      prefix = refl;
      tag = refl;
      number = x.same;
      args = rw (h.same, i.same) refl;
    }

same-spelled : (t : DirTag) (s : SameTag t) (procedure : ℕ) → spelling (call_with (head_of t.xid procedure) (dir_tag_arguments t)) null null
    ≡ spelling (call_with (head_of s.other.xid procedure) (dir_tag_arguments s.other)) null null
same-spelled t s procedure =
    same-call t.xid s.other.xid procedure (dir_tag_arguments t) s.number
    ∙ ap (λ args. spelling (call_with (head_of s.other.xid procedure) args) null null) s.args

vacated-spelled : (t : DirTag) → dir_vacated_bytes t ≡ spelling (call_with (head_of t.xid dir_vacated) (dir_tag_arguments t)) null null
unfolding dir_vacated_bytes
vacated-spelled t = refl

evicted-spelled : (t : DirTag) → dir_evicted_bytes t ≡ spelling (call_with (head_of t.xid dir_evicted) (dir_tag_arguments t)) null null
unfolding dir_evicted_bytes
evicted-spelled t = refl

pub gives : (t : DirTag) → IsNoticing t → IsGiving t
unfolding read_dir_in
gives t n =
    let s = same-tag t n in
    record {
      no_request = ap read_dir_by (ap (call_in read_dir) (vacated-spelled t) ∙ call-other t.xid dir_vacated read_dir (dir_tag_arguments t) (omega arith) refl);
      given = s.other;
      reads = ap dir_vacated_in (vacated-spelled t ∙ same-spelled t s dir_vacated ∙ sym (vacated-spelled s.other)) ∙ vacated-are-read s.other s.fits;
      prefix = s.prefix;
      tag = s.tag;
    }

pub notices : (t : DirTag) → IsNoticing t → IsNoticed t
unfolding told_in
notices t n =
    let s = same-tag t n in
    record {
      untold = λ xid inc. ap (told_by inc) (ap (results_in xid) (evicted-spelled t) ∙ call-untold xid t.xid dir_evicted (dir_tag_arguments t) (omega arith));
      told = s.other;
      reads = ap dir_evicted_in (evicted-spelled t ∙ same-spelled t s dir_evicted ∙ sym (evicted-spelled s.other)) ∙ evicted-are-read s.other s.fits;
      prefix = s.prefix;
      tag = s.tag;
    }

-- ---- replies

-- a tag, and a grant, whose numbers fit, spelled the same
record SameGrant (g : Grant) : Type 0 where
  other : Grant
  fits : IsGrant other
  mode : other.mode ≡ g.mode
  same : grant_bytes g ≡ grant_bytes other

same-grant : (g : Grant) → SameGrant g
unfolding grant_bytes tag_bytes
same-grant g =
    let t = same-word g.term in
    let a = same-word g.tag.boot in
    let b = same-hyper g.tag.number in
    let c = same-word g.since.boot in
    let d = same-hyper g.since.number in
    let r = same-hyper g.rev in
    let l = same-word g.blocks in
    record {
      other = record {
        mode = g.mode;
        term = t.number;
        tag = record { boot = a.number; number = b.number };
        since = record { boot = c.number; number = d.number };
        rev = r.number;
        blocks = l.number;
      };
      fits = record {
        term = t.fits;
        tag = record { boot = a.fits; number = b.fits };
        since = record { boot = c.fits; number = d.fits };
        rev = r.fits;
        blocks = l.fits;
      };
      mode = refl;
      same = rw (t.same, a.same, b.same, c.same, d.same, r.same, l.same) refl;
    }

abbrev IsSomeGrant : Option Grant → Type 0
IsSomeGrant o = IfSome o IsGrant

-- an answer whose numbers fit, spelled the same
record SameAnswer (a : Answer) : Type 0 where
  other : Answer
  fits : IsAnswer other
  same : (inc : ℕ) → results inc a ≡ results inc other
  is : IsSame a other

same-answer : (a : Answer) → IsTold a → SameAnswer a
unfolding results optional boolean
same-answer wait told = record { other = wait; fits = tt; same = λ inc. refl; is = tt }
same-answer (page l) told = by l.grant refl
  where
    whole : IsSomeGrant l.grant → SameAnswer (page l)
    whole g = record {
      other = page l;
      fits = record { few = told.few; names = told.names; grant = g };
      same = λ inc. refl;
      is = (refl, refl, λ x e reads. e);
    }

    by : (o : Option Grant) → l.grant ≡ o → SameAnswer (page l)
    by None e = whole (subst IsSomeGrant (sym e) tt)
    by (Some g) e = mode (is_reading g.mode) refl
      where
        mode : (b : Bool) → is_reading g.mode ≡ b → SameAnswer (page l)
        mode true f = whole (subst IsSomeGrant (sym e) (told.grant g e f))
        mode false f =
            let s = same-grant g in
            record {
              other = page (record l { grant = Some s.other });
              fits = record { few = told.few; names = told.names; grant = s.fits };
              same = λ inc. ap (λ x. front_bytes inc l.names l.more ++ optional grant_bytes x) e ∙ ap (λ x. front_bytes inc l.names l.more ++ x) (there s);
              is = (refl, refl, λ x h reads. unread s x (some-same s.other x h) reads);
            }
          where
            there : (s : SameGrant g) → optional grant_bytes (Some g) ≡ optional grant_bytes (Some s.other)
            there s = ap (λ x. boolean true ++ x) s.same

            unread : (s : SameGrant g) (x : Grant) → s.other ≡ x → is_reading x.mode ≡ true → l.grant ≡ Some x
            unread s x one reads =
                let no : is_reading x.mode ≡ false = ap (λ y. is_reading y.mode) (sym one) ∙ ap is_reading s.mode ∙ f in
                absurd (cc)

-- what is read of the results
results-read : (number xid : ℕ) (rs : List ℕ) → xid < 2 ^ 32 → results_in number (spelling (reply_with xid rs) null null)
    ≡ (if xid == number then Some rs else None)
unfolding results_in results_of
results-read number xid rs fits = ap (results_by number) (message_again (reply_with xid rs) null null (fits, tt) null_fits null_fits)

answer-spelled : (xid inc : ℕ) (a : Answer) → answer_bytes xid inc a ≡ spelling (reply_with xid (results inc a)) null null
unfolding answer_bytes
answer-spelled xid inc a = refl

abbrev IsSaid : Result (ℕ × Answer) Garbage → ℕ → Answer → Type 0
IsSaid said inc a = said ≡ Ok (inc, a)

-- what a reply says is what its results say
told-whole : (inc : ℕ) (a : Answer) (said : Result (ℕ × Answer) Garbage) → told_for inc said ≡ Some a → IsSaid said inc a
told-whole inc a (Err e) h = none-some a h
told-whole inc a (Ok t) h = by (t.0 == inc) refl h
  where
    by : (b : Bool) → (t.0 == inc) ≡ b → (if b then Some t.1 else None) ≡ Some a → IsSaid (Ok t) inc a
    by true e f = ap (λ n. Ok (n, t.1)) (same-number t.0 inc e) ∙ ap (λ x. Ok (inc, x)) (some-same t.1 a f)
    by false e f = none-some a f

results-told : (xid inc : ℕ) (a : Answer) → xid < 2 ^ 32 → inc < 2 ^ 32 → IsAnswer a → told_at (results inc a) ≡ Ok (inc, a)
unfolding told_in
results-told xid inc a low small fits =
    let whole : (xid == xid) ≡ true = number-same xid xid refl in
    let spelled : results_in xid (answer_bytes xid inc a) ≡ Some (results inc a) =
    ap (results_in xid) (answer-spelled xid inc a) ∙ results-read xid xid (results inc a) low ∙ rw whole refl in
    told-whole inc a (told_at (results inc a)) (sym (ap (told_by inc) spelled) ∙ answers-are-read xid inc a low small fits)

pub tells : (xid inc x i : ℕ) (a b : Answer) → x < 2 ^ 32 → i < 2 ^ 32 → IsTold a → told_in xid inc (answer_bytes x i a) ≡ Some b
    → (x ≡ xid) × (i ≡ inc) × IsSame a b
unfolding told_in
tells xid inc x i a b low small told reads =
    number (x == xid) refl (sym (ap (told_by inc) (ap (results_in xid) (answer-spelled x i a) ∙ results-read xid x (results i a) low)) ∙ reads)
  where
    s : SameAnswer a
    s = same-answer a told

    of : told_at (results i a) ≡ Ok (i, s.other)
    of = ap told_at (s.same i) ∙ results-told x i s.other low small s.fits

    incs : (c : Bool) → (i == inc) ≡ c → x ≡ xid → (if c then Some s.other else None) ≡ Some b → (x ≡ xid) × (i ≡ inc) × IsSame a b
    incs true e f h =
        let one : s.other ≡ b = some-same s.other b h in
        (f, same-number i inc e, subst (IsSame a) one s.is)
    incs false e f h = none-some b h

    number : (c : Bool) → (x == xid) ≡ c → told_by inc (if c then Some (results i a) else None) ≡ Some b → (x ≡ xid) × (i ≡ inc) × IsSame a b
    number true e h = incs (i == inc) refl (same-number x xid e) (sym (ap (told_for inc) of) ∙ h)
    number false e h = none-some b h

pub tells-no-notice : (x i : ℕ) (a : Answer) → x < 2 ^ 32 → i < 2 ^ 32 → IsTold a → dir_evicted_in (answer_bytes x i a) ≡ None
unfolding dir_evicted_in call_in
tells-no-notice x i a low small told =
    ap (λ bytes. dir_tag_by (call_in dir_evicted bytes)) (answer-spelled x i a)
    ∙ ap (λ m. dir_tag_by (call_by dir_evicted m)) (message_again (reply_with x (results i a)) null null (low, tt) null_fits null_fits)

-- ---- requests that change a directory

same-request : (xid other : ℕ) (r s : Request) → word xid ≡ word other → procedure_of r ≡ procedure_of s → arguments r ≡ arguments s
    → bytes_of (call xid r) ≡ bytes_of (call other s)
unfolding bytes_of spelling numbers
same-request xid other r s number procedure args = rw (number, procedure, args) refl

owned : (host : ℕ) (c : Changes) → c.who.host ≡ host → own_changes host (Some c) ≡ Some c
owned host c same = let yes : (c.who.host == host) ≡ true = number-same c.who.host host same in rw yes refl

pub creates : (kept : Kept) (host xid : ℕ) (who : Who) (seq : ℕ) (name : List ℕ) (blocks : ℕ) → IsName name → who.host < 2 ^ 32 → who.host ≡ host
    → IsChange kept host (directory name) (bytes_of (call xid (Request.Create who seq name blocks)))
unfolding arguments head
creates kept host xid who seq name blocks named low same =
    let x = same-word xid in
    let i = same-word who.inc in
    let s = same-hyper seq in
    let b = same-word blocks in
    let w : Who = record { host = who.host; inc = i.number } in
    let r : Request = Request.Create w s.number name b.number in
    let bytes : bytes_of (call xid (Request.Create who seq name blocks)) ≡ bytes_of (call x.number r) =
    same-request xid x.number (Request.Create who seq name blocks) r x.same refl (rw (i.same, s.same, b.same) refl) in
    let is : datagram_in (bytes_of (call xid (Request.Create who seq name blocks))) ≡ request x.number r =
    ap datagram_in bytes ∙ server-reads-messages (call x.number r) (x.fits, (record { host = low; inc = i.fits }, s.fits, named, b.fits), tt) in
    record { who = w; same = same; changes = ap (changes_as kept host) is ∙ owned host (record { who = w; prefix = directory name }) same }

pub removes : (kept : Kept) (host xid : ℕ) (who : Who) (seq q file : ℕ) (f : File) → find_file file kept.files ≡ Some f → file < 2 ^ 32 → who.host < 2 ^ 32
    → who.host ≡ host → IsChange kept host (directory f.name) (bytes_of (call xid (Request.Remove who seq q file)))
unfolding arguments head
removes kept host xid who seq q file f found id low same =
    let x = same-word xid in
    let i = same-word who.inc in
    let s = same-hyper seq in
    let c = same-hyper q in
    let w : Who = record { host = who.host; inc = i.number } in
    let r : Request = Request.Remove w s.number c.number file in
    let bytes : bytes_of (call xid (Request.Remove who seq q file)) ≡ bytes_of (call x.number r) =
    same-request xid x.number (Request.Remove who seq q file) r x.same refl (rw (i.same, s.same, c.same) refl) in
    let is : datagram_in (bytes_of (call xid (Request.Remove who seq q file))) ≡ request x.number r =
    ap datagram_in bytes ∙ server-reads-messages (call x.number r) (x.fits, (record { host = low; inc = i.fits }, s.fits, c.fits, id), tt) in
    record {
      who = w;
      same = same;
      changes = ap (changes_as kept host) is ∙ ap (λ o. own_changes host (changes_of w o)) found
          ∙ owned host (record { who = w; prefix = directory f.name }) same;
    }

pub codec : IsCodec
codec = record {
  asks = asks;
  gives = gives;
  notices = notices;
  tells = tells;
  tells_no_notice = tells-no-notice;
  creates = creates;
  removes = removes;
}
