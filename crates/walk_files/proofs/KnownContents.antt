-- What a client knows of the contents of files, and what of it stays as a run goes on.
use Rattle.std.proofs.Common.{◌≡◌, ◌≢◌, ◌<◌, ◌≤◌, ℕ, ◌+◌, ◌==◌, Bool, true, false, ◌&&◌, List, [], ◌∷◌, ◌++◌, Option, Some, None, is_some}
use Rattle.std.proofs.Common.{if◌then◌else◌, refl, sym, ◌∙◌, arith}
use Rattle.std.specs.Option.{option_or}
use Rattle.std.proofs.lemmas.Bool.Decides.{nat_tests}
use Rattle.nq_base.specs.Block.{value_of}
use Rattle.nq_base.specs.declared.Entry.{Entry}
use Rattle.nq_base.specs.declared.Push.{Push}
use Rattle.nq_base.specs.declared.Reply.{Reply}
use Rattle.nq_base.specs.declared.Request.{Request}
use Rattle.nq_base.specs.declared.Who.{Who}
use Rattle.walk_steps.proofs.ClientFacts.{changes_file, push_in}
use Rattle.walk_files.proofs.Facts.{History, Follows, HadValue, value-follows, Tells}
use Rattle.walk_files.proofs.Histories.{NoChanges, delayed-more}
use Rattle.nq_model.specs.laws.Contents.{changes_of, delayed_by, delayed_value}
use Rattle.nq_model.specs.protocol.Client.{Clean, ClientStep, Revision, Ticket, clean_at, dirty_at, revision_of, revision_or_zero}
use Rattle.nq_model.specs.protocol.Hear.{inc_of}
use Rattle.nq_model.specs.protocol.Message.{Message, Packet, call, reply, sequence_of}
use Rattle.walk_steps.proofs.Packets.{In, Told}
use Rattle.walk_steps.proofs.Incarnations.{one-who}
use Rattle.walk_steps.proofs.Rows.{same-number, number-same}
use Rattle.nq_model.specs.protocol.Table.{same_who}

-- what of a client's step speaks of contents
pub record Part : Type 0 where
  pub who : Who
  pub ticket : Option Ticket
  pub xid : ℕ
  pub seq : ℕ
  pub number : ℕ
  pub dirty : List Push
  pub clean : List Clean
  pub revisions : List Revision
  pub sends : List Message
  pub entries : List Entry

abbrev pub part_of : ClientStep → Part
part_of t = record {
  who = t.client.who;
  ticket = t.client.ticket;
  xid = t.client.xid;
  seq = t.client.seq;
  number = t.client.number;
  dirty = t.client.dirty;
  clean = t.client.clean;
  revisions = t.client.revisions;
  sends = t.sends;
  entries = t.entries;
}

-- the history in the middle of a step
abbrev pub history_in : (journal : List Entry) (first : ℕ → ℕ) (next : ℕ) → List Entry → History
history_in journal first next entries = record { journal = entries ++ journal; first = first; next = next }

-- a revision that a client knows was reached, and its file was made
pub record IsKnown (h : History) (file rev : ℕ) : Type 0 where
  pub drawn : file < h.next
  pub reached : rev ≤ changes_of h.journal file

-- a clean block has the value of the revision that is known
pub record IsClean (h : History) (revisions : List Revision) (file block : ℕ) (k : Clean) : Type 0 where
  pub revision : Revision
  pub known : revision_of file revisions ≡ Some revision
  pub had : HadValue h file revision.rev block (value_of k.body)

-- a push under way comes over the revision that is known
abbrev pub IsOverKnown : List Revision → Request → Type 0
IsOverKnown revisions (Request.Write who seq file block f l (Some push) body) = push.base ≡ revision_or_zero (revision_of file revisions)
IsOverKnown revisions other = Unit {0}

-- delayed writes have the value of the last of them
abbrev pub IsPending : List Entry → Who → Push → Type 0
IsPending journal who p = delayed_value journal who p.file p.block p.last ≡ Some (value_of p.body)

-- a push that is sent has the value of the last of its writes
abbrev pub IsPushed : List Entry → Request → Type 0
IsPushed journal (Request.Write who seq file block f l (Some push) body) = delayed_value journal who file block l ≡ Some (value_of body)
IsPushed journal other = Unit {0}

-- and sequences begin with 1
abbrev pub IsFair : List Entry → Request → Type 0
IsFair journal r = IsPushed journal r × (sequence_of r ≡ Some 0 → ⊥)

-- no write of an incarnation has a number from this one on
abbrev pub NoneFrom : List Entry → Who → (number : ℕ) → Type 0
NoneFrom journal who number = (file block n : ℕ) → number ≤ n → delayed_value journal who file block n ≡ None

-- entries that delay no write but of this incarnation
abbrev pub OnlyDelayedBy : Who → List Entry → Type 0
OnlyDelayedBy who [] = Unit {0}
OnlyDelayedBy who (e ∷ es) = ((w : Who) (file block n : ℕ) → w ≢ who → delayed_by e w file block n ≡ None) × OnlyDelayedBy who es

pub only-delayed : (who w : Who) (es j : List Entry) (file block n : ℕ) → OnlyDelayedBy who es → w ≢ who
    → delayed_value (es ++ j) w file block n ≡ delayed_value j w file block n
only-delayed who w [] j file block n h apart = refl
only-delayed who w (e ∷ es) j file block n h apart =
    rw (h.0 w file block n apart) (or-none (delayed_value (es ++ j) w file block n) ∙ only-delayed who w es j file block n h.1 apart)
  where
    or-none : (o : Option ℕ) → option_or o None ≡ o
    or-none None = refl
    or-none (Some v) = refl

-- what is known of contents; the replies are those that came before the step
pub record Mid (journal : List Entry) (first : ℕ → ℕ) (next : ℕ) (ps : List Packet) (p : Part) : Type 0 where
  pub known : (file : ℕ) (r : Revision) → revision_of file p.revisions ≡ Some r → IsKnown (history_in journal first next p.entries) file r.rev
  pub clean : (file block : ℕ) (k : Clean) → clean_at file block p.clean ≡ Some k → IsClean (history_in journal first next p.entries) p.revisions file block k
  pub base : (t : Ticket) → p.ticket ≡ Some t → IsOverKnown p.revisions t.request
  pub again : (t : Ticket) (q : Push) → p.ticket ≡ Some t → push_in t.request ≡ Some q → is_some (dirty_at q.file q.block p.dirty) ≡ true
      → clean_at q.file q.block p.clean ≡ None
  pub changing : (t : Ticket) (file block : ℕ) → p.ticket ≡ Some t → changes_file t.request ≡ Some file → clean_at file block p.clean ≡ None
  pub told : (t : Ticket) (a : Reply) → p.ticket ≡ Some t → Told ps p.who.host (reply t.xid a) → inc_of a ≡ p.who.inc
      → Tells (history_in journal first next p.entries) t.request a
  pub numbers : (x : ℕ) (a : Reply) → Told ps p.who.host (reply x a) → inc_of a ≡ p.who.inc → x < p.xid
  pub dirty : (q : Push) → In p.dirty q → IsPending (p.entries ++ journal) p.who q
  pub fresh : NoneFrom (p.entries ++ journal) p.who p.number
  pub later : (w : Who) → w.host ≡ p.who.host → p.who.inc < w.inc → NoneFrom (p.entries ++ journal) w 0
  pub idle : NoChanges p.entries
  pub own : OnlyDelayedBy p.who p.entries
  pub counted : 1 ≤ p.seq
  pub pushes : (x : ℕ) (r : Request) → In p.sends (call x r) → IsFair (p.entries ++ journal) r

pub known-follows : {h g : History} (file rev : ℕ) → Follows h g → IsKnown h file rev → IsKnown g file rev
known-follows file rev f k =
    let a = k.drawn in let b = f.ids in let c = k.reached in let d = f.counts file in record { drawn = omega arith; reached = omega arith }

pub clean-follows : {h g : History} (revisions : List Revision) (file block : ℕ) (k : Clean) → Follows h g → IsClean h revisions file block k
    → IsClean g revisions file block k
clean-follows revisions file block k f c =
    record { revision = c.revision; known = c.known; had = value-follows file c.revision.rev block (value_of k.body) f c.had }

pub pushed-more : (e : Entry) (j : List Entry) (r : Request) → IsPushed j r → IsPushed (e ∷ j) r
pushed-more e j (Request.Write who seq file block f l (Some push) body) h = delayed-more (e ∷ []) j who file block l (value_of body) h
pushed-more e j other h = tt

pub fair-more : (e : Entry) (j : List Entry) (r : Request) → IsFair j r → IsFair (e ∷ j) r
fair-more e j r h = (pushed-more e j r h.0, h.1)

pub call-same-request : (x y : ℕ) (r s : Request) → call x r ≡ call y s → r ≡ s
call-same-request x y r s e = cc

who-differs : (by w : Who) → w ≢ by → same_who by w ≡ false
who-differs by w apart = case (by.host == w.host) (by.inc == w.inc) refl refl
  where
    case : (a b : Bool) → (by.host == w.host) ≡ a → (by.inc == w.inc) ≡ b → a && b ≡ false
    case true true d e = absurd (apart (one-who w by (sym (same-number _ _ d)) (sym (same-number _ _ e))))
    case true false d e = refl
    case false b d e = refl

-- a write that was delayed has its value under its number, and others have theirs
pub delayed-step : (who : Who) (file block number v : ℕ) → delayed_by (Entry.W who file block number v false) who file block number ≡ Some v
delayed-step who file block number v =
    let a : (who.host == who.host) ≡ true = number-same who.host who.host refl in
    let b : (who.inc == who.inc) ≡ true = number-same who.inc who.inc refl in
    let c : (file == file) ≡ true = number-same file file refl in
    let d : (block == block) ≡ true = number-same block block refl in
    let e : (number == number) ≡ true = number-same number number refl in
    rw (a, b, c, d, e) refl

pub delayed-later : (who : Who) (file block number v f b n : ℕ) → number + 1 ≤ n → delayed_by (Entry.W who file block number v false) who f b n ≡ None
delayed-later who file block number v f b n above = case (same_who who who && file == f && block == b)
  where
    case : (x : Bool) → (if x && number == n then Some v else None) ≡ None
    case true = let other : (number == n) ≡ false = grind (arith, nat_tests) in rw other refl
    case false = refl

pub delayed-other : (who w : Who) (file block number v f b n : ℕ) → w ≢ who → delayed_by (Entry.W who file block number v false) w f b n ≡ None
delayed-other who w file block number v f b n apart = rw (who-differs who w apart) refl
