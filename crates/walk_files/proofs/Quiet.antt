-- What the journal tells of an incarnation's calls is the same after an entry that is none of its calls, answers, writes and
-- resizes.
use Rattle.std.proofs.Common.{◌≡◌, ◌≢◌, ◌⊎◌, ℕ, List, [], ◌∷◌, ◌++◌, Option, Some, None, refl, sym, subst, inl, inr}
use Rattle.std.specs.Prelude.{⊤}
use Rattle.nq_base.specs.Block.{value_of}
use Rattle.nq_base.specs.declared.Entry.{Entry}
use Rattle.nq_base.specs.declared.Entry.TheVariants.{C, W, Z, A}
use Rattle.nq_base.specs.declared.Request.{Request}
use Rattle.nq_base.specs.declared.Request.TheVariants.{Read, Write, Resize, Remove}
use Rattle.nq_base.specs.declared.Told.{Told}
use Rattle.nq_base.specs.declared.Who.{Who}
use Rattle.walk_files.proofs.CallsEntries.{entry_who}
use Rattle.walk_files.proofs.Placed.{call-told}
use Rattle.walk_steps.proofs.ClientMoves.{some-same}
use Rattle.nq_model.specs.laws.Journal.{Exists, Throughout, IsCall, IsAnswer, IsOpen, call_of}
use Rattle.nq_model.specs.protocol.Message.{asker}
use Rattle.nq_model.specs.laws.OfTheirCall.{Reads}
use Rattle.nq_model.specs.laws.Ordered.{Writes, Resizes, IsBeforeCall, IsNumbered, IsWriteInOrder, IsResizeBy, IsResizeInOrder}

-- the entry is no C and no A of an incarnation
pub record IsNoCall (who : Who) (e : Entry) : Type 0 where
  pub call : (q : ℕ) → IsCall who q e → ⊥
  pub answer : (q : ℕ) → IsAnswer who q e → ⊥

-- the entry is no W and no Z of an incarnation
pub record IsNoChange (who : Who) (e : Entry) : Type 0 where
  pub write : (n : ℕ) → IsNumbered who n e → ⊥
  pub resize : (q : ℕ) → IsResizeBy who q e → ⊥

pub record IsQuiet (who : Who) (e : Entry) : Type 0 where
  pub no_call : IsNoCall who e
  pub no_change : IsNoChange who e

-- an entry of another incarnation is quiet
pub foreign-quiet : (who : Who) (e : Entry) → ((w : Who) → entry_who e ≡ Some w → w ≢ who) → IsQuiet who e
foreign-quiet who (C w q told) other =
    record { no_call = record { call = λ n h. other w refl h.0; answer = λ n h. h }; no_change = record { write = λ n h. h; resize = λ n h. h } }
foreign-quiet who (A w q said) other =
    record { no_call = record { call = λ n h. h; answer = λ n h. other w refl h.0 }; no_change = record { write = λ n h. h; resize = λ n h. h } }
foreign-quiet who (W w file block number value through) other =
    record { no_call = record { call = λ n h. h; answer = λ n h. h }; no_change = record { write = λ n h. other w refl h.0; resize = λ n h. h } }
foreign-quiet who (Z w q file from to) other =
    record { no_call = record { call = λ n h. h; answer = λ n h. h }; no_change = record { write = λ n h. h; resize = λ n h. other w refl h.0 } }
foreign-quiet who e other = record { no_call = record { call = λ n h. h; answer = λ n h. h }; no_change = record { write = λ n h. h; resize = λ n h. h } }

-- ---- calls

pub open-more : {who : Who} {e : Entry} (journal : List Entry) (q : ℕ) → IsNoCall who e → IsOpen journal who q → IsOpen (e ∷ journal) who q
open-more {who = who} {e = e} journal q quiet h = (inr h.0, λ a. none a)
  where
    none : IsAnswer who q e ⊎ Exists (IsAnswer who q) journal → ⊥
    none (inl now) = quiet.answer q now
    none (inr before) = h.1 before

pub open-before : {who : Who} {e : Entry} (journal : List Entry) (q : ℕ) → IsNoCall who e → IsOpen (e ∷ journal) who q → IsOpen journal who q
open-before {who = who} {e = e} journal q quiet h = (called h.0, λ a. h.1 (inr a))
  where
    called : IsCall who q e ⊎ Exists (IsCall who q) journal → Exists (IsCall who q) journal
    called (inl now) = absurd (quiet.call q now)
    called (inr before) = before

-- what a call is stays told
pub told-more : (P : Option Told → Type 0) → (P None → ⊥) → (e : Entry) (journal : List Entry) (who : Who) (q : ℕ) → P (call_of journal who q)
    → P (call_of (e ∷ journal) who q)
told-more P none e journal who q h = case (call_of journal who q) refl h
  where
    case : (o : Option Told) → call_of journal who q ≡ o → P o → P (call_of (e ∷ journal) who q)
    case None is p = absurd (none p)
    case (Some told) is p = subst P (sym (call-told e journal who q told is)) p

-- ---- writes and resizes

before-call : (who : Who) (q : ℕ) (e : Entry) (journal : List Entry) → IsNoChange who e → IsBeforeCall who q e journal
before-call who q (W by file block number value through) journal quiet = λ same. absurd (quiet.write number (same, refl))
before-call who q other journal quiet = tt

pub before-more : {who : Who} {e : Entry} (journal : List Entry) (q : ℕ) → IsNoChange who e → Throughout (IsBeforeCall who q) journal
    → Throughout (IsBeforeCall who q) (e ∷ journal)
before-more {who = who} {e = e} journal q quiet h = (before-call who q e journal quiet, h)

pub write-more : {who : Who} {e : Entry} {journal : List Entry} (file block number value : ℕ) → IsQuiet who e
    → IsWriteInOrder journal who file block number value → IsWriteInOrder (e ∷ journal) who file block number value
write-more {who = who} {e = e} {journal = journal} file block number value quiet (q, h) = (
  q,
  record {
    is_open = open-more journal q quiet.no_call h.is_open;
    only = λ other is. h.only other (open-before journal other quiet.no_call is);
    call = told-more (Writes file block value) (λ p. p) e journal who q h.call;
    first = before-more journal q quiet.no_change h.first;
    fresh = λ n. fresh n;
  },
) where
  fresh : IsNumbered who number e ⊎ Exists (IsNumbered who number) journal → ⊥
  fresh (inl now) = quiet.no_change.write number now
  fresh (inr before) = h.fresh before

pub resize-more : {who : Who} {e : Entry} {journal : List Entry} (q file to : ℕ) → IsQuiet who e → IsResizeInOrder journal who q file to
    → IsResizeInOrder (e ∷ journal) who q file to
resize-more {who = who} {e = e} {journal = journal} q file to quiet h = record {
  is_open = open-more journal q quiet.no_call h.is_open;
  call = told-more (Resizes file to) (λ p. p) e journal who q h.call;
  first = λ n. first n;
} where
  first : IsResizeBy who q e ⊎ Exists (IsResizeBy who q) journal → ⊥
  first (inl now) = quiet.no_change.resize q now
  first (inr before) = h.first before

-- ---- requests

-- an open request is one that its call made, which made nothing yet
abbrev pub OpenFits : Request → List Entry → Type 0
OpenFits (Write who seq file block first last None body) journal = IsWriteInOrder journal who file block first (value_of body)
OpenFits (Resize who seq q file blocks) journal = IsResizeInOrder journal who q file blocks
OpenFits (Remove who seq q file) journal = IsResizeInOrder journal who q file 0
OpenFits other journal = ⊤

pub open-fits-more : (r : Request) (who : Who) (e : Entry) (journal : List Entry) → asker r ≡ Some who → IsQuiet who e → OpenFits r journal
    → OpenFits r (e ∷ journal)
open-fits-more (Write w seq file block first last None body) who e journal by quiet h =
    write-more file block first (value_of body) (subst (λ v. IsQuiet v e) (sym (some-same w who by)) quiet) h
open-fits-more (Resize w seq q file blocks) who e journal by quiet h = resize-more q file blocks (subst (λ v. IsQuiet v e) (sym (some-same w who by)) quiet) h
open-fits-more (Remove w seq q file) who e journal by quiet h = resize-more q file 0 (subst (λ v. IsQuiet v e) (sym (some-same w who by)) quiet) h
open-fits-more other who e journal by quiet h = tt

-- a READ is of what its call reads
abbrev pub ReadFits : Request → List Entry → Type 0
ReadFits (Read who q file block want) journal = Reads file block (call_of journal who q)
ReadFits other journal = ⊤

pub read-fits-more : (r : Request) (e : Entry) (journal : List Entry) → ReadFits r journal → ReadFits r (e ∷ journal)
read-fits-more (Read who q file block want) e journal h = told-more (Reads file block) (λ p. p) e journal who q h
read-fits-more other e journal h = tt

pub read-fits-later : (r : Request) (more journal : List Entry) → ReadFits r journal → ReadFits r (more ++ journal)
read-fits-later r [] journal h = h
read-fits-later r (e ∷ more) journal h = read-fits-more r e (more ++ journal) (read-fits-later r more journal h)
