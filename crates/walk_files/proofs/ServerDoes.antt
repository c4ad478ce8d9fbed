-- What a step of the server does to contents, and what its replies tell of them.
use Rattle.std.proofs.Common.{◌≡◌, ◌≤◌, ◌<◌, ℕ, zero, suc, ◌+◌, List, [], ◌∷◌, ◌++◌, Some, None, map, replicate, length, refl, sym, ap, ◌∙◌, arith}
use Rattle.std.specs.Prelude.{slice_get, slice_set}
use Rattle.std.proofs.lemmas.List.{length-append, length-replicate, length-take, length-map}
use Rattle.nq_base.specs.Block.{value_of}
use Rattle.nq_base.specs.declared.Entry.{Entry}
use Rattle.nq_base.specs.declared.Refusal.{Refusal}
use Rattle.nq_base.specs.declared.Reply.{Reply}
use Rattle.nq_base.specs.declared.Request.{Request}
use Rattle.nq_base.specs.declared.Verdict.{Verdict}
use Rattle.nq_base.specs.declared.Who.{Who}
use Rattle.walk_steps.proofs.ClientMoves.{some-same, none-some}
use Rattle.walk_files.proofs.Facts.{History, Follows, HadValue, HadLength, SetsBlock, Tells, IsDone, LineTells, IsFile, FilesFit, UnusedFit}
use Rattle.walk_files.proofs.FileMoves.{ChangesOnly}
use Rattle.walk_files.proofs.Histories.{count-changed, content-stays, content-changed, change-changed}
use Rattle.nq_model.specs.laws.Contents.{changes_of, after_change, with_length, content_at, change_at}
use Rattle.nq_model.specs.protocol.Decide.{verdict_reply}
use Rattle.nq_model.specs.protocol.Hear.{inc_of}
use Rattle.nq_model.specs.protocol.Kept.{File, blocks_of, host_row}
use Rattle.nq_model.specs.protocol.Message.{Packet, reply, asker}
use Rattle.nq_model.specs.protocol.Server.{Server, ServerStep, to_host}
use Rattle.walk_steps.proofs.Packets.{In, Asked}
use Rattle.walk_steps.proofs.Worlds.{get-set-other}

-- ---- lists by place

pub get-set-there : {A : Type 0} (xs : List A) (i : ℕ) (x : A) → i < length xs → slice_get (slice_set xs i x) i ≡ Some x
get-set-there [] i x below = absurd (omega arith)
get-set-there (y ∷ xs) zero x below = refl
get-set-there (y ∷ xs) (suc i) x below = get-set-there xs i x (omega arith)

pub get-mapped : {A B : Type 0} (f : A → B) (xs : List A) (i : ℕ) (x : A) → slice_get xs i ≡ Some x → slice_get (map f xs) i ≡ Some (f x)
get-mapped f [] i x h = none-some x h
get-mapped f (y ∷ xs) zero x h = ap (λ z. Some (f z)) (some-same y x h)
get-mapped f (y ∷ xs) (suc i) x h = get-mapped f xs i x h

-- ---- what a kept file tells

pub file-value : {h : History} (id : ℕ) (f : File) (block : ℕ) (body : List ℕ) → IsFile h id f → slice_get f.bodies block ≡ Some body
    → HadValue h id f.rev block (value_of body)
file-value id f block body k there =
    let rev = k.revision in
    record {
      drawn = k.drawn;
      had = record { reached = omega arith; has = ap (λ values. slice_get values block) (sym k.content) ∙ get-mapped value_of f.bodies block body there };
    }

pub file-length : {h : History} (id : ℕ) (f : File) → IsFile h id f → HadLength h id f.rev (blocks_of f)
file-length id f k =
    let rev = k.revision in
    record {
      drawn = k.drawn;
      had = record { reached = omega arith; length = ap (λ values. length values) (sym k.content) ∙ length-map f.bodies value_of };
    }

-- the file is written by this entry
module _ (h : History) (e : Entry) (after : ℕ → ℕ) (same : (id : ℕ) → id < h.next → after id ≡ h.first id) (f : File) (fits : IsFile h f.id f)
    (only : ChangesOnly e f.id) where
  abbrev pub next_history : History
  next_history = record { journal = e ∷ h.journal; first = after; next = h.next }

  pub content-written : content_at (e ∷ h.journal) (after f.id) f.id (f.rev + 1) ≡ after_change e h.journal
      (content_at h.journal (after f.id) f.id (changes_of h.journal f.id))
  content-written = ap (λ n. content_at (e ∷ h.journal) (after f.id) f.id (n + 1)) fits.revision ∙ content-changed e h.journal (after f.id) f.id only.this

  pub values-before : content_at h.journal (after f.id) f.id (changes_of h.journal f.id) ≡ map value_of f.bodies
  values-before =
      ap (λ n. content_at h.journal n f.id (changes_of h.journal f.id)) (same f.id fits.drawn)
      ∙ ap (content_at h.journal (h.first f.id) f.id) (sym fits.revision) ∙ sym fits.content

  pub reached-now : f.rev + 1 ≤ changes_of (e ∷ h.journal) f.id
  reached-now = let a = count-changed e h.journal f.id only.this in let b = fits.revision in omega arith

  pub sets-block : (block v : ℕ) → ((values : List ℕ) → after_change e h.journal values ≡ slice_set values block v) → block < blocks_of f
      → SetsBlock next_history f.id (f.rev + 1) block v
  sets-block block v sets below = record {
    value = record {
      drawn = fits.drawn;
      had = record {
        reached = reached-now;
        has =
            ap (λ values. slice_get values block) (content-written ∙ sets _)
            ∙ get-set-there _ block v (let size = ap (λ values. length values) values-before ∙ length-map f.bodies value_of in omega arith);
      };
    };
    others = λ old other w next apart had. record {
      drawn = fits.drawn;
      had = record {
        reached = reached-now;
        has =
            ap (λ values. slice_get values other) (content-written ∙ sets _)
            ∙ get-set-other _ block other v apart
            ∙ ap (λ n. slice_get (content_at h.journal (after f.id) f.id n) other)
            (let rev = fits.revision in let one : changes_of h.journal f.id ≡ old = omega arith in one)
            ∙ ap (λ values. slice_get values other) (sym (content-stays e h.journal (after f.id) f.id old (let rev = fits.revision in omega arith)))
            ∙ had.had.has;
      };
    };
  }

  pub is-change : change_at (e ∷ h.journal) f.id (f.rev + 1) ≡ Some e
  is-change = ap (λ n. change_at (e ∷ h.journal) f.id (n + 1)) fits.revision ∙ change-changed e h.journal f.id only.this

  pub sets-length : (blocks : ℕ) → ((values : List ℕ) → after_change e h.journal values ≡ with_length blocks values)
      → HadLength next_history f.id (f.rev + 1) blocks
  sets-length blocks sets = record {
    drawn = fits.drawn;
    had = record {
      reached = reached-now;
      length = ap (λ values. length values) (content-written ∙ sets _) ∙ lengthened _;
    };
  } where
    lengthened : (values : List ℕ) → length (with_length blocks values) ≡ blocks
    lengthened values =
        omega (arith, length-take blocks (values ++ replicate blocks 0), length-append values (replicate blocks 0), length-replicate {A = ℕ} blocks 0)

-- ---- what a step shows

-- a reply is to a request that was sent, and what it tells is true
pub record IsTrue (g : History) (ps : List Packet) (host xid : ℕ) (a : Reply) : Type 0 where
  pub asks : Request
  pub who : Who
  pub sent : Asked ps host xid asks
  pub by : asker asks ≡ Some who
  pub inc : inc_of a ≡ who.inc
  pub tells : Tells g asks a

-- the history before and after a step
abbrev pub history_of : List Entry → (ℕ → ℕ) → Server → History
history_of journal first s = record { journal = journal; first = first; next = s.kept.next }

abbrev pub history_after : List Entry → (ℕ → ℕ) → ServerStep → History
history_after journal after t = record { journal = t.entries ++ journal; first = after; next = t.server.kept.next }

pub record Shows (journal : List Entry) (first after : ℕ → ℕ) (ps : List Packet) (s : Server) (t : ServerStep) : Type 0 where
  pub follow : Follows (history_of journal first s) (history_after journal after t)
  pub files : FilesFit (history_after journal after t) t.server.kept.files
  pub unused : UnusedFit (history_after journal after t)
  pub replies : (host xid : ℕ) (a : Reply) → In t.sends (to_host host (reply xid a)) → IsTrue (history_after journal after t) ps host xid a
  pub lines : (host : ℕ) → LineTells (history_after journal after t) ps host (host_row t.server.kept host)

-- a refusal tells nothing
pub refused-tells : (g : History) (r : Request) (inc : ℕ) (status : Refusal) → Tells g r (Reply.Refused inc status)
refused-tells g (Request.Read w q file block want) inc status = tt
refused-tells g (Request.GetLease w file want) inc status = tt
refused-tells g (Request.Write w seq file block first last push body) inc status = tt
refused-tells g (Request.Resize w seq q file blocks) inc status = tt
refused-tells g other inc status = tt

-- the reply that a verdict gives
pub verdict-tells : (g : History) (inc : ℕ) (v : Verdict) (value : ℕ) (r : Request) → (v ≡ Verdict.Done → IsDone g value r)
    → Tells g r (verdict_reply inc v value r)
verdict-tells g inc Verdict.Done value (Request.Create w seq name blocks) done = tt
verdict-tells g inc Verdict.Done value (Request.Write w seq file block first last None body) done = ((done refl).changed, tt)
verdict-tells g inc Verdict.Done value (Request.Write w seq file block first last (Some push) body) done = ((done refl).changed, (done refl).change.0)
verdict-tells g inc Verdict.Done value (Request.Resize w seq q file blocks) done = (done refl).changed
verdict-tells g inc Verdict.Done value (Request.Remove w seq q file) done = tt
verdict-tells g inc Verdict.Done value (Request.Read w q file block want) done = tt
verdict-tells g inc Verdict.Done value (Request.GetLease w file want) done = tt
verdict-tells g inc Verdict.Done value other done = tt
verdict-tells g inc Verdict.Fenced value r done = refused-tells g r inc Refusal.Fenced
verdict-tells g inc Verdict.Exist value r done = refused-tells g r inc Refusal.Exist
verdict-tells g inc Verdict.NoSpace value r done = refused-tells g r inc Refusal.NoSpc
verdict-tells g inc Verdict.Invalid value r done = refused-tells g r inc Refusal.Inval
verdict-tells g inc Verdict.Stale value r done = refused-tells g r inc Refusal.Stale
verdict-tells g inc Verdict.TryLater value r done = refused-tells g r inc Refusal.TryLater
