-- What an answer says is said at its place: it is of its call, and what an ok says stays true whatever the journal tells later.
use Rattle.std.proofs.Common.{◌≡◌, ◌⊎◌, ℕ, List, [], ◌∷◌, ◌++◌, Option, Some, None, refl, sym, subst, ◌∙◌, inl, inr, append_assoc}
use Rattle.std.specs.Prelude.{⊤}
use Rattle.nq_base.specs.declared.Entry.{Entry}
use Rattle.nq_base.specs.declared.Entry.TheVariants.{L, A}
use Rattle.nq_base.specs.declared.Loss.{Loss}
use Rattle.nq_base.specs.declared.Said.{Said}
use Rattle.nq_base.specs.declared.Said.TheVariants.{Ok, OkValue, OkBy, Lost, Busy}
use Rattle.nq_base.specs.declared.Told.{Told}
use Rattle.nq_base.specs.declared.Told.TheVariants.{Create, Lookup, Attr, Read, Fetch, Write, Put, Sync, Resize, Remove}
use Rattle.nq_base.specs.declared.Who.{Who}
use Rattle.walk_files.proofs.Placed.{call-later, call-told}
use Rattle.nq_model.proofs.Lists.{exists-map, each-map, exists-right}
use Rattle.nq_model.specs.laws.Journal.{Exists, Throughout, Somewhere, IsOpen, SpeaksOf, call_of, IsWriteBy, IsStored}
use Rattle.nq_model.specs.laws.Reported.{Names, loss_told}
use Rattle.nq_model.specs.laws.BusyIsSaidAtOnce.{IsBusyCall, IsBusyAtOnce, BusyIsSaidAtOnce}
use Rattle.nq_model.specs.laws.AnswersAreOfTheirCalls.{IsFormOf, IsAnswerOfCall, AnswersAreOfTheirCalls}
use Rattle.nq_model.specs.laws.Synchronized.{IsDelayedOn, IsNamedLoss, IsStoredOrTold, IsSettledResize, IsKept, IsKeptAt, IsSynchronized}

-- ---- lists

pub somewhere-more : (P Q : Entry → List Entry → Type 0) (xs : List Entry) → ((e : Entry) (before : List Entry) → P e before → Q e before)
    → Somewhere P xs → Somewhere Q xs
somewhere-more P Q [] f h = h
somewhere-more P Q (x ∷ xs) f (inl p) = inl (f x xs p)
somewhere-more P Q (x ∷ xs) f (inr h) = inr (somewhere-more P Q xs f h)

-- ---- what a call asks

speaks-later : (later journal : List Entry) (file : ℕ) (who : Who) (q : ℕ) (o : Option Told) → call_of journal who q ≡ o → SpeaksOf file o
    → SpeaksOf file (call_of (later ++ journal) who q)
speaks-later later journal file who q None e h = absurd h
speaks-later later journal file who q (Some told) e h = subst (SpeaksOf file) (sym (call-later later journal who q told e)) h

-- ---- names and losses

pub names-later : (later journal : List Entry) (who : Who) (loss : Loss) (e : Entry) → Names journal who loss e → Names (later ++ journal) who loss e
names-later later journal who loss (A by q (Lost spans)) h = (h.0, speaks-later later journal loss.file by q (call_of journal by q) refl h.1, h.2)
names-later later journal who loss other h = absurd h

named-later : (later journal answered : List Entry) (write e : Entry) → IsNamedLoss journal answered write e → IsNamedLoss (later ++ journal) answered write e
named-later later journal answered write (L who file block first last) h =
    (h.0, exists-map _ _ answered (λ a n. names-later later journal who (loss_told file block first last) a n) h.1)
named-later later journal answered write other h = absurd h

pub named-answered : (journal answered more : List Entry) (write e : Entry) → IsNamedLoss journal answered write e
    → IsNamedLoss journal (more ++ answered) write e
named-answered journal answered more write (L who file block first last) h =
    (h.0, exists-right (Names journal who (loss_told file block first last)) more answered h.1)
named-answered journal answered more write other h = absurd h

pub settled-later : (later journal stores more answered : List Entry) (who : Who) (file : ℕ) (write : Entry)
    → (IsDelayedOn who file write → IsStoredOrTold journal stores answered write)
    → (IsDelayedOn who file write → IsStoredOrTold (later ++ journal) (more ++ stores) answered write)
settled-later later journal stores more answered who file write h d = case (h d)
  where
    case : IsStored stores write ⊎ Exists (IsNamedLoss journal answered write) journal
        → IsStored (more ++ stores) write ⊎ Exists (IsNamedLoss (later ++ journal) answered write) (later ++ journal)
    case (inl stored) = inl (exists-right _ more stores stored)
    case (inr named) = inr (exists-right _ later journal (exists-map _ _ journal (λ e n. named-later later journal answered write e n) named))

-- and where more was answered
pub settled-answered : (journal stores answered more : List Entry) (who : Who) (file : ℕ) (write : Entry)
    → (IsDelayedOn who file write → IsStoredOrTold journal stores answered write)
    → (IsDelayedOn who file write → IsStoredOrTold journal stores (more ++ answered) write)
settled-answered journal stores answered more who file write h d = case (h d)
  where
    case : IsStored stores write ⊎ Exists (IsNamedLoss journal answered write) journal
        → IsStored stores write ⊎ Exists (IsNamedLoss journal (more ++ answered) write) journal
    case (inl stored) = inl stored
    case (inr named) = inr (exists-map _ _ journal (λ e n. named-answered journal answered more write e n) named)

pub resize-later : (later journal answered : List Entry) (who : Who) (q file : ℕ) (e : Entry) (before : List Entry)
    → IsSettledResize journal answered who q file e before → IsSettledResize (later ++ journal) answered who q file e before
resize-later later journal answered who q file (Entry.Z by n f from to) before h =
    (h.0, h.1, each-map _ _ answered (λ write s. settled-later later journal before [] answered who file write s) h.2)
resize-later later journal answered who q file other before h = absurd h

-- ---- what is answered ok

pub kept-later : (later journal before : List Entry) (who : Who) (q : ℕ) (o : Option Told) → IsKept journal before who q o
    → IsKept (later ++ journal) before who q o
kept-later later journal before who q (Some (Put file block value)) h = h
kept-later later journal before who q (Some (Sync file)) h =
    each-map _ _ before (λ write s. settled-later later journal journal later before who file write s) h
kept-later later journal before who q (Some (Resize file blocks)) h = somewhere-more _ _ before (λ e b r. resize-later later journal before who q file e b r) h
kept-later later journal before who q (Some (Remove file)) h = somewhere-more _ _ before (λ e b r. resize-later later journal before who q file e b r) h
kept-later later journal before who q (Some (Create name blocks)) h = tt
kept-later later journal before who q (Some (Lookup name)) h = tt
kept-later later journal before who q (Some (Attr file)) h = tt
kept-later later journal before who q (Some (Read file block)) h = tt
kept-later later journal before who q (Some (Fetch file block)) h = tt
kept-later later journal before who q (Some (Write file block value)) h = tt
kept-later later journal before who q None h = tt

-- the entry is a write of an incarnation whose call is open before it
abbrev pub IsMadeOpen : (who : Who) (q : ℕ) → Entry → List Entry → Type 0
IsMadeOpen who q e before = IsWriteBy who e × IsOpen before who q

-- a `write` that is answered ok has made a W
abbrev pub HasWritten : (before : List Entry) (who : Who) (q : ℕ) → Told → Type 0
HasWritten before who q (Write file block value) = Somewhere (IsMadeOpen who q) before
HasWritten before who q other = ⊤

-- an ok at its place: what the call asks is told before, and it is kept by what the journal tells up to there
pub record OkAt (entry : Entry) (before : List Entry) (who : Who) (q : ℕ) : Type 0 where
  pub told : Told
  pub asks : call_of before who q ≡ Some told
  pub kept : IsKept (entry ∷ before) before who q (Some told)
  pub wrote : HasWritten before who q told

-- an answer at its place: its call is open, and its form is one that the call can have
pub record AnswersOpen (before : List Entry) (who : Who) (q : ℕ) (said : Said) : Type 0 where
  pub is_open : IsOpen before who q
  pub form : IsFormOf said (call_of before who q)

abbrev pub KeptHere : Entry → List Entry → Type 0
KeptHere (A who q Ok) before = AnswersOpen before who q Ok × OkAt (A who q Ok) before who q
KeptHere (A who q (OkValue value)) before = AnswersOpen before who q (OkValue value) × OkAt (A who q (OkValue value)) before who q
KeptHere (A who q (OkBy value packet)) before = AnswersOpen before who q (OkBy value packet) × OkAt (A who q (OkBy value packet)) before who q
KeptHere (A who q Busy) before = AnswersOpen before who q Busy × IsBusyCall who q before
KeptHere (A who q said) before = AnswersOpen before who q said
KeptHere other before = ⊤

ok-later : (later before : List Entry) (entry : Entry) (who : Who) (q : ℕ) → OkAt entry before who q
    → IsKept (later ++ entry ∷ before) before who q (call_of (later ++ entry ∷ before) who q)
ok-later later before entry who q h =
    let asks : call_of (later ++ entry ∷ before) who q ≡ Some h.told = call-later later (entry ∷ before) who q h.told
    (call-told entry before who q h.told h.asks) in
    subst (IsKept (later ++ entry ∷ before) before who q) (sym asks) (kept-later later (entry ∷ before) before who q (Some h.told) h.kept)

here-later : (later before : List Entry) (entry : Entry) → KeptHere entry before → IsKeptAt (later ++ entry ∷ before) entry before
here-later later before (A who q Ok) h = ok-later later before (A who q Ok) who q h.1
here-later later before (A who q (OkValue value)) h = ok-later later before (A who q (OkValue value)) who q h.1
here-later later before (A who q (OkBy value packet)) h = ok-later later before (A who q (OkBy value packet)) who q h.1
here-later later before other h = tt

all-later : (later journal whole : List Entry) → whole ≡ later ++ journal → Throughout KeptHere journal → Throughout (IsKeptAt whole) journal
all-later later [] whole e h = tt
all-later later (entry ∷ before) whole e h = (
  subst (λ w. IsKeptAt w entry before) (sym e) (here-later later before entry h.0),
  all-later (later ++ entry ∷ []) before whole
      (e ∙ sym (append_assoc later (entry ∷ []) before)) h.1,
)

-- a journal in which each ok is kept at its place is synchronized
pub synchronized : (journal : List Entry) → Throughout KeptHere journal → IsSynchronized journal
synchronized journal h = all-later [] journal journal refl h

-- ---- answers

answer-here : (entry : Entry) (before : List Entry) → KeptHere entry before → IsAnswerOfCall entry before
answer-here (A who q Ok) before h = (h.0.is_open, h.0.form)
answer-here (A who q (OkValue value)) before h = (h.0.is_open, h.0.form)
answer-here (A who q (OkBy value packet)) before h = (h.0.is_open, h.0.form)
answer-here (A who q Busy) before h = (h.0.is_open, h.0.form)
answer-here (A who q said) before h = (h.is_open, h.form)
answer-here other before h = tt

pub answers-are-of-calls : (journal : List Entry) → Throughout KeptHere journal → AnswersAreOfTheirCalls journal
answers-are-of-calls [] h = tt
answers-are-of-calls (entry ∷ before) h = (answer-here entry before h.0, answers-are-of-calls before h.1)

busy-here : (entry : Entry) (before : List Entry) → KeptHere entry before → IsBusyAtOnce entry before
busy-here (A who q Busy) before h = h.1
busy-here other before h = tt

pub busy-at-once : (journal : List Entry) → Throughout KeptHere journal → BusyIsSaidAtOnce journal
busy-at-once [] h = tt
busy-at-once (entry ∷ before) h = (busy-here entry before h.0, busy-at-once before h.1)
