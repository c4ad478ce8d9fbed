-- What holds of each entry at its place, whatever comes after: from it the order of calls and what they make follows.
use Rattle.std.proofs.Common.{◌≡◌, ◌⊎◌, ℕ, List, [], ◌∷◌, ◌++◌, Option, Some, None, refl, sym, subst, ap, ◌∙◌, inl, inr, Bool, true, false}
use Rattle.std.proofs.Common.{if◌then◌else◌, ◌==◌, ◌&&◌}
use Rattle.std.specs.Prelude.{⊤}
use Rattle.std.specs.Option.{option_or}
use Rattle.std.proofs.lemmas.Bool.{and_parts}
use Rattle.nq_base.specs.declared.Entry.{Entry}
use Rattle.nq_base.specs.declared.Entry.TheVariants.{C, W, R, Z, A}
use Rattle.nq_base.specs.declared.Said.TheVariants.{OkBy}
use Rattle.nq_base.specs.declared.Told.{Told}
use Rattle.nq_base.specs.declared.Who.{Who}
use Rattle.walk_steps.proofs.ClientMoves.{none-some}
use Rattle.nq_model.proofs.Lists.{exists-right, exists-append}
use Rattle.nq_model.specs.laws.Journal.{Each, Exists, Throughout, AtEachPlace, IsCall, IsAnswer, IsOpen, call_of, IsAnswerBy, told_by}
use Rattle.nq_model.specs.laws.Legal.{IsCountedBy}
use Rattle.nq_model.specs.laws.OfTheirCall.{Reads, IsOfItsCall, AreOfTheirCall}
use Rattle.nq_model.specs.laws.Ordered.{IsCallBelow, HasOpen, IsBusyNext, IsWriteInOrder, IsResizeInOrder, IsReadInOrder, IsInOrder, IsOrdered}
use Rattle.walk_steps.proofs.Incarnations.{who-of}
use Rattle.walk_steps.proofs.Rows.{same-number}
use Rattle.nq_model.specs.protocol.Table.{same_who}

-- the entry is a cached read of call q of an incarnation
abbrev pub IsCachedBy : (who : Who) (q : ℕ) → Entry → Type 0
IsCachedBy who q (R by n file block value None) = (by ≡ who) × (n ≡ q)
IsCachedBy who q other = ⊥

-- the entry is a read that was served in this packet
abbrev pub IsServedIn : (packet : ℕ) → Entry → Type 0
IsServedIn packet (R by n file block value (Some k)) = k ≡ packet
IsServedIn packet other = ⊥

-- a cached read stands while its call is open
pub record IsCachedInOrder (before : List Entry) (who : Who) (q file block : ℕ) : Type 0 where
  pub is_open : IsOpen before who q
  pub reads : Reads file block (call_of before who q)
  pub settled : Exists (IsCachedBy who q) before → Exists (IsAnswer who q) before

-- a served read stands after the C of its call, and its packet is new
pub record IsServedInOrder (before : List Entry) (who : Who) (q file block packet : ℕ) : Type 0 where
  pub called : Exists (IsCall who q) before
  pub reads : Reads file block (call_of before who q)
  pub settled : Exists (IsCachedBy who q) before → Exists (IsAnswer who q) before
  pub unanswered : ¬ Exists (IsAnswerBy who q packet) before
  pub fresh : ¬ Exists (IsServedIn packet) before

-- what holds of an entry at its place
abbrev pub Placed : Entry → List Entry → Type 0
Placed (C who q told) before = Each (IsCallBelow who q) before
Placed (W who file block number value through) before = IsWriteInOrder before who file block number value
Placed (Z who q file from to) before = IsResizeInOrder before who q file to
Placed (R who q file block value None) before = IsCachedInOrder before who q file block
Placed (R who q file block value (Some packet)) before = IsServedInOrder before who q file block packet
Placed (A who q (OkBy value packet)) before = (¬ Exists (IsAnswer who q) before) × (¬ Exists (IsCachedBy who q) before)
Placed (A who q said) before = ¬ Exists (IsAnswer who q) before
Placed other before = ⊤

-- a call that is open together with an earlier one is answered `busy` by the next entry
abbrev pub Spaced : (after : List Entry) → Entry → (before : List Entry) → Type 0
Spaced after (C who q told) before = HasOpen before who → ¬ Exists (IsAnswer who q) before → IsBusyNext who q after
Spaced after other before = ⊤

-- ---- parts of journals

-- an answer by a packet is an answer
by-answers : (who : Who) (q packet : ℕ) (entries : List Entry) → Exists (IsAnswerBy who q packet) entries → Exists (IsAnswer who q) entries
by-answers who q packet [] h = h
by-answers who q packet (A by n (OkBy value k) ∷ entries) (inl h) = inl (h.0, h.1)
by-answers who q packet (e ∷ entries) (inl h) = absurd h
by-answers who q packet (e ∷ entries) (inr h) = inr (by-answers who q packet entries h)

-- the facts that an answer after a place brings
record IsLaterBy (rest : List Entry) (who : Who) (q : ℕ) : Type 0 where
  unanswered : ¬ Exists (IsAnswer who q) rest
  uncached : ¬ Exists (IsCachedBy who q) rest

later-by : (who : Who) (q packet : ℕ) (later rest : List Entry) → Throughout Placed (later ++ rest) → Exists (IsAnswerBy who q packet) later
    → IsLaterBy rest who q
later-by who q packet [] rest t h = absurd h
later-by who q packet (A by n (OkBy value k) ∷ later) rest t (inl h) =
    let p : (¬ Exists (IsAnswer who n) (later ++ rest))
    × (¬ Exists (IsCachedBy who n) (later ++ rest)) = subst
    (λ w. (¬ Exists (IsAnswer w n) (later ++ rest)) × (¬ Exists (IsCachedBy w n) (later ++ rest))) h.0 t.0 in
    let r : (¬ Exists (IsAnswer who q) (later ++ rest))
    × (¬ Exists (IsCachedBy who q) (later ++ rest)) = subst
    (λ m. (¬ Exists (IsAnswer who m) (later ++ rest)) × (¬ Exists (IsCachedBy who m) (later ++ rest))) h.1 p in
    record {
      unanswered = λ e. r.0 (exists-right (IsAnswer who q) later rest e);
      uncached = λ e. r.1 (exists-right (IsCachedBy who q) later rest e);
    }
later-by who q packet (e ∷ later) rest t (inl h) = absurd h
later-by who q packet (e ∷ later) rest t (inr h) = later-by who q packet later rest t.1 h

-- two answers of a call are one
answered-once : (who : Who) (q : ℕ) (entry : Entry) (before : List Entry) → Placed entry before → IsAnswer who q entry → ¬ Exists (IsAnswer who q) before
answered-once who q (A by n (OkBy value k)) before p a = subst (λ m. ¬ Exists (IsAnswer who m) before) a.1
    (subst (λ w. ¬ Exists (IsAnswer w n) before) a.0 p.0)
answered-once who q (A by n said) before p a = subst (λ m. ¬ Exists (IsAnswer who m) before) a.1 (subst (λ w. ¬ Exists (IsAnswer w n) before) a.0 p)
answered-once who q other before p a = absurd a

by-answer : (who : Who) (q packet : ℕ) (entry : Entry) → IsAnswerBy who q packet entry → IsAnswer who q entry
by-answer who q packet (A by n (OkBy value k)) h = (h.0, h.1)
by-answer who q packet other h = absurd h

same-packet : (who : Who) (q k m : ℕ) (entry : Entry) → IsAnswerBy who q k entry → IsAnswerBy who q m entry → k ≡ m
same-packet who q k m (A by n (OkBy value p)) a b = sym a.2 ∙ b.2
same-packet who q k m other a b = absurd a

by-once : (who : Who) (q k m : ℕ) (entries : List Entry) → Throughout Placed entries → Exists (IsAnswerBy who q k) entries
    → Exists (IsAnswerBy who q m) entries → k ≡ m
by-once who q k m [] t a b = absurd a
by-once who q k m (e ∷ entries) t (inl a) (inl b) = same-packet who q k m e a b
by-once who q k m (e ∷ entries) t (inl a) (inr b) = absurd (answered-once who q e entries t.0 (by-answer who q k e a) (by-answers who q m entries b))
by-once who q k m (e ∷ entries) t (inr a) (inl b) = absurd (answered-once who q e entries t.0 (by-answer who q m e b) (by-answers who q k entries a))
by-once who q k m (e ∷ entries) t (inr a) (inr b) = by-once who q k m entries t.1 a b

-- ---- reads

-- a counted read of a call before a place, with what counts it
data WasCounted (whole before : List Entry) (who : Who) (q : ℕ) : Type 0 where
  was_cached : Exists (IsCachedBy who q) before → WasCounted whole before who q
  was_served : (k : ℕ) → Exists (IsServedIn k) before → Exists (IsAnswerBy who q k) whole → WasCounted whole before who q

was-counted : (whole before : List Entry) (who : Who) (q : ℕ) → Exists (IsCountedBy whole who q) before → WasCounted whole before who q
was-counted whole [] who q h = absurd h
was-counted whole (e ∷ before) who q (inr h) = more (was-counted whole before who q h)
  where
    more : WasCounted whole before who q → WasCounted whole (e ∷ before) who q
    more (was_cached c) = was_cached (inr c)
    more (was_served k s a) = was_served k (inr s) a
was-counted whole (R by n file block value None ∷ before) who q (inl h) = was_cached (inl h.0)
was-counted whole (R by n file block value (Some k) ∷ before) who q (inl h) =
    was_served k (inl refl) (subst (λ m. Exists (IsAnswerBy who m k) whole) h.0.1 (subst (λ w. Exists (IsAnswerBy w n k) whole) h.0.0 h.1))
was-counted whole (e ∷ before) who q (inl h) = absurd h.0

cached-in-order : (later before : List Entry) (who : Who) (q file block value : ℕ) → Throughout Placed (later ++ R who q file block value None ∷ before)
    → IsCachedInOrder before who q file block → IsReadInOrder (later ++ R who q file block value None ∷ before) before who q
cached-in-order later before who q file block value t p = record { is_open = p.is_open; first = λ h. case (was-counted _ before who q h) }
  where
    case : WasCounted (later ++ R who q file block value None ∷ before) before who q → ⊥
    case (was_cached c) = p.is_open.1 (p.settled c)
    case (was_served k s a) = either (exists-append (IsAnswerBy who q k) later (R who q file block value None ∷ before) a)
      where
        either : Exists (IsAnswerBy who q k) later ⊎ Exists (IsAnswerBy who q k) (R who q file block value None ∷ before) → ⊥
        either (inl l) = (later-by who q k later (R who q file block value None ∷ before) t l).uncached (inl (refl, refl))
        either (inr (inl x)) = absurd x
        either (inr (inr b)) = p.is_open.1 (by-answers who q k before b)

served-in-order : (later before : List Entry) (who : Who) (q file block value packet : ℕ)
    → Throughout Placed (later ++ R who q file block value (Some packet) ∷ before) → IsServedInOrder before who q file block packet
    → Exists (IsAnswerBy who q packet) (later ++ R who q file block value (Some packet) ∷ before)
    → IsReadInOrder (later ++ R who q file block value (Some packet) ∷ before) before who q
served-in-order later before who q file block value packet t p counted =
    case (exists-append (IsAnswerBy who q packet) later (R who q file block value (Some packet) ∷ before) counted)
  where
    Whole : List Entry
    Whole = later ++ R who q file block value (Some packet) ∷ before

    case : Exists (IsAnswerBy who q packet) later ⊎ Exists (IsAnswerBy who q packet) (R who q file block value (Some packet) ∷ before)
        → IsReadInOrder Whole before who q
    case (inr (inl x)) = absurd x
    case (inr (inr b)) = absurd (p.unanswered b)
    case (inl l) = record {
      is_open = (p.called, λ a. (later-by who q packet later (R who q file block value (Some packet) ∷ before) t l).unanswered (inr a));
      first = λ h. none (was-counted Whole before who q h);
    } where
      none : WasCounted Whole before who q → ⊥
      none (was_cached c) = (later-by who q packet later (R who q file block value (Some packet) ∷ before) t l).uncached (inr c)
      none (was_served k s a) = p.fresh (subst (λ m. Exists (IsServedIn m) before) (by-once who q k packet Whole t a counted) s)

-- ---- the order

order-at : (later : List Entry) (after : List Entry) (entry : Entry) (before : List Entry) → Throughout Placed (later ++ entry ∷ before)
    → Placed entry before → Spaced after entry before → IsInOrder (later ++ entry ∷ before) after entry before
order-at later after (C who q told) before t p s = record { rises = p; alone = s }
order-at later after (W who file block number value through) before t p s = p
order-at later after (Z who q file from to) before t p s = p
order-at later after (R who q file block value None) before t p s = λ counted. cached-in-order later before who q file block value t p
order-at later after (R who q file block value (Some packet)) before t p s = λ counted. served-in-order later before who q file block value packet t p counted
order-at later after (A who q (OkBy value packet)) before t p s = p.0
order-at later after (A who q said) before t p s = p
order-at later after other before t p s = tt

pub append-one : {A : Type 0} (xs : List A) (y : A) (ys : List A) → (xs ++ y ∷ []) ++ ys ≡ xs ++ y ∷ ys
append-one [] y ys = refl
append-one (x ∷ xs) y ys = ap (λ zs. x ∷ zs) (append-one xs y ys)

order-from : (later after journal : List Entry) → Throughout Placed (later ++ journal) → Throughout Placed journal → AtEachPlace Spaced after journal
    → AtEachPlace (IsInOrder (later ++ journal)) after journal
order-from later after [] t p s = tt
order-from later after (entry ∷ before) t p s = (
  order-at later after entry before t p.0 s.0,
  subst (λ whole. AtEachPlace (IsInOrder whole) (entry ∷ after) before) (append-one later entry before)
      (order-from (later ++ entry ∷ []) (entry ∷ after) before (subst (Throughout Placed) (sym (append-one later entry before)) t) p.1 s.1),
)

pub ordered : (journal : List Entry) → Throughout Placed journal → AtEachPlace Spaced [] journal → IsOrdered journal
ordered journal t s = order-from [] [] journal t t s

-- ---- reads are of their calls

-- what a call asks stays told
pub call-told : (entry : Entry) (before : List Entry) (who : Who) (q : ℕ) (told : Told) → call_of before who q ≡ Some told
    → call_of (entry ∷ before) who q ≡ Some told
call-told entry before who q told e = rw e refl

pub call-later : (later before : List Entry) (who : Who) (q : ℕ) (told : Told) → call_of before who q ≡ Some told → call_of (later ++ before) who q ≡ Some told
call-later [] before who q told e = e
call-later (x ∷ later) before who q told e = call-told x (later ++ before) who q told (call-later later before who q told e)

pub reads-on : (later before : List Entry) (who : Who) (q file block : ℕ) → Reads file block (call_of before who q)
    → Reads file block (call_of (later ++ before) who q)
reads-on later before who q file block h = case (call_of before who q) refl h
  where
    case : (o : Option Told) → call_of before who q ≡ o → Reads file block o → Reads file block (call_of (later ++ before) who q)
    case None e r = absurd r
    case (Some told) e r = subst (Reads file block) (sym (call-later later before who q told e)) r

-- where a call asks something its C stands
called-of : (journal : List Entry) (who : Who) (q : ℕ) (told : Told) → call_of journal who q ≡ Some told → Exists (IsCall who q) journal
called-of [] who q told e = none-some told e
called-of (x ∷ journal) who q told e = case (called-of journal who q) (call_of journal who q) refl e
  where
    same : (by : Who) → same_who by who ≡ true → by ≡ who
    same by h = let a = and_parts _ _ h in who-of by.host by.inc who.host who.inc (same-number _ _ a.0) (same-number _ _ a.1)

    now : (y : Entry) → told_by y who q ≡ Some told → IsCall who q y
    now (C by n t) f = by-test (same_who by who && (n == q)) refl f
      where
        by-test : (b : Bool) → (same_who by who && (n == q)) ≡ b → (if b then Some t else None) ≡ Some told → (by ≡ who) × (n ≡ q)
        by-test true h k = let a = and_parts _ _ h in (same by a.0, same-number n q a.1)
        by-test false h k = none-some told k
    now other f = none-some told f

    case : ((t : Told) → call_of journal who q ≡ Some t → Exists (IsCall who q) journal) → (o : Option Told) → call_of journal who q ≡ o
        → option_or o (told_by x who q) ≡ Some told → Exists (IsCall who q) (x ∷ journal)
    case rest (Some t) is f = inr (rest t is)
    case rest None is f = inl (now x f)

pub reads-called : (journal : List Entry) (who : Who) (q file block : ℕ) → Reads file block (call_of journal who q) → Exists (IsCall who q) journal
reads-called journal who q file block h = case (call_of journal who q) refl h
  where
    case : (o : Option Told) → call_of journal who q ≡ o → Reads file block o → Exists (IsCall who q) journal
    case None e r = absurd r
    case (Some told) e r = called-of journal who q told e

of-its-call : (later : List Entry) (entry : Entry) (before : List Entry) → Placed entry before → IsOfItsCall (later ++ entry ∷ before) entry
of-its-call later (R who q file block value None) before p =
    λ counted. subst (λ j. Reads file block (call_of j who q)) (append-one later (R who q file block value None) before)
    (reads-on (later ++ R who q file block value None ∷ []) before who q file block p.reads)
of-its-call later (R who q file block value (Some packet)) before p =
    λ counted. subst (λ j. Reads file block (call_of j who q)) (append-one later (R who q file block value (Some packet)) before)
    (reads-on (later ++ R who q file block value (Some packet) ∷ []) before who q file block p.reads)
of-its-call later other before p = tt

calls-from : (later journal : List Entry) → Throughout Placed journal → Each (IsOfItsCall (later ++ journal)) journal
calls-from later [] t = tt
calls-from later (entry ∷ before) t = (
  of-its-call later entry before t.0,
  subst (λ whole. Each (IsOfItsCall whole) before) (append-one later entry before) (calls-from (later ++ entry ∷ []) before t.1),
)

pub of-their-call : (journal : List Entry) → Throughout Placed journal → AreOfTheirCall journal
of-their-call journal t = calls-from [] journal t
