-- An ok is kept at its place: of a call that asks nothing of it, of a sync, and of a put.
use Rattle.std.proofs.Common.{◌≡◌, ◌≤◌, ◌⊎◌, ℕ, Bool, true, false, not, ◌||◌, ◌==◌, if◌then◌else◌, List, [], ◌∷◌, Option, Some, refl, sym, subst, ap}
use Rattle.std.proofs.Common.{◌∙◌, inl, inr}
use Rattle.std.specs.List.{list_any}
use Rattle.std.proofs.lemmas.Bool.{and_parts, not-true}
use Rattle.nq_base.specs.declared.Call.{Call}
use Rattle.nq_base.specs.declared.Entry.{Entry}
use Rattle.nq_base.specs.declared.Entry.TheVariants.{W, S, L, A}
use Rattle.nq_base.specs.declared.Loss.{Loss}
use Rattle.nq_base.specs.declared.Push.{Push}
use Rattle.nq_base.specs.declared.Said.{Said}
use Rattle.nq_base.specs.declared.Said.TheVariants.{Ok}
use Rattle.nq_base.specs.declared.Told.{Told}
use Rattle.nq_base.specs.declared.Who.{Who}
use Rattle.nq_model.specs.protocol.Client.{UnderWay, is_push_of, push_passes, losses_of, is_clean_in}
use Rattle.nq_base.specs.Calls.{told}
use Rattle.nq_model.specs.laws.Journal.{Exists, Somewhere, Stores, IsStored}
use Rattle.nq_model.specs.laws.Reported.{Names, loss_told}
use Rattle.nq_model.specs.laws.Synchronized.{IsDelayedOn, IsNamedLoss, IsStoredOrTold, AreStoredOrTold, IsPutKept, IsKept}
use Rattle.nq_model.specs.laws.AnswersAreOfTheirCalls.{IsFormOf}
use Rattle.nq_model.specs.laws.LossesAreReported.{IsLossOf, IsOneOf}
use Rattle.walk_steps.proofs.Members.{each-in, in-exists}
use Rattle.walk_steps.proofs.Packets.{In}
use Rattle.walk_steps.proofs.Rows.{number-same}
use Rattle.law_runs.proofs.KeptPlaces.{IsMadeOpen, HasWritten, OkAt, AnswersOpen, somewhere-more}
use Rattle.law_runs.proofs.OkFacts.{CoversNumber, by_store, by_loss, LiesWithin, in_list, under_way, PutWaits, IsPutWrite, IsOpenAs}

-- ---- calls of whose ok nothing is asked

abbrev pub is_plain : Call → Bool
is_plain (Call.Create name blocks) = true
is_plain (Call.Lookup name) = true
is_plain (Call.Attr file) = true
is_plain (Call.Read file block) = true
is_plain (Call.Fetch file block) = true
is_plain other = false

plain-kept : (whole before : List Entry) (who : Who) (q : ℕ) (op : Call) → is_plain op ≡ true → IsKept whole before who q (Some (told op))
plain-kept whole before who q (Call.Create name blocks) e = tt
plain-kept whole before who q (Call.Lookup name) e = tt
plain-kept whole before who q (Call.Attr file) e = tt
plain-kept whole before who q (Call.Read file block) e = tt
plain-kept whole before who q (Call.Fetch file block) e = tt
plain-kept whole before who q other e = absurd (cc)

plain-wrote : (before : List Entry) (who : Who) (q : ℕ) (op : Call) → is_plain op ≡ true → HasWritten before who q (told op)
plain-wrote before who q (Call.Create name blocks) e = tt
plain-wrote before who q (Call.Lookup name) e = tt
plain-wrote before who q (Call.Attr file) e = tt
plain-wrote before who q (Call.Read file block) e = tt
plain-wrote before who q (Call.Fetch file block) e = tt
plain-wrote before who q other e = absurd (cc)

pub plain-ok : (entry : Entry) (who : Who) (u : UnderWay) (journal : List Entry) → IsOpenAs who u journal → is_plain u.call ≡ true → OkAt entry journal who u.q
plain-ok entry who u journal h plain =
    record {
      told = told u.call;
      asks = h.tells;
      kept = plain-kept (entry ∷ journal) journal who u.q u.call plain;
      wrote = plain-wrote journal who u.q
          u.call plain;
    }

-- an ok to a `write`, which made a W
pub write-ok : (who : Who) (u : UnderWay) (file block : ℕ) (body : List ℕ) (journal : List Entry) → IsOpenAs who u journal
    → u.call ≡ Call.Write file block body → Somewhere (IsMadeOpen who u.q) journal → OkAt (A who u.q Ok) journal who u.q
write-ok who u file block body journal h is made =
    record { told = told (Call.Write file block body); asks = h.tells ∙ ap (λ op. Some (told op)) is; kept = tt; wrote = made }

-- ---- an answer at its place

pub answers-open : (who : Who) (u : UnderWay) (said : Said) (journal : List Entry) → IsOpenAs who u journal → IsFormOf said (Some (told u.call))
    → AnswersOpen journal who u.q said
answers-open who u said journal h form = record { is_open = h.is_open; form = subst (IsFormOf said) (sym h.tells) form }

-- ---- a clean file

list-any-in : (p : Push → Bool) (xs : List Push) (x : Push) → In xs x → p x ≡ true → list_any p xs ≡ true
list-any-in p [] x i e = absurd i
list-any-in p (y ∷ ys) x (inl same) e = let yes : p y ≡ true = subst (λ z. p z ≡ true) (sym same) e in rw yes refl
list-any-in p (y ∷ ys) x (inr i) e = either (p y) (list_any p ys) (list-any-in p ys x i e)
  where
    either : (a b : Bool) → b ≡ true → (a || b) ≡ true
    either true b h = refl
    either false b h = h

-- it has no delayed writes
pub clean-none : (file block n : ℕ) (dirty : List Push) (push : Option Push) → is_clean_in file dirty push ≡ true → LiesWithin dirty push file block n → ⊥
clean-none file block n dirty push clean (in_list p i of at from to) =
    let a = and_parts (not (list_any (is_push_of file) dirty)) (not (push_passes (is_push_of file) push)) clean in
    let none : list_any (is_push_of file) dirty ≡ false = not-true (list_any (is_push_of file) dirty) a.0 in
    let some : list_any (is_push_of file) dirty ≡ true = list-any-in (is_push_of file) dirty p i (number-same p.file file of) in
    absurd (cc)
clean-none file block n dirty push clean (under_way p e of at from to) =
    let a = and_parts (not (list_any (is_push_of file) dirty)) (not (push_passes (is_push_of file) push)) clean in
    let none : push_passes (is_push_of file) push ≡ false = not-true (push_passes (is_push_of file) push) a.1 in
    let of_file : (p.file == file) ≡ true = number-same p.file file of in
    let some : push_passes (is_push_of file) push ≡ true = ap (push_passes (is_push_of file)) e ∙ of_file in
    absurd (cc)

-- a loss of a file is one of the file's losses
unlosses : (file : ℕ) (losses : List Loss) (loss : Loss) → losses_of file losses ≡ [] → loss.file ≡ file → IsOneOf losses loss → ⊥
unlosses file [] loss none of i = i
unlosses file (x ∷ xs) loss none of i = step (x.file == file) refl none i (λ e k. unlosses file xs loss e of k)
  where
    step : (b : Bool) → (x.file == file) ≡ b → (if b then x ∷ losses_of file xs else losses_of file xs) ≡ [] → (x ≡ loss) ⊎ IsOneOf xs loss
        → (losses_of file xs ≡ [] → IsOneOf xs loss → ⊥) → ⊥
    step true e n k rest = absurd (cc)
    step false e n (inl same) rest = let yes : (x.file == file) ≡ true = number-same x.file file (ap (λ z. z.file) same ∙ of) in absurd (cc)
    step false e n (inr k) rest = rest n k

-- ---- what a clean file's journal has of its delayed writes

-- what is known: of each delayed write that was answered for, and of each loss. `base` has what covers writes, `stores` the S
-- that count, and `answered` the A that name losses
pub record Known (whole base stores answered : List Entry) (who : Who) (file : ℕ) (losses : List Loss) : Type 0 where
  pub covered : (block n value : ℕ) → In answered (W who file block n value false) → CoversNumber base who file block n
  pub stored : (block first last now : ℕ) → In base (S who file block first last now) → In stores (S who file block first last now)
  pub lost : (block first last : ℕ) → In base (L who file block first last) → In whole (L who file block first last)
  pub named : (loss : Loss) → Exists (IsLossOf who loss) base → IsOneOf losses loss ⊎ Exists (Names whole who loss) answered
  pub none : losses_of file losses ≡ []

settles : (whole base stores answered : List Entry) (who : Who) (file : ℕ) (losses : List Loss) → Known whole base stores answered who file losses
    → (write : Entry) → In answered write → (IsDelayedOn who file write → IsStoredOrTold whole stores answered write)
settles whole base stores answered who file losses k (W by f block n value false) i d = case (k.covered block n value own)
  where
    own : In answered (W who file block n value false)
    own = subst (λ w. In answered (W w file block n value false)) d.0 (subst (λ g. In answered (W by g block n value false)) d.1 i)

    named : (first last : ℕ) → In base (L who file block first last) → first ≤ n → n ≤ last
        → IsOneOf losses (loss_told file block first last) ⊎ Exists (Names whole who (loss_told file block first last)) answered
        → Exists (IsNamedLoss whole answered (W by f block n value false)) whole
    named first last at from to (inl one) = absurd (unlosses file losses (loss_told file block first last) k.none refl one)
    named first last at from to (inr names) =
        in-exists (IsNamedLoss whole answered (W by f block n value false)) whole (L who file block first last) (k.lost block first last at)
        ((d.0, d.1, refl, from, to), names)

    case : CoversNumber base who file block n
        → IsStored stores (W by f block n value false) ⊎ Exists (IsNamedLoss whole answered (W by f block n value false)) whole
    case (by_store first last now at from to) =
        inl (in-exists (λ e. Stores e (W by f block n value false)) stores (S who file block first last now) (k.stored block first last now at)
        (d.0, d.1, refl, from, to))
    case (by_loss first last at from to) =
        inr (named first last at from to
        (k.named (loss_told file block first last)
        (in-exists (IsLossOf who (loss_told file block first last)) base (L who file block first last) at (refl, refl))))
settles whole base stores answered who file losses k other i d = absurd d

-- each delayed write of the file is settled
pub all-settled : (whole base stores answered : List Entry) (who : Who) (file : ℕ) (losses : List Loss)
    → Known whole base stores answered who file losses → AreStoredOrTold whole stores answered who file
all-settled whole base stores answered who file losses k =
    each-in (λ write. IsDelayedOn who file write → IsStoredOrTold whole stores answered write) answered
    (λ write i. settles whole base stores answered who file losses k write i)

-- ---- a sync

-- what an A ok brings to the journal covers and names nothing
pub covers-before : (who by : Who) (q file block n : ℕ) (s : Said) (journal : List Entry) → CoversNumber (A by q s ∷ journal) who file block n
    → CoversNumber journal who file block n
covers-before who by q file block n s journal (by_store first last now (inl e) from to) = absurd (cc)
covers-before who by q file block n s journal (by_store first last now (inr i) from to) = by_store first last now i from to
covers-before who by q file block n s journal (by_loss first last (inl e) from to) = absurd (cc)
covers-before who by q file block n s journal (by_loss first last (inr i) from to) = by_loss first last i from to

-- a sync of a clean file without unnamed losses
pub sync-ok : (who : Who) (u : UnderWay) (file : ℕ) (journal : List Entry) (dirty : List Push) (push : Option Push) (losses : List Loss)
    → IsOpenAs who u journal → u.call ≡ Call.Sync file → is_clean_in file dirty push ≡ true → losses_of file losses ≡ []
    → ((block n value : ℕ) → In (A who u.q Ok ∷ journal) (W who file block n value false)
    → CoversNumber (A who u.q Ok ∷ journal) who file block n ⊎ LiesWithin dirty push file block n)
    → ((loss : Loss) → Exists (IsLossOf who loss) (A who u.q Ok ∷ journal)
    → IsOneOf losses loss ⊎ Exists (Names (A who u.q Ok ∷ journal) who loss) (A who u.q Ok ∷ journal)) → OkAt (A who u.q Ok) journal who u.q
sync-ok who u file journal dirty push losses h is clean none unsaved named = record {
  told = Told.Sync file;
  wrote = tt;
  asks = h.tells ∙ ap (λ op. Some (told op)) is;
  kept = all-settled whole whole whole journal who file losses (record {
    covered = λ block n value i. covered block n (unsaved block n value (inr i));
    stored = λ block first last now i. i;
    lost = λ block first last i. i;
    named = λ loss e. names loss (named loss e);
    none = none;
  });
} where
  whole : List Entry
  whole = A who u.q Ok ∷ journal

  covered : (block n : ℕ) → CoversNumber (A who u.q Ok ∷ journal) who file block n ⊎ LiesWithin dirty push file block n
      → CoversNumber (A who u.q Ok ∷ journal) who file block n
  covered block n (inl c) = c
  covered block n (inr l) = absurd (clean-none file block n dirty push clean l)

  names : (loss : Loss) → IsOneOf losses loss ⊎ Exists (Names (A who u.q Ok ∷ journal) who loss) (A who u.q Ok ∷ journal)
      → IsOneOf losses loss ⊎ Exists (Names (A who u.q Ok ∷ journal) who loss) journal
  names loss (inl one) = inl one
  names loss (inr (inl bad)) = absurd bad
  names loss (inr (inr n)) = inr n

-- ---- a put

write-in : (who : Who) (q file block number value : ℕ) (journal : List Entry) → Somewhere (IsPutWrite who q file block number value) journal
    → In journal (W who file block number value false)
write-in who q file block number value [] h = absurd h
write-in who q file block number value (e ∷ before) (inl p) = inl p.0
write-in who q file block number value (e ∷ before) (inr h) = inr (write-in who q file block number value before h)

-- a put whose write was delayed, of a clean file
pub put-ok : (who : Who) (u : UnderWay) (file block : ℕ) (body : List ℕ) (journal : List Entry) (dirty : List Push) (push : Option Push)
    → IsOpenAs who u journal → u.call ≡ Call.Put file block body → PutWaits who u.q file block journal → is_clean_in file dirty push ≡ true
    → ((n value : ℕ) → In (A who u.q Ok ∷ journal) (W who file block n value false)
    → CoversNumber (A who u.q Ok ∷ journal) who file block n ⊎ LiesWithin dirty push file block n) → OkAt (A who u.q Ok) journal who u.q
put-ok who u file block body journal dirty push h is waits clean unsaved = record {
  told = told (Call.Put file block body);
  wrote = tt;
  asks = h.tells ∙ ap (λ op. Some (told op)) is;
  kept = somewhere-more (IsPutWrite who u.q file block waits.number waits.value) (IsPutKept journal who u.q) journal keeps waits.stands;
} where
  stored : CoversNumber (A who u.q Ok ∷ journal) who file block waits.number ⊎ LiesWithin dirty push file block waits.number
      → IsStored journal (W who file block waits.number waits.value false)
  stored (inr l) = absurd (clean-none file block waits.number dirty push clean l)
  stored (inl c) = by (covers-before who who u.q file block waits.number Ok journal c)
    where
      by : CoversNumber journal who file block waits.number → IsStored journal (W who file block waits.number waits.value false)
      by (by_store first last now at from to) =
          in-exists (λ e. Stores e (W who file block waits.number waits.value false)) journal (S who file block first last now) at
          (refl, refl, refl, from, to)
      by (by_loss first last at from to) = absurd (waits.unlost first last at from to)

  is_stored : IsStored journal (W who file block waits.number waits.value false)
  is_stored = stored (unsaved waits.number waits.value (inr (write-in who u.q file block waits.number waits.value journal waits.stands)))

  keeps : (e : Entry) (before : List Entry) → IsPutWrite who u.q file block waits.number waits.value e before → IsPutKept journal who u.q e before
  keeps e before p = subst (λ z. IsPutKept journal who u.q z before) (sym p.0) (refl, p.1, inr is_stored)
