-- What the server, another client or an earlier incarnation tells keeps what is so of a client's losses.
use Rattle.std.proofs.Common.{◌≡◌, ◌≢◌, ◌<◌, ◌⊎◌, ℕ, false, List, [], ◌∷◌, ◌++◌, Option, None, refl, sym, ap, ◌∙◌, arith, inl, inr}
use Rattle.nq_base.specs.declared.Entry.{Entry}
use Rattle.nq_base.specs.declared.Entry.TheVariants.{C, L, A}
use Rattle.nq_base.specs.declared.Loss.{Loss}
use Rattle.nq_base.specs.declared.Push.{Push}
use Rattle.nq_base.specs.declared.Said.TheVariants.{Lost}
use Rattle.nq_base.specs.declared.Who.{Who}
use Rattle.nq_model.proofs.Lists.{exists-right, exists-append, each-map, each-append}
use Rattle.nq_model.specs.laws.LossesAreReported.{IsLossOf}
use Rattle.law_runs.proofs.Books.{Book}
use Rattle.law_runs.proofs.BookFits.{Counted, Fits, counted-entry, still-called}
use Rattle.law_runs.proofs.BookNone.{IsBy}
use Rattle.law_runs.proofs.JournalMoves.{IsQuiet, quiet-excused, quiet-placed, quiet-called, journals-quiet, loss_at}
use Rattle.law_runs.proofs.Journals.{IsPast, Journals, other-who, told-none}
use Rattle.law_runs.proofs.LossMoves.{lost_at, push_at}
use Rattle.law_runs.proofs.Tallies.{IsOne, tally, tally-nil, tally-cons}
use Rattle.law_runs.proofs.Told.{IsToldAt, IsCalled, Grows, grows, called-more, named-more, some-names-back, told-more}
use Rattle.nq_model.specs.laws.Journal.{Each, Exists, AtEachPlace, call_of, told_by}
use Rattle.nq_model.specs.laws.Reported.{loss_told, Names}
use Rattle.nq_model.specs.protocol.Table.{same_who}

-- a C, A or L is of another incarnation
abbrev pub IsForeign : Who → Entry → Type 0
IsForeign who (C by q told) = by ≢ who
IsForeign who (A by q said) = by ≢ who
IsForeign who (L by file block first last) = by ≢ who
IsForeign who other = Unit {0}

foreign-told : (who : Who) (q : ℕ) (e : Entry) → IsForeign who e → told_by e who q ≡ None
foreign-told who q (C by n told) h = let differs : same_who by who ≡ false = other-who by who h in rw differs refl
foreign-told who q other h = refl

foreign-lost : (who : Who) (n : ℕ) (e : Entry) → IsForeign who e → lost_at who n e ≡ 0
foreign-lost who n (L by file block first last) h = let differs : same_who by who ≡ false = other-who by who h in rw differs refl
foreign-lost who n other h = refl

foreign-names : (whole : List Entry) (who : Who) (loss : Loss) (e : Entry) → IsForeign who e → Names whole who loss e → ⊥
foreign-names whole who loss (A by q (Lost spans)) h n = h n.0
foreign-names whole who loss other h n = n

foreign-some : (whole : List Entry) (who : Who) (loss : Loss) (xs : List Entry) → Each (IsForeign who) xs → Exists (Names whole who loss) xs → ⊥
foreign-some whole who loss [] h n = n
foreign-some whole who loss (e ∷ xs) h (inl n) = foreign-names whole who loss e h.0 n
foreign-some whole who loss (e ∷ xs) h (inr n) = foreign-some whole who loss xs h.1 n

foreign-call : (who : Who) (q : ℕ) (new old : List Entry) → Each (IsForeign who) new → call_of old who q ≡ None → call_of (new ++ old) who q ≡ None
foreign-call who q [] old h none = none
foreign-call who q (e ∷ new) old h none = told-none e (new ++ old) who q (foreign-told who q e h.0) (foreign-call who q new old h.1 none)

foreign-counted : {who : Who} {number : ℕ} {dirty : List Push} {push : Option Push} {losses : List Loss} {old : List Entry} (new : List Entry)
    → Each (IsForeign who) new → Counted who number dirty push losses old → Counted who number dirty push losses (new ++ old)
foreign-counted [] h c = c
foreign-counted {who = who} (e ∷ new) h c = counted-entry e (λ n. foreign-lost who n e h.0) (foreign-counted new h.1 c)

-- ---- places

-- facts of each place in two journals, of which one goes on
at-both : (F G H : List Entry → Entry → List Entry → Type 0) (more : List Entry)
    → ((after : List Entry) (e : Entry) (before : List Entry) → F after e before → G (after ++ more) e before → H (after ++ more) e before)
    → (after xs : List Entry) → AtEachPlace F after xs → AtEachPlace G (after ++ more) xs → AtEachPlace H (after ++ more) xs
at-both F G H more step after [] f g = tt
at-both F G H more step after (e ∷ xs) f g = (step after e xs f.0 g.0, at-both F G H more step (e ∷ after) xs f.1 g.1)

-- a loss that the one who tells knows of is told, and another's waits as before
told-both : {old new : List Entry} (who other : Who) (losses others : List Loss) (more : List Entry) → Grows old new
    → (after : List Entry) (e : Entry) (before : List Entry) → IsToldAt old who losses after e before
    → IsToldAt new other others (after ++ more) e before → IsToldAt new who losses (after ++ more) e before
told-both who other losses others more g after (L by file block first last) before f (inl n) = inl n
told-both who other losses others more g after (L by file block first last) before (inl n) (inr k) =
    inl (named-more g by (loss_told file block first last) after more n)
told-both who other losses others more g after (L by file block first last) before (inr f) (inr k) = inr (k.0, f.1)
told-both who other losses others more g after (A by q (Lost spans)) before f k = k
told-both who other losses others more g after e before f k = tt

foreign-at : (whole : List Entry) (who other : Who) (losses others : List Loss) (after : List Entry) (e : Entry) (before : List Entry) → IsForeign who e
    → IsToldAt whole other others after e before → IsToldAt whole who losses after e before
foreign-at whole who other losses others after (L by file block first last) before h (inl n) = inl n
foreign-at whole who other losses others after (L by file block first last) before h (inr k) = inr (k.0, λ same. absurd (h same))
foreign-at whole who other losses others after (A by q (Lost spans)) before h k = k
foreign-at whole who other losses others after e before h k = tt

foreign-places : (whole : List Entry) (who other : Who) (losses others : List Loss) (new old after : List Entry) → Each (IsForeign who) new
    → ((later : List Entry) → AtEachPlace (IsToldAt whole other others) later old → AtEachPlace (IsToldAt whole who losses) later old)
    → AtEachPlace (IsToldAt whole other others) after (new ++ old) → AtEachPlace (IsToldAt whole who losses) after (new ++ old)
foreign-places whole who other losses others [] old after h rest k = rest after k
foreign-places whole who other losses others (e ∷ new) old after h rest k =
    (foreign-at whole who other losses others after e (new ++ old) h.0 k.0, foreign-places whole who other losses others new old (e ∷ after) h.1 rest k.1)

-- ---- another client's entries

pub journals-foreign : {who : Who} {calls : ℕ} {losses : List Loss} {old : List Entry} (other : Who) (others : List Loss) (new : List Entry)
    → AtEachPlace (IsToldAt (new ++ old) other others) [] (new ++ old) → Each (IsCalled (new ++ old)) (new ++ old) → Each (IsForeign who) new
    → Each (IsPast who) new → Journals who calls losses old → Journals who calls losses (new ++ old)
journals-foreign {who = who} {calls = calls} {losses = losses} {old = old} other others new told called foreign past h = record {
  told =
      foreign-places (new ++ old) who other losses others new old [] foreign
      (λ later k. at-both (IsToldAt old who losses) (IsToldAt (new ++ old) other others) (IsToldAt (new ++ old) who losses) later
      (told-both who other losses others later g) [] old h.told k) told;
  called = called;
  lost = λ loss one. exists-right (IsLossOf who loss) new old (h.lost loss one);
  unnamed = λ loss one named. split loss one (exists-append (Names (new ++ old) who loss) new old named);
  numbered = λ q above. foreign-call who q new old foreign (h.numbered q above);
  past = each-append (IsPast who) new old past h.past;
} where
  g : Grows old (new ++ old)
  g = grows new old

  split : (loss : Loss) → IsOne losses loss → Exists (Names (new ++ old) who loss) new ⊎ Exists (Names (new ++ old) who loss) old → ⊥
  split loss one (inl n) = foreign-some (new ++ old) who loss new foreign n
  split loss one (inr n) = h.unnamed loss one (some-names-back g who loss old h.called n)

pub fits-foreign : (b : Book) (other : Who) (others : List Loss) (new : List Entry)
    → AtEachPlace (IsToldAt (new ++ b.journal) other others) [] (new ++ b.journal) → Each (IsCalled (new ++ b.journal)) (new ++ b.journal)
    → Each (IsForeign b.who) new → Each (IsPast b.who) new → Fits b → Fits (record b { journal = new ++ b.journal })
fits-foreign b other others new told called foreign past f = record {
  journals = journals-foreign other others new told called foreign past f.journals;
  under_way = λ u is. still-called (grows new b.journal) b.who u.q _ (f.under_way u is);
  counted = foreign-counted new foreign f.counted;
}

-- an entry of another host is foreign, and of no later incarnation
by-foreign : (who other : Who) → who.host ≢ other.host → (e : Entry) → IsBy who e → IsForeign other e
by-foreign who other apart (C by q told) h = λ same. apart (ap (λ w. w.host) (sym h ∙ same))
by-foreign who other apart (A by q said) h = λ same. apart (ap (λ w. w.host) (sym h ∙ same))
by-foreign who other apart (L by file block first last) h = λ same. apart (ap (λ w. w.host) (sym h ∙ same))
by-foreign who other apart e h = tt

by-past : (who other : Who) → who.host ≢ other.host → (e : Entry) → IsBy who e → IsPast other e
by-past who other apart (C by q told) h = λ same. absurd (apart (ap (λ w. w.host) (sym h) ∙ same))
by-past who other apart (A by q said) h = λ same. absurd (apart (ap (λ w. w.host) (sym h) ∙ same))
by-past who other apart (L by file block first last) h = λ same. absurd (apart (ap (λ w. w.host) (sym h) ∙ same))
by-past who other apart e h = tt

pub fits-other : (b : Book) (who other : Who) (others : List Loss) (new : List Entry) → who.host ≢ b.who.host → Each (IsBy who) new
    → AtEachPlace (IsToldAt (new ++ b.journal) other others) [] (new ++ b.journal) → Each (IsCalled (new ++ b.journal)) (new ++ b.journal) → Fits b
    → Fits (record b { journal = new ++ b.journal })
fits-other b who other others new apart by told called f =
    fits-foreign b other others new told called (each-map (IsBy who) (IsForeign b.who) new (by-foreign who b.who apart) by)
    (each-map (IsBy who) (IsPast b.who) new (by-past who b.who apart) by) f

-- ---- the server's entries

quiet-lost : (who : Who) (n : ℕ) (e : Entry) → IsQuiet e → lost_at who n e ≡ 0
quiet-lost who n (L by file block first last) h = absurd h
quiet-lost who n other h = refl

fits-one : (b : Book) (e : Entry) → IsQuiet e → Fits b → Fits (record b { journal = e ∷ b.journal })
fits-one b e quiet f = record {
  journals = journals-quiet e quiet f.journals;
  under_way = λ u is. still-called (grows (e ∷ []) b.journal) b.who u.q _ (f.under_way u is);
  counted = counted-entry e (λ n. quiet-lost b.who n e quiet) f.counted;
}

pub fits-quiet : (b : Book) (new : List Entry) → Each IsQuiet new → Fits b → Fits (record b { journal = new ++ b.journal })
fits-quiet b [] quiet f = f
fits-quiet b (e ∷ new) quiet f = fits-one (record b { journal = new ++ b.journal }) e quiet.0 (fits-quiet b new quiet.1 f)

-- the same of the places alone
pub record Places (who : Who) (losses : List Loss) (j : List Entry) : Type 0 where
  pub told : AtEachPlace (IsToldAt j who losses) [] j
  pub called : Each (IsCalled j) j

places-one : {who : Who} {losses : List Loss} {old : List Entry} (e : Entry) → IsQuiet e → Places who losses old → Places who losses (e ∷ old)
places-one {who = who} {losses = losses} {old = old} e quiet h = record {
  told = (
    quiet-placed (e ∷ old) who losses e old quiet,
    told-more who losses losses (e ∷ []) (grows (e ∷ []) old)
        (λ by loss one. inr ((quiet-excused (e ∷ old) by loss.file e quiet, tt), one)) h.called h.told,
  );
  called = (quiet-called (e ∷ old) e quiet, each-map (IsCalled old) (IsCalled (e ∷ old)) old (λ x k. called-more (grows (e ∷ []) old) x k) h.called);
}

pub places-quiet : {who : Who} {losses : List Loss} {old : List Entry} (new : List Entry) → Each IsQuiet new → Places who losses old
    → Places who losses (new ++ old)
places-quiet [] quiet h = h
places-quiet (e ∷ new) quiet h = places-one e quiet.0 (places-quiet new quiet.1 h)

-- ---- the next incarnation

past-foreign : (who next : Who) → next.host ≡ who.host → who.inc < next.inc → (e : Entry) → IsPast who e → IsForeign next e
past-foreign who next host later (C by q told) h =
    λ same. let below = h (ap (λ w. w.host) same ∙ host) in let inc : by.inc ≡ next.inc = ap (λ w. w.inc) same in omega arith
past-foreign who next host later (A by q said) h =
    λ same. let below = h (ap (λ w. w.host) same ∙ host) in let inc : by.inc ≡ next.inc = ap (λ w. w.inc) same in omega arith
past-foreign who next host later (L by file block first last) h =
    λ same. let below = h (ap (λ w. w.host) same ∙ host) in let inc : by.inc ≡ next.inc = ap (λ w. w.inc) same in omega arith
past-foreign who next host later e h = tt

past-past : (who next : Who) → next.host ≡ who.host → who.inc < next.inc → (e : Entry) → IsPast who e → IsPast next e
past-past who next host later (C by q told) h = λ same. let below = h (same ∙ host) in omega arith
past-past who next host later (A by q said) h = λ same. let below = h (same ∙ host) in omega arith
past-past who next host later (L by file block first last) h = λ same. let below = h (same ∙ host) in omega arith
past-past who next host later e h = tt

at-foreign : (whole : List Entry) (who next : Who) (losses : List Loss) (after xs : List Entry) → Each (IsForeign next) xs
    → AtEachPlace (IsToldAt whole who losses) after xs → AtEachPlace (IsToldAt whole next []) after xs
at-foreign whole who next losses after [] foreign h = tt
at-foreign whole who next losses after (e ∷ xs) foreign h =
    (foreign-at whole next who [] losses after e xs foreign.0 h.0, at-foreign whole who next losses (e ∷ after) xs foreign.1 h.1)

no-call : (who : Who) (q : ℕ) (j : List Entry) → Each (IsForeign who) j → call_of j who q ≡ None
no-call who q [] h = refl
no-call who q (e ∷ j) h = told-none e j who q (foreign-told who q e h.0) (no-call who q j h.1)

no-lost : (who : Who) (n : ℕ) (j : List Entry) → Each (IsForeign who) j → tally (lost_at who n) j ≡ 0
no-lost who n [] h = tally-nil (lost_at who n)
no-lost who n (e ∷ j) h = let split = tally-cons (lost_at who n) e j in let here = foreign-lost who n e h.0 in let rest = no-lost who n j h.1 in omega arith

-- a client that made no call and has no delayed writes
abbrev pub empty_book : Who → List Entry → Book
empty_book who j = record { who = who; calls = 0; number = 1; call = None; dirty = []; push = None; losses = []; journal = j }

pub fits-next : (b : Book) (next : Who) → next.host ≡ b.who.host → b.who.inc < next.inc → Fits b → Fits (empty_book next b.journal)
fits-next b next host later f = record {
  journals = record {
    told = at-foreign b.journal b.who next b.losses [] b.journal foreign f.journals.told;
    called = f.journals.called;
    lost = λ loss one. absurd one;
    unnamed = λ loss one. absurd one;
    numbered = λ q above. no-call next q b.journal foreign;
    past = each-map (IsPast b.who) (IsPast next) b.journal (past-past b.who next host later) f.journals.past;
  };
  under_way = λ u e. absurd (cc);
  counted = empty-counted;
} where
  foreign : Each (IsForeign next) b.journal
  foreign = each-map (IsPast b.who) (IsForeign next) b.journal (past-foreign b.who next host later) f.journals.past

  empty-counted : Counted next 1 [] None [] b.journal
  empty-counted = record {
    once = λ n. let lost = no-lost next n b.journal foreign in let none = tally-nil (push_at n) in omega arith;
    below = λ n above. let lost = no-lost next n b.journal foreign in let none = tally-nil (push_at n) in omega arith;
    waiting = λ n. let none = tally-nil (loss_at n) in omega arith;
  }

-- ---- the start

pub fits-start : (who : Who) → Fits (empty_book who [])
fits-start who = record {
  journals = record { told = tt; called = tt; lost = λ loss one. absurd one; unnamed = λ loss one. absurd one; numbered = λ q above. refl; past = tt };
  under_way = λ u e. absurd (cc);
  counted = record {
    once = λ n. let none = tally-nil (push_at n) in let lost = tally-nil (lost_at who n) in omega arith;
    below = λ n above. let none = tally-nil (push_at n) in let lost = tally-nil (lost_at who n) in omega arith;
    waiting = λ n. let none = tally-nil (loss_at n) in omega arith;
  };
}
