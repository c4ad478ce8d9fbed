-- A storm and a loop over a disk, from what they do over the store of that disk.
use Rattle.std.proofs.Common.{◌≡◌, ◌≤◌, ℕ, Bool, List, Option, inl, inr, refl, subst, sym, ◌∙◌, arith}
use Rattle.nq_service.specs.Emptying.{EmptiesNot}
use Rattle.nq_run.proofs.Hiding.{hides_store, hides_untouched}
use Rattle.nq_run.proofs.LoopPromises.{loop_usage}
use Rattle.nq_run.proofs.Playing.{kept_while}
use Rattle.nq_run.proofs.StormPromises.{storm_usage, storms_none}
use Rattle.nq_run.specs.Running.{LoopsOn, StartsNot, StormsOn}
use Rattle.nq_base.proofs.Ends.{one_end}
use Rattle.nq_base.specs.Status.{status_of}
use Rattle.nq_base.specs.declared.ending.ending.Ending.{Ending}
use Rattle.nq_clock.specs.Clocks.{ClockTold}
use Rattle.nq_link.specs.Links.{LinkTold}
use Rattle.nq_run.specs.Fates.{FateTold}
use Rattle.nq_run.specs.Looping.{LoopsFor}
use Rattle.nq_run.specs.Storming.{StormsFor}
use Rattle.nq_replay.specs.Lines.{usage_line}
use Rattle.nq_io.specs.Sink.{PrintsLine}
use Rattle.nq_storm.specs.Kinds.{LackKind}
use Rattle.nq_storm.specs.Rules.{Rule}
use Rattle.nq_store.specs.Storing.{GoesOn, IsFresh, StoredStore, content_of, content_while, faults_of, kept_told}

-- ---- what the disk stands for

storms-kept : (code kind start count : ℕ) (rules : List (Option Rule)) (old new : List FateTold) (held now : Option (List ℕ)) (w w' k k' : ℕ)
    (ended : Bool) (bytes : Option (List ℕ))
    → StormsFor code kind start count rules old new held now w w' k k' (content_while ended bytes) → StormsFor code kind start count rules old new
    held now w w' k k' (kept_told bytes)
storms-kept code kind start count rules old new held now w w' k k' ended bytes s = record {
  end = s.end;
  status = s.status;
  does = s.does;
  unless = s.unless;
  counts = s.counts;
  sink = s.sink;
  lawful = λ done.
      let l = s.lawful done in
      record {
        first = l.first;
        found = l.found;
        text = l.text;
        events = l.events;
        whole = l.whole;
        printed = l.printed;
        holds = l.holds;
        judged = l.judged;
        keeps = kept_while ended bytes _ l.keeps;
      };
  asked = s.asked;
}

loops-kept : (code hosts turns : ℕ) (clock clock' : ClockTold) (links links' : List LinkTold) (held now : Option (List ℕ)) (w w' k k' : ℕ)
    (ended : Bool) (bytes : Option (List ℕ))
    → LoopsFor code hosts turns clock clock' links links' held now w w' k k' (content_while ended bytes) → LoopsFor code hosts turns clock clock'
    links links' held now w w' k k' (kept_told bytes)
loops-kept code hosts turns clock clock' links links' held now w w' k k' ended bytes s = record {
  end = s.end;
  status = s.status;
  ends = s.ends;
  unless = s.unless;
  counts = s.counts;
  sink = s.sink;
  lawful = λ done.
      let l = s.lawful done in
      record {
        text = l.text;
        events = l.events;
        whole = l.whole;
        printed = l.printed;
        holds = l.holds;
        judged = l.judged;
        keeps = kept_while ended bytes _ l.keeps;
      };
}

-- ---- over a store

module _ {D : Type 0} (told : D → Option (List ℕ)) (faults : D → ℕ) (follows : D → D → Type 0) where
  pub storms_on : (code kind start count : ℕ) (rules : List (Option Rule)) (old new : List FateTold) (held now : Option (List ℕ)) (w w' : ℕ)
      (disk : D) (store served : StoredStore D) (left : D)
      → left ≡ served.disk → ((first last : D) → follows first last → faults first ≤ faults last) → IsFresh store → faults store.disk ≡ faults disk
      → GoesOn faults follows store served
      → StormsFor code kind start count rules old new held now w w' (faults_of faults store) (faults_of faults served) (content_of told served)
      → StormsOn code kind start count rules old new held now w w' (faults disk) (faults left) (told left)
  storms_on code kind start count rules old new held now w w' disk store served left handed rises fresh same goes s =
      let k = faults_of faults store in
      let k' = faults_of faults served in
      subst (λ d. StormsOn code kind start count rules old new held now w w' (faults disk) (faults d) (told d)) (sym handed)
      (inr (record {
        first = k;
        last = k';
        does = storms-kept code kind start count rules old new held now w w' k k' served.ended (told served.disk) s;
        hides = hides_store faults follows s.end code disk store served s.status rises fresh same goes s.counts;
      }))

  pub loops_on : (code hosts turns : ℕ) (clock clock' : ClockTold) (links links' : List LinkTold) (held now : Option (List ℕ)) (w w' : ℕ) (disk : D)
      (store served : StoredStore D) (left : D)
      → left ≡ served.disk → ((first last : D) → follows first last → faults first ≤ faults last) → IsFresh store → faults store.disk ≡ faults disk
      → GoesOn faults follows store served
      → LoopsFor code hosts turns clock clock' links links' held now w w' (faults_of faults store) (faults_of faults served) (content_of told served)
      → LoopsOn code hosts turns clock clock' links links' held now w w' (faults disk) (faults left) (told left)
  loops_on code hosts turns clock clock' links links' held now w w' disk store served left handed rises fresh same goes s =
      let k = faults_of faults store in
      let k' = faults_of faults served in
      subst (λ d. LoopsOn code hosts turns clock clock' links links' held now w w' (faults disk) (faults d) (told d)) (sym handed)
      (inr (record {
        first = k;
        last = k';
        does = loops-kept code hosts turns clock clock' links links' held now w w' k k' served.ended (told served.disk) s;
        hides = hides_store faults follows s.end code disk store served s.status rises fresh same goes s.counts;
      }))

-- ---- where no empty store was made

starts-not : (end : Ending) (code before count : ℕ) (held : Option (List ℕ)) (w : ℕ) → code ≡ status_of end → EmptiesNot end before count
    → StartsNot code before count held held w w
starts-not end code before count held w status fails = record {
  end = end;
  status = status;
  empties = fails;
  quiet = (refl, refl);
}

pub storms_not : (end : Ending) (code kind start count : ℕ) (rules : List (Option Rule)) (fates : List FateTold) (held : Option (List ℕ))
    (w before faults : ℕ) (bytes : Option (List ℕ)) → code ≡ status_of end
    → EmptiesNot end before faults → StormsOn code kind start count rules fates fates held held w w before faults bytes
storms_not end code kind start count rules fates held w before faults bytes status fails = inl (starts-not end code before faults held w status fails, refl)

pub loops_not : (end : Ending) (code hosts turns : ℕ) (clock : ClockTold) (links : List LinkTold) (held : Option (List ℕ)) (w before count : ℕ)
    (bytes : Option (List ℕ)) → code ≡ status_of end
    → EmptiesNot end before count → LoopsOn code hosts turns clock clock links links held held w w before count bytes
loops_not end code hosts turns clock links held w before count bytes status fails = inl (starts-not end code before count held w status fails, refl, refl)

-- that is no usage
pub starts_usage : (end : Ending) (code before count : ℕ) → code ≡ status_of end → EmptiesNot end before count → code ≡ status_of Ending.Usage → ⊥
starts_usage end code before count status fails none = subst (λ e. EmptiesNot e before count) (one_end end Ending.Usage code status none) fails

-- ---- usage

-- a storm over a disk ends with usage only where no fate is of the kind
pub storms_usage : (code kind start count : ℕ) (rules : List (Option Rule)) (old new : List FateTold) (held now : Option (List ℕ))
    (w w' before faults : ℕ) (bytes : Option (List ℕ))
    → StormsOn code kind start count rules old new held now w w' before faults bytes → code ≡ status_of Ending.Usage → LackKind kind rules
    × PrintsLine usage_line held now w w'
storms_usage code kind start count rules old new held now w w' before faults bytes (inl left) none = absurd (starts_usage left.0.end code before
    faults left.0.status left.0.empties none)
storms_usage code kind start count rules old new held now w w' before faults bytes (inr over) none =
    storm_usage code kind start count rules old new held now w w' over.first over.last (kept_told bytes) over.does none

-- a loop does not
pub loops_usage : (code hosts turns : ℕ) (clock clock' : ClockTold) (links links' : List LinkTold) (held now : Option (List ℕ))
    (w w' before count : ℕ) (bytes : Option (List ℕ))
    → LoopsOn code hosts turns clock clock' links links' held now w w' before count bytes → code ≡ status_of Ending.Usage → ⊥
loops_usage code hosts turns clock clock' links links' held now w w' before count bytes (inl left) none = starts_usage left.0.end code before count
    left.0.status left.0.empties none
loops_usage code hosts turns clock clock' links links' held now w w' before count bytes (inr over) none =
    loop_usage code hosts turns clock clock' links links' held now w w' over.first over.last (kept_told bytes) over.does none

-- ---- where no fate is of the kind

pub storms_refused : (code kind start count : ℕ) (rules : List (Option Rule)) (fates : List FateTold) (held now : Option (List ℕ))
    (w w' before : ℕ) (bytes : Option (List ℕ))
    → code ≡ status_of Ending.Usage → LackKind kind rules → PrintsLine usage_line held now w w' → StormsOn code kind start count rules fates fates
    held now w w' before before bytes
storms_refused code kind start count rules fates held now w w' before bytes status lack printed = inr (record {
  first = 0;
  last = 0;
  does = storms_none code kind start count rules fates held now w w' 0 (kept_told bytes) status lack printed;
  hides = hides_untouched code before 0 (λ six. let no = sym status ∙ six in omega arith);
})
