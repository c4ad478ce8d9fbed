-- In every run the delayed writes and the losses of each client stand as the journal tells.
use Rattle.std.proofs.Common.{◌⊎◌, ℕ, false, List, [], ◌∷◌, Option, sym, ap, ◌∙◌, inl, inr}
use Rattle.nq_base.specs.declared.Entry.{Entry}
use Rattle.nq_base.specs.declared.Entry.TheVariants.{W, S, L}
use Rattle.nq_base.specs.declared.Push.{Push}
use Rattle.nq_base.specs.declared.Who.{Who}
use Rattle.law_runs.proofs.RunCalls.{calls-fit}
use Rattle.law_runs.proofs.WorldWrites.{writes-fit}
use Rattle.walk_files.proofs.WritesFit as fits
use Rattle.nq_model.specs.laws.Journal.{Exists, Throughout, Covers}
use Rattle.nq_model.specs.protocol.World.{run}
use Rattle.law_runs.proofs.ReportedRuns.{losses-fit}
use Rattle.law_runs.proofs.OkFacts.{CoversNumber, by_store, by_loss, LiesWithin, in_list, under_way}
use Rattle.law_runs.proofs.KeptPlaces.{KeptHere, answers-are-of-calls, busy-at-once}
use Rattle.law_runs.proofs.OkRuns.{Oks, oks-runs, StandingInEveryRun, CountedInEveryRun, answered-runs, synchronized-runs}
use Rattle.nq_model.specs.laws.AnswersAreOfTheirCalls.{AnswersAreOfTheirCallsInEveryRun}
use Rattle.nq_model.specs.laws.Bounds.{InEveryRun}
use Rattle.nq_model.specs.laws.BusyIsSaidAtOnce.{BusyIsSaidAtOnceInEveryRun}
use Rattle.nq_model.specs.laws.OksAreKept.{SynchronizedInEveryRun}

more-covers : (e : Entry) (journal : List Entry) (who : Who) (file block n : ℕ) → CoversNumber journal who file block n
    → CoversNumber (e ∷ journal) who file block n
more-covers e journal who file block n (by_store first last now i from to) = by_store first last now (inr i) from to
more-covers e journal who file block n (by_loss first last i from to) = by_loss first last (inr i) from to

-- an entry that covers a number is an S or an L
covers-here : (e : Entry) (journal : List Entry) (who : Who) (file block n : ℕ) → Covers e (W who file block n 0 false)
    → CoversNumber (e ∷ journal) who file block n
covers-here (S by f b first last now) journal who file block n h =
    by_store first last now
    (inl (ap (λ w. S w f b first last now) (sym h.0) ∙ ap (λ g. S who g b first last now) (sym h.1)
    ∙ ap (λ d. S who file d first last now) (sym h.2))) h.3 h.4
covers-here (L by f b first last) journal who file block n h =
    by_loss first last
    (inl (ap (λ w. L w f b first last) (sym h.0) ∙ ap (λ g. L who g b first last) (sym h.1) ∙ ap (λ d. L who file d first last) (sym h.2))) h.3 h.4
covers-here other journal who file block n h = absurd h

covers-number : (journal : List Entry) (who : Who) (file block n : ℕ) → Exists (λ e. Covers e (W who file block n 0 false)) journal
    → CoversNumber journal who file block n
covers-number [] who file block n h = absurd h
covers-number (e ∷ journal) who file block n (inl h) = covers-here e journal who file block n h
covers-number (e ∷ journal) who file block n (inr h) = more-covers e journal who file block n (covers-number journal who file block n h)

lies-within : (dirty : List Push) (push : Option Push) (file block n : ℕ) → fits.LiesWithin dirty push file block n → LiesWithin dirty push file block n
lies-within dirty push file block n (fits.LiesWithin.in_list p i of at from to) = in_list p i of at from to
lies-within dirty push file block n (fits.LiesWithin.under_way p e of at from to) = under_way p e of at from to

either : (journal : List Entry) (who : Who) (dirty : List Push) (push : Option Push) (file block n : ℕ)
    → fits.CoversNumber journal who file block n ⊎ fits.LiesWithin dirty push file block n
    → CoversNumber journal who file block n ⊎ LiesWithin dirty push file block n
either journal who dirty push file block n (inl h) = inl (covers-number journal who file block n h)
either journal who dirty push file block n (inr h) = inr (lies-within dirty push file block n h)

pub standing : StandingInEveryRun
standing most head events bounds within host c is = record {
  unsaved =
      λ file block n value i. either (run head events).journal c.who c.dirty c.push file block n
      (((writes-fit most head events bounds within).clients host c is).list.unsaved file block n value i);
  named = (losses-fit head events host c is).kept;
}

-- and so do its calls
pub counted : CountedInEveryRun
counted most head events bounds within host c is =
    let k = calls-fit most head events bounds within host c is in
    record { under_way = λ u called. (k.under_way u called).counted; numbers = k.numbers; past = k.past }

-- what is answered ok is kept, in every run
pub synchronized-in-every-run : SynchronizedInEveryRun
synchronized-in-every-run = synchronized-runs standing counted

-- what is kept of each client
pub oks-in-every-run : InEveryRun (λ head events. Oks (run head events))
oks-in-every-run = oks-runs standing counted

-- each answer at its place
pub answered-in-every-run : InEveryRun (λ head events. Throughout KeptHere (run head events).journal)
answered-in-every-run = answered-runs standing counted

-- and each is of its call
pub answers-in-every-run : AnswersAreOfTheirCallsInEveryRun
answers-in-every-run most head events bounds within = answers-are-of-calls (run head events).journal (answered-in-every-run most head events bounds within)

-- and busy is said at once
pub busy-in-every-run : BusyIsSaidAtOnceInEveryRun
busy-in-every-run most head events bounds within = busy-at-once (run head events).journal (answered-in-every-run most head events bounds within)
