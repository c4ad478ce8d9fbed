-- Four writes are delayed: the first is stored, the second is lost, the third ends as its host starts again, and the fourth waits.
use Rattle.std.proofs.Common.{◌≡◌, ◌⊎◌, ℕ, true, false, List, [], ◌∷◌, ◌++◌, Option, Some, None, is_some, refl, sym, subst, arith, inl, inr}
use Rattle.std.specs.Prelude.{slice_get, unwrap_or}
use Rattle.nq_base.specs.Block.{filled, zeros}
use Rattle.nq_base.specs.declared.Call.{Call}
use Rattle.nq_base.specs.declared.Entry.{Entry}
use Rattle.nq_base.specs.declared.Event.{Event}
use Rattle.nq_base.specs.declared.Mode.{Mode}
use Rattle.nq_base.specs.declared.Said.{Said}
use Rattle.nq_base.specs.declared.Told.{Told}
use Rattle.nq_base.specs.declared.Who.{Who}
use Rattle.nq_model.specs.laws.WritesAreAccounted.{Encloses, UnderWayEncloses, IsAtItsClient, IsStillUnsaved}
use Rattle.law_runs.specs.FatesMet.{AtSomePlace, ShowsEachFate, HasEachFate}
use Rattle.walk_steps.proofs.NoCrash.{no-crash-within}
use Rattle.nq_model.proofs.SkewTest.{skew-test-is-sound}
use Rattle.nq_model.specs.protocol.Client.{Client}
use Rattle.nq_model.specs.protocol.ClientStep.{fresh_client}
use Rattle.nq_model.specs.laws.Journal.{Exists, Covers, IsStored, IsLost}
use Rattle.nq_model.specs.laws.JournalTest.{exists, covers}
use Rattle.nq_model.specs.laws.Fate.{IsDelayed, IsEnded, IsWaiting}
use Rattle.nq_model.proofs.JournalTests.{tells_exists, tells_covers, tells_stored, tells_lost}
use Rattle.nq_model.proofs.Telling.{not_told}
use Rattle.nq_model.specs.protocol.World.{Head, run}
use Rattle.walk_steps.proofs.GivenRuns.{given-run}

-- one host, one file of one block, and short terms
abbrev one-host : Head
one-host = record { hosts = 1; term = 5; longest = 5; files = (97 ∷ [], 1) ∷ [] }

-- the clocks tick
abbrev round : List Event
round = Event.ServerTick ∷ Event.ClientTick 0 ∷ []

abbrev writes : Event
writes = Event.Call 0 (Call.Write 1 0 zeros)

-- three writes, the newest event first; then the host starts again, and its next incarnation writes
abbrev four-writes : List Event
four-writes =
    Event.Deliver 16 ∷ Event.Deliver 15 ∷ writes ∷ Event.Deliver 14 ∷ Event.Deliver 13 ∷ Event.Restart 0
    ∷ Event.Deliver 12 ∷ Event.Deliver 11 ∷ writes ∷ writes ∷ Event.Deliver 10 ∷ Event.Deliver 4
    ∷ round ++ round ++ round ++ round ++ round ++ round ++ round ++ round ++ round ++ round ++ round ++ round ++ round
    ++ writes ∷ Event.Deliver 3 ∷ Event.Deliver 2 ∷ Event.Call 0 (Call.Sync 1) ∷ Event.Deliver 1 ∷ Event.Deliver 0 ∷ writes ∷ []

abbrev writer : Client
writer = unwrap_or (slice_get (run one-host four-writes).clients 0) (fresh_client (record { host = 0; inc = 1 }) 5 0)

abbrev me : Who
me = record { host = 0; inc = 1 }

-- the next incarnation of the host
abbrev next : Who
next = record { host = 0; inc = 2 }

abbrev write : (number : ℕ) → Entry
write number = Entry.W me 1 0 number 0 false

abbrev last-write : Entry
last-write = Entry.W next 1 0 1 0 false

some-there : (o : Option Client) (c : Client) → is_some o ≡ true → o ≡ Some (unwrap_or o c)
some-there None c h = absurd (cc)
some-there (Some x) c h = refl

runs : is_some (slice_get (run one-host four-writes).clients 0) ≡ true
unfolding filled zeros given-run
runs = refl

is-next : writer.who ≡ next
unfolding filled zeros given-run
is-next = refl

dirty : writer.dirty ≡ record { file = 1; block = 0; first = 1; last = 1; body = zeros } ∷ []
unfolding filled zeros given-run
dirty = refl

abbrev told : List Entry
told =
    Entry.A next 1 Said.Ok
    ∷ last-write
    ∷ Entry.G next 1 Mode.Writing (record { boot = 1; number = 3 }) 5 13
    ∷ Entry.C next 1 (Told.Write 1 0 0)
    ∷ Entry.B next
    ∷ Entry.A me 5 Said.Ok
    ∷ write 3
    ∷ Entry.G me 1 Mode.Writing (record { boot = 1; number = 2 }) 5 13
    ∷ Entry.C me 5 (Told.Write 1 0 0)
    ∷ Entry.A me 4 (Said.Lost (record { items = record { block = 0; first = 2; last = 2 } ∷ []; spare = 0 }))
    ∷ Entry.C me 4 (Told.Write 1 0 0)
    ∷ Entry.L me 1 0 2 2
    ∷ Entry.F me 1 8 0 13
    ∷ Entry.A me 3 Said.Ok
    ∷ write 2
    ∷ Entry.C me 3 (Told.Write 1 0 0)
    ∷ Entry.A me 2 Said.Ok
    ∷ Entry.S me 1 0 1 1 0
    ∷ Entry.C me 2 (Told.Sync 1)
    ∷ Entry.A me 1 Said.Ok
    ∷ write 1
    ∷ Entry.G me 1 Mode.Writing (record { boot = 1; number = 1 }) 5 0
    ∷ Entry.C me 1 (Told.Write 1 0 0)
    ∷ []

is-told : (run one-host four-writes).journal ≡ told
unfolding filled zeros given-run
is-told = refl

-- ---- what became of them

uncovered : (write : Entry) → exists (λ e. covers e write) told ≡ false → ¬ Exists (λ e. Covers e write) told
uncovered write e = not_told (tells_exists (λ x. tells_covers x write) told) e

is-unsaved : IsAtItsClient (run one-host four-writes) next last-write
is-unsaved = record {
  client = writer;
  runs = some-there (slice_get (run one-host four-writes).clients 0) (fresh_client (record { host = 0; inc = 1 }) 5 0) runs;
  same = is-next;
  unsaved =
      subst (λ ps. Exists (λ p. Encloses p last-write) ps ⊎ UnderWayEncloses writer.push last-write) (sym dirty)
      (inl (inl (refl, refl, omega arith, omega arith)));
}

shows : ShowsEachFate (run one-host four-writes)
shows = record {
  stored =
      subst (λ j. AtSomePlace (λ after e before. IsDelayed e × IsStored j e) [] j) (sym is-told)
      (inr
      (inr
      (inr
      (inr
      (inr
      (inr (inr (inr (inr (inr (inr (inr (inr (inr (inr (inr (inr (inr (inr (inr (inl (tt, (tells_stored told (write 1)).sound refl))))))))))))))))))))));
  lost =
      subst (λ j. AtSomePlace (λ after e before. IsDelayed e × IsLost j e) [] j) (sym is-told)
      (inr (inr (inr (inr (inr (inr (inr (inr (inr (inr (inr (inr (inr (inr (inl (tt, (tells_lost told (write 2)).sound refl))))))))))))))));
  ended =
      subst (λ j. AtSomePlace (λ after e before. IsEnded j after e) [] j) (sym is-told)
      (inr (inr (inr (inr (inr (inr (inl (record { delayed = tt; uncovered = uncovered (write 3) refl; restarted = inr (inl refl) }))))))));
  waiting =
      subst (λ j. AtSomePlace (λ after e before. IsWaiting j after e × IsStillUnsaved (run one-host four-writes) e) [] j) (sym is-told)
      (inr (inl (record { delayed = tt; uncovered = uncovered last-write refl; running = elim [ inl h ↦ h | inr h ↦ h ] }, is-unsaved)));
}

pub each-fate : HasEachFate
each-fate = record {
  most = 5;
  head = one-host;
  events = four-writes;
  bounds = record { hosts = omega arith; first_long = omega arith; first_short = omega arith; boots = no-crash-within 5 four-writes refl };
  within = skew-test-is-sound 1 5 four-writes refl;
  shows = shows;
}
