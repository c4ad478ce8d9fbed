-- A client reads, reads again, writes, changes a file's length and puts.
use Rattle.std.proofs.Common.{◌≡◌, Bool, true, ◌&&◌, List, [], ◌∷◌, refl, arith}
use Rattle.std.specs.Prelude.{IsTrue}
use Rattle.std.proofs.lemmas.Bool.{and_parts}
use Rattle.nq_base.specs.Block.{filled, zeros}
use Rattle.walk_steps.proofs.NoCrash.{no-crash-within}
use Rattle.nq_model.specs.protocol.World.{Head, run}
use Rattle.nq_base.specs.declared.Call.{Call}
use Rattle.nq_base.specs.declared.Entry.{Entry}
use Rattle.nq_base.specs.declared.Event.{Event}
use Rattle.law_runs.specs.CallsMet.{AreMet, went_through, is_resize, is_cached, is_counted_served}
use Rattle.nq_model.proofs.SkewTest.{skew-test-is-sound}
use Rattle.nq_model.specs.laws.JournalTest.{exists}
use Rattle.nq_model.specs.laws.FateTest.{is_delayed}
use Rattle.walk_steps.proofs.GivenRuns.{given-run}

-- one host, one file of one block
abbrev one-host : Head
one-host = record { hosts = 1; term = 30; longest = 60; files = (97 ∷ [], 1) ∷ [] }

-- the newest event first
abbrev some-calls : List Event
some-calls =
    Event.Deliver 9 ∷ Event.Deliver 8 ∷ Event.Call 0 (Call.Put 1 0 (filled 8)) ∷ Event.Deliver 7 ∷ Event.Deliver 6 ∷ Event.Deliver 5 ∷ Event.Deliver 4
    ∷ Event.Call 0 (Call.Resize 1 2) ∷ Event.Deliver 3 ∷ Event.Deliver 2 ∷ Event.Call 0 (Call.Write 1 0 (filled 7))
    ∷ Event.Call 0 (Call.Read 1 0) ∷ Event.Deliver 1 ∷ Event.Deliver 0 ∷ Event.Call 0 (Call.Read 1 0) ∷ []

-- the journal then
abbrev has_all : List Entry → Bool
has_all journal =
    exists is_delayed journal && exists went_through journal && exists is_resize journal && exists is_cached journal && exists
    (is_counted_served journal) journal

all-there : has_all (run one-host some-calls).journal ≡ true
unfolding filled zeros given-run
all-there = refl

there : (a b c d e : Bool) → (a && b && c && d && e) ≡ true → IsTrue a × IsTrue b × IsTrue c × IsTrue d × IsTrue e
there a b c d e h =
    let p = and_parts (a && b && c && d) e h in
    let q = and_parts (a && b && c) d p.0 in
    let r = and_parts (a && b) c q.0 in
    let t = and_parts a b r.0 in
    (t.0, t.1, r.1, q.1, p.1)

pub calls-are-met : AreMet
calls-are-met =
    let t = there _ _ _ _ _ all-there in
    record {
      most = 60;
      head = one-host;
      events = some-calls;
      bounds = record { hosts = omega arith; first_long = omega arith; first_short = omega arith; boots = no-crash-within 60 some-calls refl };
      within = skew-test-is-sound 1 60 some-calls refl;
      delayed = t.0;
      through = t.1;
      resized = t.2;
      cached = t.3;
      served = t.4;
    }
