-- The events of a storm have lines.
use Rattle.std.proofs.Common.{◌≡◌, ◌≢◌, ℕ, ◌≤◌, List, [], ◌∷◌, inl, refl, ap, arith, codes}
use Rattle.std.proofs.lemmas.List.Elements.{All-cons, All-nil}
use Rattle.std.specs.List.{AllByRecursion}
use Rattle.nq_base.specs.Name.{IsName, IsNameByte}
use Rattle.nq_base.specs.declared.Call.{Call}
use Rattle.nq_base.specs.declared.Event.{Event}
use Rattle.nq_replay.specs.Texts.{IsTellable}
use Rattle.nq_script.specs.Calls.{HasCall}
use Rattle.nq_script.specs.Heads.{FitsHead}
use Rattle.nq_script.specs.Lines.{Allows, HasEvent}
use Rattle.nq_storm.specs.Heads.{storm_head}
use Rattle.nq_storm.specs.Stormy.{IsStormy, WritesNumber}

-- ---- what a version can tell

has_call : (call : Call) → WritesNumber call → HasCall 1 call
has_call (Call.Create name blocks) writes = absurd writes
has_call (Call.Lookup name) writes = absurd writes
has_call (Call.Attr file) writes = absurd writes
has_call (Call.Read file block) writes = tt
has_call (Call.Fetch file block) writes = absurd writes
has_call (Call.Write file block body) writes = writes
has_call (Call.Put file block body) writes = writes
has_call (Call.Sync file) writes = tt
has_call (Call.Resize file blocks) writes = absurd writes
has_call (Call.Remove file) writes = absurd writes

has_event : (event : Event) → IsStormy event → HasEvent 1 event
has_event (Event.Call host call) stormy = has_call call stormy.1
has_event (Event.Deliver k) stormy = tt
has_event Event.ServerTick stormy = tt
has_event (Event.ClientTick host) stormy = tt
has_event (Event.Restart host) stormy = tt
has_event (Event.Crash longest) stormy = inl (refl, stormy)

allows : (event : Event) → IsStormy event → Allows storm_head event
allows (Event.Call host call) stormy = stormy.0
allows (Event.Deliver k) stormy = tt
allows Event.ServerTick stormy = tt
allows (Event.ClientTick host) stormy = stormy
allows (Event.Restart host) stormy = stormy
allows (Event.Crash longest) stormy = omega (arith, stormy)

pub are_told : (events : List Event) → AllByRecursion IsStormy events → AllByRecursion (IsTellable storm_head) events
are_told [] all = tt
are_told (event ∷ events) all = ((allows event all.0, has_event event all.0), are_told events all.1)

-- ---- the head

abbrev first_byte : List ℕ → ℕ
first_byte [] = 0
first_byte (b ∷ bytes) = b

differ : (n : ℕ) → n ≡ 98 → n ≡ 97 → ⊥
differ n is other = omega arith

apart : codes "b" ≢ codes "a"
apart same = differ (first_byte (codes "b")) refl (ap first_byte same)

name_byte : (b : ℕ) → 97 ≤ b → b ≤ 98 → IsName (b ∷ [])
name_byte b low high = (omega arith, omega arith, All-cons IsNameByte b [] (omega arith, omega arith, λ e. omega arith) (All-nil IsNameByte))

pub fits_head : FitsHead storm_head
fits_head = record {
  settings = record {
    known = inl refl;
    some_hosts = omega arith;
    few_hosts = omega arith;
    long_term = omega arith;
    short_term = omega arith;
    fit_longest = (omega arith, omega arith, λ e. refl);
  };
  files = record {
    each = ((name_byte 97 (omega arith) (omega arith), omega arith, omega arith), ((name_byte 98 (omega arith) (omega arith), omega arith, omega arith), tt));
    few_files = omega arith;
    few_blocks = omega arith;
    distinct = ((apart, tt), (tt, tt));
  };
}
