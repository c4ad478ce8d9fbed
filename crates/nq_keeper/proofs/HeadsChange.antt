-- The change of the server's numbers alone.
use Rattle.std.proofs.Common.{◌≡◌, ◌⊎◌, ◌<◌, ◌≤◌, ◌+◌, ◌^◌, ℕ, arith, Option, Some, None, Result, Ok, Err, sym, ap, ◌∙◌, subst, inl, inr}
use Rattle.std.specs.Option.{ForSome}
use Rattle.nq_base.specs.declared.Change.{Change}
use Rattle.nq_base.specs.declared.Heads.{Heads}
use Rattle.nq_base.specs.declared.HostChange.{HostChange}
use Rattle.nq_io.specs.Faults.{Rose}
use Rattle.nq_keeper.specs.declared.keeper.KeepFault.{KeepFault}
use Rattle.nq_keeper.specs.Keeping.{Commits, StaysOrEnds, told_after}
use Rattle.nq_model.specs.protocol.Change.{AreHeadsWithin, IsChangeWithin, IsWithinBounds, applied, change_of_heads, heads_of, opened_heads}
use Rattle.nq_model.specs.protocol.Kept.{Kept}
use Rattle.nq_model.specs.protocol.ServerStep.{booted}
use Rattle.nq_model.proofs.AppliedChanges.{applied-boot, applied-opening}
use Rattle.nq_model.specs.protocol.Profile.{most_hosts}
use Rattle.nq_model.proofs.FreshWithin.{booted-within, opened-within}
use Rattle.nq_keeper.specs.Booting.{Opens, heads_after_boot, last_boot, opened_by}
use Rattle.nq_keeper.specs.Recovery.{IsTerm}

-- it names no host
pub names-none : (heads : Heads) (change : Change) (h : HostChange) → change ≡ change_of_heads heads → change.host ≡ Some h → h.host < most_hosts
unfolding change_of_heads
names-none heads change h is named = let none : None ≡ Some h = sym (ap (λ c. c.host) is) ∙ named in absurd (cc)

-- its numbers are within their bounds, where those are that it keeps
pub heads-within : (kept : Kept) (heads : Heads) (change : Change) → change ≡ change_of_heads heads → AreHeadsWithin kept.next heads
    → IsChangeWithin kept change
unfolding change_of_heads
heads-within kept heads change is own = subst (IsChangeWithin kept) (sym is) (record { file = tt; block = tt; host = tt; heads = own })

-- so are those after a boot
pub after-boot-within : (kept : Kept) (longest : ℕ) (heads after : Heads) → IsWithinBounds kept → IsTerm longest → heads ≡ heads_of kept
    → after ≡ heads_after_boot heads longest → heads.boot < last_boot → AreHeadsWithin kept.next after
unfolding change_of_heads
after-boot-within kept longest heads after within term is next below =
    let few : kept.boot + 1 < 2 ^ 31 = let same : heads.boot ≡ kept.boot = ap (λ h. h.boot) is in omega arith in
    subst (AreHeadsWithin kept.next) (sym (next ∙ ap (λ h. heads_after_boot h longest) is))
    (booted-within kept longest within few term.long term.short).heads

-- and those once a boot serves
pub opened-heads-within : (kept : Kept) (longest : ℕ) (heads : Heads) → IsWithinBounds kept → IsTerm longest → heads ≡ heads_of kept
    → AreHeadsWithin kept.next (record { boot = heads.boot; opened = heads.boot; longest = longest; next = heads.next })
unfolding change_of_heads opened_heads
opened-heads-within kept longest heads within term is =
    subst (λ (h : Heads). AreHeadsWithin kept.next (record { boot = h.boot; opened = h.boot; longest = longest; next = h.next })) (sym is)
    (opened-within kept longest within term.long term.short).heads

-- a boot that has no number left comes over the last one
pub is-last : (kept : Kept) (heads : Heads) → IsWithinBounds kept → heads ≡ heads_of kept → last_boot ≤ heads.boot → kept.boot ≡ last_boot
is-last kept heads within is spent =
    let same : heads.boot ≡ kept.boot = ap (λ h. h.boot) is in
    let below = within.boot in
    omega arith

-- what is kept after a boot
pub kept-booted : (kept : Kept) (longest : ℕ) (heads after : Heads) → heads ≡ heads_of kept → after ≡ heads_after_boot heads longest
    → applied kept (change_of_heads after) ≡ booted kept longest
kept-booted kept longest heads after is next =
    ap (λ h. applied kept (change_of_heads h)) (next ∙ ap (λ h. heads_after_boot h longest) is) ∙ sym (applied-boot kept longest)

-- what a stop leaves, told in other words
pub leaves-booted : (kept before after : Kept) (found : Option Kept) → before ≡ after → (found ≡ Some kept) ⊎ (found ≡ Some before)
    → (found ≡ Some kept) ⊎ (found ≡ Some after)
leaves-booted kept before after found same (inl h) = inl h
leaves-booted kept before after found same (inr h) = inr (h ∙ ap (λ k. Some k) same)

-- what is kept once a boot serves
abbrev pub heads_opened : Heads → (longest : ℕ) → Heads
heads_opened heads longest = record { boot = heads.boot; opened = heads.boot; longest = longest; next = heads.next }

pub kept-opened : (kept : Kept) (longest : ℕ) (heads : Heads) → heads ≡ heads_of kept → applied kept (change_of_heads (heads_opened heads longest))
    ≡ opened_by kept longest
unfolding opened_by opened_heads
kept-opened kept longest heads is =
    ap (λ h. applied kept (change_of_heads (heads_opened h longest))) is ∙ sym (applied-opening kept longest)

pub opens-heads : (longest : ℕ) (heads : Heads) (result : Result Unit KeepFault) (told between tells : Option Kept) (before middle now : ℕ) → between
    ≡ told → middle ≡ before → ForSome told (λ kept. heads ≡ heads_of kept) → Commits result (change_of_heads (heads_opened heads longest)) between
    tells middle now → Opens longest result told tells before now
opens-heads longest heads (Ok done) told between tells before middle now stays same is h = (
  λ kept e. h.0 ∙ ap (told_after (change_of_heads (heads_opened heads longest))) (stays ∙ e) ∙ ap (λ k. Some k) (kept-opened kept longest heads
      (is kept e)),
  h.1 ∙ same,
)
opens-heads longest heads (Err KeepFault.Memory) told between tells before middle now stays same is h = (h.0 ∙ stays, h.1 ∙ same)
opens-heads longest heads (Err KeepFault.Failed) told between tells before middle now stays same is h = (
  subst (λ o. StaysOrEnds o tells) stays h.0,
  subst (λ n. Rose n now) same h.1,
)
