-- The server ends writing leases only when it is late enough, in every run (Macklem 1994, write slack and recovery).
use Rattle.std.specs.Prelude.{◌≡◌, ℕ, Bool, true, false, ◌&&◌, ◌==◌, List, [], ◌∷◌, ⊤, if◌then◌else◌}
use Rattle.nq_base.specs.declared.Entry.{Entry}
use Rattle.nq_base.specs.declared.Entry.TheVariants.{G, F, O}
use Rattle.nq_base.specs.declared.Who.{Who}
use Rattle.nq_model.specs.laws.Bounds.{InEveryRun}
use Rattle.nq_model.specs.laws.CutOff.{IsLateEnd, IsLateOpening}
use Rattle.nq_model.specs.laws.Journal.{Throughout}
use Rattle.nq_model.specs.protocol.Table.{caches, same_who}
use Rattle.nq_model.specs.protocol.World.{run}

-- the boot that served last: the one whose recovery ended last, or the first boot
abbrev pub boot_opened : List Entry → ℕ
boot_opened [] = 1
boot_opened (O boot until heard now ∷ before) = boot
boot_opened (other ∷ before) = boot_opened before

-- whether the last grant that an incarnation got on a file let it cache, and this boot gave it
abbrev pub was_caching : (boot : ℕ) → List Entry → (who : Who) (file : ℕ) → Bool
was_caching boot [] who file = false
was_caching boot (G by f mode tag term now ∷ before) who file =
    if same_who by who && (f == file) then caches mode && tag.boot == boot else was_caching boot before who file
was_caching boot (other ∷ before) who file = was_caching boot before who file

-- an F comes late enough for its incarnation and file. An O comes late enough for each incarnation and file whose last
-- grant let it cache and was given by the boot that served last
abbrev pub IsLate : Entry → (before : List Entry) → Type 0
IsLate (F who file until heard now) before = IsLateEnd before who file until heard now
IsLate (O boot until heard now) before =
    (who : Who) (file : ℕ)
    → was_caching (boot_opened before) before who file ≡ true
    → IsLateOpening before who file boot now
IsLate other before = ⊤

-- each F and O does, after every schedule that is within skew over the longest term of all boots, whatever packets were
-- lost, repeated or reordered, whoever restarted, and however often the server crashed
abbrev pub EndingsComeLate : Type 0
EndingsComeLate = InEveryRun (λ head events. Throughout IsLate (run head events).journal)
