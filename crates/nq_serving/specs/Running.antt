-- What serving does: it boots a server and takes turns of it. Below, `content` is what a keeper tells of what it keeps, `faults` is its count of faults,
-- and `follows` says that a keeper is another one after some of its calls. The `policy` says whether a fault of the link ends the turns, and an
-- `extension` stands beside the server.
use Rattle.std.specs.Option.{ForSome}
use Rattle.std.specs.Prelude.{◌≡◌, ◌⊎◌, ⊤, ◌<◌, ℕ, Option, None, Result, Ok, Err}
use Rattle.nq_keeper.specs.Booting.{last_boot}
use Rattle.nq_keeper.specs.Keeping.{StaysOrEnds}
use Rattle.nq_serving.specs.Extending.{Extension}
use Rattle.nq_serving.specs.Turning.{Standing, TakesTurns, standing}
use Rattle.nq_serving.specs.declared.turning.LinkPolicy.{LinkPolicy}
use Rattle.nq_base.specs.declared.ending.fault.Fault.{Fault}
use Rattle.nq_io.specs.Faults.{Rose}
use Rattle.nq_model.specs.protocol.Kept.{Kept}
use Rattle.nq_model.specs.protocol.ServerStep.{boot}
use Rattle.nq_clock.specs.Clocks.{ClockTold, ReadsOnce}
use Rattle.nq_link.specs.Links.{LinkTold}
use Rattle.nq_server.specs.Holding.{Holding, IsServer}
use Rattle.nq_server.specs.declared.server.BootFault.{BootFault}
use Rattle.nq_server.specs.declared.server.BootFault.TheVariants as fault

-- ---- the boot

-- a server that booted over this keeper at this time: it is the protocol's, knows no last table, and has this very keeper
abbrev pub Booted : {K : Type 0} → (content : K → Option Kept) → (faults : K → ℕ) → (follows : K → K → Type 0) → (longest time : ℕ) → (keeper : K)
    → Holding K → Type 0
Booted content faults follows longest time keeper server =
    ForSome (content keeper) (λ kept. (kept.boot < last_boot) × IsServer (boot kept longest time None) server (content server.keeper))
    × (faults server.keeper ≡ faults keeper) × follows keeper server.keeper

-- nothing was done with what a keeper keeps
abbrev pub LeavesAlone : {K : Type 0} → (content : K → Option Kept) → (faults : K → ℕ) → (keeper left : K) → Type 0
LeavesAlone content faults keeper left = (content left ≡ content keeper) × (faults left ≡ faults keeper)

-- Why no server booted over this keeper, which is left so: it failed, and counted that; memory was wanting; or no number is left for a
-- boot. In the last two cases it keeps what it kept.
abbrev pub NoBoot : {K : Type 0} → (content : K → Option Kept) → (faults : K → ℕ) → (keeper left : K) → Fault → Type 0
NoBoot content faults keeper left Fault.Link = ⊥
NoBoot content faults keeper left Fault.NoAnswer = ⊥
NoBoot content faults keeper left Fault.Keep = StaysOrEnds (content keeper) (content left) × Rose (faults keeper) (faults left)
NoBoot content faults keeper left Fault.Memory = LeavesAlone content faults keeper left
NoBoot content faults keeper left Fault.Spent =
    ForSome (content keeper) (λ kept. kept.boot ≡ last_boot) × LeavesAlone content faults keeper left

-- why nothing is served where no server booted
abbrev pub halt_of : {K : Type 0} → BootFault K → Fault
halt_of (fault.Failed keeper) = Fault.Keep
halt_of (fault.Memory keeper) = Fault.Memory
halt_of (fault.Spent keeper) = Fault.Spent

-- no server booted over this keeper, which is left so, and no turn was taken
pub record RanNone {K : Type 0} (content : K → Option Kept) (faults : K → ℕ) (follows : K → K → Type 0) (keeper left : K) (why : Fault)
    (clock clock' : ClockTold) (link link' : LinkTold) : Type 0 where
  pub none : NoBoot content faults keeper left why
  pub same : follows keeper left
  pub clocks : clock' ≡ clock
  pub links : link' ≡ link

-- ---- the turns

-- Turns of this server over this link, with datagrams that are numbered from 0; they ended so. The server has its keeper still, after the calls
-- that the turns made of it, and this is the keeper that is left.
pub record Ran {K : Type 0} (content : K → Option Kept) (faults : K → ℕ) (policy : LinkPolicy) (extension : Extension) (follows : K → K → Type 0)
    (turns : ℕ) (server : Holding K)
    (ended : Result Unit Fault) (left : K) (clock clock' : ClockTold) (link link' : LinkTold) : Type 0 where
  pub last : Standing K
  pub taken : TakesTurns content faults policy extension turns ended (standing server 0 clock link) last
  pub same : follows server.keeper last.server.keeper
  pub keeper : left ≡ last.server.keeper
  pub clocks : clock' ≡ last.clock
  pub links : link' ≡ last.link

-- a server booted over this keeper at this time, and turns of it ended so
pub record RanBooted {K : Type 0} (content : K → Option Kept) (faults : K → ℕ) (policy : LinkPolicy) (extension : Extension) (follows : K → K → Type 0)
    (longest turns time : ℕ) (keeper : K)
    (ended : Result Unit Fault) (left : K) (clock clock' : ClockTold) (link link' : LinkTold) : Type 0 where
  pub server : Holding K
  pub booted : Booted content faults follows longest time keeper server
  pub ran : Ran content faults policy extension follows turns server ended left clock clock' link link'

-- a server booted and took turns; or none booted, and no turn was taken
abbrev pub Runs : {K : Type 0} → (content : K → Option Kept) → (faults : K → ℕ) → LinkPolicy → Extension → (follows : K → K → Type 0) →
    (longest turns time : ℕ) → (keeper : K)
    → Result Unit Fault → (left : K) → (clock clock' : ClockTold) → (link link' : LinkTold) → Type 0
Runs content faults policy extension follows longest turns time keeper (Ok done) left clock clock' link link' =
    RanBooted content faults policy extension follows longest turns time keeper (Ok done) left clock clock' link link'
Runs content faults policy extension follows longest turns time keeper (Err why) left clock clock' link link' =
    RanBooted content faults policy extension follows longest turns time keeper (Err why) left clock clock' link link'
    ⊎ RanNone content faults follows keeper left why clock clock' link link'

-- The clock was read once, and what was to be done from that time on ended so. This keeper is left: it is the one that was handed in, and
-- keeps what the boot and the steps of the turns made of what it kept.
pub record Serves {K : Type 0} (content : K → Option Kept) (faults : K → ℕ) (policy : LinkPolicy) (extension : Extension) (follows : K → K → Type 0)
    (longest turns : ℕ) (keeper : K)
    (ended : Result Unit Fault) (left : K) (clock clock' : ClockTold) (link link' : LinkTold) : Type 0 where
  pub time : ℕ
  pub between : ClockTold
  pub read : ReadsOnce time clock between
  pub runs : Runs content faults policy extension follows longest turns time keeper ended left between clock' link link'

-- what the count of the link's faults did in turns behind which others went on: it stood still, unless its faults are borne
abbrev pub StaysBy : LinkPolicy → (before now : ℕ) → Type 0
StaysBy LinkPolicy.Stop before now = now ≡ before
StaysBy LinkPolicy.GoOn before now = ⊤

-- that the link ended the turns: its count rose. No link does where its faults are borne
abbrev pub EndsByLink : LinkPolicy → (before now : ℕ) → Type 0
EndsByLink LinkPolicy.Stop before now = Rose before now
EndsByLink LinkPolicy.GoOn before now = ⊥

-- Why serving ended so: all turns were taken; the link or the keeper failed, which it has counted; memory was wanting; or no number is left for a boot
abbrev pub HaltsBy : LinkPolicy → Result Unit Fault → (told : Option Kept) → (keep keep' link link' : ℕ) → Type 0
HaltsBy policy (Ok done) told keep keep' link link' = ForSome told (λ kept. kept.boot < last_boot) × (keep' ≡ keep) × StaysBy policy link link'
HaltsBy policy (Err Fault.Link) told keep keep' link link' = EndsByLink policy link link'
HaltsBy policy (Err Fault.Keep) told keep keep' link link' = Rose keep keep'
HaltsBy policy (Err Fault.Memory) told keep keep' link link' = ⊤
HaltsBy policy (Err Fault.Spent) told keep keep' link link' = ForSome told (λ kept. kept.boot ≡ last_boot)
HaltsBy policy (Err Fault.NoAnswer) told keep keep' link link' = ⊥
