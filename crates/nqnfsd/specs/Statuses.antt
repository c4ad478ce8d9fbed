-- How the program ends. Below, `told` is what a disk tells of its bytes, `faults` is its count of faults, `may_leave` is what a stop at a moment may
-- leave of its bytes, `follows` says that a disk is another one after some of its calls, and `leaves` is what a stop between two moments may leave. An
-- `extension` stands beside the server.
use Rattle.std.specs.Prelude.{◌≡◌, ◌≢◌, ◌⊎◌, ◌≤◌, ◌^◌, ◌-◌, ℕ, List, None, Option, Result, Ok, Err, false}
use Rattle.nq_base.specs.declared.ending.ending.Ending.{Ending}
use Rattle.nq_base.specs.declared.ending.fault.Fault.{Fault}
use Rattle.nq_clock.specs.Clocks.{ClockTold}
use Rattle.nq_disk.specs.FileDisk.{Anything, SeenFile, StaysFile, unasked, untold}
use Rattle.nq_link.specs.Links.{LinkTold}
use Rattle.nq_lister.specs.Listing.{is_lookup, reply_in}
use Rattle.nq_service.specs.MountServing.{ServesImage, ServesNot}
use Rattle.nq_serving.specs.Extending.{Extension, extension_told}
use Rattle.nq_serving.specs.Serving.{end_of}
use Rattle.nq_store.specs.Opening.{back_of}
use Rattle.nq_store.specs.declared.fault.OpenFault.{OpenFault}
use Rattle.nq_store.specs.declared.fault.OpenFault.TheVariants as opening
use Rattle.nq_words.specs.declared.Wrong.{Wrong}
use Rattle.nqnfsd.specs.declared.words.Options.{Options}
use Rattle.nqnfsd.specs.declared.words.Order.{Order}
use Rattle.nqnfsd.specs.declared.words.Order.TheVariants as order

-- how many turns the program takes at most
abbrev pub most_turns : ℕ
most_turns = 2 ^ 60 - 1

-- how the program ends where its turns ended so
abbrev pub end_of_turns : Result Unit Fault → Ending
end_of_turns (Ok done) = Ending.Done
end_of_turns (Err why) = end_of why

-- how it ends where the image was not opened
abbrev pub end_unopened : {D : Type 0} → OpenFault D → Ending
end_unopened (opening.NotAnImage back) = Ending.Spent
end_unopened (opening.BadField back place) = Ending.Spent
end_unopened (opening.Failed back) = Ending.KeepFault
end_unopened (opening.Memory back) = Ending.Memory

-- the image on this disk was served from, and the program ends as its turns did
pub record EndsServed {D : Type 0} (told : D → Option (List ℕ)) (faults : D → ℕ) (may_leave : D → List ℕ → Type 0) (follows : D → D → Type 0)
    (leaves : D → D → List ℕ → Type 0) (extension : Extension) (longest : ℕ) (end : Ending) (disk left : D) (clock clock' : ClockTold)
    (link link' : LinkTold) : Type 0 where
  pub ended : Result Unit Fault
  pub serves : ServesImage told faults may_leave follows leaves extension longest most_turns disk ended left clock clock' link link'
  pub so : end ≡ end_of_turns ended

-- the image on this disk was not opened, and the program ends by why not
pub record EndsUnopened {D : Type 0} (told : D → Option (List ℕ)) (faults : D → ℕ) (may_leave : D → List ℕ → Type 0)
    (leaves : D → D → List ℕ → Type 0) (end : Ending) (disk left : D) (clock clock' : ClockTold) (link link' : LinkTold) : Type 0 where
  pub fault : OpenFault D
  pub refuses : ServesNot told faults may_leave leaves disk fault clock clock' link link'
  pub back : left ≡ back_of fault
  pub so : end ≡ end_unopened fault

-- The image on this disk was served from or not, and the program ends so. This refuses a program that ends with 0 although its keeper failed
abbrev pub EndsSo : {D : Type 0} → (told : D → Option (List ℕ)) → (faults : D → ℕ) → (may_leave : D → List ℕ → Type 0) → (follows : D → D → Type 0)
    → (leaves : D → D → List ℕ → Type 0) → (extension : Extension) → (longest : ℕ) → Ending → (disk left : D) → (clock clock' : ClockTold)
    → (link link' : LinkTold) → Type 0
EndsSo told faults may_leave follows leaves extension longest end disk left clock clock' link link' =
    EndsServed told faults may_leave follows leaves extension longest end disk left clock clock' link link'
    ⊎ EndsUnopened told faults may_leave leaves end disk left clock clock' link link'

-- ---- the program

-- a disk over the file at this path, of which nothing was asked yet
abbrev pub file_at : (path : List ℕ) → SeenFile
file_at path = record { path = path; is_open = false; name_lasts = false; asked = unasked; faults = 0 }

-- it was served from the image in the file at this path, with some clock and link and with terms within the bounds, and the program ends so
pub record ServedFile (path : List ℕ) (end : Ending) : Type 0 where
  pub longest : ℕ
  pub long : 5 ≤ longest
  pub short : longest ≤ 600
  pub disk : SeenFile
  pub fresh : disk ≡ file_at path
  pub left : SeenFile
  pub clock : ClockTold
  pub clock' : ClockTold
  pub link : LinkTold
  pub link' : LinkTold
  pub so : EndsSo untold (λ disk. disk.faults) (λ disk. Anything) StaysFile (λ first last. Anything) (extension_told is_lookup reply_in) longest end
      disk left clock clock' link link'

-- the program ends so where the machine gave it no file, no link or no clock
abbrev pub IsWithoutParts : Ending → Type 0
IsWithoutParts end = (end ≡ Ending.Memory) ⊎ (end ≡ Ending.LinkFault)

-- how the program ends that was told to serve over the file at this path
abbrev pub EndsOver : (path : List ℕ) → Ending → Type 0
EndsOver path end = IsWithoutParts end ⊎ ServedFile path end

-- a text was printed, or the output failed
abbrev pub IsSaid : Ending → Type 0
IsSaid end = (end ≡ Ending.Done) ⊎ (end ≡ Ending.WriteFault)

-- the options name a file beside the image
abbrev pub NamesFiles : Options → Type 0
NamesFiles options = (options.hosts ≢ None) ⊎ (options.journal ≢ None)

-- how the program ends without the files beside the image: with a fault of the words where this is so, which says that a file was named, or for want
-- of memory
abbrev pub IsWithoutFiles : (named : Type 0) → Ending → Type 0
IsWithoutFiles named end = (end ≡ Ending.Memory) ⊎ (named × (end ≡ Ending.Usage))

-- how the program ends that serves by these options: over their image, or with a fault of the words where a file that they name cannot be used
abbrev pub EndsAt : Options → Ending → Type 0
EndsAt options end = EndsOver options.image.now end ⊎ (NamesFiles options × (end ≡ Ending.Usage))

-- How the program ends that was told to do this. It ends with 0 only where it said what it was asked for, or took all its turns while its disk did
-- not fail
abbrev pub EndsOrder : Result Order Wrong → Ending → Type 0
EndsOrder (Err wrong) end = end ≡ Ending.Usage
EndsOrder (Ok order.Help) end = IsSaid end
EndsOrder (Ok order.Version) end = IsSaid end
EndsOrder (Ok (order.Serve options)) end = EndsAt options end
