-- What was done to a disk in memory.
use Rattle.nq_disk.specs.MemDisk.{Event, wrote, tore, synced}
use Rattle.nq_disk.specs.declared.history.Deed.{Deed}
use Rattle.nq_disk.specs.declared.history.Deed.TheVariants.{Wrote, Tore, Synced}

-- a deed, as an event
abbrev pub event_of : Deed → Event
event_of (Wrote place bytes) = wrote place bytes.now
event_of (Tore place count) = tore place count
event_of Synced = synced
