use Rattle.std.proofs.Common.{◌≢◌, Some}
use Rattle.std.specs.List.{AllWithin}
use Rattle.nq_udp.proofs.book.place_with.Given as goal

abbrev pub invariant-loop-place : goal.invariant-loop-place
invariant-loop-place l = AllWithin (λ entry. entry ≢ Some l.address) l.places 0 l.place
