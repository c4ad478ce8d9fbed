-- What travels, as two lists that are kept side by side.
use Rattle.std.proofs.Common.{◌≡◌, ℕ, zero, suc, List, [], ◌∷◌, ◌++◌, length, map, Option, Some, refl, ap, arith}
use Rattle.std.specs.Prelude.{slice_get}
use Rattle.nq_base.specs.declared.Party.{Party}
use Rattle.nq_link.specs.Packets.{Datagram}
use Rattle.nq_name_server.specs.Outer.{Outer}
use Rattle.nq_name_server.specs.Around.{datagram_of, outer_of, travelling}

pub length_travelling : (ds : List Datagram) (inner : List (Option ℕ)) → length ds ≡ length inner → length (travelling ds inner) ≡ length ds
length_travelling [] inner same = refl
length_travelling (d ∷ ds) [] same = absurd (omega arith)
length_travelling (d ∷ ds) (s ∷ inner) same = ap suc (length_travelling ds inner (omega arith))

pub datagrams_travelling : (ds : List Datagram) (inner : List (Option ℕ)) → length ds ≡ length inner → ds ≡ map datagram_of (travelling ds inner)
datagrams_travelling [] inner same = refl
datagrams_travelling (d ∷ ds) [] same = absurd (omega arith)
datagrams_travelling (d ∷ ds) (s ∷ inner) same = ap (λ l. d ∷ l) (datagrams_travelling ds inner (omega arith))

pub at_travelling : (ds : List Datagram) (inner : List (Option ℕ)) (k : ℕ) (d : Datagram) (s : Option ℕ) → slice_get ds k ≡ Some d → slice_get inner k ≡ Some s
    → slice_get (travelling ds inner) k ≡ Some (outer_of d s)
at_travelling [] inner k d s there stood = absurd (cc)
at_travelling (x ∷ ds) [] k d s there stood = absurd (cc)
at_travelling (x ∷ ds) (y ∷ inner) zero d s there stood = let e : x ≡ d = cc in let f : y ≡ s = cc in rw (e, f) refl
at_travelling (x ∷ ds) (y ∷ inner) (suc k) d s there stood = at_travelling ds inner k d s there stood

pub travelling_more : (ds : List Datagram) (inner : List (Option ℕ)) (d : Datagram) (s : Option ℕ) → length ds ≡ length inner
    → travelling (ds ++ d ∷ []) (inner ++ s ∷ []) ≡ travelling ds inner ++ outer_of d s ∷ []
travelling_more [] [] d s same = refl
travelling_more [] (x ∷ inner) d s same = absurd (omega arith)
travelling_more (x ∷ ds) [] d s same = absurd (omega arith)
travelling_more (x ∷ ds) (y ∷ inner) d s same = ap (λ l. outer_of x y ∷ l) (travelling_more ds inner d s (omega arith))

-- a packet that was read
pub read-is : (sent : List Outer) (k : ℕ) (d : Datagram) (from to : Party) (bytes : List ℕ) (inner : Option ℕ) → slice_get sent k ≡ Some (outer_of d inner)
    → from ≡ d.sender → to ≡ d.to → bytes ≡ d.bytes → slice_get sent k ≡ Some (record { sender = from; to = to; bytes = bytes; is = inner })
read-is sent k d from to bytes inner there s t b = rw (s, t, b) there
