-- What travels, as two lists that are kept side by side.
use Rattle.std.proofs.Common.{◌≡◌, ℕ, zero, suc, List, [], ◌∷◌, ◌++◌, length, map, Option, Some, refl, ap, arith}
use Rattle.std.specs.Prelude.{slice_get}
use Rattle.nq_base.specs.declared.Party.{Party}
use Rattle.nq_link.specs.Packets.{Datagram}
use Rattle.nq_stage.specs.Outer.{Outer}
use Rattle.nq_staged.specs.Around.{datagram_of, outer_of, travelling}

pub length_travelling : (ds : List Datagram) (stands : List (Option ℕ)) → length ds ≡ length stands → length (travelling ds stands) ≡ length ds
length_travelling [] stands same = refl
length_travelling (d ∷ ds) [] same = absurd (omega arith)
length_travelling (d ∷ ds) (s ∷ stands) same = ap suc (length_travelling ds stands (omega arith))

pub datagrams_travelling : (ds : List Datagram) (stands : List (Option ℕ)) → length ds ≡ length stands → ds ≡ map datagram_of (travelling ds stands)
datagrams_travelling [] stands same = refl
datagrams_travelling (d ∷ ds) [] same = absurd (omega arith)
datagrams_travelling (d ∷ ds) (s ∷ stands) same = ap (λ l. d ∷ l) (datagrams_travelling ds stands (omega arith))

pub at_travelling : (ds : List Datagram) (stands : List (Option ℕ)) (k : ℕ) (d : Datagram) (s : Option ℕ) → slice_get ds k ≡ Some d
    → slice_get stands k ≡ Some s
    → slice_get (travelling ds stands) k ≡ Some (outer_of d s)
at_travelling [] stands k d s there stood = absurd (cc)
at_travelling (x ∷ ds) [] k d s there stood = absurd (cc)
at_travelling (x ∷ ds) (y ∷ stands) zero d s there stood = let e : x ≡ d = cc in let f : y ≡ s = cc in rw (e, f) refl
at_travelling (x ∷ ds) (y ∷ stands) (suc k) d s there stood = at_travelling ds stands k d s there stood

pub travelling_more : (ds : List Datagram) (stands : List (Option ℕ)) (d : Datagram) (s : Option ℕ) → length ds ≡ length stands
    → travelling (ds ++ d ∷ []) (stands ++ s ∷ []) ≡ travelling ds stands ++ outer_of d s ∷ []
travelling_more [] [] d s same = refl
travelling_more [] (x ∷ stands) d s same = absurd (omega arith)
travelling_more (x ∷ ds) [] d s same = absurd (omega arith)
travelling_more (x ∷ ds) (y ∷ stands) d s same = ap (λ l. outer_of x y ∷ l) (travelling_more ds stands d s (omega arith))

-- a packet that was read
pub read-is : (sent : List Outer) (k : ℕ) (d : Datagram) (sender to : Party) (bytes : List ℕ) (stands : Option ℕ) → slice_get sent k
    ≡ Some (outer_of d stands) → sender ≡ d.sender → to ≡ d.to → bytes ≡ d.bytes → slice_get sent k ≡ Some (record {
      sender = sender;
      to = to;
      bytes =
          bytes;
      stands = stands;
    })
read-is sent k d sender to bytes stands there s t b = rw (s, t, b) there
