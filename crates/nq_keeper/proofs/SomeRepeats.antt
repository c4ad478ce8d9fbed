-- A kept state with a file of one block, which a host writes again and again.
use Rattle.std.proofs.Common.{◌≡◌, ◌<◌, ℕ, [], ◌∷◌, Some, None, refl, subst, arith}
use Rattle.std.specs.Prelude.{false}
use Rattle.std.proofs.lemmas.List.Elements.{All-nil, All-cons}
use Rattle.nq_base.specs.Block.{filled}
use Rattle.nq_base.specs.declared.Gate.{Gate}
use Rattle.nq_base.specs.declared.Request.{Request}
use Rattle.nq_base.specs.declared.Who.{Who}
use Rattle.nq_keeper.specs.Deciding.{IsOfHost}
use Rattle.nq_keeper.specs.Repeats.{Coming, RepeatsAreMet}
use Rattle.nq_model.specs.protocol.Change.{raised_row, file_of, with_body, kept_as}
use Rattle.nq_model.specs.protocol.Decided.{block_write, change_with, no_effect}
use Rattle.nq_model.specs.protocol.Kept.{Kept, new_file}
use Rattle.nq_model.specs.protocol.World.{first_kept}

abbrev kept : Kept
kept = first_kept (record { hosts = 1; term = 30; longest = 60; files = (97 ∷ [], 1) ∷ [] })

abbrev gate : Gate
gate = Gate.Serving 1 false false

abbrev of_inc : (inc : ℕ) → Who
of_inc inc = record { host = 0; inc = inc }

abbrev comes : Request → Coming
comes request = record { gate = gate; request = request }

abbrev write : Coming
write = comes (Request.Write (of_inc 1) 1 1 0 1 1 None (filled 5))

abbrev remove : Coming
remove = comes (Request.Remove (of_inc 1) 1 1 1)

abbrev attach : Coming
attach = comes (Request.Attach (of_inc 2))

host-few : (inc : ℕ) (x : Who) → Some (of_inc inc) ≡ Some x → x.host < 64
host-few inc x e = let same : of_inc inc ≡ x = cc in subst (λ w. w.host < 64) same (omega arith)

pub repeats-are-met : RepeatsAreMet
unfolding new_file block_write change_with raised_row file_of with_body kept_as no_effect
repeats-are-met = record {
  kept = kept;
  comings = write ∷ write ∷ remove ∷ attach ∷ attach ∷ write ∷ [];
  all_hosts = refl;
  few = All-cons (λ c. IsOfHost c.request) write (write ∷ remove ∷ attach ∷ attach ∷ write ∷ []) (host-few 1) (All-cons (λ c. IsOfHost c.request)
      write (remove ∷ attach ∷ attach ∷ write ∷ []) (host-few 1) (All-cons (λ c. IsOfHost c.request) remove (attach ∷ attach ∷ write ∷ [])
      (host-few 1) (All-cons (λ c. IsOfHost c.request) attach (attach ∷ write ∷ []) (host-few 2) (All-cons (λ c. IsOfHost c.request) attach
      (write ∷ []) (host-few 2) (All-cons (λ c. IsOfHost c.request) write [] (host-few 1) (All-nil _))))));
  said = refl;
  twice = refl;
}
