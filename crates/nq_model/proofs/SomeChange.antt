-- A kept state with a file of one block, which a host writes.
use Rattle.std.proofs.Common.{◌≡◌, [], ◌∷◌, None, refl, arith}
use Rattle.std.specs.Prelude.{false, replicate}
use Rattle.std.proofs.lemmas.List.Elements.{All-nil, All-cons, All-append, All-replicate}
use Rattle.nq_base.specs.Block.{filled, zeros}
use Rattle.nq_base.specs.Name.{IsName, IsNameByte}
use Rattle.nq_base.specs.declared.Decided.TheVariants.{Fresh, Again}
use Rattle.nq_base.specs.declared.Gate.{Gate}
use Rattle.nq_base.specs.declared.Request.{Request}
use Rattle.nq_base.specs.declared.Verdict.TheVariants.{Done}
use Rattle.nq_base.specs.declared.Who.{Who}
use Rattle.nq_model.specs.protocol.Change.{IsFileWithin, IsHostWithin, IsBody, IsWithinBounds, raised_row, file_of, with_body, kept_as, applied_if}
use Rattle.nq_model.specs.laws.ChangesOnce.{ChangesAreMet}
use Rattle.nq_model.specs.protocol.Decided.{block_write, change_with, decided, change_of}
use Rattle.nq_model.specs.protocol.Kept.{Kept, new_file, fresh_row}
use Rattle.nq_model.specs.protocol.World.{first_kept, first_row}
use Rattle.nq_model.proofs.WithinBounds.{zeros-body}

abbrev kept : Kept
kept = first_kept (record { hosts = 1; term = 30; longest = 60; files = (97 ∷ [], 1) ∷ [] })

abbrev gate : Gate
gate = Gate.Serving 1 false false

abbrev writer : Who
writer = record { host = 0; inc = 1 }

abbrev write : Request
write = Request.Write writer 1 1 0 1 1 None (filled 5)

named : IsName (97 ∷ [])
named = (omega arith, omega arith, All-cons IsNameByte 97 [] (omega arith, omega arith, λ e. absurd (omega arith)) (All-nil _))

file-within : IsFileWithin 2 (new_file 1 (97 ∷ []) 1)
unfolding new_file
file-within = record {
  from_one = omega arith;
  below_next = omega arith;
  name = named;
  rev = omega arith;
  not_empty = omega arith;
  short = omega arith;
  bodies = All-replicate IsBody 1 zeros zeros-body;
}

within : IsWithinBounds kept
unfolding new_file
within = record {
  files = All-cons (IsFileWithin 2) (new_file 1 (97 ∷ []) 1) [] file-within (All-nil _);
  apart = (All-nil _, refl, tt);
  few_files = omega arith;
  few_blocks = omega arith;
  hosts = All-append IsHostWithin (replicate 1 first_row) (replicate 63 fresh_row) (All-replicate IsHostWithin 1 first_row
      (record { inc = omega arith; seq = omega arith; value = omega arith })) (All-replicate IsHostWithin 63 fresh_row
      (record { inc = omega arith; seq = omega arith; value = omega arith }));
  all_hosts = refl;
  opened = omega arith;
  boot = omega arith;
  long = omega arith;
  short = omega arith;
  ids = omega arith;
  few_ids = omega arith;
}

fresh : decided kept gate write ≡ Fresh Done 1
unfolding new_file block_write
fresh = refl

again : decided (applied_if kept (change_of kept gate write)) gate write ≡ Again Done 1
unfolding new_file block_write change_with raised_row file_of with_body kept_as
again = refl

pub changes-are-met : ChangesAreMet
changes-are-met = record { kept = kept; gate = gate; write = write; value = 1; within = within; fresh = fresh; again = again }
