-- Revisions in order of files.
use Rattle.std.specs.Prelude.{ℕ, ◌<◌, ◌≤◌, List, [], ◌∷◌, take, drop, length, Option, Some, None, ◌==◌, if◌then◌else◌}
use Rattle.std.specs.List.{AllByRecursion}
use Rattle.nq_cache.specs.declared.revisions.KnownRevision.{KnownRevision}
use Rattle.nq_model.specs.protocol.Client.{Revision}

-- a revision as the model has it
abbrev pub revision : KnownRevision → Revision
revision k = record { file = k.file; rev = k.rev }

-- what stands at the place of a file, if that is of the file
abbrev pub of_file : ℕ → Option KnownRevision → Option KnownRevision
of_file file None = None
of_file file (Some k) = if k.file == file then Some k else None

-- each revision stands before those of later files
abbrev pub Ascends : List KnownRevision → Type 0
Ascends [] = Unit {0}
Ascends (k ∷ ks) = AllByRecursion (λ later. k.file < later.file) ks × Ascends ks

-- the place of a file: those of earlier files stand before it, and no others
pub record IsPlace (file : ℕ) (ks : List KnownRevision) (place : ℕ) : Type 0 where
  pub within : place ≤ length ks
  pub before : AllByRecursion (λ k. k.file < file) (take place ks)
  pub behind : AllByRecursion (λ k. file ≤ k.file) (drop place ks)

-- The revisions, and how many more files get one before memory is wanted.
pub record RevisionList : Type 0 where
  pub items : List Revision
  pub spare : ℕ
