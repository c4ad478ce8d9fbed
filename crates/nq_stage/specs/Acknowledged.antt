-- Which writes the server has the bodies of.
use Rattle.std.specs.Prelude.{ℕ, List, Option}
use Rattle.std.specs.Map.{lookup}
use Rattle.indexmap.specs.IndexMap.{insert_entry}
use Rattle.nq_stage.specs.declared.messages.Written.{Written}
use Rattle.nq_stage.specs.Writes.{is_same}

-- the verifier with which a write was acknowledged, if it was
abbrev pub verifier_of : Written → List (Written × ℕ) → Option ℕ
verifier_of w acknowledged = lookup (is_same w) acknowledged

-- a write is acknowledged with this verifier: one that was before keeps its place, and another goes last
abbrev pub noted : Written → (verifier : ℕ) → List (Written × ℕ) → List (Written × ℕ)
noted w verifier acknowledged = insert_entry is_same acknowledged w verifier
