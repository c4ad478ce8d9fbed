-- In every run kept blocks have the values that the journal says.
use Rattle.std.proofs.Common.{◌≡◌, ℕ, List, Some, map, length, sym, ap, ◌∙◌, arith}
use Rattle.std.proofs.lemmas.List.{length-map}
use Rattle.std.specs.Prelude.{slice_get}
use Rattle.nq_base.specs.Block.{value_of}
use Rattle.nq_base.specs.declared.Event.{Event}
use Rattle.law_runs.proofs.RunContents.{run-fits}
use Rattle.nq_model.specs.laws.RevisionsHaveOneContent.{first_length}
use Rattle.walk_files.proofs.ServerDoes.{get-mapped}
use Rattle.nq_model.specs.laws.Contents.{content_at}
use Rattle.nq_model.specs.laws.Bounds.{KeepsBounds}
use Rattle.law_runs.proofs.RestingRuns.{rests-on}
use Rattle.nq_model.specs.laws.BlocksAreHeld.{KeptBlocksAreHeld}
use Rattle.walk_files.proofs.Held.{HasHeld, held-is}
use Rattle.walk_files.proofs.HeldContents.{HeldBlocks, content}
use Rattle.walk_files.proofs.HeldFiles.{held-contents, content-length}
use Rattle.nq_model.specs.protocol.Kept.{File, blocks_of, find_file}
use Rattle.nq_model.specs.protocol.Skew.{IsWithinSkew}
use Rattle.nq_model.specs.protocol.World.{Head, run}
use Rattle.walk_files.proofs.Holders.{KnownOf}

module _ (most : ℕ) (head : Head)
    (known : (events : List Event) → KeepsBounds most head events → IsWithinSkew head.hosts most events
    → KnownOf head.hosts most (run head events) events) (events : List Event) (b : KeepsBounds most head events)
    (within : IsWithinSkew head.hosts most events) where
  -- a kept file has the content of its changes
  pub kept-content : (id : ℕ) (f : File) → find_file id (run head events).server.kept.files ≡ Some f
      → map value_of f.bodies ≡ content (run head events).journal (first_length head events id) id
  kept-content id f found =
      let k = (run-fits most head events b within).files id f found in
      k.content ∙ ap (content_at (run head events).journal (first_length head events id) id) k.revision

  pub held-blocks : (file : ℕ) → HeldBlocks (run head events).journal file (content (run head events).journal (first_length head events file) file)
  held-blocks file = held-contents (first_length head events) (run head events).journal (rests-on most head known events b within) file

  pub kept-held : (id : ℕ) (f : File) (block : ℕ) (body : List ℕ) → find_file id (run head events).server.kept.files ≡ Some f
      → slice_get f.bodies block ≡ Some body → HasHeld (run head events).journal id block (value_of body)
  kept-held id f block body found there =
      (held-blocks id).here block (value_of body)
      (ap (λ values. slice_get values block) (sym (kept-content id f found)) ∙ get-mapped value_of f.bodies block body there)

  kept-size : (id : ℕ) (f : File) → find_file id (run head events).server.kept.files ≡ Some f
      → length (content (run head events).journal (first_length head events id) id) ≡ blocks_of f
  kept-size id f found = ap (λ values. length values) (sym (kept-content id f found)) ∙ length-map f.bodies value_of

  pub run-held : KeptBlocksAreHeld (run head events)
  run-held = record {
    values = λ id f block body found there. held-is (run head events).journal id block (value_of body) (kept-held id f block body found there);
    past =
        λ id f block found above. let size = kept-size id f found in
        sym (held-is (run head events).journal id block 0 ((held-blocks id).past block (omega arith)));
    lengths = λ id f blocks found last. sym (kept-size id f found) ∙ content-length (run head events).journal (first_length head events id) id blocks last;
  }
