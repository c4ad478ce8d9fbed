-- The parts of requests and results: what is spelled so is read, whatever follows.
use Rattle.std.proofs.Common.{◌≡◌, ℕ, ◌^◌, ◌<◌, true, false, List, ◌++◌, length, Option, Some, None, IfSome, Result, Ok, refl, ap, ◌∙◌, append_assoc, arith}
use Rattle.std.proofs.lemmas.Bool.{eq-eqb}
use Rattle.nq_base.specs.Name.{IsName}
use Rattle.nq_base.specs.declared.Grant.{Grant}
use Rattle.nq_base.specs.declared.Mode.{Mode}
use Rattle.nq_base.specs.declared.Mode.TheVariants.{NonCaching, Reading, Writing}
use Rattle.nq_base.specs.declared.PushBase.{PushBase}
use Rattle.nq_base.specs.declared.Tag.{Tag}
use Rattle.nq_base.specs.declared.Want.{Want}
use Rattle.nq_base.specs.declared.Who.{Who}
use Rattle.nq_xdr.specs.Item.{word, hyper, boolean, opaque}
use Rattle.nq_xdr.proofs.Numbers.{word_again, hyper_again}
use Rattle.nq_xdr.proofs.Opaque.{boolean_again, opaque_again}
use Rattle.nq_wire.specs.declared.fault.Garbage.{Garbage}
use Rattle.nq_wire.specs.Parts.{head, tag_bytes, mode_number, want_bytes, grant_bytes, base_bytes, optional, IsWho, IsTag, IsWant, IsGrant}
use Rattle.nq_wire.specs.Parts.{IsPushBase, IsWanted}
use Rattle.nq_wire.specs.Reading.{head_at, tag_at, wanted_mode, want_at, granted_mode, grant_at, base_at, optional_at, name_at, body_at}
use Rattle.nq_wire.proofs.Names.{name_of-name}

pub head_again : (who : Who) (rest : List ℕ) → IsWho who → head_at (head who ++ rest) ≡ Ok (who, rest)
unfolding head head_at
head_again who rest fits =
    ap head_at (append_assoc (word who.host) (word who.inc) rest) ∙ rw (
      word_again who.host (word who.inc ++ rest) fits.host,
      word_again who.inc rest
          fits.inc,
    ) refl

pub tag_again : (tag : Tag) (rest : List ℕ) → IsTag tag → tag_at (tag_bytes tag ++ rest) ≡ Ok (tag, rest)
unfolding tag_bytes tag_at
tag_again tag rest fits =
    ap tag_at (append_assoc (word tag.boot) (hyper tag.number) rest) ∙ rw (
      word_again tag.boot (hyper tag.number ++ rest) fits.boot,
      hyper_again tag.number rest fits.number,
    ) refl

mode_fits : (mode : Mode) → mode_number mode < 2 ^ 32
mode_fits NonCaching = omega arith
mode_fits Reading = omega arith
mode_fits Writing = omega arith

wanted_mode_again : (mode : Mode) → IsWanted mode → wanted_mode (mode_number mode) ≡ Ok mode
unfolding wanted_mode
wanted_mode_again NonCaching is = absurd is
wanted_mode_again Reading is = refl
wanted_mode_again Writing is = refl

granted_mode_again : (mode : Mode) → granted_mode (mode_number mode) ≡ Ok mode
unfolding granted_mode
granted_mode_again NonCaching = refl
granted_mode_again Reading = refl
granted_mode_again Writing = refl

pub want_again : (want : Want) (rest : List ℕ) → IsWant want → IsWanted want.mode → want_at (want_bytes want ++ rest) ≡ Ok (want, rest)
unfolding want_bytes want_at
want_again want rest fits is =
    ap want_at (append_assoc (word (mode_number want.mode)) (word want.term) rest)
    ∙ rw (
      word_again (mode_number want.mode) (word want.term ++ rest) (mode_fits want.mode),
      wanted_mode_again want.mode is,
      word_again want.term rest
          fits.term,
    ) refl

pub grant_again : (grant : Grant) (rest : List ℕ) → IsGrant grant → grant_at (grant_bytes grant ++ rest) ≡ Ok (grant, rest)
unfolding grant_bytes grant_at
grant_again grant rest fits =
    let blocks = word grant.blocks ++ rest in
    let rev = hyper grant.rev ++ blocks in
    let since = tag_bytes grant.since ++ rev in
    let tag = tag_bytes grant.tag ++ since in
    let term = word grant.term ++ tag in
    let parts : grant_bytes grant ++ rest ≡ word (mode_number grant.mode) ++ term = simp append_assoc in
    ap grant_at parts
    ∙ rw (
      word_again (mode_number grant.mode) term (mode_fits grant.mode),
      granted_mode_again grant.mode,
      word_again grant.term tag fits.term,
      tag_again grant.tag since fits.tag,
      tag_again grant.since rev fits.since,
      hyper_again grant.rev blocks fits.rev,
      word_again grant.blocks rest fits.blocks,
    ) refl

pub base_again : (push : PushBase) (rest : List ℕ) → IsPushBase push → base_at (base_bytes push ++ rest) ≡ Ok (push, rest)
unfolding base_bytes base_at
base_again push rest fits =
    ap base_at (append_assoc (word push.boot) (hyper push.base) rest) ∙ rw (
      word_again push.boot (hyper push.base ++ rest) fits.boot,
      hyper_again push.base rest fits.base,
    ) refl

pub optional_again : {A : Type 0} (part : A → List ℕ) (part_at : List ℕ → Result (A × List ℕ) Garbage) (o : Option A) (rest : List ℕ)
    → IfSome o (λ x. part_at (part x ++ rest) ≡ Ok (x, rest)) → optional_at part_at (optional part o ++ rest) ≡ Ok (o, rest)
unfolding optional optional_at
optional_again part part_at None rest again = rw (boolean_again false rest) refl
optional_again part part_at (Some x) rest again =
    ap (optional_at part_at) (append_assoc (boolean true) (part x) rest) ∙ rw (boolean_again true (part x ++ rest), again) refl

pub want_if_there : (o : Option Want) (rest : List ℕ) → IfSome o IsWant → IfSome o (λ w. IsWanted w.mode) → optional_at want_at (optional want_bytes o
    ++ rest) ≡ Ok (o, rest)
want_if_there None rest fits is = optional_again want_bytes want_at None rest tt
want_if_there (Some want) rest fits is = optional_again want_bytes want_at (Some want) rest (want_again want rest fits is)

pub grant_if_there : (o : Option Grant) (rest : List ℕ) → IfSome o IsGrant → optional_at grant_at (optional grant_bytes o ++ rest) ≡ Ok (o, rest)
grant_if_there None rest fits = optional_again grant_bytes grant_at None rest tt
grant_if_there (Some grant) rest fits = optional_again grant_bytes grant_at (Some grant) rest (grant_again grant rest fits)

pub base_if_there : (o : Option PushBase) (rest : List ℕ) → IfSome o IsPushBase → optional_at base_at (optional base_bytes o ++ rest) ≡ Ok (o, rest)
base_if_there None rest fits = optional_again base_bytes base_at None rest tt
base_if_there (Some push) rest fits = optional_again base_bytes base_at (Some push) rest (base_again push rest fits)

pub name_again : (name rest : List ℕ) → IsName name → name_at (opaque name ++ rest) ≡ Ok (name, rest)
unfolding name_at
name_again name rest is = rw (opaque_again 64 name rest (omega (arith, is.1)) is.1, name_of-name name is) refl

pub body_again : (body rest : List ℕ) → length body ≡ 4096 → body_at (opaque body ++ rest) ≡ Ok (body, rest)
unfolding body_at
body_again body rest size = rw (opaque_again 4096 body rest (omega arith) (omega arith), eq-eqb (length body) 4096 size) refl
