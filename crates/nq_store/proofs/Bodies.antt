-- The body of a block of a file.
use Rattle.std.proofs.Common.{◌≡◌, ◌==◌, ◌≤◌, ◌<◌, ◌+◌, ℕ, zero, suc, Bool, true, false, List, [], ◌∷◌, Option, Some, None, Result, Ok, Err, length}
use Rattle.std.proofs.Common.{drop, if◌then◌else◌, refl, sym, ap, subst, ◌∙◌, arith, length-drop}
use Rattle.std.specs.List.{All, find, slice_get}
use Rattle.std.specs.Option.{ForSome}
use Rattle.std.specs.Prelude.{IfOk, option_map}
use Rattle.std.proofs.lemmas.List.{length-take}
use Rattle.std.proofs.lemmas.List.Elements.{All-head, All-tail}
use Rattle.nq_image.specs.Kept.{body_in}
use Rattle.nq_image.specs.Layout.{block_place, piece}
use Rattle.nq_image.specs.Standing.{kept_at}
use Rattle.nq_keeper.specs.Keeping.{body_at}
use Rattle.nq_keeper.specs.declared.keeper.KeepFault.{KeepFault}
use Rattle.nq_model.specs.protocol.Change.{HasBlock, IsBody, IsFileWithin, IsWithinBounds}
use Rattle.nq_model.specs.protocol.Kept.{File, Kept, find_file}
use Rattle.nq_plan.specs.Finding as said
use Rattle.nq_plan.specs.Held.{HeldTables}
use Rattle.nq_store.specs.Storing.{IsSound, content_while}
use Rattle.nq_store.proofs.Keeping.{apart-in, known}
use Rattle.nq_store.proofs.Rows.{body-is}

one-of : {X : Type 0} (x y : X) → Some x ≡ Some y → x ≡ y
one-of x y e = cc

find-all : {X : Type 0} (p : X → Bool) (P : X → Type 0) (xs : List X) (x : X) → All P xs → find p xs ≡ Some x → P x
find-all p P [] x all e = absurd (cc)
find-all {X} p P (y ∷ ys) x all e = by (p y) e (λ rest. find-all p P ys x (All-tail P y ys all) rest)
  where
    by : (b : Bool) → (if b then Some y else find p ys) ≡ Some x → (find p ys ≡ Some x → P x) → P x
    by true e more = subst P (one-of y x e) (All-head P y ys all)
    by false e more = more e

get-all : {X : Type 0} (P : X → Type 0) (xs : List X) (i : ℕ) (x : X) → All P xs → slice_get xs i ≡ Some x → P x
get-all P [] i x all e = absurd (cc)
get-all P (y ∷ ys) zero x all e = subst P (one-of y x e) (All-head P y ys all)
get-all P (y ∷ ys) (suc i) x all e = get-all P ys i x (All-tail P y ys all) e

body-by : (next block : ℕ) (o : Option File) (body : List ℕ) → ((f : File) → o ≡ Some f → IsFileWithin next f) → body_at block o ≡ Some body → IsBody body
body-by next block None body each e = absurd (cc)
body-by next block (Some f) body each e = let within = each f refl in get-all IsBody f.bodies block body within.bodies e

-- the body of a block of a kept file is one
pub body-within : (kept : Kept) (id block : ℕ) (body : List ℕ) → IsWithinBounds kept → body_at block (find_file id kept.files) ≡ Some body → length body ≡ 4096
body-within kept id block body within e =
    let is = body-by kept.next block (find_file id kept.files) body (λ f found. find-all (λ x. x.id == id) (IsFileWithin kept.next) kept.files f
    within.files found) e in
    is.size

whole-of : (bytes : List ℕ) (block : ℕ) → length (body_in bytes block) ≡ 4096 → block_place block + 4096 ≤ length bytes
unfolding piece
whole-of bytes block size =
    let a = length-take 4096 (drop (block_place block) bytes) in
    let b = length-drop (block_place block) bytes in
    omega arith

ok-weaker : {X : Type 0} (result : Result X KeepFault) (P Q : X → Type 0) → ((x : X) → P x → Q x) → IfOk result P → IfOk result Q
ok-weaker (Ok x) P Q more so = more x so
ok-weaker (Err fault) P Q more so = tt

-- what is read of the physical block is the body
pub block-told : (ended : Bool) (told : Option (List ℕ)) (held : HeldTables) (may : List ℕ → Type 0) (result : Result (List ℕ) KeepFault)
    (id block physical : ℕ) → IsSound told may held ended → slice_get (said.blocks_of held.standing id) block ≡ Some physical
    → ForSome told (λ bytes. block_place physical + 4096 ≤ length bytes → IfOk result (λ body. body ≡ body_in bytes physical))
    → ForSome (content_while ended told) (λ kept. IfOk result (λ body. Some body ≡ body_at block (find_file id kept.files)))
block-told ended told held may result id block physical sound here read = λ kept e.
    let k = known ended told held may kept sound e in
    let s = held.standing in
    let there : body_at block (find_file id (kept_at k.bytes s).files) ≡ Some (body_in k.bytes physical) =
    body-is k.bytes s (apart-in k.bytes held k.on.is_held) id block ∙ ap (λ (o : Option ℕ). option_map (body_in k.bytes) o) here in
    let size = body-within (kept_at k.bytes s) id block (body_in k.bytes physical) k.on.within there in
    ok-weaker result (λ body. body ≡ body_in k.bytes physical) (λ body. Some body ≡ body_at block (find_file id kept.files))
    (λ body is. ap (λ (b : List ℕ). Some b) is ∙ sym there ∙ ap (λ (x : Kept). body_at block (find_file id x.files)) k.same)
    (read k.bytes k.tells (whole-of k.bytes physical size))

get-there : {X : Type 0} (xs : List X) (i : ℕ) → i < length xs → slice_get xs i ≡ None → ⊥
get-there [] i lt e = absurd (omega arith)
get-there (x ∷ xs) zero lt e = cc
get-there (x ∷ xs) (suc i) lt e = get-there xs i (omega arith) e

has-body : (block : ℕ) (o : Option File) → HasBlock block o → body_at block o ≡ None → ⊥
has-body block None has e = has
has-body block (Some f) has e = get-there f.bodies block has e

-- a file has each block that it is asked for
pub block-there : (ended : Bool) (told : Option (List ℕ)) (held : HeldTables) (may : List ℕ → Type 0) (P : Kept → Type 0) (id block : ℕ)
    → IsSound told may held ended → slice_get (said.blocks_of held.standing id) block ≡ None → ForSome (content_while ended told)
    (λ kept. HasBlock block (find_file id kept.files)) → ForSome (content_while ended told) P
block-there ended told held may P id block sound none asked = λ kept e.
    let k = known ended told held may kept sound e in
    let s = held.standing in
    let there : body_at block (find_file id (kept_at k.bytes s).files) ≡ None =
    body-is k.bytes s (apart-in k.bytes held k.on.is_held) id block ∙ ap (λ (o : Option ℕ). option_map (body_in k.bytes) o) none in
    absurd (has-body block (find_file id kept.files) (asked kept e) (sym (ap (λ (x : Kept). body_at block (find_file id x.files)) k.same) ∙ there))

-- nothing is told once a change failed
pub ended-told : (ended : Bool) (told : Option (List ℕ)) (P : Kept → Type 0) → ended ≡ true → ForSome (content_while ended told) P
ended-told true told P is = λ kept e. absurd (cc)
ended-told false told P is = absurd (cc)
