-- Zeros are written over blocks that no file has.
use Rattle.std.proofs.Common.{◌≡◌, ◌⊎◌, ◌≤◌, ◌<◌, ◌+◌, ◌*◌, ℕ, zero, suc, List, ◌∷◌, Result, Ok, Err, length, get_or, take, drop, refl, sym, ap}
use Rattle.std.proofs.Common.{subst, ◌∙◌, inl, inr, arith}
use Rattle.std.specs.List.{All}
use Rattle.std.specs.Prelude.{OnOk, replicate}
use Rattle.std.proofs.lemmas.List.{at_drop_more, at_drop_all, take_all}
use Rattle.nq_base.specs.Block.{filled, repeated, zeros}
use Rattle.nq_disk.specs.Bytes.{Torn, written}
use Rattle.nq_disk.specs.Calling.{ReadsFront}
use Rattle.nq_disk.specs.declared.DiskFault.{DiskFault}
use Rattle.nq_plan.specs.Standing.{image_area}
use Rattle.nq_image.specs.Kept.{body_in}
use Rattle.nq_image.specs.Layout.{block_place, piece}
use Rattle.nq_image.specs.Standing.{IsFree, Standing, Stands}
use Rattle.nq_model.proofs.WithinBounds.{zeros-body}
use Rattle.nq_disk.specs.Whole.{IsClosed}
use Rattle.nq_store.specs.Changing.{zeroed}
use Rattle.nq_store.specs.Storing.{StandsStill}
use Rattle.nq_image.proofs.Agreeing.{agree-stands}
use Rattle.nq_store.proofs.ImagesZeroing.{agree-on, torn-agrees}

pub through : (P : List ℕ → Type 0) (A B : Type 0) (image : List ℕ) → A ⊎ B → (A → P image) → (B → P image) → P image
through P A B image (inl a) f g = f a
through P A B image (inr b) f g = g b

-- what is so where a call answered Ok
pub on-ok : (result : Result Unit DiskFault) (P : Type 0) → (result ≡ Ok tt → P) → OnOk result P
on-ok (Ok tt) P f = f refl
on-ok (Err fault) P f = tt

-- and what is known where it did
pub then-ok : (result : Result Unit DiskFault) (P : Type 0) → result ≡ Ok tt → OnOk result P → P
then-ok result P is known = subst (λ (r : Result Unit DiskFault). OnOk r P) is known

-- ---- one block

pub still-itself : (s : Standing) (bytes : List ℕ) → IsClosed image_area bytes → StandsStill s bytes bytes
still-itself s bytes closed = record {
  agree = record { rows = refl; blocks = record { no_shorter = omega arith; tables = λ n lt. refl; bodies = λ k d lt. refl } };
  closed = closed;
}

pub still-torn : (s : Standing) (old mid image : List ℕ) (block n : ℕ) → n ≡ 4096 → Stands old s → IsFree s block → StandsStill s old mid
    → Torn (block_place block) n mid image → StandsStill s old image
still-torn s old mid image block n size stands free still torn =
    let tears : Torn (block_place block) 4096 mid image = subst (λ (m : ℕ). Torn (block_place block) m mid image) size torn in
    let long = still.closed.long in
    let more = torn.no_shorter in
    record {
      agree = agree-on s old mid image still.agree (torn-agrees s block mid image (agree-stands s old mid stands still.agree) free tears);
      closed = record {
        long = omega arith;
        shut = λ e. still.closed.shut (sym (torn.outside 28672 (omega arith) (inl (omega arith))) ∙ e);
      };
    }

pub free-at : (s : Standing) (i block : ℕ) (blocks : List ℕ) → All (IsFree s) blocks → i < length blocks → block ≡ get_or blocks i 0 → IsFree s block
free-at s i block blocks all lt is = subst (IsFree s) (sym is) (all i 0 lt)

pub zeroed-passes : (i block : ℕ) (blocks bytes part whole : List ℕ) → part ≡ zeros → i < length blocks → block ≡ get_or blocks i 0
    → zeroed (drop i blocks) bytes ≡ whole → zeroed (drop (i + 1) blocks) (written (block_place block) part bytes) ≡ whole
zeroed-passes i block blocks bytes part whole same lt is so =
    let F : List ℕ → List ℕ = λ bs. zeroed bs bytes in
    let step : F (drop i blocks) ≡ zeroed (drop (i + 1) blocks) (written (block_place (get_or blocks i 0)) zeros bytes) = at_drop_more F blocks i 0 lt in
    ap (λ (l : List ℕ). zeroed (drop (i + 1) blocks) (written (block_place block) l bytes)) same
    ∙ ap (λ (n : ℕ). zeroed (drop (i + 1) blocks) (written (block_place n) zeros bytes)) is
    ∙ sym step ∙ so

pub no-block-left : (i : ℕ) (blocks bytes whole : List ℕ) → length blocks ≤ i → zeroed (drop i blocks) bytes ≡ whole → bytes ≡ whole
no-block-left i blocks bytes whole le so =
    let F : List ℕ → List ℕ = λ bs. zeroed bs bytes in
    let step : F (drop i blocks) ≡ bytes = at_drop_all F blocks i le in
    sym step ∙ so

-- ---- a block of zeros

four-more : (n : ℕ) → 4 * suc n ≡ suc (suc (suc (suc (4 * n))))
four-more n = omega arith

repeated-zeros : (n : ℕ) → repeated n 0 ≡ replicate (4 * n) 0
repeated-zeros zero = refl
repeated-zeros (suc n) =
    ap (λ (l : List ℕ). 0 ∷ 0 ∷ 0 ∷ 0 ∷ l) (repeated-zeros n) ∙ sym (ap (λ (k : ℕ). replicate k 0) (four-more n))

pub zeros-are : (bytes : List ℕ) → bytes ≡ replicate 4096 0 → bytes ≡ zeros
unfolding zeros filled
zeros-are bytes is = is ∙ sym (repeated-zeros 1024)

-- ---- a body is read

pub read-whole : (count block : ℕ) (disk buffer : List ℕ) → ReadsFront count (block_place block) disk buffer → length buffer ≡ 4096
    → block_place block + 4096 ≤ length disk → buffer ≡ body_in disk block
unfolding piece
read-whole count block disk buffer front size whole =
    let number = front.number in
    let all : count ≡ 4096 = omega arith in
    sym (take_all 4096 buffer (omega arith))
    ∙ ap (λ (n : ℕ). take n buffer) (sym all)
    ∙ front.front
    ∙ ap (λ (n : ℕ). take n (drop (block_place block) disk)) all

pub size-of : (part : List ℕ) → part ≡ zeros → length part ≡ 4096
size-of part is = ap length is ∙ zeros-body.size
