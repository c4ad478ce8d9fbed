-- What is taken in by steps: what is kept is read, which changes nothing, and then something is done.
use Rattle.std.proofs.Common.{◌≡◌, ◌≢◌, ℕ, Bool, true, false, List, [], ◌∷◌, reverse, Option, Some, None, refl, sym, ap, subst, ◌∙◌}
use Rattle.std.specs.Option.{ForSome}
use Rattle.std.specs.Prelude.{Ok}
use Rattle.nq_base.specs.declared.Event.{Event}
use Rattle.nq_directory.specs.declared.listing.messages.ReadDir.{ReadDir}
use Rattle.nq_model.specs.protocol.Kept.{Kept}
use Rattle.nq_model.specs.protocol.Server.{Phase, serving, recovering}
use Rattle.nq_model.specs.protocol.World.{Head, run}
use Rattle.nq_name_server.specs.Served.{leaf_behind}
use Rattle.nq_name_server.specs.Serving.{Serves, holds_up, puts_off, reads_dir}
use Rattle.nq_name_server.specs.Served.{Leaf}
use Rattle.nq_name_server.specs.Outer.{Outside}
use Rattle.nq_name_server.specs.Outside.{Changes, held_or, inner, passes, reads, reads_in, served_as}
use Rattle.nq_server.specs.State.{Beside}
use Rattle.nq_world.proofs.Refused.{still-plays}
use Rattle.nq_world.specs.Playing.{IsAsBefore, Plays, WorldOver}
use Rattle.nq_world.specs.declared.Stepped.{Stepped}
use Rattle.nq_name_server.proofs.Showing.{served_shows}
use Rattle.nq_name_server.specs.Around.{AroundOver, IsHeldUp, once_sent, served_by}
use Rattle.nq_names.specs.Playing.{NamesOver}
use Rattle.nq_names.specs.Taking.{HoldsUp, IsAsBeforeOutside, IsHeldFor, TakesBeside, outside_of}

-- ---- a world that is as before, but for its keeper

still : {K : Type 0} (head : Head) (old new : NamesOver K) (told tells : Option Kept) → Plays head (reverse old.ran) old.inner told
    → IsAsBeforeOutside old new → tells ≡ told → Plays head (reverse old.ran) new.inner tells
still head old new told tells plays before same = still-plays head (reverse old.ran) old.inner new.inner told tells plays before.inner same

-- ---- something was done beside the inner world

-- something that stands around changed
pub beside-made : {K : Type 0} (head : Head) (w new : NamesOver K) (told : Option Kept) (to : Outside) → Plays head (reverse w.ran) w.inner told
    → new.inner ≡ w.inner → new.ran ≡ w.ran → new.around.gone ≡ w.around.gone
    → once_sent (run head (reverse w.ran)) (reverse w.ran) new.around ≡ to → TakesBeside head Stepped.Done w new told told to
beside-made head w new told to plays inner ran gone leads = record {
  plays = subst (λ i. Plays head (reverse w.ran) i told) (sym inner) plays;
  ran = ran;
  gone = gone;
  leads = leads;
}

-- ---- READDIRLOOK

-- the phase of the server
pub phase-is : {K : Type 0} (head : Head) (events : List Event) (w : WorldOver K) (told : Option Kept) → Plays head events w told
    → w.server.beside.phase ≡ (run head events).server.phase
phase-is head events w told plays = ap (λ (b : Beside). b.phase) plays.holds

reads-in-serving : (o : Outside) (r : ReadDir) (phase : Phase) → phase ≡ serving → reads_in o r phase
    ≡ served_as o (reads_dir o.served r (leaf_behind r.prefix r.after o.world.server.kept.files))
reads-in-serving o r phase is = ap (reads_in o r) is

reads-in-recovering : (o : Outside) (r : ReadDir) (phase : Phase) → phase ≢ serving → reads_in o r phase
    ≡ served_as o (record { served = o.served; sends = puts_off r ∷ [] })
reads-in-recovering o r serving other = absurd (other refl)
reads-in-recovering o r (recovering until heard last) other = refl

-- a page that is given
pub answered-page : {K : Type 0} (head : Head) (old mid new : NamesOver K) (told tells : Option Kept) (r : ReadDir) (leaf : Leaf)
    → Plays head (reverse old.ran) old.inner told → old.inner.server.beside.phase ≡ serving
    → IsAsBeforeOutside old mid → tells ≡ told → ForSome told (λ kept. leaf ≡ leaf_behind r.prefix r.after kept.files)
    → new ≡ record mid { around = served_by mid.around (reads_dir mid.around.served r leaf) }
    → TakesBeside head Stepped.Done old new told tells (reads_in (outside_of head old) r (run head (reverse old.ran)).server.phase)
answered-page head old mid new told tells r leaf plays phase before same page is =
    let rn = reverse old.ran in
    let v = run head rn in
    let o = outside_of head old in
    let w : NamesOver _ = record mid { around = served_by mid.around (reads_dir mid.around.served r leaf) } in
    let leaf-is : leaf ≡ leaf_behind r.prefix r.after v.server.kept.files = page v.server.kept plays.keeps in
    let serves : v.server.phase ≡ serving = sym (phase-is head rn old.inner told plays) ∙ phase in
    subst (λ x. TakesBeside head Stepped.Done old x told tells (reads_in o r v.server.phase)) (sym is)
    (record {
      plays = still head old mid told tells plays before same;
      ran = before.ran;
      gone = ap (λ (a : AroundOver). a.gone) before.around;
      leads = ap (λ (a : AroundOver). once_sent v rn (served_by a (reads_dir a.served r leaf))) before.around
          ∙ served_shows v rn old.around (reads_dir old.around.served r leaf)
          ∙ ap (λ l. served_as o (reads_dir old.around.served r l)) leaf-is
          ∙ sym (reads-in-serving o r v.server.phase serves);
    })

pub put-off : {K : Type 0} (head : Head) (old new : NamesOver K) (told : Option Kept) (r : ReadDir) → Plays head (reverse old.ran) old.inner told
    → old.inner.server.beside.phase ≢ serving
    → new.inner ≡ old.inner → new.ran ≡ old.ran → new.around ≡ served_by old.around (record { served = old.around.served; sends = puts_off r ∷ [] })
    → TakesBeside head Stepped.Done old new told told (reads_in (outside_of head old) r (run head (reverse old.ran)).server.phase)
put-off head old new told r plays phase inner ran is =
    let rn = reverse old.ran in
    let v = run head rn in
    let s : Serves = record { served = old.around.served; sends = puts_off r ∷ [] } in
    let recovers : v.server.phase ≢ serving = λ e. phase (phase-is head rn old.inner told plays ∙ e) in
    beside-made head old new told (reads_in (outside_of head old) r v.server.phase) plays inner ran (ap (λ (a : AroundOver). a.gone) is)
    (ap (once_sent v rn) is ∙ served_shows v rn old.around s ∙ sym (reads-in-recovering (outside_of head old) r v.server.phase recovers))

-- ---- requests that change a directory

passes-as : (o : Outside) (number : ℕ) (changes : Option Changes) (c : Changes) (s : Option Serves) → changes ≡ Some c → holds_up o.served c.who
    c.prefix ≡ s → passes o number changes ≡ held_or o number s
passes-as o number changes c s is holds = ap (passes o number) is ∙ ap (held_or o number) holds

held-by : {K : Type 0} (head : Head) (held : Bool) (s : Option Serves) (c : Changes) (changes : Option Changes) (old mid new : NamesOver K)
    (told tells : Option Kept) → Plays head (reverse old.ran) old.inner told
    → changes ≡ Some c → holds_up mid.around.served c.who c.prefix ≡ s → IsHeldUp held s mid.around new.around
    → IsAsBeforeOutside old mid → tells ≡ told → new.inner ≡ mid.inner → new.ran ≡ mid.ran → new.events ≡ mid.events
    → HoldsUp head (Ok held) changes old new told tells
held-by head true None c changes old mid new told tells plays is holds h before same inner ran events = absurd h
held-by head false (Some s) c changes old mid new told tells plays is holds h before same inner ran events = absurd h
held-by head true (Some s) c changes old mid new told tells plays is holds h before same inner ran events = λ number.
    let rn = reverse old.ran in
    let v = run head rn in
    let o = outside_of head old in
    let up : holds_up old.around.served c.who c.prefix ≡ Some s = subst (λ (a : AroundOver). holds_up a.served c.who c.prefix ≡ Some s) before.around holds in
    record {
      plays = subst (λ i. Plays head rn i tells) (sym inner) (still head old mid told tells plays before same);
      ran = ran ∙ before.ran;
      gone = ap (λ (a : AroundOver). a.gone) h ∙ ap (λ (a : AroundOver). a.gone) before.around;
      leads = ap (once_sent v rn) h ∙ ap (λ a. once_sent v rn (served_by a s)) before.around ∙ served_shows v rn old.around s
          ∙ sym (passes-as o number changes c (Some s) is up);
    }
held-by head false None c changes old mid new told tells plays is holds h before same inner ran events =
    let up : holds_up old.around.served c.who c.prefix ≡ None = subst (λ (a : AroundOver). holds_up a.served c.who c.prefix ≡ None) before.around holds in (
      record {
        inner = subst (IsAsBefore old.inner) (sym inner) before.inner;
        around = h ∙ before.around;
        ran = ran ∙ before.ran;
        events = events
            ∙ before.events;
      },
      same,
      λ number. sym (passes-as (outside_of head old) number changes c None is up),
    )

pub held-up : {K : Type 0} (head : Head) (held : Bool) (c : Changes) (changes : Kept → Option Changes) (old mid new : NamesOver K)
    (told tells : Option Kept) → Plays head (reverse old.ran) old.inner told
    → ForSome told (λ kept. Some c ≡ changes kept) → IsHeldFor held c mid new
    → IsAsBeforeOutside old mid → tells ≡ told → new.inner ≡ mid.inner → new.ran ≡ mid.ran → new.events ≡ mid.events
    → HoldsUp head (Ok held) (changes (run head (reverse old.ran)).server.kept) old new told tells
held-up head held c changes old mid new told tells plays reads h before same inner ran events =
    held-by head held (holds_up mid.around.served c.who c.prefix) c (changes (run head (reverse old.ran)).server.kept) old mid new told tells plays
    (sym (reads (run head (reverse old.ran)).server.kept plays.keeps)) refl h before same inner ran events
