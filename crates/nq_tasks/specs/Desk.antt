-- The asks that a host has taken out and not answered yet.
use Rattle.std.specs.Prelude.{◌≡◌, ℕ, ◌==◌, List, [], ◌∷◌, ◌++◌, Option, Some, None, if◌then◌else◌, option_map}
use Rattle.nq_tasks.specs.Work.{Asked, Works, syncs}
use Rattle.nq_tasks.specs.declared.work.Came.{Came}

-- what is at work, what was put aside, the ask that is next, and the one that wants the host to end
pub record Desks : Type 0 where
  pub work : Option Works
  pub aside : Option Works
  pub held : Option Asked
  pub ender : Option Asked

-- whose work is
abbrev pub asker_of : Option Works → Option Asked
asker_of work = option_map (λ w. w.asked) work

-- the place of whoever asked; that of nobody, where nobody did
abbrev pub place_of : Option Asked → ℕ
place_of None = 18446744073709551615
place_of (Some asked) = asked.place

-- an ask, unless it is nobody's
abbrev pub somebodys : Option Asked → List Asked
somebodys None = []
somebodys (Some asked) = if asked.place == 18446744073709551615 then [] else asked ∷ []

-- the asks that were taken out and are not answered yet
abbrev pub unanswered : Desks → List Asked
unanswered d = somebodys (asker_of d.work) ++ (somebodys (asker_of d.aside) ++ (somebodys d.held ++ somebodys d.ender))

-- behind a step of which this came: where work is over, nothing is at work
abbrev pub closed : Came → Desks → Desks
closed (Came.Over reply) d = record d { work = None }
closed (Came.Tidied made) d = record d { work = None }
closed other d = d

-- what is at work made a step of which this came, and nothing else changed; where nothing is at work, nothing does
abbrev pub Moves : (step : Works → Works → Type 0) → Came → Option Works → (old new : Desks) → Type 0
Moves step came None old new = (came ≡ Came.On) × (new ≡ old)
Moves step came (Some work) old new = (behind : Works) × step work behind × (new ≡ closed came (record old { work = Some behind }))

-- what was put aside is at work, if anything was
abbrev pub resumed_by : Option Works → Desks → Desks
resumed_by None d = d
resumed_by (Some work) d = record d { work = Some work; aside = None }

abbrev pub resumed : Desks → Desks
resumed d = resumed_by d.aside d

-- what is put aside, where something is already
abbrev pub kept_aside : (aside work : Option Works) → Option Works
kept_aside None work = work
kept_aside (Some kept) work = Some kept

-- what is at work is put aside, unless something is, and what is delayed of a file is stored, which nobody asked for
abbrev pub set_aside : (file : ℕ) → Desks → Desks
set_aside file d = record d { work = Some (syncs file); aside = kept_aside d.aside d.work }

-- an ask by its place and its number
abbrev pub told_of : (ℕ × ℕ) → Asked
told_of pair = record { place = pair.0; number = pair.1 }

-- who waits, where something is at work: whoever asked it or, where nobody did, is next
abbrev pub waiter_for : Option Asked → (held : Option Asked) → Option Asked
waiter_for None held = None
waiter_for (Some asked) held = if asked.place == 18446744073709551615 then held else Some asked

abbrev pub waiter_of : Desks → Option Asked
waiter_of d = waiter_for (asker_of d.work) d.held
