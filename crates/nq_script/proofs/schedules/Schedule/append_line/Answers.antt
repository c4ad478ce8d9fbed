use Rattle.std.proofs.Common.{◌≡◌, ◌∙◌, Some, ap, arith, length, map, option_map, refl, sym}
use Rattle.std.specs.List.{slice_get}
use Rattle.std.proofs.lemmas.List.{length-map}
use Rattle.std.proofs.lemmas.Option.{slice_get_read, slice_get-map}
use Rattle.std.proofs.lemmas.Result.{on_ok_weaker}
use Rattle.nq_script.specs.Kept.{event_of}
use Rattle.nq_script.proofs.schedules.Schedule.append_line.Goals as goal

pub append_kept-requires : goal.append_kept-requires
append_kept-requires c =
    let items = c.deref.result.now in
    let read = slice_get_read items (length items) c.args.place c.in-Some.kept.now refl c.in-Some.ensures.lookup.3.0 c.in-Some.ensures.lookup.1 in
    let seen : c.args.self.now ≡ map event_of items = sym c.self.view_is ∙ ap (map event_of) (sym c.deref.ensures.value) in
    let there = ap (λ l. slice_get l c.args.place) seen ∙ slice_get-map event_of items c.args.place ∙ ap (option_map event_of) read in
    record { has = c.requires.has (event_of c.in-Some.kept.now) there }

pub unreachable-requires : goal.unreachable-requires
unreachable-requires c =
    let items = c.deref.result.now in
    let seen : c.args.self.now ≡ map event_of items = sym c.self.view_is ∙ ap (map event_of) (sym c.deref.ensures.value) in
    let same = ap length seen ∙ length-map items event_of in
    omega (arith, c.in-None.ensures.lookup.3)

pub returns : goal.returns
returns c =
    let items = c.deref.result.now in
    let read = slice_get_read items (length items) c.args.place c.in-Some.kept.now refl c.in-Some.ensures.lookup.3.0 c.in-Some.ensures.lookup.1 in
    let seen : c.args.self.now ≡ map event_of items = sym c.self.view_is ∙ ap (map event_of) (sym c.deref.ensures.value) in
    let there = ap (λ l. slice_get l c.args.place) seen ∙ slice_get-map event_of items c.args.place ∙ ap (option_map event_of) read in
    on_ok_weaker c.append_kept.result (λ said. (event_of c.in-Some.kept.now, said.0, there, said.1, said.2)) c.append_kept.ensures
