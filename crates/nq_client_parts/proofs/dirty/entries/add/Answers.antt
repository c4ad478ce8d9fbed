use Rattle.std.proofs.Common.{◌≡◌, None, ◌∙◌, ap, refl, length}
use Rattle.std.specs.Map.{lookup}
use Rattle.std.proofs.lemmas.List.{length_push}
use Rattle.indexmap.proofs.CallerLemmas.{insert_entry-new}
use Rattle.nq_client_parts.specs.DirtyEntries.{delayed}
use Rattle.nq_client_parts.proofs.DirtyKeyLaws.{same}
use Rattle.nq_client_parts.proofs.OfEntries.{write_in-new, none-at}
use Rattle.nq_client_parts.proofs.dirty.entries.add.Goals as goal

pub returns-clause-added : goal.returns-clause-added
returns-clause-added c =
    let none : lookup (same c.args.key) c.args.entries.now.entries ≡ None = none-at c.args.key c.args.entries.now.entries c.requires.absent in
    ap delayed ((rw c.unwrap-none.ensures at c.insert.ensures.entries) ∙ insert_entry-new same c.args.entries.now c.args.key _ none)
    ∙ write_in-new c.args.key c.args.number c.args.body _ c.args.entries.now.entries c.requires.absent refl refl refl

pub returns-clause-count : goal.returns-clause-count
returns-clause-count c =
    let none : lookup (same c.args.key) c.args.entries.now.entries ≡ None = none-at c.args.key c.args.entries.now.entries c.requires.absent in
    ap length ((rw c.unwrap-none.ensures at c.insert.ensures.entries) ∙ insert_entry-new same c.args.entries.now c.args.key _ none)
    ∙ length_push c.args.entries.now.entries _
