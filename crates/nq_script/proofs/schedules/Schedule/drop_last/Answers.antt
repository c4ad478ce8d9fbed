use Rattle.std.proofs.Common.{◌≡◌, ◌-◌, ◌∙◌, ap, length, take, map}
use Rattle.nq_script.specs.Kept.{event_of}
use Rattle.nq_script.proofs.Shortened.{take_map}
use Rattle.nq_script.proofs.schedules.Schedule.drop_last.Goals as goal

pub returns : goal.returns
returns c =
    let items = c.self.inside.kept.items in
    let seen : map event_of items ≡ c.args.self.now = c.self.view_is in
    let left : c.saturating_sub-left.result ≡ length c.args.self.now - 1 = c.saturating_sub-left.ensures ∙ ap (λ n. n - 1) c.len.ensures in
    ap (map event_of) c.truncate.ensures.items ∙ take_map event_of c.saturating_sub-left.result items
    ∙ ap (take c.saturating_sub-left.result) seen ∙ ap (λ n. take n c.args.self.now) left
