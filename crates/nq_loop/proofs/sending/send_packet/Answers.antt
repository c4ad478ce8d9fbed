use Rattle.std.proofs.Common.{◌≡◌, ◌≤◌, ◌∙◌, [], ◌++◌, length, map, get_or, refl, sym, ap, subst, arith}
use Rattle.std.proofs.lemmas.List.{length-map}
use Rattle.std.proofs.lemmas.Option.{slice_get-get_or}
use Rattle.std.specs.Prelude.{slice_set}
use Rattle.nq_loop.proofs.Posts.{changes-none, get-map, map-set-slice, set-changes, told-failed, told-sent}
use Rattle.nq_loop.specs.Sending.{FailsAt, changed_at, place_of, told_of, with_sent}
use Rattle.nq_loop.proofs.sending.send_packet.Goals as goal

pub returns-then-place-links : goal.returns-then-place-links
returns-then-place-links g c =
    let told = told_of g.L.Link.sent g.L.Link.waiting g.L.Link.faults g.L.Link.receives in
    let at : c.place_of-place.result ≡ place_of c.args.packet.now.sender = c.place_of-place.ensures ∙ ap place_of c.sender-sender.ensures in
    let many = length-map c.args.links.now told in
    let over : length c.args.links.now ≤ c.place_of-place.result = c.if-place-links.true in
    let past : length (map told c.args.links.now) ≤ place_of c.args.packet.now.sender = omega arith in
    sym (changes-none (with_sent c.args.packet.now) (map told c.args.links.now) (place_of c.args.packet.now.sender) past)

pub returns-in-All : goal.returns-in-All
returns-in-All g c =
    let told = told_of g.L.Link.sent g.L.Link.waiting g.L.Link.faults g.L.Link.receives in
    let links = c.args.links.now in
    let place = c.place_of-place.result in
    let d = c.args.packet.now in
    let at : place ≡ place_of d.sender = c.place_of-place.ensures ∙ ap place_of c.sender-sender.ensures in
    let old = get_or links place c.index-links-place.result in
    let new = c.send.new.self in
    let bytes : c.deref.result.now ≡ d.bytes = c.deref.ensures.value ∙ c.in_ok-bytes_into.ensures.ok ∙ ap (λ xs. xs ++ d.bytes) c.clear.ensures.items in
    let same : told new ≡ with_sent d (told old) =
    told-sent d (g.L.Link.sent old) (g.L.Link.sent new) (g.L.Link.waiting old) (g.L.Link.waiting new) (g.L.Link.faults old) (g.L.Link.faults new)
    (g.L.Link.receives old) (g.L.Link.receives new) c.to.result c.deref.result.now
    c.in-All.ensures.sends c.to.ensures bytes c.send.ensures.waiting c.send.ensures.receives c.in-All.ensures.cause in
    set-changes told (with_sent d) links place old new (slice_get-get_or links place c.index-links-place.result c.if-place-links.false) same
    ∙ ap (λ p. changed_at p (with_sent d) (map told links)) at

pub returns-in-Failed : goal.returns-in-Failed
returns-in-Failed g c =
    let told = told_of g.L.Link.sent g.L.Link.waiting g.L.Link.faults g.L.Link.receives in
    let links = c.args.links.now in
    let place = c.place_of-place.result in
    let d = c.args.packet.now in
    let at : place ≡ place_of d.sender = c.place_of-place.ensures ∙ ap place_of c.sender-sender.ensures in
    let old = get_or links place c.index-links-place.result in
    let new = c.send.new.self in
    let fails : FailsAt place (map told links) (map told (slice_set links place new)) = record {
      link = told old;
      there = get-map told links place old (slice_get-get_or links place c.index-links-place.result c.if-place-links.false);
      count = g.L.Link.faults new;
      rose = c.in-Failed.ensures.cause;
      failed =
          map-set-slice told links place new
          ∙ ap (λ l. slice_set (map told links) place l) (told-failed (g.L.Link.sent old) (g.L.Link.sent new) (g.L.Link.waiting old)
          (g.L.Link.waiting new) (g.L.Link.faults old) (g.L.Link.faults new) (g.L.Link.receives old) (g.L.Link.receives new)
          c.in-Failed.ensures.sends c.send.ensures.waiting c.send.ensures.receives);
    } in
    record {
      front = [];
      refused = d;
      later = [];
      parts = refl;
      fails = subst (λ p. FailsAt p (map told links) (map told (slice_set links place new))) at fails;
    }
