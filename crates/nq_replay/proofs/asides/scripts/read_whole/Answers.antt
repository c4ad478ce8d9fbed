use Rattle.std.proofs.Common.{◌≡◌, ◌^◌, ◌++◌, ◌∙◌, ap, drop, take}
use Rattle.nq_replay.proofs.Grammar.{mixed-found, mixed-ready, plain-short, version-one}
use Rattle.nq_replay.specs.Text.{asides_in, plain_bytes}
use Rattle.nq_replay.proofs.asides.scripts.read_whole.Goals as goal

pub returns-then-out-ne-VERSION-clause-found : goal.returns-then-out-ne-VERSION-clause-found
returns-then-out-ne-VERSION-clause-found g c =
    let out = c.in_ok-out.out in version-one g.A.AsideLine.said out.head out.lines out.bytes c.args.text.now c.in_ok-out.ensures.found c.if-out-ne-VERSION.true

pub read_plain-requires : goal.read_plain-requires
read_plain-requires g c =
    let out = c.in_ok-out.out in
    let text = c.args.text.now in
    let read = g.A.AsideLine.said out.head.hosts in
    let plain : c.in_ok-plain.plain.bytes.items ≡ take out.bytes text ++ plain_bytes read (drop out.bytes text) =
    c.in_ok-plain.ensures.plain ∙ ap (λ f. f ++ plain_bytes read c.split_at.result.1.now) c.split_at.ensures.front
    ∙ ap (λ b. take out.bytes text ++ plain_bytes read b) c.split_at.ensures.back in
    plain-short read (g.met.A.AsideLine.is_long out.head.hosts) out.head out.lines out.bytes (2 ^ 31) text c.in_ok-plain.plain.bytes.items
    c.in_ok-out.ensures.found plain c.requires

pub returns-clause-found : goal.returns-clause-found
returns-clause-found g c =
    let out = c.in_ok-out.out in
    let text = c.args.text.now in
    let read = g.A.AsideLine.said out.head.hosts in
    let plain : c.in_ok-plain.plain.bytes.items ≡ take out.bytes text ++ plain_bytes read (drop out.bytes text) =
    c.in_ok-plain.ensures.plain ∙ ap (λ f. f ++ plain_bytes read c.split_at.result.1.now) c.split_at.ensures.front
    ∙ ap (λ b. take out.bytes text ++ plain_bytes read b) c.split_at.ensures.back in
    mixed-found g.A.AsideLine.said out.head out.lines out.bytes text c.in_ok-plain.plain.bytes.items c.in_ok-plain.plain.asides.items
    c.read_plain.result c.in_ok-out.ensures.found
    c.if-out-ne-VERSION.false plain (c.in_ok-plain.ensures.asides ∙ ap (asides_in read) c.split_at.ensures.back) c.read_plain.ensures.found

pub returns-clause-ready : goal.returns-clause-ready
returns-clause-ready g c =
    let out = c.in_ok-out.out in
    let text = c.args.text.now in
    let read = g.A.AsideLine.said out.head.hosts in
    let plain : c.in_ok-plain.plain.bytes.items ≡ take out.bytes text ++ plain_bytes read (drop out.bytes text) =
    c.in_ok-plain.ensures.plain ∙ ap (λ f. f ++ plain_bytes read c.split_at.result.1.now) c.split_at.ensures.front
    ∙ ap (λ b. take out.bytes text ++ plain_bytes read b) c.split_at.ensures.back in
    mixed-ready g.A.AsideLine.said g.met.A.AsideLine.is_long g.A.AsideLine.fits g.met.A.AsideLine.is_fit out.head out.lines out.bytes text
    c.in_ok-plain.plain.bytes.items c.in_ok-plain.plain.asides.items c.read_plain.result c.in_ok-out.ensures.found
    c.if-out-ne-VERSION.false plain (c.in_ok-plain.ensures.asides ∙ ap (asides_in read) c.split_at.ensures.back) c.requires c.read_plain.ensures.found
    c.read_plain.ensures.first
