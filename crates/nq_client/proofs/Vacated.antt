-- A lease that is given up for a notice which was taken out before.
use Rattle.std.proofs.Common.{◌≡◌, ℕ, ◌+◌, ◌==◌, not, List, [], ◌∷◌, ◌++◌, Some, sym, ap, ◌∙◌}
use Rattle.nq_base.specs.declared.Request.{Request}
use Rattle.nq_base.specs.declared.Tag.{Tag}
use Rattle.nq_client_parts.proofs.NoticeList.{filter-twice, of-file}
use Rattle.nq_model.specs.protocol.Client.{Notice, ClientStep, in_state, drop_lease, drop_notice, notice_on}
use Rattle.nq_model.specs.protocol.Hear.{vacates_lease, vacates_noticed}
use Rattle.nq_model.specs.protocol.Message.{call}

-- the step with these notices
abbrev pub with_notices : ClientStep → List Notice → ClientStep
with_notices t notices = in_state t (record t.client { notices = notices })

taken-before : (t : ClientStep) (file : ℕ) (tag : Tag) → vacates_lease (with_notices t (drop_notice file t.client.notices)) file tag ≡ vacates_lease t file tag
unfolding vacates_lease
taken-before t file tag =
    ap (λ (ns : List Notice). record t {
      client = record t.client {
        xid = t.client.xid + 1;
        leases = drop_lease file t.client.leases;
        notices = ns;
      };
      sends = t.sends ++ call t.client.xid (Request.Vacated t.client.who file tag) ∷ [];
    }) (filter-twice (λ (n : Notice). not (n.file == file)) t.client.notices)

-- the lease is given up for the notice of its file
pub vacated-taken : (t : ClientStep) (file : ℕ) (n : Notice) (notices : List Notice) → Some n ≡ notice_on file t.client.notices → notices
    ≡ drop_notice file t.client.notices → vacates_lease (with_notices t notices) n.file n.tag ≡ vacates_noticed t file (notice_on file t.client.notices)
vacated-taken t file n notices found left =
    let e : n.file ≡ file = of-file file t.client.notices n (sym found) in
    ap (λ ns. vacates_lease (with_notices t ns) n.file n.tag) left
    ∙ ap (λ f. vacates_lease (with_notices t (drop_notice file t.client.notices)) f n.tag) e
    ∙ taken-before t file n.tag
    ∙ ap (vacates_noticed t file) found
