-- What a client hears keeps what it knows of contents.
use Rattle.std.proofs.Common.{◌≡◌, ℕ, ◌+◌, true, List, [], Some, None, is_some, refl, sym, subst, ap, ◌∙◌}
use Rattle.nq_base.specs.declared.Answer.{Answer}
use Rattle.nq_base.specs.declared.Entry.{Entry}
use Rattle.nq_base.specs.declared.Reply.{Reply}
use Rattle.nq_base.specs.declared.Request.{Request}
use Rattle.nq_base.specs.declared.Value.{Value}
use Rattle.walk_steps.proofs.RepliedCases.{replied-cases}
use Rattle.walk_steps.proofs.StepCases.{heard-cases}
use Rattle.walk_steps.proofs.ClientFacts.{Alone, changes_file, push_in}
use Rattle.walk_files.proofs.ContentsSent.{P, Spent, goes-mid}
use Rattle.walk_files.proofs.ClientContents.{notice-mid, spends-mid, attached-mid, pauses-mid, answers-call-mid, refused-spent}
use Rattle.walk_files.proofs.ClientContents.{optional-spent, read-mid, lease-mid, through-known, resized-known, stored-mid}
use Rattle.walk_files.proofs.KnownContents.{history_in, IsOverKnown}
use Rattle.walk_files.proofs.Facts.{Tells}
use Rattle.nq_model.specs.protocol.Client.{Client, ClientStep, Ticket, begun, clean_at, dirty_at, revision_of, revision_or_zero}
use Rattle.nq_model.specs.protocol.Hear.{inc_of, reply_counts, answer_of, caches_write, knows_revision, spends, replied, hear}
use Rattle.nq_model.specs.protocol.Message.{Message, Packet, reply}
use Rattle.walk_steps.proofs.Packets.{Told}

spent-clean : (c : Client) (file block : ℕ) → clean_at file block (spends (begun c)).client.clean ≡ clean_at file block c.clean
unfolding spends
spent-clean c file block = refl

spent-dirty : (c : Client) (file block : ℕ) → dirty_at file block (spends (begun c)).client.dirty ≡ dirty_at file block c.dirty
unfolding spends
spent-dirty c file block = refl

spent-revision : (c : Client) (file : ℕ) → revision_of file (spends (begun c)).client.revisions ≡ revision_of file c.revisions
unfolding spends
spent-revision c file = refl

module _ (journal : List Entry) (first : ℕ → ℕ) (next : ℕ) (ps : List Packet) where
  -- what a reply to the request under way tells
  tells : (c : Client) (ticket : Ticket) (r : Reply) (request : Request) (a : Reply) → c.ticket ≡ Some ticket → ticket.request ≡ request → r ≡ a
      → Told ps c.who.host (reply ticket.xid r) → inc_of r ≡ c.who.inc → P journal first next ps (begun c)
      → Tells (history_in journal first next []) request a
  tells c ticket r request a has asks is sent inc h =
      subst (λ z. Tells (history_in journal first next []) z a) asks
      (subst (λ z. Tells (history_in journal first next []) ticket.request z) is (h.told ticket r has sent inc))

  replied-mid : (c : Client) (number : ℕ) (ticket : Ticket) (r : Reply) → Alone c → c.ticket ≡ Some ticket → reply_counts r ticket ≡ true
      → Told ps c.who.host (reply ticket.xid r) → inc_of r ≡ c.who.inc → P journal first next ps (begun c)
      → P journal first next ps (replied (begun c) number ticket r)
  replied-mid c number ticket r a has counts sent inc h =
      let s : Spent journal first next ps (spends (begun c)) = spends-mid journal first next ps c h in
      replied-cases c number ticket r (P journal first next ps) (a.asking.ticketed ticket has).fits counts (record {
        attaching = λ who i job asks is. attached-mid journal first next ps (spends (begun c)) s.mid;
        named = λ answer job is. answers-call-mid journal first next ps (spends (begun c)) answer None s.mid;
        reading = λ who q file block want i rev body grant of is.
            let k = tells c ticket r (Request.Read who q file block want) (Reply.Read i rev body grant) has of.asks is sent inc h in
            read-mid journal first next ps (spends (begun c)) file block rev body grant ticket.first number k.0 k.1 k.2 s;
        leasing =
            λ who file want i grant of is. lease-mid journal first next ps (spends (begun c)) file grant ticket.first
            (tells c ticket r (Request.GetLease who file want) (Reply.GetLease i grant) has of.asks is sent inc h) s;
        writing = λ who seq file block f l body i rev of is.
            let k = tells c ticket r (Request.Write who seq file block f l None body) (Reply.Write i rev) has of.asks is sent inc h in
            answers-call-mid journal first next ps (knows_revision (caches_write (spends (begun c)) file block body rev) file rev)
            (Answer.Ok Value.Nothing) None (through-known journal first next ps (spends (begun c)) file block rev body k.0 s);
        resizing = λ who seq q file blocks i rev of is.
            let k = tells c ticket r (Request.Resize who seq q file blocks) (Reply.Resize i rev) has of.asks is sent inc h in
            answers-call-mid journal first next ps (knows_revision (spends (begun c)) file rev) (Answer.Ok Value.Nothing) None
            (resized-known journal first next ps (spends (begun c)) file rev blocks k
            (λ block. spent-clean c file block ∙ h.changing ticket file block has (ap changes_file of.asks)) s);
        removing = λ who seq q file i of is. answers-call-mid journal first next ps (spends (begun c)) (Answer.Ok Value.Nothing) None s.mid;
        renewing =
            λ who file want i grant job asks is.
            (optional-spent journal first next ps (spends (begun c)) file grant ticket.first
            (tells c ticket r (Request.GetLease who file want) (Reply.GetLease i grant) has asks is sent inc h) s).mid;
        pushed = λ who seq file block f l base body i rev job asks is.
            let k = tells c ticket r (Request.Write who seq file block f l (Some base) body) (Reply.Write i rev) has asks is sent inc h in
            let known : base.base ≡ revision_or_zero (revision_of file c.revisions) = subst (IsOverKnown c.revisions) asks (h.base ticket has) in
            stored-mid journal first next ps (spends (begun c)) file block rev body k.0
            (k.1 ∙ ap (λ n. n + 1) known ∙ ap (λ o. revision_or_zero o + 1) (sym (spent-revision c file)))
            (λ dirty. spent-clean c file block
            ∙ h.again ticket (record { file = file; block = block; first = f; last = l; body = body }) has (ap push_in asks)
            (sym (ap is_some (spent-dirty c file block)) ∙ dirty))
            s;
        putting_off = λ i status job is off. pauses-mid journal first next ps (spends (begun c)) s.mid;
        refusing = λ i status job is known off. answers-call-mid journal first next ps (spends (begun c)) (answer_of status) None s.mid;
        renewal_refused = λ i status job is off. s.mid;
        push_refused = λ who seq file block f l base body i status job asks is off. (refused-spent journal first next ps (spends (begun c)) file s).mid;
      })

  pub hear-mid : (c : Client) (k : ℕ) (m : Message) (t : ClientStep) → Alone c → Told ps c.who.host m → hear c k m ≡ Some t
      → P journal first next ps (begun c) → P journal first next ps t
  hear-mid c k m t a sent hears h = heard-cases c k m t (P journal first next ps) hears (record {
    answered = λ xid r ticket is has same inc counts.
        goes-mid journal first next ps (replied (begun c) k ticket r)
        (replied-mid c k ticket r a has counts (subst (λ n. Told ps c.who.host (reply n r)) same (subst (λ z. Told ps c.who.host z) is sent)) inc h);
    noticed = λ xid file tag is later. notice-mid journal first next ps c file tag h;
  })
