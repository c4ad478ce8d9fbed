-- Whose row a datagram marks as one that is to go is told so in the same step.
use Rattle.std.proofs.Common.{◌≡◌, ◌⊎◌, ℕ, ◌++◌, Bool, true, false, List, [], ◌∷◌, Some, if◌then◌else◌, refl, sym, subst, ap, ◌∙◌, inl, inr}
use Rattle.std.specs.List.{filter}
use Rattle.nq_base.specs.declared.Access.{Access}
use Rattle.nq_base.specs.declared.Question.{Question}
use Rattle.nq_base.specs.declared.Request.{Request}
use Rattle.nq_base.specs.declared.Row.{Row}
use Rattle.nq_base.specs.declared.Tag.{Tag}
use Rattle.nq_base.specs.declared.Want.{Want}
use Rattle.nq_base.specs.declared.Who.{Who}
use Rattle.nq_model.specs.protocol.Ask.{conflicts, marked, sharing_row, caching_row, shared_again, renewed_row}
use Rattle.nq_model.specs.protocol.Decide.{in_the_way, decides, creates, writes_through, stores, stores_recovering, wrote, resizes, removes, puts_off, commits}
use Rattle.nq_model.specs.protocol.Message.{Packet, Datagram, call}
use Rattle.nq_model.specs.protocol.Server.{Server, notices, to_host, after_notices, keeping, keeping_with, with_table, quiet, drops, says}
use Rattle.nq_model.specs.protocol.ServerStep.{access_of, attaches, vacates, vacated_rows, tells_later, serves, leases, receive}
use Rattle.nq_model.specs.protocol.Table.{Table, find_row, is_row_of, put_row, with_rows, after_draw}
use Rattle.walk_steps.proofs.AskCases.{IsGranted, shares_again, begins_sharing, begins_caching, renews_row}
use Rattle.walk_steps.proofs.Packets.{In, in-left}
use Rattle.walk_steps.proofs.RowChanges.{HasUniqueKeys, mark, found-marked, found-put, found-kept, found-vacated, of-key}
use Rattle.walk_steps.proofs.RowFacts.{in-the-way, holder-told}
use Rattle.walk_steps.proofs.Rows.{found-row}
use Rattle.walk_steps.proofs.ServerCases.{server-hears}
use Rattle.walk_steps.proofs.ServerOutcomes.{wanted_by}

-- a row that is to go was to go before, or its holder is told now
pub data IsOldOrTold (rows : List Row) (sends : List Packet) (file host : ℕ) (row : Row) : Type 0 where
  was_to_go : (was : Row) → find_row file host rows ≡ Some was → was.evicting ≡ true → IsOldOrTold rows sends file host row
  told_now : (x : ℕ) → In sends (to_host row.who.host (call x (Request.Evicted row.who row.file row.tag))) → IsOldOrTold rows sends file host row

-- a row that is granted is not to go
granted-stays : (table : Table) (q : Question) (want : Want) (row : Row) (term : ℕ) → IsGranted table q want row term → row.evicting ≡ false
unfolding shared_again sharing_row caching_row renewed_row
granted-stays table q want row term (shares_again own has quiet alone is t) = ap (λ (r : Row). r.evicting) is ∙ quiet
granted-stays table q want row term (begins_sharing none room some is t) = ap (λ (r : Row). r.evicting) is
granted-stays table q want row term (begins_caching none room some is t) = ap (λ (r : Row). r.evicting) is
granted-stays table q want row term (renews_row own has quiet kind is t) = ap (λ (r : Row). r.evicting) is ∙ quiet

module _ (s : Server) (unique : HasUniqueKeys s.table.rows) where
  abbrev AreTold : List Row → List Packet → Type 0
  AreTold rows sends = (file host : ℕ) (row : Row) → find_row file host rows ≡ Some row → row.evicting ≡ true
      → IsOldOrTold s.table.rows sends file host row

  same : (sends : List Packet) → AreTold s.table.rows sends
  same sends file host row found going = was_to_go row found going

  kept : (q : Row → Bool) (sends : List Packet) → AreTold (filter q s.table.rows) sends
  kept q sends file host row found going = was_to_go row (found-kept q file host s.table.rows row unique found).0 going

  given-up : (who : Who) (f : ℕ) (tag : Tag) (sends : List Packet) → AreTold (vacated_rows who f tag s.table.rows (find_row f who.host s.table.rows)) sends
  given-up who f tag sends file host row found going =
      was_to_go row (found-vacated who f tag s.table.rows (find_row f who.host s.table.rows) file host row unique found) going

  -- the rows in the way are marked, and their holders are told
  mark-told : (f by : ℕ) (access : Access) (n : ℕ) (m : Packet) (file host : ℕ) (row was : Row) → find_row file host s.table.rows ≡ Some was
      → row ≡ mark f by access was → row.evicting ≡ true → (b : Bool) → conflicts f by access was ≡ b
      → IsOldOrTold s.table.rows (notices n (in_the_way s f by access) ++ m ∷ []) file host row
  mark-told f by access n m file host row was found is going true e =
      let marks : row ≡ record was { evicting = true } = is ∙ ap (λ b. if b then record was { evicting = true } else was) e in
      let t = holder-told n (in_the_way s f by access) was (in-the-way s f by file host access was found e) in
      told_now t.0 (in-left (notices n (in_the_way s f by access)) (m ∷ []) _
      (subst (λ (r : Row). In (notices n (in_the_way s f by access)) (to_host r.who.host (call t.0 (Request.Evicted r.who r.file r.tag)))) (sym marks) t.1))
  mark-told f by access n m file host row was found is going false e =
      let stays : row ≡ was = is ∙ ap (λ b. if b then record was { evicting = true } else was) e in
      was_to_go was found (ap (λ (r : Row). r.evicting) (sym stays) ∙ going)

  marks : (f by : ℕ) (access : Access) (n : ℕ) (m : Packet) → AreTold (marked f by access s.table.rows) (notices n (in_the_way s f by access) ++ m ∷ [])
  marks f by access n m file host row found going =
      let w = found-marked f by access file host s.table.rows row found in
      mark-told f by access n m file host row w.was w.found w.is going (conflicts f by access w.was) refl

  -- a row is put that is not to go
  puts : (new : Row) (rows : List Row) (sends : List Packet) → new.evicting ≡ false → AreTold rows sends → AreTold (put_row new rows) sends
  puts new rows sends stays others file host row found going = by (found-put file host new row rows found)
    where
      by : ((is_row_of file host new ≡ true) × (row ≡ new)) ⊎ ((is_row_of file host new ≡ false) × (find_row file host rows ≡ Some row))
          → IsOldOrTold s.table.rows sends file host row
      by (inl p) = let no : row.evicting ≡ false = ap (λ (r : Row). r.evicting) p.1 ∙ stays in absurd (cc)
      by (inr p) = others file host row p.1 going

  -- a write is heard under a row
  hears : (own : Row) (time f h : ℕ) (sends : List Packet) → find_row f h s.table.rows ≡ Some own
      → AreTold (put_row (record own { heard = time }) s.table.rows) sends
  hears own time f h sends at file host row found going = by (found-put file host (record own { heard = time }) row s.table.rows found)
    where
      by : ((is_row_of file host (record own { heard = time }) ≡ true) × (row ≡ record own { heard = time }))
          ⊎ ((is_row_of file host (record own { heard = time }) ≡ false) × (find_row file host s.table.rows ≡ Some row))
          → IsOldOrTold s.table.rows sends file host row
      by (inl p) =
          let k = of-key file host (record own { heard = time }) p.0 in
          let o = found-row f h s.table.rows own at in
          let there : find_row file host s.table.rows ≡ Some own =
          subst (λ n. find_row file n s.table.rows ≡ Some own) (sym o.1 ∙ k.1) (subst (λ g. find_row g h s.table.rows ≡ Some own) (sym o.0 ∙ k.0) at) in
          was_to_go own there (ap (λ (r : Row). r.evicting) (sym p.1) ∙ going)
      by (inr p) = was_to_go row p.1 going

  pub marked-told : (sender next : ℕ) (d : Datagram) → AreTold (receive s sender next d).server.table.rows (receive s sender next d).sends
  unfolding quiet drops says attaches vacates serves leases tells_later decides creates writes_through stores stores_recovering wrote resizes removes
      puts_off commits after_notices keeping keeping_with with_table with_rows after_draw sharing_row
  marked-told sender next d = server-hears s sender next d (λ t. AreTold t.server.table.rows t.sends) (record {
    stays = same _;
    dropping = λ reason. same _;
    erring = λ m e. same _;
    answers_null = λ xid e. same _;
    replying = λ xid who r a e by from plain. same _;
    attaching = λ xid who e from later. kept _ _;
    vacating = λ xid who file tag e current. given-up who file tag _;
    putting_off = λ xid who r f clash e by file asking c. marks f.id who.host (access_of (wanted_by r)) s.notice _;
    putting_off_waiting = λ xid who r f clash want e by file wants asking c own room. puts _
        (marked f.id who.host (access_of (Some want)) s.table.rows) _ refl (marks f.id who.host (access_of (Some want)) s.notice _);
    putting_off_by_own = λ xid who r f want own e by file wants asking c o evicting. same _;
    reading = λ xid who q block f body e asking there c. same _;
    reading_full = λ xid who q block want f body e asking there c own room. same _;
    reading_granted = λ xid who q block want f body row term e asking there c g. puts row s.table.rows _ (granted-stays _ _ want row term g) (same _);
    leasing_full = λ xid who want f e asking c own room. same _;
    leasing = λ xid who want f row term e asking c g. puts row s.table.rows _ (granted-stays _ _ want row term g) (same _);
    declining = λ xid who seq r verdict e by sq fresh is. same _;
    putting_off_change = λ xid who seq r f clash e by sq file base changing c. marks f.id who.host Access.Write s.notice _;
    creating = λ xid who seq blocks name e fresh serves can. same _;
    writing_through = λ xid who seq block first last body f e changing below c. same _;
    storing = λ xid who seq block first last base body f row e changing below can. hears row s.now f.id who.host _ can.row_found;
    storing_recovering = λ xid who seq block first final base body f until heard last e fresh recovers found below boot rev. same _;
    resizing = λ xid who seq q blocks f e changing can c. same _;
    removing = λ xid who seq q f e changing c. kept _ _;
  })
