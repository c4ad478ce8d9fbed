-- What a server has drawn, and which terms and rows stand before a request is served.
use Rattle.std.proofs.Common.{◌≡◌, ◌<◌, ◌≤◌, ◌⊎◌, ℕ, Bool, true, false, ◌==◌, List, [], ◌∷◌, Some, None, if◌then◌else◌}
use Rattle.std.proofs.Common.{refl, sym, subst, ap, ◌∙◌, arith, inl, inr}
use Rattle.nq_base.specs.declared.HostRow.{HostRow}
use Rattle.nq_base.specs.declared.Reply.{Reply}
use Rattle.nq_base.specs.declared.Request.{Request}
use Rattle.nq_base.specs.declared.Row.{Row}
use Rattle.nq_base.specs.declared.Tag.{Tag}
use Rattle.nq_base.specs.declared.Verdict.{Verdict}
use Rattle.nq_base.specs.declared.Who.{Who}
use Rattle.walk_steps.proofs.ClientMoves.{some-same, none-some}
use Rattle.walk_steps.proofs.KeptChanges.{other-line}
use Rattle.walk_steps.proofs.Packets.{In}
use Rattle.walk_steps.proofs.RowChanges.{HasUniqueKeys, of-key, own-key}
use Rattle.walk_steps.proofs.Rows.{same-number, number-same}
use Rattle.walk_steps.proofs.ServerKnows.{LineMoves, line_stays}
use Rattle.walk_steps.proofs.ServerOutcomes.{line_of, IsPlain, unattached, attached_again, not_yet, no_entry, entry, no_attributes}
use Rattle.walk_steps.proofs.ServerOutcomes.{attributes, no_file, no_block, decided_again, is_old}
use Rattle.walk_steps.proofs.TagFacts.{IsDrawn}
use Rattle.nq_model.specs.protocol.Decide.{verdict_reply}
use Rattle.nq_model.specs.protocol.Kept.{Kept, with_row, host_row}
use Rattle.nq_model.specs.protocol.Message.{Packet}
use Rattle.nq_model.specs.protocol.Message.{sequence_of}
use Rattle.nq_model.specs.protocol.Profile.{shortest_term, granted_term}
use Rattle.nq_model.specs.protocol.Server.{serving, Server, standing}
use Rattle.nq_model.specs.protocol.ServerStep.{is_attach}
use Rattle.nq_model.specs.protocol.Table.{is_row_of, find_row}
use Rattle.walk_steps.proofs.Sequences.{asks-no-seq, reads-no-seq}

-- rows of a filtered table are found under their keys
pub unique-in : (rows : List Row) (r : Row) → HasUniqueKeys rows → In rows r → find_row r.file r.who.host rows ≡ Some r
unique-in [] r unique h = absurd h
unique-in (y ∷ rows) r unique (inl e) =
    subst (λ x. find_row x.file x.who.host (y ∷ rows) ≡ Some x) e (ap (λ b. if b then Some y else find_row y.file y.who.host rows) (own-key y))
unique-in (y ∷ rows) r unique (inr h) = step (is_row_of r.file r.who.host y) refl (unique-in rows r unique.1 h)
  where
    step : (b : Bool) → is_row_of r.file r.who.host y ≡ b → find_row r.file r.who.host rows ≡ Some r
        → (if b then Some y else find_row r.file r.who.host rows) ≡ Some r
    step false e f = f
    step true e f =
        let k = of-key r.file r.who.host y e in
        let none : find_row r.file r.who.host rows ≡ None = subst (λ n. find_row n r.who.host rows ≡ None) k.0
        (subst (λ g. find_row y.file g rows ≡ None) k.1 unique.0) in
        none-some r (sym none ∙ f)

-- a tag that was drawn before is drawn after, where the standing table is of the same boot and has drawn no fewer
pub drawn-more : (boot drawn boot' drawn' : ℕ) → boot' ≡ boot → drawn ≤ drawn' → (tag : Tag) → IsDrawn boot drawn tag → IsDrawn boot' drawn' tag
drawn-more boot drawn boot' drawn' same more tag (inl earlier) = inl (omega arith)
drawn-more boot drawn boot' drawn' same more tag (inr d) = inr (d.0 ∙ sym same, omega arith)

pub standing-serving : (s : Server) → s.phase ≡ serving → standing s ≡ s.table
standing-serving s p = rw p refl

pub drawn-serving : (s t : Server) → s.phase ≡ serving → t.phase ≡ serving → t.table.boot ≡ s.table.boot → s.table.drawn ≤ t.table.drawn → (tag : Tag)
    → IsDrawn (standing s).boot (standing s).drawn tag → IsDrawn (standing t).boot (standing t).drawn tag
drawn-serving s t p q same more tag h =
    subst (λ x. IsDrawn x.boot x.drawn tag) (sym (standing-serving t q))
    (drawn-more s.table.boot s.table.drawn t.table.boot t.table.drawn same more tag (subst (λ x. IsDrawn x.boot x.drawn tag) (standing-serving s p) h))

-- no verdict is answered as ATTACH is
pub verdict-no-attach : (inc : ℕ) (v : Verdict) (value : ℕ) (r : Request) (i : ℕ) → verdict_reply inc v value r ≡ Reply.Attach i → ⊥
verdict-no-attach inc Verdict.Done value (Request.Create w seq name blocks) i e = cc
verdict-no-attach inc Verdict.Done value (Request.Write w seq file block first last push body) i e = cc
verdict-no-attach inc Verdict.Done value (Request.Resize w seq q file blocks) i e = cc
verdict-no-attach inc Verdict.Done value (Request.Remove w seq q file) i e = cc
verdict-no-attach inc Verdict.Done value r i e = cc
verdict-no-attach inc Verdict.Fenced value r i e = cc
verdict-no-attach inc Verdict.Exist value r i e = cc
verdict-no-attach inc Verdict.NoSpace value r i e = cc
verdict-no-attach inc Verdict.Invalid value r i e = cc
verdict-no-attach inc Verdict.Stale value r i e = cc
verdict-no-attach inc Verdict.TryLater value r i e = cc

-- a plain reply that says that the asker is attached says so of the kept incarnation
pub plain-attach : (s : Server) (w : Who) (r : Request) (a : Reply) → IsPlain s w r a → (i : ℕ) → a ≡ Reply.Attach i → (line_of s w).inc ≡ i
plain-attach s w r a (unattached above other e) i is = absurd (cc)
plain-attach s w r a (attached_again asks same e) i is = let k : Reply.Attach w.inc ≡ Reply.Attach i = sym e ∙ is in let n : w.inc ≡ i = cc in sym same ∙ n
plain-attach s w r a (not_yet same rec only e) i is = absurd (cc)
plain-attach s w r a (no_entry name same p on none e) i is = absurd (cc)
plain-attach s w r a (entry name f same p on some e) i is = absurd (cc)
plain-attach s w r a (no_attributes file same p on none e) i is = absurd (cc)
plain-attach s w r a (attributes file f same p on some e) i is = absurd (cc)
plain-attach s w r a (no_file file same p on none e) i is = absurd (cc)
plain-attach s w r a (no_block q file block want f same p on some none e) i is = absurd (cc)
plain-attach s w r a (decided_again seq same sq eq e) i is = absurd (verdict-no-attach w.inc _ _ r i (sym e ∙ is))
plain-attach s w r a (is_old seq same sq below e) i is = absurd (cc)

-- a plain reply to a request that is decided once tells that it was, or the asker is not attached
pub plain-decided : (s : Server) (w : Who) (r : Request) (a : Reply) → IsPlain s w r a → (n : ℕ) → sequence_of r ≡ Some n
    → (((line_of s w).inc ≡ w.inc) × (n ≤ (line_of s w).seq)) ⊎ (((line_of s w).inc < w.inc) × (is_attach r ≡ false))
plain-decided s w r a (unattached above other e) n q = inr (above, other)
plain-decided s w r a (attached_again asks same e) n q = none-some n (ap sequence_of (sym asks) ∙ q)
plain-decided s w r a (not_yet same rec only e) n q = none-some n (sym (asks-no-seq r only) ∙ q)
plain-decided s w r a (no_entry name same p on none e) n q = none-some n (ap sequence_of (sym on) ∙ q)
plain-decided s w r a (entry name f same p on some e) n q = none-some n (ap sequence_of (sym on) ∙ q)
plain-decided s w r a (no_attributes file same p on none e) n q = none-some n (ap sequence_of (sym on) ∙ q)
plain-decided s w r a (attributes file f same p on some e) n q = none-some n (ap sequence_of (sym on) ∙ q)
plain-decided s w r a (no_file file same p on none e) n q = none-some n (sym (reads-no-seq r file on) ∙ q)
plain-decided s w r a (no_block q' file block want f same p on some none e) n q = none-some n (ap sequence_of (sym on) ∙ q)
plain-decided s w r a (decided_again seq same sq eq e) n q = let one : seq ≡ n = some-same seq n (sym sq ∙ q) in inl (sym same, omega arith)
plain-decided s w r a (is_old seq same sq below e) n q = let one : seq ≡ n = some-same seq n (sym sq ∙ q) in inl (sym same, omega arith)

-- the term of a grant is no longer than the longest
pub term-short : (longest wish : ℕ) → shortest_term ≤ longest → granted_term longest wish ≤ longest
term-short longest wish few = omega arith

-- the kept line of a host after a line was kept
pub line-after : (kept : Kept) (other : ℕ) (row : HostRow) (ps : List Packet) (host : ℕ) → (host ≡ other → LineMoves ps host (host_row kept host) row)
    → (host ≡ other → host_row (with_row kept other row) host ≡ row) → LineMoves ps host (host_row kept host) (host_row (with_row kept other row) host)
line-after kept other row ps host own is = step (host == other) refl
  where
    step : (b : Bool) → (host == other) ≡ b → LineMoves ps host (host_row kept host) (host_row (with_row kept other row) host)
    step true e = let same : host ≡ other = same-number host other e in subst (λ l. LineMoves ps host (host_row kept host) l) (sym (is same)) (own same)
    step false e = line_stays (other-line kept other host row (λ same. let yes : (host == other) ≡ true = number-same host other same in absurd (cc)))
