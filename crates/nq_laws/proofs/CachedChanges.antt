-- In every run a cached read changes its client's count of calls, the mark of its lease and the order of its clean blocks,
-- and nothing else.
use Rattle.std.proofs.Common.{◌≡◌, ◌≢◌, ℕ, ◌+◌, ◌==◌, not, Bool, true, false, List, ◌∷◌, ◌++◌, Option, Some, None, if◌then◌else◌, refl, sym, subst}
use Rattle.std.proofs.Common.{ap, ◌∙◌, inl, inr, append-nil}
use Rattle.std.specs.Option.{option_map}
use Rattle.std.specs.Prelude.{slice_get}
use Rattle.std.proofs.lemmas.Bool.{and_parts, not_from_false}
use Rattle.nq_base.specs.declared.Call.{Call}
use Rattle.nq_laws.proofs.CachedReads.{cached-in-every-run}
use Rattle.nq_model.proofs.ClientLists.{used-lease-found, lease-file}
use Rattle.walk_steps.proofs.Rows.{find-passes, find-filter, same-number, number-same, choice}
use Rattle.walk_steps.proofs.Worlds.{get-set-other, set-there}
use Rattle.nq_model.specs.laws.CachedReadsChangeLittle.{ReadsBlock, IsAsItWas, ChangesNothingElse, CachedReadsChangeNothingElse}
use Rattle.nq_model.specs.laws.CachedAtOnce.{HasCached, AnswersAtOnce, after_cached}
use Rattle.nq_model.specs.protocol.Client.{Client, Clean, Lease, lease_on, clean_at, drop_clean, is_clean_at, marked_used, used_lease}
use Rattle.nq_model.specs.protocol.ClientStep.{client_call}
use Rattle.nq_model.specs.protocol.Settle.{after_read, touched, reads_clean}
use Rattle.nq_model.specs.protocol.World.{World, after_client, at_client, run}
use Rattle.nq_model.proofs.Finding.{number-other}

-- ---- the clean blocks

-- what is sought is found in front, or behind the one that was moved there
front : (other b file block : ℕ) (k : Clean) (clean : List Clean) → clean_at file block clean ≡ Some k
    → clean_at other b (k ∷ drop_clean file block clean) ≡ clean_at other b clean
front other b file block k clean found = case (is_clean_at other b k) refl
  where
    at : is_clean_at file block k ≡ true
    at = find-passes (is_clean_at file block) k clean found

    both : (is_clean_at other b k ≡ true) → (other ≡ file) × (b ≡ block)
    both e =
        let x = and_parts _ _ e in
        let y = and_parts _ _ at in
        (sym (same-number k.file other x.0) ∙ same-number k.file file y.0, sym (same-number k.block b x.1) ∙ same-number k.block block y.1)

    -- one that is neither is not dropped
    spared : is_clean_at other b k ≡ false → (z : Clean) → is_clean_at other b z ≡ true → not (is_clean_at file block z) ≡ true
    spared other_key z e = not_from_false (is_clean_at file block z) (apart (is_clean_at file block z) refl)
      where
        apart : (t : Bool) → is_clean_at file block z ≡ t → is_clean_at file block z ≡ false
        apart false is = is
        apart true is =
            let x = and_parts _ _ e in
            let y = and_parts _ _ is in
            let f : other ≡ file = sym (same-number z.file other x.0) ∙ same-number z.file file y.0 in
            let g : b ≡ block = sym (same-number z.block b x.1) ∙ same-number z.block block y.1 in
            let yes : is_clean_at other b k ≡ true = subst (λ n. is_clean_at n b k ≡ true) (sym f) (subst (λ n. is_clean_at file n k ≡ true) (sym g) at) in
            absurd (cc)

    case : (t : Bool) → is_clean_at other b k ≡ t → (if t then Some k else clean_at other b (drop_clean file block clean)) ≡ clean_at other b clean
    case true e = let s = both e in sym (ap (λ n. clean_at n b clean) s.0 ∙ ap (λ n. clean_at file n clean) s.1 ∙ found)
    case false e = find-filter (is_clean_at other b) (λ z. not (is_clean_at file block z)) clean (spared e)

touched-finds : (other b file block : ℕ) (clean : List Clean) (o : Option Clean) → clean_at file block clean ≡ o
    → clean_at other b (touched file block o clean) ≡ clean_at other b clean
touched-finds other b file block clean None found = refl
touched-finds other b file block clean (Some k) found = front other b file block k clean found

-- ---- the leases

marks : (file : ℕ) (l : Lease) (t : Bool) → (l.file == file) ≡ t → l.file ≡ file → marked_used file l ≡ record l { used = true }
marks file l true e same = rw e refl
marks file l false e same = let yes : (l.file == file) ≡ true = number-same l.file file same in absurd (cc)

spares : (file : ℕ) (l : Lease) → (l.file == file) ≡ false → marked_used file l ≡ l
spares file l e = rw e refl

used-found : (file : ℕ) (leases : List Lease) (l : Lease) → lease_on file leases ≡ Some l
    → lease_on file (used_lease file leases) ≡ Some (record l { used = true })
used-found file leases l e =
    used-lease-found file file leases ∙ ap (option_map (marked_used file)) e ∙ ap Some (marks file l (l.file == file) refl (lease-file file leases l e))

other-found : (file other : ℕ) (leases : List Lease) (o : Option Lease) → other ≢ file → lease_on other leases ≡ o
    → lease_on other (used_lease file leases) ≡ o
other-found file other leases None apart e = used-lease-found other file leases ∙ ap (option_map (marked_used file)) e
other-found file other leases (Some l) apart e =
    used-lease-found other file leases ∙ ap (option_map (marked_used file)) e
    ∙ ap Some (spares file l (number-other l.file file (λ same. apart (sym (lease-file other leases l e) ∙ same))))

-- ---- the client, and the world

as-it-was : (c : Client) (file block : ℕ) (lease : Lease) → c.call ≡ None → lease_on file c.leases ≡ Some lease
    → IsAsItWas c (after_cached c file block) file lease
unfolding after_read
as-it-was c file block lease free held = record {
  rest =
      ap
      (λ o. record c {
        calls = c.calls + 1;
        leases = used_lease file c.leases;
        clean = if reads_clean c file block then touched file block
            (clean_at file block c.clean) c.clean else c.clean;
        call = o;
      }) (sym free);
  used = used-found file c.leases lease held;
  other_leases = λ other apart. other-found file other c.leases (lease_on other c.leases) apart refl;
  clean =
      λ other b. choice (λ z. clean_at other b z ≡ clean_at other b c.clean) (reads_clean c file block)
      (touched file block (clean_at file block c.clean) c.clean) c.clean
      (λ reads. touched-finds other b file block c.clean (clean_at file block c.clean) refl) (λ dirty. refl);
}

changes : (w : World) (host : ℕ) (c : Client) (op : Call) (file block : ℕ) (lease : Lease) (body : List ℕ) → slice_get w.clients host ≡ Some c
    → HasCached c file block lease body → AnswersAtOnce c op file block body (client_call c op)
    → ChangesNothingElse w (after_client w host (client_call c op)) host c op file block lease body
unfolding after_client
changes w host c op file block lease body is ready a = record {
  client = (client_call c op).client;
  there = set-there w.clients host (client_call c op).client c is;
  as_it_was = subst (λ d. IsAsItWas c d file lease) (sym a.client) (as-it-was c file block lease ready.free ready.held);
  others = λ other apart. get-set-other w.clients host other (client_call c op).client apart;
  server = refl;
  packets = rw a.silent (append-nil w.packets);
  journal = ap (λ entries. entries ++ w.journal) a.entries;
}

pub changes-nothing-else : CachedReadsChangeNothingElse
changes-nothing-else head events host c op file block lease body is ready reads =
    let w : World = run head events in
    subst (λ z. ChangesNothingElse w z host c op file block lease body) (sym (ap (at_client w host (λ d. client_call d op)) is))
    (changes w host c op file block lease body is ready (answered reads))
  where
    at-once : AnswersAtOnce c (Call.Read file block) file block body (client_call c (Call.Read file block))
        × AnswersAtOnce c (Call.Fetch file block) file block body (client_call c (Call.Fetch file block))
    at-once = cached-in-every-run head events host c file block lease body is ready

    answered : ReadsBlock op file block → AnswersAtOnce c op file block body (client_call c op)
    answered (inl e) = subst (λ z. AnswersAtOnce c z file block body (client_call c z)) (sym e) at-once.0
    answered (inr e) = subst (λ z. AnswersAtOnce c z file block body (client_call c z)) (sym e) at-once.1
