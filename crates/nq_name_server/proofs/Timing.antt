-- What is made of requests leaves the time of the server's clock.
use Rattle.std.proofs.Common.{◌≡◌, Bool, true, false, ℕ, List, ◌∷◌, [], ◌++◌, Option, Some, None, if◌then◌else◌, length, refl, ap, ◌∙◌}
use Rattle.std.specs.Prelude.{nat_lt}
use Rattle.nq_base.specs.declared.Asked.{Asked}
use Rattle.nq_base.specs.declared.Row.{Row}
use Rattle.nq_base.specs.declared.Who.{Who}
use Rattle.nq_directory.specs.declared.listing.messages.DirTag.{DirTag}
use Rattle.nq_directory.specs.declared.listing.messages.ReadDir.{ReadDir}
use Rattle.nq_model.specs.protocol.Table.{Table}
use Rattle.nq_name_server.specs.Sending.{IsHeld, IsServed}
use Rattle.nq_name_server.specs.Served.{Leaf, Served, most_directories, number_of}
use Rattle.nq_name_server.specs.Serving.{Serves, answers, gives_up, holds_as, holds_for, holds_up, leased, reads_as, reads_dir, reads_numbered}
use Rattle.nq_name_server.specs.Serving.{readers, vacates}
use Rattle.nq_wire.specs.Outbox.{Datagrams}

leased-time : (s : Served) (r : ReadDir) (table : Table) (leaf : Leaf) (own : List Row) (asked : Asked)
    → (leased s r table leaf own asked).served.time ≡ s.time
leased-time s r table leaf own (Asked.TryLater clash) = refl
leased-time s r table leaf own (Asked.Granted grant) = refl
leased-time s r table leaf own Asked.NoLease = refl
leased-time s r table leaf own Asked.Free = refl

numbered-time : (s : Served) (r : ReadDir) (leaf : Leaf) (number : ℕ) → (reads_numbered s r leaf number).served.time ≡ s.time
numbered-time s r leaf number = leased-time s r _ leaf _ _

either-time : (time : ℕ) (b : Bool) (x y : Serves) → x.served.time ≡ time → y.served.time ≡ time → (if b then x else y).served.time ≡ time
either-time time true x y first second = first
either-time time false x y first second = second

read-time : (s : Served) (r : ReadDir) (leaf : Leaf) (number : Option ℕ) → (reads_as s r leaf number).served.time ≡ s.time
read-time s r leaf (Some number) = numbered-time s r leaf number
read-time s r leaf None =
    either-time s.time (nat_lt (length s.directories) most_directories) _ (answers s r s.table leaf None)
    (numbered-time (record s { directories = s.directories ++ r.prefix ∷ [] }) r leaf (length s.directories)) refl

pub time_read : (s new : Served) (r : ReadDir) (leaf : Leaf) (out out' : Datagrams) → IsServed (reads_dir s r leaf) new out out' → new.time ≡ s.time
time_read s new r leaf out out' h = ap (λ (x : Served). x.time) h.served ∙ read-time s r leaf (number_of r.prefix s.directories)

-- ---- requests that are held up

held-rows : (held : Bool) (s new : Served) (out out' : Datagrams) (who : Who) (prefix : List ℕ) (number : ℕ) (rows : List Row)
    → IsHeld held (holds_for s who prefix number rows) s new out out' → new.time ≡ s.time
held-rows true s new out out' who prefix number [] h = absurd h
held-rows false s new out out' who prefix number [] h = ap (λ (x : Served). x.time) h.served
held-rows true s new out out' who prefix number (row ∷ rows) h = ap (λ (x : Served). x.time) h.served
held-rows false s new out out' who prefix number (row ∷ rows) h = absurd h

held-as : (held : Bool) (s new : Served) (out out' : Datagrams) (who : Who) (prefix : List ℕ) (number : Option ℕ)
    → IsHeld held (holds_as s who prefix number) s new out out' → new.time ≡ s.time
held-as true s new out out' who prefix None h = absurd h
held-as false s new out out' who prefix None h = ap (λ (x : Served). x.time) h.served
held-as held s new out out' who prefix (Some number) h = held-rows held s new out out' who prefix number (readers number who.host s.table.rows) h

pub time_held : (held : Bool) (s new : Served) (out out' : Datagrams) (who : Who) (prefix : List ℕ) → IsHeld held (holds_up s who prefix) s new out
    out' → new.time ≡ s.time
time_held held s new out out' who prefix h = held-as held s new out out' who prefix (number_of prefix s.directories) h

-- ---- lists that are given up

given-time : (s : Served) (t : DirTag) (number : Option ℕ) → (gives_up s t number).time ≡ s.time
given-time s t None = refl
given-time s t (Some number) = refl

pub time_vacated : (s new : Served) (t : DirTag) → new ≡ vacates s t → new.time ≡ s.time
time_vacated s new t is = ap (λ (x : Served). x.time) is ∙ given-time s t (number_of t.prefix s.directories)
