-- What a client sends next is what it needs.
use Rattle.std.proofs.Common.{◌≡◌, ℕ, Bool, true, false, not, ◌&&◌, ◌||◌, List, [], ◌∷◌, Option, Some, None, nat_le, is_some, IfSome, if◌then◌else◌}
use Rattle.std.proofs.Common.{refl, sym, ap, subst, ◌∙◌}
use Rattle.std.proofs.lemmas.Bool.{false≢true}
use Rattle.std.specs.Bool.{then_some}
use Rattle.std.specs.List.{find, list_any}
use Rattle.std.specs.Option.{option_or}
use Rattle.nq_base.specs.declared.Call.{Call}
use Rattle.nq_base.specs.declared.Call.TheVariants.{Create, Lookup, Attr, Read, Fetch, Write, Put, Sync, Resize, Remove}
use Rattle.nq_base.specs.declared.Mode.{Mode}
use Rattle.nq_base.specs.declared.Push.{Push}
use Rattle.nq_base.specs.declared.Request.{Request}
use Rattle.nq_client.proofs.InPlace.{called-body}
use Rattle.nq_client.proofs.Requested.{skipped, stays-renews}
use Rattle.nq_client.specs.Asking.{IsSpelled, change_need, meets, meets_or_renews, need_by, need_of, next, push_due, push_for, put_need, read_need, write_need}
use Rattle.nq_client.specs.Settling.{called_body}
use Rattle.nq_client.specs.declared.asking.Need.{Need}
use Rattle.nq_model.specs.protocol.Client.{Client, ClientStep, Ticket, UnderWay, first_dirty, for_call, is_clean_in, is_push_of, lease_on}
use Rattle.nq_model.specs.protocol.Send.{after_seq, asks, ending_file, gives_up, is_asking, next_change, next_of_call, next_of_under_way, next_put}
use Rattle.nq_model.specs.protocol.Send.{noticed_file, pushes, pushes_due, pushes_these, read_want, send_next, sends_request, sends_write, shares_live}
use Rattle.nq_model.specs.protocol.Send.{then_calls, then_ending, then_pushes, then_renews, want_of}
use Rattle.nq_wire.specs.Parts.{IsWanted}

-- ---- a file without delayed writes is not pushed

found-step : (test : Push → Bool) (x : Push) (xs : List Push) (b : Bool) → is_some (find test xs) ≡ list_any test xs
    → is_some (if b then Some x else find test xs) ≡ (b || list_any test xs)
found-step test x xs true h = refl
found-step test x xs false h = h

found : (test : Push → Bool) (xs : List Push) → is_some (find test xs) ≡ list_any test xs
found test [] = refl
found test (x ∷ xs) = found-step test x xs (test x) (found test xs)

none-pushed : (a b : Bool) → a ≡ b → (not b && true) ≡ not a
none-pushed a true e = ap not (sym e)
none-pushed a false e = ap not (sym e)

clean-none : (file : ℕ) (dirty : List Push) (push : Option Push) → push ≡ None → is_clean_in file dirty push ≡ not (is_some (first_dirty file dirty))
clean-none file dirty None e =
    none-pushed (is_some (first_dirty file dirty)) (list_any (is_push_of file) dirty) (found (is_push_of file) dirty)
clean-none file dirty (Some p) e = absurd cc

-- ---- a stage of the next request sends what is needed

-- what is needed is sent, if something is
abbrev met : ClientStep → Option Need → ClientStep
met t None = t
met t (Some need) = meets t need

-- and then a request is under way
abbrev Works : ClientStep → Option Need → Type 0
Works t None = Unit {0}
Works t (Some need) = is_asking (meets t need) ≡ true

record Does (t s : ClientStep) (o : Option Need) : Type 0 where
  step : s ≡ met t o
  works : Works t o

idles : (t : ClientStep) → Does t t None
idles t = record { step = refl; works = tt }

pushed-by : (t : ClientStep) (file : ℕ) (b : Bool) (o : Option Push) → o ≡ first_dirty file t.client.dirty → b ≡ not (is_some o)
    → Does t (pushes_these t o) (if b then None else Some (Need.Push file))
unfolding sends_request
pushed-by t file true None f e = record { step = refl; works = tt }
pushed-by t file true (Some p) f e = absurd (false≢true (sym e))
pushed-by t file false None f e = absurd (false≢true e)
pushed-by t file false (Some p) f e = record {
  step = ap (λ (o : Option Push). pushes_these t o) f;
  works = ap (λ (o : Option Push). is_asking (pushes_these t o)) (sym f);
}

pushed : (t : ClientStep) (file : ℕ) → t.client.push ≡ None → Does t (pushes t file) (push_for file t.client.dirty t.client.push)
pushed t file none =
    pushed-by t file (is_clean_in file t.client.dirty t.client.push) (first_dirty file t.client.dirty) refl (clean-none file t.client.dirty t.client.push none)

due : (t : ClientStep) (o : Option ℕ) → t.client.push ≡ None → Does t (pushes_due t o) (push_due t.client.dirty t.client.push o)
due t None none = idles t
due t (Some file) none = pushed t file none

-- ---- the call's request

asked : (t : ClientStep) (may_ask : Bool) (request : Request) → Does t (asks t may_ask request) (then_some may_ask (Need.Ask request))
unfolding sends_request
asked t true request = record { step = refl; works = refl }
asked t false request = idles t

ordered : (t : ClientStep) (may_ask : Bool) (request : Request) → Does t (if may_ask then sends_request (after_seq t) for_call request else t)
    (then_some may_ask (Need.Order request))
unfolding sends_request
ordered t true request = record { step = refl; works = refl }
ordered t false request = idles t

written : (t : ClientStep) (through may_ask : Bool) (file block : ℕ) (body : List ℕ) (request : Request) → called_body t.client.call ≡ body
    → Does t (if may_ask then (if through then sends_write t file block body else sends_request t for_call request) else t)
    (then_some may_ask (if through then Need.Through file block else Need.Ask request))
unfolding sends_request
written t true true file block body request e = record {
  step = ap (λ (b : List ℕ). sends_write t file block b) (sym e);
  works = refl;
}
written t false true file block body request e = record { step = refl; works = refl }
written t through false file block body request e = idles t

put : (t : ClientStep) (delayed may_ask : Bool) (file block : ℕ) (body : List ℕ) → called_body t.client.call ≡ body → t.client.push ≡ None
    → Does t (next_put t delayed may_ask file block body) (put_need file block t.client.dirty t.client.push delayed may_ask)
unfolding sends_request
put t true may_ask file block body e none = pushed t file none
put t false true file block body e none = record {
  step = ap (λ (b : List ℕ). sends_write t file block b) (sym e);
  works = refl;
}
put t false false file block body e none = idles t

changed-by : (t : ClientStep) (may_ask clean : Bool) (file : ℕ) (request : Request) → Does t (pushes t file) (if clean then None
    else Some (Need.Push file)) → Does t (if clean then (if may_ask then sends_request (after_seq (gives_up t file)) for_call request else t)
    else pushes t file) (if clean then then_some may_ask (Need.Change file request) else Some (Need.Push file))
unfolding sends_request
changed-by t true true file request d = record { step = refl; works = refl }
changed-by t false true file request d = idles t
changed-by t may_ask false file request d = d

changed : (t : ClientStep) (may_ask : Bool) (file : ℕ) (request : Request) → t.client.push ≡ None → Does t (next_change t may_ask file request)
    (change_need file t.client.dirty t.client.push may_ask request)
changed t may_ask file request none =
    changed-by t may_ask (is_clean_in file t.client.dirty t.client.push) file request (pushed t file none)

of_call : (t : ClientStep) (u : UnderWay) (may_ask : Bool) (op : Call) → t.client.call ≡ Some u → u.call ≡ op → t.client.push ≡ None
    → Does t (next_of_call t u may_ask op) (need_by t.client u may_ask op)
of_call t u may_ask (Create name blocks) e h none =
    ordered t may_ask (Request.Create t.client.who t.client.seq name blocks)
of_call t u may_ask (Lookup name) e h none = asked t may_ask (Request.Lookup t.client.who name)
of_call t u may_ask (Attr file) e h none = asked t may_ask (Request.GetAttr t.client.who file)
of_call t u may_ask (Read file block) e h none =
    asked t may_ask (Request.Read t.client.who u.q file block (read_want t.client file))
of_call t u may_ask (Fetch file block) e h none = asked t may_ask (Request.Read t.client.who u.q file block None)
of_call t u may_ask (Write file block body) e h none =
    written t (u.through || shares_live t.client.now (lease_on file t.client.leases)) may_ask file block body (Request.GetLease t.client.who file
    (want_of t.client Mode.Writing)) (called-body t u (Call.Write file block body) e h)
of_call t u may_ask (Put file block body) e h none =
    put t u.written may_ask file block body (called-body t u (Call.Put file block body) e h) none
of_call t u may_ask (Sync file) e h none = pushed t file none
of_call t u may_ask (Resize file blocks) e h none =
    changed t may_ask file (Request.Resize t.client.who t.client.seq u.q file blocks) none
of_call t u may_ask (Remove file) e h none =
    changed t may_ask file (Request.Remove t.client.who t.client.seq u.q file) none

of_under_way : (t : ClientStep) (o : Option UnderWay) → t.client.call ≡ o → t.client.push ≡ None
    → Does t (next_of_under_way t (nat_le t.client.pause t.client.now) o) (need_of t.client o)
of_under_way t None e none = idles t
of_under_way t (Some u) e none = of_call t u (nat_le t.client.pause t.client.now) u.call e refl none

-- ---- the stages, one after another

passed : (b : Bool) (t s : ClientStep) → b ≡ false → (if b then t else s) ≡ s
passed true t s h = absurd cc
passed false t s h = refl

unless : (t s : ClientStep) (o : Option Need) → is_asking t ≡ false → Does t s o → Does t (if is_asking t then t else s) o
unless t s o idle d = record { step = passed (is_asking t) t s idle ∙ d.step; works = d.works }

pushes-first : (t : ClientStep) (o : Option ℕ) → is_asking t ≡ false → t.client.push ≡ None → Does t (then_pushes t o)
    (push_due t.client.dirty t.client.push o)
pushes-first t o idle none = unless t (pushes_due t o) (push_due t.client.dirty t.client.push o) idle (due t o none)

calls-first : (t : ClientStep) → is_asking t ≡ false → t.client.push ≡ None → Does t (then_calls t) (need_of t.client t.client.call)
calls-first t idle none =
    unless t (next_of_under_way t (nat_le t.client.pause t.client.now) t.client.call) (need_of t.client t.client.call) idle
    (of_under_way t t.client.call refl none)

stays-calls : (in_tick : Bool) (t : ClientStep) → is_asking t ≡ true → then_renews in_tick (then_calls t) ≡ t
stays-calls in_tick t h =
    let e : then_calls t ≡ t = skipped (is_asking t) _ _ h in
    ap (then_renews in_tick) e ∙ stays-renews in_tick t h

stays-ending : (in_tick : Bool) (t : ClientStep) → is_asking t ≡ true → then_renews in_tick (then_calls (then_ending t)) ≡ t
stays-ending in_tick t h =
    let e : then_ending t ≡ t = skipped (is_asking t) _ _ h in
    ap (λ (s : ClientStep). then_renews in_tick (then_calls s)) e ∙ stays-calls in_tick t h

last : (in_tick : Bool) (t u : ClientStep) (o : Option Need) → Does t u o → then_renews in_tick u ≡ meets_or_renews in_tick t o
last in_tick t u None d = ap (then_renews in_tick) d.step
last in_tick t u (Some need) d = ap (then_renews in_tick) d.step ∙ stays-renews in_tick (meets t need) d.works

before : (in_tick : Bool) (rest : ClientStep → ClientStep) (t u : ClientStep) (o p : Option Need) → Does t u o
    → ((s : ClientStep) → is_asking s ≡ true → rest s ≡ s) → rest t ≡ meets_or_renews in_tick t p → rest u ≡ meets_or_renews in_tick t (option_or o p)
before in_tick rest t u None p d stays e = ap rest d.step ∙ e
before in_tick rest t u (Some need) p d stays e = ap rest d.step ∙ stays (meets t need) d.works

none-asked : (o : Option Ticket) → is_some o ≡ false → o ≡ None
none-asked None h = refl
none-asked (Some ticket) h = absurd cc

-- where no request is under way, what is needed is sent, or a lease is renewed
pub needed : (in_tick : Bool) (t : ClientStep) → is_asking t ≡ false → (t.client.ticket ≡ None → t.client.push ≡ None) → meets_or_renews in_tick t
    (next t.client) ≡ send_next in_tick t
needed in_tick t idle tied =
    let none : t.client.push ≡ None = tied (none-asked t.client.ticket idle) in
    let call = need_of t.client t.client.call in
    let ending = push_due t.client.dirty t.client.push (ending_file t.client) in
    let noticed = push_due t.client.dirty t.client.push (noticed_file t.client) in
    let called : then_renews in_tick (then_calls t) ≡ meets_or_renews in_tick t call = last in_tick t (then_calls t) call (calls-first t idle none) in
    let ended : then_renews in_tick (then_calls (then_ending t)) ≡ meets_or_renews in_tick t (option_or ending call) =
    before in_tick (λ (s : ClientStep). then_renews in_tick (then_calls s)) t (then_ending t) ending call (pushes-first t (ending_file t.client)
    idle none) (stays-calls in_tick) called in
    let all : send_next in_tick t ≡ meets_or_renews in_tick t (next t.client) = before in_tick (λ (s : ClientStep). then_renews in_tick
    (then_calls (then_ending s))) t (then_pushes t (noticed_file t.client)) noticed (option_or ending call)
    (pushes-first t (noticed_file t.client) idle none) (stays-ending in_tick) ended in
    sym all

-- ---- the request that is needed has a spelling

some-spelled : (b : Bool) (need : Need) → IsSpelled need → IfSome (then_some b need) IsSpelled
some-spelled true need h = h
some-spelled false need h = tt

push-spelled : (b : Bool) (file : ℕ) → IfSome (if b then None else Some (Need.Push file)) IsSpelled
push-spelled true file = tt
push-spelled false file = tt

read-spelled : (c : Client) (b : Bool) → IfSome (if b then None else Some (want_of c Mode.Reading)) (λ w. IsWanted w.mode)
read-spelled c true = tt
read-spelled c false = tt

write-spelled : (c : Client) (b : Bool) (file block : ℕ) → IsSpelled (if b then Need.Through file block
    else Need.Ask (Request.GetLease c.who file (want_of c Mode.Writing)))
write-spelled c true file block = tt
write-spelled c false file block = tt

put-spelled : (b may_ask : Bool) (file block : ℕ) (dirty : List Push) (push : Option Push) → IfSome (put_need file block dirty push b may_ask) IsSpelled
put-spelled true may_ask file block dirty push = push-spelled (is_clean_in file dirty push) file
put-spelled false may_ask file block dirty push = some-spelled may_ask (Need.Through file block) tt

change-spelled : (b may_ask : Bool) (file : ℕ) (request : Request) → IsSpelled (Need.Change file request)
    → IfSome (if b then then_some may_ask (Need.Change file request) else Some (Need.Push file)) IsSpelled
change-spelled true may_ask file request h = some-spelled may_ask (Need.Change file request) h
change-spelled false may_ask file request h = tt

call-spelled : (c : Client) (u : UnderWay) (may_ask : Bool) (op : Call) → IfSome (need_by c u may_ask op) IsSpelled
call-spelled c u may_ask (Create name blocks) =
    some-spelled may_ask (Need.Order (Request.Create c.who c.seq name blocks)) tt
call-spelled c u may_ask (Lookup name) = some-spelled may_ask (Need.Ask (Request.Lookup c.who name)) tt
call-spelled c u may_ask (Attr file) = some-spelled may_ask (Need.Ask (Request.GetAttr c.who file)) tt
call-spelled c u may_ask (Read file block) =
    some-spelled may_ask (read_need c.who u.q file block (read_want c file)) (read-spelled c (shares_live c.now (lease_on file c.leases)))
call-spelled c u may_ask (Fetch file block) = some-spelled may_ask (read_need c.who u.q file block None) tt
call-spelled c u may_ask (Write file block body) =
    some-spelled may_ask (write_need c u.through file block) (write-spelled c (u.through || shares_live c.now (lease_on file c.leases)) file block)
call-spelled c u may_ask (Put file block body) = put-spelled u.written may_ask file block c.dirty c.push
call-spelled c u may_ask (Sync file) = push-spelled (is_clean_in file c.dirty c.push) file
call-spelled c u may_ask (Resize file blocks) =
    change-spelled (is_clean_in file c.dirty c.push) may_ask file (Request.Resize c.who c.seq u.q file blocks) tt
call-spelled c u may_ask (Remove file) =
    change-spelled (is_clean_in file c.dirty c.push) may_ask file (Request.Remove c.who c.seq u.q file) tt

under_way-spelled : (c : Client) (o : Option UnderWay) → IfSome (need_of c o) IsSpelled
under_way-spelled c None = tt
under_way-spelled c (Some u) = call-spelled c u (nat_le c.pause c.now) u.call

due-spelled : (dirty : List Push) (push : Option Push) (o : Option ℕ) → IfSome (push_due dirty push o) IsSpelled
due-spelled dirty push None = tt
due-spelled dirty push (Some file) = push-spelled (is_clean_in file dirty push) file

or-spelled : (o p : Option Need) → IfSome o IsSpelled → IfSome p IsSpelled → IfSome (option_or o p) IsSpelled
or-spelled None p h k = k
or-spelled (Some need) p h k = h

next-spelled : (c : Client) → IfSome (next c) IsSpelled
next-spelled c =
    or-spelled (push_due c.dirty c.push (noticed_file c)) (option_or (push_due c.dirty c.push (ending_file c)) (need_of c c.call))
    (due-spelled c.dirty c.push (noticed_file c))
    (or-spelled (push_due c.dirty c.push (ending_file c)) (need_of c c.call) (due-spelled c.dirty c.push (ending_file c)) (under_way-spelled c c.call))

-- what comes next has a spelling
pub spelled : (c : Client) (o : Option Need) (need : Need) → o ≡ next c → o ≡ Some need → IsSpelled need
spelled c o need e f =
    subst (λ (x : Option Need). IfSome x IsSpelled) f (subst (λ (x : Option Need). IfSome x IsSpelled) (sym e) (next-spelled c))
