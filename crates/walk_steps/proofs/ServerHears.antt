-- What a datagram does to the server, as one client sees it: all outcomes.
use Rattle.std.proofs.Common.{ℕ, Bool, List, [], ◌∷◌, Option, Some, None, refl, subst, arith, inl, inr}
use Rattle.nq_base.specs.declared.Event.{Event}
use Rattle.nq_base.specs.declared.Question.{Question}
use Rattle.nq_base.specs.declared.Row.{Row}
use Rattle.nq_base.specs.declared.Who.{Who}
use Rattle.walk_steps.proofs.Members.{find-in}
use Rattle.walk_steps.proofs.AskCases.{with_marked, with_waiter}
use Rattle.walk_steps.proofs.Covers.{waiting-goes-on}
use Rattle.walk_steps.proofs.Hearing.{Hearing}
use Rattle.walk_steps.proofs.Packets.{In}
use Rattle.walk_steps.proofs.ServerCases.{server-hears}
use Rattle.walk_steps.proofs.ServerChanges.{declines-effect, puts-off-effect, creates-effect, writes-effect, stores-effect, stores-recovering-effect}
use Rattle.walk_steps.proofs.ServerChanges.{resizes-effect, removes-effect, attaches-effect, vacates-effect}
use Rattle.walk_steps.proofs.Sequences.{reads-no-seq}
use Rattle.walk_steps.proofs.ServerEffects.{quiet-effect, drops-effect, says-effect, error-new, plain-effect, all-go-on, later-effect, marked-boot}
use Rattle.walk_steps.proofs.ServerEffects.{marked-drawn, marked-rows, waiter-boot, waiter-drawn, way-rows, reads-effect, asks-effect, reads-granted}
use Rattle.walk_steps.proofs.ServerEffects.{leases-granted}
use Rattle.walk_steps.proofs.ServerKnows.{Effect}
use Rattle.walk_steps.proofs.ServerOutcomes.{wanted_by, ServerCases}
use Rattle.nq_model.specs.protocol.Client.{Lease, Notice, Ticket}
use Rattle.nq_model.specs.protocol.Decide.{in_the_way}
use Rattle.nq_model.specs.protocol.Message.{Packet, Datagram}
use Rattle.nq_model.specs.protocol.Server.{Server}
use Rattle.nq_model.specs.protocol.ServerStep.{to_read, access_of, receive}
use Rattle.nq_model.specs.protocol.Table.{is_row_of}

module _ (ps : List Packet) (s : Server) (most sender next : ℕ) (d : Datagram) (events : List Event) (who : Who) (now xid : ℕ) (attached : Bool)
    (ticket : Option Ticket) (leased : List Lease) (noticed : List Notice)
    (c : Hearing ps s most sender d events who now xid attached ticket leased noticed) where
  hears-cases : ServerCases s sender next d (λ t. Effect ps s t who ticket leased)
  hears-cases = record {
    stays = quiet-effect ps s most sender next d events who now xid attached ticket leased noticed c;
    dropping = λ reason. drops-effect ps s most sender next d events who now xid attached ticket leased noticed c reason;
    erring =
        λ m e. says-effect ps s most sender next d events who now xid attached ticket leased noticed c sender m
        (error-new ps s most sender next d events who now xid attached ticket leased noticed c d m e);
    answers_null = λ x e. absurd (c.no_null x e);
    replying = λ x w r a e by from plain. plain-effect ps s most sender next d events who now xid attached ticket leased noticed c x w r a e by from plain;
    attaching = λ x w e from later. attaches-effect ps s most sender next d events who now xid attached ticket leased noticed c x w e from later;
    vacating = λ x w file tag e current. vacates-effect ps s most sender next d events who now xid attached ticket leased noticed c x w file tag e current;
    putting_off =
        λ x w r f clash e by file asking k. let q : Question = to_read s w f (wanted_by r) in
        later-effect ps s most sender next d events who now xid attached ticket leased noticed c x w r (with_marked s.table q)
        (in_the_way s f.id w.host (access_of (wanted_by r))) e by asking.current.from.host (reads-no-seq r f.id file) asking.serves
        (marked-boot ps s most sender next d events who now xid attached ticket leased noticed c q)
        (marked-drawn ps s most sender next d events who now xid attached ticket leased noticed c q)
        (marked-rows ps s most sender next d events who now xid attached ticket leased noticed c q)
        (way-rows ps s most sender next d events who now xid attached ticket leased noticed c f.id w.host (access_of (wanted_by r)));
    putting_off_waiting =
        λ x w r f clash want e by file wants asking k own room. let q : Question = to_read s w f (Some want) in
        later-effect ps s most sender next d events who now xid attached ticket leased noticed c x w r (with_waiter s.table q want)
        (in_the_way s f.id w.host (access_of (Some want))) e by asking.current.from.host (reads-no-seq r f.id file) asking.serves
        (waiter-boot ps s most sender next d events who now xid attached ticket leased noticed c q want)
        (waiter-drawn ps s most sender next d events who now xid attached ticket leased noticed c q want)
        (λ on. waiting-goes-on s.table q want on who.host own)
        (way-rows ps s most sender next d events who now xid attached ticket leased noticed c f.id w.host (access_of (Some want)));
    putting_off_by_own =
        λ x w r f want own e by file wants asking k found evicting. later-effect ps s most sender next d events who now xid attached ticket leased
        noticed c x w r s.table (own ∷ []) e by asking.current.from.host (reads-no-seq r f.id file) asking.serves refl (omega arith)
        (all-go-on ps s most sender next d events who now xid attached ticket leased noticed c)
        (only-in own (find-in (is_row_of f.id w.host) s.table.rows own found));
    reading =
        λ x w q block f body e asking there k. reads-effect ps s most sender next d events who now xid attached ticket leased noticed c x w q f block
        body None e asking.current.from.host;
    reading_full =
        λ x w q block want f body e asking there k own room. reads-effect ps s most sender next d events who now xid attached ticket leased noticed c x
        w q f block body (Some want) e asking.current.from.host;
    reading_granted =
        λ x w q block want f body row term e asking there k g. reads-granted ps s most sender next d events who now xid attached ticket leased noticed c
        x w q f block body want row term e asking g;
    leasing_full =
        λ x w want f e asking k own room. asks-effect ps s most sender next d events who now xid attached ticket leased noticed c x w f want
        e asking.current.from.host;
    leasing =
        λ x w want f row term e asking k g. leases-granted ps s most sender next d events who now xid attached ticket leased noticed c x w f want row
        term e asking g;
    declining =
        λ x w seq r verdict e by sq fresh declined. declines-effect ps s most sender next d events who now xid attached ticket leased noticed c x w seq
        r verdict e by sq fresh;
    putting_off_change =
        λ x w seq r f clash e by sq file base changing k. puts-off-effect ps s most sender next d events who now xid attached ticket leased noticed c x
        w seq r f e by sq changing;
    creating =
        λ x w seq blocks name e fresh serves can. creates-effect ps s most sender next d events who now xid attached ticket leased noticed c x w seq
        blocks name e fresh serves;
    writing_through =
        λ x w seq block first last body f e changing below k. writes-effect ps s most sender next d events who now xid attached ticket leased noticed c
        x w seq block first last body f e changing;
    storing =
        λ x w seq block first last base body f row e changing below can. stores-effect ps s most sender next d events who now xid attached ticket leased
        noticed c x w seq block first last base body f row e changing can;
    storing_recovering =
        λ x w seq block first final base body f until heard last e fresh recovers found below boot rev. stores-recovering-effect ps s most sender next d
        events who now xid attached ticket leased noticed c x w seq block first final base body f until heard last e fresh recovers;
    resizing =
        λ x w seq q blocks f e changing can k. resizes-effect ps s most sender next d events who now xid attached ticket leased noticed c x w seq q
        blocks f e changing;
    removing = λ x w seq q f e changing k. removes-effect ps s most sender next d events who now xid attached ticket leased noticed c x w seq q f e changing k;
  } where
    only-in : (own : Row) → In s.table.rows own → (k : Row) → In (own ∷ []) k → In s.table.rows k
    only-in own there k (inl e) = subst (λ r. In s.table.rows r) e there
    only-in own there k (inr bad) = absurd bad

  -- what a datagram does to the server, as one client sees it
  pub hears-effect : Effect ps s (receive s sender next d) who ticket leased
  hears-effect = server-hears s sender next d (λ t. Effect ps s t who ticket leased) hears-cases
