-- Each reply that the server sends answers the datagram that came: it goes to the sender, under the number of the request, and the grant in it is of the
-- sender's row of the file that the request names.
use Rattle.std.proofs.Common.{◌≡◌, ◌⊎◌, ℕ, List, [], ◌∷◌, ◌++◌, Some, None, refl, sym, subst, ap, ◌∙◌, inl, inr}
use Rattle.nq_base.specs.declared.Grant.{Grant}
use Rattle.nq_base.specs.declared.Question.{Question}
use Rattle.nq_base.specs.declared.Refusal.{Refusal}
use Rattle.nq_base.specs.declared.Reply.{Reply}
use Rattle.nq_base.specs.declared.Request.{Request}
use Rattle.nq_base.specs.declared.Row.{Row}
use Rattle.nq_base.specs.declared.Verdict.{Verdict}
use Rattle.nq_base.specs.declared.Want.{Want}
use Rattle.nq_base.specs.declared.Who.{Who}
use Rattle.nq_model.specs.protocol.Ask.{grant_of}
use Rattle.nq_model.specs.protocol.Decide.{verdict_reply, decides, creates, writes_through, stores, stores_recovering, wrote, resizes, removes, puts_off}
use Rattle.nq_model.specs.protocol.Decide.{commits}
use Rattle.nq_model.specs.protocol.Hear.{inc_of}
use Rattle.nq_model.specs.laws.LeaseInterval.{grant_in, requested_file}
use Rattle.nq_model.specs.protocol.Message.{Message, Packet, reply, Datagram, request, asker, sequence_of}
use Rattle.nq_model.specs.protocol.Server.{Server, to_host, notices, after_notices, keeping, keeping_with, with_table, quiet, drops, says}
use Rattle.nq_model.specs.protocol.ServerStep.{to_read, attaches, vacates, tells_later, serves, leases, receive}
use Rattle.nq_model.specs.protocol.Table.{find_row, put_row, with_rows, after_draw}
use Rattle.walk_steps.proofs.ClientMoves.{some-same, none-some}
use Rattle.walk_steps.proofs.Packets.{In, in-last, told-same, reply-same}
use Rattle.walk_steps.proofs.ServerSays.{notices-no-reply, verdict-inc, verdict-grant, plain-inc, plain-grant}
use Rattle.walk_steps.proofs.AskCases.{IsGranted}
use Rattle.walk_steps.proofs.RowChanges.{find-put-same}
use Rattle.walk_steps.proofs.ServerCases.{server-hears}
use Rattle.walk_steps.proofs.ServerOutcomes.{error-no-reply}
use Rattle.walk_steps.proofs.RowsAfter.{granted-key}

-- a grant is of a row that stands
pub record GrantIs (rows : List Row) (host : ℕ) (asks : Request) (g : Grant) : Type 0 where
  pub file : ℕ
  pub row : Row
  pub on : requested_file asks ≡ Some file
  pub stands : find_row file host rows ≡ Some row
  pub tag : row.tag ≡ g.tag
  pub mode : row.mode ≡ g.mode

pub record ReplyIs (sender : ℕ) (d : Datagram) (rows : List Row) (host x : ℕ) (a : Reply) : Type 0 where
  pub asks : Request
  pub is : d ≡ request x asks
  pub to : host ≡ sender
  pub inc : (who : Who) → asker asks ≡ Some who → inc_of a ≡ who.inc
  pub brings : (g : Grant) → grant_in a ≡ Some g → GrantIs rows host asks g

module _ (s : Server) (sender next : ℕ) (d : Datagram) where
  abbrev pub RepliesAre : (rows : List Row) (sends : List Packet) → Type 0
  RepliesAre rows sends = (host x : ℕ) (a : Reply) → In sends (to_host host (reply x a)) → ReplyIs sender d rows host x a

  none : (rows : List Row) → RepliesAre rows []
  none rows host x a i = absurd i

  behind : (rows : List Row) (first : ℕ) (told : List Row) (p : Packet) → RepliesAre rows (p ∷ []) → RepliesAre rows (notices first told ++ p ∷ [])
  behind rows first told p h host x a i = by (in-last (notices first told) p (to_host host (reply x a)) i)
    where
      by : In (notices first told) (to_host host (reply x a)) ⊎ (p ≡ to_host host (reply x a)) → ReplyIs sender d rows host x a
      by (inl j) = absurd (notices-no-reply first told host x a j)
      by (inr same) = h host x a (inl same)

  erring : (rows : List Row) (m : Message) → ((x : ℕ) (a : Reply) → m ≡ reply x a → ⊥) → RepliesAre rows (to_host sender m ∷ [])
  erring rows m never host x a (inl same) = absurd (never x a (told-same sender host m (reply x a) same).1)
  erring rows m never host x a (inr bad) = absurd bad

  -- this one reply
  one : (rows : List Row) (h y : ℕ) (b : Reply) (r : Request) → d ≡ request y r → h ≡ sender → ((who : Who) → asker r ≡ Some who → inc_of b ≡ who.inc)
      → ((g : Grant) → grant_in b ≡ Some g → GrantIs rows h r g) → RepliesAre rows (to_host h (reply y b) ∷ [])
  one rows h y b r is from inc brings host x a (inr bad) = absurd bad
  one rows h y b r is from inc brings host x a (inl same) =
      let two = told-same h host (reply y b) (reply x a) same in
      let three = reply-same y x b a two.1 in
      subst (λ n. ReplyIs sender d rows n x a) two.0
      (subst (λ n. ReplyIs sender d rows h n a) three.0
      (subst (λ z. ReplyIs sender d rows h y z) three.1 (record { asks = r; is = is; to = from; inc = inc; brings = brings })))

  -- it brings no grant
  bare : (rows : List Row) (w : Who) (y : ℕ) (b : Reply) (r : Request) → d ≡ request y r → asker r ≡ Some w → w.host ≡ sender → inc_of b ≡ w.inc
      → grant_in b ≡ None → RepliesAre rows (to_host w.host (reply y b) ∷ [])
  bare rows w y b r is by from inc plain =
      one rows w.host y b r is from (λ who asks. inc ∙ ap (λ (v : Who). v.inc) (some-same w who (sym by ∙ asks))) (λ g gives. none-some g (sym plain ∙ gives))

  decided : (rows : List Row) (w : Who) (y seq value : ℕ) (v : Verdict) (r : Request) → d ≡ request y r → asker r ≡ Some w → sequence_of r ≡ Some seq
      → w.host ≡ sender → RepliesAre rows (to_host w.host (reply y (verdict_reply w.inc v value r)) ∷ [])
  decided rows w y seq value v r is by sq from =
      bare rows w y (verdict_reply w.inc v value r) r is by from (verdict-inc w.inc v value r seq sq) (verdict-grant w.inc v value r)

  grants : (q : Question) (want : Want) (row : Row) (term : ℕ) (r : Request) (b : Reply) → requested_file r ≡ Some q.file
      → IsGranted s.table q want row term → grant_in b ≡ Some (grant_of q row term) → (g : Grant) → grant_in b ≡ Some g
      → GrantIs (put_row row s.table.rows) q.who.host r g
  unfolding grant_of
  grants q want row term r b on granted brings g gives =
      let same : grant_of q row term ≡ g = some-same (grant_of q row term) g (sym brings ∙ gives) in
      let k = granted-key s.table q want row term granted in
      record {
        file = q.file;
        row = row;
        on = on;
        stands = subst (λ f. find_row f q.who.host (put_row row s.table.rows) ≡ Some row) k.0
            (subst (λ h. find_row row.file h (put_row row s.table.rows) ≡ Some row) k.1 (find-put-same row s.table.rows));
        tag = ap (λ (x : Grant). x.tag) same;
        mode = ap (λ (x : Grant). x.mode) same;
      }

  -- each reply of a step
  pub replies-are : RepliesAre (receive s sender next d).server.table.rows (receive s sender next d).sends
  unfolding quiet drops says attaches vacates serves leases tells_later decides creates writes_through stores stores_recovering wrote resizes removes
      puts_off commits after_notices keeping keeping_with with_table with_rows after_draw
  replies-are = server-hears s sender next d (λ t. RepliesAre t.server.table.rows t.sends) (record {
    stays = none s.table.rows;
    dropping = λ reason. none s.table.rows;
    erring = λ m e. erring s.table.rows m (λ x a is. error-no-reply d m x a e is);
    answers_null = λ x e. one s.table.rows sender x Reply.Null Request.Null e refl (λ who by. none-some who by) (λ g gives. none-some g gives);
    replying = λ x w z a e by from is. bare s.table.rows w x a z e by from.host (plain-inc s w z a is) (plain-grant s w z a is);
    attaching = λ x w e from later_one. bare _ w x (Reply.Attach w.inc) (Request.Attach w) e refl from.host refl refl;
    vacating = λ x w file tag e current. none _;
    putting_off = λ x w z f clash e by file asking c. behind _ s.notice _ _
        (bare _ w x (Reply.Refused w.inc Refusal.TryLater) z e by asking.current.from.host refl refl);
    putting_off_waiting = λ x w z f clash want e by file wants asking c own room. behind _ s.notice _ _
        (bare _ w x (Reply.Refused w.inc Refusal.TryLater) z e by asking.current.from.host refl refl);
    putting_off_by_own = λ x w z f want own e by file wants asking c o evicting. behind _ s.notice (own ∷ []) _
        (bare _ w x (Reply.Refused w.inc Refusal.TryLater) z e by asking.current.from.host refl refl);
    reading = λ x w q block f body e asking there c. bare _ w x (Reply.Read w.inc f.rev body None) _ e refl asking.current.from.host refl refl;
    reading_full = λ x w q block want f body e asking there c own room. bare _ w x
        (Reply.Read w.inc f.rev body None) _ e refl asking.current.from.host refl refl;
    reading_granted = λ x w q block want f body row term e asking there c g.
        one _ w.host x (Reply.Read w.inc f.rev body (Some (grant_of (to_read s w f (Some want)) row term)))
        (Request.Read w q f.id block (Some want)) e asking.current.from.host
        (λ who asks. ap (λ (v : Who). v.inc) (some-same w who asks))
        (grants (to_read s w f (Some want)) want row term (Request.Read w q f.id block (Some want))
        (Reply.Read w.inc f.rev body (Some (grant_of (to_read s w f (Some want)) row term))) refl g refl);
    leasing_full = λ x w want f e asking c own room. bare _ w x (Reply.GetLease w.inc None)
        (Request.GetLease w f.id want) e refl asking.current.from.host refl refl;
    leasing = λ x w want f row term e asking c g.
        one _ w.host x (Reply.GetLease w.inc (Some (grant_of (to_read s w f (Some want)) row term))) (Request.GetLease w f.id want) e asking.current.from.host
        (λ who asks. ap (λ (v : Who). v.inc) (some-same w who asks))
        (grants (to_read s w f (Some want)) want row term (Request.GetLease w f.id want)
        (Reply.GetLease w.inc (Some (grant_of (to_read s w f (Some want)) row term))) refl g refl);
    declining = λ x w seq z verdict e by sq fresh is. decided _ w x seq 0 verdict z e by sq fresh.current.from.host;
    putting_off_change = λ x w seq z f clash e by sq file base changing c. behind _ s.notice _ _
        (bare _ w x (Reply.Refused w.inc Refusal.TryLater) z e by changing.fresh.current.from.host refl refl);
    creating = λ x w seq blocks name e fresh serves can. bare _ w x _ (Request.Create w seq name blocks) e refl fresh.current.from.host refl refl;
    writing_through = λ x w seq block first last body f e changing below c. bare _ w x _ _ e refl changing.fresh.current.from.host refl refl;
    storing = λ x w seq block first last base body f row e changing below can. bare _ w x _ _ e refl changing.fresh.current.from.host refl refl;
    storing_recovering = λ x w seq block first final base body f until heard last e fresh recovers found below boot rev.
        bare _ w x _ _ e refl fresh.current.from.host refl refl;
    resizing = λ x w seq q blocks f e changing can c. bare _ w x _ _ e refl changing.fresh.current.from.host refl refl;
    removing = λ x w seq q f e changing c. bare _ w x _ _ e refl changing.fresh.current.from.host refl refl;
  })
