-- What the server sends in a delivery: notices for rows that are to go, replies and errors, each a light packet.
use Rattle.std.proofs.Common.{◌≡◌, ◌≤◌, ℕ, ◌+◌, ◌*◌, ◌==◌, ◌&&◌, ◌++◌, Bool, true, false, List, [], ◌∷◌, Option, Some, length, refl, sym, ap, subst}
use Rattle.std.proofs.Common.{◌∙◌, arith, inl, inr}
use Rattle.std.specs.Prelude.{slice_get}
use Rattle.std.proofs.lemmas.List.{length-append}
use Rattle.nq_base.specs.declared.Event.{Event}
use Rattle.nq_base.specs.declared.Party.{Party}
use Rattle.nq_base.specs.declared.Request.{Request}
use Rattle.nq_base.specs.declared.Row.{Row}
use Rattle.nq_base.specs.declared.Tag.{Tag}
use Rattle.nq_base.specs.declared.Who.{Who}
use Rattle.nq_model.specs.protocol.Client.{Client}
use Rattle.nq_model.specs.protocol.Message.{Packet, reply, error, datagram_of}
use Rattle.nq_model.specs.protocol.Server.{Server, ServerStep}
use Rattle.nq_model.specs.protocol.ServerStep.{receive}
use Rattle.nq_model.specs.protocol.Table.{find_row, same_tag}
use Rattle.nq_model.specs.protocol.World.{World, after_server, sending_host, deliver, deliver_to, step}
use Rattle.walk_steps.proofs.Packets.{In, in-get}
use Rattle.walk_steps.proofs.ServerSays.{IsSaid, said_reply, said_error, said_notice}
use Rattle.walk_steps.proofs.Worlds.{received-said}
use Rattle.walk_steps.proofs.Rows.{number-same}
use Rattle.law_rounds.proofs.Asked.{is_taken}
use Rattle.law_rounds.proofs.Facts.{wants_in, IsNamed, Facts}
use Rattle.law_rounds.proofs.Forms.{IsFormed, to_client, NoticeIsGood, PairIsGood, notice_weight, item_weight, weight_of}
use Rattle.law_rounds.proofs.GoodRows.{goes}
use Rattle.law_rounds.proofs.Items.{Item, one, Each, Adds, adds-ones, ones}

pub each-ones : (P : Item → Type 0) (n : ℕ) (sends : List Packet) → ((k : ℕ) (q : Packet) → In sends q → P (one k q)) → Each P (ones n sends)
each-ones P n [] f = tt
each-ones P n (q ∷ sends) f = (f n q (inl refl), each-ones P (n + 1) sends (λ k r i. f k r (inr i)))

named-taken : (rows : List Row) (host file : ℕ) (who : Who) (tag : Tag) → IsNamed rows host file who tag → is_taken who tag (find_row file host rows) ≡ true
named-taken rows host file who tag n = ap (is_taken who tag) n.there ∙ same
  where
    a : (n.row.who.inc == who.inc) ≡ true
    a = number-same n.row.who.inc who.inc (ap (λ (w : Who). w.inc) n.holder)

    b : (n.row.tag.boot == tag.boot) ≡ true
    b = number-same n.row.tag.boot tag.boot (ap (λ (t : Tag). t.boot) n.latest)

    c : (n.row.tag.number == tag.number) ≡ true
    c = number-same n.row.tag.number tag.number (ap (λ (t : Tag). t.number) n.latest)

    same : (n.row.who.inc == who.inc && same_tag n.row.tag tag) ≡ true
    same = rw (a, b, c) refl

module _ (hosts few : ℕ) (turns : Client → ℕ) (asks : ℕ → Option Request) (w : World) (facts : Facts hosts few turns w) (k : ℕ) (p : Packet)
    (sent : slice_get w.packets k ≡ Some p) (to : p.to ≡ Party.Server) where
  -- the step of the server
  abbrev pub t : ServerStep
  t = receive w.server (sending_host p.sender) (length w.packets) (datagram_of p.message)

  abbrev pub rows_then : List Row
  rows_then = t.server.table.rows

  abbrev pub came : List Item
  came = ones (length w.packets) t.sends

  pub adds : Adds w.packets t.sends came
  adds = adds-ones w.packets t.sends

  is-said : (q : Packet) → In t.sends q → IsSaid w.packets q
  is-said q i = received-said w p (in-get w.packets k p sent) to facts.holds q i

  formed : (n : ℕ) (q : Packet) → IsSaid w.packets q → IsFormed hosts asks (one n q)
  formed n q (said_reply host x a e is) = to_client n host (reply x a) (ap (one n) e)
  formed n q (said_error host x er e) = to_client n host (error x er) (ap (one n) e)
  formed n q (said_notice x row e) = to_client n row.who.host _ (ap (one n) e)

  pub new-formed : Each (IsFormed hosts asks) came
  new-formed = each-ones (IsFormed hosts asks) (length w.packets) t.sends (λ n q i. formed n q (is-said q i))

  one-same : (n m : ℕ) (q r : Packet) → one n q ≡ one m r → q ≡ r
  one-same n m q r e = cc

  good : (n : ℕ) (q : Packet) → In t.sends q → NoticeIsGood hosts asks t.server (one n q)
  good n q i m host x file who tag r is asked wants =
      let named = facts.marks k p q sent to i host x file who tag (one-same n m q _ is) in
      inl (goes named.row named.there (sym (ap (is_taken who tag) named.there) ∙ named-taken rows_then host file who tag named))

  pub new-good : Each (NoticeIsGood hosts asks t.server) came
  new-good = each-ones (NoticeIsGood hosts asks t.server) (length w.packets) t.sends good

  no-pair : (n : ℕ) (q : Packet) → PairIsGood hosts asks t.server (one n q)
  no-pair n q m host x y file who tag r is = absurd (cc)

  pub new-pairs : Each (PairIsGood hosts asks t.server) came
  new-pairs = each-ones (PairIsGood hosts asks t.server) (length w.packets) t.sends (λ n q i. no-pair n q)

  light-notice : (a b : Bool) → b ≡ true → notice_weight few a b ≤ 5
  light-notice true true e = omega arith
  light-notice true false e = absurd (cc)
  light-notice false b e = omega arith

  light : (n : ℕ) (q : Packet) → In t.sends q → IsSaid w.packets q → item_weight few asks rows_then (one n q) ≤ 5
  light n q i (said_reply host x a e is) = subst (λ z. item_weight few asks rows_then (one n z) ≤ 5) (sym e) (omega arith)
  light n q i (said_error host x er e) = subst (λ z. item_weight few asks rows_then (one n z) ≤ 5) (sym e) (omega arith)
  light n q i (said_notice x row e) =
      let named = facts.marks k p q sent to i row.who.host x row.file row.who row.tag e in
      subst (λ z. item_weight few asks rows_then (one n z) ≤ 5) (sym e) (light-notice (wants_in row.file (asks row.who.host)) _
      (named-taken rows_then row.who.host row.file row.who row.tag named))

  all-light : (n : ℕ) (sends : List Packet) → ((m : ℕ) (q : Packet) → In sends q → item_weight few asks rows_then (one m q) ≤ 5)
      → weight_of few asks rows_then (ones n sends) ≤ 5 * length sends
  all-light n [] f = omega arith
  all-light n (q ∷ sends) f = let a = f n q (inl refl) in let rest = all-light (n + 1) sends (λ m r i. f m r (inr i)) in omega arith

  grown : (deliver w k (Some p)).packets ≡ w.packets ++ t.sends
  unfolding after_server
  grown = subst (λ party. (deliver_to w k p party).packets ≡ w.packets ++ t.sends) (sym to) refl

  pub few-sent : length t.sends ≤ few
  few-sent =
      let all = facts.few_sent k in
      let is : (step w (Event.Deliver k)).packets ≡ w.packets ++ t.sends = ap (λ o. (deliver w k o).packets) sent ∙ grown in
      let both = length-append w.packets t.sends in
      let longer : length (step w (Event.Deliver k)).packets ≡ length (w.packets ++ t.sends) = ap (λ (ps : List Packet). length ps) is in
      omega arith

  pub new-light : weight_of few asks rows_then came ≤ 5 * few
  new-light =
      let a = all-light (length w.packets) t.sends (λ n q i. light n q i (is-said q i)) in
      let b = few-sent in
      omega arith
