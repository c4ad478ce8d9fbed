-- What is under way once a delivery goes on without turns: notices and replies, VACATED, and VACATED with the request that it makes room for.
use Rattle.std.proofs.Common.{◌≡◌, ◌≤◌, ◌<◌, ◌⊎◌, ℕ, ◌+◌, ◌*◌, ◌++◌, Bool, true, false, zero, suc, List, [], ◌∷◌, Option, Some, None, length, arith}
use Rattle.std.specs.Prelude.{slice_get}
use Rattle.nq_base.specs.declared.Party.{Party}
use Rattle.nq_base.specs.declared.Request.{Request}
use Rattle.nq_base.specs.declared.Row.{Row}
use Rattle.nq_base.specs.declared.Tag.{Tag}
use Rattle.nq_base.specs.declared.Who.{Who}
use Rattle.nq_model.specs.protocol.Client.{Client}
use Rattle.nq_model.specs.protocol.Hear.{wants_of}
use Rattle.nq_model.specs.protocol.Message.{Message, call, reply, error}
use Rattle.nq_model.specs.protocol.Server.{Server, to_host}
use Rattle.nq_model.specs.protocol.Table.{find_row}
use Rattle.nq_model.specs.protocol.World.{World, from_host}
use Rattle.law_rounds.proofs.Asked.{is_taken, question_of, writes_for}
use Rattle.law_rounds.proofs.Facts.{asked_for, wants_in}
use Rattle.law_rounds.proofs.GoodRows.{IsGood}
use Rattle.law_rounds.proofs.Items.{Item, one, pair, IsSingle}

module _ (hosts : ℕ) (asks : ℕ → Option Request) where
  -- the clients ask so for their calls
  abbrev pub Agree : World → Type 0
  Agree w = (host : ℕ) (c : Client) → slice_get w.clients host ≡ Some c → asked_for c.ticket ≡ asks host

  -- an item of a delivery without turns
  pub data IsFormed (i : Item) : Type 0 where
    to_client : (k host : ℕ) (m : Message) → i ≡ one k (to_host host m) → IsFormed i
    alone : (k host x file : ℕ) (who : Who) (tag : Tag) → i ≡ one k (from_host host (call x (Request.Vacated who file tag))) → who.host ≡ host
        → host < hosts → wants_in file (asks host) ≡ false → IsFormed i
    paired : (k host x y file : ℕ) (who : Who) (tag : Tag) (r : Request) → i ≡ pair k host x y file who tag r → who.host ≡ host → host < hosts
        → asks host ≡ Some r → wants_of file r ≡ true → IsFormed i

  -- the row of a request that a notice or a VACATED makes send again: a good one, unless the server does not ask its lease table
  abbrev pub HasGoodRow : Server → (file host : ℕ) → Who → Tag → Request → Type 0
  HasGoodRow s file host who tag r = IsGood s.table.rows file host who tag (writes_for r) ⊎ (question_of s host r ≡ None)

  abbrev pub NoticeIsGood : Server → Item → Type 0
  NoticeIsGood s i = (k host x file : ℕ) (who : Who) (tag : Tag) (r : Request) → i ≡ one k (to_host host (call x (Request.Evicted who file tag)))
      → asks host ≡ Some r → wants_of file r ≡ true → HasGoodRow s file host who tag r

  abbrev pub PairIsGood : Server → Item → Type 0
  PairIsGood s i = (k host x y file : ℕ) (who : Who) (tag : Tag) (r : Request) → i ≡ pair k host x y file who tag r → HasGoodRow s file host who tag r

  -- what is known of items, by how many generations are still to be delivered
  abbrev pub Fits : (level : ℕ) → Server → Item → Type 0
  Fits zero s i = IsFormed i × NoticeIsGood s i × PairIsGood s i
  Fits (suc zero) s i = IsFormed i × NoticeIsGood s i
  Fits (suc (suc zero)) s i = IsFormed i
  Fits (suc (suc (suc level))) s i = IsSingle i

-- ---- weights

-- a request that may be put off weighs so much, where a step sends so many packets
abbrev pub heavy : (few : ℕ) → ℕ
heavy few = 5 * few + 3

abbrev pub notice_weight : (few : ℕ) (wanted taken : Bool) → ℕ
notice_weight few true true = 4
notice_weight few true false = heavy few + 1
notice_weight few false taken = 2

abbrev pub pair_weight : (few : ℕ) (taken : Bool) → ℕ
pair_weight few true = 3
pair_weight few false = heavy few

module _ (few : ℕ) (asks : ℕ → Option Request) (rows : List Row) where
  abbrev pub request_weight : (host : ℕ) → Request → ℕ
  request_weight host (Request.Evicted who file tag) = notice_weight few (wants_in file (asks host)) (is_taken who tag (find_row file host rows))
  request_weight host other = 1

  abbrev pub message_weight : (host : ℕ) → Message → ℕ
  message_weight host (call x r) = request_weight host r
  message_weight host (reply x a) = 1
  message_weight host (error x e) = 1

  abbrev pub party_weight : Party → Message → ℕ
  party_weight Party.Server m = 1
  party_weight (Party.Client host) m = message_weight host m

  abbrev pub item_weight : Item → ℕ
  item_weight (one k p) = party_weight p.to p.message
  item_weight (pair k host x y file who tag r) = pair_weight few (is_taken who tag (find_row file host rows))

  abbrev pub weight_of : List Item → ℕ
  weight_of [] = 0
  weight_of (i ∷ items) = item_weight i + weight_of items

  pub weight-append : (xs ys : List Item) → weight_of (xs ++ ys) ≡ weight_of xs + weight_of ys
  weight-append [] ys = omega arith
  weight-append (x ∷ xs) ys = let rest = weight-append xs ys in omega arith

  notice-some : (a b : Bool) → (1 ≤ notice_weight few a b) × (notice_weight few a b ≤ heavy few + 5)
  notice-some true true = (omega arith, omega arith)
  notice-some true false = (omega arith, omega arith)
  notice-some false b = (omega arith, omega arith)

  pair-some : (b : Bool) → (2 ≤ pair_weight few b) × (pair_weight few b ≤ heavy few + 5)
  pair-some true = (omega arith, omega arith)
  pair-some false = (omega arith, omega arith)

  request-some : (host : ℕ) (r : Request) → (1 ≤ request_weight host r) × (request_weight host r ≤ heavy few + 5)
  request-some host (Request.Evicted who file tag) = notice-some _ _
  request-some host other = (omega arith, omega arith)

  message-some : (host : ℕ) (m : Message) → (1 ≤ message_weight host m) × (message_weight host m ≤ heavy few + 5)
  message-some host (call x r) = request-some host r
  message-some host (reply x a) = (omega arith, omega arith)
  message-some host (error x e) = (omega arith, omega arith)

  party-some : (to : Party) (m : Message) → (1 ≤ party_weight to m) × (party_weight to m ≤ heavy few + 5)
  party-some Party.Server m = (omega arith, omega arith)
  party-some (Party.Client host) m = message-some host m

  pub item-some : (i : Item) → (1 ≤ item_weight i) × (item_weight i ≤ heavy few + 5)
  item-some (one k p) = party-some p.to p.message
  item-some (pair k host x y file who tag r) = let some = pair-some (is_taken who tag (find_row file host rows)) in (let a = some.0 in omega arith, some.1)

  pub weight-least : (items : List Item) → length items ≤ weight_of items
  weight-least [] = omega arith
  weight-least (i ∷ items) = let a = (item-some i).0 in let rest = weight-least items in omega arith

  pub weight-most : (items : List Item) → weight_of items ≤ (heavy few + 5) * length items
  weight-most [] = omega arith
  weight-most (i ∷ items) =
      let a = (item-some i).1 in
      let rest = weight-most items in
      let more : (heavy few + 5) * suc (length items) ≡ (heavy few + 5) + (heavy few + 5) * length items = one-more (heavy few + 5) (length items) in
      omega arith
    where
      one-more : (b n : ℕ) → b * suc n ≡ b + b * n
      one-more b n = grind arith
