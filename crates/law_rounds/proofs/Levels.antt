-- One delivery without a turn, of an item of a generation: what is known of the others stays known, and the new ones are of the next.
use Rattle.std.proofs.Common.{◌≡◌, ◌≢◌, ◌≤◌, ℕ, ◌==◌, ◌&&◌, Bool, true, false, zero, suc, pred, List, [], ◌∷◌, Option, Some, None, refl, sym, ap}
use Rattle.std.proofs.Common.{subst, ◌∙◌, arith, inl, inr}
use Rattle.std.specs.Prelude.{slice_get}
use Rattle.std.proofs.lemmas.Bool.{and_parts}
use Rattle.nq_base.specs.declared.Request.{Request}
use Rattle.nq_base.specs.declared.Row.{Row}
use Rattle.nq_base.specs.declared.Tag.{Tag}
use Rattle.nq_base.specs.declared.Who.{Who}
use Rattle.nq_model.specs.protocol.Client.{Client}
use Rattle.nq_model.specs.protocol.Hear.{wants_of}
use Rattle.nq_model.specs.protocol.Message.{Message, Packet, call, reply, error}
use Rattle.nq_model.specs.protocol.Server.{Server, ServerStep, to_host}
use Rattle.nq_model.specs.protocol.Table.{find_row, drop_row}
use Rattle.nq_model.specs.protocol.World.{World, from_host}
use Rattle.walk_steps.proofs.Packets.{not-both}
use Rattle.walk_steps.proofs.Rows.{same-number}
use Rattle.law_rounds.proofs.Asked.{is_taken, rows_without, writes_for, same-question, Vacates}
use Rattle.law_rounds.proofs.ClientSteps.{CameOf, nothing, gives_up, asks_again}
use Rattle.law_rounds.proofs.Energy.{energy, wish, tame-energy}
use Rattle.law_rounds.proofs.Facts.{wants_in, Facts}
use Rattle.law_rounds.proofs.Forms.{Agree, IsFormed, to_client, alone, paired, HasGoodRow, NoticeIsGood, PairIsGood, Fits, notice_weight, pair_weight}
use Rattle.law_rounds.proofs.Forms.{item_weight, weight_of}
use Rattle.law_rounds.proofs.GoodRows.{good-same}
use Rattle.law_rounds.proofs.Items.{Item, one, pair, Each, IsSentAs}
use Rattle.law_rounds.proofs.RowSteps.{tame-dropped}
use Rattle.law_rounds.proofs.ServerSteps.{taken-row, without-others}

-- a request that wants a lease on a file wishes it
pub wish-of : (file : ℕ) (r : Request) → wants_of file r ≡ true → wish (Some r) ≡ Some file
wish-of file (Request.Read who q f block (Some want)) e = ap Some (same-number f file (and_parts (f == file) true e).0)
wish-of file (Request.Read who q f block None) e = absurd (no (f == file) e)
  where
    no : (b : Bool) → (b && false) ≡ true → ⊥
    no true g = cc
    no false g = cc
wish-of file (Request.GetLease who f want) e = ap Some (same-number f file e)
wish-of file other e = absurd (cc)

module _ (hosts : ℕ) (asks : ℕ → Option Request) where
  -- good rows stay good
  abbrev pub KeepsGood : Server → Server → Type 0
  KeepsGood s v = (file host : ℕ) (who : Who) (tag : Tag) (r : Request) → asks host ≡ Some r → wants_of file r ≡ true → HasGoodRow hosts asks s file
      host who tag r → HasGoodRow hosts asks v file host who tag r

  pub notice-keeps : (s v : Server) → KeepsGood s v → (i : Item) → NoticeIsGood hosts asks s i → NoticeIsGood hosts asks v i
  notice-keeps s v keeps i good k host x file who tag r is asked wants = keeps file host who tag r asked wants (good k host x file who tag r is asked wants)

  pair-keeps-good : (s v : Server) → KeepsGood s v → (i : Item) → IsFormed hosts asks i → PairIsGood hosts asks s i → PairIsGood hosts asks v i
  pair-keeps-good s v keeps i (to_client k host m e) good n h x y file who tag r is = absurd (let bad : one k (to_host host m) ≡ pair n h x y file who
      tag r = sym e ∙ is in cc)
  pair-keeps-good s v keeps i (alone k host z f w g e from below off) good n h x y file who tag r is =
      absurd (let bad : one k (from_host host (call z (Request.Vacated w f g))) ≡ pair n h x y file who tag r = sym e ∙ is in cc)
  pair-keeps-good s v keeps i (paired k host a b f w g q e from below asked wants) good n h x y file who tag r is =
      let same : pair k host a b f w g q ≡ pair n h x y file who tag r = sym e ∙ is in
      let one_host : host ≡ h = cc in
      let one_file : f ≡ file = cc in
      let one_request : q ≡ r = cc in
      keeps file h who tag r (ap asks (sym one_host) ∙ asked ∙ ap Some one_request) (subst (λ z. wants_of file z ≡ true) one_request
      (subst (λ z. wants_of z q ≡ true) one_file wants)) (good n h x y file who tag r is)

  pub fits-keep : (level : ℕ) (s v : Server) → KeepsGood s v → (i : Item) → Fits hosts asks level s i → Fits hosts asks level v i
  fits-keep zero s v keeps i f = (f.0, notice-keeps s v keeps i f.1, pair-keeps-good s v keeps i f.0 f.2)
  fits-keep (suc zero) s v keeps i f = (f.0, notice-keeps s v keeps i f.1)
  fits-keep (suc (suc zero)) s v keeps i f = f
  fits-keep (suc (suc (suc level))) s v keeps i f = f

  pub keep-self : (s : Server) → KeepsGood s s
  keep-self s file host who tag r asked wants good = good

  -- where nothing is known but the form
  pub fits-loose : (level : ℕ) (s v : Server) (i : Item) → Fits hosts asks (suc (suc level)) s i → Fits hosts asks (suc (suc level)) v i
  fits-loose zero s v i f = f
  fits-loose (suc level) s v i f = f

  pub form-of : (level : ℕ) (s : Server) (i : Item) → level ≤ 2 → Fits hosts asks level s i → IsFormed hosts asks i
  form-of zero s i few f = f.0
  form-of (suc zero) s i few f = f.0
  form-of (suc (suc zero)) s i few f = f
  form-of (suc (suc (suc level))) s i few f = absurd (omega arith)

  -- what the server sends fits the next generation
  pub sends-fit : (level : ℕ) (s : Server) (i : Item) → level ≤ 2 → IsFormed hosts asks i → NoticeIsGood hosts asks s i → PairIsGood hosts asks s i
      → Fits hosts asks level s i
  sends-fit zero s i few a b c = (a, b, c)
  sends-fit (suc zero) s i few a b c = (a, b)
  sends-fit (suc (suc zero)) s i few a b c = a
  sends-fit (suc (suc (suc level))) s i few a b c = absurd (omega arith)

  no-notice : (s : Server) (k host x file : ℕ) (who : Who) (tag : Tag) → NoticeIsGood hosts asks s
      (one k (from_host host (call x (Request.Vacated who file tag))))
  no-notice s k host x file who tag n h z f w g r is asked wants = let same : from_host host (call x (Request.Vacated who file tag))
      ≡ to_host h (call z (Request.Evicted w f g)) = cc in absurd (not-both host h (call x (Request.Vacated who file tag))
      (call z (Request.Evicted w f g)) same)

  no-pair : (s : Server) (k : ℕ) (p : Packet) → PairIsGood hosts asks s (one k p)
  no-pair s k p n h x y file who tag r is = absurd (cc)

  pair-no-notice : (s : Server) (k host x y file : ℕ) (who : Who) (tag : Tag) (q : Request) → NoticeIsGood hosts asks s (pair k host x y file who tag q)
  pair-no-notice s k host x y file who tag q n h z f w g r is asked wants = absurd (cc)

  pub pred-small : (level : ℕ) → level ≤ 3 → pred level ≤ 2
  pred-small zero small = omega arith
  pred-small (suc level) small = omega arith

  -- what a client sends does too
  pub came-fits : (level few : ℕ) → level ≤ 3 → (turns : Client → ℕ) (w : World) (facts : Facts hosts few turns w) (agree : Agree hosts asks w)
      (k host : ℕ) (m : Message) (new : List Item) → CameOf hosts few turns asks w facts agree host m new → Fits hosts asks level w.server
      (one k (to_host host m)) → Each (Fits hosts asks (pred level) w.server) new
  came-fits level few small turns w facts agree k host m new (nothing is) f = subst (Each (Fits hosts asks (pred level) w.server)) (sym is) tt
  came-fits level few small turns w facts agree k host m new (gives_up n x z file who tag heard is from below off) f =
      subst (Each (Fits hosts asks (pred level) w.server)) (sym is) (
        sends-fit (pred level) w.server _ (pred-small level small) (alone n host x file who tag refl from below off) (no-notice w.server n host x file
            who tag) (no-pair w.server n _),
        tt,
      )
  came-fits level few small turns w facts agree k host m new (asks_again n x y z file who tag r heard is from below asked wants) f =
      subst (Each (Fits hosts asks (pred level) w.server)) (sym is) (by level small f, tt)
    where
      formed : IsFormed hosts asks (pair n host x y file who tag r)
      formed = paired n host x y file who tag r refl from below asked wants

      good : NoticeIsGood hosts asks w.server (one k (to_host host m)) → PairIsGood hosts asks w.server (pair n host x y file who tag r)
      good notice n2 h x2 y2 f2 w2 g2 q e =
          let one_host : host ≡ h = cc in
          let one_file : file ≡ f2 = cc in
          let one_who : who ≡ w2 = cc in
          let one_tag : tag ≡ g2 = cc in
          let one_request : r ≡ q = cc in
          let there = notice k host z file who tag r (ap (λ mm. one k (to_host host mm)) heard) asked wants in
          subst (λ v. HasGoodRow hosts asks w.server f2 h w2 g2 v) one_request (subst (λ v. HasGoodRow hosts asks w.server f2 h w2 v r) one_tag
          (subst (λ v. HasGoodRow hosts asks w.server f2 h v tag r) one_who (subst (λ v. HasGoodRow hosts asks w.server f2 v who tag r) one_host
          (subst (λ v. HasGoodRow hosts asks w.server v host who tag r) one_file there))))

      by : (l : ℕ) → l ≤ 3 → Fits hosts asks l w.server (one k (to_host host m)) → Fits hosts asks (pred l) w.server (pair n host x y file who tag r)
      by zero few_left g = (formed, pair-no-notice w.server n host x y file who tag r, good g.1)
      by (suc zero) few_left g = (formed, pair-no-notice w.server n host x y file who tag r, good g.1)
      by (suc (suc zero)) few_left g = (formed, pair-no-notice w.server n host x y file who tag r)
      by (suc (suc (suc zero))) few_left g = formed
      by (suc (suc (suc (suc l)))) few_left g = absurd (omega arith)

-- ---- a VACATED alone

module _ (hosts few : ℕ) (turns : Client → ℕ) (asks : ℕ → Option Request) (w : World) (facts : Facts hosts few turns w) (file host : ℕ) (who : Who)
    (tag : Tag) (from : who.host ≡ host) (off : wants_in file (asks host) ≡ false) (t : ServerStep) (gone : Vacates w.server who file tag t) where
  abbrev is_gone : Bool
  is_gone = is_taken who tag (find_row file who.host w.server.table.rows)

  -- whoever waits for a row finds it elsewhere
  apart : (f h : ℕ) → wants_in f (asks h) ≡ true → f ≡ file → h ≢ who.host
  apart f h on at by = let bad : wants_in f (asks h) ≡ false = ap (λ g. wants_in g (asks h)) at ∙ ap (λ n. wants_in file (asks n)) (by ∙ from)
      ∙ off in let no : true ≡ false = sym on ∙ bad in cc

  pub alone-look : (f h : ℕ) → wants_in f (asks h) ≡ true → find_row f h t.server.table.rows ≡ find_row f h w.server.table.rows
  alone-look f h on = ap (find_row f h) gone.rows ∙ without-others w.server.table.rows file who is_gone f h (apart f h on)

  pub alone-keeps : KeepsGood hosts asks w.server t.server
  alone-keeps f h wh tg r asked wants (inr none) = inr (same-question w.server t.server h r gone.same ∙ none)
  alone-keeps f h wh tg r asked wants (inl good) = inl (good-same w.server.table.rows t.server.table.rows f h wh tg (writes_for r)
      (alone-look f h (ap (wants_in f) asked ∙ wants)) good)

  pub alone-energy : ((row : Row) → find_row file host w.server.table.rows ≡ Some row → row.tag ≡ tag → row.evicting ≡ true)
      → energy hosts asks t.server.table.rows ≤ energy hosts asks w.server.table.rows
  alone-energy named = by is_gone refl
    where
      by : (b : Bool) → is_gone ≡ b → energy hosts asks t.server.table.rows ≤ energy hosts asks w.server.table.rows
      by false e = let is : t.server.table.rows ≡ w.server.table.rows = gone.rows ∙ ap (rows_without who file w.server.table.rows) e in
          let same : energy hosts asks t.server.table.rows ≡ energy hosts asks w.server.table.rows = ap (energy hosts asks) is in omega arith
      by true e =
          let k = taken-row w.server.table.rows file who.host who tag e in
          let there : find_row file host w.server.table.rows ≡ Some k.row = subst (λ h. find_row file h w.server.table.rows ≡ Some k.row) from k.there in
          let going = named k.row there k.latest in
          let kind = facts.going file host k.row there going in
          let is : t.server.table.rows ≡ drop_row file who.host w.server.table.rows = gone.rows ∙ ap (rows_without who file w.server.table.rows) e in
          subst (λ rows. energy hosts asks rows ≤ energy hosts asks w.server.table.rows) (sym is) (tame-energy hosts asks w.server.table.rows _
          (tame-dropped hosts w.server.table.rows file who.host k.row k.there kind))

-- ---- weights of what stays under way

module _ (hosts few : ℕ) (turns : Client → ℕ) (asks : ℕ → Option Request) (w : World) (facts : Facts hosts few turns w) (after : List Row) where
  abbrev rows : List Row
  rows = w.server.table.rows

  -- rows that are to go are there as before, wherever a host waits
  abbrev pub StillWaiting : Type 0
  StillWaiting = (file host : ℕ) (who : Who) (tag : Tag) (row : Row) → wants_in file (asks host) ≡ true → find_row file host rows ≡ Some row
      → row.evicting ≡ true → is_taken who tag (Some row) ≡ true → is_taken who tag (find_row file host after) ≡ true

  notice-less : (a b c : Bool) → (a ≡ true → b ≡ true → c ≡ true) → notice_weight few a c ≤ notice_weight few a b
  notice-less true true true f = omega arith
  notice-less true false true f = omega arith
  notice-less true false false f = omega arith
  notice-less true true false f = let bad : false ≡ true = f refl refl in absurd (cc)
  notice-less false b c f = omega arith

  pair-less : (b c : Bool) → (b ≡ true → c ≡ true) → pair_weight few c ≤ pair_weight few b
  pair-less true true f = omega arith
  pair-less false true f = omega arith
  pair-less false false f = omega arith
  pair-less true false f = let bad : false ≡ true = f refl in absurd (cc)

  still : StillWaiting → (file host : ℕ) (who : Who) (tag : Tag) → ((row : Row) → find_row file host rows ≡ Some row → row.tag ≡ tag → row.evicting
      ≡ true) → wants_in file (asks host) ≡ true → is_taken who tag (find_row file host rows) ≡ true → is_taken who tag (find_row file host after) ≡ true
  still keeps file host who tag named on e = let k = taken-row rows file host who tag e in keeps file host who tag k.row on k.there
      (named k.row k.there k.latest) k.taken

  message-less : StillWaiting → (k host : ℕ) (m : Message) → slice_get w.packets k ≡ Some (to_host host m) → item_weight few asks after
      (one k (to_host host m)) ≤ item_weight few asks rows (one k (to_host host m))
  message-less keeps k host (call x (Request.Evicted who file tag)) sent = notice-less (wants_in file (asks host)) _ _ (λ on e. still keeps file host
      who tag (λ row there latest. facts.noticed k host x file who tag row sent there latest) on e)
  message-less keeps k host (call x other) sent = omega arith
  message-less keeps k host (reply x a) sent = omega arith
  message-less keeps k host (error x e) sent = omega arith

  pub item-less : StillWaiting → (i : Item) → IsFormed hosts asks i → IsSentAs w.packets i → item_weight few asks after i ≤ item_weight few asks rows i
  item-less keeps i (to_client k host m e) sent = subst (λ j. item_weight few asks after j ≤ item_weight few asks rows j) (sym e)
      (message-less keeps k host m (subst (IsSentAs w.packets) e sent))
  item-less keeps i (alone k host x file who tag e from below off) sent = subst (λ j. item_weight few asks after j ≤ item_weight few asks rows j)
      (sym e) (omega arith)
  item-less keeps i (paired k host x y file who tag r e from below asked wants) sent =
      let both = subst (IsSentAs w.packets) e sent in
      subst (λ j. item_weight few asks after j ≤ item_weight few asks rows j) (sym e) (pair-less _ _ (λ taken. still keeps file host who tag
      (λ row there latest. facts.vacated k host x file who tag row both.0 there latest) (ap (wants_in file) asked ∙ wants) taken))

  pub items-less : StillWaiting → (items : List Item) → Each (IsFormed hosts asks) items → Each (IsSentAs w.packets) items → weight_of few asks after
      items ≤ weight_of few asks rows items
  items-less keeps [] f s = omega arith
  items-less keeps (i ∷ items) f s = let a = item-less keeps i f.0 s.0 in let rest = items-less keeps items f.1 s.1 in omega arith
