-- A packet that is the next of its link may as well stand first of all: who hopes goes on to hope, and what is clear stays clear.
use Rattle.std.proofs.Common.{◌⊎◌, ◌≡◌, ℕ, ◌++◌, Bool, false, List, [], ◌∷◌, refl, sym, ap, ◌∙◌, inl, inr}
use Rattle.nq_base.specs.declared.Row.{Row}
use Rattle.nq_model.specs.protocol.Client.{Client, Ticket}
use Rattle.nq_model.specs.protocol.Message.{Packet}
use Rattle.nq_model.specs.protocol.World.{World}
use Rattle.law_rounds.proofs.Next.{OneLink}
use Rattle.walk_steps.proofs.Packets.{In, in-append, in-left, in-right}
use Rattle.nq_laws.proofs.Hope.{Cancels, PutsOff, Safe, Hopeful, Goes, told, waits, vacated, Passes, goes, hoped, Clear}
use Rattle.nq_laws.proofs.UnderWay.{Moves, all_move, all_but}

-- who hopes in one queue does so in another, and what is clear is so
pub record Fronts (w : World) (q r : List Packet) : Type 0 where
  pub hopes : (h : ℕ) → Hopeful w.clients q h → Hopeful w.clients r h
  pub clear : (g : Bool) (host : ℕ) → Clear g w.server.table.rows w.clients q host → Clear g w.server.table.rows w.clients r host

safe-front : (h : ℕ) (c : Client) (t : Ticket) (y : Packet) (before behind : List Packet) → ((z : Packet) → In before z → OneLink z y → ⊥)
    → Safe h c t (before ++ y ∷ behind) → Safe h c t (y ∷ (before ++ behind))
safe-front h c t y [] behind apart s = s
safe-front h c t y (z ∷ before) behind apart (inl k) = inr (never, inl k)
  where
    never : PutsOff h c t y → ⊥
    never o = apart z (inl refl) (record {
      sender = ap (λ (x : Packet). x.sender) k.is ∙ sym (ap (λ (x : Packet). x.sender) o.is);
      to = ap (λ (x : Packet). x.to) k.is ∙ sym (ap (λ (x : Packet). x.to) o.is);
    })
safe-front h c t y (z ∷ before) behind apart (inr s) = by (safe-front h c t y before behind (λ x i. apart x (inr i)) s.1)
  where
    by : Cancels h c t y ⊎ ((PutsOff h c t y → ⊥) × Safe h c t (before ++ behind)) → Safe h c t (y ∷ z ∷ (before ++ behind))
    by (inl k) = inl k
    by (inr r) = inr (r.0, inr (s.0, r.1))

in-front : (y z : Packet) (before behind : List Packet) → In (before ++ y ∷ behind) z → In (y ∷ (before ++ behind)) z
in-front y z before behind i = by (in-append before (y ∷ behind) z i)
  where
    by : In before z ⊎ ((y ≡ z) ⊎ In behind z) → (y ≡ z) ⊎ In (before ++ behind) z
    by (inl early) = inr (in-left before behind z early)
    by (inr (inl same)) = inl same
    by (inr (inr late)) = inr (in-right before behind z late)

pub to-front : (w : World) (y : Packet) (before behind : List Packet) → ((z : Packet) → In before z → OneLink z y → ⊥)
    → Fronts w (before ++ y ∷ behind) (y ∷ (before ++ behind))
to-front w y before behind apart = record {
  hopes = λ h x. record {
    client = x.client;
    under = x.under;
    at = x.at;
    opened = x.opened;
    unpaused = x.unpaused;
    safe = λ t asks. safe-front h x.client t y before behind apart (x.safe t asks);
  };
  clear = λ g host all c u f at has file h row way. passes g f h row (all c u f at has file h row way);
}
  where
    going : (f h : ℕ) (row : Row) → Goes w.clients (before ++ y ∷ behind) f h row → Goes w.clients (y ∷ (before ++ behind)) f h row
    going f h row (told n i) = told n (in-front y _ before behind i)
    going f h row (waits c n at noted tag) = waits c n at noted tag
    going f h row (vacated n i) = vacated n (in-front y _ before behind i)

    passes : (g : Bool) (f h : ℕ) (row : Row) → Passes g w.clients (before ++ y ∷ behind) f h row → Passes g w.clients (y ∷ (before ++ behind)) f h row
    passes g f h row (goes may to_go x) = goes may to_go (going f h row x)
    passes g f h row (hoped k) = hoped (record {
      hope = record {
        client = k.hope.client;
        under = k.hope.under;
        at = k.hope.at;
        opened = k.hope.opened;
        unpaused = k.hope.unpaused;
        safe = λ t asks. safe-front h k.hope.client t y before behind apart (k.hope.safe t asks);
      };
      wished = k.wished;
    })

-- so a step leaves of the one queue what it leaves of the other
pub moves-from : (w v : World) (q r next : List Packet) → Fronts w q r → Moves w v r next → Moves w v q next
moves-from w v q r next f (all_move on clear) = all_move (λ h x. on h (f.hopes h x)) (λ g host x. clear g host (f.clear g host x))
moves-from w v q r next f (all_but b others clear now hope) = all_but b (λ h apart x. others h apart (f.hopes h x))
    (λ g host x. clear g host (f.clear g host x)) now (λ x. hope (f.clear false b x))
