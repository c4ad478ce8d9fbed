-- Where the bytes of a datagram stand among those of all: some before a word that is repeated, and some behind it.
use Rattle.std.specs.Prelude.{◌≡◌, ℕ, ◌≤◌, ◌<◌, ◌-◌, ◌+◌, ◌*◌, ◌^◌, ◌++◌, List, length, take, drop}
use Rattle.nq_link.specs.Packets.{Datagram}
use Rattle.nq_xdr.specs.Words.{repeats}
use Rattle.nq_link.specs.declared.net.packets.Mark.{Mark}

-- the bytes between two places
abbrev pub between : List ℕ → (start end : ℕ) → List ℕ
between bytes start end = take (end - start) (drop start bytes)

-- the datagram whose bytes stand there
abbrev pub datagram_at : List ℕ → Mark → Datagram
datagram_at bytes mark = record {
  sender = mark.sender;
  to = mark.to;
  bytes = between bytes mark.start mark.middle ++ (repeats mark.times mark.word ++ between bytes mark.middle mark.end);
}

-- the places are ones among the bytes, the word has four, and the datagram is no longer than bytes can be
pub record IsWithin (bytes : List ℕ) (mark : Mark) : Type 0 where
  pub four : length mark.word ≡ 4
  pub before : mark.start ≤ mark.middle
  pub behind : mark.middle ≤ mark.end
  pub within : mark.end ≤ length bytes
  pub short : (mark.end - mark.start) + 4 * mark.times < 2 ^ 63
