-- Datagrams keep their bytes when further ones are added behind them.
use Rattle.std.proofs.Common.{◌≡◌, ℕ, ◌+◌, ◌*◌, ◌-◌, ◌≤◌, ◌<◌, ◌^◌, List, [], ◌∷◌, ◌++◌, length, drop, map, refl, ap, sym, ◌∙◌, arith}
use Rattle.std.proofs.lemmas.List.{take_all, take-append-le, drop-append-le, drop_at, length-drop, map-append, length-append, append_assoc}
use Rattle.std.proofs.lemmas.List.Elements.{All-head, All-tail}
use Rattle.std.specs.List.{All}
use Rattle.nq_link.specs.Marks.{between, datagram_at, IsWithin}
use Rattle.nq_xdr.specs.Words.{repeats}
use Rattle.nq_link.specs.declared.net.packets.Mark.{Mark}

-- the bytes at a place, whatever stands behind all
cut_same : (bytes more : List ℕ) (start end : ℕ) → start ≤ end → end ≤ length bytes
    → between (bytes ++ more) start end ≡ between bytes start end
cut_same bytes more start end ordered within =
    rw (drop-append-le start bytes more (omega arith))
    (take-append-le (end - start) (drop start bytes) more (rw (length-drop start bytes) (omega arith)))

same_datagram : (bytes more : List ℕ) (mark : Mark) → IsWithin bytes mark → datagram_at (bytes ++ more) mark ≡ datagram_at bytes mark
same_datagram bytes more mark is =
    let before = is.before in
    let behind = is.behind in
    let within = is.within in
    let front = cut_same bytes more mark.start mark.middle before (omega arith) in
    let back = cut_same bytes more mark.middle mark.end behind within in
    ap (λ (cut : List ℕ). record {
      sender = mark.sender;
      to = mark.to;
      bytes = cut ++ (repeats mark.times mark.word ++ between (bytes ++ more)
          mark.middle mark.end);
    }) front
    ∙ ap (λ (cut : List ℕ). record {
      sender = mark.sender;
      to = mark.to;
      bytes = between bytes mark.start mark.middle ++ (repeats mark.times mark.word
          ++ cut);
    }) back

same_datagrams : (bytes more : List ℕ) (marks : List Mark) → All (IsWithin bytes) marks
    → map (datagram_at (bytes ++ more)) marks ≡ map (datagram_at bytes) marks
same_datagrams bytes more [] each = refl
same_datagrams bytes more (mark ∷ marks) each =
    let first = same_datagram bytes more mark (All-head (IsWithin bytes) mark marks each) in
    let later = same_datagrams bytes more marks (All-tail (IsWithin bytes) mark marks each) in
    ap (λ d. d ∷ map (datagram_at (bytes ++ more)) marks) first ∙ ap (λ ds. datagram_at bytes mark ∷ ds) later

-- the bytes that were added
cut_new : (bytes more : List ℕ) (start end : ℕ) → start ≡ length bytes → end ≡ length (bytes ++ more)
    → between (bytes ++ more) start end ≡ more
cut_new bytes more start end at to =
    rw (drop_at bytes more start (sym at))
    (take_all (end - start) more (let long = length-append bytes more in omega arith))

-- the datagram that was added, and where it stands
pub record Added (bytes front back : List ℕ) (mark : Mark) : Type 0 where
  pub four : length mark.word ≡ 4
  pub start : mark.start ≡ length bytes
  pub middle : mark.middle ≡ length (bytes ++ front)
  pub end : mark.end ≡ length ((bytes ++ front) ++ back)
  pub short : length front + 4 * mark.times + length back < 2 ^ 63

new_datagram : (bytes front back all : List ℕ) (mark : Mark) → Added bytes front back mark → all ≡ front ++ (repeats mark.times mark.word ++ back)
    → datagram_at ((bytes ++ front) ++ back) mark ≡ record { sender = mark.sender; to = mark.to; bytes = all }
new_datagram bytes front back all mark added is =
    let start = added.start in
    let middle = added.middle in
    let long = length-append bytes front in
    let first = cut_same (bytes ++ front) back mark.start mark.middle (omega (arith, start, middle, long)) (omega (arith, middle))
    ∙ cut_new bytes front mark.start mark.middle start middle in
    let second = cut_new (bytes ++ front) back mark.middle mark.end middle added.end in
    ap (λ (cut : List ℕ). record {
      sender = mark.sender;
      to = mark.to;
      bytes = cut ++ (repeats mark.times mark.word ++ between ((bytes ++ front)
          ++ back) mark.middle mark.end);
    }) first
    ∙ ap (λ (cut : List ℕ). record { sender = mark.sender; to = mark.to; bytes = front ++ (repeats mark.times mark.word ++ cut) }) second
    ∙ ap (λ (bytes : List ℕ). record { sender = mark.sender; to = mark.to; bytes = bytes }) (sym is)

-- the datagrams after one more was added
pub datagrams_pushed : (bytes front back all : List ℕ) (marks : List Mark) (mark : Mark) → All (IsWithin bytes) marks → Added bytes front back mark
    → all ≡ front ++ (repeats mark.times mark.word ++ back)
    → map (datagram_at ((bytes ++ front) ++ back)) (marks ++ mark ∷ [])
    ≡ map (datagram_at bytes) marks ++ record { sender = mark.sender; to = mark.to; bytes = all } ∷ []
datagrams_pushed bytes front back all marks mark each added is =
    let same = ap (λ bs. map (datagram_at bs) marks) (append_assoc bytes front back) ∙ same_datagrams bytes (front ++ back) marks each in
    map-append (datagram_at ((bytes ++ front) ++ back)) marks (mark ∷ [])
    ∙ ap (λ ds. ds ++ datagram_at ((bytes ++ front) ++ back) mark ∷ []) same
    ∙ ap (λ d. map (datagram_at bytes) marks ++ d ∷ []) (new_datagram bytes front back all mark added is)
