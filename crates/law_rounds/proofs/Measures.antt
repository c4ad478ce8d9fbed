-- A measure of what is left of a delivery: a power, times a weight.
use Rattle.std.proofs.Common.{◌≡◌, ◌≤◌, ℕ, ◌+◌, ◌*◌, ◌-◌, zero, suc, sym, subst, arith}
use Rattle.law_rounds.specs.DeliveryEnds.{power, growth}

pub times-more : (a b c : ℕ) → b ≤ c → a * b ≤ a * c
times-more zero b c few = omega arith
times-more (suc a) b c few =
    let rest = times-more a b c few in
    let one : suc a * b ≡ b + a * b = grind arith in
    let two : suc a * c ≡ c + a * c = grind arith in
    omega arith

pub times-less : (a b c : ℕ) → a ≤ b → a * c ≤ b * c
times-less a b c few =
    let more = times-more c a b few in
    let one : a * c ≡ c * a = grind arith in
    let two : b * c ≡ c * b = grind arith in
    omega arith

power-some : (b e : ℕ) → 1 ≤ b → 1 ≤ power b e
power-some b zero some = omega arith
power-some b (suc e) some =
    let rest = power-some b e some in
    let one = times-less 1 b (power b e) some in
    omega arith

power-more : (b d e : ℕ) → 1 ≤ b → power b d ≤ power b (e + d)
power-more b d zero some = let same : zero + d ≡ d = omega arith in subst (λ n. power b d ≤ power b n) (sym same) (omega arith)
power-more b d (suc e) some =
    let rest = power-more b d e some in
    let one = times-less 1 b (power b (e + d)) some in
    let same : suc e + d ≡ suc (e + d) = omega arith in
    subst (λ n. power b d ≤ power b n) (sym same) (omega arith)

pub power-above : (b d e : ℕ) → 1 ≤ b → d ≤ e → power b d ≤ power b e
power-above b d e some few = let more = power-more b d (e - d) some in let same : (e - d) + d ≡ e = omega arith in subst (λ n. power b d ≤ power b n) same more

-- what is left: by an exponent and a weight
abbrev pub left : (base exponent weight : ℕ) → ℕ
left base exponent weight = power base exponent * (weight + 1)

spread : (p v n : ℕ) → 1 ≤ p → p * (v + 1) + n ≤ p * ((v + n) + 1)
spread p v n some =
    let a : p * ((v + n) + 1) ≡ p * (v + 1) + p * n = grind arith in
    let b = times-less 1 p n some in
    omega arith

-- the weight falls by what is delivered
pub lighter : (b e w v n : ℕ) → 1 ≤ b → v + n ≤ w → left b e v + n ≤ left b e w
lighter b e w v n least less =
    let some = power-some b e least in
    let one = spread (power b e) v n some in
    let two = times-more (power b e) ((v + n) + 1) (w + 1) (omega arith) in
    omega arith

-- the exponent falls, and the weight rises
pub lower : (b d e w v n : ℕ) → 1 ≤ b → d + 1 ≤ e → (v + 1) + n ≤ b * (w + 1) → left b d v + n ≤ left b e w
lower b d e w v n least less few =
    let some = power-some b d least in
    let one = spread (power b d) v n some in
    let two = times-more (power b d) ((v + n) + 1) (b * (w + 1)) (omega arith) in
    let three : power b d * (b * (w + 1)) ≡ (b * power b d) * (w + 1) = turn (power b d) b (w + 1) in
    let four = power-above b (suc d) e least (omega arith) in
    let five = times-less (power b (suc d)) (power b e) (w + 1) four in
    omega arith
  where
    turn : (p b x : ℕ) → p * (b * x) ≡ (b * p) * x
    turn p b x = grind arith

-- neither rises
pub no-more : (b d e v w : ℕ) → 1 ≤ b → d ≤ e → v ≤ w → left b d v ≤ left b e w
no-more b d e v w least less few =
    let one = power-above b d e least less in
    let two = times-less (power b d) (power b e) (v + 1) one in
    let three = times-more (power b e) (v + 1) (w + 1) (omega arith) in
    omega arith

-- a weight of so many items is small beside the growth that is stated
pub jump : (few a v w n : ℕ) → v ≤ (5 * few + 8) * a → a ≤ (few + 2) * (w + 1) → n ≤ 2 → (v + 1) + n ≤ growth few * (w + 1)
jump few a v w n one two small =
    let three = times-more (5 * few + 8) a ((few + 2) * (w + 1)) two in
    let four : (5 * few + 8) * ((few + 2) * (w + 1)) ≡ ((few + 2) * (5 * few + 8)) * (w + 1) = turn (5 * few + 8) (few + 2) (w + 1) in
    let five : growth few * (w + 1) ≡ ((few + 2) * (5 * few + 8)) * (w + 1) + 3 * (w + 1) = apart ((few + 2) * (5 * few + 8)) (w + 1) in
    omega arith
  where
    turn : (a b x : ℕ) → a * (b * x) ≡ (b * a) * x
    turn a b x = grind arith

    apart : (a x : ℕ) → (a + 3) * x ≡ a * x + 3 * x
    apart a x = grind arith

pub growth-some : (few : ℕ) → 1 ≤ growth few
growth-some few = omega arith

-- twice as many and some more are few beside that
pub twice-few : (few w a : ℕ) → a ≤ 2 * w + few → a ≤ (few + 2) * (w + 1)
twice-few few w a less =
    let one = times-less 2 (few + 2) w (omega arith) in
    let two : (few + 2) * (w + 1) ≡ (few + 2) * w + (few + 2) = grind arith in
    omega arith

pub left-some : (b e w : ℕ) → 1 ≤ b → 1 ≤ left b e w
left-some b e w some =
    let one = power-some b e some in
    let two = times-more (power b e) 1 (w + 1) (omega arith) in
    omega arith
