-- What holds behind each event that was taken holds at the end of a schedule that is played by the rules of a world.
use Rattle.std.proofs.Common.{◌≡◌, ◌<◌, ◌≤◌, ℕ, ◌+◌, List, [], ◌∷◌, arith, zero, suc, Option, Some, None, subst}
use Rattle.nq_base.specs.declared.Event.{Event}
use Rattle.nq_replay.proofs.Keeping.{Ends, Keeps, ends-packet, ends-then, keeps-repeated}
use Rattle.nq_replay.specs.AsidesPlaying.{Ended, Played, at_line, ran, refused, took}
use Rattle.nq_replay.specs.Playing.{beginning}
use Rattle.nq_replay.specs.Rules.{Rules, play_flow, play_lines, play_plain, play_plainly, play_round, play_ticks}
use Rattle.nq_replay.specs.Text.{mixed}
use Rattle.nq_replay.specs.Texts.{IsTellable}
use Rattle.nq_script.specs.Lines.{SpellsLine}
use Rattle.nq_script.specs.Schedule.{SpellsLines}
use Rattle.nq_script.specs.declared.heads.Head.{Head}
use Rattle.nq_script.specs.declared.lines.Line.{Line}

module _ {E A S : Type 0} (rules : Rules E A S) (head : Head) (P : S → Type 0)
    (keeps : (event : Event) → IsTellable head event → Keeps P (play_plainly rules (beginning head) event))
    (keeps_aside : (aside : A) → Keeps P (rules.aside (beginning head) aside)) where
  keeps-ticks : (host count : ℕ) → host + count ≤ head.hosts → Keeps P (play_ticks rules (beginning head) host count)
  keeps-ticks host zero less moment here = here
  keeps-ticks host (suc count) less moment here =
      let there : host < head.hosts = omega arith in
      ends-then P (play_plainly rules (beginning head) (Event.ClientTick host) moment) (play_ticks rules (beginning head) (host + 1) count)
      (keeps (Event.ClientTick host) (there, tt) moment here) (keeps-ticks (host + 1) count (omega arith))

  keeps-round : Keeps P (play_round rules (beginning head))
  unfolding play_round
  keeps-round moment here =
      ends-then P (play_ticks rules (beginning head) 0 head.hosts moment) (play_plainly rules (beginning head) Event.ServerTick)
      (keeps-ticks 0 head.hosts (omega arith) moment here) (keeps Event.ServerTick (tt, tt))

  keeps-flow : (most : ℕ) → Keeps P (play_flow rules (beginning head) most)
  keeps-flow zero moment here = tt
  keeps-flow (suc most) moment here =
      ends-packet P _ moment _ here (λ k. ends-then P (play_plainly rules (beginning head) (Event.Deliver k) moment)
      (λ m. play_flow rules (beginning head) most m) (keeps (Event.Deliver k) (tt, tt) moment here) (keeps-flow most))

  keeps-line : (most : ℕ) (line : Line) (text : List ℕ) → SpellsLine head line text → Keeps P (play_plain rules (beginning head) most line)
  keeps-line most (Line.Events event times) text spelled =
      keeps-repeated P times (play_plainly rules (beginning head) event) (keeps event (spelled.0, spelled.1.0))
  keeps-line most (Line.Round times) text spelled = keeps-repeated P times (play_round rules (beginning head)) keeps-round
  keeps-line most Line.Flow text spelled = keeps-flow most
  keeps-line most Line.End text spelled = λ moment so. so

  ran-on : (line : ℕ) (played : Played S) (next : S → Ended S) (moment : S)
      → Ends P played → ((m : S) → P m → next m ≡ ran moment → P moment) → at_line line played next ≡ ran moment → P moment
  ran-on line (took m) next moment so on is = on m so is
  ran-on line (refused answer) next moment so on is = absurd (cc)

  pub keeps-lines : (most number : ℕ) (asides : List (Option A)) (lines : List Line) (texts : List (List ℕ)) (earlier moment : S)
      → SpellsLines head lines texts → P earlier → play_lines rules (beginning head) most number (mixed asides lines) earlier ≡ ran moment → P moment
  keeps-lines most number asides [] texts earlier moment spelled so is = let same : earlier ≡ moment = cc in subst P same so
  keeps-lines most number asides (line ∷ lines) [] earlier moment spelled so is = absurd spelled
  keeps-lines most number [] (line ∷ lines) (text ∷ texts) earlier moment spelled so is =
      ran-on number (play_plain rules (beginning head) most line earlier) (play_lines rules (beginning head) most (number + 1) (mixed [] lines)) moment
      (keeps-line most line text spelled.1 earlier so)
      (λ m here on. keeps-lines most (number + 1) [] lines texts m moment spelled.2 here on) is
  keeps-lines most number (None ∷ asides) (line ∷ lines) (text ∷ texts) earlier moment spelled so is =
      ran-on number (play_plain rules (beginning head) most line earlier) (play_lines rules (beginning head) most (number + 1) (mixed asides lines))
      moment (keeps-line most line text spelled.1 earlier so)
      (λ m here on. keeps-lines most (number + 1) asides lines texts m moment spelled.2 here on) is
  keeps-lines most number (Some aside ∷ asides) (line ∷ lines) (text ∷ texts) earlier moment spelled so is =
      ran-on number (rules.aside (beginning head) aside earlier) (play_lines rules (beginning head) most (number + 1)
      (mixed asides lines)) moment (keeps_aside aside earlier so)
      (λ m here on. keeps-lines most (number + 1) asides lines texts m moment spelled.2 here on) is
