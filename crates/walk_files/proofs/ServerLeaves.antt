-- What a server's step leaves alone: where a writing row stands, nobody else reads, writes or stores on its file.
use Rattle.std.proofs.Common.{◌≡◌, ℕ, ◌==◌, Bool, true, false, not, List, Option, Some, None, refl, sym, subst, ap, ◌∙◌}
use Rattle.std.specs.List.{find}
use Rattle.std.proofs.lemmas.Bool.{and_parts}
use Rattle.nq_base.specs.declared.Access.{Access}
use Rattle.nq_base.specs.declared.Grant.{Grant}
use Rattle.nq_base.specs.declared.Mode.{Mode}
use Rattle.nq_base.specs.declared.PushBase.{PushBase}
use Rattle.nq_base.specs.declared.Request.{Request}
use Rattle.nq_base.specs.declared.Row.{Row}
use Rattle.nq_base.specs.declared.Want.{Want}
use Rattle.nq_base.specs.declared.Who.{Who}
use Rattle.walk_steps.proofs.ClientMoves.{none-some, some-same}
use Rattle.nq_model.specs.protocol.Ask.{conflicts, mode_conflicts}
use Rattle.nq_model.specs.protocol.Decide.{Decision, decides, creates, writes_through, stores, stores_recovering, resizes, removes, puts_off, commits}
use Rattle.nq_model.specs.laws.Journal.{Each}
use Rattle.nq_model.specs.protocol.Kept.{File, find_file, host_row}
use Rattle.nq_model.specs.protocol.Message.{Datagram, request, asker, sequence_of}
use Rattle.nq_model.specs.protocol.Server.{serving, Server, ServerStep, standing, standing_in, quiet, drops, says, keeping_with}
use Rattle.nq_model.specs.protocol.ServerStep.{attaches, vacates, tells_later, serves, leases, access_of, grants, receive, tick, at_time, opens, ends_writing}
use Rattle.nq_model.specs.protocol.ServerStep.{end_reading, is_over, is_due, crash}
use Rattle.nq_model.specs.protocol.Table.{Table, is_writing, caches, find_row, drop_row, with_rows}
use Rattle.walk_steps.proofs.ServerFacts.{IncsFit, IncsFitOf}
use Rattle.walk_steps.proofs.ServerTables.{StandingFits, StandingFitsOf}
use Rattle.walk_steps.proofs.Modes.{writing-caches}
use Rattle.walk_steps.proofs.Incarnations.{one-who}
use Rattle.walk_steps.proofs.RowChanges.{found-kept, found-any, find-row-dropped, no-clash, unique-filtered, HasUniqueKeys}
use Rattle.walk_steps.proofs.Rows.{same-number, number-same, find-passes, found-row}
use Rattle.walk_steps.proofs.ServerCases.{server-hears, server-ticks}
use Rattle.walk_steps.proofs.ServerOutcomes.{IsFresh, IsCurrent, IsAsking, IsChanging, clash_with, file_changed_by, base_in}
use Rattle.walk_steps.proofs.TableFits.{TableFits}
use Rattle.nq_model.specs.laws.Undisturbed.{LeavesAlone}

-- a writing row of an incarnation stands
pub record HasWriting (table : Table) (who : Who) (file : ℕ) : Type 0 where
  pub row : Row
  pub stands : find_row file who.host table.rows ≡ Some row
  pub holder : row.who ≡ who
  pub writes : is_writing row.mode ≡ true

-- ---- rows that are in nobody's way

writing-conflicts : (access : Access) (mode : Mode) → is_writing mode ≡ true → mode_conflicts access mode ≡ true
writing-conflicts Access.Read mode w = w
writing-conflicts Access.Write Mode.Writing w = refl
writing-conflicts Access.Write Mode.Reading w = cc
writing-conflicts Access.Write Mode.NonCaching w = cc

-- where no row conflicts with a host the writing row is its own
pub own-row : (file host h : ℕ) (access : Access) (rows : List Row) (row : Row) → find (conflicts file host access) rows ≡ None
    → find_row file h rows ≡ Some row → is_writing row.mode ≡ true → h ≡ host
own-row file host h access rows row none found w = case (h == host) refl
  where
    case : (b : Bool) → (h == host) ≡ b → h ≡ host
    case true e = same-number _ _ e
    case false e =
        let free : mode_conflicts access row.mode ≡ false = no-clash file host access h rows row none found
        (λ same. let yes : (h == host) ≡ true = number-same _ _ same in absurd (cc)) in
        let bars : mode_conflicts access row.mode ≡ true = writing-conflicts access row.mode w in
        absurd (cc)

none-caches : {Goal : Type 0} (mode : Mode) → is_writing mode ≡ true → caches mode ≡ false → Goal
none-caches Mode.Writing w c = absurd (cc)
none-caches Mode.Reading w c = absurd (cc)
none-caches Mode.NonCaching w c = absurd (cc)

-- a row of an incarnation that lets it read stands
pub record HasCaching (table : Table) (who : Who) (file : ℕ) : Type 0 where
  pub row : Row
  pub stands : find_row file who.host table.rows ≡ Some row
  pub holder : row.who ≡ who
  pub caching : caches row.mode ≡ true

-- whoever has a caching row beside a writing one is its holder
pub one-holder : (files : List File) (table : Table) → TableFits files table.boot table.drawn table.rows → (file : ℕ) (who other : Who)
    → HasWriting table who file → HasCaching table other file → other ≡ who
one-holder files table fits file who other h k = case (other.host == who.host) refl
  where
    case : (b : Bool) → (other.host == who.host) ≡ b → other ≡ who
    case true e =
        let same : other.host ≡ who.host = same-number _ _ e in
        let one : h.row ≡ k.row = some-same h.row k.row (sym h.stands ∙ ap (λ n. find_row file n table.rows) (sym same) ∙ k.stands) in
        sym k.holder ∙ ap (λ r. r.who) (sym one) ∙ h.holder
    case false e =
        let free : caches k.row.mode ≡ false = fits.alone file who.host other.host h.row k.row h.stands k.stands
        (λ same. let yes : (other.host == who.host) ≡ true = number-same _ _ same in absurd (cc)) h.writes in
        let bars = k.caching in
        absurd (cc)

module _ (s : Server) (sender next : ℕ) (d : Datagram) (who : Who) (file : ℕ) (stood : StandingFitsOf s) (incs : IncsFitOf s)
    (has : HasWriting (standing s) who file) where
  served-table : s.phase ≡ serving → TableFits s.kept.files s.table.boot s.table.drawn s.table.rows
  served-table p = subst (λ p. StandingFits s.kept.files p s.table) p stood

  has-served : s.phase ≡ serving → HasWriting s.table who file
  has-served p = subst (λ p. HasWriting (standing_in p s.table) who file) p has

  -- one who is current and in whose way the row is not is its holder
  holder-is : (other : Who) (access : Access) → s.phase ≡ serving → IsCurrent s sender other
      → find (conflicts file other.host access) s.table.rows ≡ None → other ≡ who
  holder-is other access p current none =
      let h = has-served p in
      let host : who.host ≡ other.host = own-row file other.host who.host access s.table.rows h.row none h.stands h.writes in
      let kept : h.row.who.inc ≡ (host_row s.kept who.host).inc = (subst (λ q. IncsFit s.kept q s.table) p incs) file who.host h.row h.stands in
      one-who other who (sym host) (current.inc ∙ ap (λ n. (host_row s.kept n).inc) (sym host) ∙ sym kept ∙ ap (λ w. w.inc) h.holder)

  -- one whose writing row stands on the file is its holder
  writer-is : (table : Table) (fits : TableFits s.kept.files table.boot table.drawn table.rows) (other : Who) → HasWriting table who file
      → HasWriting table other file → other ≡ who
  writer-is table fits other h k =
      one-holder s.kept.files table fits file who other h
      (record { row = k.row; stands = k.stands; holder = k.holder; caching = writing-caches k.row.mode k.writes })

  abbrev LeftAlone : ServerStep → Type 0
  LeftAlone t = Each (LeavesAlone who file) t.entries

  grants-alone : (other : Who) (f : ℕ) (g : Option Grant) → Each (LeavesAlone who file) (grants s other f g)
  grants-alone other f None = tt
  grants-alone other f (Some g) = (tt, tt)

  serves-alone : (other : Who) (xid q block : ℕ) (f : File) (body : List ℕ) (table : Table) (g : Option Grant) → (f.id ≡ file → other ≡ who)
      → LeftAlone (serves s other xid next q f block body table g)
  unfolding serves
  serves-alone other xid q block f body table g own = (own, grants-alone other f.id g)

  leases-alone : (other : Who) (xid f : ℕ) (table : Table) (g : Option Grant) → LeftAlone (leases s other xid f table g)
  unfolding leases
  leases-alone other xid f table g = grants-alone other f g

  reader-is : (other : Who) (f : File) (want : Option Want) → IsAsking s sender other f
      → find (conflicts f.id other.host (access_of want)) s.table.rows ≡ None → f.id ≡ file → other ≡ who
  reader-is other f want asking none same =
      holder-is other (access_of want) asking.serves asking.current
      (subst (λ n. find (conflicts n other.host (access_of want)) s.table.rows ≡ None) same none)

  commits-alone : (other : Who) (seq xid : ℕ) (r : Request) (c : Decision) → Each (LeavesAlone who file) c.entries → LeftAlone (commits other seq xid r c)
  unfolding commits
  commits-alone other seq xid r c h = h

  -- what the holder asks for himself changes the file in no other way, and who pushes in a recovery has his row
  pub record AsksNothing : Type 0 where
    pub own : (xid : ℕ) (r : Request) (seq : ℕ) → d ≡ request xid r → asker r ≡ Some who → sequence_of r ≡ Some seq → IsFresh s sender who seq
        → file_changed_by r ≡ Some file → base_in r ≡ None → ⊥
    pub pushers : (xid : ℕ) (other : Who) (seq block first final : ℕ) (base : PushBase) (body : List ℕ) (f : File)
        → d ≡ request xid (Request.Write other seq file block first final (Some base) body) → IsFresh s sender other seq
        → find_file file s.kept.files ≡ Some f → base.boot ≡ s.kept.opened → base.base ≡ f.rev → HasWriting (standing s) other file

  changer-is : (asks : AsksNothing) (xid : ℕ) (other : Who) (seq : ℕ) (r : Request) (f : File) → d ≡ request xid r → asker r ≡ Some other
      → sequence_of r ≡ Some seq → file_changed_by r ≡ Some f.id → base_in r ≡ None → IsChanging s sender other seq f
      → clash_with s f.id other.host ≡ None → f.id ≡ file → ⊥
  changer-is asks xid other seq r f e by sq changes base changing free same =
      let one : other ≡ who = holder-is other Access.Write changing.serves changing.fresh.current
      (subst (λ n. find (conflicts n other.host Access.Write) s.table.rows ≡ None) same free) in
      asks.own xid r seq e (by ∙ ap Some one) sq (subst (λ w. IsFresh s sender w seq) one changing.fresh) (changes ∙ ap Some same) base

  pub receive-alone : AsksNothing → LeftAlone (receive s sender next d)
  unfolding quiet drops says attaches vacates tells_later decides creates writes_through stores stores_recovering resizes removes puts_off
  receive-alone asks = server-hears s sender next d LeftAlone (record {
    stays = tt;
    dropping = λ reason. tt;
    erring = λ m e. tt;
    answers_null = λ xid e. tt;
    replying = λ xid other r reply e by from plain. tt;
    attaching = λ xid other e from above. tt;
    vacating = λ xid other f tag e current. tt;
    putting_off = λ xid other r f clash e by of asking c. tt;
    putting_off_waiting = λ xid other r f clash want e by of w asking c own room. tt;
    putting_off_by_own = λ xid other r f want own e by of w asking c o evicting. tt;
    reading = λ xid other q block f body e asking there c. serves-alone other xid q block f body s.table None (reader-is other f None asking c);
    reading_full =
        λ xid other q block want f body e asking there c own room. serves-alone other xid q block f body s.table None
        (reader-is other f (Some want) asking c);
    reading_granted =
        λ xid other q block want f body row term e asking there c g. serves-alone other xid q block f body _ _ (reader-is other f (Some want) asking c);
    leasing_full = λ xid other want f e asking c own room. leases-alone other xid f.id s.table None;
    leasing = λ xid other want f row term e asking c g. leases-alone other xid f.id _ _;
    declining = λ xid other seq r verdict e by sq fresh declined. commits-alone other seq xid r (decides s verdict) tt;
    putting_off_change = λ xid other seq r f clash e by sq changes base changing c. commits-alone other seq xid r _ tt;
    creating = λ xid other seq blocks name e fresh serves can. commits-alone other seq xid _ (creates s name blocks) tt;
    writing_through =
        λ xid other seq block first last body f e changing below free. commits-alone other seq xid _ (writes_through s other f block first body)
        ((λ same. absurd (changer-is asks xid other seq _ f e refl refl refl refl changing free same)), tt);
    storing =
        λ xid other seq block first last base body f row e changing below can. commits-alone other seq xid _ (stores s other f row block first last body) (
          (λ same. writer-is s.table (served-table changing.serves) other (has-served changing.serves) (record {
            row = row;
            stands = subst (λ n. find_row n other.host s.table.rows ≡ Some row) same can.row_found;
            holder = one-who row.who other (found-row f.id other.host s.table.rows row can.row_found).1 can.inc;
            writes = can.writes;
          })),
          tt,
        );
    storing_recovering =
        λ xid other seq block first final base body f until heard last e fresh p found below boot rev. commits-alone other seq xid _
        (stores_recovering s until last other f block first final body) (
          (λ same. writer-is (standing s) stood other has
              (asks.pushers xid other seq block first final base body f
              (subst (λ n. d ≡ request xid (Request.Write other seq n block first final (Some base) body)) same e) fresh
              (subst (λ n. find_file n s.kept.files ≡ Some f) same found) boot rev)),
          tt,
        );
    resizing =
        λ xid other seq q blocks f e changing can free. commits-alone other seq xid _ (resizes s other q f blocks)
        ((λ same. changer-is asks xid other seq _ f e refl refl refl refl changing free same), tt);
    removing =
        λ xid other seq q f e changing free. commits-alone other seq xid _ (removes s other q f)
        ((λ same. changer-is asks xid other seq _ f e refl refl refl refl changing free same), tt);
  })

  ended : (now : ℕ) (due : Row) → s.phase ≡ serving → find (is_due now) (end_reading now s.table.rows) ≡ Some due
      → HasWriting (standing (ends_writing (at_time s now) (end_reading now s.table.rows) due).server) who file → due.file ≡ file → ⊥
  unfolding ends_writing at_time keeping_with with_rows
  ended now due p ends after at = case (due.who.host == who.host) refl
    where
      table : TableFits s.kept.files s.table.boot s.table.drawn s.table.rows
      table = served-table p

      unique : HasUniqueKeys (end_reading now s.table.rows)
      unique = unique-filtered (λ r. not (is_over now r)) s.table.rows table.unique

      found : find_row due.file due.who.host s.table.rows ≡ Some due
      found =
          (found-kept (λ r. not (is_over now r)) due.file due.who.host s.table.rows due table.unique
          (found-any (is_due now) (end_reading now s.table.rows) due unique ends)).0

      writes : is_writing due.mode ≡ true
      writes = (and_parts _ _ (find-passes (is_due now) due (end_reading now s.table.rows) ends)).0

      stands : find_row file who.host (drop_row due.file due.who.host (end_reading now s.table.rows)) ≡ Some after.row
      stands =
          subst (λ q. find_row file who.host
          (standing_in q (with_rows s.table (drop_row due.file due.who.host (end_reading now s.table.rows)))).rows ≡ Some after.row) p after.stands

      case : (b : Bool) → (due.who.host == who.host) ≡ b → ⊥
      case true e =
          let host : due.who.host ≡ who.host = same-number _ _ e in
          let gone : find_row file who.host (drop_row due.file due.who.host (end_reading now s.table.rows)) ≡ None = subst
          (λ n. find_row n who.host (drop_row due.file due.who.host (end_reading now s.table.rows)) ≡ None) at
          (subst (λ n. find_row due.file n (drop_row due.file due.who.host (end_reading now s.table.rows)) ≡ None) host
          (find-row-dropped due.file due.who.host (end_reading now s.table.rows))) in
          none-some after.row (sym gone ∙ stands)
      case false e =
          let h = has-served p in
          let here : find_row file due.who.host s.table.rows ≡ Some due = subst (λ n. find_row n due.who.host s.table.rows ≡ Some due) at found in
          let free = table.alone file who.host due.who.host h.row due h.stands here
          (λ same. let yes : (due.who.host == who.host) ≡ true = number-same _ _ same in absurd (cc)) h.writes in
          none-caches due.mode writes free

  -- a tick of the server's clock, after which the row stands still
  pub tick-alone : (now : ℕ) → HasWriting (standing (tick s now).server) who file → LeftAlone (tick s now)
  unfolding quiet opens ends_writing at_time
  tick-alone now = server-ticks s now (λ t. HasWriting (standing t.server) who file → LeftAlone t) (record {
    waits = λ until heard last p goes_on after. tt;
    opening = λ until heard last p over after. (tt, tt);
    ends_reading = λ p none after. tt;
    ending_writing = λ due p ends after. ((λ same. ended now due p ends after same), tt);
  })

  -- a crash
  pub crash-alone : (longest : ℕ) → LeftAlone (crash s longest)
  unfolding crash
  crash-alone longest = (tt, tt)
